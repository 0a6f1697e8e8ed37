-- What the registers show of the counters (01, Bus events; 000's pages of STATF, ERR, TEC, REC).
use Rattle.std.specs.Prelude.{Bool, not, ◌&&◌, ◌||◌, ℕ, ◌+◌, ◌*◌, min, leb}
use Rattle.base.specs.Pick.{pick, flag}
use Rattle.counters.specs.declared.Counters.{Counters}

-- "Either counter at 96 to 127 raises ERRW"
abbrev pub warns : ℕ → Bool
warns n = leb 96 n && leb n 127

-- "128 up is error passive"
abbrev pub passive : ℕ → Bool
passive n = leb 128 n

-- ERR bit 5
unfoldable pub rxerrp : Counters → Bool
rxerrp c = passive c.rec

-- ERR bit 6: in bus off "TXERRP 0"
unfoldable pub txerrp : Counters → Bool
txerrp c = not c.busoff && passive c.tec

-- STATF bit 4: TEC, standing still in bus off, doesn't warn there
unfoldable pub errw : Counters → Bool
errw c = warns c.rec || (not c.busoff && warns c.tec)

-- STATF bit 3: in bus off "ERRP by REC alone"
unfoldable pub errp : Counters → Bool
errp c = rxerrp c || txerrp c

-- ERR bits 7 to 5: BUSOFF, TXERRP, RXERRP
unfoldable pub level_bits : Counters → ℕ
level_bits c = flag c.busoff * 128 + flag (txerrp c) * 64 + flag (rxerrp c) * 32

-- 0xEC: in bus off TEC "reads 255"
unfoldable pub tec_shown : Counters → ℕ
tec_shown c = pick c.busoff 255 c.tec

-- 0xF8: "the groups met in this bus off, at most 128, and 0 outside it"
unfoldable pub groups_shown : Counters → ℕ
groups_shown c = pick c.busoff (min c.groups 128) 0
