-- What commands and pins show of the records (01, Transfers and Bus events; 000's register pages).
use Rattle.std.specs.Prelude.{Bool, not, ◌&&◌, ◌||◌, List, [], ◌∷◌, ◌++◌, map, ℕ, suc, ◌+◌, ◌-◌, ◌*◌, ◌/◌, ◌%◌, min, eqb, leb, ltb, length, get_or}
use Rattle.std.specs.Int.Bits.{bit_and}
use Rattle.base.specs.Bit.{byte, is_set}
use Rattle.base.specs.Pick.{pick, flag, among}
use Rattle.base.specs.Tabulate.{tabulate}
use Rattle.counters.specs.declared.Counters.{Counters}
use Rattle.bus.specs.declared.types.Pins.{Pins}
use Rattle.promise.specs.Commands.{filter_reads, mask_reads, numbered}
use Rattle.promise.specs.Flags.{together}
use Rattle.promise.specs.Frames.{Frame, message}
use Rattle.promise.specs.Hits.{filhit_of}
use Rattle.promise.specs.Ledger.{left, oldest}
use Rattle.promise.specs.Outbox.{rests}
use Rattle.promise.specs.Arrivals.{time}
use Rattle.promise.specs.Records.{Records}
use Rattle.promise.specs.Settings.{enables}

-- ---- levels of the counters

-- "Either counter at 96 to 127 raises ERRW; 128 up is error passive"
abbrev pub warns : ℕ → Bool
warns n = leb 96 n && leb n 127

abbrev pub passive : ℕ → Bool
passive n = leb 128 n

-- in bus off "TXERRP 0 and ERRP by REC alone": TEC stands still there and tells nothing
abbrev pub tec_says : Counters → (ℕ → Bool) → Bool
tec_says c level = not c.busoff && level c.tec

-- ---- the registers that are drawn

-- the flags that rose since it was read
unfoldable pub intf : Records → ℕ
intf r = together r.flags

-- BUSOFF, TXERRP, RXERRP, then the kinds of error
unfoldable pub err : Records → ℕ
err r =
    let c = r.counters in
    flag c.busoff * 128 + flag (tec_says c passive) * 64 + flag (passive c.rec) * 32 + together r.kinds

-- TXMTY, TXFULL, TXHISF, ERRW, ERRP, BUSOFF, RXFMTY, RXFFULL
unfoldable pub statf : Records → ℕ
statf r =
    let c = r.counters in
    let to_send = length r.outbox.queue in
    flag (eqb to_send 0) * 128 + flag (leb 8 to_send) * 64 + flag (leb 8 (length r.outbox.history)) * 32 +
    flag (warns c.rec || tec_says c warns) * 16 + flag (passive c.rec || tec_says c passive) * 8 +
    flag c.busoff * 4 +
    flag (eqb (left r.ledger) 0) * 2 + flag (leb 8 (left r.ledger))

-- TSTAT: 11 while one runs, "00: Transmission not enabled", "01: … FIFO is empty", "10: Waiting to transmit or
-- re-transmit"
abbrev pub tstat : Records → ℕ
tstat r =
    pick (rests r.outbox.running)
    (pick (enables r.settings.ctrl1 r.settings.pin) (pick (eqb (length r.outbox.queue) 0) 0b01 0b10) 0b00)
    0b11

-- FILHIT3..0 of the latest frame, MTAG1..0, TSTAT1..0
unfoldable pub messtat : Records → ℕ
messtat r = filhit_of r.latest.hits * 16 + r.outbox.mtag * 4 + tstat r

-- ---- what each command shows

-- the bytes of a message, by Table 5's numbers
abbrev pub fields : List ℕ → Frame → List ℕ
fields places f = map (byte (message f).bytes) places

abbrev pub from : ℕ → ℕ → List ℕ
from first last = tabulate (λ (k : ℕ). k) first (suc last - first)

abbrev pub replies : Records → List (ℕ × List ℕ)
replies r =
    -- the temporary buffer has bytes 2 to 16; of the receive FIFO 0x46 shows all, "0x48 shows bytes 1 and 4 to 16; 0x4A
    -- shows 1 to 3 and 9 to 16; 0x4C shows 1 and 9 to 16"
    (0x42, fields (from 2 16) r.latest) ∷
    (0x44, fields (from 4 16) r.latest) ∷
    (0x46, fields (from 1 16) (oldest r.ledger)) ∷
    (0x48, fields (1 ∷ from 4 16) (oldest r.ledger)) ∷
    (0x4A, fields (from 1 3 ++ from 9 16) (oldest r.ledger)) ∷
    (0x4C, fields (1 ∷ from 9 16) (oldest r.ledger)) ∷
    (0xD2, r.settings.ctrl0 ∷ []) ∷
    (0xD4, r.settings.ctrl1 ∷ []) ∷
    (0xD6, r.settings.btr0 ∷ []) ∷
    (0xD8, r.settings.btr1 ∷ []) ∷
    (0xDA, messtat r ∷ []) ∷
    (0xDC, err r ∷ []) ∷
    (0xDE, intf r ∷ []) ∷
    (0xE2, statf r ∷ []) ∷
    (0xE4, r.settings.inte ∷ []) ∷
    (0xE6, r.settings.statfe ∷ []) ∷
    (0xE8, r.settings.gpine ∷ []) ∷
    (0xEA, r.counters.rec ∷ []) ∷
    -- in bus off TEC "reads 255"
    (0xEC, pick r.counters.busoff 255 r.counters.tec ∷ []) ∷
    -- tag and time tag of the oldest entry
    (0xEE, get_or r.outbox.history 0 []) ∷
    -- "0xF8 shows the groups met in this bus off, at most 128, and 0 outside it"
    (0xF8, pick r.counters.busoff (min r.counters.groups 128) 0 ∷ []) ∷
    -- the time tag, its upper byte first
    (0xFA, time r / 256 ∷ time r % 256 ∷ []) ∷
    numbered 0 filter_reads (λ k. get_or r.settings.filters k []) ++
    numbered 0 mask_reads (λ k. get_or r.settings.masks k [])

-- every other command shows nothing
unfoldable pub shown : Records → ℕ → List ℕ
shown r c = among c (replies r) []

-- ---- the pins

-- two registers share a set bit
abbrev pub share : ℕ → ℕ → Bool
share a b = not (eqb (bit_and a b) 0)

-- GPINE's half picks a flag of INTF, 0000 to 0111 its bits 0 to 7, or of STATF, 1000 to 1111
abbrev pub picked : Records → ℕ → Bool
picked r half = pick (ltb half 8) (is_set half (intf r)) (is_set (half - 8) (statf r))

abbrev pub pins_shown : Records → Pins
pins_shown r = record {
  int = share (intf r) r.settings.inte;
  stat = share (statf r) r.settings.statfe;
  gp1 = picked r (r.settings.gpine % 16);
  gp2 = picked r (r.settings.gpine / 16 % 16);
}
