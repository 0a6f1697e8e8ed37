-- REC, TEC, bus off and its groups: how each rule moves them (01, Bus events). Said here anew, so that a promise by
-- these rules pins those that the device counts by.
use Rattle.std.specs.Prelude.{Bool, true, false, ◌&&◌, ℕ, ◌+◌, ◌-◌, min, eqb, ltb}
use Rattle.base.specs.Pick.{pick}
use Rattle.counters.specs.declared.Counters.{Counters}
use Rattle.promise.specs.Settings.{normal, monitor}

-- ---- the same counters, but for one of them

abbrev pub rec_to : Counters → ℕ → Counters
rec_to c n = record { rec = n; tec = c.tec; busoff = c.busoff; groups = c.groups }

abbrev pub tec_to : Counters → ℕ → Counters
tec_to c n = record { rec = c.rec; tec = n; busoff = c.busoff; groups = c.groups }

abbrev pub groups_to : Counters → ℕ → Counters
groups_to c n = record { rec = c.rec; tec = c.tec; busoff = c.busoff; groups = n }

-- ---- how they move

-- at power-up, and after bus off: "both counters at 0"
abbrev pub at_zero : Counters
at_zero = record { rec = 0; tec = 0; busoff = false; groups = 0 }

-- "Receive error: REC + 1. Dominant after our flag: REC + 8. REC stops at 255."
abbrev pub rec_up : Counters → ℕ → Counters
rec_up c n = rec_to c (min (c.rec + n) 255)

-- "Good frame in normal mode, answered Queued, A4 …: REC - 1, not below 0; from 128 up it becomes 119"
abbrev pub rec_down : Counters → Counters
rec_down c = rec_to c (pick (ltb c.rec 128) (c.rec - 1) 119)

abbrev pub frame_heard : Counters → ℕ → Counters
frame_heard c acting = pick (eqb acting normal) (rec_down c) c

-- "Then TEC stands still, test writes included, and reads 255"
abbrev pub tec_moved : Counters → Counters → Counters
tec_moved c after = pick c.busoff c after

-- "Counted transmit error: TEC + 8." "TEC above 255 is bus off."
abbrev pub tec_up : Counters → Counters
tec_up c =
    tec_moved c
    (pick (ltb 255 (c.tec + 8))
    (record { rec = c.rec; tec = 255; busoff = true; groups = 0 })
    (tec_to c (c.tec + 8)))

-- "Completed: TEC - 1, not below 0."
abbrev pub tec_down : Counters → Counters
tec_down c = tec_moved c (tec_to c (c.tec - 1))

-- "Monitor mode moves neither."
abbrev pub unless_monitor : ℕ → Counters → Counters → Counters
unless_monitor acting c after = pick (eqb acting monitor) c after

-- "The 128th group of eleven recessive bits ends bus off, both counters at 0, under 000's rule for automatic recovery";
-- "the groups met in this bus off, at most 128". Set late, BOR ends it at the next group.
abbrev pub group_met : Counters → Bool → Counters
group_met c bor =
    let groups = min (c.groups + 1) 128 in
    pick c.busoff (pick (eqb groups 128 && bor) at_zero (groups_to c groups)) c

-- 0x24 and 0x26
abbrev pub rec_written : Counters → ℕ → Counters
rec_written c value = rec_to c value

abbrev pub tec_written : Counters → ℕ → Counters
tec_written c value = tec_moved c (tec_to c value)
