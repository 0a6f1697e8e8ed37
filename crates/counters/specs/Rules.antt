-- REC, TEC, bus off and its groups: how each moves (01, Bus events). "The pair of counters is one small record that
-- both the transmit and receive rules change."
use Rattle.std.specs.Prelude.{Bool, true, false, ◌&&◌, ℕ, ◌+◌, ◌-◌, min, ltb, eqb}
use Rattle.base.specs.Pick.{pick}
use Rattle.counters.specs.declared.Counters.{Counters}

abbrev pub with_rec : Counters → ℕ → Counters
with_rec c v = record { rec = v; tec = c.tec; busoff = c.busoff; groups = c.groups }

abbrev pub with_tec : Counters → ℕ → Counters
with_tec c v = record { rec = c.rec; tec = v; busoff = c.busoff; groups = c.groups }

abbrev pub with_groups : Counters → ℕ → Counters
with_groups c v = record { rec = c.rec; tec = c.tec; busoff = c.busoff; groups = v }

-- power-up, and what the end of bus off leaves
abbrev pub zeroed : Counters
zeroed = record { rec = 0; tec = 0; busoff = false; groups = 0 }

-- "Receive error: REC + 1." "REC stops at 255."
unfoldable pub receive_error : Counters → Counters
receive_error c = with_rec c (min (c.rec + 1) 255)

-- "Dominant after our flag: REC + 8."
unfoldable pub dominant_bit : Counters → Counters
dominant_bit c = with_rec c (min (c.rec + 8) 255)

-- "Good frame …: REC - 1, not below 0; from 128 up it becomes 119"
unfoldable pub good_frame : Counters → Counters
good_frame c = with_rec c (pick (ltb c.rec 128) (c.rec - 1) 119)

-- "TEC above 255 is bus off. Then TEC stands still, … and reads 255"; no group is met yet
abbrev pub into_bus_off : Counters → Counters
into_bus_off c = record { rec = c.rec; tec = 255; busoff = true; groups = 0 }

-- "Counted transmit error: TEC + 8."
unfoldable pub transmit_error : Counters → Counters
transmit_error c =
    pick c.busoff c
    (pick (ltb 255 (c.tec + 8)) (into_bus_off c) (with_tec c (c.tec + 8)))

-- "Completed: TEC - 1, not below 0."
unfoldable pub completed : Counters → Counters
completed c = pick c.busoff c (with_tec c (c.tec - 1))

-- "at most 128": a group more
abbrev pub groups_after : Counters → ℕ
groups_after c = min (c.groups + 1) 128

-- "The 128th group of eleven recessive bits ends bus off, both counters at 0, under 000's rule for automatic recovery."
-- Set late, BOR ends it at the next group; outside bus off nothing changes.
unfoldable pub eleven_recessive : Counters → Bool → Counters
eleven_recessive c bor =
    pick c.busoff
    (pick (eqb (groups_after c) 128 && bor) zeroed (with_groups c (groups_after c)))
    c

-- 0x24, a test write: in every mode
unfoldable pub test_rec : Counters → ℕ → Counters
test_rec c v = with_rec c v

-- 0x26, a test write: "TEC stands still, test writes included", in bus off
unfoldable pub test_tec : Counters → ℕ → Counters
test_tec c v = pick c.busoff c (with_tec c v)
