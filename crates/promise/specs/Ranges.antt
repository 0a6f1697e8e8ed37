-- 1: "the state handed in has a count, place or field outside its range" (01, Numbers given back; docs/DECISIONS.md,
-- 41).
use Rattle.std.specs.Prelude.{Bool, true, false, ◌&&◌, [], ◌∷◌, ℕ, eqb, leb, ltb}
use Rattle.base.specs.Pick.{pick, among}
use Rattle.fifo.specs.declared.Fifo.{Fifo}
use Rattle.chip.specs.declared.Device.{Device}
use Rattle.chip.specs.State.{idle, first_in_fifo, alone}
use Rattle.promise.specs.Settings.{sleep, initialization, mode_named}

-- eight places, and at most eight messages
abbrev pub queue_fits : Fifo → Bool
queue_fits q = ltb q.first 8 && leb q.count 8

-- none runs, or the first of those that wait, or one that 0x54 left alone
abbrev pub runs_fit : ℕ → ℕ → Bool
runs_fit sending to_send = among sending ((idle, true) ∷ (first_in_fifo, leb 1 to_send) ∷ (alone, true) ∷ []) false

-- the mode that MODE names, or any of the five while it names sleep
abbrev pub acts_fit : ℕ → ℕ → Bool
acts_fit acting ctrl0 = pick (eqb (mode_named ctrl0) sleep) (leb acting initialization) (eqb acting (mode_named ctrl0))

-- ERR has five bits of its own, MTAG two. Every other field may hold what its type can, and so may a message's bytes.
unfoldable pub device_in_range : Device → Bool
device_in_range d =
    queue_fits d.rx &&
    (queue_fits d.tx &&
    (queue_fits d.history &&
    (leb d.regs.errs 0b11111 &&
    (leb d.regs.mtag 0b11 &&
    (leb d.counters.groups 128 &&
    (runs_fit d.sending d.tx.count &&
    acts_fit d.acting d.regs.ctrl0))))))
