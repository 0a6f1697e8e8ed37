-- What the ranges ask of each rule's numbers. Assumes nothing.
use mathlib.Core.Path.{◌≡◌, refl}
use mathlib.Core.Bool.{Bool, true, false, not}
use Prim.Native.Nat.{ℕ, ◌<◌, ◌≤◌, ◌+◌, ◌%◌, ◌/◌, ◌^◌}
use native.Mathlib.Omega.{arith}
use borrow.Author.Tests.{lt-ltb, le-leb, ltb-true, leb-true, eqb-true, eqb-false, eq-eqb, not-true}
use lib.Bits.{bit_or, or_lt}
use lib.Dec.{eqb, leb, ltb}
use Rattle.base.specs.Pick.{pick}
use Rattle.counters.specs.declared.Counters.{Counters}
use Rattle.fifo.specs.declared.Fifo.{Fifo}
use Rattle.fifo.specs.declared.Message.{Message}
use Rattle.fifo.specs.Queue.{full, put}
use Rattle.chip.specs.Proper.{sending_fits, acting_fits}
use Rattle.chip.specs.State.{mode_of, sleep, monitor, initialization, idle, alone}
use Rattle.events.specs.declared.ErrorKind.{ErrorKind}
use Rattle.events.specs.declared.ErrorKind.TheVariants.{Stuff, Ack, Crc, Form, Bit}
use Rattle.changed.specs.Changed.{err_bit}

abbrev pub Grouped : Counters → Type 0
Grouped c = leb c.groups 128 ≡ true

-- a running message stays in a FIFO that grows
pub grows : (t : Bool) (n m : ℕ) (s : Bool) → n ≤ m → pick t (leb 1 n) s ≡ true → pick t (leb 1 m) s ≡ true
grows true n m s more e = le-leb 1 m (omega (arith, leb-true 1 n e))
grows false n m s more e = e

pub put_grows : (t : Bool) (q : Fifo) (m : Message) → full q ≡ t → q.count ≤ (put q m).count
unfolding put
put_grows true q m e = rw e (omega arith)
put_grows false q m e = rw e (omega arith)

-- no message, or one that runs alone, asks nothing of the FIFO
pub left_fits : (t : Bool) (waiting : ℕ) → sending_fits (pick t idle alone) waiting ≡ true
left_fits true waiting = refl
left_fits false waiting = refl

mode_le : (t : Bool) (ctrl0 : ℕ) → ltb ctrl0 128 ≡ t → pick t (ctrl0 / 32) initialization ≤ initialization
mode_le true ctrl0 e = omega (arith, ltb-true ctrl0 128 e)
mode_le false ctrl0 e = omega arith

acting_cases : (t : Bool) (acting ctrl0 : ℕ) → pick t (leb acting initialization) (eqb acting (mode_of ctrl0)) ≡ true → leb acting initialization ≡ true
unfolding mode_of
acting_cases true acting ctrl0 e = e
acting_cases false acting ctrl0 e =
    rw (eqb-true acting (mode_of ctrl0) e) (le-leb (mode_of ctrl0) initialization (mode_le (ltb ctrl0 128) ctrl0 refl))

pub acting_le : (acting ctrl0 : ℕ) → acting_fits acting ctrl0 ≡ true → leb acting initialization ≡ true
acting_le acting ctrl0 e = acting_cases (eqb (mode_of ctrl0) sleep) acting ctrl0 e

-- the acting mode is the one that MODE names
pub named_fits : (acting ctrl0 : ℕ) → eqb (mode_of ctrl0) sleep ≡ false → acting ≡ mode_of ctrl0 → acting_fits acting ctrl0 ≡ true
named_fits acting ctrl0 wakes same = rw wakes (eq-eqb acting (mode_of ctrl0) same)

-- MODE after a wake-up
pub woken : (ctrl0 : ℕ) → mode_of (ctrl0 % 32 + 64) ≡ monitor
unfolding mode_of
woken ctrl0 = rw (lt-ltb (ctrl0 % 32 + 64) 128 (omega arith)) (omega arith)

kind_below : (kind : ErrorKind) → err_bit kind < 32
unfolding err_bit
kind_below Stuff = omega arith
kind_below Ack = omega arith
kind_below Crc = omega arith
kind_below Form = omega arith
kind_below Bit = omega arith

pub errs_more : (errs : ℕ) (kind : ErrorKind) → leb errs 31 ≡ true → leb (bit_or errs (err_bit kind)) 31 ≡ true
errs_more errs kind e =
    let below = leb-true errs 31 e in
    let more : bit_or errs (err_bit kind) < 2 ^ 5 = or_lt 5 errs (err_bit kind) (omega arith) (kind_below kind) in
    le-leb (bit_or errs (err_bit kind)) 31 (omega arith)

pub tag_fits : (tag : ℕ) → leb (tag % 4) 3 ≡ true
tag_fits tag = le-leb (tag % 4) 3 (omega arith)

pub some_wait : (n : ℕ) → not (eqb n 0) ≡ true → leb 1 n ≡ true
some_wait n e =
    let some : n ≡ 0 → ⊥ = eqb-false n 0 (not-true (eqb n 0) e) in
    le-leb 1 n (omega (arith, some))
