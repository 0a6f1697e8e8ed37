-- The ranges that make a device proper, part by part. Assumes nothing.
use mathlib.Core.Path.{◌≡◌, refl, sym}
use mathlib.Core.Bool.{Bool, true, false, and_assoc}
use mathlib.Core.List.{List, [], ◌∷◌}
use Prim.Native.Nat.{ℕ, zero, suc, ◌/◌, ◌<◌, ◌≤◌}
use native.Mathlib.Omega.{arith}
use borrow.Author.Tests.{lt-ltb, le-leb, lt-leb, ltb-true, ltb-false, leb-true, leb-false, ne_eqb}
use lib.Dec.{leb, ltb}
use Rattle.base.specs.Pick.{pick, among}
use Rattle.base.proofs.Booleans.{and_left, and_right, pick_under}
use Rattle.fifo.specs.declared.Fifo.{Fifo}
use Rattle.fifo.specs.declared.Message.{Message}
use Rattle.fifo.specs.Queue.{empty, full, is_empty, put, put_over, take, in_range}
use Rattle.chip.specs.declared.Device.{Device}
use Rattle.chip.specs.Proper.{registers_in_range, sending_fits, sending_in_range, acting_fits, acting_in_range, proper}
use Rattle.chip.specs.State.{mode_of, normal, loopback, monitor, sleep, initialization}
use Rattle.promise.specs.Ranges.{runs_fit, device_in_range}
use Rattle.promise.specs.Settings.{mode_named}

-- ---- the mode that CTRL0 names

abbrev modes : List (ℕ × ℕ)
modes = (0, normal) ∷ (1, loopback) ∷ (2, monitor) ∷ (3, sleep) ∷ []

few : (n : ℕ) → n < 4 → among n modes initialization ≡ n
few zero below = refl
few (suc zero) below = refl
few (suc (suc zero)) below = refl
few (suc (suc (suc zero))) below = refl
few (suc (suc (suc (suc n)))) below = absurd (omega arith)

many : (n : ℕ) → 3 < n → among n modes initialization ≡ initialization
many n above =
    rw (ne_eqb n 0 (λ e. omega arith), ne_eqb n 1 (λ e. omega arith), ne_eqb n 2 (λ e. omega arith), ne_eqb n 3 (λ e. omega arith))

named : (t : Bool) (ctrl0 : ℕ) → ltb ctrl0 128 ≡ t → pick t (ctrl0 / 32) initialization ≡ mode_named ctrl0
unfolding mode_named
named true ctrl0 low = sym (few (ctrl0 / 32) (omega (arith, ltb-true ctrl0 128 low)))
named false ctrl0 high = sym (many (ctrl0 / 32) (omega (arith, ltb-false ctrl0 128 high)))

pub mode-named : (ctrl0 : ℕ) → mode_of ctrl0 ≡ mode_named ctrl0
unfolding mode_of
mode-named ctrl0 = named (ltb ctrl0 128) ctrl0 refl

-- ---- a device is in its ranges exactly if it is proper

runs-fit : (sending to_send : ℕ) → runs_fit sending to_send ≡ sending_fits sending to_send
runs-fit zero to_send = refl
runs-fit (suc zero) to_send = refl
runs-fit (suc (suc zero)) to_send = refl
runs-fit (suc (suc (suc n))) to_send =
    rw (
      ne_eqb (suc (suc (suc n))) 0 (λ e. omega arith),
      ne_eqb (suc (suc (suc n))) 1 (λ e. omega arith),
      ne_eqb (suc (suc (suc n))) 2 (λ e. omega arith),
      lt-leb (suc (suc (suc n))) 2 (omega arith),
    )

pub proper_same : (d : Device) → proper d ≡ device_in_range d
unfolding proper registers_in_range sending_in_range acting_in_range in_range device_in_range
proper_same d =
    rw (runs-fit d.sending d.tx.count, ← mode-named d.regs.ctrl0)
    (simp and_assoc)

-- One range for each part, in this order: a change of other parts leaves it as it is.
abbrev pub Ranges : Fifo → Fifo → Fifo → ℕ → ℕ → ℕ → ℕ → ℕ → ℕ → Type 0
Ranges rx tx history groups errs mtag sending acting ctrl0 =
    (in_range rx ≡ true)
    × (in_range tx ≡ true)
    × (in_range history ≡ true)
    × (leb groups 128 ≡ true)
    × (leb errs 31 ≡ true)
    × (leb mtag 3 ≡ true)
    × (sending_fits sending tx.count ≡ true)
    × (acting_fits acting ctrl0 ≡ true)

abbrev pub InRange : Device → Type 0
InRange d =
    Ranges d.rx d.tx d.history d.counters.groups d.regs.errs d.regs.mtag d.sending
    d.acting d.regs.ctrl0

pub ranges_proper : (d : Device) → InRange d → proper d ≡ true
unfolding proper registers_in_range sending_in_range acting_in_range
ranges_proper d h = rw (h.0, h.1, h.2, h.4, h.5, h.3, h.6, h.7)

pub proper_ranges : (d : Device) → proper d ≡ true → InRange d
unfolding proper registers_in_range sending_in_range acting_in_range
proper_ranges d ok =
    let tx_on = and_right (in_range d.rx) _ ok in
    let history_on = and_right (in_range d.tx) _ tx_on in
    let registers_on = and_right (in_range d.history) _ history_on in
    let registers = and_left (registers_in_range d.regs) _ registers_on in
    let groups_on = and_right (registers_in_range d.regs) _ registers_on in
    let sending_on = and_right (leb d.counters.groups 128) _ groups_on in (
      and_left (in_range d.rx) _ ok,
      and_left (in_range d.tx) _ tx_on,
      and_left (in_range d.history) _ history_on,
      and_left (leb d.counters.groups 128) _ groups_on,
      and_left (leb d.regs.errs 31) _ registers,
      and_right (leb d.regs.errs 31) _ registers,
      and_left (sending_in_range d) _ sending_on,
      and_right (sending_in_range d) _ sending_on,
    )

-- ---- queues

pub empty_fits : in_range empty ≡ true
unfolding in_range empty
empty_fits = refl

fits : (q : Fifo) → q.first < 8 → q.count ≤ 8 → in_range q ≡ true
unfolding in_range
fits q p r = rw (lt-ltb q.first 8 p, le-leb q.count 8 r)

first_below : (q : Fifo) → in_range q ≡ true → q.first < 8
unfolding in_range
first_below q e = ltb-true q.first 8 (and_left (ltb q.first 8) (leb q.count 8) e)

pub count_below : (q : Fifo) → in_range q ≡ true → q.count ≤ 8
unfolding in_range
count_below q e = leb-true q.count 8 (and_right (ltb q.first 8) (leb q.count 8) e)

pub put_fits : (q : Fifo) (m : Message) → in_range q ≡ true → in_range (put q m) ≡ true
unfolding put
put_fits q m h =
    pick_under (λ (r : Fifo). in_range r ≡ true) (full q) _ _
    (λ none. h)
    (λ room. fits _ (first_below q h) (omega (arith, leb-false 8 q.count room)))

pub over_fits : (q : Fifo) (m : Message) → in_range q ≡ true → in_range (put_over q m) ≡ true
unfolding put_over
over_fits q m h =
    pick_under (λ (r : Fifo). in_range r ≡ true) (full q) _ _
    (λ none. fits _ (first_below q h) (count_below q h))
    (λ room. put_fits q m h)

pub take_fits : (q : Fifo) → in_range q ≡ true → in_range (take q) ≡ true
unfolding take
take_fits q h =
    pick_under (λ (r : Fifo). in_range r ≡ true) (is_empty q) _ _
    (λ none. h)
    (λ some. fits _ (omega arith) (omega (arith, count_below q h)))
