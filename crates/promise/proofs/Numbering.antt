-- The arrival numbers of a machine that holds what the records have: they rise, no two are alike, a read takes the
-- first, and they are told. Assumes nothing.
use mathlib.Core.Path.{◌≡◌, refl, sym, ◌∙◌, ap, subst}
use mathlib.Core.Bool.{Bool, true, false, false≢true}
use mathlib.Core.List.{List, [], ◌∷◌, ◌++◌, map-append, append_assoc}
use Prim.Native.Nat.{ℕ, ◌+◌, ◌-◌, ◌%◌, ◌≤◌}
use native.Mathlib.Omega.{arith}
use borrow.Author.Tests.{ltb-true, ltb-false}
use lib.Dec.{eqb, ltb}
use lib.ListN.{length, get_or, drop, replicate, length-append, length-map, length-replicate, get_or-eq_default}
use lib.Seq.{drop-append_seam}
use Rattle.std.proofs.lemmas.List.{append_cancel_left, drop-map}
use Rattle.base.specs.Bit.{byte}
use Rattle.base.specs.Pick.{pick, among}
use Rattle.base.specs.Tabulate.{tabulate}
use Rattle.base.proofs.Booleans.{and_left, and_right}
use Rattle.base.proofs.Lists.{table_at, listed as one_by_one, tabulate_same}
use Rattle.frame.proofs.Data.{zeros_behind}
use Rattle.chip.specs.declared.Device.{Device}
use Rattle.std.specs.Prelude.{Result, Ok, Err}
use Rattle.refusal.specs.declared.Refusal.{Refusal}
use Rattle.refusal.specs.declared.Refusal.TheVariants.{OutOfRange}
use Rattle.refusal.specs.Refusal.{number_of}
use Rattle.bus.specs.declared.types.Numbers.{Numbers}
use Rattle.bus.specs.Numbers.{waiting_number, waiting_numbers, numbers}
use Rattle.promise.specs.Promises.{TheNumbersAreAnswered}
use Rattle.promise.specs.Sequence.{Input, spi, wire, Given, Step, done}
use Rattle.promise.specs.Commands.{message_reads, same_for, one_of}
use Rattle.promise.specs.Frames.{Frame}
use Rattle.promise.specs.Held.{Holds}
use Rattle.promise.specs.Ledger.{Ledger, kept, oldest, takes}
use Rattle.promise.specs.Noted.{noted, by_the_rules, deeds, commanded}
use Rattle.promise.specs.Numbering.{serials, carried, listed, Rises, Rising, Distinct, reads_one, FirstTaken, untaken, in_eight, Listed}
use Rattle.promise.specs.Records.{Records, with_ledger}
use Rattle.promise.proofs.Choices.{pick_under}
use Rattle.promise.proofs.Held.{held_in, held_kept}
use Rattle.promise.proofs.Queues.{length_tabulate, left_waits}
use Rattle.promise.proofs.Ranges.{proper_same, count_below}
use Rattle.promise.proofs.Rises.{rises_behind, rises_standing, rises_apart}

-- ---- the question, in every device

-- what is told of a device that is in range
abbrev told : Device → Numbers
told d = record { last = d.serials.last; temp = d.serials.temp; count = d.rx.count; waiting = waiting_numbers d }

-- by whether one is
abbrev by_range : Device → Bool → Result Numbers Refusal
by_range d t = pick t (Ok (told d)) (Err OutOfRange)

pub told_of_any : TheNumbersAreAnswered
unfolding numbers
told_of_any d = (
  λ fits. ap (λ (t : Bool). number_of (by_range d t)) (proper_same d ∙ fits),
  λ wrong. ap (by_range d) (proper_same d ∙ wrong),
)

-- ---- eight places, of which the first are taken

first_of : (f : ℕ → ℕ) (count k : ℕ) → pick (ltb k count) (f k) 0 ≡ get_or (tabulate f 0 count) k 0
first_of f count k =
    pick_under (λ n. n ≡ get_or (tabulate f 0 count) k 0) (ltb k count) (f k) 0
    (λ within. sym (table_at f 0 count k (ltb-true k count within)))
    (λ past. sym (get_or-eq_default (tabulate f 0 count) 0 (omega (arith, length_tabulate f 0 count, ltb-false k count past))))

eight_is : (f : ℕ → ℕ) (count : ℕ) → count ≤ 8 → tabulate (λ k. pick (ltb k count) (f k) 0) 0 8 ≡ in_eight (tabulate f 0 count)
eight_is f count few =
    let ns = tabulate f 0 count in
    let rest : List ℕ = replicate (8 - length ns) 0 in
    let whole : length (ns ++ rest) ≡ 8 =
    rw (length-append ns rest, length-replicate {A = ℕ} (8 - length ns) 0, length_tabulate f 0 count) (omega arith) in
    tabulate_same _ _ 0 8 (λ k above below. first_of f count k ∙ sym (zeros_behind ns (8 - length ns) k))
    ∙ sym (one_by_one 0 (ns ++ rest) ∙ ap (tabulate (λ k. get_or (ns ++ rest) k 0) 0) whole)

module _ (d : Device) (r : Records) (h : Holds d r) where
  abbrev l : Ledger
  l = r.ledger

  -- ---- the list rises

  listed_rises : Rises 0 r.arrivals (listed d r)
  listed_rises = rw h.carries.0 (rises_standing 0 r.arrivals l.accepted h.ordered)

  pub rising : Rising d r
  rising = rw h.last (rises_behind 0 r.arrivals (serials l.taken) (carried d) listed_rises)

  pub distinct : Distinct d r
  distinct i j = rises_apart 0 r.arrivals (listed d r) i j listed_rises

  -- ---- and is told

  carried_untaken : carried d ≡ serials (untaken l)
  carried_untaken =
      sym (drop-append_seam (serials l.taken) (carried d))
      ∙ ap (drop (length (serials l.taken))) h.carries.0
      ∙ rw (length-map l.taken (λ (f : Frame). f.serial)) (drop-map (λ (f : Frame). f.serial) (length l.taken) (kept l))

  few : d.rx.count ≤ 8
  few = count_below d.rx (held_in d r h).0

  waiting_same : waiting_numbers d ≡ in_eight (serials (untaken l))
  unfolding waiting_numbers waiting_number
  waiting_same = eight_is (λ k. get_or d.serials.places ((d.rx.first + k) % 8) 0) d.rx.count few ∙ ap in_eight carried_untaken

  pub listed_in : Listed numbers d r
  unfolding numbers
  listed_in =
      let waits = sym (left_waits d.rx d.serials.places l (held_kept d r h).3.2) in
      ap (by_range d) (proper_same d ∙ h.fits)
      ∙ (λ i. Ok (record { last = h.last i; temp = h.carries.1 i; count = waits i; waiting = waiting_same i }))

-- ---- a read takes the first

group_cases : {A : Type 0} (t u : Bool) (x y : A) → pick t true u ≡ true → (u ≡ true → y ≡ x) → pick t x y ≡ x
group_cases true u x y is on = refl
group_cases false u x y is on = on is

-- what is found at a command of a group
among_group : {A : Type 0} (c : ℕ) (cs : List ℕ) (x : A) (rest : List (ℕ × A)) (other : A) → one_of c cs ≡ true → among c (same_for cs x ++ rest) other ≡ x
among_group c [] x rest other is = absurd (false≢true is)
among_group c (k ∷ cs) x rest other is = group_cases (eqb c k) (one_of c cs) x _ is (among_group c cs x rest other)

read_noted : (r : Records) (i : Input) (given : Given) → reads_one i given ≡ true → noted by_the_rules r i given ≡ with_ledger r (takes r.ledger)
unfolding commanded
read_noted r (spi bytes buffer) given reads =
    ap (λ (t : Bool). pick t (commanded r bytes) r) (and_left (done given) _ reads)
    ∙ among_group (byte bytes 1) message_reads (with_ledger r (takes r.ledger)) (drop 4 (deeds r bytes)) r (and_right (done given) _ reads)
read_noted r (wire e payload) given reads = absurd (false≢true reads)

pub takes_first : (d : Device) (r : Records) (s : Step) (i : Input) → Holds d r → Holds s.device (noted by_the_rules r i s.given) → reads_one i s.given ≡ true
    → FirstTaken d r s (noted by_the_rules r i s.given)
takes_first d r s i before after reads =
    let l = r.ledger in
    let is = read_noted r i s.given reads in
    let then : serials (takes l).taken ++ carried s.device ≡ serials (kept l) =
    subst (λ (m : Records). serials m.ledger.taken ++ carried s.device ≡ serials (kept m.ledger)) is after.carries.0 in
    record {
      first =
          append_cancel_left (serials l.taken) (carried d) ((oldest l).serial ∷ carried s.device)
          (before.carries.0 ∙ sym then ∙ rw map-append (append_assoc (serials l.taken) ((oldest l).serial ∷ []) (carried s.device)));
      taken = ap (λ (m : Records). m.ledger.taken) is;
    }
