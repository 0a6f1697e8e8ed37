-- What waits after a message was put or taken. Assumes nothing.
use mathlib.Core.Path.{◌≡◌, ap, ◌∙◌}
use mathlib.Core.List.{List, [], ◌∷◌, ◌++◌}
use Prim.Native.Nat.{ℕ, suc, ◌+◌, ◌-◌, ◌%◌, ◌<◌}
use native.Mathlib.Omega.{arith}
use native.Mathlib.Nat.{zero-add}
use native.Mathlib.Numerals.{add-one}
use borrow.Author.Tests.{lt-leb, ne_eqb}
use lib.ListN.{length, get_or, set}
use lib.Seq.{get_or-set_same, get_or-set_other}
use Rattle.base.specs.Tabulate.{tabulate}
use Rattle.base.proofs.Booleans.{pick_keeps}
use Rattle.base.proofs.Lists.{tabulate_same, tabulate_more, shift}
use Rattle.fifo.specs.declared.Fifo.{Fifo}
use Rattle.fifo.specs.declared.Message.{Message}
use Rattle.fifo.specs.Queue.{absent, ring, waiting, full, put, place_over, put_over, take, next, latest}

-- ---- a ring of whatever stands in its places

module _ {A : Type 0} (xs : List A) (z : A) (first : ℕ) where
  -- what is set behind the others comes last
  pub ring_more : (count : ℕ) (x : A) → length xs ≡ 8 → count < 8 → ring (set xs ((first + count) % 8) x) z first (count + 1) ≡ ring xs z first count ++ (x ∷ [])
  ring_more count x long room =
      rw (add-one count)
      (tabulate_more (λ (k : ℕ). get_or (set xs ((first + count) % 8) x) ((first + k) % 8) z) 0 count
      ∙ rw (zero-add count, get_or-set_same xs ((first + count) % 8) x z (omega arith))
      (ap (λ (l : List A). l ++ (x ∷ []))
      (tabulate_same _ _ 0 count (λ k p below. get_or-set_other xs ((first + count) % 8) ((first + k) % 8) x z (λ same. omega arith)))))

  -- from the second place on stands what stood behind the first
  pub ring_less : (n : ℕ) → ring xs z first (suc n) ≡ get_or xs ((first + 0) % 8) z ∷ ring xs z ((first + 1) % 8) n
  ring_less n =
      ap (λ (l : List A). get_or xs ((first + 0) % 8) z ∷ l)
      (shift (λ (k : ℕ). get_or xs ((first + k) % 8) z) 0 n
      ∙ tabulate_same _ _ 0 n (λ k p below. ap (λ (i : ℕ). get_or xs i z) (omega arith)))

  -- with all places taken, what is set one place back stands in the eighth one's place
  pub ring_over : (x : A) → length xs ≡ 8 → ring (set xs ((first + (8 + 7)) % 8) x) z first 8 ≡ set (ring xs z first 8) 7 x
  ring_over x long =
      let p = (first + (8 + 7)) % 8 in
      ap (λ (l : List A). l ++ (get_or (set xs p x) ((first + 7) % 8) z ∷ []))
      (tabulate_same (λ (k : ℕ). get_or (set xs p x) ((first + k) % 8) z) (λ (k : ℕ). get_or xs ((first + k) % 8) z) 0 7
      (λ k above below. get_or-set_other xs p ((first + k) % 8) x z (λ same. omega arith)))
      ∙ ap (λ (y : A). tabulate (λ (k : ℕ). get_or xs ((first + k) % 8) z) 0 7 ++ (y ∷ []))
      (ap (λ (i : ℕ). get_or (set xs p x) i z) (omega arith) ∙ get_or-set_same xs p x z (omega (arith, long)))

-- ---- and of messages

-- a message that finds room waits behind the others
pub put_waits : (q : Fifo) (m : Message) → length q.items ≡ 8 → q.count < 8 → waiting (put q m) ≡ waiting q ++ (m ∷ [])
unfolding put
put_waits q m long room = rw (lt-leb 8 q.count room) (ring_more q.items absent q.first q.count m long room)

-- what is taken is the oldest, and the others wait on
pub take_waits : (q : Fifo) (n : ℕ) → q.count ≡ suc n → waiting q ≡ next q ∷ waiting (take q)
unfolding take next
take_waits q n some =
    let less : suc n - 1 ≡ n = omega arith in
    rw (ne_eqb q.count 0 (λ none. omega arith), some, less) (ring_less q.items absent q.first n)

-- the place that a message takes is one of eight
pub over_below : (q : Fifo) → place_over q < 8
unfolding place_over
over_below q = pick_keeps (λ (n : ℕ). n < 8) (full q) _ _ (omega arith) (omega arith)

-- ---- a full queue

module _ (q : Fifo) (eight : q.count ≡ 8) where
  -- the latest is the eighth
  pub latest_eighth : (z : Message) → get_or (waiting q) 7 z ≡ latest q
  unfolding latest
  latest_eighth z = rw eight (ap (λ (i : ℕ). get_or q.items i absent) (omega arith))

  -- what waits is what waited, the eighth exchanged
  pub over_waits : (m : Message) → length q.items ≡ 8 → waiting (put_over q m) ≡ set (waiting q) 7 m
  unfolding put_over
  over_waits m long = rw eight (ring_over q.items absent q.first m long)
