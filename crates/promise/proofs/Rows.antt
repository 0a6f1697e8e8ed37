-- The device's table of commands, held against 01's bytes. Assumes nothing.
use mathlib.Core.Path.{◌≡◌, refl, sym, ◌∙◌}
use mathlib.Core.Bool.{Bool, true, false, not, ◌&&◌}
use mathlib.Core.List.{List, [], ◌∷◌, map}
use Prim.Native.Nat.{ℕ}
use native.Mathlib.Omega.{arith}
use borrow.Author.Tests.{eqb-true, eqb-false, ne_eqb}
use lib.Dec.{eqb, leb}
use Rattle.base.specs.Pick.{pick}
use Rattle.std.specs.Prelude.{Option, Some, None}
use Rattle.chip.specs.declared.Device.{Device}
use Rattle.chip.specs.State.{initialization}
use Rattle.commands.specs.declared.Row.{Row}
use Rattle.commands.specs.Table.{rows, lookup}
use Rattle.commands.specs.Verbs.{write_message}
use Rattle.refused.specs.Refused.{sets_up, outside_set_up, finds_full, reads_message, finds_none}
use Rattle.promise.specs.Commands.{Lengths, lengths, same_for, sets_up as sets_up_by, is_command, lengths_of}
use Rattle.promise.specs.Numbers.{situation, finds_none as finds_none_by}
use Rattle.promise.proofs.Among.{outside, among_outside}

-- ---- a search

-- what holds of each row and its command
abbrev pub AtRows : (ℕ → Row → Type 0) → List Row → Type 0
AtRows P [] = Unit {0}
AtRows P (r ∷ rs) = P r.command r × AtRows P rs

same_row : (r s : Row) → Some s ≡ Some r → s ≡ r
same_row r s e = cc

-- by whether the first row has the command
here : (P : ℕ → Row → Type 0) (s r : Row) (c : ℕ) (f : Option Row) (t : Bool) → eqb s.command c ≡ t → pick t (Some s) f ≡ Some r
    → P s.command s → (f ≡ Some r → P c r) → P c r
here P s r c f true same is p on = rw (← eqb-true s.command c same, ← same_row r s is) p
here P s r c f false apart is p on = on is

-- holds of the row that a search finds
pub at_row : (P : ℕ → Row → Type 0) (rs : List Row) (c : ℕ) (r : Row) → lookup rs c ≡ Some r → AtRows P rs → P c r
at_row P [] c r found all = let never : ◌≡◌ {A = ℕ} 0 1 = cc in absurd (omega arith)
at_row P (s ∷ rs) c r found all =
    here P s r c (lookup rs c) (eqb s.command c) refl found all.0 (λ later. at_row P rs c r later all.1)

-- two readings of a row that agree on the whole table agree on the row found
alike : {A : Type 0} (by-byte : ℕ → A) (by-row : Row → A) (rs : List Row) → map (λ r. by-byte r.command) rs ≡ map by-row rs
    → AtRows (λ c r. by-byte c ≡ by-row r) rs
alike by-byte by-row [] same = tt
alike by-byte by-row (r ∷ rs) same = (cc, alike by-byte by-row rs (cc))

pub by_table : {A : Type 0} (by-byte : ℕ → A) (by-row : Row → A) → map (λ r. by-byte r.command) rows ≡ map by-row rows
    → (c : ℕ) (r : Row) → lookup rows c ≡ Some r → by-byte c ≡ by-row r
by_table by-byte by-row same c r found = at_row (λ c r. by-byte c ≡ by-row r) rows c r found (alike by-byte by-row rows same)

-- ---- what it has in common with 01's bytes

-- a row's bytes in and out
abbrev pub lengths_in : Row → Lengths
lengths_in r = record { least = r.least; most = r.most; out = r.out }

-- what the table of numbers asks about a command: is it one, how long is it, is it 0x12, and do 5, 6 and 7 apply
abbrev Asked : Type 0
Asked = Bool × Lengths × Bool × Bool × Bool × Bool

module _ (d : Device) where
  abbrev by_byte : ℕ → Asked
  by_byte c = (
    is_command c,
    lengths_of c,
    eqb c 0x12,
    not (eqb d.acting initialization) && sets_up_by c,
    eqb c 0x12 && leb 8 d.tx.count,
    finds_none_by (situation d) c,
  )

  abbrev by_row : Row → Asked
  by_row r = (
    true,
    lengths_in r,
    eqb r.verb write_message,
    outside_set_up d.acting r.verb,
    finds_full d.tx.count r.verb,
    finds_none d.rx.count d.history.count r.verb,
  )

  pub asked_same : (c : ℕ) (r : Row) → lookup rows c ≡ Some r → by_byte c ≡ by_row r
  unfolding rows sets_up outside_set_up finds_full reads_message finds_none is_command lengths_of sets_up_by finds_none_by
  asked_same = by_table by_byte by_row refl

-- a command that no row has is none of 01's
abbrev commands_of : List Row → List (ℕ × Row)
commands_of rs = map (λ r. (r.command, r)) rs

apart : (t : Bool) (a b : ℕ) → eqb a b ≡ t → t ≡ false → not (eqb b a) ≡ true
apart t a b e f = rw (ne_eqb b a (λ same. eqb-false a b (e ∙ f) (sym same)))

none_here : (t : Bool) (r : Row) (f : Option Row) → pick t (Some r) f ≡ None → (t ≡ false) × (f ≡ None)
none_here true r f e = let never : ◌≡◌ {A = ℕ} 0 1 = cc in absurd (omega arith)
none_here false r f e = (refl, e)

none_outside : (rs : List Row) (c : ℕ) → lookup rs c ≡ None → outside c (commands_of rs) ≡ true
none_outside [] c none = refl
none_outside (r ∷ rs) c none =
    let both = none_here (eqb r.command c) r (lookup rs c) none in
    rw (apart (eqb r.command c) r.command c refl both.0) (none_outside rs c both.1)

pub no_command : (c : ℕ) → lookup rows c ≡ None → is_command c ≡ false
unfolding rows is_command
no_command c none = among_outside c (same_for (map (λ l. l.0) lengths) true) (commands_of rows) false (none_outside rows c none) refl
