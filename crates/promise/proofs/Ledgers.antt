-- What a ledger keeps and what it leaves out, when one more is accepted. Assumes nothing.
use mathlib.Core.Path.{◌≡◌, refl, sym, ◌∙◌, ap}
use mathlib.Core.Bool.{Bool, true, false}
use mathlib.Core.List.{List, [], ◌∷◌, ◌++◌, map}
use Prim.Native.Nat.{ℕ, zero, suc, ◌+◌, ◌-◌, ◌≤◌}
use native.Mathlib.Omega.{arith}
use lib.ListN.{length, get_or, set}
use Rattle.base.specs.Pick.{pick}
use Rattle.promise.specs.Frames.{Frame}
use Rattle.promise.specs.Ledger.{Accepted, loses_place, standing, left_out}
use Rattle.promise.proofs.Choices.{pick_keeps, pick_part}

abbrev entry : Frame → Bool → List Accepted
entry f over = record { frame = f; over = over } ∷ []

-- the last frame of a list, which one more before it doesn't change
abbrev pub last_of : List Accepted → Frame → Frame
last_of l z = let fs = map (λ (a : Accepted). a.frame) l in get_or fs (length fs - 1) z

last_more : (a b : Accepted) (later : List Accepted) (z : Frame) → last_of (a ∷ b ∷ later) z ≡ last_of (b ∷ later) z
last_more a b later z =
    let fs = map (λ (a : Accepted). a.frame) (b ∷ later) in
    let place : length (a.frame ∷ fs) - 1 ≡ suc (length fs - 1) = omega arith in
    rw place

-- ---- each is kept or left out

counted_cases : (t : Bool) (f : Frame) (out ins : List Frame) (n : ℕ) → n ≡ length out + length ins
    → suc n ≡ length (pick t (f ∷ out) out) + length (pick t ins (f ∷ ins))
counted_cases true f out ins n e = omega (arith, e)
counted_cases false f out ins n e = omega (arith, e)

pub counted_once : (l : List Accepted) → length l ≡ length (left_out l) + length (standing l)
counted_once [] = refl
counted_once (a ∷ later) = counted_cases (loses_place later) a.frame (left_out later) (standing later) (length later) (counted_once later)

-- the last one is kept
pub some_stand : (a : Accepted) (later : List Accepted) → 1 ≤ length (standing (a ∷ later))
some_stand a [] = omega arith
some_stand a (b ∷ later) =
    pick_keeps (λ (fs : List Frame). 1 ≤ length fs) b.over (standing (b ∷ later)) (a.frame ∷ standing (b ∷ later)) (some_stand b later) (omega arith)

-- what holds of the last place of a list, and so of one with a frame more before it, holds of either
at_last : (P : List Frame → List Frame → ℕ → Type 0) (f : Frame) (fs gs : List Frame) (t : Bool) (n : ℕ) → 1 ≤ length fs → length (pick t fs (f ∷ fs)) ≡ suc n
    → ((k : ℕ) → length fs ≡ suc k → P fs gs k) → ((k : ℕ) → P fs gs k → P (f ∷ fs) (f ∷ gs) (suc k))
    → P (pick t fs (f ∷ fs)) (pick t gs (f ∷ gs)) n
at_last P f fs gs true n some long here more = here n long
at_last P f fs gs false zero some long here more = absurd (omega (arith, long, some))
at_last P f fs gs false (suc k) some long here more = more k (here k (omega (arith, long)))

pub last_stands : (l : List Accepted) (z : Frame) (n : ℕ) → length (standing l) ≡ suc n → get_or (standing l) n z ≡ last_of l z
last_stands [] z n long = absurd (omega (arith, long))
last_stands (a ∷ []) z n long = let first : n ≡ 0 = omega (arith, long) in rw first
last_stands (a ∷ b ∷ later) z n long =
    at_last (λ (fs gs : List Frame) (k : ℕ). get_or fs k z ≡ last_of (b ∷ later) z) a.frame (standing (b ∷ later)) (standing (b ∷ later)) b.over n
    (some_stand b later) long (last_stands (b ∷ later) z) (λ k is. is)
    ∙ sym (last_more a b later z)

-- ---- one that finds room is kept behind the others

pub kept_more : (l : List Accepted) (f : Frame) → standing (l ++ entry f false) ≡ standing l ++ (f ∷ [])
kept_more [] f = refl
kept_more (a ∷ []) f = refl
kept_more (a ∷ b ∷ later) f =
    ap (λ (fs : List Frame). pick b.over fs (a.frame ∷ fs)) (kept_more (b ∷ later) f)
    ∙ sym (pick_part (λ (fs : List Frame). fs ++ (f ∷ [])) b.over (standing (b ∷ later)) (a.frame ∷ standing (b ∷ later)))

pub out_same : (l : List Accepted) (f : Frame) → left_out (l ++ entry f false) ≡ left_out l
out_same [] f = refl
out_same (a ∷ []) f = refl
out_same (a ∷ b ∷ later) f = ap (λ (fs : List Frame). pick b.over (a.frame ∷ fs) fs) (out_same (b ∷ later) f)

-- ---- one that meets eight stands in the last one's place

pub kept_over : (l : List Accepted) (f : Frame) (n : ℕ) → length (standing l) ≡ suc n → standing (l ++ entry f true) ≡ set (standing l) n f
kept_over [] f n long = absurd (omega (arith, long))
kept_over (a ∷ []) f n long = let first : n ≡ 0 = omega (arith, long) in rw first
kept_over (a ∷ b ∷ later) f n long =
    at_last (λ (fs gs : List Frame) (k : ℕ). gs ≡ set fs k f) a.frame (standing (b ∷ later)) (standing (b ∷ later ++ entry f true)) b.over n
    (some_stand b later) long (kept_over (b ∷ later) f) (λ k is. ap (λ (fs : List Frame). a.frame ∷ fs) is)

-- and that one is left out
pub out_more : (l : List Accepted) (f z : Frame) → 1 ≤ length l → left_out (l ++ entry f true) ≡ left_out l ++ (last_of l z ∷ [])
out_more [] f z some = absurd (omega (arith, some))
out_more (a ∷ []) f z some = refl
out_more (a ∷ b ∷ later) f z some =
    ap (λ (fs : List Frame). pick b.over (a.frame ∷ fs) fs) (out_more (b ∷ later) f z (omega arith))
    ∙ sym (pick_part (λ (fs : List Frame). fs ++ (last_of (b ∷ later) z ∷ [])) b.over (a.frame ∷ left_out (b ∷ later)) (left_out (b ∷ later)))
    ∙ ap (λ (g : Frame). left_out (a ∷ b ∷ later) ++ (g ∷ [])) (sym (last_more a b later z))
