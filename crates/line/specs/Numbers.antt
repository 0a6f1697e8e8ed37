-- Digits and numbers. A word is a list of bytes.
use Rattle.std.specs.Prelude.{◌≡◌, Bool, true, false, ◌&&◌, List, [], ◌∷◌, Option, Some, None, MatchOption, ℕ, ◌+◌, ◌-◌, ◌*◌, leb, ltb, eqb, length}
use Rattle.std.specs.List.{FoldsTo}
use Rattle.base.specs.Pick.{pick}

-- "0" to "9", "A" to "F", "a" to "f"; 16 says that a byte is no digit of any kind
unfoldable pub digit_of : ℕ → ℕ
digit_of b =
    pick (leb 0x30 b && leb b 0x39) (b - 0x30)
    (pick (leb 0x41 b && leb b 0x46) (b - 0x41 + 10)
    (pick (leb 0x61 b && leb b 0x66) (b - 0x61 + 10)
    16))

-- In base 10 only the digits below 10 are digits, in base 16 all of them.
abbrev pub all_digits : ℕ → List ℕ → Bool
all_digits base [] = true
all_digits base (b ∷ w) = ltb (digit_of b) base && all_digits base w

-- A number is one or more digits, however many.
unfoldable pub is_number : ℕ → List ℕ → Bool
is_number base w = ltb 0 (length w) && all_digits base w

-- What a number means: the digits before say n.
abbrev pub value_from : ℕ → ℕ → List ℕ → ℕ
value_from base n [] = n
value_from base n (b ∷ w) = value_from base (n * base + digit_of b) w

unfoldable pub value_of : ℕ → List ℕ → ℕ
value_of base w = value_from base 0 w

-- a word as a number, of whose value is kept what matters
abbrev pub number_as : ℕ → (ℕ → ℕ) → List ℕ → Option ℕ
number_as base kept w = pick (is_number base w) (Some (kept (value_of base w))) None

-- The largest identifier that is told apart. No frame has one above 0x1FFFFFFF, so a longer number stays as
-- impossible as it was.
abbrev pub most : ℕ
most = 0xFFFFFFFF

-- A byte is exactly two hex digits, upper or lower case.
unfoldable pub is_byte : List ℕ → Bool
is_byte w = eqb (length w) 2 && is_number 16 w

unfoldable pub byte_of : List ℕ → Option ℕ
byte_of w = pick (is_byte w) (Some (value_of 16 w)) None

-- ---- for the reader's own steps

-- w, if it is a number, is r, which `add` makes of its digits one after the other
abbrev pub Adds : (ℕ → ℕ → ℕ → Type 0) → ℕ → List ℕ → Option ℕ → Type 0
Adds add base w r =
    MatchOption r (is_number base w ≡ false)
    (λ n. (is_number base w ≡ true) × FoldsTo (λ before b after. add before (digit_of b) after) 0 w n)
