-- The numbers (01, Numbers given back; 02, g) for 12), how one is printed, and what they say of an answer.
use Rattle.std.specs.Prelude.{ℕ, List, Result, Ok, Err, decimal}
use Rattle.refusal.specs.declared.Refusal.{Refusal}
use Rattle.refusal.specs.declared.Refusal.TheVariants.{OutOfRange, NoCommand, WrongLength, ShortBuffer, OutsideSetUp}
use Rattle.refusal.specs.declared.Refusal.TheVariants.{FindsFull, FindsNone, Impossible, NoNumberLeft}

abbrev pub number : Refusal → ℕ
number OutOfRange = 1
number NoCommand = 2
number WrongLength = 3
number ShortBuffer = 4
number OutsideSetUp = 5
number FindsFull = 6
number FindsNone = 7
number Impossible = 8
number NoNumberLeft = 12

-- what is printed of a refusal: its number, in decimal
abbrev pub printed : Refusal → List ℕ
printed refusal = decimal (number refusal)

-- "0: done"
abbrev pub number_of : {A : Type 0} → Result A Refusal → ℕ
number_of (Ok said) = 0
number_of (Err refused) = number refused
