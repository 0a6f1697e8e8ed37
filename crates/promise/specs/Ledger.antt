-- The ledger: since the last clearing, the good frames that 01 accepts, as they arrived, and those that reads took. How
-- many wait is counted here (demand 3, as 02 d) has it).
use Rattle.std.specs.Prelude.{Bool, false, List, [], ◌∷◌, ◌++◌, map, ℕ, ◌+◌, ◌-◌, length, get_or}
use Rattle.base.specs.Pick.{pick}
use Rattle.promise.specs.Frames.{Frame, blank}

-- a frame that is accepted, and whether it met eight waiting: then it took the latest one's place
pub record Accepted : Type 0 where
  pub frame : Frame
  pub over : Bool

pub record Ledger : Type 0 where
  pub accepted : List Accepted
  pub taken : List Frame

abbrev pub empty_ledger : Ledger
empty_ledger = record { accepted = []; taken = [] }

-- all that were accepted
abbrev pub frames : Ledger → List Frame
frames l = map (λ a. a.frame) l.accepted

-- ---- the replaced

-- by those accepted after it: whether a frame has lost its place, which the next one alone can take
abbrev pub loses_place : List Accepted → Bool
loses_place [] = false
loses_place (next ∷ later) = next.over

-- "the list leaves out exactly the messages so replaced": those that it has, and those that it leaves out
abbrev pub standing : List Accepted → List Frame
standing [] = []
standing (a ∷ later) = pick (loses_place later) (standing later) (a.frame ∷ standing later)

abbrev pub left_out : List Accepted → List Frame
left_out [] = []
left_out (a ∷ later) = pick (loses_place later) (a.frame ∷ left_out later) (left_out later)

abbrev pub kept : Ledger → List Frame
kept l = standing l.accepted

abbrev pub replaced : Ledger → List Frame
replaced l = left_out l.accepted

-- ---- what waits

-- how many: "counted as the accepted, less the replaced and the read"
abbrev pub left : Ledger → ℕ
left l = length l.accepted - (length (replaced l) + length l.taken)

-- the oldest that no read took
abbrev pub oldest : Ledger → Frame
oldest l = get_or (kept l) (length l.taken) blank

-- the last that was accepted: where any waits, it is the latest of them
abbrev pub newest : Ledger → Frame
newest l = get_or (frames l) (length (frames l) - 1) blank

-- ---- how it grows

abbrev pub accepts : Ledger → Frame → Bool → Ledger
accepts l f over = record { accepted = l.accepted ++ (record { frame = f; over = over } ∷ []); taken = l.taken }

abbrev pub takes : Ledger → Ledger
takes l = record { accepted = l.accepted; taken = l.taken ++ (oldest l ∷ []) }
