-- A frame that arrives, from the bus or in loopback of our own, and what it has to be told (01, Numbers given back, and
-- Modes and filters).
use Rattle.std.specs.Prelude.{Bool, true, not, ◌&&◌, ◌||◌, List, [], ◌∷◌, ◌++◌, ℕ, ◌+◌, ◌%◌, eqb, leb}
use Rattle.base.specs.Pick.{pick, flag}
use Rattle.frame.specs.declared.Header.{Header}
use Rattle.events.specs.declared.Event.{Event}
use Rattle.events.specs.declared.Event.TheVariants.{GoodFrame, ReceiveError, DominantBit, TransmitError, Begun}
use Rattle.events.specs.declared.Event.TheVariants.{Completed, ArbitrationLost, ElevenRecessive, BusQuiet, BusActivity}
use Rattle.events.specs.declared.Event.TheVariants.{Ticks, TxenPin, MrPin, Unknown}
use Rattle.promise.specs.Filters.{compared, hits_of}
use Rattle.promise.specs.Frames.{Frame}
use Rattle.promise.specs.Ledger.{Ledger, left, newest}
use Rattle.promise.specs.Outbox.{in_flight}
use Rattle.promise.specs.Records.{Records}
use Rattle.promise.specs.Settings.{loopback, monitor, sleep, initialization, Settings, filton}

-- "from 65535 to 0"
abbrev pub time : Records → ℕ
time r = r.ticks % 65536

-- the filters that match a frame, whether FILTON is on or not
abbrev pub matching : Settings → Header → List ℕ → ℕ
matching s h payload = hits_of s.filters s.masks (compared h payload)

-- those that it hits: "with FILTON at 0 it is 0000", since none is asked
abbrev pub hits_now : Settings → Header → List ℕ → ℕ
hits_now s h payload = pick (filton s) (matching s h payload) 0

-- if it gets a number, it is the next
abbrev pub arriving : Records → Header → List ℕ → Frame
arriving r h payload = record {
  header = h;
  payload = payload;
  time = time r;
  hits = hits_now r.settings h payload;
  serial = r.arrivals + 1;
}

-- the own message that runs, as a frame
abbrev pub own : Records → Frame
own r = let m = in_flight r.outbox.running in arriving r m.header m.eight

-- ---- the first reason that holds

-- a question of 01, and the number of the reason if it holds
abbrev pub Reason : Type 0
Reason = Bool × ℕ

-- 0 if none does
abbrev pub first_true : List Reason → ℕ
first_true [] = 0
first_true (r ∷ rs) = pick r.0 r.1 (first_true rs)

-- whether none does
abbrev pub none_true : List Reason → Bool
none_true [] = true
none_true (r ∷ rs) = not r.0 && none_true rs

-- "A1 the mode doesn't take bus frames (initialization, sleep, loopback); A2 bus off; A3 monitor mode, and no other
-- node acknowledged it"
abbrev pub from_the_bus : ℕ → Bool → Bool → List Reason
from_the_bus acting busoff acknowledged =
    ((eqb acting initialization || eqb acting sleep) || eqb acting loopback, 1) ∷
    (busoff, 2) ∷
    (eqb acting monitor && not acknowledged, 3) ∷
    []

-- "A4 filtering is on and no filter matches"
abbrev pub reasons : Bool → Frame → List Reason → List Reason
reasons filton f earlier = earlier ++ (filton && eqb f.hits 0, 4) ∷ []

-- ---- a frame that no reason keeps out

-- 02, d): "the event answers Queued-over-latest" and "names the identifier that was lost": 6, then the identifier, then
-- 0 or 1 for standard or extended
abbrev pub over_latest : Frame → List ℕ
over_latest lost = 6 ∷ lost.header.id ∷ flag lost.header.extended ∷ []

-- Queued, or over the latest where "eight messages wait": room is counted here
abbrev pub queued_or_over : Ledger → List ℕ
queued_or_over l = pick (leb 8 (left l)) (over_latest (newest l)) (0 ∷ [])

-- ---- what an event brings, and what it is told

pub data Brings : Type 0 where
  -- a frame, and the reasons that are asked before the filters
  frame : Frame → List Reason → Brings
  nothing : Brings

-- "In loopback each completed own message arrives as a good frame"; "A1 speaks only of frames from the bus."
abbrev pub brings : Records → Event → List ℕ → Brings
brings r (GoodFrame h acknowledged count) payload =
    frame (arriving r h payload) (from_the_bus r.settings.acting r.counters.busoff acknowledged)
brings r Completed payload = pick (eqb r.settings.acting loopback) (frame (own r) []) nothing
brings r (ReceiveError kind) payload = nothing
brings r DominantBit payload = nothing
brings r (TransmitError kind counted) payload = nothing
brings r Begun payload = nothing
brings r ArbitrationLost payload = nothing
brings r ElevenRecessive payload = nothing
brings r BusQuiet payload = nothing
brings r BusActivity payload = nothing
brings r (Ticks count) payload = nothing
brings r (TxenPin level) payload = nothing
brings r MrPin payload = nothing
brings r Unknown payload = nothing

-- what a frame has to be told: the first reason that holds, if one does
abbrev pub told_by : Ledger → ℕ → List ℕ
told_by l reason = pick (eqb reason 0) (queued_or_over l) (reason ∷ [])

-- what an event has to say beside its number
abbrev pub due_of : Records → Brings → List ℕ
due_of r (frame f earlier) = told_by r.ledger (first_true (reasons (filton r.settings) f earlier))
due_of r nothing = []

abbrev pub values_due : Records → Event → List ℕ → List ℕ
values_due r e payload = due_of r (brings r e payload)
