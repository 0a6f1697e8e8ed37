-- An event's answer and the device after it (01, Numbers given back; 02, g)): 1, 8 and 12 in that order, and a refusal
-- changes nothing.
use Rattle.std.specs.Prelude.{List, [], ◌∷◌, ℕ, Option, Some, None, Result, Ok, Err}
use Rattle.base.specs.Pick.{pick, flag}
use Rattle.chip.specs.declared.Device.{Device}
use Rattle.chip.specs.Proper.{proper}
use Rattle.receive.specs.declared.Arrival.{Arrival}
use Rattle.receive.specs.declared.Brought.{Brought}
use Rattle.receive.specs.declared.Arrival.TheVariants.{Queued, QueuedOver, A1, A2, A3, A4}
use Rattle.receive.specs.Receive.{hits}
use Rattle.refusal.specs.declared.Refusal.{Refusal}
use Rattle.refusal.specs.declared.Refusal.TheVariants.{OutOfRange, Impossible, NoNumberLeft}
use Rattle.events.specs.declared.Event.{Event}
use Rattle.bus.specs.declared.types.Outcome.{Outcome}
use Rattle.judged.specs.Judged.{impossible, said, no_number_left, brings}
use Rattle.changed.specs.Changed.{arrival, after}

-- What an event is answered: a refusal, whose number is refusal's `number`; or that it is done, and what became of the
-- frame, if it brought one.
abbrev pub Answer : Type 0
Answer = Result (Option Arrival) Refusal

-- 01's values: 0 for Queued, the reason's number for A1 to A4; for Queued-over-latest 6, then the identifier that
-- was lost, and 0 or 1 for standard or extended. 5 was A5's, which 02 d) withdraws.
unfoldable pub arrival_values : Arrival → List ℕ
arrival_values Queued = 0 ∷ []
arrival_values (QueuedOver id extended) = 6 ∷ id ∷ flag extended ∷ []
arrival_values A1 = 1 ∷ []
arrival_values A2 = 2 ∷ []
arrival_values A3 = 3 ∷ []
arrival_values A4 = 4 ∷ []

unfoldable pub values_of : Answer → List ℕ
values_of (Err refused) = []
values_of (Ok None) = []
values_of (Ok (Some what)) = arrival_values what

unfoldable pub answered : Device → Event → Option Brought → ℕ → Answer
answered d e b set =
    let told = said d b set in
    pick (proper d)
    (pick (impossible d e) (Err Impossible) (pick (no_number_left d told) (Err NoNumberLeft) (Ok told)))
    (Err OutOfRange)

-- what the event brings, and the filters that this hits, decide the answer
unfoldable pub answer : Device → Event → List ℕ → Answer
answer d e bytes = let b = brings d e bytes in answered d e b (hits d b)

-- by what it said: a frame arrives, or the event does its work
abbrev pub changed : Device → Event → Option Brought → ℕ → Option Arrival → Device
changed d e None set told = after d e
changed d e (Some b) set None = after d e
changed d e (Some b) set (Some what) = arrival d b set what

abbrev pub outcome : Device → Event → Option Brought → ℕ → Answer → Outcome
outcome d e b set (Err refused) = record { device = d; answer = Err refused }
outcome d e b set (Ok told) = record { device = changed d e b set told; answer = Ok told }

unfoldable pub event : Device → Event → List ℕ → Outcome
event d e bytes = let b = brings d e bytes in outcome d e b (hits d b) (answer d e bytes)
