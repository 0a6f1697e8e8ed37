-- Which events are answered 8 or 12, and what the others say (01, Bus events, and Numbers given back; 02, g)).
use Rattle.std.specs.Prelude.{Bool, true, false, not, ◌&&◌, ◌||◌, List, ℕ, eqb, Option, Some, None}
use Rattle.base.specs.Pick.{pick}
use Rattle.frame.specs.declared.Header.{Header}
use Rattle.frame.specs.Length.{possible, data_fits}
use Rattle.chip.specs.declared.Device.{Device}
use Rattle.chip.specs.State.{loopback, monitor, sleep, initialization, idle, spent}
use Rattle.receive.specs.declared.Arrival.{Arrival}
use Rattle.receive.specs.declared.Brought.{Brought}
use Rattle.receive.specs.declared.Arrival.TheVariants.{A1, A2, A3}
use Rattle.receive.specs.Receive.{filters_and_room, reaches_temporary, own_frame}
use Rattle.transmit.specs.Transmit.{can_begin}
use Rattle.events.specs.declared.Event.{Event}
use Rattle.events.specs.declared.Event.TheVariants.{GoodFrame, ReceiveError, DominantBit, TransmitError, Begun, Completed}
use Rattle.events.specs.declared.Event.TheVariants.{ArbitrationLost, ElevenRecessive, BusQuiet, BusActivity, Ticks, TxenPin}
use Rattle.events.specs.declared.Event.TheVariants.{MrPin, Unknown}

-- initialization and sleep: no error is met, and no frame taken
unfoldable pub quiet_mode : ℕ → Bool
quiet_mode acting = eqb acting initialization || eqb acting sleep

-- 8: "an error or dominant-bit event in initialization, sleep or bus off"
unfoldable pub no_errors : Device → Bool
no_errors d = quiet_mode d.acting || d.counters.busoff

unfoldable pub runs : Device → Bool
runs d = not (eqb d.sending idle)

-- 8: "an identifier of 2^11 (standard) or 2^29 (extended) or more, a length code above 15, data bytes not as many as
-- the length code says"
unfoldable pub impossible_frame : Header → ℕ → Bool
impossible_frame h given = not (possible h && data_fits h given)

-- 8 is also given for "an unknown kind", "a completion, transmit error or lost arbitration with nothing begun", and
-- for a begin that can't be.
unfoldable pub impossible : Device → Event → Bool
impossible d (GoodFrame h acknowledged given) = impossible_frame h given
impossible d (ReceiveError kind) = no_errors d
impossible d DominantBit = no_errors d
impossible d (TransmitError kind counted) = not (runs d) || no_errors d
impossible d Begun = not (can_begin d)
impossible d Completed = not (runs d)
impossible d ArbitrationLost = not (runs d)
impossible d ElevenRecessive = false
impossible d BusQuiet = false
impossible d BusActivity = false
impossible d (Ticks count) = false
impossible d (TxenPin level) = false
impossible d MrPin = false
impossible d Unknown = true

-- A1: "the mode doesn't take bus frames (initialization, sleep, loopback)"
unfoldable pub takes_no_frames : ℕ → Bool
takes_no_frames acting = quiet_mode acting || eqb acting loopback

-- A3: "monitor mode, and no other node acknowledged it"
unfoldable pub unacknowledged : ℕ → Bool → Bool
unacknowledged acting acknowledged = eqb acting monitor && not acknowledged

-- "the first that holds": A1; "A2 bus off"; A3; then the filters and the room. "A1 speaks only of frames from the bus",
-- and so do A2 and A3: a completion's answer "says Queued, A4" or, since 02 d), Queued-over-latest.
unfoldable pub reason : Device → Brought → ℕ → Arrival
reason d b set =
    pick b.own (filters_and_room d set)
    (pick (takes_no_frames d.acting) A1
    (pick d.counters.busoff A2
    (pick (unacknowledged d.acting b.acknowledged) A3
    (filters_and_room d set))))

-- what an event that isn't refused says of its frame, by the filters that this hits
unfoldable pub said : Device → Option Brought → ℕ → Option Arrival
said d None set = None
said d (Some b) set = Some (reason d b set)

-- 02, g): "Each good frame that is not answered A1 to A3 gets an arrival number", and so does a loopback completion
unfoldable pub gives_number : Option Arrival → Bool
gives_number None = false
gives_number (Some what) = reaches_temporary what

-- 12: "a good frame (or loopback completion) to be numbered when the last number has been given"
unfoldable pub no_number_left : Device → Option Arrival → Bool
no_number_left d told = gives_number told && spent d

-- "good frame (with acknowledged or not)"
unfoldable pub bus_frame : Header → Bool → List ℕ → Brought
bus_frame h acknowledged bytes = record {
  own = false;
  acknowledged = acknowledged;
  header = h;
  payload = bytes;
}

-- What an event brings: a good frame; a completion the own message, which comes in loopback (`own_frame`). No other
-- event brings one.
unfoldable pub brings : Device → Event → List ℕ → Option Brought
brings d (GoodFrame h acknowledged given) bytes = Some (bus_frame h acknowledged bytes)
brings d Completed bytes = own_frame d
brings d (ReceiveError kind) bytes = None
brings d DominantBit bytes = None
brings d (TransmitError kind counted) bytes = None
brings d Begun bytes = None
brings d ArbitrationLost bytes = None
brings d ElevenRecessive bytes = None
brings d BusQuiet bytes = None
brings d BusActivity bytes = None
brings d (Ticks count) bytes = None
brings d (TxenPin level) bytes = None
brings d MrPin bytes = None
brings d Unknown bytes = None
