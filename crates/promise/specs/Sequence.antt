-- What happens to a device: transfers and events, one after the other, and what is said meanwhile. The promises are
-- said of any machine that takes them, and kept by the one that is shipped.
use Rattle.std.specs.Prelude.{Bool, List, [], ◌∷◌, ℕ, eqb, length, get_or, Result}
use Rattle.chip.specs.declared.Device.{Device}
use Rattle.events.specs.declared.Event.{Event}
use Rattle.refusal.specs.declared.Refusal.{Refusal}
use Rattle.refusal.specs.Refusal.{number_of}
use Rattle.bus.specs.Event.{Answer, event, values_of}
use Rattle.host.specs.Transfer.{transfer, reply_after}

pub data Input : Type 0 where
  -- a transfer's bytes, and what the lent buffer holds
  spi : List ℕ → List ℕ → Input
  -- an event, and the payload beside it
  wire : Event → List ℕ → Input

pub data Given : Type 0 where
  -- whether a transfer is done or refused, and what the lent buffer then holds
  replied : Result (Unit {0}) Refusal → List ℕ → Given
  answered : Answer → Given

pub record Step : Type 0 where
  pub device : Device
  pub given : Given

-- what an input does to a device, and what is given back for it
abbrev pub Machine : Type 0
Machine = Device → Input → Step

-- host's and bus's own definitions, which `host::transfer` and `bus::event` are proved to be
abbrev pub shipped : Machine
shipped d (spi bytes buffer) = record {
  device = (transfer d bytes (length buffer)).device;
  given = replied (transfer d bytes (length buffer)).answer (reply_after d bytes buffer);
}
shipped d (wire e payload) = record {
  device = (event d e payload).device;
  given = answered (event d e payload).answer;
}

-- 01's number
abbrev pub number : Given → ℕ
number (replied answer buffer) = number_of answer
number (answered a) = number_of a

-- and what an event says beside it: 0 for Queued, 1 to 4 for A1 to A4; for Queued-over-latest 6 and what was lost
abbrev pub values : Given → List ℕ
values (replied answer buffer) = []
values (answered a) = values_of a

-- Of these the first, which says what became of the frame; 7, which no frame is told, where there is none.
abbrev pub fate : List ℕ → ℕ
fate values = get_or values 0 7

-- an input that was not refused
abbrev pub done : Given → Bool
done given = eqb (number given) 0

-- the device after a sequence
abbrev pub run : Machine → Device → List Input → Device
run step d [] = d
run step d (i ∷ is) = run step (step d i).device is

-- What was said in it: each input, and what was given for it. The records are kept from this, and so never see the
-- device.
abbrev pub Exchange : Type 0
Exchange = Input × Given

abbrev pub conversation : Machine → Device → List Input → List Exchange
conversation step d [] = []
conversation step d (i ∷ is) = (i, (step d i).given) ∷ conversation step (step d i).device is
