-- What an event that isn't refused changes (01, Bus events, and Modes and filters).
use Rattle.std.specs.Prelude.{Bool, ℕ, ◌+◌, ◌%◌, eqb}
use Rattle.base.specs.Pick.{pick}
use Rattle.counters.specs.declared.Counters.{Counters}
use Rattle.counters.specs.Rules.{receive_error, dominant_bit, good_frame, transmit_error, eleven_recessive}
use Rattle.chip.specs.declared.Device.{Device}
use Rattle.chip.specs.Parts.{with_counters, with_time, with_txenpin}
use Rattle.chip.specs.State.{normal, unless_monitor, bor}
use Rattle.receive.specs.declared.Arrival.{Arrival}
use Rattle.receive.specs.declared.Brought.{Brought}
use Rattle.flags.specs.Flags.{bus_error}
use Rattle.modes.specs.Modes.{bus_quiet, bus_activity}
use Rattle.receive.specs.Receive.{reaches_temporary, arrived}
use Rattle.flags.specs.Reset.{reset}
use Rattle.transmit.specs.Transmit.{begun, stopped, transmitted}
use Rattle.events.specs.declared.ErrorKind.{ErrorKind}
use Rattle.events.specs.declared.ErrorKind.TheVariants.{Stuff, Ack, Crc, Form, Bit}
use Rattle.events.specs.declared.Event.{Event}
use Rattle.events.specs.declared.Event.TheVariants.{GoodFrame, ReceiveError, DominantBit, TransmitError, Begun, Completed}
use Rattle.events.specs.declared.Event.TheVariants.{ArbitrationLost, ElevenRecessive, BusQuiet, BusActivity, Ticks, TxenPin}
use Rattle.events.specs.declared.Event.TheVariants.{MrPin, Unknown}

-- 000, ERR: STUFERR is bit 0, ACKERR 1, CRCERR 2, FRMERR 3, BITERR 4
unfoldable pub err_bit : ErrorKind → ℕ
err_bit Stuff = 1
err_bit Ack = 2
err_bit Crc = 4
err_bit Form = 8
err_bit Bit = 16

-- "Good frame in normal mode, answered Queued, A4 …: REC - 1", and Queued-over-latest is "counted as Queued" (02, d))
unfoldable pub counted_frame : Counters → ℕ → Counters
counted_frame c acting = pick (eqb acting normal) (good_frame c) c

-- a frame from the bus that reached the temporary buffer
unfoldable pub heard : Device → Device
heard d = with_counters d (counted_frame d.counters d.acting)

-- "Receive error: REC + 1."
unfoldable pub counted_receive_error : Counters → ℕ → Counters
counted_receive_error c acting = unless_monitor acting c (receive_error c)

-- "the event sets that bit, also when exempt or in monitor mode"
unfoldable pub receive_error_met : Device → ErrorKind → Device
receive_error_met d kind = with_counters (bus_error d (err_bit kind)) (counted_receive_error d.counters d.acting)

-- "Dominant after our flag: REC + 8."
abbrev pub counted_dominant : Counters → ℕ → Counters
counted_dominant c acting = unless_monitor acting c (dominant_bit c)

unfoldable pub dominant_met : Device → Device
dominant_met d = with_counters d (counted_dominant d.counters d.acting)

-- "Counted transmit error: TEC + 8."
unfoldable pub counted_transmit_error : Counters → ℕ → Bool → Counters
counted_transmit_error c acting counted = pick counted (unless_monitor acting c (transmit_error c)) c

-- "abort, an error or lost arbitration leaves it first in the FIFO; one-shot then doesn't send it again until enabled"
unfoldable pub transmit_error_met : Device → ErrorKind → Bool → Device
transmit_error_met d kind counted =
    stopped (with_counters (bus_error d (err_bit kind)) (counted_transmit_error d.counters d.acting counted))

-- "The 128th group of eleven recessive bits ends bus off, both counters at 0, under 000's rule for automatic recovery."
unfoldable pub recessive_met : Device → Device
recessive_met d = with_counters d (eleven_recessive d.counters (bor d))

-- "Each tick, already divided, moves the time tag one step in every mode …, from 65535 to 0."
unfoldable pub ticked : Device → ℕ → Device
ticked d count = with_time d ((d.time + count) % 65536)

-- "TXEN pin and its level"
unfoldable pub pin_set : Device → Bool → Device
pin_set d level = with_txenpin d level

-- a frame from the bus is counted; our own is sent, and its history entry has the time tag that it arrived with
unfoldable pub taken : Device → Bool → Device
taken d own = pick own (transmitted d) (heard d)

-- An event whose answer is an arrival. "With WAKEUP set, a bus activity event or a good frame in sleep brings monitor
-- mode": a frame that isn't taken is activity.
unfoldable pub arrival : Device → Brought → ℕ → Arrival → Device
arrival d b set what = pick (reaches_temporary what) (taken (arrived d b set what) b.own) (bus_activity d)

-- an event that is done; a good frame's answer is an arrival
unfoldable pub after : Device → Event → Device
after d (GoodFrame h acknowledged given) = d
after d (ReceiveError kind) = receive_error_met d kind
after d DominantBit = dominant_met d
after d (TransmitError kind counted) = transmit_error_met d kind counted
after d Begun = begun d
after d Completed = transmitted d
after d ArbitrationLost = stopped d
after d ElevenRecessive = recessive_met d
after d BusQuiet = bus_quiet d
after d BusActivity = bus_activity d
after d (Ticks count) = ticked d count
after d (TxenPin level) = pin_set d level
after d MrPin = reset d
after d Unknown = d
