-- A frame that the mode takes, from the bus or, in loopback, of our own (01, Numbers given back, and Modes and
-- filters).
use Rattle.std.specs.Prelude.{Bool, true, false, ◌&&◌, List, ℕ, ◌+◌, eqb, set, Option, Some, None}
use Rattle.base.specs.Bit.{is_set}
use Rattle.base.specs.Pick.{pick}
use Rattle.fifo.specs.declared.Fifo.{Fifo}
use Rattle.fifo.specs.declared.Message.{Message}
use Rattle.fifo.specs.Queue.{full, place_over, put_over, latest}
use Rattle.filter.specs.Hits.{filhit}
use Rattle.filter.specs.Hits as filter
use Rattle.frame.specs.declared.Header.{Header}
use Rattle.frame.specs.Received.{received, header_in, data_in}
use Rattle.frame.specs.Tables.{compared}
use Rattle.chip.specs.declared.Device.{Device}
use Rattle.chip.specs.declared.Serials.{Serials}
use Rattle.chip.specs.Parts.{with_regs, with_hits, with_serials, with_rx, with_temp}
use Rattle.chip.specs.State.{loopback, filton, bank, last_of_all}
use Rattle.receive.specs.declared.Arrival.{Arrival}
use Rattle.receive.specs.declared.Brought.{Brought}
use Rattle.receive.specs.declared.Arrival.TheVariants.{Queued, QueuedOver, A1, A2, A3, A4}
use Rattle.flags.specs.Flags.{raised, rxtmp, rxfifo, f0mess, f1mess}

-- 02: "which filters match, as one byte", of the device's filters and masks
unfoldable pub matching : Device → Header → List ℕ → ℕ
matching d h bytes = filter.hits (bank d.filters) (bank d.masks) (compared h bytes)

-- The filters that a frame hits, if one comes: "FILHIT shows the lowest match …; with FILTON at 0 it is 0000", and the
-- set is then empty.
unfoldable pub hits : Device → Option Brought → ℕ
hits d None = 0
hits d (Some b) = pick (filton d) (matching d b.header b.payload) 0

-- 02, d): "The event names the identifier that was lost", that of the latest message
unfoldable pub over_latest : Fifo → Arrival
over_latest q = let lost = header_in (latest q).bytes in QueuedOver lost.id lost.extended

-- What becomes of a frame that the mode takes, by the filters that it hits: "A4 filtering is on and no filter matches";
-- 02, d): "an accepted frame that meets eight waiting takes the eighth one's place"
unfoldable pub filters_and_room : Device → ℕ → Arrival
filters_and_room d set = pick (filton d && eqb set 0) A4 (pick (full d.rx) (over_latest d.rx) Queued)

-- 02, d): Queued-over-latest is "elsewhere counted as Queued"
unfoldable pub is_queued : Arrival → Bool
is_queued Queued = true
is_queued (QueuedOver id extended) = true
is_queued A1 = false
is_queued A2 = false
is_queued A3 = false
is_queued A4 = false

-- "A1 to A3 leave the temporary buffer alone. A4 … and Queued put the frame there."
unfoldable pub reaches_temporary : Arrival → Bool
reaches_temporary Queued = true
reaches_temporary (QueuedOver id extended) = true
reaches_temporary A1 = false
reaches_temporary A2 = false
reaches_temporary A3 = false
reaches_temporary A4 = true

-- RXFIFO rises when a message "is passed from the temporary receive buffer to the receive FIFO".
unfoldable pub queued_flag : Bool → ℕ
queued_flag queued = pick queued rxfifo 0

-- F0MESS and F1MESS rise when filter 0 or 1 passes a message, and "still follow the lowest alone" (02): F1MESS stays
-- down where filter 0 hit too.
unfoldable pub filter_flag : ℕ → ℕ
filter_flag set = pick (is_set 0 set) f0mess (pick (is_set 1 set) f1mess 0)

unfoldable pub queue_after : Fifo → Message → Bool → Fifo
queue_after q m queued = pick queued (put_over q m) q

-- the next arrival number; behind the last there is none, and 12 keeps every frame from it
unfoldable pub next_serial : ℕ → ℕ
next_serial last = pick (eqb last last_of_all) last (last + 1)

-- 02, g): a frame "gets an arrival number", and "The stored message carries it": in the temporary buffer and, if it is
-- queued, at its place in the FIFO
unfoldable pub serials_after : Serials → Fifo → Bool → Serials
serials_after s q queued =
    let serial = next_serial s.last in
    record { last = serial; temp = serial; places = pick queued (set s.places (place_over q) serial) s.places }

-- the own message that runs, as a frame
abbrev pub own_header : Device → Header
own_header d = header_in d.buffer.bytes

abbrev pub own_data : Device → List ℕ
own_data d = data_in d.buffer.bytes

-- "In loopback each completed own message arrives as a good frame"
unfoldable pub own_frame : Device → Option Brought
own_frame d =
    pick (eqb d.acting loopback)
    (Some (record { own = true; acknowledged = true; header = own_header d; payload = own_data d }))
    None

-- the frame's sixteen bytes, "what it says of the message fixed when stored"
abbrev pub message : Device → Header → List ℕ → ℕ → Message
message d h bytes set = record { bytes = received h bytes d.time (filhit set) }

-- "A4 … and Queued put the frame" into the temporary buffer; RXTMP says so. If it is queued it goes into the FIFO too,
-- last or in the latest one's place. It gets the next number.
unfoldable pub arrived : Device → Brought → ℕ → Arrival → Device
arrived d b set what =
    let m = message d b.header b.payload set in
    raised
    (raised
    (raised
    (with_serials
    (with_rx
    (with_temp (with_regs d (with_hits d.regs set)) m)
    (queue_after d.rx m (is_queued what)))
    (serials_after d.serials d.rx (is_queued what)))
    rxtmp)
    (queued_flag (is_queued what)))
    (filter_flag set)
