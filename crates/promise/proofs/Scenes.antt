-- What the wrong devices are caught at: inputs, sequences of them, devices that no sequence reaches. Assumes nothing.
use mathlib.Core.Path.{refl}
use mathlib.Core.Bool.{true, false}
use mathlib.Core.List.{List, [], ◌∷◌, ◌++◌, map}
use Prim.Native.Nat.{ℕ, ◌-◌, ◌^◌}
use lib.ListN.{drop, replicate}
use Rattle.chip.specs.declared.Device.{Device}
use Rattle.chip.specs.Parts.{with_counters, with_serials, with_last}
use Rattle.chip.specs.State.{fresh}
use Rattle.counters.specs.declared.Counters.{Counters}
use Rattle.fifo.specs.Queue.{empty}
use Rattle.frame.specs.declared.Header.{Header}
use Rattle.events.specs.declared.ErrorKind.TheVariants.{Stuff, Bit}
use Rattle.events.specs.declared.Event.TheVariants.{GoodFrame, ReceiveError, TransmitError, Begun, Completed, ElevenRecessive, BusQuiet, BusActivity}
use Rattle.promise.specs.Sequence.{Input, spi, wire, shipped, run}
use Rattle.promise.specs.Held.{Holds}
use Rattle.promise.specs.Ranges.{device_in_range}
use Rattle.promise.specs.Records.{Records, start, with_counters as with-counted}
use Rattle.promise.specs.Settings.{mode_named}
use Rattle.promise.proofs.After.{fresh_holds}

abbrev pub to_normal : Input
to_normal = spi (0x14 ∷ 0x00 ∷ []) []

-- identifier 123, with that byte, and another behind it that is not the frame's
abbrev pub scan_header : Header
scan_header = record { id = 0x123; extended = false; remote = false; code = 1 }

abbrev pub scan : ℕ → Input
scan byte = wire (GoodFrame scan_header true 1) (byte ∷ replicate 7 0)

-- eight of them
abbrev pub eight_scans : List Input
eight_scans = map scan (1 ∷ 2 ∷ 3 ∷ 4 ∷ 5 ∷ 6 ∷ 7 ∷ 8 ∷ [])

abbrev pub full : List Input
full = to_normal ∷ eight_scans

-- an extended one, which another scanner sends
abbrev pub pallet : Input
pallet = wire (GoodFrame (record { id = 0x1ABCDEF; extended = true; remote = false; code = 0 }) true 0) (replicate 8 0)

abbrev pub behind : Input
behind = wire (GoodFrame scan_header true 1) (1 ∷ replicate 7 0xAA)

-- with length code 9, and so eight bytes
abbrev pub long : Input
long = wire (GoodFrame (record { id = 0x123; extended = false; remote = false; code = 9 }) true 8) (replicate 8 0xAA)

-- with an identifier of twelve bits
abbrev pub impossible : Input
impossible = wire (GoodFrame (record { id = 0x800; extended = false; remote = false; code = 0 }) true 0) []

abbrev pub read : Input
read = spi (0x48 ∷ []) (replicate 14 0xFF)

-- with no buffer for the reply
abbrev pub too_short : Input
too_short = spi (0x48 ∷ []) []

-- a register's read
abbrev pub ask : ℕ → Input
ask c = spi (c ∷ []) (0xFF ∷ [])

abbrev pub two : List Input
two = to_normal ∷ scan 1 ∷ scan 2 ∷ []

-- a mask that counts every bit, so that its filter matches no scan
abbrev pub mask_all : ℕ → Input
mask_all c = spi (c ∷ replicate 6 0xFF) []

-- filters on, with none that matches
abbrev pub filters_on : Input
filters_on = spi (0x16 ∷ 0x10 ∷ []) []

abbrev pub none_matches : List Input
none_matches = map mask_all (0x74 ∷ 0x76 ∷ 0x78 ∷ 0x7A ∷ 0x7C ∷ 0x7E ∷ 0x82 ∷ 0x84 ∷ []) ++ to_normal ∷ []

-- none matches, by every bit but those of byte 1
abbrev pub by_other_bytes : List Input
by_other_bytes =
    map (λ c. spi (c ∷ 0x00 ∷ replicate 5 0xFF) []) (0x74 ∷ 0x76 ∷ 0x78 ∷ 0x7A ∷ 0x7C ∷ 0x7E ∷ 0x82 ∷ 0x84 ∷ []) ++
    to_normal ∷ filters_on ∷ []

-- filter 0 has the scan's identifier, and a 1 where none counts
abbrev pub unnamed_set : List Input
unnamed_set = spi (0x62 ∷ 0x24 ∷ 0x60 ∷ 0x00 ∷ 0x01 ∷ 0x00 ∷ 0x00 ∷ []) [] ∷ none_matches ++ filters_on ∷ []

-- eight scans, then filters on
abbrev pub strangers : List Input
strangers = none_matches ++ eight_scans ++ filters_on ∷ []

-- filter 0 made to miss, a scan without filters, then filters on: filter 1 would match now
abbrev pub filters_later : List Input
filters_later = mask_all 0x74 ∷ to_normal ∷ scan 1 ∷ filters_on ∷ []

-- sleep with WAKEUP, and then the bus awakes
abbrev pub wakes : List Input
wakes = spi (0x14 ∷ 0x70 ∷ []) [] ∷ wire BusQuiet [] ∷ wire BusActivity [] ∷ []

abbrev pub begun : List Input
begun = to_normal ∷ spi (0x12 ∷ 0x07 ∷ 0x24 ∷ 0x60 ∷ 0x00 ∷ []) [] ∷ spi (0x16 ∷ 0x80 ∷ []) [] ∷ wire Begun [] ∷ []

-- it fails at TEC 255, then a group of recessive bits comes
abbrev pub bus_off : List Input
bus_off = spi (0x26 ∷ 0xFF ∷ []) [] ∷ begun ++ wire (TransmitError Bit true) [] ∷ wire ElevenRecessive [] ∷ []

-- BOR, and the other groups
abbrev pub recovered : List Input
recovered = bus_off ++ spi (0x14 ∷ 0x04 ∷ []) [] ∷ replicate 127 (wire ElevenRecessive [])

-- the FIFO emptied, another message written, TX1M set, and the first message completed
abbrev pub completed_alone : List Input
completed_alone =
    begun ++ spi (0x54 ∷ []) [] ∷ spi (0x12 ∷ 0x08 ∷ 0x24 ∷ 0x60 ∷ 0x00 ∷ []) [] ∷ spi (0x16 ∷ 0x40 ∷ []) [] ∷ wire Completed [] ∷ []

abbrev pub error : List Input
error = to_normal ∷ wire (ReceiveError Stuff) [] ∷ []

-- monitor mode, and a scan that nobody acknowledged
abbrev pub unheard : List Input
unheard = spi (0x14 ∷ 0x40 ∷ []) [] ∷ wire (GoodFrame scan_header false 1) (1 ∷ replicate 7 0) ∷ []

-- loopback, and a message that runs
abbrev pub looped : List Input
looped = spi (0x14 ∷ 0x20 ∷ []) [] ∷ drop 1 begun

-- a device that has given so many numbers, which no sequence of this length does
abbrev pub given : ℕ → List Input → Device
given n is =
    let d : Device = run shipped fresh is in
    with_serials d (with_last d.serials n)

abbrev pub last : ℕ
last = 2 ^ 64 - 1

-- a device with groups met outside bus off, which no sequence reaches
abbrev pub groups_left : Counters
groups_left = record { rec = 0; tec = 0; busoff = false; groups = 5 }

abbrev pub odd_device : Device
odd_device = with_counters fresh groups_left

-- and one with more groups than there can be
abbrev pub far_device : Device
far_device = with_counters fresh (record { rec = 0; tec = 0; busoff = false; groups = 129 })

abbrev pub odd_records : Records
odd_records = with-counted start groups_left

pub odd_holds : Holds odd_device odd_records
unfolding device_in_range mode_named fresh empty
odd_holds = record {
  fits = refl;
  shaped = fresh_holds.shaped;
  settled = fresh_holds.settled;
  counted = refl;
  timed = fresh_holds.timed;
  seen = fresh_holds.seen;
  raised = fresh_holds.raised;
  latest = fresh_holds.latest;
  whole = fresh_holds.whole;
  last = fresh_holds.last;
  carries = fresh_holds.carries;
  ordered = fresh_holds.ordered;
  arrived = fresh_holds.arrived;
  written = fresh_holds.written;
  remembered = fresh_holds.remembered;
  sendable = fresh_holds.sendable;
}
