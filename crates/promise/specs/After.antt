-- Demands 2 and 3: after every sequence from a fresh device, and in any device that records describe.
use Rattle.std.specs.Prelude.{◌≡◌, true, List}
use Rattle.chip.specs.declared.Device.{Device}
use Rattle.chip.specs.State.{fresh}
use Rattle.bus.specs.declared.types.Pins.{Pins}
use Rattle.promise.specs.Sequence.{Input, Machine, run, conversation}
use Rattle.promise.specs.Due.{Due}
use Rattle.promise.specs.Held.{Pinned, Holds}
use Rattle.promise.specs.Losses.{LossTold}
use Rattle.promise.specs.Numbering.{Lister, reads_one, FirstTaken, Listed}
use Rattle.promise.specs.Noted.{noted, by_the_rules, by_the_answers, records_by, records}
use Rattle.promise.specs.Questions.{Question, Told}
use Rattle.promise.specs.Records.{Records}

module _ (step : Machine) where
  abbrev pub reached : List Input → Device
  reached is = run step fresh is

  abbrev pub recorded : List Input → Records
  recorded is = records (conversation step fresh is)

  -- what holds, after every sequence, of the device that it leaves and of the records that were kept along it
  abbrev pub After : (Device → Records → Type 0) → Type 0
  After P = (is : List Input) → P (reached is) (recorded is)

  -- Whatever comes next gets the answer that it is due. A sequence's beginning is a sequence too, so after every
  -- sequence this speaks of every input.
  abbrev pub Answers : Device → Records → Type 0
  Answers d r = (i : Input) → Due r i (step d i).given

  -- Whatever comes next, a frame is replaced exactly if that is told.
  abbrev pub LosesAsTold : Device → Records → Type 0
  LosesAsTold d r = (i : Input) → LossTold d r (step d i) (noted by_the_rules r i (step d i).given)

  -- Whatever read comes next takes the message whose number was first.
  abbrev pub TakesFirst : Device → Records → Type 0
  TakesFirst d r = (i : Input) → let s = step d i in
      reads_one i s.given ≡ true → FirstTaken d r s (noted by_the_rules r i s.given)

  -- Whoever goes by what was answered writes down the same.
  abbrev pub Same : Type 0
  Same = (is : List Input) → records_by by_the_answers (conversation step fresh is) ≡ recorded is

  -- In any device that holds what some records have, the pins show them, an input gets the answer that it is due, the
  -- device after it holds what they then have, what is lost is told, a read takes the first, and filters and numbers
  -- are told as they stand in them.
  abbrev pub Onward : (Device → Pins) → Question → Lister → Type 0
  Onward look ask list = (d : Device) (r : Records) → Holds d r
      → Pinned look d r × Answers d r
      × ((i : Input) → Holds (step d i).device (noted by_the_rules r i (step d i).given))
      × LosesAsTold d r × TakesFirst d r × Told ask d r × Listed list d r
