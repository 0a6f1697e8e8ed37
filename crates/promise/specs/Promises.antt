-- What is promised of the device that is shipped: a line for each promise, which the file named above its group says in
-- full. docs/PROMISES.md tells them in plain words.
use Rattle.bus.specs.Hits.{hits}
use Rattle.bus.specs.Numbers.{numbers}
use Rattle.bus.specs.Pins.{pins}
use Rattle.chip.specs.State.{fresh}
use Rattle.why.specs.Why.{explained}
use Rattle.promise.specs.Sequence.{shipped}
use Rattle.promise.specs.Calls.{IsTheCode}
use Rattle.promise.specs.Numbers.{Answered, First, Exactly, Refused, NeverOne}
use Rattle.promise.specs.Held.{Settled, Counted, Timed, Seen, Raised, Pinned, Whole, AsArrived, AsWritten}
use Rattle.promise.specs.Numbering.{LastGiven, Carries, Rising, Distinct, CountsOn, ToldOfAny, Listed}
use Rattle.promise.specs.Questions.{InEveryDevice, Told}
use Rattle.promise.specs.Explanations.{TheDevices, Pointed}
use Rattle.promise.specs.After.{After, Answers, LosesAsTold, TakesFirst, Same, Onward}
use Rattle.promise.specs.Worked.{Worked}

-- ---- what they speak of (Calls)

abbrev pub TheMachineIsTheCode : Type 2
TheMachineIsTheCode = IsTheCode shipped pins hits numbers explained fresh

-- ---- demand 1 (Numbers)

abbrev pub EveryInputIsAnswered : Type 0
EveryInputIsAnswered = Answered shipped

abbrev pub TheFirstNumberIsGiven : Type 0
TheFirstNumberIsGiven = First shipped

abbrev pub EachNumberExactly : Type 0
EachNumberExactly = Exactly shipped

abbrev pub ARefusalChangesNothing : Type 0
ARefusalChangesNothing = Refused shipped

abbrev pub OneIsNeverGiven : Type 0
OneIsNeverGiven = NeverOne shipped

-- ---- and of the question which filters match (Questions)

abbrev pub EveryQuestionIsAnswered : Type 0
EveryQuestionIsAnswered = InEveryDevice hits

abbrev pub TheFiltersAreToldAsWritten : Type 0
TheFiltersAreToldAsWritten = After shipped (Told hits)

-- ---- and of why a frame would not arrive (Explanations)

abbrev pub TheReasonIsTheDevices : Type 0
TheReasonIsTheDevices = TheDevices shipped explained

abbrev pub EachPlaceIsTheFirst : Type 0
EachPlaceIsTheFirst = Pointed explained

-- ---- demands 2 and 3, over every sequence (Due, Held, Losses, After)

abbrev pub EachAnswerIsDue : Type 0
EachAnswerIsDue = After shipped (Answers shipped)

abbrev pub SettingsAreThoseWritten : Type 0
SettingsAreThoseWritten = After shipped Settled

abbrev pub CountersAreTheRulesSum : Type 0
CountersAreTheRulesSum = After shipped Counted

abbrev pub TheTimeTagIsTheTicks : Type 0
TheTimeTagIsTheTicks = After shipped Timed

abbrev pub ErrIsTheKindsSeen : Type 0
ErrIsTheKindsSeen = After shipped Seen

abbrev pub IntfIsTheFlagsRaised : Type 0
IntfIsTheFlagsRaised = After shipped Raised

abbrev pub PinsShowTheRecords : Type 0
PinsShowTheRecords = After shipped (Pinned pins)

abbrev pub OnlyTheReplacedAreLost : Type 0
OnlyTheReplacedAreLost = After shipped Whole

abbrev pub EachLossIsTold : Type 0
EachLossIsTold = After shipped (LosesAsTold shipped)

abbrev pub FieldsStandAsTheyArrived : Type 0
FieldsStandAsTheyArrived = After shipped AsArrived

abbrev pub OwnMessagesAreThoseWritten : Type 0
OwnMessagesAreThoseWritten = After shipped AsWritten

abbrev pub TheAnswersKeepTheRecords : Type 0
TheAnswersKeepTheRecords = Same shipped

-- ---- and of the arrival numbers (Numbering, After)

abbrev pub TheLastNumberCountsTheArrivals : Type 0
TheLastNumberCountsTheArrivals = After shipped LastGiven

abbrev pub NothingElseMovesTheCount : Type 0
NothingElseMovesTheCount = CountsOn shipped

abbrev pub EachCarriesItsNumber : Type 0
EachCarriesItsNumber = After shipped Carries

abbrev pub TheNumbersRise : Type 0
TheNumbersRise = After shipped Rising

abbrev pub NoTwoAreAlike : Type 0
NoTwoAreAlike = After shipped Distinct

abbrev pub AReadTakesTheFirst : Type 0
AReadTakesTheFirst = After shipped (TakesFirst shipped)

abbrev pub TheNumbersAreAnswered : Type 0
TheNumbersAreAnswered = ToldOfAny numbers

abbrev pub TheNumbersAreTold : Type 0
TheNumbersAreTold = After shipped (Listed numbers)

-- ---- and in any device (After)

abbrev pub AnyDeviceGoesOnSo : Type 0
AnyDeviceGoesOnSo = Onward shipped pins hits numbers

-- ---- 01's worked numbers (Worked)

abbrev pub TheWorkedNumbersHold : Type 0
TheWorkedNumbersHold = Worked
