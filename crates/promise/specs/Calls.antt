-- The machine that the promises are kept by is the code: the contracts of the calls, as the toolchain makes them of
-- the source, ask nothing of a caller and equate each outcome with its step (crate `one`). Of a call, `ended` is its
-- signature and `spec` its contract, in any model M of memory. An outcome x is the result, `x.0`, and what lent
-- memory then holds, a place for each parameter: of `host::transfer` the third, `x.1.1.1.0`, is the reply buffer.
-- What lent memory held at the call is `now`.
use Rattle.std.specs.Prelude.{ℕ, Result}
use Rattle.chip.specs.declared.Device.{Device}
use Rattle.refusal.specs.declared.Refusal.{Refusal}
use Rattle.bus.specs.declared.types.Numbers.{Numbers}
use Rattle.bus.specs.declared.types.Pins.{Pins}
use Rattle.bus.specs.contracts as bus
use Rattle.chip.specs.contracts as chip
use Rattle.host.specs.contracts as host
use Rattle.why.specs.declared.Why.{Why}
use Rattle.why.specs.contracts as why
use Rattle.one.specs.Law.{Inputs, Outcome, Equates}
use Rattle.one.specs.Shapes.{at}
use Rattle.promise.specs.Numbering.{Lister}
use Rattle.promise.specs.Questions.{Question}
use Rattle.promise.specs.Explanations.{Explainer}
use Rattle.promise.specs.Sequence.{spi, wire, Given, replied, answered, Step, Machine}

module _ (M : Type 1) (step : Machine) where
  -- `host::transfer(d, bytes, reply)`: the device, the answer, and the buffer at the return
  abbrev pub transfer_step : (a : Inputs host.transfer.ended) → Outcome host.transfer.ended a → Step
  transfer_step a x = record { device = x.0.device; given = replied x.0.answer x.1.1.1.0 }

  abbrev pub Transfers : Type 2
  Transfers = Equates M host.transfer.ended (λ _. host.transfer.spec) (λ a. Step) transfer_step
      (at host.transfer.ended Step (λ lifetimes d bytes reply. step d (spi bytes.now reply.now)))

  -- `bus::event(d, e, payload)`: the device and the answer
  abbrev pub event_step : (a : Inputs bus.event.ended) → Outcome bus.event.ended a → Step
  event_step a x = record { device = x.0.device; given = answered x.0.answer }

  abbrev pub Events : Type 2
  Events = Equates M bus.event.ended (λ _. bus.event.spec) (λ a. Step) event_step
      (at bus.event.ended Step (λ lifetimes d e payload. step d (wire e payload)))

  -- `bus::answer(d, e, payload)`: the answer alone
  abbrev pub Asked : Type 2
  Asked = Equates M bus.answer.ended (λ _. bus.answer.spec) (λ a. Given) (λ a x. answered x.0)
      (at bus.answer.ended Given (λ lifetimes d e payload. (step d (wire e payload)).given))

module _ (M : Type 1) where
  -- `bus::pins(d)`
  abbrev pub Looks : (Device → Pins) → Type 2
  Looks look =
      Equates M bus.pins.ended (λ _. bus.pins.spec) (λ a. Pins) (λ a x. x.0) (at bus.pins.ended Pins (λ lifetimes d. look d))

  -- `bus::hits(d, h, given, payload)`
  abbrev pub Tells : Question → Type 2
  Tells ask =
      Equates M bus.hits.ended (λ _. bus.hits.spec) (λ a. Result ℕ Refusal) (λ a x. x.0)
      (at bus.hits.ended (Result ℕ Refusal) (λ lifetimes d h given payload. ask d h given payload))

  -- `bus::numbers(d)`
  abbrev pub Lists : Lister → Type 2
  Lists list =
      Equates M bus.numbers.ended (λ _. bus.numbers.spec) (λ a. Result Numbers Refusal) (λ a x. x.0)
      (at bus.numbers.ended (Result Numbers Refusal) (λ lifetimes d. list d))

  -- `why::explained(d, h, acknowledged, given, payload)`
  abbrev pub Explains : Explainer → Type 2
  Explains explain =
      Equates M why.explained.ended (λ _. why.explained.spec) (λ a. Why) (λ a x. x.0)
      (at why.explained.ended Why (λ lifetimes d h acknowledged given payload. explain d h acknowledged given payload))

  -- `Device::fresh()`
  abbrev pub Begins : Device → Type 2
  Begins first =
      Equates M chip.Device.fresh.ended (λ _. chip.Device.fresh.spec) (λ a. Device) (λ a x. x.0)
      (at chip.Device.fresh.ended Device (λ lifetimes. first))

abbrev pub IsTheCode : Machine → (Device → Pins) → Question → Lister → Explainer → Device → Type 2
IsTheCode step look ask list explain first =
    (M : Type 1)
    → Transfers M step × Events M step × Asked M step × Looks M look × Tells M ask × Lists M list × Explains M explain
    × Begins M first
