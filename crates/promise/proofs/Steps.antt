-- A step by its cases, and what holds at each step holds along a sequence. Assumes nothing.
use mathlib.Core.Path.{◌≡◌, refl, ◌∙◌, ap}
use mathlib.Core.Bool.{Bool, true, false}
use mathlib.Core.List.{List, [], ◌∷◌, ◌++◌, foldl}
use Prim.Native.Nat.{ℕ}
use lib.Dec.{eqb}
use lib.ListN.{length, take}
use Rattle.std.specs.Prelude.{Option, Some, Result, Ok, Err}
use Rattle.base.specs.Bit.{byte}
use Rattle.base.specs.Pick.{pick}
use Rattle.base.specs.Put.{put_of}
use Rattle.chip.specs.declared.Device.{Device}
use Rattle.chip.specs.Proper.{proper}
use Rattle.events.specs.declared.Event.{Event}
use Rattle.judged.specs.Judged.{impossible, said, no_number_left, brings}
use Rattle.bus.specs.declared.types.Outcome.{Outcome}
use Rattle.receive.specs.declared.Arrival.{Arrival}
use Rattle.receive.specs.Receive.{hits}
use Rattle.bus.specs.Event.{Answer, answered as answered_by, answer, outcome, event}
use Rattle.commands.specs.declared.Row.{Row}
use Rattle.commands.specs.Table.{rows, lookup}
use Rattle.refusal.specs.declared.Refusal.{Refusal}
use Rattle.refusal.specs.declared.Refusal.TheVariants.{OutOfRange, NoCommand, WrongLength, ShortBuffer, OutsideSetUp}
use Rattle.refusal.specs.declared.Refusal.TheVariants.{FindsFull, FindsNone, Impossible, NoNumberLeft}
use Rattle.refusal.specs.Refusal.{number}
use Rattle.refused.specs.Refused.{verdict}
use Rattle.refused.proofs.Accepted.{accepted_found}
use Rattle.shown.specs.Shown.{shows}
use Rattle.done.specs.Done.{does}
use Rattle.host.specs.Transfer.{transfer, reply_after, reply, outcome as host_outcome}
use Rattle.promise.specs.Sequence.{Input, spi, wire, Given, replied, answered, Step, shipped as step, run, conversation}

-- what every step keeps holds after every sequence
pub keeps : {A : Type 0} (note : A → Input → Given → A) (R : Device → A → Type 0)
    → ((d : Device) (a : A) (i : Input) → R d a → R (step d i).device (note a i (step d i).given))
    → (d : Device) (a : A) (is : List Input) → R d a → R (run step d is) (foldl (λ a x. note a x.0 x.1) a (conversation step d is))
keeps note R on d a [] h = h
keeps note R on d a (i ∷ is) h = keeps note R on (step d i).device (note a i (step d i).given) is (on d a i h)

-- a sequence with one input more
pub run_more : (d : Device) (is : List Input) (i : Input) → run step d (is ++ (i ∷ [])) ≡ (step (run step d is) i).device
run_more d [] i = refl
run_more d (j ∷ is) i = run_more (step d j).device is i

pub noted_more : {A : Type 0} (note : A → Input → Given → A) (d : Device) (a : A) (is : List Input) (i : Input)
    → foldl (λ a x. note a x.0 x.1) a (conversation step d (is ++ (i ∷ [])))
    ≡ note (foldl (λ a x. note a x.0 x.1) a (conversation step d is)) i (step (run step d is) i).given
noted_more note d a [] i = refl
noted_more note d a (j ∷ is) i = noted_more note (step d j).device (note a j (step d j).given) is i

-- a refusal's number is not 0
pub refusal_counts : (refusal : Refusal) → eqb (number refusal) 0 ≡ false
refusal_counts OutOfRange = refl
refusal_counts NoCommand = refl
refusal_counts WrongLength = refl
refusal_counts ShortBuffer = refl
refusal_counts OutsideSetUp = refl
refusal_counts FindsFull = refl
refusal_counts FindsNone = refl
refusal_counts Impossible = refl
refusal_counts NoNumberLeft = refl

-- ---- a transfer is refused, or done

abbrev pub refused_transfer : Device → Refusal → List ℕ → Step
refused_transfer d refusal buffer = record { device = d; given = replied (Err refusal) buffer }

abbrev pub done_transfer : Device → Row → List ℕ → List ℕ → Step
done_transfer d r bytes buffer = record {
  device = does d r.verb r.index bytes;
  given = replied (Ok tt) (put_of (take r.out (shows d r.verb r.index)) buffer);
}

abbrev pub judged_transfer : Device → List ℕ → List ℕ → Result Row Refusal → Step
judged_transfer d bytes buffer (Err refusal) = refused_transfer d refusal buffer
judged_transfer d bytes buffer (Ok r) = done_transfer d r bytes buffer

same_step : (d : Device) (bytes buffer : List ℕ) (v : Result Row Refusal)
    → record { device = (host_outcome d bytes v).device; given = replied (host_outcome d bytes v).answer (reply d v buffer) }
    ≡ judged_transfer d bytes buffer v
same_step d bytes buffer (Err refusal) = refl
same_step d bytes buffer (Ok r) = refl

transfer_is : (d : Device) (bytes buffer : List ℕ) → step d (spi bytes buffer) ≡ judged_transfer d bytes buffer (verdict d bytes (length buffer))
unfolding transfer reply_after
transfer_is d bytes buffer = same_step d bytes buffer (verdict d bytes (length buffer))

by_verdict : (P : Step → Type 0) (d : Device) (bytes buffer : List ℕ)
    → ((refusal : Refusal) → step d (spi bytes buffer) ≡ refused_transfer d refusal buffer → P (refused_transfer d refusal buffer))
    → ((r : Row) → step d (spi bytes buffer) ≡ done_transfer d r bytes buffer → lookup rows (byte bytes 1) ≡ Some r → P (done_transfer d r bytes buffer))
    → (v : Result Row Refusal) → verdict d bytes (length buffer) ≡ v → P (judged_transfer d bytes buffer v)
by_verdict P d bytes buffer no_way way (Err refusal) e = no_way refusal (transfer_is d bytes buffer ∙ ap (judged_transfer d bytes buffer) e)
by_verdict P d bytes buffer no_way way (Ok r) e =
    way r (transfer_is d bytes buffer ∙ ap (judged_transfer d bytes buffer) e) (accepted_found d bytes (length buffer) r e)

pub by_transfer : (P : Step → Type 0) (d : Device) (bytes buffer : List ℕ)
    → ((refusal : Refusal) → step d (spi bytes buffer) ≡ refused_transfer d refusal buffer → P (refused_transfer d refusal buffer))
    → ((r : Row) → step d (spi bytes buffer) ≡ done_transfer d r bytes buffer → lookup rows (byte bytes 1) ≡ Some r → P (done_transfer d r bytes buffer))
    → P (step d (spi bytes buffer))
by_transfer P d bytes buffer no_way way =
    rw (transfer_is d bytes buffer) (by_verdict P d bytes buffer no_way way (verdict d bytes (length buffer)) refl)

-- ---- an event is refused, or done

abbrev pub refused_event : Device → Refusal → Step
refused_event d refusal = record { device = d; given = answered (Err refusal) }

-- by what it brings, and the filters that this hits
abbrev pub said_of : Device → Event → List ℕ → Option Arrival
said_of d e payload = let b = brings d e payload in said d b (hits d b)

abbrev pub outcome_of : Device → Event → List ℕ → Answer → Outcome
outcome_of d e payload a = let b = brings d e payload in outcome d e b (hits d b) a

-- what it says of its frame, if it brought one
abbrev pub done_event : Device → Event → List ℕ → Option Arrival → Step
done_event d e payload told = record { device = (outcome_of d e payload (Ok told)).device; given = answered (Ok told) }

by_checks : (P : Step → Type 0) (d : Device) (e : Event) (payload : List ℕ) (p q s : Bool) (told : Option Arrival)
    → ((refusal : Refusal) → P (refused_event d refusal))
    → (q ≡ false → s ≡ false → P (done_event d e payload told))
    → let o = outcome_of d e payload (pick p (pick q (Err Impossible) (pick s (Err NoNumberLeft) (Ok told))) (Err OutOfRange)) in
    P (record { device = o.device; given = answered o.answer })
by_checks P d e payload true true s told no_way way = no_way Impossible
by_checks P d e payload true false true told no_way way = no_way NoNumberLeft
by_checks P d e payload true false false told no_way way = way refl refl
by_checks P d e payload false q s told no_way way = no_way OutOfRange

pub by_event : (P : Step → Type 0) (d : Device) (e : Event) (payload : List ℕ)
    → ((refusal : Refusal) → P (refused_event d refusal))
    → (impossible d e ≡ false → no_number_left d (said_of d e payload) ≡ false → P (done_event d e payload (said_of d e payload)))
    → P (step d (wire e payload))
unfolding event answer answered_by
by_event P d e payload no_way way =
    by_checks P d e payload (proper d) (impossible d e) (no_number_left d (said_of d e payload)) (said_of d e payload) no_way way
