-- What is lost at a full queue (02, d)), said of a step: from a device and its records to those after it.
use Rattle.std.specs.Prelude.{◌≡◌, ◌⊎◌, Bool, true, false, [], ◌∷◌, ◌++◌, eqb, length, get_or, set}
use Rattle.fifo.specs.Queue.{absent, waiting}
use Rattle.chip.specs.declared.Device.{Device}
use Rattle.promise.specs.Sequence.{Given, Step, values, fate}
use Rattle.promise.specs.Arrivals.{over_latest}
use Rattle.promise.specs.Frames.{message}
use Rattle.promise.specs.Ledger.{empty_ledger, replaced, newest}
use Rattle.promise.specs.Numbering.{carried}
use Rattle.promise.specs.Records.{Records}

-- "the event answers Queued-over-latest"
abbrev pub says_over : Given → Bool
says_over given = eqb (fate (values given)) 6

-- A frame is told so.
pub record Exchanged (d : Device) (r : Records) (s : Step) (after : Records) : Type 0 where
  -- eight waited, and the eighth is the latest that the ledger has
  pub eight : length (waiting d.rx) ≡ 8
  pub eighth : get_or (waiting d.rx) 7 absent ≡ message (newest r.ledger)
  -- what waits is what waited, the eighth exchanged for the frame that came: "eight stay waiting"
  pub stands : waiting s.device.rx ≡ set (waiting d.rx) 7 (message after.latest)
  -- and with it the number: its own, and not the lost one's
  pub carries : carried s.device ≡ set (carried d) 7 after.latest.serial
  -- "The event names the identifier that was lost"
  pub named : values s.given ≡ over_latest (newest r.ledger)
  -- and that frame is the one that the list now leaves out
  pub lost : replaced after.ledger ≡ replaced r.ledger ++ (newest r.ledger ∷ [])

-- By nothing else is a frame replaced; a clearing begins the list anew.
abbrev pub NoneReplaced : Records → Records → Type 0
NoneReplaced r after = (replaced after.ledger ≡ replaced r.ledger) ⊎ (after.ledger ≡ empty_ledger)

abbrev pub LossTold : Device → Records → Step → Records → Type 0
LossTold d r s after =
    (says_over s.given ≡ true → Exchanged d r s after) × (says_over s.given ≡ false → NoneReplaced r after)
