-- The question which filters match a frame (02, c)), for people who tune them: it asks all eight, whether FILTON is on
-- or not, and refuses as an event does, 1 before 8.
use Rattle.std.specs.Prelude.{List, ℕ, Result, Ok, Err}
use Rattle.base.specs.Pick.{pick}
use Rattle.frame.specs.declared.Header.{Header}
use Rattle.chip.specs.declared.Device.{Device}
use Rattle.chip.specs.Proper.{proper}
use Rattle.receive.specs.Receive.{matching}
use Rattle.judged.specs.Judged.{impossible_frame}
use Rattle.refusal.specs.declared.Refusal.{Refusal}
use Rattle.refusal.specs.declared.Refusal.TheVariants.{OutOfRange, Impossible}

unfoldable pub hits : Device → Header → ℕ → List ℕ → Result ℕ Refusal
hits d h given bytes =
    pick (proper d)
    (pick (impossible_frame h given) (Err Impossible) (Ok (matching d h bytes)))
    (Err OutOfRange)
