-- The question of the arrival numbers (02, g)): "the layer above can read it". It refuses a device that is out of
-- range, as an event does.
use Rattle.std.specs.Prelude.{List, ℕ, ltb, get_or, Result, Ok, Err}
use Rattle.base.specs.Pick.{pick}
use Rattle.base.specs.Tabulate.{tabulate}
use Rattle.fifo.specs.Queue.{place}
use Rattle.chip.specs.declared.Device.{Device}
use Rattle.chip.specs.Proper.{proper}
use Rattle.refusal.specs.declared.Refusal.{Refusal}
use Rattle.refusal.specs.declared.Refusal.TheVariants.{OutOfRange}
use Rattle.bus.specs.declared.types.Numbers.{Numbers}

-- that of the message k behind the oldest; 0 where none waits there
unfoldable pub waiting_number : Device → ℕ → ℕ
waiting_number d k = pick (ltb k d.rx.count) (get_or d.serials.places (place d.rx k) 0) 0

-- oldest first
unfoldable pub waiting_numbers : Device → List ℕ
waiting_numbers d = tabulate (waiting_number d) 0 8

unfoldable pub numbers : Device → Result Numbers Refusal
numbers d =
    pick (proper d)
    (Ok (record { last = d.serials.last; temp = d.serials.temp; count = d.rx.count; waiting = waiting_numbers d }))
    (Err OutOfRange)
