-- Ways to ask which filters match that the promises rule out.
use Rattle.std.specs.Prelude.{map, ℕ, ◌-◌, ◌%◌, eqb, Result, Ok, Err}
use Rattle.base.specs.Bit.{is_set}
use Rattle.base.specs.Pick.{pick}
use Rattle.chip.specs.declared.Device.{Device}
use Rattle.chip.specs.State.{filton}
use Rattle.refusal.specs.declared.Refusal.{Refusal}
use Rattle.refusal.specs.Refusal.{number_of}
use Rattle.bus.specs.Hits.{hits}
use Rattle.promise.specs.Frames.{data_count}
use Rattle.promise.specs.Hits.{eight, as_bits}
use Rattle.promise.specs.Questions.{Question}

-- told with another set
abbrev pub retold : (ℕ → ℕ) → Result ℕ Refusal → Result ℕ Refusal
retold tell (Ok set) = Ok (tell set)
retold tell (Err refused) = Err refused

abbrev pub telling : (Device → ℕ → ℕ) → Question
telling another d h count payload = retold (another d) (hits d h count payload)

-- none while FILTON is at 0
abbrev pub while_on : Question
while_on = telling (λ d set. pick (filton d) set 0)

-- filter 0 in the highest bit
abbrev pub reversed : Question
reversed = telling (λ d set. as_bits (map (λ k. is_set (7 - k) set) eight))

-- filter 7 left out
abbrev pub without_seven : Question
without_seven = telling (λ d set. set % 128)

-- 0 for a device that is out of range
abbrev pub any_device : Question
any_device d h count payload =
    let given = hits d h count payload in
    pick (eqb (number_of given) 1) (Ok 0) given

-- the set, however many data bytes the frame has
abbrev pub any_frame : Question
any_frame d h count payload = hits d h (data_count h) payload
