-- The refusals 1 to 7 (01, Numbers given back): "Checks run in rising order; the first that applies is given, and none
-- otherwise."
use Rattle.std.specs.Prelude.{Bool, true, false, not, ◌&&◌, List, [], ◌∷◌, ℕ, ◌+◌, eqb, leb, ltb, length, drop, Option, Some, None, Result, Ok, Err}
use Rattle.base.specs.Bit.{byte}
use Rattle.base.specs.Pick.{pick, among}
use Rattle.fifo.specs.Queue.{eight_wait, none_waits}
use Rattle.to_send.specs.ToSend.{right_length}
use Rattle.chip.specs.declared.Device.{Device}
use Rattle.chip.specs.Proper.{proper}
use Rattle.chip.specs.State.{initialization}
use Rattle.commands.specs.declared.Row.{Row}
use Rattle.commands.specs.Table.{rows, lookup}
use Rattle.commands.specs.Verbs.{read_message_with_time, read_message, read_data_with_time, read_data, read_history}
use Rattle.commands.specs.Verbs.{write_message, write_btr0, write_btr1, write_filter, write_mask}
use Rattle.refusal.specs.declared.Refusal.{Refusal}
use Rattle.refusal.specs.declared.Refusal.TheVariants.{OutOfRange, NoCommand, WrongLength, ShortBuffer, OutsideSetUp, FindsFull, FindsNone}

-- 3: "its length is not the command's": the command byte and what the row says comes after it; 0x12 by its message
unfoldable pub length_fits : Row → List ℕ → Bool
length_fits r bytes =
    leb (r.least + 1) (length bytes) &&
    (leb (length bytes) (r.most + 1) && pick (eqb r.verb write_message) (right_length (drop 1 bytes)) true)

-- 5: "a filter, mask or bit-timing write outside initialization mode"
unfoldable pub sets_up : ℕ → Bool
sets_up v = among v ((write_btr0, true) ∷ (write_btr1, true) ∷ (write_filter, true) ∷ (write_mask, true) ∷ []) false

unfoldable pub outside_set_up : ℕ → ℕ → Bool
outside_set_up acting v = not (eqb acting initialization) && sets_up v

-- 6: "a message is written and eight are in the transmit FIFO", by how many there are
unfoldable pub finds_full : ℕ → ℕ → Bool
finds_full waiting v = eqb v write_message && eight_wait waiting

-- 7: "a receive FIFO or history read finds none", by how many messages and entries there are
unfoldable pub reads_message : ℕ → Bool
reads_message v =
    among v ((read_message_with_time, true) ∷ (read_message, true) ∷ (read_data_with_time, true) ∷ (read_data, true) ∷ []) false

unfoldable pub finds_none : ℕ → ℕ → ℕ → Bool
finds_none waiting entries v =
    pick (reads_message v) (none_waits waiting)
    (pick (eqb v read_history) (none_waits entries) false)

-- 3 to 7 for a command in the table; 4: "the lent reply buffer is shorter than the reply"
unfoldable pub row_judged : Device → Row → List ℕ → ℕ → Result Row Refusal
row_judged d r bytes lent =
    pick (not (length_fits r bytes)) (Err WrongLength)
    (pick (ltb lent r.out) (Err ShortBuffer)
    (pick (outside_set_up d.acting r.verb) (Err OutsideSetUp)
    (pick (finds_full d.tx.count r.verb) (Err FindsFull)
    (pick (finds_none d.rx.count d.history.count r.verb) (Err FindsNone)
    (Ok r)))))

-- 2: "the command byte is not in 000's Table 1, or is a factory command"
abbrev pub found_judged : Device → Option Row → List ℕ → ℕ → Result Row Refusal
found_judged d None bytes lent = Err NoCommand
found_judged d (Some r) bytes lent = row_judged d r bytes lent

-- 1: "the state handed in has a count, place or field outside its range"; an empty transfer has no command byte to
-- judge, so it is 3
unfoldable pub verdict : Device → List ℕ → ℕ → Result Row Refusal
verdict d bytes lent =
    pick (proper d)
    (pick (eqb (length bytes) 0) (Err WrongLength) (found_judged d (lookup rows (byte bytes 1)) bytes lent))
    (Err OutOfRange)
