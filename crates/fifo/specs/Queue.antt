-- A queue of up to eight messages, in a ring of eight places (01: "eight messages wait", "eight entries, a ninth is
-- not stored"; 02, d): "takes the eighth one's place").
use Rattle.std.specs.Prelude.{Bool, ◌&&◌, List, [], ℕ, ◌+◌, ◌-◌, ◌%◌, eqb, leb, ltb, get_or, set, replicate}
use Rattle.base.specs.Pick.{pick}
use Rattle.base.specs.Tabulate.{tabulate}
use Rattle.fifo.specs.declared.Fifo.{Fifo}
use Rattle.fifo.specs.declared.Message.{Message}

-- the message that an empty place holds
abbrev pub none : Message
none = record { bytes = replicate 16 0 }

unfoldable pub empty : Fifo
empty = record { items = replicate 8 none; first = 0; count = 0 }

-- what stands past the eighth place, which no queue has
abbrev pub absent : Message
absent = record { bytes = [] }

-- the place k steps behind the oldest message
abbrev pub place : Fifo → ℕ → ℕ
place q k = (q.first + k) % 8

-- What stands in so many of a ring's places, from a first one on: of messages, or of what each of them carries.
abbrev pub ring : {A : Type 0} → List A → A → ℕ → ℕ → List A
ring places none first count = tabulate (λ k. get_or places ((first + k) % 8) none) 0 count

-- What waits, oldest first.
abbrev pub waiting : Fifo → List Message
waiting q = ring q.items absent q.first q.count

-- "eight messages wait", and none, by how many there are
abbrev pub eight_wait : ℕ → Bool
eight_wait count = leb 8 count

abbrev pub none_waits : ℕ → Bool
none_waits count = eqb count 0

abbrev pub full : Fifo → Bool
full q = eight_wait q.count

abbrev pub is_empty : Fifo → Bool
is_empty q = none_waits q.count

-- A message comes last; where eight wait, nothing is stored.
unfoldable pub put : Fifo → Message → Fifo
put q m =
    pick (full q) q
    (record { items = set q.items (place q q.count) m; first = q.first; count = q.count + 1 })

-- the place of the latest message: seven steps on from the place behind it, which is one step back
abbrev pub latest_place : Fifo → ℕ
latest_place q = place q (q.count + 7)

-- the place that a message takes: behind the others or, where eight wait, the latest one's
unfoldable pub place_over : Fifo → ℕ
place_over q = pick (full q) (latest_place q) (place q q.count)

-- 000: "When the FIFO is full (8 completed messages received), the next received message will overwrite the latest
-- message stored in the FIFO."
unfoldable pub put_over : Fifo → Message → Fifo
put_over q m =
    pick (full q)
    (record { items = set q.items (latest_place q) m; first = q.first; count = q.count })
    (put q m)

-- The oldest is taken off.
unfoldable pub take : Fifo → Fifo
take q =
    pick (is_empty q) q
    (record { items = q.items; first = place q 1; count = q.count - 1 })

-- The oldest.
unfoldable pub next : Fifo → Message
next q = get_or q.items (place q 0) absent

-- The latest.
unfoldable pub latest : Fifo → Message
latest q = get_or q.items (latest_place q) absent

unfoldable pub in_range : Fifo → Bool
in_range q = ltb q.first 8 && leb q.count 8
