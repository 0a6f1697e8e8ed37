-- The copy of a reply into the buffer that a caller lent.
use Rattle.std.specs.Prelude.{List, ◌++◌, ℕ, leb, length, drop}
use Rattle.base.specs.Pick.{pick}

-- 01, Numbers given back: "A success fills the start of the buffer with the reply; later bytes stay."
-- What doesn't fit isn't begun: a buffer that is too short stays as it came.
abbrev pub put_of : List ℕ → List ℕ → List ℕ
put_of reply buffer =
    pick (leb (length reply) (length buffer))
    (reply ++ drop (length reply) buffer)
    buffer
