-- The length rule, and which headers a frame can have (01, Transfers and Bus events).
use Rattle.std.specs.Prelude.{Bool, ◌&&◌, List, ◌++◌, ℕ, ◌-◌, ◌^◌, leb, ltb, eqb, take, replicate}
use Rattle.base.specs.Pick.{pick}
use Rattle.frame.specs.declared.Header.{Header}

-- "Length codes 0 to 8 mean that many bytes and 9 to 15 mean eight"
unfoldable pub data_length : ℕ → ℕ
data_length code = pick (leb code 8) code 8

-- "A remote frame has none."
unfoldable pub data_bytes : Header → ℕ
data_bytes h = pick h.remote 0 (data_length h.code)

-- Number 8 is given for "an identifier of 2^11 (standard) or 2^29 (extended) or more, a length code above 15"
unfoldable pub possible : Header → Bool
possible h = ltb h.id (pick h.extended (2 ^ 29) (2 ^ 11)) && leb h.code 15

-- and for "data bytes not as many as the length code says (none for a remote frame)"
unfoldable pub data_fits : Header → ℕ → Bool
data_fits h given = eqb given (data_bytes h)

-- the eight bytes that stand for a frame's data: "data bytes that the frame doesn't have read as zero"
unfoldable pub data_of : Header → List ℕ → List ℕ
data_of h bytes = take (data_bytes h) bytes ++ replicate (8 - data_bytes h) 0
