-- A good frame as it arrived, and what a host reads of it (01, Transfers; 000, Table 5).
use Rattle.std.specs.Prelude.{◌≡◌, Bool, false, ◌&&◌, List, [], ◌∷◌, map, ℕ, ◌+◌, ◌*◌, ◌/◌, ◌%◌, ◌^◌, ◌≤◌, min, eqb, leb, ltb}
use Rattle.base.specs.Bit.{byte}
use Rattle.base.specs.Pick.{pick, flag}
use Rattle.fifo.specs.declared.Message.{Message}
use Rattle.frame.specs.declared.Header.{Header}
use Rattle.frame.specs.Received.{received}
use Rattle.promise.specs.Hits.{filhit_of}

pub record Frame : Type 0 where
  pub header : Header
  pub payload : List ℕ
  -- the time tag at its arrival, and the filters that it hit then
  pub time : ℕ
  pub hits : ℕ
  -- the arrival number that it got
  pub serial : ℕ

-- where none came: its message is all zeros, and no number was given
abbrev pub blank_header : Header
blank_header = record { id = 0; extended = false; remote = false; code = 0 }

abbrev pub blank : Frame
blank = record { header = blank_header; payload = []; time = 0; hits = 0; serial = 0 }

-- its sixteen bytes by Table 5, "what it says of the message fixed when stored"
abbrev pub message : Frame → Message
message f = record { bytes = received f.header f.payload f.time (filhit_of f.hits) }

-- "Length codes 0 to 8 mean that many bytes and 9 to 15 mean eight"; "A remote frame has none."
abbrev pub data_count : Header → ℕ
data_count h = pick h.remote 0 (min h.code 8)

-- 8 is given for "an identifier of 2^11 (standard) or 2^29 (extended) or more, a length code above 15, data bytes not
-- as many as the length code says (none for a remote frame)"
abbrev pub can_arrive : Header → ℕ → Bool
can_arrive h count =
    ltb h.id (pick h.extended (2 ^ 29) (2 ^ 11)) && (leb h.code 15 && eqb count (data_count h))

-- byte k of its data; "data bytes that the frame doesn't have read as zero"
abbrev pub data_byte : Header → List ℕ → ℕ → ℕ
data_byte h payload k = pick (leb k (data_count h)) (byte payload k) 0

-- An identifier in four bytes, with two bits that the tables put to different use: ID28..21; ID20..18, the one, IDE,
-- ID17..15; ID14..7; ID6..0, the other. A standard one has ID28 to ID18, and zeros below.
abbrev pub identifier_in : Header → ℕ → ℕ → List ℕ
identifier_in h bit4 bit0 =
    let n = h.id in
    pick h.extended
    (n / 2 ^ 21 ∷ (n / 2 ^ 18 % 8 * 32 + bit4 * 16 + 8 + n / 2 ^ 15 % 8) ∷ n / 2 ^ 7 % 256 ∷ (n % 128 * 2 + bit0) ∷ [])
    (n / 8 ∷ (n % 8 * 32 + bit4 * 16) ∷ 0 ∷ bit0 ∷ [])

-- Table 5: of an extended one "SRR and IDE as ones"; "RTR as lowest bit"
abbrev pub identifier_read : Header → List ℕ
identifier_read h = identifier_in h (flag h.extended) (flag h.remote)

-- The fields of a frame in sixteen bytes: "byte 1 as printed there", extended in bit 7 and FILHIT2..0 in bits 2 to 0;
-- "2 and 3 the time tag; 4 to 7 the identifier; 8 the length code; 9 to 16 the data", as they were given, and zeros
-- behind them.
pub record Shows (f : Frame) (m : List ℕ) : Type 0 where
  pub kind : byte m 1 ≡ flag f.header.extended * 128 + filhit_of f.hits % 8
  pub time : map (byte m) (2 ∷ 3 ∷ []) ≡ f.time / 256 ∷ f.time % 256 ∷ []
  pub identifier : map (byte m) (4 ∷ 5 ∷ 6 ∷ 7 ∷ []) ≡ identifier_read f.header
  pub code : byte m 8 ≡ f.header.code
  pub bytes : (k : ℕ) → 1 ≤ k → k ≤ 8 → byte m (8 + k) ≡ data_byte f.header f.payload k
