-- The message that 0x12 brings, read from the bytes after the command (01, Transfers; 000, Table 2).
use Rattle.std.specs.Prelude.{◌≡◌, Bool, true, false, ◌&&◌, List, ◌∷◌, ◌++◌, ℕ, ◌+◌, ◌*◌, ◌/◌, ◌%◌, ◌^◌, leb, length, drop, replicate}
use Rattle.base.specs.Bit.{byte, is_set}
use Rattle.base.specs.Pick.{pick}
use Rattle.base.specs.Tabulate.{tabulate}
use Rattle.fifo.specs.declared.Message.{Message}
use Rattle.frame.specs.declared.Header.{Header}
use Rattle.promise.specs.Frames.{blank_header, data_count, can_arrive, data_byte, identifier_read}

pub record Own : Type 0 where
  pub tag : ℕ
  pub header : Header
  -- its data bytes, and zeros up to eight
  pub eight : List ℕ

-- where none is: all zeros
abbrev pub no_message : Own
no_message = record { tag = 0; header = blank_header; eight = replicate 8 0 }

-- "in 0x12 the IDE bit alone tells the kind; SRR and unused bits are ignored"
abbrev pub marks_extended : List ℕ → Bool
marks_extended s = is_set 3 (byte s 3)

-- "tag, identifier (2 or 4 bytes), length code, data"
abbrev pub data_from : List ℕ → ℕ
data_from s = pick (marks_extended s) 6 4

-- "a standard one has ID28..21 in the first byte, ID20..18 in the second's upper three bits, then RTR"; "the upper
-- half of the length byte is ignored"
abbrev pub standard_written : List ℕ → Header
standard_written s = record {
  id = (byte s 2 * 8 + byte s 3 / 32 % 8) % 2 ^ 11;
  extended = false;
  remote = is_set 4 (byte s 3);
  code = byte s 4 % 16;
}

-- "An extended one adds, in the second byte, SRR and IDE as ones and ID17..15, then ID14..7, then ID6..0 with RTR as
-- lowest bit."
abbrev pub extended_written : List ℕ → Header
extended_written s = record {
  id = (byte s 2 * 2 ^ 21 + byte s 3 / 32 % 8 * 2 ^ 18 + byte s 3 % 8 * 2 ^ 15 +
      byte s 4 * 2 ^ 7 + byte s 5 / 2 % 128) % 2 ^ 29;
  extended = true;
  remote = is_set 0 (byte s 5);
  code = byte s 6 % 16;
}

abbrev pub header_written : List ℕ → Header
header_written s = pick (marks_extended s) (extended_written s) (standard_written s)

-- "0x12 takes 4 to 12 bytes after it for a standard frame, 6 to 14 for an extended one", and all data bytes that it has
abbrev pub message_fits : List ℕ → Bool
message_fits s = leb (data_from s + data_count (header_written s)) (length s) && leb (length s) (data_from s + 8)

abbrev pub message_in : List ℕ → Own
message_in s = record {
  tag = byte s 1;
  header = header_written s;
  eight = tabulate (data_byte (header_written s) (drop (data_from s) s)) 1 8;
}

-- As the transmit FIFO keeps it, in Table 5's places: the tag for byte 1, and no time yet.
abbrev pub own_message : Own → Message
own_message m = record { bytes = m.tag ∷ 0 ∷ 0 ∷ identifier_read m.header ++ m.header.code ∷ m.eight }

-- one that can have come by 0x12: a header that can be, and zeros behind its data
abbrev pub Sendable : Own → Type 0
Sendable m =
    (can_arrive m.header (data_count m.header) ≡ true)
    × (tabulate (data_byte m.header m.eight) 1 8 ≡ m.eight)
