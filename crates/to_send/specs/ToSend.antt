-- The message that 0x12 brings, after the command byte (01, Transfers; 000, Table 2).
use Rattle.std.specs.Prelude.{Bool, true, false, ◌&&◌, Option, Some, None, List, ◌∷◌, ℕ, ◌+◌, ◌*◌, ◌%◌, ◌^◌, leb, length, drop, replicate}
use Rattle.base.specs.Bit.{bits, byte, is_set}
use Rattle.base.specs.Pick.{pick}
use Rattle.frame.specs.declared.Header.{Header}
use Rattle.to_send.specs.declared.ToSend.{ToSend}
use Rattle.frame.specs.Length.{data_bytes, data_of}
use Rattle.frame.specs.Received.{received}
use Rattle.frame.specs.Tables.{id_from}

-- "in 0x12 the IDE bit alone tells the kind; SRR and unused bits are ignored"
abbrev pub is_extended : List ℕ → Bool
is_extended s = is_set 3 (byte s 3)

-- "tag, identifier (2 or 4 bytes), length code", then the data
abbrev pub data_from : List ℕ → ℕ
data_from s = pick (is_extended s) 6 4

-- "the upper half of the length byte is ignored"
abbrev pub code_in : ℕ → ℕ
code_in x = x % 16

-- Table 2a: the identifier's two bytes and the length byte
abbrev pub standard_header : ℕ → ℕ → ℕ → Header
standard_header a b len = record { id = a * 2 ^ 3 + bits 7 5 b; extended = false; remote = is_set 4 b; code = code_in len }

-- Table 2b: the identifier's four bytes and the length byte
abbrev pub extended_header : ℕ → ℕ → ℕ → ℕ → ℕ → Header
extended_header a b c d len = record { id = id_from a b c d; extended = true; remote = is_set 0 d; code = code_in len }

unfoldable pub header_to_send : List ℕ → Header
header_to_send s =
    pick (is_extended s)
    (extended_header (byte s 2) (byte s 3) (byte s 4) (byte s 5) (byte s 6))
    (standard_header (byte s 2) (byte s 3) (byte s 4))

-- "0x12 takes 4 to 12 bytes after it for a standard frame, 6 to 14 for an extended one", and at least the data bytes
-- that the message has; bytes past those are ignored (000: "ignores data bytes greater than the DLC value").
unfoldable pub right_length : List ℕ → Bool
right_length s = leb (data_from s + data_bytes (header_to_send s)) (length s) && leb (length s) (data_from s + 8)

abbrev pub message_in : List ℕ → ToSend
message_in s = record { tag = byte s 1; header = header_to_send s; bytes = data_of (header_to_send s) (drop (data_from s) s) }

-- the empty message, ToSend's default: what stands in the place of one whose length is wrong
abbrev pub no_message : ToSend
no_message = record { tag = 0; header = record { id = 0; extended = false; remote = false; code = 0 }; bytes = replicate 8 0 }

unfoldable pub message_of : List ℕ → Option ToSend
message_of s = pick (right_length s) (Some (message_in s)) None

-- As the transmit FIFO keeps it, in Table 5's layout: the tag for byte 1, no time in bytes 2 and 3, then what a
-- receiver would read.
unfoldable pub stored : ToSend → List ℕ
stored m = m.tag ∷ drop 1 (received m.header m.bytes 0 0)
