-- The requests of the protocol's table, read by the rules, by computation.
use mathlib.Core.Path.{◌≡◌, refl}
use mathlib.Core.Bool.{true, false}
use mathlib.Core.List.{List, [], ◌∷◌, map}
use Prim.Native.String.{String}
use Rattle.events.specs.declared.ErrorKind.TheVariants.{Crc, Form}
use Rattle.events.specs.declared.Event.TheVariants.{GoodFrame, ReceiveError, TransmitError, ElevenRecessive, Ticks, TxenPin}
use Rattle.line.specs.declared.Asked.TheVariants.{Nothing, Transfer, Happens, Pins, Numbers, Hits, Unreadable}
use Rattle.line.specs.declared.Expected.TheVariants.{Request, Byte, Lent, Identifier, StdOrExt, DataOrRemote, LengthCode}
use Rattle.line.specs.declared.Expected.TheVariants.{AckOrNoack, CountedOrExempt, EndOfLine}
use Rattle.line.specs.Numbers.{digit_of, is_number, value_of, is_byte, byte_of}
use Rattle.line.specs.Words.{choice_of}
use Rattle.line.specs.Data.{data_of}
use Rattle.line.specs.Text.{ascii}
use Rattle.line.specs.Request.{
  plain,
  unreadable,
  with_data,
  ending,
  transfer_of,
  lent_of,
  sized_of,
  header_of,
  frame_of,
  hits_of,
  kind_of,
  rxerr_of,
  txerr_of,
  ticks_of,
  txen_of,
  alone_of,
  lone_of,
  named_of,
  request_of,
  read_line,
}

abbrev pub lines : List String
lines =
    "spi 12 07 24 60 02 AA 55" ∷
    "spi/14 48 # the reply buffer has 14 bytes" ∷
    "spi" ∷
    "frame 123 std data 2 ack AA 55" ∷
    "frame 1fffffff ext remote 15 noack" ∷
    "hits 123 std data 2 AA 55" ∷
    "hits 1fffffff ext remote 15" ∷
    "rxerr crc" ∷
    "txerr form exempt" ∷
    "recessive" ∷
    "ticks 70000" ∷
    "txen 1" ∷
    "  pins\t\r" ∷
    "" ∷
    "# nothing" ∷
    "Pins" ∷
    "spi 12 0x 1" ∷
    "spi/17" ∷
    "frame" ∷
    "frame 1 standard" ∷
    "frame 1 standardidentifier" ∷
    "frame 1 std data 0 nack" ∷
    "hits 1 std" ∷
    "hits 1 std data two" ∷
    "hits 1 std data 2 ack AA 55" ∷
    "txerr form" ∷
    "pins 1" ∷
    "numbers" ∷
    "numbers 1" ∷
    []

pub worked : map (λ (t : String). read_line (ascii t)) lines
    ≡ with_data (Transfer 16) (0x12 ∷ 0x07 ∷ 0x24 ∷ 0x60 ∷ 0x02 ∷ 0xAA ∷ 0x55 ∷ []) ∷
    with_data (Transfer 14) (0x48 ∷ []) ∷
    with_data (Transfer 16) [] ∷
    with_data (Happens (GoodFrame (record { id = 0x123; extended = false; remote = false; code = 2 }) true 2)) (0xAA ∷ 0x55 ∷ []) ∷
    plain (Happens (GoodFrame (record { id = 0x1FFFFFFF; extended = true; remote = true; code = 15 }) false 0)) ∷
    with_data (Hits (record { id = 0x123; extended = false; remote = false; code = 2 }) 2) (0xAA ∷ 0x55 ∷ []) ∷
    plain (Hits (record { id = 0x1FFFFFFF; extended = true; remote = true; code = 15 }) 0) ∷
    plain (Happens (ReceiveError Crc)) ∷
    plain (Happens (TransmitError Form false)) ∷
    plain (Happens ElevenRecessive) ∷
    plain (Happens (Ticks 4464)) ∷
    plain (Happens (TxenPin true)) ∷
    plain Pins ∷
    plain Nothing ∷
    plain Nothing ∷
    unreadable Request (ascii "Pins") ∷
    unreadable Byte (ascii "0x") ∷
    unreadable Lent (ascii "spi/17") ∷
    plain (Unreadable Identifier) ∷
    unreadable StdOrExt (ascii "standard") ∷
    record { asked = Unreadable StdOrExt; bytes = ascii "standardidentifi"; count = 18 } ∷
    unreadable AckOrNoack (ascii "nack") ∷
    plain (Unreadable DataOrRemote) ∷
    unreadable LengthCode (ascii "two") ∷
    unreadable Byte (ascii "ack") ∷
    plain (Unreadable CountedOrExempt) ∷
    unreadable EndOfLine (ascii "1") ∷
    plain Numbers ∷
    unreadable EndOfLine (ascii "1") ∷
    []
unfolding digit_of is_number value_of is_byte byte_of choice_of data_of ending transfer_of lent_of sized_of header_of frame_of hits_of kind_of rxerr_of txerr_of ticks_of txen_of alone_of lone_of named_of request_of read_line
worked = refl
