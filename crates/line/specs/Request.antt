-- What a line asks for: the requests of `face`, word by word.
use Rattle.std.specs.Prelude.{Bool, ◌&&◌, List, [], ◌∷◌, ℕ, ◌%◌, Option, Some, None, Ok, Err, min, leb, length, take, drop, replicate}
use Rattle.base.specs.Pick.{pick}
use Rattle.frame.specs.declared.Header.{Header}
use Rattle.events.specs.declared.ErrorKind.{ErrorKind}
use Rattle.events.specs.declared.ErrorKind.TheVariants.{Stuff, Ack, Crc, Form, Bit}
use Rattle.events.specs.declared.Event.TheVariants.{GoodFrame, ReceiveError, DominantBit, TransmitError, Begun, Completed}
use Rattle.events.specs.declared.Event.TheVariants.{ArbitrationLost, ElevenRecessive, BusQuiet, BusActivity}
use Rattle.events.specs.declared.Event.TheVariants.{Ticks, TxenPin, MrPin}
use Rattle.line.specs.declared.Expected.{Expected}
use Rattle.line.specs.declared.Expected.TheVariants.{Request, Lent, Identifier, StdOrExt, DataOrRemote}
use Rattle.line.specs.declared.Expected.TheVariants.{LengthCode, AckOrNoack, Error, CountedOrExempt, Count}
use Rattle.line.specs.declared.Expected.TheVariants.{ZeroOrOne, EndOfLine}
use Rattle.line.specs.declared.Asked.{Asked}
use Rattle.line.specs.declared.Asked.TheVariants.{Nothing, Transfer, Happens, Pins, Numbers, Hits, Unreadable}
use Rattle.line.specs.declared.Line.{Line}
use Rattle.line.specs.declared.data.Data.{Data}
use Rattle.line.specs.Words.{uncommented, words_of, same, choice_of, among_words}
use Rattle.line.specs.Numbers.{is_number, value_of, number_as, most}
use Rattle.line.specs.Steps.{Read, ◌>>=◌, meant, word_as}
use Rattle.line.specs.Data.{held, head, data_of}
use Rattle.line.specs.Text.{ascii}

-- ---- answers

-- what comes without data has zeros in its place
abbrev pub plain : Asked → Line
plain a = record { asked = a; bytes = replicate 16 0; count = 0 }

abbrev pub carrying : Asked → Data → Line
carrying a d = record { asked = a; bytes = d.bytes; count = d.count }

abbrev pub with_data : Asked → List ℕ → Line
with_data a bytes = carrying a (held bytes)

-- the word that was read where e was expected: its first sixteen bytes and its whole length, which is 0 where no word
-- is left
abbrev pub unreadable : Expected → List ℕ → Line
unreadable e w = record { asked = Unreadable e; bytes = head w; count = length w }

abbrev pub line_of : Read Line → Line
line_of (Ok l) = l
line_of (Err wrong) = unreadable wrong.0 wrong.1

-- a complete request is followed by nothing
unfoldable pub ending : Asked → List (List ℕ) → Read Line
ending a [] = Ok (plain a)
ending a (w ∷ ws) = Err (EndOfLine, w)

-- ---- `spi B B …`: a reply buffer of sixteen bytes; `spi/N B B …`: one of N, in decimal, 0 to 16

unfoldable pub transfer_of : ℕ → List (List ℕ) → Read Line
transfer_of lent ws = do
  d ← data_of ws
  Ok (carrying (Transfer lent) d)

-- how large a buffer, by what follows `spi/`
unfoldable pub lent_of : List ℕ → Option ℕ
lent_of size = pick (is_number 10 size && leb (value_of 10 size) 16) (Some (value_of 10 size)) None

unfoldable pub sized_of : List ℕ → List ℕ → List (List ℕ) → Read Line
sized_of w size ws = do
  lent ← meant (lent_of size) Lent w
  transfer_of lent ws

-- ---- `frame ID std|ext data|remote CODE ack|noack B B …` and `hits ID std|ext data|remote CODE B B …`

abbrev pub identifier_of : List ℕ → Option ℕ
identifier_of w = number_as 16 (λ n. min n most) w

-- A code above 255 is kept as 255, which is as impossible.
abbrev pub code_of : List ℕ → Option ℕ
code_of w = number_as 10 (λ n. min n 255) w

unfoldable pub header_of : List (List ℕ) → Read (Header × List (List ℕ))
header_of ws = do
  id ← word_as identifier_of Identifier ws
  extended ← word_as (λ w. choice_of w (ascii "ext") (ascii "std")) StdOrExt id.1
  remote ← word_as (λ w. choice_of w (ascii "remote") (ascii "data")) DataOrRemote extended.1
  code ← word_as code_of LengthCode remote.1
  Ok (record { id = id.0; extended = extended.0; remote = remote.0; code = code.0 }, code.1)

abbrev pub frame_data : Header → Bool → List (List ℕ) → Read Line
frame_data h acked ws = do
  d ← data_of ws
  Ok (carrying (Happens (GoodFrame h acked d.count)) d)

unfoldable pub frame_of : List (List ℕ) → Read Line
frame_of ws = do
  header ← header_of ws
  acked ← word_as (λ w. choice_of w (ascii "ack") (ascii "noack")) AckOrNoack header.1
  frame_data header.0 acked.0 acked.1

abbrev pub hits_data : Header → List (List ℕ) → Read Line
hits_data h ws = do
  d ← data_of ws
  Ok (carrying (Hits h d.count) d)

-- Filters don't ask who acknowledged a frame.
unfoldable pub hits_of : List (List ℕ) → Read Line
hits_of ws = do
  header ← header_of ws
  hits_data header.0 header.1

-- ---- `rxerr KIND`, `txerr KIND counted|exempt`

abbrev pub kinds : List (List ℕ × Option ErrorKind)
kinds =
    (ascii "stuff", Some Stuff)
    ∷ (ascii "ack", Some Ack)
    ∷ (ascii "crc", Some Crc)
    ∷ (ascii "form", Some Form)
    ∷ (ascii "bit", Some Bit)
    ∷ []

unfoldable pub kind_of : List ℕ → Option ErrorKind
kind_of w = among_words w kinds None

unfoldable pub rxerr_of : List (List ℕ) → Read Line
rxerr_of ws = do
  kind ← word_as kind_of Error ws
  ending (Happens (ReceiveError kind.0)) kind.1

unfoldable pub txerr_of : List (List ℕ) → Read Line
txerr_of ws = do
  kind ← word_as kind_of Error ws
  counted ← word_as (λ w. choice_of w (ascii "counted") (ascii "exempt")) CountedOrExempt kind.1
  ending (Happens (TransmitError kind.0 counted.0)) counted.1

-- ---- `ticks N`, `txen 0|1`

-- The count is kept modulo 65536, which is all that a time tag of 16 bits can show of it.
unfoldable pub ticks_of : List (List ℕ) → Read Line
ticks_of ws = do
  n ← word_as (number_as 10 (λ n. n % 65536)) Count ws
  ending (Happens (Ticks n.0)) n.1

unfoldable pub txen_of : List (List ℕ) → Read Line
txen_of ws = do
  high ← word_as (λ w. choice_of w (ascii "1") (ascii "0")) ZeroOrOne ws
  ending (Happens (TxenPin high.0)) high.1

-- ---- the request's own word, w, and what follows it

-- the requests of one word
abbrev pub alones : List (List ℕ × Option Asked)
alones =
    (ascii "dominant", Some (Happens DominantBit))
    ∷ (ascii "begin", Some (Happens Begun))
    ∷ (ascii "done", Some (Happens Completed))
    ∷ (ascii "lost", Some (Happens ArbitrationLost))
    ∷ (ascii "recessive", Some (Happens ElevenRecessive))
    ∷ (ascii "quiet", Some (Happens BusQuiet))
    ∷ (ascii "activity", Some (Happens BusActivity))
    ∷ (ascii "mr", Some (Happens MrPin))
    ∷ (ascii "pins", Some Pins)
    ∷ (ascii "numbers", Some Numbers)
    ∷ []

unfoldable pub alone_of : List ℕ → Option Asked
alone_of w = among_words w alones None

unfoldable pub lone_of : List ℕ → List (List ℕ) → Read Line
lone_of w ws = do
  asked ← meant (alone_of w) Request w
  ending asked ws

-- the requests of a word and what it needs
abbrev pub longer : List (List ℕ) → List (List ℕ × Read Line)
longer ws =
    (ascii "spi", transfer_of 16 ws)
    ∷ (ascii "frame", frame_of ws)
    ∷ (ascii "hits", hits_of ws)
    ∷ (ascii "rxerr", rxerr_of ws)
    ∷ (ascii "txerr", txerr_of ws)
    ∷ (ascii "ticks", ticks_of ws)
    ∷ (ascii "txen", txen_of ws)
    ∷ []

unfoldable pub named_of : List ℕ → List (List ℕ) → Read Line
named_of w ws = pick (same (take 4 w) (ascii "spi/")) (sized_of w (drop 4 w) ws) (among_words w (longer ws) (lone_of w ws))

unfoldable pub request_of : List (List ℕ) → Read Line
request_of [] = Ok (plain Nothing)
request_of (w ∷ ws) = named_of w ws

unfoldable pub read_line : List ℕ → Line
read_line s = line_of (request_of (words_of (uncommented s)))
