-- The bits of INTF and of ERR that rise and stay until they are read (000's pages of INTF and ERR).
use Rattle.std.specs.Prelude.{Bool, List, [], ◌∷◌, ℕ}
use Rattle.std.specs.Int.Bits.{bit_or}
use Rattle.base.specs.Pick.{pick}
use Rattle.events.specs.declared.ErrorKind.{ErrorKind}
use Rattle.events.specs.declared.ErrorKind.TheVariants.{Stuff, Ack, Crc, Form, Bit}

-- INTF, bits 7 to 0
abbrev pub rxtmp : ℕ
rxtmp = 0x80

abbrev pub rxfifo : ℕ
rxfifo = 0x40

abbrev pub txcplt : ℕ
txcplt = 0x20

abbrev pub buserr : ℕ
buserr = 0x10

abbrev pub mchg : ℕ
mchg = 0x08

abbrev pub wakeup_flag : ℕ
wakeup_flag = 0x04

abbrev pub f1mess : ℕ
f1mess = 0x02

abbrev pub f0mess : ℕ
f0mess = 0x01

-- ERR, bits 0 to 4: STUFERR, ACKERR, CRCERR, FRMERR, BITERR
abbrev pub kind_bit : ErrorKind → ℕ
kind_bit Stuff = 0x01
kind_bit Ack = 0x02
kind_bit Crc = 0x04
kind_bit Form = 0x08
kind_bit Bit = 0x10

-- those that rose, the last first, with one more if a condition holds
abbrev pub raise : Bool → ℕ → List ℕ → List ℕ
raise holds bit up = pick holds (bit ∷ up) up

-- all that rose, in one byte
abbrev pub together : List ℕ → ℕ
together [] = 0
together (bit ∷ up) = bit_or (together up) bit
