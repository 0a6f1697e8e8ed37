-- The settings: what the host wrote, the mode that acts, and whether a sleep waits (01, Modes and filters; 000's
-- pages of CTRL0 and CTRL1).
use Rattle.std.specs.Prelude.{Bool, false, not, ◌&&◌, ◌||◌, List, [], ◌∷◌, ◌++◌, map, ℕ, ◌+◌, ◌*◌, ◌/◌, ◌%◌, eqb, set, replicate}
use Rattle.base.specs.Bit.{byte, is_set}
use Rattle.base.specs.Pick.{pick, among}
use Rattle.chip.specs.declared.Device.{Device}
use Rattle.chip.specs.declared.Pattern.{Pattern}
pub use Rattle.promise.specs.Parts.{Settings, with_ctrl1, with_btr0, with_btr1, with_inte, with_statfe}
pub use Rattle.promise.specs.Parts.{with_gpine, with_filters, with_masks, with_pin, with_mode}
use Rattle.promise.specs.Commands.{filter_writes, mask_writes, numbered}

-- ---- the bits that act

-- the modes, each by the lowest MODE that names it
abbrev pub normal : ℕ
normal = 0b000

abbrev pub loopback : ℕ
loopback = 0b001

abbrev pub monitor : ℕ
monitor = 0b010

abbrev pub sleep : ℕ
sleep = 0b011

abbrev pub initialization : ℕ
initialization = 0b100

-- "MODE 000 is normal, 001 loopback, 010 monitor, 011 sleep, 1xx initialization": CTRL0's bits 7 to 5
unfoldable pub mode_named : ℕ → ℕ
mode_named ctrl0 =
    among (ctrl0 / 32) ((0b000, normal) ∷ (0b001, loopback) ∷ (0b010, monitor) ∷ (0b011, sleep) ∷ []) initialization

-- CTRL0: WAKEUP is bit 4, RESET bit 3 of the byte written, BOR bit 2
abbrev pub wakeup : Settings → Bool
wakeup s = is_set 4 s.ctrl0

abbrev pub asks_reset : ℕ → Bool
asks_reset value = is_set 3 value

abbrev pub bor : Settings → Bool
bor s = is_set 2 s.ctrl0

-- CTRL1: TXEN is bit 7, TX1M bit 6, OSM bit 5, FILTON bit 4; the TXEN pin enables too
abbrev pub enables : ℕ → Bool → Bool
enables ctrl1 pin = is_set 7 ctrl1 || (is_set 6 ctrl1 || pin)

abbrev pub osm : Settings → Bool
osm s = is_set 5 s.ctrl1

abbrev pub filton : Settings → Bool
filton s = is_set 4 s.ctrl1

-- ---- how they change

-- "reset gives initialization"; 000: "following reset, filter and mask bits are not reset". The TXEN pin is a wire.
abbrev pub reset_to : Settings → ℕ → Settings
reset_to s ctrl0 = record {
  ctrl0 = ctrl0;
  ctrl1 = 0;
  btr0 = 0;
  btr1 = 0;
  inte = 0;
  statfe = 0;
  gpine = 0;
  filters = s.filters;
  masks = s.masks;
  pin = s.pin;
  acting = initialization;
  waits = false;
}

-- "000's power-up defaults"
abbrev pub at_power_up : Settings
at_power_up = record {
  ctrl0 = 0x80;
  ctrl1 = 0;
  btr0 = 0;
  btr1 = 0;
  inte = 0;
  statfe = 0;
  gpine = 0;
  filters = replicate 8 (replicate 6 0);
  masks = replicate 8 (replicate 6 0);
  pin = false;
  acting = initialization;
  waits = false;
}

-- A write of CTRL0 without RESET. Sleep is waited for: "until then the old mode acts, while CTRL0 reads as written";
-- "A sleep write while asleep leaves the mode as it is". "Any other mode write withdraws a waiting sleep. If it names
-- a mode other than the acting one, it acts at once".
abbrev pub mode_written : Settings → ℕ → Settings
mode_written s value =
    pick (eqb (mode_named value) sleep)
    (with_mode s value s.acting (not (eqb s.acting sleep)))
    (with_mode s value (mode_named value) false)

abbrev pub asleep : Settings → Settings
asleep s = with_mode s s.ctrl0 sleep false

-- "brings monitor mode, and MODE then reads 010"
abbrev pub awake : Settings → Settings
awake s = with_mode s (s.ctrl0 % 32 + 64) monitor false

-- 0x52 and 0x54 reset TXEN and TX1M
abbrev pub disabled : Settings → Settings
disabled s = with_ctrl1 s (s.ctrl1 % 64)

-- 000, CTRL1, of TX1M: "It is reset automatically upon completion of a successful transmission or by initiation of
-- transmission if the OSM bit is set."
abbrev pub without_tx1m : Settings → Settings
without_tx1m s = with_ctrl1 s (s.ctrl1 / 128 * 128 + s.ctrl1 % 64)

-- the six bytes after the command
abbrev pub six : List ℕ → List ℕ
six bytes = map (byte bytes) (2 ∷ 3 ∷ 4 ∷ 5 ∷ 6 ∷ 7 ∷ [])

-- each register, filter and mask write but CTRL0's, which other records hear of too
abbrev pub setting_writes : Settings → List ℕ → List (ℕ × Settings)
setting_writes s bytes =
    (0x16, with_ctrl1 s (byte bytes 2)) ∷
    (0x18, with_btr0 s (byte bytes 2)) ∷
    (0x1A, with_btr1 s (byte bytes 2)) ∷
    (0x1C, with_inte s (byte bytes 2)) ∷
    (0x1E, with_statfe s (byte bytes 2)) ∷
    (0x22, with_gpine s (byte bytes 2)) ∷
    numbered 0 filter_writes (λ k. with_filters s (set s.filters k (six bytes))) ++
    numbered 0 mask_writes (λ k. with_masks s (set s.masks k (six bytes)))

-- ---- as a device has them

abbrev pub patterns : List Pattern → List (List ℕ)
patterns bank = map (λ p. p.bytes) bank

-- a sleep waits where MODE names it and another mode acts
abbrev pub settings_of : Device → Settings
settings_of d = record {
  ctrl0 = d.regs.ctrl0;
  ctrl1 = d.regs.ctrl1;
  btr0 = d.regs.btr0;
  btr1 = d.regs.btr1;
  inte = d.regs.inte;
  statfe = d.regs.statfe;
  gpine = d.regs.gpine;
  filters = patterns d.filters;
  masks = patterns d.masks;
  pin = d.txenpin;
  acting = d.acting;
  waits = eqb (mode_named d.regs.ctrl0) sleep && not (eqb d.acting sleep);
}
