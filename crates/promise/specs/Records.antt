-- The records: what is written down along a conversation. Settings, counters, ledger and outbox take what they need
-- from each other (Noted), and none of them sees the device.
use Rattle.std.specs.Prelude.{List, [], ℕ}
use Rattle.counters.specs.declared.Counters.{Counters}
use Rattle.promise.specs.Counting.{at_zero}
use Rattle.promise.specs.Frames.{Frame, blank}
use Rattle.promise.specs.Ledger.{Ledger, empty_ledger}
use Rattle.promise.specs.Outbox.{Outbox, emptied}
use Rattle.promise.specs.Settings.{Settings, at_power_up}

pub record Records : Type 0 where
  pub settings : Settings
  pub counters : Counters
  -- since the last 0x58 or reset
  pub ticks : ℕ
  -- the bits of ERR seen since it was last read, and those of INTF raised since it was last read or reset
  pub kinds : List ℕ
  pub flags : List ℕ
  pub ledger : Ledger
  -- the last frame that reached the temporary buffer since a reset
  pub latest : Frame
  -- how many frames got an arrival number since power-up, which is the last one given
  pub arrivals : ℕ
  pub outbox : Outbox

abbrev pub start : Records
start = record {
  settings = at_power_up;
  counters = at_zero;
  ticks = 0;
  kinds = [];
  flags = [];
  ledger = empty_ledger;
  latest = blank;
  arrivals = 0;
  outbox = emptied;
}

-- ---- the same records, but for one

abbrev pub with_settings : Records → Settings → Records
with_settings r v = record { settings = v; counters = r.counters; ticks = r.ticks; kinds = r.kinds; flags = r.flags; ledger = r.ledger; latest = r.latest; arrivals = r.arrivals; outbox = r.outbox }

abbrev pub with_counters : Records → Counters → Records
with_counters r v = record { settings = r.settings; counters = v; ticks = r.ticks; kinds = r.kinds; flags = r.flags; ledger = r.ledger; latest = r.latest; arrivals = r.arrivals; outbox = r.outbox }

abbrev pub with_ticks : Records → ℕ → Records
with_ticks r v = record { settings = r.settings; counters = r.counters; ticks = v; kinds = r.kinds; flags = r.flags; ledger = r.ledger; latest = r.latest; arrivals = r.arrivals; outbox = r.outbox }

abbrev pub with_kinds : Records → List ℕ → Records
with_kinds r v = record { settings = r.settings; counters = r.counters; ticks = r.ticks; kinds = v; flags = r.flags; ledger = r.ledger; latest = r.latest; arrivals = r.arrivals; outbox = r.outbox }

abbrev pub with_flags : Records → List ℕ → Records
with_flags r v = record { settings = r.settings; counters = r.counters; ticks = r.ticks; kinds = r.kinds; flags = v; ledger = r.ledger; latest = r.latest; arrivals = r.arrivals; outbox = r.outbox }

abbrev pub with_ledger : Records → Ledger → Records
with_ledger r v = record { settings = r.settings; counters = r.counters; ticks = r.ticks; kinds = r.kinds; flags = r.flags; ledger = v; latest = r.latest; arrivals = r.arrivals; outbox = r.outbox }

abbrev pub with_latest : Records → Frame → Records
with_latest r v = record { settings = r.settings; counters = r.counters; ticks = r.ticks; kinds = r.kinds; flags = r.flags; ledger = r.ledger; latest = v; arrivals = r.arrivals; outbox = r.outbox }

abbrev pub with_arrivals : Records → ℕ → Records
with_arrivals r v = record { settings = r.settings; counters = r.counters; ticks = r.ticks; kinds = r.kinds; flags = r.flags; ledger = r.ledger; latest = r.latest; arrivals = v; outbox = r.outbox }

abbrev pub with_outbox : Records → Outbox → Records
with_outbox r v = record { settings = r.settings; counters = r.counters; ticks = r.ticks; kinds = r.kinds; flags = r.flags; ledger = r.ledger; latest = r.latest; arrivals = r.arrivals; outbox = v }
