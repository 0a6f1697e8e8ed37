-- A transfer, from its three questions (01, Numbers given back): what it gives back, and the lent buffer after it.
use Rattle.std.specs.Prelude.{List, ℕ, length, take, Result, Ok, Err}
use Rattle.base.specs.Put.{put_of}
use Rattle.chip.specs.declared.Device.{Device}
use Rattle.host.specs.declared.Outcome.{Outcome}
use Rattle.commands.specs.declared.Row.{Row}
use Rattle.refusal.specs.declared.Refusal.{Refusal}
use Rattle.refused.specs.Refused.{verdict}
use Rattle.shown.specs.Shown.{shows}
use Rattle.done.specs.Done.{does}

-- "A refusal leaves device and reply buffer unchanged."
abbrev pub outcome : Device → List ℕ → Result Row Refusal → Outcome
outcome d bytes (Err refused) = record { device = d; answer = Err refused }
outcome d bytes (Ok r) = record { device = does d r.verb r.index bytes; answer = Ok tt }

-- the device, the transfer's bytes, the lent buffer's length
unfoldable pub transfer : Device → List ℕ → ℕ → Outcome
transfer d bytes lent = outcome d bytes (verdict d bytes lent)

-- "A success fills the start of the buffer with the reply; later bytes stay."
abbrev pub reply : Device → Result Row Refusal → List ℕ → List ℕ
reply d (Err refused) buffer = buffer
reply d (Ok r) buffer = put_of (take r.out (shows d r.verb r.index)) buffer

unfoldable pub reply_after : Device → List ℕ → List ℕ → List ℕ
reply_after d bytes buffer = reply d (verdict d bytes (length buffer)) buffer
