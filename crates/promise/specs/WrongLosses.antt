-- Devices that overwrite another message than 02 d) says, or too early, or tell it wrong.
use Rattle.std.specs.Prelude.{Bool, not, ◌&&◌, ℕ, eqb, set, Some, Ok}
use Rattle.base.specs.Bit.{is_set}
use Rattle.base.specs.Pick.{pick}
use Rattle.fifo.specs.declared.Fifo.{Fifo}
use Rattle.fifo.specs.declared.Message.{Message}
use Rattle.fifo.specs.Queue.{place, is_empty, put, take, latest_place, latest}
use Rattle.chip.specs.declared.Device.{Device}
use Rattle.receive.specs.declared.Arrival.TheVariants.{Queued}
use Rattle.receive.specs.Receive.{over_latest}
use Rattle.promise.specs.Sequence.{answered, Machine}
use Rattle.promise.specs.Wrong.{but, with_given, with_queue, tells}

-- ---- which one is lost

-- in what a frame that is told Queued-over-latest makes of the queue
abbrev pub exchanging : (Fifo → Message → Fifo) → Machine
exchanging change = but (λ d i s. pick (tells 6 s.given) (with_queue s (change d.rx (latest s.device.rx))) s)

-- a queue with the message at that place
abbrev pub at : Fifo → ℕ → Message → Fifo
at q k m = record { items = set q.items k m; first = q.first; count = q.count }

-- one that overwrites the oldest
abbrev pub over_oldest : Machine
over_oldest = exchanging (λ q m. at q (place q 0) m)

-- one that drops the frame that came
abbrev pub drops_new : Machine
drops_new = exchanging (λ q m. q)

-- one that shifts the queue: the oldest goes, and the frame comes last
abbrev pub shifts : Machine
shifts = exchanging (λ q m. put (take q) m)

-- ---- too early

-- in a frame that finds room while others wait: it overwrites the latest, and says so
abbrev pub over_early : (Device → Bool) → Machine
over_early when =
    but (λ d i s.
    pick (when d && (tells 0 s.given && not (is_empty d.rx)))
    (with_given
    (with_queue s (at d.rx (latest_place d.rx) (latest s.device.rx)))
    (answered (Ok (Some (over_latest d.rx)))))
    s)

-- with seven waiting
abbrev pub over_seventh : Machine
over_seventh = over_early (λ d. eqb d.rx.count 7)

-- 01: "one that answers A5 at leisure", which is now Queued-over-latest: whenever the time tag is odd
abbrev pub leisurely : Machine
leisurely = over_early (λ d. is_set 0 d.time)

-- ---- what is told

-- one that names the frame that came, and not the one that was lost
abbrev pub names_new : Machine
names_new = but (λ d i s. pick (tells 6 s.given) (with_given s (answered (Ok (Some (over_latest s.device.rx))))) s)

-- one that overwrites, and only says Queued
abbrev pub over_in_silence : Machine
over_in_silence = but (λ d i s. pick (tells 6 s.given) (with_given s (answered (Ok (Some Queued)))) s)
