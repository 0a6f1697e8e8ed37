-- The two sides of the promise that each wrong device breaks, in numbers, computed in one table. Assumes nothing.
use mathlib.Core.Path.{◌≡◌, refl}
use mathlib.Core.Bool.{Bool, true, false, not, ◌&&◌, ◌||◌}
use mathlib.Core.List.{List, [], ◌∷◌, ◌++◌, map}
use Prim.Native.Nat.{ℕ, ◌+◌, ◌-◌, ◌%◌}
use borrow.Author.Tests.{eq-eqb}
use lib.Dec.{eqb, leb, ltb}
use lib.ListN.{length, replicate, get_or, set}
use Rattle.std.specs.Prelude.{Option, Some, None, Result, Ok, Err, is_some}
use Rattle.base.specs.Bit.{bit, byte}
use Rattle.base.specs.Pick.{pick, flag}
use Rattle.counters.specs.declared.Counters.{Counters}
use Rattle.counters.specs.Rules
use Rattle.fifo.specs.declared.Message.{Message}
use Rattle.fifo.specs.Queue.{waiting}
use Rattle.fifo.specs.Queue
use Rattle.frame.specs.Length
use Rattle.frame.specs.Received
use Rattle.frame.specs.Tables
use Rattle.filter.specs.Hits as FilterHits
use Rattle.filter.specs.Match
use Rattle.filter.specs.First
use Rattle.levels.specs.Levels
use Rattle.to_send.specs.ToSend
use Rattle.chip.specs.declared.Device.{Device}
use Rattle.chip.specs.State.{fresh}
use Rattle.chip.specs.Proper
use Rattle.chip.specs.State
use Rattle.drawn.specs.Drawn
use Rattle.flags.specs.Flags
use Rattle.flags.specs.Reset
use Rattle.transmit.specs.Transmit
use Rattle.modes.specs.Modes
use Rattle.receive.specs.Receive
use Rattle.judged.specs.Judged
use Rattle.changed.specs.Changed
use Rattle.bus.specs.declared.types.Pins.{Pins}
use Rattle.bus.specs.Event
use Rattle.bus.specs.Hits as BusHits
use Rattle.bus.specs.Numbers as BusNumbers
use Rattle.bus.specs.Pins
use Rattle.why.specs.declared.Place.{Place}
use Rattle.why.specs.declared.Why.{Why as Explained}
use Rattle.why.specs.Why
use Rattle.events.specs.declared.Event.TheVariants.{GoodFrame}
use Rattle.commands.specs.Table
use Rattle.refusal.specs.declared.Refusal.{Refusal}
use Rattle.refusal.specs.declared.Refusal.TheVariants.{OutOfRange}
use Rattle.refusal.specs.Refusal.{number_of, number as number_for}
use Rattle.refused.specs.Refused
use Rattle.shown.specs.Shown
use Rattle.done.specs.Done
use Rattle.host.specs.Transfer
use Rattle.promise.specs.Sequence.{Input, spi, wire, Given, replied, answered, shipped, number, values, run, conversation}
use Rattle.promise.specs.Commands
use Rattle.promise.specs.Filters
use Rattle.promise.specs.Hits
use Rattle.promise.specs.Ranges
use Rattle.promise.specs.Flags.{together}
use Rattle.promise.specs.Frames.{blank, message, identifier_read}
use Rattle.promise.specs.Numbers
use Rattle.promise.specs.Numbers.{situation, number_due, is_refusal, number_given}
use Rattle.promise.specs.Outbox.{Running, none, first, alone}
use Rattle.promise.specs.Own.{own_message}
use Rattle.promise.specs.Due.{situation_of, filled}
use Rattle.promise.specs.After.{recorded}
use Rattle.promise.specs.Noted
use Rattle.promise.specs.Arrivals.{over_latest, values_due}
use Rattle.promise.specs.Ledger
use Rattle.promise.specs.Ledger.{frames, kept, replaced, oldest, newest}
use Rattle.promise.specs.Numbering
use Rattle.promise.specs.Numbering.{serials, carried, listed, reads_one, gives_one, in_eight}
use Rattle.promise.specs.Losses.{says_over}
use Rattle.promise.specs.Noted.{noted, records_by, by_the_rules, by_the_answers}
use Rattle.promise.specs.Records.{Records}
use Rattle.promise.specs.Registers
use Rattle.promise.specs.Registers.{shown, pins_shown}
use Rattle.promise.specs.Settings
use Rattle.promise.specs.Settings.{Settings, settings_of, patterns}
use Rattle.bus.specs.declared.types.Numbers.{Numbers as NumbersGiven}
use Rattle.promise.specs.Arrivals.{matching}
use Rattle.promise.specs.Questions.{unless_impossible}
use Rattle.promise.proofs.Cases.{Case, lost, undue, unsettled, miscounted, mistimed, unseen, unraised, unwritten, unlike, untold, misshown, unlike_itself}
use Rattle.promise.specs.Explanations.{counts_at, before}
use Rattle.promise.proofs.Cases.{misjudged, misanswered, changing, mistold, misasked, misled, mispointed, astray, cases}
use Rattle.promise.proofs.Cases.{uncounted, restarted, uncarried, unordered, repeated, untaken, mislisted, misnumbered}

-- ---- lists of numbers that differ

abbrev pub alike : List ℕ → List ℕ → Bool
alike [] [] = true
alike [] (y ∷ ys) = false
alike (x ∷ xs) [] = false
alike (x ∷ xs) (y ∷ ys) = eqb x y && alike xs ys

pub alike_self : (xs : List ℕ) → alike xs xs ≡ true
alike_self [] = refl
alike_self (x ∷ xs) = rw (eq-eqb x x refl) (alike_self xs)

-- ---- the two sides, in numbers

abbrev pub all_bytes : List Message → List ℕ
all_bytes [] = []
all_bytes (m ∷ ms) = m.bytes ++ all_bytes ms

abbrev pub counts : Counters → List ℕ
counts c = c.rec ∷ c.tec ∷ c.groups ∷ []

abbrev pub joined : List (List ℕ) → List ℕ
joined [] = []
joined (p ∷ ps) = p ++ joined ps

-- CTRL0, CTRL1, the mode that acts, and the filters
abbrev pub setting_bytes : Settings → List ℕ
setting_bytes s = s.ctrl0 ∷ s.ctrl1 ∷ s.acting ∷ joined s.filters

abbrev pub levels : Pins → List ℕ
levels p = flag p.int ∷ flag p.stat ∷ flag p.gp1 ∷ flag p.gp2 ∷ []

-- what a transfer leaves in the lent buffer, and what an event says
abbrev pub left : Given → List ℕ
left (replied answer buffer) = buffer
left (answered a) = []

abbrev pub numbers : Input → Given → List ℕ
numbers (spi bytes buffer) given = number given ∷ left given
numbers (wire e payload) given = number given ∷ values given

abbrev pub numbers_due : Records → Input → List ℕ
numbers_due r (spi bytes buffer) =
    let n = number_due (situation_of r) (spi bytes buffer) in
    n ∷ pick (eqb n 0) (filled (shown r (byte bytes 1)) buffer) buffer
numbers_due r (wire e payload) =
    let n = number_due (situation_of r) (wire e payload) in
    n ∷ pick (eqb n 0) (values_due r e payload) []

-- the transmit buffer while a message runs, and that message
abbrev pub buffered : Message → Running → List ℕ
buffered buffer none = []
buffered buffer (first m) = buffer.bytes
buffered buffer (alone m) = buffer.bytes

abbrev pub running_bytes : Running → List ℕ
running_bytes none = []
running_bytes (first m) = (own_message m).bytes
running_bytes (alone m) = (own_message m).bytes

-- the set that a question is given, and its number with it
abbrev pub set_in : Result ℕ Refusal → ℕ
set_in (Ok set) = set
set_in (Err refusal) = 0

abbrev pub shown_hits : Result ℕ Refusal → List ℕ
shown_hits given = number_of given ∷ set_in given ∷ []

-- of a place, if there is one: whether it counts, whether filter and frame are alike there, and whether they are at
-- another bit, if that counts and comes before it
abbrev pub pointed_at : List ℕ → List ℕ → List ℕ → ℕ × ℕ → Option Place → List ℕ
pointed_at frame filter mask at None = []
pointed_at frame filter mask at (Some p) =
    flag (counts_at mask p.byte p.bit) ∷
    flag (eqb p.wanted p.came) ∷
    flag (not (before at.0 at.1 p && counts_at mask at.0 at.1) || eqb (bit at.1 (byte frame at.0)) (bit at.1 (byte filter at.0))) ∷
    []

-- how many the ledger has, and how many it leaves out
abbrev pub counted : Records → List ℕ
counted r = length r.ledger.accepted ∷ length (replaced r.ledger) ∷ []

-- how many more it leaves out, none after a clearing
abbrev pub lost_since : Records → Records → ℕ
lost_since r after = length (replaced after.ledger) - length (replaced r.ledger)

-- of a device, how many messages wait, and whether one runs
abbrev pub waits_and_runs : Device → List ℕ
waits_and_runs d = d.rx.count ∷ d.sending ∷ []

-- whether numbers rise strictly, and whether two places of a list have the same
abbrev pub rises : ℕ → ℕ → List ℕ → Bool
rises above last [] = leb above last
rises above last (n ∷ ns) = ltb above n && rises n last ns

abbrev pub same_at : List ℕ → ℕ → ℕ → Bool
same_at ns i j = ltb i j && (ltb j (length ns) && eqb (get_or ns i 0) (get_or ns j 0))

-- all that is told of the arrival numbers
abbrev pub told_in : Result NumbersGiven Refusal → List ℕ
told_in (Ok told) = 0 ∷ told.last ∷ told.temp ∷ told.count ∷ told.waiting
told_in (Err refusal) = number_for refusal ∷ []

-- what the device comes to, and what its promise says
abbrev pub sides : Case → List ℕ × List ℕ
sides (lost w is) = (
  all_bytes (map message (recorded w is).ledger.taken ++ waiting (run w fresh is).rx),
  all_bytes (map message (kept (recorded w is).ledger)),
)
sides (undue w is i) = (numbers i (w (run w fresh is) i).given, numbers_due (recorded w is) i)
sides (unsettled w is) = (setting_bytes (settings_of (run w fresh is)), setting_bytes (recorded w is).settings)
sides (miscounted w is) = (counts (run w fresh is).counters, counts (recorded w is).counters)
sides (mistimed w is) = ((run w fresh is).time ∷ [], (recorded w is).ticks % 65536 ∷ [])
sides (unseen w is) = ((run w fresh is).regs.errs ∷ [], together (recorded w is).kinds ∷ [])
sides (unraised w is) = ((run w fresh is).regs.intf ∷ [], together (recorded w is).flags ∷ [])
sides (unwritten w is) = (
  all_bytes (waiting (run w fresh is).tx) ++ buffered (run w fresh is).buffer (recorded w is).outbox.running,
  all_bytes (map own_message (recorded w is).outbox.queue) ++ running_bytes (recorded w is).outbox.running,
)
sides (unlike w is) = (counted (records_by by_the_answers (conversation w fresh is)), counted (recorded w is))
sides (untold w is i) =
    let r = recorded w is in
    let given : Given = (w (run w fresh is) i).given in
    let after = noted by_the_rules r i given in (
      pick (says_over given)
          (length (waiting (run w fresh is).rx) ∷ values given ++ carried (w (run w fresh is) i).device ++ all_bytes (waiting (w (run w fresh is) i).device.rx))
          (lost_since r after ∷ []),
      pick (says_over given)
          (8 ∷ over_latest (newest r.ledger) ++ set (carried (run w fresh is)) 7 after.latest.serial ++ all_bytes (set (waiting (run w fresh is).rx) 7 (message after.latest)))
          (0 ∷ []),
    )
sides (misshown look is) = (levels (look (run shipped fresh is)), levels (pins_shown (recorded shipped is)))
sides (unlike_itself w is) = (
  map (byte (message (get_or (frames (recorded w is).ledger) 0 blank)).bytes) (4 ∷ 5 ∷ 6 ∷ 7 ∷ []),
  identifier_read (get_or (frames (recorded w is).ledger) 0 blank).header,
)
sides (misjudged w d i) = (number_given w d i ∷ [], number_due (situation d) i ∷ [])
sides (misanswered w d i) = (flag (is_refusal (w d i).given) ∷ [], flag (not (eqb (number_due (situation d) i) 0)) ∷ [])
sides (changing w d i) = (waits_and_runs (pick (eqb (number_given w d i) 0) d (w d i).device), waits_and_runs d)
sides (mistold ask is h count payload) = (
  shown_hits (ask (run shipped fresh is) h count payload),
  shown_hits (unless_impossible h count (matching (recorded shipped is).settings h payload)),
)
sides (misasked ask d h count payload) = (
  shown_hits (ask d h count payload),
  shown_hits (pick (Ranges.device_in_range d) (unless_impossible h count (set_in (ask d h count payload))) (Err OutOfRange)),
)
sides (misled explain d h acknowledged count payload) =
    let i : Input = wire (GoodFrame h acknowledged count) payload in
    (numbers i (answered (explain d h acknowledged count payload).answer), numbers i (shipped d i).given)
sides (mispointed explain d h acknowledged count payload at) =
    let w : Explained = explain d h acknowledged count payload in (
      pick (Why.no_filter w.answer)
          (pointed_at (Filters.compared h payload) (get_or (patterns d.filters) 0 []) (get_or (patterns d.masks) 0 []) at (get_or w.places 0 None))
          (map (λ p. flag (is_some p)) w.places),
      pick (Why.no_filter w.answer) (1 ∷ 0 ∷ 1 ∷ []) (replicate 8 0),
    )
sides (uncounted w is) = ((run w fresh is).serials.last ∷ [], (recorded w is).arrivals ∷ [])
sides (restarted w d i) = ((w d i).device.serials.last ∷ [], (d.serials.last + flag (gives_one (w d i).given)) ∷ [])
sides (uncarried w is) =
    let r = recorded w is in
    ((run w fresh is).serials.temp ∷ listed (run w fresh is) r, r.latest.serial ∷ serials (kept r.ledger))
sides (unordered w is) = (flag (rises 0 (run w fresh is).serials.last (carried (run w fresh is))) ∷ [], 1 ∷ [])
sides (repeated w is i j) = (flag (same_at (listed (run w fresh is) (recorded w is)) i j) ∷ [], 0 ∷ [])
sides (untaken w is i) =
    let d = run w fresh is in
    let reads = reads_one i (w d i).given in
    (pick reads (carried d) [], pick reads ((oldest (recorded w is).ledger).serial ∷ carried (w d i).device) [])
sides (mislisted list is) =
    let r = recorded shipped is in (
      told_in (list (run shipped fresh is)),
      0 ∷ r.arrivals ∷ r.latest.serial ∷ Ledger.left r.ledger ∷ in_eight (serials (Numbering.untaken r.ledger)),
    )
sides (misnumbered list d) = (
  pick (Ranges.device_in_range d) (number_of (list d) ∷ []) (told_in (list d)),
  pick (Ranges.device_in_range d) (0 ∷ []) (told_in (Err OutOfRange)),
)
sides (astray w d r holds i) = (numbers i (w d i).given, numbers_due r i)

pub differ : map (λ c. alike (sides c).0 (sides c).1) cases ≡ replicate (length cases) false
unfolding Transfer.transfer Transfer.reply_after Refused.length_fits Refused.sets_up Refused.outside_set_up Refused.finds_full Refused.reads_message
    Refused.finds_none Refused.row_judged Refused.verdict Proper.registers_in_range Proper.sending_in_range Proper.acting_in_range
    Proper.proper State.mode_of State.fresh State.enabled State.bank Queue.empty Queue.put Queue.place_over Queue.put_over Queue.latest Queue.take Queue.next Queue.in_range Table.rows
    ToSend.header_to_send ToSend.right_length ToSend.message_of ToSend.stored Done.pattern Done.registers_after Done.register_changed Done.message_taken
    Done.entry_taken Done.receive_cleared Done.time_reset Done.message_written Done.filter_written Done.mask_written Done.rec_written Done.tec_written
    Done.does Modes.mode_changed Modes.ctrl0_written Modes.can_sleep Modes.bus_quiet Modes.bus_activity Flags.raised Flags.bus_error Reset.reset Receive.matching
    Receive.hits Receive.own_frame Receive.over_latest Receive.filters_and_room Receive.is_queued Receive.reaches_temporary Receive.next_serial Receive.serials_after Receive.queued_flag Receive.filter_flag Receive.queue_after
    Receive.arrived FilterHits.hits FilterHits.filhit Match.matches Length.data_length Length.data_bytes Length.possible Length.data_fits Length.data_of
    Ranges.device_in_range Filters.hits_of Hits.filhit_of Received.received Received.header_in Tables.id_bits Tables.id_to_send Tables.id_as_read Tables.compared Judged.quiet_mode Judged.no_errors Judged.runs
    Judged.impossible_frame Judged.impossible Judged.takes_no_frames Judged.unacknowledged Judged.reason Judged.said Judged.gives_number Judged.no_number_left Judged.bus_frame Judged.brings Changed.err_bit
    Changed.counted_frame Changed.heard Changed.taken Changed.counted_receive_error Changed.receive_error_met Changed.dominant_met
    Changed.counted_transmit_error Changed.transmit_error_met Changed.recessive_met Changed.ticked Changed.pin_set Changed.arrival Changed.after
    Event.arrival_values Event.values_of Event.answered Event.answer Event.event BusHits.hits BusNumbers.waiting_number BusNumbers.waiting_numbers BusNumbers.numbers Why.first_place Why.places Why.is_a4 Why.no_filter Why.explained First.first_difference Rules.receive_error Rules.dominant_bit Rules.good_frame Rules.transmit_error
    Rules.completed Rules.eleven_recessive Rules.test_rec Rules.test_tec Transmit.sends Transmit.can_begin Transmit.without_tx1m Transmit.ctrl1_begun
    Transmit.begun Transmit.stopped Transmit.aborted Transmit.left_alone Transmit.cleared Transmit.stamped Transmit.fifo_after
    Transmit.counted_completion Transmit.transmitted Shown.cut Shown.register Shown.shows
    Drawn.int Drawn.stat Drawn.gp Drawn.tstat Drawn.messtat Drawn.statf Levels.errw Levels.errp Levels.rxerrp Levels.txerrp Levels.groups_shown Levels.tec_shown Pins.pins
    Commands.is_command Commands.lengths_of Commands.sets_up Commands.transfer_fits Numbers.finds_none Numbers.cannot_be Numbers.gets_number Numbers.number_due
    Noted.happened Noted.commanded Registers.intf Registers.err Registers.statf Registers.messtat Registers.shown Settings.mode_named
differ = refl
