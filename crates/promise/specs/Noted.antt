-- What is written down of each input, from the input and what was given for it, by 01's sentences and bytes.
use Rattle.std.specs.Prelude.{Bool, true, false, ◌&&◌, ◌||◌, ℕ, ◌+◌, eqb, length, drop}
use mathlib.Core.List.{List, [], ◌∷◌, ◌++◌, map, foldl}
use Rattle.base.specs.Bit.{byte}
use Rattle.base.specs.Pick.{pick, among}
use Rattle.counters.specs.declared.Counters.{Counters}
use Rattle.events.specs.declared.ErrorKind.{ErrorKind}
use Rattle.events.specs.declared.Event.{Event}
use Rattle.events.specs.declared.Event.TheVariants.{GoodFrame, ReceiveError, DominantBit, TransmitError, Begun}
use Rattle.events.specs.declared.Event.TheVariants.{Completed, ArbitrationLost, ElevenRecessive, BusQuiet, BusActivity}
use Rattle.events.specs.declared.Event.TheVariants.{Ticks, TxenPin, MrPin, Unknown}
use Rattle.promise.specs.Arrivals.{time, arriving, own, values_due}
use Rattle.promise.specs.Sequence.{Input, spi, wire, Given, Exchange, values, fate, done}
use Rattle.promise.specs.Commands.{message_reads, same_for}
use Rattle.promise.specs.Frames.{Frame, blank}
use Rattle.promise.specs.Hits.{filhit_of}
use Rattle.promise.specs.Records.{Records, start, with_settings, with_counters, with_ticks, with_kinds}
use Rattle.promise.specs.Records.{with_flags, with_ledger, with_latest, with_arrivals, with_outbox}
use Rattle.promise.specs.Settings.{loopback, sleep, Settings, reset_to, mode_written, asleep, awake, disabled}
use Rattle.promise.specs.Settings.{without_tx1m, with_pin, setting_writes, asks_reset, wakeup, bor, osm}
use Rattle.promise.specs.Counting.{rec_up, frame_heard, tec_up, tec_down, unless_monitor, group_met, rec_written}
use Rattle.promise.specs.Counting.{tec_written}
use Rattle.promise.specs.Flags.{rxtmp, rxfifo, txcplt, buserr, mchg, wakeup_flag, f1mess, f0mess, kind_bit, raise}
use Rattle.promise.specs.Ledger.{Ledger, empty_ledger, accepts, takes}
use Rattle.promise.specs.Own.{message_in}
use Rattle.promise.specs.Outbox.{emptied, queued, begun, halted, cleared_out, transmitted, entry_taken, rests}

-- ---- modes and resets

-- "0x5A, 0x56, the MR pin and any register bit that 000 makes a master reset clear the receive FIFO." "ERR keeps its
-- bits over a reset; so do REC, TEC and bus off"; an arrival number is "not reset by anything" (02, g)). It raises no
-- flag. CTRL0 then reads 0x80, or 0x88 by RESET.
abbrev pub reset : Records → ℕ → Records
reset r ctrl0 = record {
  settings = reset_to r.settings ctrl0;
  counters = r.counters;
  ticks = 0;
  kinds = r.kinds;
  flags = [];
  ledger = empty_ledger;
  latest = blank;
  arrivals = r.arrivals;
  outbox = emptied;
}

-- 000, INTF: MCHG "is set when the mode of operation is changed"
abbrev pub mode_changed : Records → Settings → Records
mode_changed r s = with_flags (with_settings r s) (mchg ∷ r.flags)

-- a write of CTRL0; RESET stays readable. Another mode "ends a running transmission as an abort does, TXEN and TX1M
-- kept".
abbrev pub ctrl0_written : Records → ℕ → Records
ctrl0_written r value =
    let s = mode_written r.settings value in
    pick (asks_reset value) (reset r 0x88)
    (pick (eqb s.acting r.settings.acting) (with_settings r s)
    (with_outbox (mode_changed r s) (halted r.outbox)))

-- "Sleep begins at the first bus-quiet event with the transmit FIFO empty and none in flight"
abbrev pub quiet_met : Records → Records
quiet_met r =
    pick (r.settings.waits && (eqb (length r.outbox.queue) 0 && rests r.outbox.running))
    (mode_changed r (asleep r.settings))
    r

-- "With WAKEUP set, a bus activity event or a good frame in sleep brings monitor mode"
abbrev pub activity_met : Records → Records
activity_met r =
    pick (eqb r.settings.acting sleep && wakeup r.settings)
    (with_flags (with_settings r (awake r.settings)) (wakeup_flag ∷ mchg ∷ r.flags))
    r

-- ---- frames

-- "A1 to A3 leave the temporary buffer alone. A4 … and Queued put the frame there."
abbrev pub reaches : ℕ → Bool
reaches told = among told ((1, false) ∷ (2, false) ∷ (3, false) ∷ []) true

-- Queued, or Queued-over-latest, which is "elsewhere counted as Queued" (02, d))
abbrev pub joins : ℕ → Bool
joins told = eqb told 0 || eqb told 6

abbrev pub entered : Ledger → Frame → ℕ → Ledger
entered l f told = pick (joins told) (accepts l f (eqb told 6)) l

-- A frame that reaches the temporary buffer, by what it is told: it "is not answered A1 to A3", and so gets the next
-- number (02, g)). RXTMP rises, RXFIFO if it is queued, F0MESS or F1MESS if filter 0 or 1 is the lowest match.
abbrev pub arrival_met : Records → Frame → ℕ → Records
arrival_met r f told =
    with_flags
    (with_arrivals (with_ledger (with_latest r f) (entered r.ledger f told)) (r.arrivals + 1))
    (raise (eqb (filhit_of f.hits) 0b1001) f1mess
    (raise (eqb (filhit_of f.hits) 0b1000) f0mess (raise (joins told) rxfifo (rxtmp ∷ r.flags))))

-- one from the bus; one that isn't taken is bus activity
abbrev pub frame_met : Records → Frame → ℕ → Records
frame_met r f told =
    pick (reaches told)
    (with_counters (arrival_met r f told) (frame_heard r.counters r.settings.acting))
    (activity_met r)

-- ---- errors and transmissions

-- "A kind of error is one of ERR's bits 4 to 0; the event sets that bit, also when exempt or in monitor mode."
abbrev pub error_met : Records → ErrorKind → Counters → Records
error_met r kind after = with_flags (with_kinds (with_counters r after) (kind_bit kind ∷ r.kinds)) (buserr ∷ r.flags)

abbrev pub moved : Records → Counters → Counters
moved r after = unless_monitor r.settings.acting r.counters after

abbrev pub begun_met : Records → Records
begun_met r =
    with_outbox
    (with_settings r (pick (osm r.settings) (without_tx1m r.settings) r.settings))
    (begun r.outbox)

abbrev pub completed_met : Records → Records
completed_met r =
    with_outbox
    (with_flags
    (with_counters
    (with_settings r (without_tx1m r.settings))
    (moved r (tec_down r.counters)))
    (txcplt ∷ r.flags))
    (transmitted r.outbox (time r))

-- ---- what is written down of an event that was done, by what its frame is told

unfoldable pub happened : Records → Event → List ℕ → ℕ → Records
happened r (GoodFrame h acknowledged count) payload told = frame_met r (arriving r h payload) told
happened r (ReceiveError kind) payload told = error_met r kind (moved r (rec_up r.counters 1))
happened r DominantBit payload told = with_counters r (moved r (rec_up r.counters 8))
happened r (TransmitError kind counted) payload told =
    with_outbox (error_met r kind (pick counted (moved r (tec_up r.counters)) r.counters)) (halted r.outbox)
happened r Begun payload told = begun_met r
happened r Completed payload told = completed_met (pick (eqb r.settings.acting loopback) (arrival_met r (own r) told) r)
happened r ArbitrationLost payload told = with_outbox r (halted r.outbox)
happened r ElevenRecessive payload told = with_counters r (group_met r.counters (bor r.settings))
happened r BusQuiet payload told = quiet_met r
happened r BusActivity payload told = activity_met r
happened r (Ticks count) payload told = with_ticks r (r.ticks + count)
happened r (TxenPin level) payload told = with_settings r (with_pin r.settings level)
happened r MrPin payload told = reset r 0x80
happened r Unknown payload told = r

-- ---- and of a transfer that was done, by its command

abbrev pub deeds : Records → List ℕ → List (ℕ × Records)
deeds r bytes =
    same_for message_reads (with_ledger r (takes r.ledger)) ++
    -- "ERR bits 4 to 0 clear when read"; 000, INTF: "Reading this register will clear all bits"
    (0xDC, with_kinds r []) ∷
    (0xDE, with_flags r []) ∷
    (0xEE, with_outbox r (entry_taken r.outbox)) ∷
    (0x52, with_outbox (with_settings r (disabled r.settings)) (halted r.outbox)) ∷
    (0x54, with_outbox (with_settings r (disabled r.settings)) (cleared_out r.outbox)) ∷
    (0x56, reset r 0x80) ∷
    (0x58, with_ticks r 0) ∷
    (0x5A, with_ledger r empty_ledger) ∷
    (0x12, with_outbox r (queued r.outbox (message_in (drop 1 bytes)))) ∷
    (0x14, ctrl0_written r (byte bytes 2)) ∷
    (0x24, with_counters r (rec_written r.counters (byte bytes 2))) ∷
    (0x26, with_counters r (tec_written r.counters (byte bytes 2))) ∷
    map (λ w. (w.0, with_settings r w.1)) (setting_writes r.settings bytes)

unfoldable pub commanded : Records → List ℕ → Records
commanded r bytes = among (byte bytes 1) (deeds r bytes) r

-- ---- along a conversation

-- what a frame is told: by the rules, or by what was answered
abbrev pub Told : Type 0
Told = Records → Event → List ℕ → Given → ℕ

abbrev pub by_the_rules : Told
by_the_rules r e payload given = fate (values_due r e payload)

abbrev pub by_the_answers : Told
by_the_answers r e payload given = fate (values given)

-- what was refused is not written down
abbrev pub noted : Told → Records → Input → Given → Records
noted told r (spi bytes buffer) given = pick (done given) (commanded r bytes) r
noted told r (wire e payload) given = pick (done given) (happened r e payload (told r e payload given)) r

abbrev pub records_by : Told → List Exchange → Records
records_by told exchanges = foldl (λ r x. noted told r x.0 x.1) start exchanges

abbrev pub records : List Exchange → Records
records = records_by by_the_rules
