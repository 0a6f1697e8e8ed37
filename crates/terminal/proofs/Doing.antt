-- What each of the terminal's steps does, by the promises: the records say what is given, and what they have then.
-- Assumes nothing.
use mathlib.Core.Path.{◌≡◌, refl, sym, ◌∙◌, ap}
use mathlib.Core.Bool.{false, not}
use mathlib.Core.List.{List, [], ◌∷◌, ◌++◌}
use Prim.Native.Nat.{ℕ, ◌+◌, ◌*◌, ◌/◌, ◌%◌, ◌≤◌}
use native.Mathlib.Omega.{arith}
use lib.Dec.{eqb, leb}
use lib.ListN.{length, replicate, length-append}
use Rattle.std.specs.Prelude.{Ok}
use Rattle.base.specs.Bit.{is_set, byte}
use Rattle.base.specs.Pick.{flag}
use Rattle.base.proofs.Booleans.{flag_le, flag_back}
use Rattle.counters.specs.declared.Counters.{Counters}
use Rattle.chip.specs.declared.Device.{Device}
use Rattle.chip.specs.State.{fresh, normal}
use Rattle.host.specs.Transfer.{reply_after}
use Rattle.promise.specs.Sequence.{Input, spi, Given, replied, answered, shipped as step}
use Rattle.promise.specs.Commands.{is_command, lengths_of, sets_up, transfer_fits}
use Rattle.promise.specs.Flags.{together}
use Rattle.promise.specs.Ledger.{kept, left, oldest, takes}
use Rattle.promise.specs.Numbers.{finds_none, number_due}
use Rattle.promise.specs.Due.{Due, situation_of, filled}
use Rattle.promise.specs.After.{recorded}
use Rattle.promise.specs.Noted.{noted, by_the_rules, commanded}
use Rattle.promise.specs.Records.{Records, with_flags, with_ledger}
use Rattle.promise.specs.Registers.{fields, from, statf, shown}
use Rattle.promise.specs.Settings.{Settings, settings_of, filton}
use Rattle.promise.proofs.Ledgers.{counted_once}
use Rattle.promise.proofs.Steps.{run_more}
use Rattle.promise.proofs.After.{settled, counted, raised, due, last_counts, recorded_more, taken_and_left, done_due}
use Rattle.terminal.specs.Terminal.{asked, reply, status_of, Listens, Reached}

-- the lent buffer, of what a transfer gave
abbrev left_in : Given → List ℕ
left_in (replied answer buffer) = buffer
left_in (answered a) = []

-- one input more
abbrev pub further : {d : Device} → Reached d → (i : Input) → Reached (step d i).device
further h i = record {
  history = h.history ++ (i ∷ []);
  is = ap (λ (e : Device). (step e i).device) h.is ∙ sym (run_more fresh h.history i);
}

-- the records of the history that led to a device
abbrev pub book : {d : Device} → Reached d → Records
book h = recorded step h.history

-- a device has what its records have, as far as the terminal asks
pub record Has (d : Device) (r : Records) : Type 0 where
  pub settings : settings_of d ≡ r.settings
  pub counters : d.counters ≡ r.counters
  pub flags : d.regs.intf ≡ together r.flags
  pub waits : length r.ledger.taken + d.rx.count ≡ length (kept r.ledger)
  pub last : d.serials.last ≡ r.arrivals

pub has : {d : Device} (h : Reached d) → Has d (book h)
has h = record {
  settings = ap settings_of h.is ∙ settled h.history;
  counters = ap (λ (d : Device). d.counters) h.is ∙ counted h.history;
  flags = ap (λ (d : Device). d.regs.intf) h.is ∙ raised h.history;
  waits = rw h.is (taken_and_left h.history);
  last = ap (λ (d : Device). d.serials.last) h.is ∙ last_counts h.history;
}

module _ {d : Device} (h : Reached d) where
  -- what is given for an input, and the records after it
  pub given_due : (i : Input) → Due (book h) i (step d i).given
  given_due i = rw h.is (due h.history i)

  pub book_more : (i : Input) → book (further h i) ≡ noted by_the_rules (book h) i (step d i).given
  book_more i = rw h.is (recorded_more h.history i)

  pub has_more : (i : Input) (r : Records) → book (further h i) ≡ r → Has (step d i).device r
  has_more i r is = rw (← is) (has (further h i))

  -- ---- a transfer that the records let pass

  module _ (bytes buffer : List ℕ) (passes : number_due (situation_of (book h)) (spi bytes buffer) ≡ 0) where
    given_is : (step d (spi bytes buffer)).given ≡ replied (Ok tt) (filled (shown (book h) (byte bytes 1)) buffer)
    given_is = done_due (book h) bytes buffer _ (given_due (spi bytes buffer)) passes

    pub replies : reply_after d bytes buffer ≡ filled (shown (book h) (byte bytes 1)) buffer
    replies = ap left_in given_is

    pub book_after : book (further h (spi bytes buffer)) ≡ commanded (book h) bytes
    book_after = book_more (spi bytes buffer) ∙ ap (noted by_the_rules (book h) (spi bytes buffer)) given_is

-- ---- a device that listens

-- RXFMTY is bit 1 of STATF
bit_one : (a b c d e f g h : ℕ) → g ≤ 1 → h ≤ 1 → (a * 128 + b * 64 + c * 32 + d * 16 + e * 8 + f * 4 + g * 2 + h) / 2 % 2 ≡ g
bit_one a b c d e f g h p q = omega arith

empty_shown : (r : Records) → is_set 1 (statf r) ≡ eqb (left r.ledger) 0
unfolding statf
empty_shown r =
    flag_back (eqb (left r.ledger) 0) _
    (bit_one _ _ _ _ _ _ (flag (eqb (left r.ledger) 0)) (flag (leb 8 (left r.ledger))) (flag_le (eqb (left r.ledger) 0)) (flag_le (leb 8 (left r.ledger))))

module _ {d : Device} (h : Reached d) (listens : Listens d) where
  abbrev r : Records
  r = book h

  pub acts : r.settings.acting ≡ normal
  acts = ap (λ (s : Settings). s.acting) (sym (has h).settings) ∙ listens.acts

  pub on_now : r.counters.busoff ≡ false
  on_now = ap (λ (c : Counters). c.busoff) (sym (has h).counters) ∙ listens.on

  pub unfiltered_now : filton r.settings ≡ false
  unfiltered_now = ap filton (sym (has h).settings) ∙ listens.unfiltered

  pub left_now : left r.ledger ≡ d.rx.count
  left_now = omega (arith, (has h).waits, counted_once r.ledger.accepted)

  -- a step that leaves settings and bus off
  module _ (i : Input) (after : Records) (is : book (further h i) ≡ after) (same : after.settings ≡ r.settings) (on : after.counters.busoff ≡ false) where
    settings_same : settings_of (step d i).device ≡ settings_of d
    settings_same = (has_more h i after is).settings ∙ same ∙ sym (has h).settings

    pub listens_on : Listens (step d i).device
    listens_on = record {
      acts = ap (λ (s : Settings). s.acting) settings_same ∙ listens.acts;
      unfiltered = ap filton settings_same ∙ listens.unfiltered;
      on = ap (λ (c : Counters). c.busoff) (has_more h i after is).counters ∙ on;
      enables = ap (λ (s : Settings). s.inte) settings_same ∙ listens.enables;
    }

  -- ---- INTF is read

  abbrev pub ask_flags : Input
  ask_flags = spi (0xDE ∷ []) (0 ∷ [])

  flags_pass : number_due (situation_of r) ask_flags ≡ 0
  unfolding number_due is_command lengths_of transfer_fits sets_up finds_none
  flags_pass = rw acts

  pub flags_book : book (further h ask_flags) ≡ with_flags r []
  unfolding commanded
  flags_book = book_after h (0xDE ∷ []) (0 ∷ []) flags_pass

  flags_has : Has (asked d 0xDE 1) (with_flags r [])
  flags_has = has_more h ask_flags (with_flags r []) flags_book

  pub flags_listen : Listens (asked d 0xDE 1)
  flags_listen = listens_on ask_flags _ flags_book refl on_now

  pub flags_quiet : (asked d 0xDE 1).regs.intf ≡ 0
  flags_quiet = flags_has.flags

  pub flags_last : (asked d 0xDE 1).serials.last ≡ d.serials.last
  flags_last = flags_has.last ∙ sym (has h).last

  pub flags_count : (asked d 0xDE 1).rx.count ≡ d.rx.count
  flags_count = omega (arith, flags_has.waits, (has h).waits)

  -- ---- STATF is read

  abbrev pub ask_status : Input
  ask_status = spi (0xE2 ∷ []) (0 ∷ [])

  status_pass : number_due (situation_of r) ask_status ≡ 0
  unfolding number_due is_command lengths_of transfer_fits sets_up finds_none
  status_pass = rw acts

  pub status_book : book (further h ask_status) ≡ r
  unfolding commanded
  status_book = book_after h (0xE2 ∷ []) (0 ∷ []) status_pass

  status_has : Has (asked d 0xE2 1) r
  status_has = has_more h ask_status r status_book

  pub status_listens : Listens (asked d 0xE2 1)
  status_listens = listens_on ask_status _ status_book refl on_now

  pub status_quiet : (asked d 0xE2 1).regs.intf ≡ d.regs.intf
  status_quiet = status_has.flags ∙ sym (has h).flags

  pub status_last : (asked d 0xE2 1).serials.last ≡ d.serials.last
  status_last = status_has.last ∙ sym (has h).last

  pub status_count : (asked d 0xE2 1).rx.count ≡ d.rx.count
  status_count = omega (arith, status_has.waits, (has h).waits)

  -- RXFMTY says whether a message waits
  pub status_told : (status_of d).waits ≡ not (eqb d.rx.count 0)
  unfolding shown
  status_told = rw (replies h (0xE2 ∷ []) (0 ∷ []) status_pass, empty_shown r, left_now)

  -- ---- a message is read

  module _ (some : eqb d.rx.count 0 ≡ false) where
    abbrev pub ask_message : Input
    ask_message = spi (0x48 ∷ []) (replicate 14 0)

    message_pass : number_due (situation_of r) ask_message ≡ 0
    unfolding number_due is_command lengths_of transfer_fits sets_up finds_none
    message_pass = rw (acts, left_now, some)

    pub message_book : book (further h ask_message) ≡ with_ledger r (takes r.ledger)
    unfolding commanded
    message_book = book_after h (0x48 ∷ []) (replicate 14 0) message_pass

    message_has : Has (asked d 0x48 14) (with_ledger r (takes r.ledger))
    message_has = has_more h ask_message (with_ledger r (takes r.ledger)) message_book

    pub message_listens : Listens (asked d 0x48 14)
    message_listens = listens_on ask_message _ message_book refl on_now

    pub message_quiet : (asked d 0x48 14).regs.intf ≡ d.regs.intf
    message_quiet = message_has.flags ∙ sym (has h).flags

    pub message_last : (asked d 0x48 14).serials.last ≡ d.serials.last
    message_last = message_has.last ∙ sym (has h).last

    pub message_count : (asked d 0x48 14).rx.count + 1 ≡ d.rx.count
    message_count = omega (arith, message_has.waits, (has h).waits, length-append r.ledger.taken (oldest r.ledger ∷ []))

    pub message_reply : reply d 0x48 14 ≡ fields (1 ∷ from 4 16) (oldest r.ledger)
    unfolding shown
    message_reply = replies h (0x48 ∷ []) (replicate 14 0) message_pass
