-- A scan that comes, INT, and the terminal when it is switched on. Assumes nothing.
use mathlib.Core.Path.{◌≡◌, refl, sym, ◌∙◌, ap}
use mathlib.Core.Bool.{Bool, true, false, not}
use mathlib.Core.List.{List, [], ◌∷◌}
use Prim.Native.Nat.{ℕ, ◌+◌, ◌-◌, ◌^◌, ◌<◌}
use native.Mathlib.Omega.{arith}
use borrow.Author.Tests.{ne_eqb, lt-leb}
use lib.Bits.{bit_or}
use lib.Dec.{eqb}
use lib.ListN.{length, length-append}
use Rattle.base.specs.Pick.{pick}
use Rattle.counters.specs.declared.Counters.{Counters}
use Rattle.chip.specs.declared.Device.{Device}
use Rattle.chip.specs.State.{fresh, normal}
use Rattle.events.specs.declared.Event.TheVariants.{GoodFrame}
use Rattle.bus.specs.Pins.{pins}
use Rattle.bus.specs.declared.types.Pins.{Pins}
use Rattle.promise.specs.Hits.{filhit_of}
use Rattle.promise.specs.Sequence.{Input, spi, wire, shipped as step, number, fate}
use Rattle.promise.specs.Commands.{is_command, lengths_of, sets_up, transfer_fits}
use Rattle.promise.specs.Flags.{mchg}
use Rattle.promise.specs.Frames.{Frame}
use Rattle.promise.specs.Ledger.{kept}
use Rattle.promise.specs.Numbers.{none_behind, finds_none, cannot_be, gets_number, number_due}
use Rattle.promise.specs.Arrivals.{arriving, values_due}
use Rattle.promise.specs.Noted.{frame_met, commanded, happened}
use Rattle.promise.specs.Records.{Records, start, with_settings, with_flags}
use Rattle.promise.specs.Registers.{intf, pins_shown, share}
use Rattle.promise.specs.Settings.{Settings, filton, mode_named, at_power_up, with_inte, with_mode}
use Rattle.promise.proofs.After.{pinned}
use Rattle.promise.proofs.Ledgers.{kept_more}
use Rattle.terminal.specs.Terminal.{written, switched_on, scanner, brought, Listens, Reached, Wakes}
use Rattle.terminal.proofs.Doing.{further, book, Has, has, given_due, book_more, has_more, book_after, acts, on_now, unfiltered_now, left_now, listens_on}

-- RXTMP and RXFIFO, up already or not
raised_again : (t : Bool) → bit_or (bit_or (pick t 0 0xC0) 0x80) 0x40 ≡ 0xC0
raised_again true = refl
raised_again false = refl

by_count : (t : Bool) → share (pick t 0 0xC0) 0x40 ≡ not t
by_count true = refl
by_count false = refl

module _ {d : Device} (h : Reached d) (listens : Listens d) where
  abbrev r : Records
  r = book h

  -- ---- a scan comes

  module _ (few : d.rx.count < 8) (left : d.serials.last < 2 ^ 64 - 1) (scan : List ℕ) where
    abbrev pub comes : Input
    comes = wire (GoodFrame scanner true 8) scan

    abbrev pub f : Frame
    f = arriving r scanner scan

    told : values_due r (GoodFrame scanner true 8) scan ≡ 0 ∷ []
    told = rw (acts h listens, on_now h listens, unfiltered_now h listens, left_now h listens, lt-leb 8 d.rx.count few)

    -- there is an arrival number left for it
    number_left : none_behind r.arrivals ≡ false
    number_left = ne_eqb r.arrivals (2 ^ 64 - 1) (λ last. omega (arith, last, left, (has h).last))

    done_now : number (step d comes).given ≡ 0
    unfolding number_due cannot_be gets_number
    done_now = (given_due h comes).0 ∙ rw (acts h listens, on_now h listens, number_left)

    pub scan_book : book (further h comes) ≡ frame_met r f 0
    unfolding happened
    scan_book = book_more h comes ∙ rw done_now (ap (λ (told : List ℕ). happened r (GoodFrame scanner true 8) scan (fate told)) told)

    scan_has : Has (brought d scan) (frame_met r f 0)
    scan_has = has_more h comes (frame_met r f 0) scan_book

    pub scan_listens : Listens (brought d scan)
    scan_listens = listens_on h listens comes _ scan_book refl (rw (acts h listens) (on_now h listens))

    pub scan_count : (brought d scan).rx.count ≡ d.rx.count + 1
    scan_count = omega (arith, scan_has.waits, (has h).waits, ap length (kept_more r.ledger.accepted f), length-append (kept r.ledger) (f ∷ []))

    pub scan_last : (brought d scan).serials.last ≡ d.serials.last + 1
    scan_last = scan_has.last ∙ ap (λ k. k + 1) (sym (has h).last)

    scan_flags : Wakes d → (brought d scan).regs.intf ≡ 0xC0
    unfolding filhit_of
    scan_flags wakes = scan_has.flags ∙ rw (unfiltered_now h listens, ← (has h).flags, wakes) (raised_again (eqb d.rx.count 0))

    pub scan_wakes : Wakes d → Wakes (brought d scan)
    scan_wakes wakes = rw (scan_count, ne_eqb (d.rx.count + 1) 0 (λ none. omega arith)) (scan_flags wakes)

  -- ---- INT is high exactly while messages wait that raised it

  pub int_is : Wakes d → (pins d).int ≡ not (eqb d.rx.count 0)
  unfolding intf
  int_is wakes =
      let shown_now : pins d ≡ pins_shown r = rw h.is (pinned h.history) in
      ap (λ (p : Pins). p.int) shown_now
      ∙ rw (← (has h).flags, wakes, ← ap (λ (s : Settings). s.inte) (has h).settings, listens.enables) (by_count (eqb d.rx.count 0))

-- ---- the terminal is switched on: three transfers

abbrev enabled : Reached (written fresh 0x1C 0x40)
enabled = further (record { history = []; is = refl }) (spi (0x1C ∷ 0x40 ∷ []) [])

abbrev normally : Reached (written (written fresh 0x1C 0x40) 0x14 0)
normally = further enabled (spi (0x14 ∷ 0 ∷ []) [])

abbrev pub on : Reached switched_on
on = further normally (spi (0xDE ∷ []) (0 ∷ []))

-- normal mode, INTE with RXFIFOIE, and no flag up
abbrev on_records : Records
on_records = with_settings start (with_inte (with_mode at_power_up 0 normal false) 0x40)

enabled_book : book enabled ≡ with_settings start (with_inte at_power_up 0x40)
unfolding commanded number_due is_command lengths_of transfer_fits sets_up finds_none
enabled_book = book_after (record { history = []; is = refl }) (0x1C ∷ 0x40 ∷ []) [] refl

normally_book : book normally ≡ with_flags on_records (mchg ∷ [])
unfolding commanded number_due is_command lengths_of transfer_fits sets_up finds_none mode_named
normally_book = book_after enabled (0x14 ∷ 0 ∷ []) [] (rw enabled_book) ∙ rw enabled_book

pub on_book : book on ≡ on_records
unfolding commanded number_due is_command lengths_of transfer_fits sets_up finds_none
on_book = book_after normally (0xDE ∷ []) (0 ∷ []) (rw normally_book) ∙ rw normally_book

on_has : Has switched_on on_records
on_has = rw (← on_book) (has on)

pub on_count : switched_on.rx.count ≡ 0
on_count = omega (arith, on_has.waits)

pub on_last : switched_on.serials.last ≡ 0
on_last = on_has.last

pub on_listens : Listens switched_on
on_listens = record {
  acts = ap (λ (s : Settings). s.acting) on_has.settings;
  unfiltered = ap filton on_has.settings;
  on = ap (λ (c : Counters). c.busoff) on_has.counters;
  enables = ap (λ (s : Settings). s.inte) on_has.settings;
}

pub on_wakes : Wakes switched_on
on_wakes = on_has.flags ∙ rw on_count
