-- Every command keeps a device in its ranges. Assumes nothing.
use mathlib.Core.Path.{◌≡◌, refl, sym}
use mathlib.Core.Bool.{true}
use mathlib.Core.List.{List}
use Prim.Native.Nat.{ℕ}
use borrow.Author.Tests.{eqb-true}
use lib.Dec.{eqb, leb}
use lib.ListN.{length}
use Rattle.base.specs.Bit.{byte}
use Rattle.counters.specs.Rules.{test_rec, test_tec}
use Rattle.fifo.specs.declared.Message.{Message}
use Rattle.fifo.specs.Queue.{empty, full, put}
use Rattle.chip.specs.declared.Device.{Device}
use Rattle.chip.specs.declared.Registers.{Registers}
use Rattle.chip.specs.Parts.{with_tx}
use Rattle.chip.specs.State.{fresh, mode_of, sleep, idle, first_in_fifo, alone, reset_bit}
use Rattle.flags.specs.Flags.{raised}
use Rattle.flags.specs.Reset.{reset}
use Rattle.transmit.specs.Transmit.{aborted, cleared, left_alone, stopped}
use Rattle.modes.specs.Modes.{mode_changed, ctrl0_written}
use Rattle.done.specs.Done.{register_deeds, registers_after, register_changed, message_taken, entry_taken, receive_cleared, time_reset, message_written, filter_written}
use Rattle.done.specs.Done.{mask_written, rec_written, tec_written, deeds, does}
use Rattle.promise.proofs.Among.{◌and◌, among_keeps}
use Rattle.promise.proofs.Choices.{pick_under}
use Rattle.promise.proofs.Ranges.{Ranges, InRange, empty_fits, put_fits, take_fits}
use Rattle.promise.proofs.Fits.{Grouped, grows, put_grows, left_fits, acting_le, named_fits}

module _ (d : Device) (h : InRange d) where
  pub reset_in : InRange (reset d)
  unfolding reset fresh mode_of
  reset_in = (empty_fits, empty_fits, empty_fits, h.3, h.4, refl, refl, refl)

  pub stopped_in : InRange (stopped d)
  unfolding stopped
  stopped_in = (h.0, h.1, h.2, h.3, h.4, h.5, refl, h.7)

  cleared_in : InRange (cleared d)
  unfolding cleared left_alone
  cleared_in = (h.0, empty_fits, h.2, h.3, h.4, h.5, left_fits (eqb d.sending idle) empty.count, h.7)

  written_in : (m : Message) → InRange (with_tx d (put d.tx m))
  written_in m = (
    h.0,
    put_fits d.tx m h.1,
    h.2,
    h.3,
    h.4,
    h.5,
    grows (eqb d.sending first_in_fifo) d.tx.count (put d.tx m).count (leb d.sending alone) (put_grows (full d.tx) d.tx m refl) h.6,
    h.7,
  )

  ctrl0_in : (v : ℕ) → InRange (ctrl0_written d v)
  unfolding ctrl0_written mode_changed raised stopped reset fresh mode_of
  ctrl0_in v =
      pick_under InRange (reset_bit v) _ _
      (λ resets. (empty_fits, empty_fits, empty_fits, h.3, h.4, refl, refl, refl))
      (λ stays. pick_under InRange (eqb (mode_of v) sleep) _ _
      (λ sleeps. (h.0, h.1, h.2, h.3, h.4, h.5, h.6, rw sleeps (acting_le d.acting d.regs.ctrl0 h.7)))
      (λ wakes. pick_under InRange (eqb (mode_of v) d.acting) _ _
      (λ same. (h.0, h.1, h.2, h.3, h.4, h.5, h.6, named_fits d.acting v wakes (sym (eqb-true (mode_of v) d.acting same))))
      (λ new. (h.0, h.1, h.2, h.3, h.4, h.5, refl, named_fits (mode_of v) v wakes refl))))

  register_in : (v value : ℕ) → InRange (register_changed d v value)
  unfolding register_changed registers_after
  register_in v value =
      among_keeps
      (λ v (r : Registers). Ranges d.rx d.tx d.history d.counters.groups r.errs r.mtag d.sending d.acting r.ctrl0)
      v (register_deeds d.regs value) d.regs
      ((h.0, h.1, h.2, h.3, refl, h.5, h.6, h.7) and h and h and h and h and h and h and h and tt)
      (λ out. h)

  tec_groups : (value : ℕ) → leb (test_tec d.counters value).groups 128 ≡ true
  unfolding test_tec
  tec_groups value = pick_under Grouped d.counters.busoff _ _ (λ off. h.3) (λ on. h.3)

  message_in : (bytes : List ℕ) → InRange (message_written d bytes)
  unfolding message_written
  message_in bytes = pick_under InRange (eqb (length bytes) 0) _ _ (λ none. h) (λ some. written_in _)

  -- every command
  pub does_in : (v k : ℕ) (bytes : List ℕ) → InRange (does d v k bytes)
  unfolding does message_taken entry_taken aborted stopped time_reset receive_cleared rec_written tec_written test_rec filter_written mask_written
  does_in v k bytes =
      let taken : InRange (message_taken d) = (take_fits d.rx h.0, h.1, h.2, h.3, h.4, h.5, h.6, h.7) in
      among_keeps (λ v e. InRange e) v (deeds d k bytes) (register_changed d v (byte bytes 2))
      (taken
      and taken
      and taken
      and taken
      and (h.0, h.1, take_fits d.history h.2, h.3, h.4, h.5, h.6, h.7)
      and stopped_in
      and cleared_in
      and reset_in
      and h
      and (empty_fits, h.1, h.2, h.3, h.4, h.5, h.6, h.7)
      and message_in bytes
      and ctrl0_in (byte bytes 2)
      and h
      and (h.0, h.1, h.2, tec_groups (byte bytes 2), h.4, h.5, h.6, h.7)
      and h
      and h
      and tt)
      (λ out. register_in v (byte bytes 2))
