-- Modes and resets keep to the records. Assumes nothing.
use mathlib.Core.Path.{◌≡◌, refl, sym, ap}
use mathlib.Core.Bool.{Bool, true, false, not, ◌&&◌, and-false, and_assoc}
use Prim.Native.Nat.{ℕ, ◌+◌, ◌%◌}
use native.Mathlib.Omega.{arith}
use borrow.Author.Tests.{eqb-true, eq-eqb}
use lib.Bits.{bit_or}
use lib.Dec.{eqb}
use lib.ListN.{length}
use Rattle.base.specs.Pick.{pick}
use Rattle.chip.specs.declared.Device.{Device}
use Rattle.chip.specs.State.{fresh, sleep, reset_bit, wakeup}
use Rattle.flags.specs.Flags.{raised}
use Rattle.flags.specs.Reset.{reset as reset_device}
use Rattle.transmit.specs.Transmit.{stopped}
use Rattle.modes.specs.Modes.{put_ctrl0, mode_changed as changed_device, ctrl0_written as written_device, can_sleep, bus_quiet, bus_activity}
use Rattle.frame.specs.Length.{data_of, data_bytes, data_length}
use Rattle.frame.specs.Received.{received}
use Rattle.frame.specs.Tables.{id_as_read, id_bits}
use Rattle.promise.specs.Flags.{mchg, wakeup_flag}
use Rattle.promise.specs.Outbox.{halted, rests}
use Rattle.promise.specs.Noted.{reset, mode_changed, ctrl0_written, quiet_met, activity_met}
use Rattle.promise.specs.Records.{Records, with_settings, with_outbox}
use Rattle.promise.specs.Settings.{Settings, mode_named, wakeup as wakeup_bit, with_mode, reset_to, mode_written, asleep, awake}
use Rattle.promise.proofs.Boxes.{empty_boxed, halted_boxed, rests_same, queue_length}
use Rattle.promise.proofs.Choices.{pick_both}
use Rattle.promise.proofs.Fits.{woken}
use Rattle.promise.proofs.Kept.{Kept}
use Rattle.promise.proofs.Queues.{empty_holds}
use Rattle.promise.proofs.Shown.{blank_shown}
use Rattle.promise.proofs.Ranges.{mode-named}

-- ---- resets

module _ (d : Device) (r : Records) (h : Kept d r) where
  pub reset_kept : Kept (reset_device d) (reset r 0x80)
  unfolding reset_device fresh mode_named received id_as_read id_bits data_of data_bytes data_length
  reset_kept = (
    ap (λ s. reset_to s 0x80) h.0,
    h.1,
    (h.2.0, refl, h.2.2, refl),
    (refl, refl, empty_holds _ refl, blank_shown, (h.3.4.0, refl, omega arith)),
    empty_boxed _,
  )

  -- by RESET, which stays readable
  pub asked_reset_kept : Kept (put_ctrl0 (reset_device d) 0x88) (reset r 0x88)
  unfolding reset_device fresh mode_named received id_as_read id_bits data_of data_bytes data_length
  asked_reset_kept = (
    ap (λ s. reset_to s 0x88) h.0,
    h.1,
    (h.2.0, refl, h.2.2, refl),
    (refl, refl, empty_holds _ refl, blank_shown, (h.3.4.0, refl, omega arith)),
    empty_boxed _,
  )

  -- ---- a mode that is written

  acts : d.acting ≡ r.settings.acting
  acts = ap (λ (s : Settings). s.acting) h.0

  module _ (v : ℕ) where
    -- by whether MODE names sleep, or the acting mode
    named_kept : (t u : Bool) → eqb (mode_named v) sleep ≡ t → eqb (mode_named v) d.acting ≡ u
        → Kept
        (pick t (put_ctrl0 d v) (pick u (put_ctrl0 d v) (changed_device (stopped (put_ctrl0 d v)) (mode_named v))))
        (let s = mode_written r.settings v in
        pick (eqb s.acting r.settings.acting) (with_settings r s) (with_outbox (mode_changed r s) (halted r.outbox)))
    unfolding changed_device stopped raised
    named_kept true u sleeps same =
        rw (sleeps, eq-eqb r.settings.acting r.settings.acting refl)
        (ap (λ (s : Settings). with_mode s v s.acting (not (eqb s.acting sleep))) h.0, h.1, h.2, h.3, h.4)
    named_kept false true wakes same =
        rw (wakes, ← acts, same)
        (rw (← eqb-true (mode_named v) d.acting same) (ap (λ (s : Settings). with_mode s v (mode_named v) false) h.0), h.1, h.2, h.3, h.4)
    named_kept false false wakes other =
        rw (wakes, ← acts, other) (
          ap (λ (s : Settings). with_mode s v (mode_named v) false) h.0,
          h.1,
          (h.2.0, h.2.1, h.2.2, ap (λ bits. bit_or bits mchg) h.2.3),
          h.3,
          halted_boxed _ _ _ _ _ _ h.4,
        )

    pub ctrl0_kept : Kept (written_device d v) (ctrl0_written r v)
    unfolding written_device
    ctrl0_kept =
        rw (mode-named v)
        (pick_both Kept (reset_bit v) _ _ _ _ asked_reset_kept (named_kept (eqb (mode_named v) sleep) (eqb (mode_named v) d.acting) refl refl))

  -- ---- sleep and waking up

  sleep_same : can_sleep d ≡ (r.settings.waits && (eqb (length r.outbox.queue) 0 && rests r.outbox.running))
  unfolding can_sleep
  sleep_same =
      rw (← ap (λ (s : Settings). s.waits) h.0, queue_length _ _ _ _ _ _ h.4, ← rests_same _ _ _ _ _ _ h.4, mode-named d.regs.ctrl0)
      (sym (and_assoc (eqb (mode_named d.regs.ctrl0) sleep) _ _))

  pub quiet_kept : Kept (bus_quiet d) (quiet_met r)
  unfolding bus_quiet changed_device raised
  quiet_kept =
      rw sleep_same
      (pick_both Kept (r.settings.waits && (eqb (length r.outbox.queue) 0 && rests r.outbox.running)) _ _ _ _
      (rw (and-false (eqb (mode_named d.regs.ctrl0) sleep)) (ap asleep h.0), h.1, (h.2.0, h.2.1, h.2.2, ap (λ bits. bit_or bits mchg) h.2.3), h.3, h.4)
      h)

  wake_same : (eqb d.acting sleep && wakeup d) ≡ (eqb r.settings.acting sleep && wakeup_bit r.settings)
  wake_same = ap (λ (s : Settings). eqb s.acting sleep && wakeup_bit s) h.0

  pub activity_kept : Kept (bus_activity d) (activity_met r)
  unfolding bus_activity changed_device raised
  activity_kept =
      rw wake_same
      (pick_both Kept (eqb r.settings.acting sleep && wakeup_bit r.settings) _ _ _ _ (
        rw (← mode-named (d.regs.ctrl0 % 32 + 64), woken d.regs.ctrl0) (ap awake h.0),
        h.1,
        (h.2.0, h.2.1, h.2.2, ap (λ bits. bit_or (bit_or bits mchg) wakeup_flag) h.2.3),
        h.3,
        h.4,
      )
      h)
