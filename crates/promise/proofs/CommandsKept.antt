-- Each command that is done keeps the device to the records. Assumes nothing.
use mathlib.Core.Path.{◌≡◌, refl, ◌∙◌, ap}
use mathlib.Core.Bool.{true, false}
use mathlib.Core.List.{List}
use Prim.Native.Nat.{ℕ, ◌-◌}
use native.Mathlib.Omega.{arith}
use borrow.Author.Tests.{eqb-false}
use lib.Dec.{eqb}
use lib.ListN.{length, drop, set, length-set}
use Rattle.std.proofs.lemmas.List.{map-set}
use Rattle.base.specs.Bit.{byte}
use Rattle.std.specs.Prelude.{Some}
use Rattle.base.specs.Pick.{pick, among}
use Rattle.counters.specs.Rules.{test_rec, test_tec}
use Rattle.chip.specs.declared.Device.{Device}
use Rattle.chip.specs.declared.Pattern.{Pattern}
use Rattle.chip.specs.Parts.{with_filters as filters-in, with_masks as masks-in}
use Rattle.transmit.specs.Transmit.{aborted, cleared, stopped}
use Rattle.commands.specs.declared.Row.{Row}
use Rattle.commands.specs.Table.{rows, lookup}
use Rattle.commands.specs.Verbs.{write_message}
use Rattle.refused.specs.Refused.{finds_full, reads_message, finds_none}
use Rattle.done.specs.Done.{pattern, registers_after, register_changed, message_taken, entry_taken, receive_cleared, time_reset, message_brought, message_written}
use Rattle.done.specs.Done.{filter_written, mask_written, rec_written, tec_written, does}
use Rattle.promise.specs.Counting.{rec_written as rec_moved, tec_written as tec_moved}
use Rattle.promise.specs.Ledger.{takes}
use Rattle.promise.specs.Outbox.{queued}
use Rattle.promise.specs.Own.{message_fits, message_in, own_message}
use Rattle.promise.specs.Noted.{deeds, commanded}
use Rattle.promise.specs.Held.{Banked}
use Rattle.promise.specs.Records.{Records, with_ledger, with_outbox, with_settings}
use Rattle.promise.specs.Settings.{Settings, six, disabled, with_ctrl1, with_btr0, with_btr1, with_inte, with_statfe, with_gpine, with_filters, with_masks}
use Rattle.promise.proofs.Among.{◌and◌}
use Rattle.promise.proofs.Boxes.{halted_boxed, cleared_boxed, written_boxed, read_boxed}
use Rattle.promise.proofs.Each.{each_set}
use Rattle.promise.proofs.Kept.{Kept}
use Rattle.promise.proofs.ModesKept.{reset_kept, ctrl0_kept}
use Rattle.promise.proofs.Queues.{empty_holds, takes_holds}
use Rattle.promise.proofs.Rows.{AtRows, at_row}
use Rattle.promise.proofs.Own.{fits_same, written_sendable, stored_own}

pub banked_set : (ps : List Pattern) (k : ℕ) (bytes : List ℕ) → Banked ps → Banked (set ps k (pattern bytes))
unfolding pattern
banked_set ps k bytes all = (
  length-set ps k (pattern bytes) ∙ all.0,
  each_set (λ (p : Pattern). length p.bytes ≡ 6) ps k (pattern bytes) all.1 refl,
)

module _ (d : Device) (r : Records) (h : Kept d r) (bytes : List ℕ) (some : eqb (length bytes) 0 ≡ false) where
  abbrev value : ℕ
  value = byte bytes 2

  -- neither 6 nor 7 applies, nor 3 to a message
  abbrev pub Passes : ℕ → Row → Type 0
  Passes c row =
      (finds_full d.tx.count row.verb ≡ false)
      × (finds_none d.rx.count d.history.count row.verb ≡ false)
      × (pick (eqb c 0x12) (message_fits (drop 1 bytes)) true ≡ true)

  abbrev Keeps : ℕ → Row → Type 0
  Keeps c row = Passes c row → Kept (does d row.verb row.index bytes) (among c (deeds r bytes) r)

  -- a read that changes nothing
  same : {A : Type 0} → A → Kept d r
  same a = h

  taken : {A B : Type 0} → A × (eqb d.rx.count 0 ≡ false) × B → Kept (message_taken d) (with_ledger r (takes r.ledger))
  unfolding message_taken
  taken a =
      let none = eqb-false d.rx.count 0 a.1 in
      (h.0, h.1, h.2, (h.3.0, h.3.1, takes_holds d.rx d.serials.places r.ledger h.3.2 (d.rx.count - 1) (omega (arith, none)), h.3.3, h.3.4), h.4)

  written : {B : Type 0} → (finds_full d.tx.count write_message ≡ false) × B × (message_fits (drop 1 bytes) ≡ true)
      → Kept (message_written d bytes) (with_outbox r (queued r.outbox (message_in (drop 1 bytes))))
  unfolding message_written finds_full
  written a =
      let s = drop 1 bytes in
      let fits = fits_same s ∙ a.2 in
      let same_message : message_brought bytes ≡ own_message (message_in s) = ap (λ (b : List ℕ). record { bytes = b }) (stored_own s fits) in
      rw (some, same_message) (h.0, h.1, h.2, h.3, written_boxed _ _ _ _ _ _ h.4 (message_in s) (written_sendable s fits) a.0)

  filter : (k : ℕ) {A : Type 0} → A
      → Kept (filters-in d (set d.filters k (pattern bytes))) (with_settings r (with_filters r.settings (set r.settings.filters k (six bytes))))
  unfolding pattern
  filter k a = (
    rw (map-set (λ (p : Pattern). p.bytes) d.filters k (pattern bytes))
        (ap (λ (s : Settings). with_filters s (set s.filters k (six bytes))) h.0),
    (banked_set d.filters k bytes h.1.0, h.1.1),
    h.2,
    h.3,
    h.4,
  )

  mask : (k : ℕ) {A : Type 0} → A
      → Kept (masks-in d (set d.masks k (pattern bytes))) (with_settings r (with_masks r.settings (set r.settings.masks k (six bytes))))
  unfolding pattern
  mask k a = (
    rw (map-set (λ (p : Pattern). p.bytes) d.masks k (pattern bytes))
        (ap (λ (s : Settings). with_masks s (set s.masks k (six bytes))) h.0),
    (h.1.0, banked_set d.masks k bytes h.1.1),
    h.2,
    h.3,
    h.4,
  )

  -- in the order of the device's table
  keeps : AtRows Keeps rows
  unfolding rows does register_changed registers_after reads_message finds_none aborted stopped cleared time_reset receive_cleared entry_taken rec_written tec_written
      test_rec test_tec filter_written mask_written
  keeps =
      same and same and taken and taken and taken and taken
      and same and same and same and same and same and same and same and same
      and same and same and same and same and same and same and same and same
      and same and same and same and same and same
      and (λ a. (h.0, h.1, (h.2.0, h.2.1, refl, h.2.3), h.3, h.4))
      and (λ a. (h.0, h.1, (h.2.0, h.2.1, h.2.2, refl), h.3, h.4))
      and same and same and same and same and same and same
      and (λ a. (h.0, h.1, h.2, h.3, read_boxed _ _ _ _ _ _ h.4))
      and same and same
      and (λ a. (ap disabled h.0, h.1, h.2, h.3, halted_boxed _ _ _ _ _ _ h.4))
      and (λ a. (ap disabled h.0, h.1, h.2, h.3, cleared_boxed _ _ _ _ _ _ h.4))
      and (λ a. reset_kept d r h)
      and (λ a. (h.0, h.1, (h.2.0, refl, h.2.2, h.2.3), h.3, h.4))
      and (λ a. (h.0, h.1, h.2, (h.3.0, h.3.1, empty_holds _ h.3.2.eight, h.3.3, (h.3.4.0, h.3.4.1, omega arith)), h.4))
      and written
      and (λ a. ctrl0_kept d r h value)
      and (λ a. (ap (λ s. with_ctrl1 s value) h.0, h.1, h.2, h.3, h.4))
      and (λ a. (ap (λ s. with_btr0 s value) h.0, h.1, h.2, h.3, h.4))
      and (λ a. (ap (λ s. with_btr1 s value) h.0, h.1, h.2, h.3, h.4))
      and (λ a. (ap (λ s. with_inte s value) h.0, h.1, h.2, h.3, h.4))
      and (λ a. (ap (λ s. with_statfe s value) h.0, h.1, h.2, h.3, h.4))
      and (λ a. (ap (λ s. with_gpine s value) h.0, h.1, h.2, h.3, h.4))
      and (λ a. (h.0, h.1, (ap (λ c. rec_moved c value) h.2.0, h.2.1, h.2.2, h.2.3), h.3, h.4))
      and (λ a. (h.0, h.1, (ap (λ c. tec_moved c value) h.2.0, h.2.1, h.2.2, h.2.3), h.3, h.4))
      and filter 0 and filter 1 and filter 2 and filter 3 and filter 4 and filter 5 and filter 6 and filter 7
      and mask 0 and mask 1 and mask 2 and mask 3 and mask 4 and mask 5 and mask 6 and mask 7
      and tt

pub command_kept : (d : Device) (r : Records) (h : Kept d r) (bytes : List ℕ) (some : eqb (length bytes) 0 ≡ false) (row : Row)
    → lookup rows (byte bytes 1) ≡ Some row → Passes d r h bytes some (byte bytes 1) row
    → Kept (does d row.verb row.index bytes) (commanded r bytes)
unfolding commanded
command_kept d r h bytes some row at = at_row (Keeps d r h bytes some) rows (byte bytes 1) row at (keeps d r h bytes some)
