-- Each wrong device of `specs/Wrong`, `WrongLosses`, `WrongNumbers` and `WrongRegisters`, and each wrong way to ask and
-- to explain of `WrongQuestions`, `WrongNumbers` and `WrongExplanations`, by the promise that it breaks, and on what.
-- Assumes nothing.
use mathlib.Core.Bool.{Bool, true, false}
use mathlib.Core.List.{List, [], ◌∷◌, ◌++◌}
use Prim.Native.Nat.{ℕ, ◌-◌}
use lib.ListN.{drop, replicate}
use Rattle.chip.specs.declared.Device.{Device}
use Rattle.chip.specs.State.{fresh}
use Rattle.frame.specs.declared.Header.{Header}
use Rattle.events.specs.declared.Event.TheVariants.{GoodFrame, Completed, BusQuiet, Ticks}
use Rattle.bus.specs.declared.types.Pins.{Pins}
use Rattle.promise.specs.Sequence.{Input, spi, wire, Machine, shipped, run}
use Rattle.promise.specs.Held.{Holds}
use Rattle.promise.specs.Numbering.{Lister}
use Rattle.promise.specs.Questions.{Question}
use Rattle.promise.specs.Explanations.{Explainer}
use Rattle.promise.specs.Records.{Records}
use Rattle.promise.specs.Wrong.{only_first, queues_in_silence, room_first, reasons_exchanged, boasts, denies_done, believes_all, takes_two, short_takes, code_clipped}
use Rattle.promise.specs.Wrong.{keeps_behind, reset_keeps, mode_clears, strangers_unseen, old_completion, nothing_copied}
use Rattle.promise.specs.WrongLosses.{over_oldest, drops_new, shifts, over_seventh, leisurely, names_new, over_in_silence}
use Rattle.promise.specs.WrongNumbers.{count_restarts, numbers_unheard, strangers_unnumbered, keeps_number, numbers_twice, temp_kept, temp_cleared, takes_latest, twelve_early}
use Rattle.promise.specs.WrongNumbers.{twelve_first, twelve_for_all, wraps_around, twelve_stops, tells_next, newest_first, as_placed, read_ones_too, of_any_device}
use Rattle.promise.specs.WrongRegisters.{commands_exchanged, filter_elsewhere, sleeps_at_once, mode_stays, bor_elsewhere, tx1m_kept, filton_ignored}
use Rattle.promise.specs.WrongRegisters.{errs_exchanged, err_cleared, intf_kept, int_by_statfe, shows_another, hit_at_read, replies_zeros, blind, groups_always}
use Rattle.promise.specs.WrongRegisters.{highest_shown, both_raised}
use Rattle.promise.specs.WrongQuestions.{while_on, reversed, without_seven, any_device, any_frame}
use Rattle.promise.specs.WrongExplanations.{room_first_reason, later_bit, from_zero_up, mask_ignored, unnamed_counts, says_nothing, blames_always}
use Rattle.promise.specs.WrongRegisters.{clears_first, refuses_all, changes_nothing, made_up_rec, made_up_tec, made_up_groups}
use Rattle.promise.proofs.Scenes.{to_normal, scan_header, scan, eight_scans, full, pallet, behind, long, impossible, read, too_short, ask, two, mask_all, filters_on, none_matches, by_other_bytes, unnamed_set, strangers}
use Rattle.promise.proofs.Scenes.{filters_later, wakes, begun, bus_off, recovered, completed_alone, error, unheard, looped, given, last, odd_device, far_device, odd_records, odd_holds}

pub data Case : Type 0 where
  lost : Machine → List Input → Case
  undue : Machine → List Input → Input → Case
  unsettled : Machine → List Input → Case
  miscounted : Machine → List Input → Case
  mistimed : Machine → List Input → Case
  unseen : Machine → List Input → Case
  unraised : Machine → List Input → Case
  unwritten : Machine → List Input → Case
  unlike : Machine → List Input → Case
  -- a loss that isn't told, one that is told where there is none, or one told of another frame
  untold : Machine → List Input → Input → Case
  -- a way to look at the pins
  misshown : (Device → Pins) → List Input → Case
  -- the first frame that the ledger then has
  unlike_itself : Machine → List Input → Case
  misjudged : Machine → Device → Input → Case
  -- a refusal that isn't one
  misanswered : Machine → Device → Input → Case
  -- a refusal that changes the queue
  changing : Machine → Device → Input → Case
  -- a way to ask which filters match, of a frame: after a sequence, and in a device
  mistold : Question → List Input → Header → ℕ → List ℕ → Case
  misasked : Question → Device → Header → ℕ → List ℕ → Case
  -- a way to explain, of a frame in a device: its reason, and what it says of filter 0, with a bit that may come before
  misled : Explainer → Device → Header → Bool → ℕ → List ℕ → Case
  mispointed : Explainer → Device → Header → Bool → ℕ → List ℕ → ℕ × ℕ → Case
  -- the count of arrival numbers: after a sequence, and after an input in a device
  uncounted : Machine → List Input → Case
  restarted : Machine → Device → Input → Case
  -- the numbers: of another frame, not rising, the same at two places of the list, of another than the first
  uncarried : Machine → List Input → Case
  unordered : Machine → List Input → Case
  repeated : Machine → List Input → ℕ → ℕ → Case
  untaken : Machine → List Input → Input → Case
  -- a way to ask for them, after a sequence and in a device
  mislisted : Lister → List Input → Case
  misnumbered : Lister → Device → Case
  -- in a device that holds what these records have
  astray : (w : Machine) (d : Device) (r : Records) → Holds d r → Input → Case

abbrev pub cases : List Case
cases =
    lost only_first two ∷
    lost takes_two (two ++ read ∷ []) ∷
    lost reset_keeps (two ++ spi (0x56 ∷ []) [] ∷ []) ∷
    lost mode_clears (two ++ spi (0x14 ∷ 0x40 ∷ []) [] ∷ []) ∷
    lost code_clipped (to_normal ∷ long ∷ []) ∷
    lost keeps_behind (to_normal ∷ behind ∷ []) ∷
    lost commands_exchanged (two ++ spi (0x58 ∷ []) [] ∷ []) ∷
    lost over_oldest (full ++ pallet ∷ []) ∷
    untold over_oldest full pallet ∷
    lost drops_new (full ++ pallet ∷ []) ∷
    untold drops_new full pallet ∷
    lost shifts (full ++ pallet ∷ []) ∷
    untold shifts full pallet ∷
    undue names_new full pallet ∷
    untold names_new full pallet ∷
    undue over_seventh (to_normal ∷ drop 1 eight_scans) pallet ∷
    untold over_seventh (to_normal ∷ drop 1 eight_scans) pallet ∷
    undue over_in_silence full pallet ∷
    untold over_in_silence full pallet ∷
    unlike over_in_silence (full ++ pallet ∷ []) ∷
    undue leisurely (to_normal ∷ scan 1 ∷ wire (Ticks 1) [] ∷ []) pallet ∷
    untold leisurely (to_normal ∷ scan 1 ∷ wire (Ticks 1) [] ∷ []) pallet ∷
    undue room_first strangers (scan 9) ∷
    undue reasons_exchanged [] (scan 1) ∷
    undue shows_another two read ∷
    undue hit_at_read filters_later read ∷
    undue replies_zeros two read ∷
    undue boasts (to_normal ∷ []) (wire BusQuiet []) ∷
    undue strangers_unseen (none_matches ++ filters_on ∷ scan 1 ∷ []) (spi (0x44 ∷ []) (replicate 13 0xFF)) ∷
    undue blind error (ask 0xEA) ∷
    undue clears_first error (ask 0xDE) ∷
    unsettled filter_elsewhere (spi (0x6A ∷ replicate 6 0x11) [] ∷ []) ∷
    unsettled sleeps_at_once (spi (0x14 ∷ 0x60 ∷ []) [] ∷ []) ∷
    unsettled mode_stays wakes ∷
    unsettled tx1m_kept completed_alone ∷
    miscounted made_up_rec error ∷
    miscounted made_up_tec (spi (0x26 ∷ 0x05 ∷ []) [] ∷ []) ∷
    miscounted made_up_groups bus_off ∷
    miscounted bor_elsewhere recovered ∷
    mistimed changes_nothing (wire (Ticks 1) [] ∷ []) ∷
    unseen err_cleared (error ++ spi (0x56 ∷ []) [] ∷ []) ∷
    unseen errs_exchanged error ∷
    unraised intf_kept (error ++ spi (0x56 ∷ []) [] ∷ []) ∷
    unraised filton_ignored (to_normal ∷ scan 1 ∷ []) ∷
    unwritten old_completion completed_alone ∷
    unwritten nothing_copied begun ∷
    unlike leisurely (to_normal ∷ scan 1 ∷ wire (Ticks 1) [] ∷ pallet ∷ []) ∷
    unlike queues_in_silence (to_normal ∷ scan 1 ∷ []) ∷
    misshown int_by_statfe (spi (0x1C ∷ 0x40 ∷ []) [] ∷ to_normal ∷ scan 1 ∷ []) ∷
    unlike_itself believes_all (to_normal ∷ impossible ∷ []) ∷
    misjudged refuses_all fresh (ask 0xD2) ∷
    misanswered denies_done fresh (wire (Ticks 1) []) ∷
    changing short_takes (run shipped fresh two) too_short ∷
    undue highest_shown (filters_on ∷ to_normal ∷ scan 1 ∷ []) (ask 0xDA) ∷
    unraised both_raised (filters_on ∷ to_normal ∷ scan 1 ∷ []) ∷
    mistold while_on [] scan_header 1 (1 ∷ replicate 7 0) ∷
    mistold reversed (mask_all 0x74 ∷ []) scan_header 1 (1 ∷ replicate 7 0) ∷
    mistold without_seven [] scan_header 1 (1 ∷ replicate 7 0) ∷
    mistold any_frame [] scan_header 2 (1 ∷ replicate 7 0) ∷
    misasked any_frame fresh scan_header 2 (1 ∷ replicate 7 0) ∷
    misasked any_device far_device scan_header 1 (1 ∷ replicate 7 0) ∷
    misled room_first_reason (run shipped fresh strangers) scan_header true 1 (9 ∷ replicate 7 0) ∷
    mispointed later_bit (run shipped fresh (none_matches ++ filters_on ∷ [])) scan_header true 1 (1 ∷ replicate 7 0) (1, 5) ∷
    mispointed from_zero_up (run shipped fresh (none_matches ++ filters_on ∷ [])) scan_header true 1 (1 ∷ replicate 7 0) (1, 5) ∷
    mispointed mask_ignored (run shipped fresh by_other_bytes) scan_header true 1 (1 ∷ replicate 7 0) (1, 7) ∷
    mispointed unnamed_counts (run shipped fresh unnamed_set) scan_header true 1 (1 ∷ replicate 7 0) (1, 7) ∷
    mispointed says_nothing (run shipped fresh (none_matches ++ filters_on ∷ [])) scan_header true 1 (1 ∷ replicate 7 0) (1, 7) ∷
    mispointed blames_always (run shipped fresh none_matches) scan_header true 1 (1 ∷ replicate 7 0) (1, 7) ∷
    uncounted count_restarts (two ++ spi (0x56 ∷ []) [] ∷ []) ∷
    restarted count_restarts (run shipped fresh two) (spi (0x56 ∷ []) []) ∷
    uncounted numbers_unheard unheard ∷
    restarted numbers_unheard (run shipped fresh (spi (0x14 ∷ 0x40 ∷ []) [] ∷ [])) (wire (GoodFrame scan_header false 1) (1 ∷ replicate 7 0)) ∷
    uncounted strangers_unnumbered (none_matches ++ filters_on ∷ scan 1 ∷ []) ∷
    uncarried strangers_unnumbered (none_matches ++ filters_on ∷ scan 1 ∷ []) ∷
    uncarried keeps_number (full ++ pallet ∷ []) ∷
    uncarried temp_kept (two ++ spi (0x56 ∷ []) [] ∷ []) ∷
    uncarried temp_cleared (two ++ spi (0x5A ∷ []) [] ∷ []) ∷
    untold keeps_number full pallet ∷
    uncounted numbers_twice two ∷
    unordered numbers_twice two ∷
    repeated numbers_twice two 0 1 ∷
    untaken takes_latest two read ∷
    misjudged twelve_early (given (last - 1) (to_normal ∷ [])) (scan 1) ∷
    misjudged twelve_first (given last (to_normal ∷ [])) impossible ∷
    misjudged twelve_for_all (given last []) (scan 1) ∷
    misjudged wraps_around (given last (to_normal ∷ [])) (scan 1) ∷
    restarted wraps_around (given last (to_normal ∷ [])) (scan 1) ∷
    changing twelve_stops (given last looped) (wire Completed []) ∷
    mislisted tells_next two ∷
    mislisted newest_first two ∷
    mislisted as_placed (two ++ read ∷ []) ∷
    mislisted read_ones_too (two ++ read ∷ scan 3 ∷ read ∷ []) ∷
    misnumbered of_any_device far_device ∷
    astray groups_always odd_device odd_records odd_holds (ask 0xF8) ∷
    []
