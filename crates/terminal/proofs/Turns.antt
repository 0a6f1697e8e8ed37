-- The terminal's loop: what holds while it reads what waits. Assumes nothing.
use mathlib.Core.Path.{◌≡◌, refl, sym, ◌∙◌, ap}
use mathlib.Core.Bool.{true, false, not}
use mathlib.Core.List.{List, ◌++◌, append_assoc, append-nil}
use Prim.Native.Nat.{ℕ, ◌+◌, ◌-◌, ◌*◌, ◌<◌, ◌≤◌}
use native.Mathlib.Omega.{arith}
use borrow.Author.Tests.{eqb-true, eqb-false, not-true, not-false}
use borrow.Rule.Slice.PartMut.{put_mid, same_len_mid}
use lib.Dec.{eqb}
use lib.ListN.{length, take, drop, length-append, length-drop}
use lib.Seq.{take_at, length-take-le}
use Rattle.chip.specs.declared.Device.{Device}
use Rattle.terminal.specs.declared.Status.{Status}
use Rattle.terminal.specs.Terminal.{asked, status_of, scan_read, Reached, Listens, Serves, Served}
use Rattle.terminal.proofs.Doing.{further, ask_flags, flags_listen, flags_quiet, flags_last, flags_count}
use Rattle.terminal.proofs.Doing.{ask_status, status_listens, status_quiet, status_last, status_count, status_told}
use Rattle.terminal.proofs.Doing.{ask_message, message_listens, message_quiet, message_last, message_count}
use Rattle.terminal.proofs.Serving.{flags_serve, status_serve, read_serves}

-- from the status that was read first to now, with so much of the page used
pub record Serving (page₀ : List ℕ) (s₀ : Status) (page : List ℕ) (used : ℕ) (s : Status) : Type 0 where
  pub reached : Reached s.device
  pub listens : Listens s.device
  pub told : s.waits ≡ not (eqb s.device.rx.count 0)
  pub quiet : s.device.regs.intf ≡ 0
  pub last : s.device.serials.last ≡ s₀.device.serials.last
  pub room : used + 8 * s.device.rx.count ≡ 8 * s₀.device.rx.count
  pub fits : 8 * s₀.device.rx.count ≤ length page₀
  pub size : length page ≡ length page₀
  pub serves : (arrived printed : List ℕ) → Serves s₀.device arrived printed → Serves s.device arrived (printed ++ take used page)

-- ---- the first status

module _ (d : Device) (reached : Reached d) (listens : Listens d) (page : List ℕ) (fits : 8 * d.rx.count ≤ length page) where
  abbrev quieted : Device
  quieted = asked d 0xDE 1

  abbrev quietly : Reached (asked d 0xDE 1)
  quietly = further reached (ask_flags reached listens)

  quiet_listens : Listens (asked d 0xDE 1)
  quiet_listens = flags_listen reached listens

  same_count : (status_of quieted).device.rx.count ≡ d.rx.count
  same_count = status_count quietly quiet_listens ∙ flags_count reached listens

  pub begun : Serving page (status_of quieted) page 0 (status_of quieted)
  begun = record {
    reached = further quietly (ask_status quietly quiet_listens);
    listens = status_listens quietly quiet_listens;
    told = status_told quietly quiet_listens ∙ rw (status_count quietly quiet_listens);
    quiet = status_quiet quietly quiet_listens ∙ flags_quiet reached listens;
    last = refl;
    room = omega arith;
    fits = rw same_count fits;
    size = refl;
    serves = λ arrived printed s. rw append-nil s;
  }

  -- ---- and the last

  pub ended : (after : List ℕ) (used : ℕ) (s : Status) → Serving page (status_of quieted) after used s → s.waits ≡ false
      → Served d page (record { device = s.device; used = used }) after
  ended after used s h over =
      let none : s.device.rx.count ≡ 0 = eqb-true s.device.rx.count 0 (not-false _ (sym h.told ∙ over)) in
      record {
        serves = λ arrived printed serves. h.serves arrived printed (status_serve (flags_serve serves listens) quiet_listens);
        used = omega (arith, h.room, same_count);
        size = h.size;
        listens = h.listens;
        none = none;
        quiet = h.quiet;
        last = h.last ∙ status_last quietly quiet_listens ∙ flags_last reached listens;
      }

-- ---- a message more

module _ (page₀ : List ℕ) (s₀ : Status) (page : List ℕ) (used : ℕ) (s : Status) (h : Serving page₀ s₀ page used s) (more : s.waits ≡ true) where
  abbrev next : Device
  next = asked s.device 0x48 14

  some : eqb s.device.rx.count 0 ≡ false
  some = not-true _ (sym h.told ∙ more)

  -- the page has room for it
  pub enough : used + 8 ≤ length page
  enough = omega (arith, h.room, h.fits, h.size, eqb-false s.device.rx.count 0 some)

  abbrev reading : Reached (asked s.device 0x48 14)
  reading = further h.reached (ask_message h.reached h.listens some)

  reading_listens : Listens (asked s.device 0x48 14)
  reading_listens = message_listens h.reached h.listens some

  one_less : (status_of next).device.rx.count + 1 ≡ s.device.rx.count
  one_less = rw (status_count reading reading_listens) (message_count h.reached h.listens some)

  pub fewer : (status_of next).device.rx.count < s.device.rx.count
  fewer = omega (arith, one_less)

  -- what stands on the page when a line is put behind it
  printed : (line : List ℕ) → length line ≡ 8 → take (used + 8) (put_mid used (used + 8 - used) page line) ≡ take used page ++ line
  printed line eight =
      ap (take (used + 8)) (sym (append_assoc (take used page) line _))
      ∙ take_at (take used page ++ line) _ (used + 8)
      (length-append (take used page) line ∙ rw (length-take-le used page (omega (arith, enough)), eight))

  pub part_eight : length (take (used + 8 - used) (drop used page)) ≡ 8
  part_eight = length-take-le (used + 8 - used) (drop used page) (rw (length-drop used page) (omega (arith, enough))) ∙ omega arith

  pub again : (line : List ℕ) → length line ≡ 8 → line ≡ scan_read s.device
      → Serving page₀ s₀ (put_mid used (used + 8 - used) page line) (used + 8) (status_of next)
  again line eight shows = record {
    reached = further reading (ask_status reading reading_listens);
    listens = status_listens reading reading_listens;
    told = status_told reading reading_listens ∙ rw (status_count reading reading_listens);
    quiet = status_quiet reading reading_listens ∙ message_quiet h.reached h.listens some ∙ h.quiet;
    last = status_last reading reading_listens ∙ message_last h.reached h.listens some ∙ h.last;
    room = omega (arith, one_less, h.room);
    fits = h.fits;
    size = same_len_mid used (used + 8 - used) page line (eight ∙ sym (part_eight)) ∙ h.size;
    serves = λ arrived before begins.
        rw (printed line eight, shows, ← append_assoc before (take used page) (scan_read s.device))
        (status_serve (read_serves (h.serves arrived before begins) h.listens some) reading_listens);
  }
