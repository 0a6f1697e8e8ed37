-- What the terminal's steps mean by the records: a scan that is brought has arrived, and what a read prints is the
-- oldest that was not printed. Assumes nothing.
use mathlib.Core.Path.{◌≡◌, refl, sym, ◌∙◌, ap}
use mathlib.Core.Bool.{false}
use mathlib.Core.List.{List, [], ◌∷◌, ◌++◌, map, append_assoc, append-nil, map-append}
use Prim.Native.Nat.{ℕ, suc, pred, ◌+◌, ◌-◌, ◌^◌, ◌<◌}
use native.Mathlib.Omega.{arith}
use borrow.Author.Tests.{le-leb}
use lib.Dec.{eqb}
use lib.ListN.{length, get_or}
use Rattle.base.specs.Tabulate.{tabulate}
use Rattle.base.proofs.Lists.{listed, tabulate_same}
use Rattle.fifo.specs.declared.Message.{Message}
use Rattle.fifo.specs.Queue.{waiting}
use Rattle.chip.specs.declared.Device.{Device}
use Rattle.promise.specs.Sequence.{Input, shipped as step}
use Rattle.promise.specs.Frames.{Frame, message, data_count, Shows}
use Rattle.promise.specs.Ledger.{Accepted, Ledger, kept, oldest}
use Rattle.promise.specs.Held.{Each}
use Rattle.promise.specs.Records.{Records}
use Rattle.promise.proofs.After.{whole, as_arrived}
use Rattle.promise.proofs.Ledgers.{kept_more}
use Rattle.terminal.specs.Terminal.{asked, brought, scan_read, scan_in, scans, Listens, Reached, Serves}
use Rattle.terminal.proofs.Doing.{further, book, ask_flags, flags_book, ask_status, status_book, ask_message, message_book, message_reply}
use Rattle.terminal.proofs.Coming.{comes, scan_book, f}

scans_more : (ms : List Message) (m : Message) → scans (ms ++ (m ∷ [])) ≡ scans ms ++ scan_in m
scans_more [] m = append-nil (scan_in m)
scans_more (n ∷ ms) m = ap (λ (l : List ℕ). scan_in n ++ l) (scans_more ms m) ∙ sym (append_assoc (scan_in n) (scans ms) (scan_in m))

frames_more : (fs : List Frame) (f : Frame) → scans (map message (fs ++ (f ∷ []))) ≡ scans (map message fs) ++ scan_in (message f)
frames_more fs f = rw map-append (scans_more (map message fs) (message f))

last_of : (P : Frame → Type 0) (l : List Accepted) (a : Accepted) → Each P (map (λ a. a.frame) (l ++ (a ∷ []))) → P a.frame
last_of P [] a all = all.0
last_of P (b ∷ l) a all = last_of P l a all.1

-- a scan of eight bytes, as the message shows it byte by byte
scan_shown : (g : Frame) → data_count g.header ≡ 8 → length g.payload ≡ 8 → Shows g (message g).bytes → scan_in (message g) ≡ g.payload
scan_shown g all eight shows =
    tabulate_same (λ (k : ℕ). get_or (message g).bytes (8 + k) 0) _ 0 8 (λ k p below.
    let place : pred (8 + suc k) ≡ 8 + k = omega arith in
    rw (place, all, le-leb (suc k) 8 (omega arith)) at (shows.bytes (suc k) (omega arith) (omega arith)))
    ∙ sym (listed 0 g.payload ∙ ap (λ (n : ℕ). tabulate (λ (k : ℕ). get_or g.payload k 0) 0 n) eight)

module _ {d : Device} {arrived printed : List ℕ} (s : Serves d arrived printed) where
  abbrev h : Reached d
  h = s.reached

  abbrev l : Ledger
  l = (book h).ledger

  -- an input, by the records after it
  entering : (i : Input) (r : Records) (arrived printed : List ℕ) → book (further h i) ≡ r
      → scans (map message (kept r.ledger)) ≡ arrived → scans (map message r.ledger.taken) ≡ printed → Serves (step d i).device arrived printed
  entering i r arrived printed is more_accepted more_taken = record {
    reached = further h i;
    stand = ap (λ (r : Records). scans (map message (kept r.ledger))) is ∙ more_accepted;
    taken = ap (λ (r : Records). scans (map message r.ledger.taken)) is ∙ more_taken;
  }

  module _ (listens : Listens d) where
    -- INTF and STATF are nothing to the queue
    pub flags_serve : Serves (asked d 0xDE 1) arrived printed
    flags_serve = entering (ask_flags h listens) _ arrived printed (flags_book h listens) s.stand s.taken

    pub status_serve : Serves (asked d 0xE2 1) arrived printed
    status_serve = entering (ask_status h listens) _ arrived printed (status_book h listens) s.stand s.taken

    -- a read, where one waits, prints the oldest that was not printed
    pub read_serves : eqb d.rx.count 0 ≡ false → Serves (asked d 0x48 14) arrived (printed ++ scan_read d)
    read_serves some =
        entering (ask_message h listens some) _ arrived (printed ++ scan_read d) (message_book h listens some) s.stand
        (frames_more l.taken (oldest l) ∙ rw (s.taken, message_reply h listens some))

    -- a scan
    module _ (few : d.rx.count < 8) (left : d.serials.last < 2 ^ 64 - 1) (scan : List ℕ) (eight : length scan ≡ 8) where
      arrives : Shows (f h listens few left scan) (message (f h listens few left scan)).bytes
      arrives =
          last_of (λ f. Shows f (message f).bytes) l.accepted (record { frame = f h listens few left scan; over = false })
          (rw (scan_book h listens few left scan) at (as_arrived (further h (comes h listens few left scan)).history).1)

      pub bring_serves : Serves (brought d scan) (arrived ++ scan) printed
      bring_serves =
          entering (comes h listens few left scan) _ (arrived ++ scan) printed (scan_book h listens few left scan)
          (ap (λ (fs : List Frame). scans (map message fs)) (kept_more l.accepted (f h listens few left scan)) ∙ frames_more (kept l) (f h listens few left scan) ∙ rw (s.stand, scan_shown (f h listens few left scan) refl eight arrives))
          s.taken

  -- nothing waits, so everything that arrived is printed
  pub all_printed : d.rx.count ≡ 0 → printed ≡ arrived
  all_printed none =
      let nobody : waiting d.rx ≡ [] = rw none in
      let all : map message l.taken ++ waiting d.rx ≡ map message (kept l) =
      ap (λ (e : Device). map message l.taken ++ waiting e.rx) h.is ∙ whole h.history in
      sym s.taken ∙ ap scans (sym (append-nil (map message l.taken)) ∙ ap (λ (w : List Message). map message l.taken ++ w) (sym nobody) ∙ all) ∙ s.stand
