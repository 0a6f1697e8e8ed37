-- Each command shows what the records have. Assumes nothing.
use mathlib.Core.Path.{◌≡◌, refl, sym, ◌∙◌, ap}
use mathlib.Core.Bool.{false}
use mathlib.Core.List.{List, [], ◌∷◌, ◌++◌, append-nil}
use Prim.Native.Nat.{ℕ, zero, suc, ◌≤◌, ◌<◌, ◌+◌, ◌-◌, ◌%◌}
use native.Mathlib.Omega.{arith}
use native.Mathlib.Nat.{zero-add, suc-add, le_of_suc-le-suc, not-suc-le-zero, mod-eq_of_lt}
use borrow.Author.Tests.{le-leb, leb-true, eqb-false}
use lib.Dec.{eqb}
use lib.ListN.{length, get_or, take, drop, length-append, length-drop, length-replicate, drop_of_length-le, get_or-map}
use lib.Seq.{get_or-take, get_or-drop, length-take-le, take_at, drop-drop}
use Rattle.std.specs.Prelude.{Some}
use Rattle.base.specs.Pick.{among}
use Rattle.base.specs.Tabulate.{tabulate}
use Rattle.base.proofs.Lists.{listed, tabulate_same, drop_replicate}
use Rattle.fifo.specs.declared.Message.{Message}
use Rattle.fifo.specs.Queue.{next}
use Rattle.fifo.proofs.Waiting.{take_waits}
use Rattle.chip.specs.declared.Device.{Device}
use Rattle.chip.specs.declared.Pattern.{Pattern}
use Rattle.chip.specs.State.{absent, enabled}
use Rattle.levels.specs.Levels.{rxerrp, txerrp, errw, errp, level_bits, tec_shown, groups_shown}
use Rattle.drawn.specs.Drawn.{statf as statf_of, err as err_of, tstat as tstat_of, messtat as messtat_of}
use Rattle.commands.specs.declared.Row.{Row}
use Rattle.commands.specs.Table.{rows, lookup}
use Rattle.refused.specs.Refused.{reads_message, finds_none}
use Rattle.shown.specs.Shown.{padded, cut, register, shows}
use Rattle.promise.specs.Frames.{message}
use Rattle.promise.specs.Ledger.{oldest}
use Rattle.promise.specs.Held.{Banked, Entry, entry_of}
use Rattle.promise.specs.Records.{Records}
use Rattle.promise.specs.Registers.{statf, tstat, messtat, err, intf, replies, shown}
use Rattle.promise.specs.Settings.{Settings, settings_of, patterns, enables}
use Rattle.promise.proofs.Matching.{filhit_same}
use Rattle.promise.proofs.Among.{◌and◌}
use Rattle.promise.proofs.Boxes.{rests_same, queue_length, history_length}
use Rattle.promise.proofs.Each.{each_at}
use Rattle.promise.proofs.Kept.{Kept}
use Rattle.promise.proofs.Queues.{Sized, message_sized, left_waits, oldest_next}
use Rattle.promise.proofs.Ranges.{InRange}
use Rattle.promise.proofs.Rows.{AtRows, at_row}
use Rattle.frame.proofs.Data.{zeros, zeros_behind}

-- ---- bytes of a message

-- where place k of a list stands after places a to a + c - 1 are cut out
abbrev past : ℕ → ℕ → ℕ → ℕ
past zero c k = c + k
past (suc a) c zero = zero
past (suc a) c (suc k) = suc (past a c k)

cut_at : (a c k : ℕ) (xs : List ℕ) → a ≤ length xs → get_or (take a xs ++ drop (a + c) xs) k 0 ≡ get_or xs (past a c k) 0
cut_at zero c k xs p = rw (zero-add c) (get_or-drop c xs k 0)
cut_at (suc a) c k [] p = absurd (not-suc-le-zero p)
cut_at (suc a) c zero (x ∷ xs) p = refl
cut_at (suc a) c (suc k) (x ∷ xs) p = rw (suc-add a c) (cut_at a c k xs (le_of_suc-le-suc p))

-- the first n of a list, one by one
first_listed : (n : ℕ) (xs : List ℕ) → n ≤ length xs → take n xs ≡ tabulate (λ (k : ℕ). get_or xs k 0) 0 n
first_listed n xs p =
    listed 0 (take n xs)
    ∙ rw (length-take-le n xs p) (tabulate_same _ _ 0 n (λ k q r. get_or-take n xs k 0 (omega arith)))

-- sixteen bytes that begin with others
padded_is : (xs : List ℕ) → length xs ≤ 16 → padded xs ≡ xs ++ zeros (16 - length xs)
padded_is xs p = rw (le-leb (length xs) 16 p, drop_replicate {A = ℕ} (length xs) 16 0)

-- what is left of a message when c bytes from place a on are cut out
cut_shown : (m : Message) (a c n : ℕ) → Sized m → a ≤ 8 → n ≤ 16 → take n (cut m a (a + c)) ≡ tabulate (λ (i : ℕ). get_or m.bytes (past a c i) 0) 0 n
unfolding cut
cut_shown m a c n sized p q =
    let b = m.bytes in
    let kept = take a b ++ drop (a + c) b in
    let most = sized.1 in
    let least = sized.0 in
    let short : length kept ≤ 16 = rw (length-append (take a b) (drop (a + c) b), length-take-le a b (omega arith), length-drop (a + c) b) (omega arith) in
    let whole : length (kept ++ zeros (16 - length kept)) ≡ 16 =
    rw (length-append kept (zeros (16 - length kept)), length-replicate {A = ℕ} (16 - length kept) 0) (omega arith) in
    rw (padded_is kept short)
    (first_listed n (kept ++ zeros (16 - length kept)) (omega arith)
    ∙ tabulate_same _ _ 0 n (λ i r s. zeros_behind kept (16 - length kept) i ∙ cut_at a c i b (omega arith)))

-- ---- a pattern, and an entry

-- the whole of a list that is padded
padded_whole : (xs : List ℕ) (n : ℕ) → length xs ≡ n → n ≤ 16 → take n (padded xs) ≡ xs
padded_whole xs n long few = rw (padded_is xs (omega arith)) (take_at xs (zeros (16 - length xs)) n long)

pattern_shown : (ps : List Pattern) (k : ℕ) → Banked ps → k < 8 → take 6 (padded (get_or ps k absent).bytes) ≡ get_or (patterns ps) k []
pattern_shown ps k banked below =
    padded_whole (get_or ps k absent).bytes 6 (each_at (λ (p : Pattern). length p.bytes ≡ 6) ps k absent (omega (arith, banked.0)) banked.1) (omega arith)
    ∙ sym (get_or-map (λ (p : Pattern). p.bytes) ps k absent)

entry_shown : (m : Message) → Entry m → take 3 (cut m 3 16) ≡ entry_of m
unfolding cut
entry_shown m fits =
    rw (drop_of_length-le m.bytes fits.1, append-nil (take 3 m.bytes))
    (padded_whole (take 3 m.bytes) 3 (length-take-le 3 m.bytes fits.0) (omega arith))

module _ (d : Device) (r : Records) (range : InRange d) (h : Kept d r) where
  -- ---- the registers that are drawn

  pub intf_same : d.regs.intf ≡ intf r
  unfolding intf
  intf_same = h.2.3

  pub statf_same : statf_of d ≡ statf r
  unfolding statf_of statf errw errp rxerrp txerrp
  statf_same =
      rw (queue_length _ _ _ _ _ _ h.4, history_length _ _ _ _ _ _ h.4, left_waits d.rx d.serials.places r.ledger h.3.2, h.2.0)

  err_same : err_of d ≡ err r
  unfolding err_of err level_bits rxerrp txerrp
  err_same =
      let own : d.regs.errs % 32 ≡ d.regs.errs = mod-eq_of_lt (omega (arith, leb-true d.regs.errs 31 range.4)) in
      rw (own, h.2.2, h.2.0)

  tstat_same : tstat_of d ≡ tstat r
  unfolding tstat_of enabled
  tstat_same =
      rw (rests_same _ _ _ _ _ _ h.4, queue_length _ _ _ _ _ _ h.4, ap (λ (s : Settings). enables s.ctrl1 s.pin) h.0)

  messtat_same : messtat_of d ≡ messtat r
  unfolding messtat_of messtat
  messtat_same =
      let tag : d.regs.mtag % 4 ≡ d.regs.mtag = mod-eq_of_lt (omega (arith, leb-true d.regs.mtag 3 range.5)) in
      rw (tstat_same, tag, h.3.1, filhit_same r.latest.hits, h.4.tag)

  -- ---- each command

  abbrev Shows : ℕ → Row → Type 0
  Shows c row =
      finds_none d.rx.count d.history.count row.verb ≡ false → take row.out (shows d row.verb row.index) ≡ among c (replies r) []

  -- of a message that waits
  waiting_shown : (a c n : ℕ) → a ≤ 8 → n ≤ 16 → eqb d.rx.count 0 ≡ false
      → take n (cut (next d.rx) a (a + c)) ≡ tabulate (λ (i : ℕ). get_or (message (oldest r.ledger)).bytes (past a c i) 0) 0 n
  waiting_shown a c n p q some =
      let none = eqb-false d.rx.count 0 some in
      rw (← oldest_next d.rx d.serials.places r.ledger h.3.2 (d.rx.count - 1) (omega (arith, none)))
      (cut_shown (message (oldest r.ledger)) a c n (message_sized (oldest r.ledger)) p q)

  -- of the latest frame
  -- of the temporary buffer, from behind byte 1 on
  latest_cut : (k : ℕ) → cut d.temp 0 (0 + (1 + k)) ≡ cut (message r.latest) 0 (0 + (1 + k))
  unfolding cut
  latest_cut k =
      rw (zero-add (1 + k))
      (ap padded (sym (drop-drop k 1 d.temp.bytes) ∙ ap (drop k) h.3.0 ∙ drop-drop k 1 (message r.latest).bytes))

  latest_shown : (k n : ℕ) → n ≤ 16
      → take n (cut d.temp 0 (0 + (1 + k))) ≡ tabulate (λ (i : ℕ). get_or (message r.latest).bytes (past 0 (1 + k) i) 0) 0 n
  latest_shown k n q = ap (take n) (latest_cut k) ∙ cut_shown (message r.latest) 0 (1 + k) n (message_sized r.latest) (omega arith) q

  -- of the history
  oldest_entry : (n : ℕ) → d.history.count ≡ suc n → take 3 (cut (next d.history) 3 16) ≡ get_or r.outbox.history 0 []
  oldest_entry n some =
      let oldest_first = take_waits d.history n some in
      entry_shown (next d.history) (rw oldest_first at h.4.bound).0
      ∙ rw (← h.4.entries, oldest_first)

  entry_found : eqb d.history.count 0 ≡ false → take 3 (cut (next d.history) 3 16) ≡ get_or r.outbox.history 0 []
  entry_found some =
      let none = eqb-false d.history.count 0 some in
      oldest_entry (d.history.count - 1) (omega (arith, none))

  filter : (k : ℕ) → k < 8 → take 6 (padded (get_or d.filters k absent).bytes) ≡ get_or r.settings.filters k []
  filter k below = pattern_shown d.filters k h.1.0 below ∙ ap (λ (s : Settings). get_or s.filters k []) h.0

  mask : (k : ℕ) → k < 8 → take 6 (padded (get_or d.masks k absent).bytes) ≡ get_or r.settings.masks k []
  mask k below = pattern_shown d.masks k h.1.1 below ∙ ap (λ (s : Settings). get_or s.masks k []) h.0

  -- a register of one byte, by the settings
  setting : (f : Settings → ℕ) {A : Type 0} → A → f (settings_of d) ∷ [] ≡ f r.settings ∷ []
  setting f a = ap (λ s. f s ∷ []) h.0

  -- nothing
  none : {A : Type 0} → A → ◌≡◌ {A = List ℕ} [] []
  none a = refl

  showing : AtRows Shows rows
  unfolding rows shows register reads_message finds_none tec_shown groups_shown
  showing =
      (λ a. latest_shown 0 15 (omega arith))
      and (λ a. latest_shown 2 13 (omega arith))
      and waiting_shown 0 0 16 (omega arith) (omega arith)
      and waiting_shown 1 2 14 (omega arith) (omega arith)
      and waiting_shown 3 5 11 (omega arith) (omega arith)
      and waiting_shown 1 7 9 (omega arith) (omega arith)
      and (λ a. filter 0 (omega arith)) and (λ a. filter 1 (omega arith)) and (λ a. filter 2 (omega arith)) and (λ a. filter 3 (omega arith))
      and (λ a. filter 4 (omega arith)) and (λ a. filter 5 (omega arith)) and (λ a. filter 6 (omega arith)) and (λ a. filter 7 (omega arith))
      and (λ a. mask 0 (omega arith)) and (λ a. mask 1 (omega arith)) and (λ a. mask 2 (omega arith)) and (λ a. mask 3 (omega arith))
      and (λ a. mask 4 (omega arith)) and (λ a. mask 5 (omega arith)) and (λ a. mask 6 (omega arith)) and (λ a. mask 7 (omega arith))
      and setting (λ s. s.ctrl0) and setting (λ s. s.ctrl1) and setting (λ s. s.btr0) and setting (λ s. s.btr1)
      and (λ a. rw messtat_same)
      and (λ a. rw err_same)
      and (λ a. rw intf_same)
      and (λ a. rw statf_same)
      and setting (λ s. s.inte) and setting (λ s. s.statfe) and setting (λ s. s.gpine)
      and (λ a. rw h.2.0)
      and (λ a. rw h.2.0)
      and entry_found
      and (λ a. rw h.2.0)
      and (λ a. rw h.2.1)
      and none and none and none and none and none
      and none and none and none and none and none and none and none and none and none and none
      and none and none and none and none and none and none and none and none
      and none and none and none and none and none and none and none and none
      and tt

pub command_shows : (d : Device) (r : Records) → InRange d → Kept d r → (c : ℕ) (row : Row) → lookup rows c ≡ Some row
    → finds_none d.rx.count d.history.count row.verb ≡ false → take row.out (shows d row.verb row.index) ≡ shown r c
unfolding shown
command_shows d r range h c row at = at_row (Shows d r range h) rows c row at (showing d r range h)
