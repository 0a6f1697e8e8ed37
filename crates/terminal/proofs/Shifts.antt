-- A shift: what holds after each scan, and what it comes to. Assumes nothing.
use mathlib.Core.Path.{◌≡◌, refl, sym, ◌∙◌, ap}
use mathlib.Core.Bool.{false}
use mathlib.Core.List.{List, [], ◌++◌, map, append_assoc, append-nil}
use Prim.Native.Nat.{ℕ, ◌+◌, ◌-◌, ◌*◌, ◌/◌, ◌^◌, ◌<◌, ◌≤◌}
use native.Mathlib.Omega.{arith}
use borrow.Author.Tests.{eqb-true, not-false}
use borrow.Rule.Slice.PartMut.{put_mid, post_of, same_len_mid}
use lib.ListN.{length, take, drop, length-append, length-drop}
use lib.Seq.{take_at, length-take-le, take-append-add, take-append-le}
use Rattle.chip.specs.declared.Device.{Device}
use Rattle.bus.specs.Pins.{pins}
use Rattle.promise.specs.Frames.{message}
use Rattle.promise.specs.Ledger.{kept}
use Rattle.promise.specs.Records.{Records}
use Rattle.terminal.specs.declared.Turn.{Turn}
use Rattle.terminal.specs.Terminal.{switched_on, brought, scans as scans_in, Reached, Listens, Serves, Wakes, Served}
use Rattle.terminal.proofs.Coming.{scan_listens, scan_count, scan_last, scan_wakes, int_is, on, on_book, on_count, on_last, on_listens, on_wakes}
use Rattle.terminal.proofs.Serving.{bring_serves, all_printed}

-- INT is low, so nothing waits
pub asleep : (d : Device) → Reached d → Listens d → Wakes d → (pins d).int ≡ false → (page : List ℕ)
    → Served d page (record { device = d; used = 0 }) page
asleep d reached listens wakes low page =
    let none : d.rx.count ≡ 0 = eqb-true d.rx.count 0 (not-false _ (sym (int_is reached listens wakes) ∙ low)) in
    record {
      serves = λ arrived printed s. rw append-nil s;
      used = omega (arith, none);
      size = refl;
      listens = listens;
      none = none;
      quiet = wakes ∙ rw none;
      last = refl;
    }

-- k scans have come and the rest is still to, no more than `most` wait, and the others are on the page
pub record Shifting (scans page₀ : List ℕ) (most : ℕ) (page : List ℕ) (d : Device) (used k : ℕ) (rest : List ℕ) : Type 0 where
  pub came : List ℕ
  pub whole : came ++ rest ≡ scans
  pub long : length came ≡ k * 8
  pub serves : Serves d came (take used page)
  pub listens : Listens d
  pub wakes : Wakes d
  pub few : d.rx.count ≤ most
  pub printed : used + 8 * d.rx.count ≡ k * 8
  pub size : length page ≡ length page₀
  pub fits : length scans ≤ length page₀
  -- each scan that came got a number, and there is one left for each that comes
  pub numbered : d.serials.last ≡ k
  pub few_enough : length scans < 2 ^ 64

pub begun : (scans page : List ℕ) → length scans ≤ length page → length scans < 2 ^ 64 → Shifting scans page 0 page switched_on 0 0 scans
begun scans page fits few_enough = record {
  came = [];
  whole = refl;
  long = refl;
  serves = record {
    reached = on;
    stand = ap (λ (r : Records). scans_in (map message (kept r.ledger))) on_book;
    taken = ap (λ (r : Records). scans_in (map message r.ledger.taken)) on_book;
  };
  listens = on_listens;
  wakes = on_wakes;
  few = omega (arith, on_count);
  printed = omega (arith, on_count);
  size = refl;
  fits = fits;
  numbered = on_last;
  few_enough = few_enough;
}

module _ (scans page₀ : List ℕ) (most : ℕ) (page : List ℕ) (d : Device) (used k : ℕ) (rest : List ℕ) (h : Shifting scans page₀ most page d used k rest) where
  total : k * 8 + length rest ≡ length scans
  total = omega (arith, h.long, length-append h.came rest, ap length h.whole)

  -- the next scan comes
  pub scanned : (scan later : List ℕ) → rest ≡ scan ++ later → length scan ≡ 8 → most < 8
      → Shifting scans page₀ (most + 1) page (brought d scan) used (k + 1) later
  scanned scan later next eight room =
      let reached = h.serves.reached in
      let few : d.rx.count < 8 = omega (arith, h.few) in
      let left : d.serials.last < 2 ^ 64 - 1 = omega (arith, h.numbered, total, ap length next, length-append scan later, h.few_enough) in
      let one_more = scan_count reached h.listens few left scan in
      record {
        came = h.came ++ scan;
        whole = append_assoc h.came scan later ∙ ap (λ (l : List ℕ). h.came ++ l) (sym next) ∙ h.whole;
        long = length-append h.came scan ∙ omega (arith, h.long);
        serves = bring_serves h.serves h.listens few left scan eight;
        listens = scan_listens reached h.listens few left scan;
        wakes = scan_wakes reached h.listens few left scan h.wakes;
        few = omega (arith, one_more, h.few);
        printed = omega (arith, one_more, h.printed);
        size = h.size;
        fits = h.fits;
        numbered = scan_last reached h.listens few left scan ∙ ap (λ n. n + 1) h.numbered;
        few_enough = h.few_enough;
      }

  -- the rest of the page has room for all that waits
  enough : used + 8 * d.rx.count ≤ length page
  enough = omega (arith, h.printed, h.size, total, h.fits)

  abbrev left : ℕ
  left = length page - used

  pub roomy : 8 * d.rx.count ≤ length (take left (drop used page))
  roomy = rw (length-take-le left (drop used page) (omega (arith, length-drop used page))) (omega (arith, enough))

  module _ (t : Turn) (line : List ℕ) (served : Served d (take left (drop used page)) t line) where
    abbrev after : List ℕ
    after = put_mid used left page line

    printed : take (used + t.used) after ≡ take used page ++ take t.used line
    printed =
        let behind : length (take used page) ≡ used = length-take-le used page (omega (arith, enough)) in
        ap (λ n. take (n + t.used) after) (sym behind)
        ∙ take-append-add (take used page) (line ++ post_of used left page) t.used
        ∙ ap (λ (l : List ℕ). take used page ++ l) (take-append-le t.used line (post_of used left page) (omega (arith, served.used, served.size, roomy)))

    pub looked : (m : ℕ) → Shifting scans page₀ m after t.device (used + t.used) k rest
    looked m = record {
      came = h.came;
      whole = h.whole;
      long = h.long;
      serves = rw printed (served.serves _ _ h.serves);
      listens = served.listens;
      wakes = served.quiet ∙ rw served.none;
      few = omega (arith, served.none);
      printed = omega (arith, served.none, served.used, h.printed);
      size = same_len_mid used left page line served.size ∙ h.size;
      fits = h.fits;
      numbered = served.last ∙ h.numbered;
      few_enough = h.few_enough;
    }

    -- no whole scan is left, so everything that came is on the page
    pub finished : length rest < 8 → (used + t.used ≡ length scans / 8 * 8) × (take (used + t.used) after ≡ take (used + t.used) scans)
    finished short =
        let all : used + t.used ≡ length h.came = omega (arith, served.used, h.printed, h.long) in (
          omega (arith, all, h.long, total),
          printed ∙ all_printed (served.serves _ _ h.serves) served.none
              ∙ sym (ap (take (used + t.used)) (sym h.whole) ∙ take_at h.came rest (used + t.used) (sym all)),
        )
