-- Why a frame would not arrive: the reason is the device's, and under A4 each filter has its place. Assumes nothing.
use mathlib.Core.Path.{◌≡◌, refl, sym, ◌∙◌, ap, subst}
use mathlib.Core.Bool.{Bool, true, false, ◌&&◌, false≢true}
use mathlib.Core.List.{List, []}
use mathlib.Mathlib.Data.Bool.Basic.{eq-false_of_not-eq-true}
use Prim.Native.Nat.{ℕ, ◌<◌}
use borrow.Author.Tests.{eqb-true, not-false}
use lib.Dec.{eqb}
use lib.ListN.{get_or, replicate, get_or-map}
use Rattle.std.specs.Prelude.{Option, Some, None, Ok, Err}
use Rattle.base.specs.Pick.{pick}
use Rattle.base.proofs.Booleans.{and_left, and_right}
use Rattle.base.proofs.Lists.{table_at}
use Rattle.fifo.specs.Queue.{full, latest}
use Rattle.frame.specs.declared.Header.{Header}
use Rattle.frame.specs.Length.{possible, data_fits}
use Rattle.frame.specs.Received.{header_in}
use Rattle.frame.specs.Tables.{compared as compared_by}
use Rattle.filter.specs.Hits.{matches_at, hits as hits_of}
use Rattle.filter.proofs.Sets.{set_none}
use Rattle.chip.specs.declared.Device.{Device}
use Rattle.chip.specs.declared.Pattern.{Pattern}
use Rattle.chip.specs.Proper.{proper}
use Rattle.chip.specs.State.{absent, bank, filton}
use Rattle.receive.specs.declared.Arrival.TheVariants.{Queued, QueuedOver, A1, A2, A3, A4}
use Rattle.receive.specs.declared.Arrival.{Arrival}
use Rattle.receive.specs.declared.Brought.{Brought}
use Rattle.refusal.specs.declared.Refusal.TheVariants.{OutOfRange, Impossible, NoNumberLeft}
use Rattle.receive.specs.Receive.{matching, hits, over_latest, filters_and_room}
use Rattle.judged.specs.Judged.{impossible_frame, impossible, takes_no_frames, unacknowledged, reason, said, no_number_left, bus_frame, brings}
use Rattle.events.specs.declared.Event.TheVariants.{GoodFrame}
use Rattle.bus.specs.Event.{Answer, answered as answered_by, answer, event}
use Rattle.why.specs.declared.Place.{Place}
use Rattle.why.specs.Why.{place_in, places, is_a4, no_filter, explained}
use Rattle.promise.specs.Explanations.{EachHasOne}
use Rattle.promise.specs.Promises.{TheReasonIsTheDevices, EachPlaceIsTheFirst}
use Rattle.promise.specs.Sequence.{answered}
use Rattle.promise.specs.Settings.{patterns}
use Rattle.promise.proofs.Answered.{told_out}
use Rattle.promise.proofs.Places.{is_first}
use Rattle.promise.proofs.Shown.{compared_same}

-- ---- the reason

pub the_devices : TheReasonIsTheDevices
unfolding event explained
the_devices d h acknowledged count payload =
    let e = GoodFrame h acknowledged count in
    ap answered (sym (told_out d e payload (answer d e payload)))

-- ---- A4: no filter matches

a4_alone : (p i n : Bool) (told : Option Arrival) → no_filter (pick p (pick i (Err Impossible) (pick n (Err NoNumberLeft) (Ok told))) (Err OutOfRange)) ≡ true
    → (i ≡ false) × (no_filter (Ok told) ≡ true)
unfolding no_filter
a4_alone true true n s e = absurd (false≢true e)
a4_alone true false true s e = absurd (false≢true e)
a4_alone true false false s e = (refl, e)
a4_alone false i n s e = absurd (false≢true e)

for_the_filters : (a b c f full : Bool) (id : ℕ) (extended : Bool)
    → is_a4 (pick a A1 (pick b A2 (pick c A3 (pick f A4 (pick full (QueuedOver id extended) Queued))))) ≡ true → f ≡ true
unfolding is_a4
for_the_filters true b c f full id extended e = absurd (false≢true e)
for_the_filters false true c f full id extended e = absurd (false≢true e)
for_the_filters false false true f full id extended e = absurd (false≢true e)
for_the_filters false false false true full id extended e = refl
for_the_filters false false false false true id extended e = absurd (false≢true e)
for_the_filters false false false false false id extended e = absurd (false≢true e)

pub is-a4 : (a : Answer) → no_filter a ≡ true → a ≡ Ok (Some A4)
unfolding no_filter is_a4
is-a4 (Err refused) e = absurd (false≢true e)
is-a4 (Ok None) e = absurd (false≢true e)
is-a4 (Ok (Some Queued)) e = absurd (false≢true e)
is-a4 (Ok (Some (QueuedOver id extended))) e = absurd (false≢true e)
is-a4 (Ok (Some A1)) e = absurd (false≢true e)
is-a4 (Ok (Some A2)) e = absurd (false≢true e)
is-a4 (Ok (Some A3)) e = absurd (false≢true e)
is-a4 (Ok (Some A4)) e = refl

pub a4_is : (a : Answer) → a ≡ Ok (Some A4) → no_filter a ≡ true
unfolding no_filter is_a4
a4_is a e = ap no_filter e

bank_at : (ps : List Pattern) (k : ℕ) → k < 8 → get_or (bank ps) k [] ≡ get_or (patterns ps) k []
unfolding bank
bank_at ps k l = table_at (λ (k : ℕ). (get_or ps k absent).bytes) [] 8 k l ∙ sym (get_or-map (λ (p : Pattern). p.bytes) ps k absent)

module _ (d : Device) (h : Header) (acknowledged : Bool) (count : ℕ) (payload : List ℕ) where
  abbrev told : Answer
  told = answer d (GoodFrame h acknowledged count) payload

  abbrev brought : Option Brought
  brought = Some (bus_frame h acknowledged payload)

  module _ (a4 : no_filter told ≡ true) where
    parts : (impossible d (GoodFrame h acknowledged count) ≡ false) × (no_filter (Ok (said d brought (hits d brought))) ≡ true)
    unfolding answer answered_by brings
    parts =
        let s = said d brought (hits d brought) in
        a4_alone (proper d) (impossible d (GoodFrame h acknowledged count)) (no_number_left d s) s a4

    can : possible h ≡ true
    unfolding impossible impossible_frame
    can = and_left (possible h) (data_fits h count) (not-false (possible h && data_fits h count) parts.0)

    empty_handed : (filton d && eqb (hits d brought) 0) ≡ true
    unfolding said reason bus_frame filters_and_room over_latest no_filter
    empty_handed =
        let lost = header_in (latest d.rx).bytes in
        for_the_filters (takes_no_frames d.acting) d.counters.busoff (unacknowledged d.acting acknowledged)
        (filton d && eqb (hits d brought) 0) (full d.rx) lost.id lost.extended parts.1

    none : matching d h payload ≡ 0
    unfolding hits bus_frame
    none =
        sym (ap (λ (t : Bool). pick t (matching d h payload) 0) (and_left (filton d) (eqb (hits d brought) 0) empty_handed))
        ∙ eqb-true (hits d brought) 0 (and_right (filton d) (eqb (hits d brought) 0) empty_handed)

    misses : (k : ℕ) → k < 8 → matches_at (bank d.filters) (bank d.masks) (compared_by h payload) k ≡ false
    unfolding matching hits_of
    misses k l = set_none (matches_at (bank d.filters) (bank d.masks) (compared_by h payload)) 8 none k l

    place_at : (k : ℕ) → k < 8 → get_or (places d h payload) k None ≡ place_in (bank d.filters) (bank d.masks) (compared_by h payload) k
    unfolding places
    place_at k l = table_at (place_in (bank d.filters) (bank d.masks) (compared_by h payload)) None 8 k l

    each_has_one : EachHasOne d h payload (places d h payload)
    unfolding places
    each_has_one = (
      refl,
      λ k l.
          rw (place_at k l, ← compared_same h payload can, ← bank_at d.filters k l, ← bank_at d.masks k l)
          (is_first (compared_by h payload) (get_or (bank d.filters) k []) (get_or (bank d.masks) k []) (misses k l)),
    )

pub is_pointed : EachPlaceIsTheFirst
unfolding explained
is_pointed d h acknowledged count payload = (
  λ e.
      let a4 : no_filter (told d h acknowledged count payload) ≡ true = a4_is (told d h acknowledged count payload) e in
      subst (λ (ps : List (Option Place)). EachHasOne d h payload ps)
      (sym (ap (λ (t : Bool). pick t (places d h payload) (replicate 8 None)) a4)) (each_has_one d h acknowledged count payload a4),
  λ other. ap (λ (t : Bool). pick t (places d h payload) (replicate 8 None)) (eq-false_of_not-eq-true (λ t. other (is-a4 (told d h acknowledged count payload) t))),
)
