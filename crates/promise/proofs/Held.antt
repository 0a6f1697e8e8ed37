-- A device holds what the records have exactly if it is in range and keeps to them. Assumes nothing.
use mathlib.Core.Path.{sym, ◌∙◌}
use Rattle.chip.specs.declared.Device.{Device}
use Rattle.promise.specs.Held.{Holds}
use Rattle.promise.specs.Records.{Records}
use Rattle.promise.proofs.Kept.{Kept}
use Rattle.promise.proofs.Ranges.{InRange, ranges_proper, proper_ranges, proper_same}

module _ (d : Device) (r : Records) where
  pub held_in : Holds d r → InRange d
  held_in h = proper_ranges d (proper_same d ∙ h.fits)

  pub held_kept : Holds d r → Kept d r
  held_kept h = (
    h.settled,
    (h.shaped.0, h.shaped.1),
    (h.counted, h.timed, h.seen, h.raised),
    (
      h.latest.0,
      h.latest.1,
      record { places = h.shaped.2; eight = h.shaped.6; whole = h.whole; carried = h.carries.0; shown = h.arrived.1 },
      h.arrived.0,
      (h.last, h.carries.1, h.ordered),
    ),
    record {
      places = h.shaped.3;
      queue = h.written.0;
      runs = h.written.1;
      pages = h.shaped.4;
      entries = h.remembered.0;
      tag = h.remembered.1;
      bound = h.shaped.5;
      sendable = h.sendable.1;
      flying = h.sendable.0;
    },
  )

  pub kept_held : InRange d → Kept d r → Holds d r
  kept_held range k = record {
    fits = sym (proper_same d) ∙ ranges_proper d range;
    shaped = (k.1.0, k.1.1, k.3.2.places, k.4.places, k.4.pages, k.4.bound, k.3.2.eight);
    settled = k.0;
    counted = k.2.0;
    timed = k.2.1;
    seen = k.2.2;
    raised = k.2.3;
    latest = (k.3.0, k.3.1);
    whole = k.3.2.whole;
    last = k.3.4.0;
    carries = (k.3.2.carried, k.3.4.1);
    ordered = k.3.4.2;
    arrived = (k.3.3, k.3.2.shown);
    written = (k.4.queue, k.4.runs);
    remembered = (k.4.entries, k.4.tag);
    sendable = (k.4.flying, k.4.sendable);
  }
