-- A device keeps to the records: the relation between the two, and what follows from it. Assumes nothing.
use mathlib.Core.Path.{◌≡◌, refl, sym, ◌∙◌, ap}
use mathlib.Core.Bool.{true}
use Prim.Native.Nat.{◌%◌}
use native.Mathlib.Omega.{arith}
use lib.Dec.{eqb}
use lib.ListN.{length, drop}
use Rattle.chip.specs.declared.Device.{Device}
use Rattle.chip.specs.declared.Pattern.{Pattern}
use Rattle.chip.specs.State.{fresh, idle, zeros}
use Rattle.fifo.specs.Queue.{none}
use Rattle.frame.specs.Length.{data_of, data_bytes, data_length}
use Rattle.frame.specs.Received.{received}
use Rattle.frame.specs.Tables.{id_as_read, id_bits}
use Rattle.promise.specs.Flags.{together}
use Rattle.promise.specs.Frames.{message}
use Rattle.promise.specs.Ledger.{frames}
use Rattle.promise.specs.Numbering.{serials, Rises}
use Rattle.promise.specs.Numbers.{situation}
use Rattle.promise.specs.Outbox.{rests}
use Rattle.promise.specs.Ranges.{device_in_range}
use Rattle.promise.specs.Due.{situation_of}
use Rattle.promise.specs.Held.{Banked}
use Rattle.promise.specs.Records.{Records, start}
use Rattle.promise.specs.Settings.{Settings, settings_of, mode_named}
use Rattle.promise.proofs.Boxes.{Boxed, empty_boxed, rests_same, queue_length, history_length}
use Rattle.promise.proofs.Each.{each_replicate}
use Rattle.promise.proofs.Queues.{Shown, HoldsLedger, empty_holds, left_waits}
use Rattle.promise.proofs.Shown.{blank_shown}
use Rattle.promise.proofs.Ranges.{InRange, ranges_proper, proper_same}

-- Part by part: a change of other parts leaves one as it is.
abbrev pub Banks : Device → Type 0
Banks d = Banked d.filters × Banked d.masks

abbrev pub Sums : Device → Records → Type 0
Sums d r =
    (d.counters ≡ r.counters)
    × (d.time ≡ r.ticks % 65536)
    × (d.regs.errs ≡ together r.kinds)
    × (d.regs.intf ≡ together r.flags)

abbrev pub Numbered : Device → Records → Type 0
Numbered d r =
    (d.serials.last ≡ r.arrivals)
    × (d.serials.temp ≡ r.latest.serial)
    × Rises 0 r.arrivals (serials (frames r.ledger))

abbrev pub Framed : Device → Records → Type 0
Framed d r =
    (drop 1 d.temp.bytes ≡ drop 1 (message r.latest).bytes)
    × (d.regs.hits ≡ r.latest.hits)
    × HoldsLedger d.rx d.serials.places r.ledger
    × Shown r.latest
    × Numbered d r

abbrev pub Outgoing : Device → Records → Type 0
Outgoing d r = Boxed d.tx d.buffer d.sending d.history d.regs.mtag r.outbox

abbrev pub Kept : Device → Records → Type 0
Kept d r = (settings_of d ≡ r.settings) × Banks d × Sums d r × Framed d r × Outgoing d r

pub fresh_kept : Kept fresh start
unfolding fresh mode_named received id_as_read id_bits data_of data_bytes data_length
fresh_kept =
    let six = each_replicate (λ (p : Pattern). length p.bytes ≡ 6) 8 zeros refl in
    (refl, ((refl, six), (refl, six)), (refl, refl, refl, refl), (refl, refl, empty_holds _ refl, blank_shown, (refl, refl, omega arith)), empty_boxed none)

module _ (d : Device) (r : Records) (range : InRange d) (h : Kept d r) where
  abbrev s : Settings
  s = r.settings

  pub acting_same : d.acting ≡ s.acting
  acting_same = ap (λ (s : Settings). s.acting) h.0

  -- what the table of numbers asks about the device is what the records say
  pub situation_same : situation d ≡ situation_of r
  situation_same =
      let fits : device_in_range d ≡ true = sym (proper_same d) ∙ ranges_proper d range in
      let acting = acting_same in
      let ctrl1 : d.regs.ctrl1 ≡ s.ctrl1 = ap (λ (s : Settings). s.ctrl1) h.0 in
      let pin : d.txenpin ≡ s.pin = ap (λ (s : Settings). s.pin) h.0 in
      let counters = h.2.0 in
      let rests_is : eqb d.sending idle ≡ rests r.outbox.running = rests_same _ _ _ _ _ _ h.4 in
      let to_send = queue_length _ _ _ _ _ _ h.4 in
      let entries = history_length _ _ _ _ _ _ h.4 in
      let last = h.3.4.0 in
      let waits = left_waits d.rx d.serials.places r.ledger h.3.2 in
      cc
