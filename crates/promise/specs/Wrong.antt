-- Devices that the promises rule out: the shipped one, but for one thing. `proofs/RuledOut` shows of each a sequence,
-- or a device, on which it breaks its promise.
use Rattle.std.specs.Prelude.{Bool, not, ◌&&◌, ◌||◌, List, [], ◌∷◌, ◌++◌, map, ℕ, ◌+◌, ◌-◌, ◌%◌, min, eqb, ltb, get_or, set, drop, take as first_of, Some, None, Ok, Err}
use Rattle.base.specs.Bit.{byte, is_set}
use Rattle.base.specs.Pick.{pick, among}
use Rattle.fifo.specs.declared.Fifo.{Fifo}
use Rattle.fifo.specs.declared.Message.{Message}
use Rattle.fifo.specs.Queue.{empty, none, is_empty, full, take}
use Rattle.chip.specs.declared.Device.{Device}
use Rattle.chip.specs.declared.Registers.{Registers}
use Rattle.chip.specs.State.{loopback, idle, first_in_fifo, alone}
use Rattle.chip.specs.Parts.{with_rx, with_tx, with_temp, with_buffer, with_regs, with_intf}
use Rattle.receive.specs.declared.Arrival.{Arrival}
use Rattle.receive.specs.declared.Arrival.TheVariants.{Queued, QueuedOver, A1, A2, A3, A4}
use Rattle.receive.specs.Receive.{over_latest}
use Rattle.refusal.specs.declared.Refusal.TheVariants.{Impossible}
use Rattle.host.specs.Transfer.{reply_after}
use Rattle.promise.specs.Sequence.{Input, spi, wire, Given, replied, answered, Step, Machine, shipped, number}
use Rattle.promise.specs.Sequence.{values, fate, done}
use Rattle.promise.specs.Commands.{message_reads, one_of}
use Rattle.promise.specs.Settings.{asks_reset}

-- ---- a step with a part changed

abbrev pub with_device : Step → Device → Step
with_device s d = record { device = d; given = s.given }

abbrev pub with_given : Step → Given → Step
with_given s g = record { device = s.device; given = g }

abbrev pub with_queue : Step → Fifo → Step
with_queue s q = with_device s (with_rx s.device q)

abbrev pub with_registers : Step → Registers → Step
with_registers s v = with_device s (with_regs s.device v)

-- ---- how one differs

-- in what a step makes of a device, or gives
abbrev pub but : (Device → Input → Step → Step) → Machine
but change d i = change d i (shipped d i)

-- in what a transfer makes of it
abbrev pub but_transfers : (Device → List ℕ → Step → Step) → Machine
but_transfers change d (spi bytes buffer) = change d bytes (shipped d (spi bytes buffer))
but_transfers change d (wire e payload) = shipped d (wire e payload)

-- in the transfer that it takes one for
abbrev pub taking : (List ℕ → List ℕ) → Machine
taking another d (spi bytes buffer) = shipped d (spi (another bytes) buffer)
taking another d (wire e payload) = shipped d (wire e payload)

-- in what an event makes of it
abbrev pub but_events : (Device → Input → Step → Step) → Machine
but_events change d (spi bytes buffer) = shipped d (spi bytes buffer)
but_events change d (wire e payload) = change d (wire e payload) (shipped d (wire e payload))

-- in the device that the reply of these commands is drawn from
abbrev pub replying : List ℕ → (Device → Device) → Machine
replying commands draw d (spi bytes buffer) =
    let s : Step = shipped d (spi bytes buffer) in
    pick (done s.given && one_of (byte bytes 1) commands)
    (with_given s (replied (Ok tt) (reply_after (draw d) bytes buffer)))
    s
replying commands draw d (wire e payload) = shipped d (wire e payload)

-- an arrival was told, and it was n
abbrev pub tells : ℕ → Given → Bool
tells n given = eqb (fate (values given)) n

-- a message was sent: TXCPLT rises
abbrev pub completes : Device → Input → Bool
completes d i = is_set 5 (shipped (with_regs d (with_intf d.regs 0)) i).device.regs.intf

-- the host reset the device, by 0x56 or RESET
abbrev pub reset_done : List ℕ → Step → Bool
reset_done bytes s =
    done s.given && (eqb (byte bytes 1) 0x56 || (eqb (byte bytes 1) 0x14 && asks_reset (byte bytes 2)))

-- the command byte taken for another, by pairs
abbrev pub taken_for : List (ℕ × ℕ) → List ℕ → List ℕ
taken_for pairs [] = []
taken_for pairs (c ∷ bytes) = among c pairs c ∷ bytes

-- ---- queue and answers

-- 01: "a device that queues the first frame truly and only says Queued for the others": those that find one waiting
abbrev pub only_first : Machine
only_first = but (λ d i s. pick (tells 0 s.given && not (is_empty d.rx)) (with_queue s d.rx) s)

-- 01: "The room test is made before the filters", so that a stranger's frame is told Queued-over-latest
abbrev pub room_first : Machine
room_first = but (λ d i s. pick (full d.rx && tells 4 s.given) (with_given s (answered (Ok (Some (over_latest d.rx))))) s)

-- A1 for A2 and A2 for A1
abbrev pub exchanged_reason : Arrival → Arrival
exchanged_reason A1 = A2
exchanged_reason A2 = A1
exchanged_reason Queued = Queued
exchanged_reason (QueuedOver id extended) = QueuedOver id extended
exchanged_reason A3 = A3
exchanged_reason A4 = A4

abbrev pub retold : (Arrival → Arrival) → Given → Given
retold tell (replied answer buffer) = replied answer buffer
retold tell (answered (Err refused)) = answered (Err refused)
retold tell (answered (Ok None)) = answered (Ok None)
retold tell (answered (Ok (Some what))) = answered (Ok (Some (tell what)))

abbrev pub reasons_exchanged : Machine
reasons_exchanged = but (λ d i s. with_given s (retold exchanged_reason s.given))

-- one that says Queued where no frame came
abbrev pub boast : Given → Given
boast (replied answer buffer) = replied answer buffer
boast (answered (Err refused)) = answered (Err refused)
boast (answered (Ok None)) = answered (Ok (Some Queued))
boast (answered (Ok (Some what))) = answered (Ok (Some what))

abbrev pub boasts : Machine
boasts = but (λ d i s. with_given s (boast s.given))

-- one that queues a frame and says nothing of it
abbrev pub hushed : Given → Given
hushed (replied answer buffer) = replied answer buffer
hushed (answered (Err refused)) = answered (Err refused)
hushed (answered (Ok told)) = answered (Ok None)

abbrev pub queues_in_silence : Machine
queues_in_silence = but (λ d i s. pick (tells 0 s.given) (with_given s (hushed s.given)) s)

-- one that answers as refused what it has done
abbrev pub denial : Given → Given
denial (replied answer buffer) = replied answer buffer
denial (answered (Err refused)) = answered (Err refused)
denial (answered (Ok None)) = answered (Err Impossible)
denial (answered (Ok (Some what))) = answered (Ok (Some what))

abbrev pub denies_done : Machine
denies_done = but (λ d i s. with_given s (denial s.given))

-- one that says Queued where 8 is due: of a frame that can't be, too
abbrev pub believes_all : Machine
believes_all = but (λ d i s. pick (eqb (number s.given) 8) (with_given s (answered (Ok (Some Queued)))) s)

-- a read that takes two messages
abbrev pub takes_two : Machine
takes_two = but (λ d i s. pick (ltb s.device.rx.count d.rx.count) (with_queue s (take s.device.rx)) s)

-- 01: "A read with too short a buffer takes the message off."
abbrev pub short_takes : Machine
short_takes =
    but_transfers (λ d bytes s.
    pick (eqb (number s.given) 4 && one_of (byte bytes 1) message_reads) (with_queue s (take d.rx)) s)

-- the queue with its messages changed
abbrev pub rewritten : (Message → Message) → Fifo → Fifo
rewritten change q = record { items = map change q.items; first = q.first; count = q.count }

-- 01: "The length code 9 … is stored as 8."
abbrev pub clipped : Message → Message
clipped m = record { bytes = first_of 7 m.bytes ++ min (byte m.bytes 8) 8 ∷ drop 8 m.bytes }

abbrev pub code_clipped : Machine
code_clipped = but (λ d i s. with_queue s (rewritten clipped s.device.rx))

-- one that keeps a bus frame's payload whole in the newest message, with the bytes behind those that the frame has
abbrev pub behind_in : Fifo → List ℕ → Fifo
behind_in q payload =
    let newest = (q.first + q.count - 1) % 8 in
    let m : Message = get_or q.items newest none in
    record {
      items = set q.items newest (record { bytes = first_of 8 m.bytes ++ payload });
      first = q.first;
      count = q.count;
    }

abbrev pub keeps_behind : Machine
keeps_behind d (spi bytes buffer) = shipped d (spi bytes buffer)
keeps_behind d (wire e payload) =
    let s : Step = shipped d (wire e payload) in
    pick ((tells 0 s.given || tells 6 s.given) && not (eqb d.acting loopback))
    (with_queue s (behind_in s.device.rx payload)) s

-- ---- what clears it

-- a host's reset that keeps the queue, and a write of another mode that clears it
abbrev pub reset_keeps : Machine
reset_keeps = but_transfers (λ d bytes s. pick (reset_done bytes s) (with_queue s d.rx) s)

abbrev pub mode_clears : Machine
mode_clears = but_transfers (λ d bytes s. pick (eqb d.acting s.device.acting) s (with_queue s empty))

-- ---- the temporary buffer

-- 01: "A filtered-off frame doesn't reach 0x42."
abbrev pub strangers_unseen : Machine
strangers_unseen = but (λ d i s. pick (tells 4 s.given) (with_device s (with_temp s.device d.temp)) s)

-- ---- own messages

-- 01: "After 0x54 during a transmission, a new message is written and the old completion removes it."
abbrev pub old_completion : Machine
old_completion =
    but (λ d i s.
    pick (eqb d.sending alone && completes d i) (with_device s (with_tx s.device (take s.device.tx))) s)

-- one that begins a message without a copy of it: in loopback zeros arrive
abbrev pub nothing_copied : Machine
nothing_copied =
    but (λ d i s.
    pick (eqb d.sending idle && eqb s.device.sending first_in_fifo)
    (with_device s (with_buffer s.device none))
    s)
