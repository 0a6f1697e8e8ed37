-- More devices that the promises rule out: in their commands and settings, flags and pins, replies and counters.
use Rattle.std.specs.Prelude.{true, ◌&&◌, ◌||◌, List, [], ◌∷◌, ℕ, ◌+◌, ◌*◌, ◌/◌, ◌%◌, eqb, ltb, drop, set, replicate, Some, Ok, Err}
use Rattle.std.specs.Int.Bits.{bit_or}
use Rattle.base.specs.Bit.{byte, bit, is_set}
use Rattle.base.specs.Pick.{pick}
use Rattle.base.specs.Put.{put_of}
use Rattle.counters.specs.declared.Counters.{Counters}
use Rattle.counters.specs.Rules.{zeroed, with_rec, with_tec, with_groups}
use Rattle.fifo.specs.declared.Message.{Message}
use Rattle.fifo.specs.Queue.{next, take}
use Rattle.frame.specs.Received.{header_in, data_in}
use Rattle.chip.specs.declared.Device.{Device}
use Rattle.chip.specs.declared.Registers.{Registers}
use Rattle.chip.specs.State.{monitor, sleep, alone}
use Rattle.chip.specs.Parts.{with_rx, with_counters, with_acting, with_regs, with_ctrl0, with_ctrl1, with_errs}
use Rattle.chip.specs.Parts.{with_intf, with_hits}
use Rattle.refusal.specs.declared.Refusal.TheVariants.{NoCommand}
use Rattle.receive.specs.Receive.{hits, message}
use Rattle.judged.specs.Judged.{bus_frame}
use Rattle.bus.specs.declared.types.Pins.{Pins}
use Rattle.bus.specs.Pins.{pins}
use Rattle.promise.specs.Sequence.{spi, wire, Given, replied, answered, Step, Machine, shipped, done}
use Rattle.promise.specs.Commands.{message_reads, lengths_of}
use Rattle.promise.specs.Registers.{share}
use Rattle.promise.specs.Settings.{mode_named}
use Rattle.promise.specs.Wrong.{but, but_transfers, but_events, taking, replying, with_device, with_given}
use Rattle.promise.specs.Wrong.{with_registers, tells, completes, reset_done, taken_for}

-- ---- commands and settings

-- two commands exchanged: 0x58 clears the receive FIFO, and 0x5A resets the time tag
abbrev pub commands_exchanged : Machine
commands_exchanged = taking (taken_for ((0x58, 0x5A) ∷ (0x5A, 0x58) ∷ []))

-- filters 4 to 7 are written into 0 to 3
abbrev pub filter_elsewhere : Machine
filter_elsewhere = taking (taken_for ((0x6A, 0x62) ∷ (0x6C, 0x64) ∷ (0x6E, 0x66) ∷ (0x72, 0x68) ∷ []))

-- a sleep that acts before its quiet bus
abbrev pub sleeps_at_once : Machine
sleeps_at_once =
    but_transfers (λ d bytes s.
    pick (eqb (mode_named s.device.regs.ctrl0) sleep) (with_device s (with_acting s.device sleep)) s)

-- a wake-up that leaves MODE
abbrev pub mode_stays : Machine
mode_stays =
    but_events (λ d i s. pick (eqb d.acting sleep && eqb s.device.acting monitor)
    (with_registers s (with_ctrl0 s.device.regs d.regs.ctrl0)) s)

-- BOR read from CTRL0's bit 1: to an event bits 1 and 2 are exchanged
abbrev pub other_bor : Device → Device
other_bor d =
    let v = d.regs.ctrl0 in
    with_regs d (with_ctrl0 d.regs (v / 8 * 8 + bit 1 v * 4 + bit 2 v * 2 + v % 2))

abbrev pub bor_elsewhere : Machine
bor_elsewhere d (spi bytes buffer) = shipped d (spi bytes buffer)
bor_elsewhere d (wire e payload) =
    let s : Step = shipped (other_bor d) (wire e payload) in
    with_device s (other_bor s.device)

-- TX1M kept by the completion of a message that 0x54 left alone
abbrev pub tx1m_kept : Machine
tx1m_kept =
    but (λ d i s.
    pick (eqb d.sending alone && completes d i)
    (with_registers s (with_ctrl1 s.device.regs d.regs.ctrl1))
    s)

-- ---- flags and pins

-- FILTON ignored for the flags: F0MESS and F1MESS as they would rise with it set
abbrev pub filtering : Device → Device
filtering d = with_regs d (with_ctrl1 d.regs (bit_or d.regs.ctrl1 0x10))

abbrev pub filton_ignored : Machine
filton_ignored =
    but (λ d i s.
    pick (tells 0 s.given || tells 6 s.given)
    (with_registers s
    (with_intf s.device.regs (bit_or s.device.regs.intf ((shipped (filtering d) i).device.regs.intf % 4))))
    s)

-- FILHIT is filter 7's wherever that hit, whatever hit below it
abbrev pub highest_shown : Machine
highest_shown =
    but_events (λ d i s.
    let set = s.device.regs.hits in
    with_registers s (with_hits s.device.regs (pick (is_set 7 set) 0x80 set)))

-- F1MESS rising while filter 0 hit too
abbrev pub both_raised : Machine
both_raised =
    but_events (λ d i s.
    pick (is_set 1 s.device.regs.hits) (with_registers s (with_intf s.device.regs (bit_or s.device.regs.intf 2))) s)

-- ERR's bits 0 and 1 exchanged in what an event sets
abbrev pub errs_exchanged : Machine
errs_exchanged =
    but_events (λ d i s.
    let set = (shipped (with_regs d (with_errs d.regs 0)) i).device.regs.errs in
    pick (done s.given)
    (with_registers s (with_errs s.device.regs (bit_or d.regs.errs (set / 4 * 4 + bit 0 set * 2 + bit 1 set))))
    s)

-- the registers after a host's reset, as another device would have them
abbrev pub resetting : (Registers → Registers → Registers) → Machine
resetting keep =
    but_transfers (λ d bytes s. pick (reset_done bytes s) (with_registers s (keep d.regs s.device.regs)) s)

-- a host's reset that clears ERR, and one that keeps INTF
abbrev pub err_cleared : Machine
err_cleared = resetting (λ before after. with_errs after 0)

abbrev pub intf_kept : Machine
intf_kept = resetting (λ before after. with_intf after before.intf)

-- a way to look at the pins that shows INT by STATFE's bits
abbrev pub int_by_statfe : Device → Pins
int_by_statfe d = record {
  int = share d.regs.intf d.regs.statfe;
  stat = (pins d).stat;
  gp1 = (pins d).gp1;
  gp2 = (pins d).gp2;
}

-- ---- replies

-- a read that shows another message's data: where there is one, that behind the oldest
abbrev pub shows_another : Machine
shows_another = replying message_reads (λ d. pick (ltb 1 d.rx.count) (with_rx d (take d.rx)) d)

-- the oldest message, with byte 1 as the filters would now have it
abbrev pub hit_now : Device → Message → Message
hit_now d m =
    let h = header_in m.bytes in
    let bytes = data_in m.bytes in
    record { bytes = byte (message d h bytes (hits d (Some (bus_frame h true bytes)))).bytes 1 ∷ drop 1 m.bytes }

-- a hit computed at read time
abbrev pub hit_at_read : Machine
hit_at_read =
    replying message_reads (λ d. with_rx d (record {
      items = set d.rx.items (d.rx.first % 8) (hit_now d (next d.rx));
      first = d.rx.first;
      count = d.rx.count;
    }))

-- 01: "one that replies zeros always"
abbrev pub blanked : List ℕ → Given → Given
blanked bytes (replied (Ok done) buffer) = replied (Ok done) (put_of (replicate (lengths_of (byte bytes 1)).out 0) buffer)
blanked bytes (replied (Err refused) buffer) = replied (Err refused) buffer
blanked bytes (answered a) = answered a

abbrev pub replies_zeros : Machine
replies_zeros = but_transfers (λ d bytes s. with_given s (blanked bytes s.given))

-- one that counts truly and shows zeros for REC, TEC and the groups
abbrev pub blind : Machine
blind = replying (0xEA ∷ 0xEC ∷ 0xF8 ∷ []) (λ d. with_counters d zeroed)

-- one that shows the groups outside bus off too
abbrev pub groups_always : Machine
groups_always =
    replying (0xF8 ∷ [])
    (λ d.
    with_counters d
    (record { rec = d.counters.rec; tec = d.counters.tec; busoff = true; groups = d.counters.groups }))

-- one that clears ERR and INTF before it shows them
abbrev pub clears_first : Machine
clears_first = replying (0xDC ∷ 0xDE ∷ []) (λ d. with_regs d (with_errs (with_intf d.regs 0) 0))

-- 01: "a device that refuses each transfer"
abbrev pub refuses_all : Machine
refuses_all d (spi bytes buffer) = record { device = d; given = replied (Err NoCommand) buffer }
refuses_all d (wire e payload) = shipped d (wire e payload)

-- ---- counters

-- 01: "one whose steps change nothing"
abbrev pub changes_nothing : Machine
changes_nothing = but (λ d i s. with_device s d)

-- 01: "a made-up REC, TEC or recessive count"
abbrev pub counting : (Counters → Counters) → Machine
counting make_up = but (λ d i s. with_device s (with_counters s.device (make_up s.device.counters)))

abbrev pub made_up_rec : Machine
made_up_rec = counting (λ c. with_rec c 0)

abbrev pub made_up_tec : Machine
made_up_tec = counting (λ c. with_tec c 0)

abbrev pub made_up_groups : Machine
made_up_groups = counting (λ c. with_groups c 0)
