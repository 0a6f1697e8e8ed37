-- How a mode comes to act (01, Modes and filters).
use Rattle.std.specs.Prelude.{Bool, not, ◌&&◌, ℕ, ◌+◌, ◌%◌, eqb}
use Rattle.base.specs.Pick.{pick}
use Rattle.fifo.specs.Queue.{is_empty}
use Rattle.chip.specs.declared.Device.{Device}
use Rattle.chip.specs.Parts.{with_regs, with_ctrl0, with_acting}
use Rattle.chip.specs.State.{mode_of, sleep, monitor, idle, reset_bit, wakeup}
use Rattle.flags.specs.Flags.{raised, mchg, wakeup_flag}
use Rattle.flags.specs.Reset.{reset}
use Rattle.transmit.specs.Transmit.{stopped}

abbrev pub put_ctrl0 : Device → ℕ → Device
put_ctrl0 d v = with_regs d (with_ctrl0 d.regs v)

-- 000, INTF: MCHG "is set when the mode of operation is changed"
unfoldable pub mode_changed : Device → ℕ → Device
mode_changed d mode = raised (with_acting d mode) mchg

-- 000, CTRL0: "Setting this bit causes HI-3110 reset to occur", and the bit stays until the host clears it. "Any
-- other mode write withdraws a waiting sleep" by what MODE then names. "If it names a mode other than the acting one,
-- it acts at once and ends a running transmission as an abort does, TXEN and TX1M kept; if not, no transmission is
-- touched". A sleep is only waited for; "A sleep write while asleep leaves the mode as it is; the byte's other bits
-- act."
unfoldable pub ctrl0_written : Device → ℕ → Device
ctrl0_written d v =
    pick (reset_bit v) (put_ctrl0 (reset d) 0x88)
    (pick (eqb (mode_of v) sleep) (put_ctrl0 d v)
    (pick (eqb (mode_of v) d.acting) (put_ctrl0 d v)
    (mode_changed (stopped (put_ctrl0 d v)) (mode_of v))))

-- "Sleep begins at the first bus-quiet event with the transmit FIFO empty and none in flight"
unfoldable pub can_sleep : Device → Bool
can_sleep d =
    eqb (mode_of d.regs.ctrl0) sleep && (not (eqb d.acting sleep) && (is_empty d.tx && eqb d.sending idle))

unfoldable pub bus_quiet : Device → Device
bus_quiet d = pick (can_sleep d) (mode_changed d sleep) d

-- "With WAKEUP set, a bus activity event or a good frame in sleep brings monitor mode, and MODE then reads 010"
unfoldable pub bus_activity : Device → Device
bus_activity d =
    pick (eqb d.acting sleep && wakeup d)
    (raised (mode_changed (put_ctrl0 d (d.regs.ctrl0 % 32 + 64)) monitor) wakeup_flag)
    d
