-- One result for each public function of chip, line, drawn, flags, transmit and modes. `Frames` says how to read a
-- line.
use Rattle.std.specs.Prelude.{refl}
use Rattle.chip.specs.State
use Rattle.chip.specs.Proper
use Rattle.line.specs.Request
use Rattle.drawn.specs.Drawn
use Rattle.flags.specs.Flags
use Rattle.flags.specs.Reset
use Rattle.transmit.specs.Transmit
use Rattle.modes.specs.Modes
use Rattle.chip.specs.contracts as chip
use Rattle.chip.specs.contracts.Device
use Rattle.line.specs.contracts as line
use Rattle.drawn.specs.contracts as drawn
use Rattle.flags.specs.contracts as flags
use Rattle.transmit.specs.contracts as transmit
use Rattle.modes.specs.contracts as modes
use Rattle.one.specs.Law.{OneResult}
use Rattle.one.specs.Shapes.{result}

module _ (M : Type 1) where
  -- ---- chip
  pub Device-fresh : OneResult M Device.fresh.ended (λ _. Device.fresh.spec)
  Device-fresh = result (λ _. Device.fresh.clauses) (λ _. State.fresh) refl

  pub chip-mode_of : OneResult M chip.mode_of.ended (λ _. chip.mode_of.spec)
  chip-mode_of = result (λ _. chip.mode_of.clauses) (λ _. State.mode_of) refl

  pub chip-reset_bit : OneResult M chip.reset_bit.ended (λ _. chip.reset_bit.spec)
  chip-reset_bit = result (λ _. chip.reset_bit.clauses) (λ _. State.reset_bit) refl

  pub Device-bor : OneResult M Device.bor.ended (λ _. Device.bor.spec)
  Device-bor = result (λ _. Device.bor.clauses) (λ _. State.bor) refl

  pub Device-wakeup : OneResult M Device.wakeup.ended (λ _. Device.wakeup.spec)
  Device-wakeup = result (λ _. Device.wakeup.clauses) (λ _. State.wakeup) refl

  pub chip-osm : OneResult M chip.osm.ended (λ _. chip.osm.spec)
  chip-osm = result (λ _. chip.osm.clauses) (λ _. State.osm) refl

  pub Device-filton : OneResult M Device.filton.ended (λ _. Device.filton.spec)
  Device-filton = result (λ _. Device.filton.clauses) (λ _. State.filton) refl

  pub Device-enabled : OneResult M Device.enabled.ended (λ _. Device.enabled.spec)
  Device-enabled = result (λ _. Device.enabled.clauses) (λ _. State.enabled) refl

  pub Device-spent : OneResult M Device.spent.ended (λ _. Device.spent.spec)
  Device-spent = result (λ _. Device.spent.clauses) (λ _. State.spent) refl

  pub chip-bank : OneResult M chip.bank.ended (λ _. chip.bank.spec)
  chip-bank = result (λ _. chip.bank.clauses) (λ _. State.bank) refl

  pub Device-proper : OneResult M Device.proper.ended (λ _. Device.proper.spec)
  Device-proper = result (λ _. Device.proper.clauses) (λ _. Proper.proper) refl

  -- ---- line
  pub line-read_line : OneResult M line.read_line.ended (λ _. line.read_line.spec)
  line-read_line = result (λ _. line.read_line.clauses) (λ _ s. Request.read_line s.now) refl

  -- ---- drawn
  pub drawn-statf : OneResult M drawn.statf.ended (λ _. drawn.statf.spec)
  drawn-statf = result (λ _. drawn.statf.clauses) (λ _. Drawn.statf) refl

  pub drawn-err : OneResult M drawn.err.ended (λ _. drawn.err.spec)
  drawn-err = result (λ _. drawn.err.clauses) (λ _. Drawn.err) refl

  pub drawn-messtat : OneResult M drawn.messtat.ended (λ _. drawn.messtat.spec)
  drawn-messtat = result (λ _. drawn.messtat.clauses) (λ _. Drawn.messtat) refl

  pub drawn-int : OneResult M drawn.int.ended (λ _. drawn.int.spec)
  drawn-int = result (λ _. drawn.int.clauses) (λ _. Drawn.int) refl

  pub drawn-stat : OneResult M drawn.stat.ended (λ _. drawn.stat.spec)
  drawn-stat = result (λ _. drawn.stat.clauses) (λ _. Drawn.stat) refl

  pub drawn-gp : OneResult M drawn.gp.ended (λ _. drawn.gp.spec)
  drawn-gp = result (λ _. drawn.gp.clauses) (λ _. Drawn.gp) refl

  -- ---- flags
  pub flags-raised : OneResult M flags.raised.ended (λ _. flags.raised.spec)
  flags-raised = result (λ _. flags.raised.clauses) (λ _. Flags.raised) refl

  pub flags-bus_error : OneResult M flags.bus_error.ended (λ _. flags.bus_error.spec)
  flags-bus_error = result (λ _. flags.bus_error.clauses) (λ _. Flags.bus_error) refl

  pub flags-reset : OneResult M flags.reset.ended (λ _. flags.reset.spec)
  flags-reset = result (λ _. flags.reset.clauses) (λ _. Reset.reset) refl

  -- ---- transmit
  pub transmit-can_begin : OneResult M transmit.can_begin.ended (λ _. transmit.can_begin.spec)
  transmit-can_begin = result (λ _. transmit.can_begin.clauses) (λ _. Transmit.can_begin) refl

  pub transmit-begun : OneResult M transmit.begun.ended (λ _. transmit.begun.spec)
  transmit-begun = result (λ _. transmit.begun.clauses) (λ _. Transmit.begun) refl

  pub transmit-stopped : OneResult M transmit.stopped.ended (λ _. transmit.stopped.spec)
  transmit-stopped = result (λ _. transmit.stopped.clauses) (λ _. Transmit.stopped) refl

  pub transmit-aborted : OneResult M transmit.aborted.ended (λ _. transmit.aborted.spec)
  transmit-aborted = result (λ _. transmit.aborted.clauses) (λ _. Transmit.aborted) refl

  pub transmit-cleared : OneResult M transmit.cleared.ended (λ _. transmit.cleared.spec)
  transmit-cleared = result (λ _. transmit.cleared.clauses) (λ _. Transmit.cleared) refl

  pub transmit-transmitted : OneResult M transmit.transmitted.ended (λ _. transmit.transmitted.spec)
  transmit-transmitted = result (λ _. transmit.transmitted.clauses) (λ _. Transmit.transmitted) refl

  -- ---- modes
  pub modes-ctrl0_written : OneResult M modes.ctrl0_written.ended (λ _. modes.ctrl0_written.spec)
  modes-ctrl0_written = result (λ _. modes.ctrl0_written.clauses) (λ _. Modes.ctrl0_written) refl

  pub modes-bus_quiet : OneResult M modes.bus_quiet.ended (λ _. modes.bus_quiet.spec)
  modes-bus_quiet = result (λ _. modes.bus_quiet.clauses) (λ _. Modes.bus_quiet) refl

  pub modes-bus_activity : OneResult M modes.bus_activity.ended (λ _. modes.bus_activity.spec)
  modes-bus_activity = result (λ _. modes.bus_activity.clauses) (λ _. Modes.bus_activity) refl
