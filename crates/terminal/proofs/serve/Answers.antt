-- `terminal::serve` meets its contract: each turn of its loop prints the oldest message that waits.
use Rattle.std.proofs.Common.{◌≡◌, length, rules}
use Rattle.terminal.proofs.Turns.{begun, ended, fewer, again}
use Rattle.terminal.proofs.serve.Goals as goal

pub loop-s-init : goal.loop-s-init
loop-s-init c =
    rw (c.read_status-s.ensures, c.read_flags-d.ensures)
    (begun c.args.d c.requires.reached c.requires.listens c.args.page.now c.requires.count_in_bounds)

pub loop-s-smaller : goal.loop-s-smaller
loop-s-smaller c =
    rw (c.read_status-s-in-loop-s.ensures, c.read-e.ensures.device)
    (fewer _ _ _ _ _ c.loop-s.invariant c.loop-s-test.true)

pub loop-s-preserved : goal.loop-s-preserved
loop-s-preserved c =
    let eight : length c.read-e.new.line ≡ 8 = search rules in
    rw (c.read_status-s-in-loop-s.ensures, c.read-e.ensures.device)
    (again _ _ _ _ _ c.loop-s.invariant c.loop-s-test.true c.read-e.new.line eight c.read-e.ensures.line)

pub returns : goal.returns
returns c =
    ended c.args.d c.requires.reached c.requires.listens c.args.page.now c.requires.count_in_bounds
    c.loop-s.page c.loop-s.used c.loop-s.s
    (rw (← c.read_flags-d.ensures, ← c.read_status-s.ensures) c.loop-s.invariant)
    c.loop-s-test.false
