-- `terminal::shift`: so many scans have come, and no more wait than since the terminal last looked.
use Rattle.std.proofs.Common.{◌≡◌, ◌%◌}
use Rattle.std.specs.Iterator.Adapters.{enumerate_source, enumerate_count}
use Rattle.std.specs.Slice.Iter.{chunks_exact_rest, chunks_exact_size}
use Rattle.terminal.proofs.Shifts.{Shifting}
use Rattle.terminal.proofs.shift.Given as goal

abbrev pub invariant-loop-i : goal.invariant-loop-i
invariant-loop-i l =
    let left = enumerate_source l.i-iterator in
    let k = enumerate_count l.i-iterator in
    (goal.iterator-loop-i).can_next l.i-iterator × (goal.iterator-loop-i).is_finite l.i-iterator × (chunks_exact_size left ≡ 8)
    × Shifting l.fn.scans l.initial.page (k % 3) l.page l.d l.used k (chunks_exact_rest left)
