-- `host::transfer` meets its contract: no reply is longer than sixteen bytes.
use Rattle.std.proofs.Common.{◌≡◌, ◌≤◌, length, take, sym, rules, arith}
use lib.ListN.{length-take}
use Rattle.refused.proofs.Accepted.{accepted_out}
use Rattle.host.proofs.transfer.Goals as goal

pub slice_bounds-sixteen-end : goal.slice_bounds-sixteen-end
slice_bounds-sixteen-end c =
    let short : c.in-Ok.row.out ≤ 16 = accepted_out _ _ _ _ (sym c.in-Ok.ensures) in
    let long : length c.shows-sixteen.result ≡ 16 = search rules in
    let within : c.in-Ok.row.out ≤ length c.shows-sixteen.result = omega arith in
    within

pub slice_bounds-put-end : goal.slice_bounds-put-end
slice_bounds-put-end c =
    let short : c.in-Ok.row.out ≤ 16 = accepted_out _ _ _ _ (sym c.in-Ok.ensures) in
    let long : length c.shows-sixteen.result ≡ 16 = search rules in
    let taken : c.in-Ok.row.out ≡ length (take c.in-Ok.row.out c.shows-sixteen.result) = simp length-take (omega arith) in
    taken
