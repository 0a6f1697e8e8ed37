-- `Header::received` meets its contract: the parts stand where Table 5 has them. Assumes nothing.
use Rattle.std.proofs.Common.{◌≡◌, [], ◌∷◌, ◌%◌, ap, ◌∙◌, arith, append-nil}
use Rattle.base.specs.Bit.{time_bytes}
use Rattle.frame.specs.Received.{received}
use Rattle.frame.specs.Tables.{id_as_read}
use Rattle.frame.proofs.Header.received.Goals as goal

pub returns : goal.returns
unfolding received id_as_read
returns c =
    let time = c.args.time in
    let tag : c.to_be_bytes.result ≡ time_bytes time =
    c.to_be_bytes.ensures ∙ ap (λ upper. upper ∷ time % 256 ∷ []) (omega arith) in
    rw (
      c.copy_from_slice.ensures.after,
      c.copy_from_slice-2.ensures.after,
      c.copy_from_slice-3.ensures.after,
      tag,
      c.id_as_read.ensures,
      c.data_of.ensures,
      c.flag.ensures.0,
      append-nil,
    )
