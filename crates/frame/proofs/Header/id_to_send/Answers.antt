-- `Header::id_to_send` meets its contract: below ID18 a standard identifier has nothing but zeros. Assumes nothing.
use Rattle.std.proofs.Common.{◌≡◌, false, arith}
use Rattle.base.specs.Bit.{bits}
use Rattle.frame.specs.declared.Header.{Header}
use Rattle.frame.specs.Tables.{id_to_send, id_bits}
use Rattle.frame.proofs.Header.id_to_send.Goals as goal

module _ (h : Header) (standard : h.extended ≡ false) where
  below_id18 : bits 17 15 (id_bits h) ≡ 0
  unfolding id_bits
  below_id18 = rw standard (omega arith)

  below_id15 : bits 14 7 (id_bits h) ≡ 0
  unfolding id_bits
  below_id15 = rw standard (omega arith)

  below_id7 : bits 6 0 (id_bits h) ≡ 0
  unfolding id_bits
  below_id7 = rw standard (omega arith)

pub returns-else-self : goal.returns-else-self
unfolding id_to_send
returns-else-self c =
    let h = c.args.self in
    let standard = c.if-self.false in
    rw (c.laid_out-else-self.ensures, below_id18 h standard, below_id15 h standard, below_id7 h standard, standard) (grind arith)
