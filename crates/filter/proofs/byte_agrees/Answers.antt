-- `filter::byte_agrees` meets its contract, by the argument over the number of bits, at 8.
use Rattle.filter.proofs.Bytes.{whole_agrees}
use Rattle.filter.proofs.byte_agrees.Goals as goal

pub returns : goal.returns
returns c = whole_agrees 8 c.args.frame c.args.filter c.args.mask c.ranges.mask.fits
