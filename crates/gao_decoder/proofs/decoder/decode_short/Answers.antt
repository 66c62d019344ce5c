use Rattle.gao_decoder.proofs.Decoded.{short_of_first, short_is_found, short_only}
use Rattle.gao_decoder.proofs.decoder.decode_short.Goals as goal

pub returns-clause-found : goal.returns-clause-found
returns-clause-found c is =
    short_of_first c.decode_through.new.out c.args.xs.now c.args.ys.now c.args.k c.requires.threshold (c.decode_through.ensures.found is) (c.decode_through.ensures.passes is)

pub returns-clause-exactly : goal.returns-clause-exactly
returns-clause-exactly c = (
  λ is. (c.decode_through.new.out, returns-clause-found c is),
  λ (f, d). short_is_found f c.args.xs.now c.args.ys.now c.args.k c.decode_through.result c.requires.threshold c.decode_through.ensures.complete d,
)

pub returns-clause-only : goal.returns-clause-only
returns-clause-only c f d =
    short_only c.decode_through.new.out f c.args.xs.now c.args.ys.now c.args.k c.know_elements.ensures c.requires.distinct c.requires.pairs c.requires.threshold
    (returns-clause-found c (short_is_found f c.args.xs.now c.args.ys.now c.args.k c.decode_through.result c.requires.threshold c.decode_through.ensures.complete d)) d
