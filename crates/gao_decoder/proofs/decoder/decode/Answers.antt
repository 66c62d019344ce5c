use Rattle.std.proofs.Common.{refl, true}
use Rattle.gao_decoder.proofs.Decoded.{one_decoded}
use Rattle.gao_decoder.proofs.Search.{MatchOption-decoding_of}
use Rattle.gao_decoder.proofs.decoder.decode.Goals as goal

pub returns-then-decode_short-clause-only : goal.returns-then-decode_short-clause-only
returns-then-decode_short-clause-only c f d =
    one_decoded c.decode_short.new.out f c.args.xs.now c.args.ys.now c.args.k c.know_elements.ensures c.requires.distinct c.requires.pairs c.requires.threshold (c.if-decode_short.ensures.found refl).decoded d

pub returns-then-decode_short-clause-search : goal.returns-then-decode_short-clause-search
returns-then-decode_short-clause-search c =
    MatchOption-decoding_of c.decode_short.new.out c.args.xs.now c.args.ys.now c.args.k true (λ _. (c.if-decode_short.ensures.found refl).decoded) (λ f d. refl)
    (returns-then-decode_short-clause-only c)

pub returns-then-decode_sampled-clause-only : goal.returns-then-decode_sampled-clause-only
returns-then-decode_sampled-clause-only c f d =
    one_decoded c.decode_sampled.new.out f c.args.xs.now c.args.ys.now c.args.k c.know_elements.ensures c.requires.distinct c.requires.pairs c.requires.threshold (c.if-decode_sampled.ensures.found refl) d

pub returns-then-decode_sampled-clause-search : goal.returns-then-decode_sampled-clause-search
returns-then-decode_sampled-clause-search c =
    MatchOption-decoding_of c.decode_sampled.new.out c.args.xs.now c.args.ys.now c.args.k true (λ _. c.if-decode_sampled.ensures.found refl) (λ f d. refl)
    (returns-then-decode_sampled-clause-only c)

pub returns-clause-search : goal.returns-clause-search
returns-clause-search c =
    MatchOption-decoding_of c.decode_by_halving.new.out c.args.xs.now c.args.ys.now c.args.k c.decode_by_halving.result c.decode_by_halving.ensures.found c.decode_by_halving.ensures.complete c.decode_by_halving.ensures.only
