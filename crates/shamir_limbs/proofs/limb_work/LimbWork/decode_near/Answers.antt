use Rattle.std.proofs.Common.{◌∙◌, arith, refl, sym}
use Rattle.gao_decoder.proofs.Decoded.{one_decoded}
use Rattle.shamir_limbs.specs.KeyLine.{xs_of, ys_of}
use Rattle.shamir_limbs.proofs.KeyLines.{length-xs_of, length-ys_of}
use Rattle.shamir_limbs.proofs.limb_work.LimbWork.decode_near.Goals as goal

pub returns-then-guess_near-clause-only : goal.returns-then-guess_near-clause-only
returns-then-guess_near-clause-only c f d =
    one_decoded c.guess_near.new.out f (xs_of c.args.shares.now.points.now) (ys_of c.args.shares.now.points.now c.args.limb) c.args.shares.now.k c.guess_near.ensures.elements c.args.shares.now.distinct
    (length-xs_of c.args.shares.now.points.now ∙ sym (length-ys_of c.args.shares.now.points.now c.args.limb)) (omega (arith, length-xs_of c.args.shares.now.points.now, c.args.shares.now.threshold)) (c.if-guess_near.ensures.found refl) d
