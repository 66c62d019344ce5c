use Rattle.std.proofs.lemmas.Bool.{false≢true}
use Rattle.std.proofs.Common.{refl}
use Rattle.shamir_limbs.proofs.KeyLines.{first_decoded, second_decoded, third_decoded, recovered_from_line, line_if_found}
use Rattle.shamir_limbs.proofs.recovery.find_line.Goals as goal

pub returns-then-not-decode-clause-only : goal.returns-then-not-decode-clause-only
returns-then-not-decode-clause-only c q0 q1 q2 line = false≢true (c.if-not-decode.ensures.complete q0 (first_decoded q0 q1 q2 c.args.shares.now.points.now c.args.shares.now.k line))

pub returns-then-not-decode_near-clause-only : goal.returns-then-not-decode_near-clause-only
returns-then-not-decode_near-clause-only c q0 q1 q2 line = false≢true (c.if-not-decode_near.ensures.complete q1 (second_decoded q0 q1 q2 c.args.shares.now.points.now c.args.shares.now.k line))

pub returns-then-not-decode_near-2-clause-only : goal.returns-then-not-decode_near-2-clause-only
returns-then-not-decode_near-2-clause-only c q0 q1 q2 line = false≢true (c.if-not-decode_near-2.ensures.complete q2 (third_decoded q0 q1 q2 c.args.shares.now.points.now c.args.shares.now.k line))

pub returns-clause-only : goal.returns-clause-only
returns-clause-only c q0 q1 q2 line =
    recovered_from_line c.decode.new.out c.decode_near.new.out c.decode_near-2.new.out q0 q1 q2 c.args.shares.now.points.now c.args.shares.now.k c.key_through.result (
      c.decode.ensures.only q0 (first_decoded q0 q1 q2 c.args.shares.now.points.now c.args.shares.now.k line),
      c.decode_near.ensures.only q1 (second_decoded q0 q1 q2 c.args.shares.now.points.now c.args.shares.now.k line),
      c.decode_near-2.ensures.only q2 (third_decoded q0 q1 q2 c.args.shares.now.points.now c.args.shares.now.k line),
    )
    c.key_through.ensures.found c.key_through.ensures.from line

pub returns-clause-line : goal.returns-clause-line
returns-clause-line c =
    line_if_found c.decode.new.out c.decode_near.new.out c.decode_near-2.new.out c.args.shares.now.points.now c.args.shares.now.k c.key_through.result
    (c.if-not-decode.ensures.found refl) (c.if-not-decode_near.ensures.found refl) (c.if-not-decode_near-2.ensures.found refl) c.key_through.ensures.found
