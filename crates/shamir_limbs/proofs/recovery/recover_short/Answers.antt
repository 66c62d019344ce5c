use Rattle.std.proofs.lemmas.Bool.{false≢true}
use Rattle.std.proofs.Common.{refl}
use Rattle.shamir_limbs.proofs.KeyLines.{first_decoded_short, second_decoded_short, third_decoded_short, recovered_from_line, short_line_from_decoded}
use Rattle.shamir_limbs.proofs.recovery.recover_short.Goals as goal

pub returns-then-not-decode_short-clause-only : goal.returns-then-not-decode_short-clause-only
returns-then-not-decode_short-clause-only c q0 q1 q2 line = false≢true (c.if-not-decode_short.ensures.complete q0 (first_decoded_short q0 q1 q2 c.args.points.now c.args.k line))

pub returns-then-not-decode_short-2-clause-only : goal.returns-then-not-decode_short-2-clause-only
returns-then-not-decode_short-2-clause-only c q0 q1 q2 line = false≢true (c.if-not-decode_short-2.ensures.complete q1 (second_decoded_short q0 q1 q2 c.args.points.now c.args.k line))

pub returns-then-not-decode_short-3-clause-only : goal.returns-then-not-decode_short-3-clause-only
returns-then-not-decode_short-3-clause-only c q0 q1 q2 line = false≢true (c.if-not-decode_short-3.ensures.complete q2 (third_decoded_short q0 q1 q2 c.args.points.now c.args.k line))

pub returns-clause-only : goal.returns-clause-only
returns-clause-only c q0 q1 q2 line =
    recovered_from_line c.decode_short.new.out c.decode_short-2.new.out c.decode_short-3.new.out q0 q1 q2 c.args.points.now c.args.k c.key_through.result (
      c.decode_short.ensures.only q0 (first_decoded_short q0 q1 q2 c.args.points.now c.args.k line),
      c.decode_short-2.ensures.only q1 (second_decoded_short q0 q1 q2 c.args.points.now c.args.k line),
      c.decode_short-3.ensures.only q2 (third_decoded_short q0 q1 q2 c.args.points.now c.args.k line),
    )
    c.key_through.ensures.found c.key_through.ensures.from line.line

pub returns-clause-found : goal.returns-clause-found
returns-clause-found c =
    short_line_from_decoded c.decode_short.new.out c.decode_short-2.new.out c.decode_short-3.new.out c.args.points.now c.args.k c.key_through.result
    (c.if-not-decode_short.ensures.found refl) (c.if-not-decode_short-2.ensures.found refl) (c.if-not-decode_short-3.ensures.found refl) c.key_through.ensures.found c.key_through.ensures.from
