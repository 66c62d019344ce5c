use Rattle.std.proofs.Common.{◌++◌, ◌∙◌, take, ap, append_assoc}
use Rattle.shamir_limbs.proofs.LineNumbers.{numbers_are}
use Rattle.open_cert.proofs.numbers.numbers_of.Goals as goal

pub returns : goal.returns
returns c =
    let k = c.args.k in
    let q = c.args.line.now in
    let room = c.requires.line.room in
    let a = take k q.first in
    let b = take k q.second in
    let d = take k q.third in
    c.in_ok-put_coefficients-3.ensures
    ∙ ap (λ l. l ++ d) (c.in_ok-put_coefficients-2.ensures ∙ ap (λ l. l ++ b) (c.in_ok-put_coefficients.ensures ∙ ap (λ l. l ++ a) c.in_ok-numbers.ensures.items))
    ∙ append_assoc a b d
    ∙ numbers_are q.first q.second q.third c.args.points.now k c.know_elements.ensures c.requires.distinct c.requires.threshold room.0 room.1 room.2 c.requires.line.line
