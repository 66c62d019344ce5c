use Rattle.std.proofs.Common.{refl}
use Rattle.poly61.proofs.Values.{value-one, value-zero}
use Rattle.gao_decoder.proofs.Rows.{unit_rows}
use Rattle.gao_decoder.proofs.halving.become_unit.Goals as goal

pub returns : goal.returns
returns c t x a b a_below b_below =
    unit_rows c.become_one.new.self c.clear.new.self c.clear-2.new.self c.become_one-2.new.self x a b
    (value-one c.become_one.new.self x (c.if-not-become_one.ensures.one refl) (c.if-not-become_one.ensures.below refl))
    (value-zero c.clear.new.self x c.clear.ensures.zero)
    (value-zero c.clear-2.new.self x c.clear-2.ensures.zero)
    (value-one c.become_one-2.new.self x (c.become_one-2.ensures.one t) (c.become_one-2.ensures.below t))
    a_below b_below
