use Rattle.std.proofs.Common.{arith, ◌≡◌}
use Rattle.field61.specs.Field.{field_difference, field_product}
use Rattle.poly61.specs.Poly.{value}
use Rattle.poly61.proofs.Values.{newton_passes, TakesOff-keeps, TakesOff-below}
use Rattle.poly61.proofs.poly.Poly.pass_through.Goals as goal

pub returns-in-Some-clause-passes : goal.returns-in-Some-clause-passes
returns-in-Some-clause-passes c =
    let step : c.mul-c.result ≡ field_product (field_difference (value c.args.self.now c.args.x) c.args.y) c.in-Some.inverse = (cc) in
    let one : field_product (value c.args.work.now c.args.x) c.in-Some.inverse ≡ 1 = rw (← c.value_at.ensures.value) c.in-Some.ensures.inverse in
    newton_passes c.args.self.now c.take_off.new.self c.args.work.now c.mul-c.result c.args.x c.args.y c.in-Some.inverse c.know.ensures c.know_element.ensures step one c.take_off.ensures.taken

pub returns-in-Some-clause-keeps : goal.returns-in-Some-clause-keeps
returns-in-Some-clause-keeps c z root = TakesOff-keeps c.args.self.now c.take_off.new.self c.mul-c.result 0 c.args.work.now z c.know.ensures c.take_off.ensures.taken root

pub returns-in-Some-clause-below : goal.returns-in-Some-clause-below
returns-in-Some-clause-below c n work_below below =
    TakesOff-below c.args.self.now c.take_off.new.self c.mul-c.result 0 c.args.work.now n n c.know.ensures c.take_off.ensures.taken below work_below (omega arith)
