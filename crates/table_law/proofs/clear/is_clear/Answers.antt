use Rattle.std.proofs.Common.{◌≡◌, Bool, Ok, Err, Result}
use Rattle.std.specs.Prelude.{IfOk, IsTrue, ◌↔◌}
use Rattle.table_law.proofs.ClearTest.{clear_decides, same_test}
use Rattle.table_law.proofs.clear.is_clear.Goals as goal

-- a result that is true exactly for clear tables is the test
told : {E P : Type 0} (r : Result Bool E) (b : Bool) → IfOk r (λ c. IsTrue c ↔ P) → (b ≡ Rattle.std.proofs.Common.true) ↔ P → IfOk r (λ c. c ≡ b)
told (Ok c) b f g = same_test c b f g
told (Err e) b f g = tt

pub returns-clause-test : goal.returns-clause-test
returns-clause-test c = told c.each_layer_is_clear.result _ c.each_layer_is_clear.ensures (clear_decides c.args.table.now c.args.thresholds.now c.args.epoch c.args.seed.now)
