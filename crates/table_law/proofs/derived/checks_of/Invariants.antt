use Rattle.std.proofs.Common.{◌≡◌, take, map}
use Rattle.adss_commit.specs.declared.context.Derived.{Derived}
use Rattle.table_law.proofs.derived.checks_of.Given as goal

abbrev pub invariant-loop-one : goal.invariant-loop-one
invariant-loop-one l = l.checks.items ≡ map (λ (d : Derived). d.check) (take l.one-index l.derived)
