use Rattle.std.proofs.Common.{◌≡◌, ◌∙◌, Some, sym, ap}
use Rattle.std.specs.Map.{set_value}
use Rattle.std.specs.Option.{option_copied_mut}
use Rattle.std.specs.Ordering.{nat_cmp}
use Rattle.std.specs.BTreeMap.{is_at, get}
use Rattle.std.proofs.lemmas.Map.Steps.{set_value_same}
use Rattle.std.proofs.lemmas.Result.{on_err_weaker}
use Rattle.layer_walk.specs.Seen.{WalkView}
use Rattle.epoch_walk.proofs.walks.hand.Goals as goal

pub returns-in-Some-clause-kept : goal.returns-in-Some-clause-kept
returns-in-Some-clause-kept c =
    let there : get nat_cmp c.args.walks.now c.args.epoch ≡ Some c.in-Some.walk.now = sym c.get_mut.ensures.value ∙ ap option_copied_mut c.in-Some.is in
    on_err_weaker c.take.result
    (λ same. (c.get_mut.follows.holds c.take.new.self).0
    ∙ ap (λ (w : WalkView). set_value (is_at (nat_cmp c.args.epoch)) c.args.walks.now.entries w) same
    ∙ set_value_same (is_at (nat_cmp c.args.epoch)) c.args.walks.now.entries c.in-Some.walk.now there)
    c.take.ensures.kept
