-- The orders of what is told are total.
use Rattle.std.specs.Cmp.{IsTotalOrder, nat_cmp_total}
use Rattle.std.proofs.lemmas.Cmp.{on_total, then_total, lists_total, nat_list_cmp_total}
use Rattle.report_frame.specs.Versions.{version_number}
use Rattle.layer_walk.specs.declared.auxiliary.Aux.{Aux}
use Rattle.layer_walk.specs.declared.path.Step.{Step}
use Rattle.layer_walk.specs.declared.refusal.Refusal.{Refusal}
use Rattle.layer_walk.specs.declared.revealed.OpenedGroup.{OpenedGroup}
use Rattle.layer_walk.specs.Reveal.{step_cmp, by_path, by_index, by_aux_index}

step_total : IsTotalOrder step_cmp
step_total =
    then_total (on_total (λ (s : Step). s.value) nat_list_cmp_total)
    (then_total (on_total (λ (s : Step). s.k) nat_cmp_total) (on_total (λ (s : Step). version_number s.version) nat_cmp_total))

pub path_total : IsTotalOrder by_path
path_total = on_total (λ (g : OpenedGroup). g.path) (lists_total step_total)

pub index_total : IsTotalOrder by_index
index_total = on_total (λ (r : Refusal). r.index) nat_cmp_total

pub aux_index_total : IsTotalOrder by_aux_index
aux_index_total = on_total (λ (a : Aux). a.index) nat_cmp_total
