use Rattle.std.proofs.Common.{◌≡◌, ◌∙◌, length, map, sym, ap, subst}
use Rattle.std.specs.Prelude.{All}
use Rattle.std.specs.Map.{keys_of}
use Rattle.epoch_walk.specs.Seen.{EpochWalkView}
use Rattle.epoch_walk.specs.Parts.{part}
use Rattle.epoch_walk.specs.Epochs.{part_told, parts, strays, epochs_told}
use Rattle.epoch_walk.specs.Standing.{StandsForPart}
use Rattle.epoch_walk.proofs.walk.EpochWalk.finish.Goals as goal

pub returns : goal.returns
unfolding epochs_told
returns g c records stands =
    let s = c.self.inside in
    let old : EpochWalkView = record { taken = s.taken; walks = s.walks.entries; strays = s.strays } in
    let seen : old ≡ c.args.self = c.self.view_is in
    let count : s.taken ≡ length records = ap (λ (v : EpochWalkView). v.taken) seen ∙ stands.taken in
    let walks : All (StandsForPart records) s.walks.entries = subst (λ (v : EpochWalkView). All (StandsForPart records) v.walks) (sym seen) stands.walks_are in
    let told : c.in_ok-parts.parts ≡ parts records =
    c.in_ok-parts.ensures records walks
    ∙ ap (map (λ e. part_told e (part records e))) (ap (λ (v : EpochWalkView). keys_of v.walks) seen ∙ stands.epochs_are) in
    let lost : s.strays ≡ strays records = ap (λ (v : EpochWalkView). v.strays) seen ∙ stands.strays_are in
    (λ i. record { records = count i; parts = told i; strays = lost i })
