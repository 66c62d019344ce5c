use Rattle.std.proofs.Common.{◌+◌, ℕ, List, drop, ap, ◌∙◌}
use Rattle.std.proofs.lemmas.List.{drop-drop}
use Rattle.star_io.proofs.KnownBytes.{appends_more}
use Rattle.star_io.proofs.standard.write_whole.Goals as goal

pub loop-rest-preserved : goal.loop-rest-preserved
loop-rest-preserved g c =
    let before = c.loop-rest.invariant in
    let count = c.in-Ok.count in
    let left = c.split_at.ensures.back ∙ ap (λ (l : List ℕ). drop count l) before.1 ∙ drop-drop count before.0 c.args.piece.now in
    (before.0 + count, left, appends_more _ _ _ c.args.piece.now c.loop-rest.rest.now before.0 count before.1 before.2 c.in-Ok.ensures.bytes)
