use Rattle.std.proofs.Common.{◌∙◌, sym, arith}
use Rattle.tag_groups.proofs.IndexLemmas.{place_here}
use Rattle.tag_groups.proofs.grouper.find.Goals as goal

pub returns-then-is_of : goal.returns-then-is_of
returns-then-is_of c =
    sym (place_here c.args.rank.now.key c.args.groups.now.items c.place-place.result c.index.result.now c.requires.apart
    (omega (arith, c.if-place-len.true, c.len.ensures)) c.index.ensures (sym c.is_of.ensures ∙ c.if-is_of.true))
