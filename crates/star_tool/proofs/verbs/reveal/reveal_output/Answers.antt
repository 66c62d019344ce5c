use Rattle.star_tool.specs.Seen.{seen}
use Rattle.star_tool.proofs.RevealLemmas.{reveal_made}
use Rattle.star_tool.proofs.verbs.reveal.reveal_output.Goals as goal

pub returns-clause-output : goal.returns-clause-output
returns-clause-output g c = λ coins.
    reveal_made c.args.epoch c.args.workers (seen g.S.Source.left g.S.Source.faults c.args.input.now c.walk_over.new.input) coins c.in_ok-walk.walk c.in_ok-revealed.revealed c.in_ok-text.text.items
    c.in_ok-walk.ensures.records c.in_ok-revealed.ensures c.in_ok-text.ensures
