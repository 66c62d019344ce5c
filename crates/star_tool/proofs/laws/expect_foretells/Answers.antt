use Rattle.star_tool.proofs.ExpectLemmas.{foretold, foretold_text, foretold_reveal, stream_kept}
use Rattle.star_tool.proofs.laws.expect_foretells.Goals as goal

pub returns-clause-lines : goal.returns-clause-lines
returns-clause-lines c = foretold_text

pub returns-clause-reveal : goal.returns-clause-reveal
returns-clause-reveal c = λ epoch workers thresholds seed bytes drawn other low t none says.
    foretold_reveal epoch thresholds seed bytes drawn low t none says

pub returns-clause-alone : goal.returns-clause-alone
returns-clause-alone c = λ epoch thresholds seed bytes drawn low t none says.
    let is = foretold epoch thresholds seed bytes drawn low t none says in (is.refusals, is.clean)

pub returns-clause-kept : goal.returns-clause-kept
returns-clause-kept c = λ epoch workers thresholds seed bytes drawn low t none. stream_kept epoch thresholds seed bytes drawn low t none
