use Rattle.gao_decoder.proofs.Search.{found_is_decoded, found_is_same, none_is_found}
use Rattle.gao_decoder.proofs.laws.search_decodes.Goals as goal

pub returns-clause-found : goal.returns-clause-found
returns-clause-found c = found_is_decoded

pub returns-clause-only : goal.returns-clause-only
returns-clause-only c = found_is_same

pub returns-clause-none : goal.returns-clause-none
returns-clause-none c = none_is_found
