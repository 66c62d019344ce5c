use Rattle.shamir_limbs.proofs.LineSearch.{found_is_line, line_of_polynomials, no_line}
use Rattle.shamir_limbs.proofs.laws.search_recovers.Goals as goal

pub returns-clause-found : goal.returns-clause-found
returns-clause-found c = found_is_line

pub returns-clause-only : goal.returns-clause-only
returns-clause-only c = line_of_polynomials

pub returns-clause-none : goal.returns-clause-none
returns-clause-none c = no_line
