use Rattle.client_table.proofs.BadPlaceLaws.{place_is, none_is}
use Rattle.client_table.proofs.laws.first_bad_place.Goals as goal

pub returns-clause-found : goal.returns-clause-found
returns-clause-found c = place_is

pub returns-clause-none : goal.returns-clause-none
returns-clause-none c = none_is
