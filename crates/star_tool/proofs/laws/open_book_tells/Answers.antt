use Rattle.std.proofs.Common.{ap, refl}
use Rattle.star_tool.specs.Verbs.Merge.{of_sum}
use Rattle.star_tool.specs.Verbs.OpenBook.{opened}
use Rattle.star_tool.proofs.laws.open_book_tells.Goals as goal

pub returns-clause-refused : goal.returns-clause-refused
returns-clause-refused c = λ epoch workers bytes. refl

pub returns-clause-text : goal.returns-clause-text
returns-clause-text c = λ epoch workers bytes seed sum is. ap (of_sum (opened epoch)) is
