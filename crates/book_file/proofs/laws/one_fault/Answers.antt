use Rattle.book_file.proofs.Spelled.{read_fault, one_fault, no_fault}
use Rattle.book_file.proofs.laws.one_fault.Goals as goal

pub returns-clause-told : goal.returns-clause-told
returns-clause-told c = read_fault

pub returns-clause-only : goal.returns-clause-only
returns-clause-only c = one_fault

pub returns-clause-none : goal.returns-clause-none
returns-clause-none c = no_fault
