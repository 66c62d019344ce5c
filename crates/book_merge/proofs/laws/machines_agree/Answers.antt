use Rattle.book_merge.proofs.Orders.{turned_machines}
use Rattle.book_merge.proofs.Machines.{machines_sum, machines_fit}
use Rattle.book_merge.proofs.laws.machines_agree.Goals as goal

pub returns-clause-sum : goal.returns-clause-sum
returns-clause-sum c = machines_sum

pub returns-clause-fit : goal.returns-clause-fit
returns-clause-fit c = machines_fit

pub returns-clause-turned : goal.returns-clause-turned
returns-clause-turned c = turned_machines
