use Rattle.book_merge.proofs.Meaning.{sum_means, bad_means, epoch_means, much_means}
use Rattle.book_merge.proofs.laws.merge_means.Goals as goal

pub returns-clause-sum : goal.returns-clause-sum
returns-clause-sum c = sum_means

pub returns-clause-bad_book : goal.returns-clause-bad_book
returns-clause-bad_book c = bad_means

pub returns-clause-other_epoch : goal.returns-clause-other_epoch
returns-clause-other_epoch c = epoch_means

pub returns-clause-too_many : goal.returns-clause-too_many
returns-clause-too_many c = much_means
