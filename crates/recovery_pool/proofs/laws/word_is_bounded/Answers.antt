use Rattle.recovery_pool.proofs.RuleKept.{low_word}
use Rattle.recovery_pool.proofs.laws.word_is_bounded.Goals as goal

pub returns : goal.returns
returns c word jobs workers views h = low_word word jobs workers views h
