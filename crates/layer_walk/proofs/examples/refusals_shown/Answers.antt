use Rattle.std.proofs.Common.{refl}
use Rattle.byte_format.specs.Reading.{read}
use Rattle.report_frame.specs.Reading.{decoded}
use Rattle.star_lists.specs.Ascending.{in_order}
use Rattle.layer_walk.specs.Levels.{rows_from, next_rows, opened_at, counts_at, refusals_at, aux_at}
use Rattle.layer_walk.specs.Reveal.{outer_rows, outer_refusals, groups_told, levels_told, refusals_told, aux_told, reveal_of}
use Rattle.layer_walk.proofs.examples.refusals_shown.Goals as goal

pub returns-clause-refused : goal.returns-clause-refused
unfolding reveal_of outer_rows outer_refusals groups_told levels_told refusals_told aux_told rows_from next_rows opened_at counts_at refusals_at aux_at in_order decoded read
returns-clause-refused c = refl

pub returns-clause-nothing : goal.returns-clause-nothing
unfolding reveal_of outer_rows outer_refusals groups_told levels_told refusals_told aux_told rows_from next_rows opened_at counts_at refusals_at aux_at in_order
returns-clause-nothing c = refl
