use Rattle.std.proofs.Common.{◌∙◌, ap, refl}
use Rattle.csv.specs.declared.parser.State.{State}
use Rattle.csv.specs.declared.parser.State.TheVariants as st
use Rattle.client_table.specs.Left.{records_after, unread}
use Rattle.client_table.specs.Table.{table_of}
use Rattle.client_table.proofs.records.records_of.Goals as goal

pub returns-clause-left : goal.returns-clause-left
unfolding table_of
returns-clause-left c =
    ap (λ (state : State). records_after state (unread c.from_reader.result)) c.from_reader.ensures.state
    ∙ ap (records_after st.StartRecord) c.from_reader.ensures.source ∙ refl
