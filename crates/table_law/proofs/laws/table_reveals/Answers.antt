use Rattle.table_law.proofs.WholeTable.{table_reveals, stream_reveals}
use Rattle.table_law.proofs.laws.table_reveals.Goals as goal

pub returns-clause-records : goal.returns-clause-records
returns-clause-records c = table_reveals

pub returns-clause-stream : goal.returns-clause-stream
returns-clause-stream c = stream_reveals
