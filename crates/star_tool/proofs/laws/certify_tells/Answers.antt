use Rattle.star_io.specs.RecordLists.{stream_records}
use Rattle.open_cert.proofs.Complete.{complete}
use Rattle.star_tool.proofs.ByteRecords.{stream_byte_records}
use Rattle.star_tool.proofs.laws.certify_tells.Goals as goal

pub returns-clause-complete : goal.returns-clause-complete
returns-clause-complete c = λ epoch bytes are. complete epoch (stream_records bytes) (stream_byte_records bytes are)
