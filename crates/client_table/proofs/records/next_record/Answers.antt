use Rattle.csv.specs.Records.{fields_of}
use Rattle.client_table.proofs.LeftRecords.{between-found, left-found}
use Rattle.client_table.proofs.records.next_record.Goals as goal

pub returns-clause-next : goal.returns-clause-next
returns-clause-next c =
    left-found c.args.records.now c.read_byte_record.new.self (fields_of c.read_byte_record.new.row) c.in-Ok.found c.requires (c.in-Ok.ensures.ready c.requires.untrimmed) (c.in-Ok.ensures.reads c.requires.untrimmed c.requires.headless)

pub returns-clause-between : goal.returns-clause-between
returns-clause-between c =
    between-found c.args.records.now c.read_byte_record.new.self (fields_of c.read_byte_record.new.row) c.in-Ok.found c.requires (c.in-Ok.ensures.ready c.requires.untrimmed) (c.in-Ok.ensures.reads c.requires.untrimmed c.requires.headless)
