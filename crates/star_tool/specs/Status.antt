-- The exit status and the line on standard error of each way in which a run ends.
use Rattle.std.specs.Prelude.{ℕ, List, [], ◌++◌, codes}
use Rattle.std.specs.Fmt.{decimal}
use Rattle.cert_audit.specs.Names.{name_of as cert_fault_name}
use Rattle.client_table.specs.declared.read.TableError.{TableError}
use Rattle.client_table.specs.declared.read.TableError.TheVariants as table
use Rattle.star_vectors.specs.declared.outcome.SelfTestError.{SelfTestError}
use Rattle.star_vectors.specs.declared.outcome.SelfTestError.TheVariants as vector
use Rattle.book_file.specs.Names.{name_of as book_fault_name}
use Rattle.book_merge.specs.declared.fault.MergeError.{MergeError}
use Rattle.book_merge.specs.declared.fault.MergeError.TheVariants as merge_error
use Rattle.book_merge.specs.declared.fault.MergeFault.{MergeFault}
use Rattle.book_merge.specs.declared.fault.MergeFault.TheVariants as merge_fault
use Rattle.star_io.specs.declared.input_error.InputError.{InputError}
use Rattle.star_io.specs.declared.input_error.InputError.TheVariants as input
use Rattle.star_tool.specs.declared.verbs.book.TheConstants as book
use Rattle.star_tool.specs.declared.verbs.audit.TheConstants as audit
use Rattle.star_tool.specs.declared.verbs.certify.TheConstants as certify
use Rattle.star_tool.specs.declared.verbs.check.TheConstants as check
use Rattle.star_tool.specs.declared.verbs.expect.TheConstants as expect
use Rattle.star_tool.specs.declared.verbs.epochs.TheConstants as epochs
use Rattle.star_tool.specs.declared.verbs.generate.TheConstants as generate
use Rattle.star_tool.specs.declared.verbs.make.TheConstants as make
use Rattle.star_tool.specs.declared.verbs.merge.TheConstants as merge
use Rattle.star_tool.specs.declared.verbs.open_book.TheConstants as open_book
use Rattle.star_tool.specs.declared.verbs.reveal.TheConstants as reveal
use Rattle.star_tool.specs.declared.verbs.self_test.TheConstants as self_test
use Rattle.star_tool.specs.declared.status.Status.{Status}
use Rattle.star_tool.specs.declared.status.Status.TheVariants.{Done, Usage, ReadFault, WriteFault, TooMany, NoMemory, BadTable, ShortCoins, BadVector, BadBook, BookEpoch, BadCert}

-- an input that isn't read to its end
abbrev pub input_status : InputError → Status
input_status input.Read = ReadFault
input_status input.TooMany = TooMany
input_status input.NoMemory = NoMemory

-- bytes that are no table
abbrev pub table_status : TableError → Status
table_status table.TooMany = TooMany
table_status (table.BadTable row column) = BadTable row column
table_status table.NoMemory = NoMemory

-- a self test that isn't passed
abbrev pub self_test_status : SelfTestError → Status
self_test_status (vector.Vector number got wanted) = BadVector number got wanted
self_test_status vector.NoMemory = NoMemory

-- books that have no sum
abbrev pub fault_status : MergeFault → Status
fault_status merge_fault.TooMany = TooMany
fault_status (merge_fault.BadBook book kind at) = BadBook book kind at
fault_status (merge_fault.BookEpoch book have) = BookEpoch book have

-- the same of an input
abbrev pub merge_status : MergeError → Status
merge_status merge_error.Read = ReadFault
merge_status (merge_error.Fault fault) = fault_status fault
merge_status merge_error.NoMemory = NoMemory

-- the exit status
abbrev pub number_of : Status → ℕ
number_of Done = 0
number_of Usage = 2
number_of ReadFault = 3
number_of WriteFault = 4
number_of TooMany = 5
number_of NoMemory = 6
number_of (BadTable row column) = 7
number_of (ShortCoins have) = 8
number_of (BadVector number got wanted) = 9
number_of (BadBook book kind at) = 10
number_of (BookEpoch book have) = 11
number_of (BadCert cert kind at) = 12

-- the verbs and how each is written: the first five
unfoldable pub first_usages : List ℕ
first_usages =
    codes "usage: star_tool " ++ check.USAGE.now ++ codes " | " ++ reveal.USAGE.now ++ codes " | " ++ make.USAGE.now ++ codes " | " ++ generate.USAGE.now
    ++ codes " | " ++ self_test.USAGE.now

-- those behind them
unfoldable pub next_usages : List ℕ
next_usages = codes " | " ++ expect.USAGE.now ++ codes " | " ++ book.USAGE.now ++ codes " | " ++ merge.USAGE.now ++ codes " | " ++ open_book.USAGE.now

-- and the last ones
unfoldable pub last_usages : List ℕ
last_usages = codes " | " ++ certify.USAGE.now ++ codes " | " ++ audit.USAGE.now ++ codes " | " ++ epochs.USAGE.now ++ codes "\n"

-- the line on standard error
abbrev pub line_of : Status → List ℕ
line_of Done = []
line_of Usage = first_usages ++ next_usages ++ last_usages
line_of ReadFault = codes "read fault\n"
line_of WriteFault = codes "write fault\n"
line_of TooMany = codes "too many\n"
line_of NoMemory = codes "no memory\n"
line_of (BadTable row column) = codes "bad table: row " ++ decimal row ++ codes " column " ++ decimal column ++ codes "\n"
line_of (ShortCoins have) = codes "short coins: " ++ decimal have ++ codes " bytes\n"
line_of (BadVector number got wanted) = codes "vector " ++ decimal number ++ codes " differs\n"
line_of (BadBook book kind at) = codes "bad book " ++ decimal book ++ codes ": " ++ book_fault_name kind ++ codes " " ++ decimal at ++ codes "\n"
line_of (BookEpoch book have) = codes "book " ++ decimal book ++ codes ": epoch " ++ decimal have ++ codes "\n"
line_of (BadCert cert kind at) = codes "bad cert " ++ decimal cert ++ codes ": " ++ cert_fault_name kind ++ codes " " ++ decimal at ++ codes "\n"
