-- What is returned for the records of a text.
use Rattle.std.specs.Prelude.{◌≡◌, ◌<◌, ◌≤◌, ◌+◌, ℕ, List, Result, Ok, Err, ⊤}
use Rattle.report_frame.specs.declared.version.Version.{Version}
use Rattle.client_table.specs.Table.{HasTooManyRows, IsBadTable, IsTable}
use Rattle.client_table.specs.declared.read.TableError.{TableError}
use Rattle.client_table.specs.declared.read.TableError.TheVariants.{BadTable, NoMemory, TooMany}
use Rattle.client_table.specs.declared.read.TheConstants.{MAX_ROWS}

-- a result has its cause: a table is the wanted one, and lack of memory needs none
abbrev pub IsAnswer : {Table : Type 0} → Version → (width : ℕ) → List (List (List ℕ)) → (wanted : Table) → Result Table TableError → Type 0
IsAnswer version width rows wanted (Ok table) = (table ≡ wanted) × IsTable version width rows
IsAnswer version width rows wanted (Err TooMany) = HasTooManyRows rows
IsAnswer version width rows wanted (Err (BadTable row column)) = IsBadTable version width rows row column
IsAnswer version width rows wanted (Err NoMemory) = ⊤

-- why there is no table, if this is the first bad place and so many records follow its record
abbrev pub IsRefusal : (row column rest : ℕ) → TableError → Type 0
IsRefusal row column rest TooMany = MAX_ROWS < row + 1 + rest
IsRefusal row column rest (BadTable r c) = (row + 1 + rest ≤ MAX_ROWS) × (r ≡ row) × (c ≡ column)
IsRefusal row column rest NoMemory = ⊤
