-- The command `expect`.
use Rattle.std.specs.Prelude.{◌≡◌, ℕ, List, ◌++◌, codes, Option}
use Rattle.report_frame.specs.declared.version.Version.TheVariants.{One}
use Rattle.client_table.specs.Table.{table_of}
use Rattle.table_law.specs.Prefixes.{prefixes}
use Rattle.table_law.specs.Clear.{is_clear}
use Rattle.star_tool.specs.declared.status.Status.{Status}
use Rattle.star_tool.specs.ExpectText.{expect_text_of}
use Rattle.star_tool.specs.Verbs.Make.{make_refusal}

-- it refuses what `make` refuses in version 1
abbrev pub expect_refusal : (thresholds bytes : List ℕ) → Option Status
expect_refusal thresholds bytes = make_refusal One thresholds bytes

-- the prefixes of the table, and whether it is clear
abbrev pub expect_output : (epoch : ℕ) → (thresholds seed bytes : List ℕ) → List ℕ
expect_output epoch thresholds seed bytes =
    expect_text_of (prefixes (table_of bytes) thresholds) (is_clear (table_of bytes) thresholds epoch seed)

-- the text says that the table is clear
abbrev pub SaysClear : List ℕ → Type 0
SaysClear text = (front : List ℕ) × (text ≡ front ++ codes " clear=yes\n")
