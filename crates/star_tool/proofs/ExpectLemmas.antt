-- The command `expect`.
use Rattle.std.proofs.Common.{◌≡◌, ◌∙◌, ℕ, ◌<◌, ◌≤◌, ◌^◌, List, [], ◌∷◌, ◌++◌, Bool, true, false, Some, None, inl, inr, length, get_or, refl, sym, ap, ap₂, subst, arith, append_assoc}
use Rattle.std.specs.Prelude.{codes}
use Rattle.std.specs.List.{flat_map}
use Rattle.std.specs.Fmt.{decimal}
use Rattle.std.proofs.lemmas.Bool.{cases_lt}
use Rattle.std.proofs.lemmas.List.{append-nil, get_or_default, length-map, same_from_push}
use Rattle.std.proofs.lemmas.List.FromFn.{length-map-range_with_len}
use Rattle.star_io.specs.RecordLists.{stream_records, stream_of, whole}
use Rattle.star_io.specs.declared.record.TheConstants.{MAX_RECORDS}
use Rattle.star_io.specs.declared.record.Record.TheVariants.{Whole}
use Rattle.star_io.proofs.RecordListLaws.{are_stream, rest_none}
use Rattle.nest_client.specs.Stream.{row_frame, table_frames}
use Rattle.report_frame.specs.declared.version.Version.TheVariants.{One}
use Rattle.report_frame.specs.Thresholds.{AreThresholds}
use Rattle.layer_walk.specs.declared.revealed.OpenedGroup.{OpenedGroup}
use Rattle.layer_walk.specs.declared.refusal.Refusal.{Refusal}
use Rattle.layer_walk.specs.Reveal.{reveal_of}
use Rattle.reveal_report.specs.RevealText.{open_line, level_lines, refusal_line, aux_line, last_line, text_of}
use Rattle.client_table.specs.Table.{table_of, IsRow, IsTable, IsBadTable, HasTooManyRows}
use Rattle.client_table.specs.declared.read.TableError.{TableError}
use Rattle.client_table.specs.declared.read.TableError.TheVariants as table
use Rattle.client_table.proofs.Cells.{row-length, row-value}
use Rattle.client_table.proofs.Places.{some-outcome}
use Rattle.table_law.specs.Prefixes.{Values, prefixes}
use Rattle.table_law.specs.Clear.{is_clear}
use Rattle.table_law.specs.Reveals.{IsValue, IsRowOf, IsTableOf, RevealsOnly}
use Rattle.table_law.proofs.WholeTable.{frames_short, stream_reveals}
use Rattle.table_law.proofs.ClearTest.{clear_decides}
use Rattle.command_words.specs.declared.command.Command.TheVariants.{Expect}
use Rattle.star_tool.specs.ExpectText.{expect_text_of}
use Rattle.star_tool.specs.Run.{IsOutput, Reason}
use Rattle.star_tool.specs.Status.{table_status}
use Rattle.star_tool.specs.Seen.{Seen}
use Rattle.star_tool.specs.StreamInput.{stream_refusal}
use Rattle.star_tool.specs.Verbs.Expect.{expect_output, SaysClear}
use Rattle.star_tool.specs.Verbs.Make.{make_refusal, make_output, IsTableText}
use Rattle.star_tool.specs.declared.verbs.make.TheConstants.{MAX_TABLE_BYTES}
use Rattle.star_tool.proofs.MakeLemmas.{IsWhole, no_table, table_read, none_means}
use Rattle.star_tool.proofs.StreamLemmas.{stream_good}

-- the text of what was found of a table is the output
pub expect_made : (epoch : ℕ) (thresholds seed : List ℕ) (input coins : Seen) (taken text : List ℕ)
    → IsWhole input taken → length taken ≤ MAX_TABLE_BYTES → IsTable One (length thresholds) (table_of taken)
    → text ≡ expect_text_of (prefixes (table_of taken) thresholds) (is_clear (table_of taken) thresholds epoch seed)
    → IsOutput (Expect epoch thresholds seed) input coins text
expect_made epoch thresholds seed input coins taken text all few good is = λ bytes told.
    let read = table_read epoch One thresholds None input taken all few good bytes told in
    (read.0, read.1, ([], tt, is ∙ ap (expect_output epoch thresholds seed) (all bytes told).0))

-- bytes that are no table are refused
pub no_table_expected : (epoch : ℕ) (thresholds seed : List ℕ) (input coins : Seen) (taken : List ℕ) (error : TableError)
    → IsWhole input taken → length taken ≤ MAX_TABLE_BYTES
    → (error ≡ table.TooMany → HasTooManyRows (table_of taken))
    → ((row column : ℕ) → error ≡ table.BadTable row column → IsBadTable One (length thresholds) (table_of taken) row column)
    → Reason (Expect epoch thresholds seed) input coins (table_status error)
no_table_expected epoch thresholds seed input coins taken table.TooMany all few many bad = no_table epoch One thresholds None input coins taken table.TooMany all few many bad
no_table_expected epoch thresholds seed input coins taken (table.BadTable row column) all few many bad =
    no_table epoch One thresholds None input coins taken (table.BadTable row column) all few many bad
no_table_expected epoch thresholds seed input coins taken table.NoMemory all few many bad = tt

-- ---- what a clear table foretells

-- texts that end with two bytes each
two_last : (xs ys : List ℕ) (a b c d : ℕ) → xs ++ (a ∷ b ∷ []) ≡ ys ++ (c ∷ d ∷ []) → a ≡ c
two_last xs ys a b c d e =
    let whole : (xs ++ a ∷ []) ++ b ∷ [] ≡ (ys ++ c ∷ []) ++ d ∷ [] = append_assoc xs (a ∷ []) (b ∷ []) ∙ e ∙ sym (append_assoc ys (c ∷ []) (d ∷ [])) in
    (same_from_push xs ys a c (same_from_push (xs ++ a ∷ []) (ys ++ c ∷ []) b d whole).0).1

other_bytes : (a b : ℕ) → a ≡ 111 → b ≡ 115 → a ≡ b → ⊥
other_bytes a b o s same = omega arith

-- a text that says so is one of a clear table
says_clear : (groups : List OpenedGroup) (clear : Bool) → SaysClear (expect_text_of groups clear) → clear ≡ true
says_clear groups true says = refl
says_clear groups false (front, is) =
    let lines : List ℕ = flat_map open_line groups in
    let line : List ℕ = codes "prefixes=" ++ decimal (length groups) ++ codes " clear=" in
    let no : lines ++ ((line ++ codes "no") ++ codes "\n") ≡ (lines ++ (line ++ 110 ∷ [])) ++ (111 ∷ 10 ∷ []) =
    ap (λ l. lines ++ l) (append_assoc line (codes "no") (codes "\n") ∙ sym (append_assoc line (110 ∷ []) (111 ∷ 10 ∷ []))) ∙ sym (append_assoc lines (line ++ 110 ∷ []) (111 ∷ 10 ∷ [])) in
    let yes : front ++ codes " clear=yes\n" ≡ (front ++ codes " clear=ye") ++ (115 ∷ 10 ∷ []) = sym (append_assoc front (codes " clear=ye") (115 ∷ 10 ∷ [])) in
    absurd (other_bytes 111 115 refl refl (two_last (lines ++ (line ++ 110 ∷ [])) (front ++ codes " clear=ye") 111 10 115 10 (sym no ∙ is ∙ yes)))

-- the rows of a table have a value for each threshold
rows_of_table : (ks : List ℕ) (rows : List Values) → IsTable One (length ks) rows → IsTableOf ks rows
rows_of_table ks rows is i d lt =
    let same : get_or rows i [] ≡ get_or rows i d = get_or_default rows i [] d lt in
    subst (IsRowOf ks) same (row_of_cells (get_or rows i []) (is.each i lt))
  where
    row_of_cells : (cells : Values) → IsRow One (length ks) cells → IsRowOf ks cells
    row_of_cells cells row = record { width = row-length One (length ks) cells row; values = λ j e within. subst IsValue (get_or_default cells j [] e within) (row-value (length ks) cells row j within) }

-- bytes that aren't refused are the text of a table
table_text : (ks bytes : List ℕ) → make_refusal One ks bytes ≡ None → IsTable One (length ks) (table_of bytes)
table_text ks bytes none = elim (some-outcome One (length ks) (table_of bytes)) [
  | inl good ↦ good
  | inr (inl many) ↦ absurd (text.few (inr many))
  | inr (inr (row, column, bad)) ↦ absurd (text.good row column (few, bad))
]
  where
    text : IsTableText One ks bytes
    text = (none_means One ks bytes).0 none

    few : length bytes ≤ MAX_TABLE_BYTES
    few = elim (cases_lt MAX_TABLE_BYTES (length bytes)) [ inl many ↦ absurd (text.few (inl many)) | inr le ↦ le ]

-- the groups that the stream of the table reveals are those that are expected
pub foretold : (epoch : ℕ) (thresholds seed bytes drawn : List ℕ) → epoch < 2 ^ 32 → AreThresholds One thresholds → make_refusal One thresholds bytes ≡ None
    → SaysClear (expect_output epoch thresholds seed bytes)
    → RevealsOnly (prefixes (table_of bytes) thresholds) (reveal_of epoch (stream_records (make_output epoch One thresholds (Some seed) bytes drawn)))
foretold epoch thresholds seed bytes drawn low t none says =
    let rows = table_of bytes in
    let clear : is_clear rows thresholds epoch seed ≡ true = says_clear (prefixes rows thresholds) (is_clear rows thresholds epoch seed) says in
    stream_reveals epoch seed thresholds rows low t (rows_of_table thresholds rows (table_text thresholds bytes none)) ((clear_decides rows thresholds epoch seed).0 clear)

-- so the text has their lines
pub foretold_text : (epoch : ℕ) (thresholds seed bytes drawn : List ℕ) → epoch < 2 ^ 32 → AreThresholds One thresholds → make_refusal One thresholds bytes ≡ None
    → SaysClear (expect_output epoch thresholds seed bytes)
    → expect_output epoch thresholds seed bytes ≡ expect_text_of (reveal_of epoch (stream_records (make_output epoch One thresholds (Some seed) bytes drawn))).groups true
foretold_text epoch thresholds seed bytes drawn low t none says =
    let rows = table_of bytes in
    ap₂ expect_text_of (sym (foretold epoch thresholds seed bytes drawn low t none says).groups) (says_clear (prefixes rows thresholds) (is_clear rows thresholds epoch seed) says)

-- and what is revealed has the same lines, and none of a refusal
pub foretold_reveal : (epoch : ℕ) (thresholds seed bytes drawn : List ℕ) → epoch < 2 ^ 32 → AreThresholds One thresholds → make_refusal One thresholds bytes ≡ None
    → SaysClear (expect_output epoch thresholds seed bytes)
    → let revealed = reveal_of epoch (stream_records (make_output epoch One thresholds (Some seed) bytes drawn)) in
    text_of revealed ≡ flat_map open_line revealed.groups ++ level_lines revealed.levels ++ flat_map aux_line revealed.aux ++ last_line revealed
unfolding text_of
foretold_reveal epoch thresholds seed bytes drawn low t none says =
    let revealed = reveal_of epoch (stream_records (make_output epoch One thresholds (Some seed) bytes drawn)) in
    let refused : revealed.refusals ≡ [] = (foretold epoch thresholds seed bytes drawn low t none says).refusals in
    let front : List ℕ = flat_map open_line revealed.groups ++ level_lines revealed.levels in
    ap (λ (rs : List Refusal). front ++ flat_map refusal_line rs ++ flat_map aux_line revealed.aux ++ last_line revealed) refused
    ∙ ap (λ l. l ++ flat_map aux_line revealed.aux ++ last_line revealed) (append-nil front)

-- the stream of a table has a record for each of its rows, which are few
pub stream_kept : (epoch : ℕ) (thresholds seed bytes drawn : List ℕ) → epoch < 2 ^ 32 → AreThresholds One thresholds → make_refusal One thresholds bytes ≡ None
    → stream_refusal (make_output epoch One thresholds (Some seed) bytes drawn) ≡ None
stream_kept epoch thresholds seed bytes drawn low t none =
    let rows = table_of bytes in
    let good = table_text thresholds bytes none in
    let frames = table_frames rows thresholds epoch seed in
    let short = frames_short epoch seed thresholds rows low t (rows_of_table thresholds rows good) in
    let few : length (whole frames) ≤ MAX_RECORDS =
    omega (arith, good.few, length-map frames (λ (body : List ℕ). Whole body), length-map-range_with_len (row_frame rows thresholds epoch seed) 0 (length rows)) in
    stream_good (stream_of frames) (rest_none MAX_RECORDS (whole frames) (stream_of frames) (are_stream frames short) few)
