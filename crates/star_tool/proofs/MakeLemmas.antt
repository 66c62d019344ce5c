-- The command `make`.
use Rattle.std.proofs.Common.{◌≡◌, ◌∙◌, ◌⊎◌, ◌<◌, ◌≤◌, ◌+◌, ℕ, List, [], length, Option, Some, None, refl, sym, ap, subst, inl, inr, arith}
use Rattle.std.specs.Prelude.{is_none, ◌↔◌}
use Rattle.std.specs.Bool.{OnTrue}
use Rattle.std.proofs.lemmas.Bool.{cases_lt, lt-ltb, le-ltb}
use Rattle.std.proofs.lemmas.List.{length-drop, nil_from_length}
use Rattle.star_io.specs.RecordLists.{stream_of}
use Rattle.report_frame.specs.declared.version.Version.{Version}
use Rattle.client_table.specs.Table.{table_of, IsTable, IsBadTable, HasTooManyRows, HasBadPlace}
use Rattle.client_table.specs.declared.read.TheConstants.{MAX_ROWS}
use Rattle.client_table.specs.declared.read.TableError.{TableError}
use Rattle.client_table.specs.declared.read.TableError.TheVariants as table
use Rattle.client_table.proofs.Places.{some-outcome, table-not-bad}
use Rattle.command_words.specs.declared.command.Command.TheVariants.{Make}
use Rattle.star_tool.specs.declared.status.Status.{Status}
use Rattle.star_tool.specs.declared.status.Status.TheVariants.{TooMany, BadTable, ReadFault, ShortCoins}
use Rattle.star_tool.specs.declared.verbs.make.TheConstants.{MAX_TABLE_BYTES}
use Rattle.star_tool.specs.Coins.{TakesSeed, IsSeed, TakesCoins, SeedReason}
use Rattle.star_tool.specs.Run.{IsRead, IsRefused, IsOutput, Reason, Draws, MayFollowCoins}
use Rattle.star_tool.specs.Seen.{Seen}
use Rattle.star_tool.specs.Status.{table_status}
use Rattle.star_tool.specs.Verbs.Make.{make_refusal, make_rest, make_output, HasTooMuch, HasBadCell, IsTableText}
use Rattle.star_tool.specs.Rows.{rows_of, frames_of}
use Rattle.client_table.proofs.BadPlaceLaws.{table_none, place_some}

-- where the input tells bytes, these are all of them, and nothing is left
abbrev pub IsWhole : (input : Seen) → (taken : List ℕ) → Type 0
IsWhole input taken = (bytes : List ℕ) → input.left ≡ Some bytes → (taken ≡ bytes) × (input.left_after ≡ Some [])

-- ---- what refuses bytes

-- too many bytes
long_refused : (version : Version) (thresholds bytes : List ℕ) → MAX_TABLE_BYTES < length bytes → make_refusal version thresholds bytes ≡ Some TooMany
long_refused version thresholds bytes many = rw (lt-ltb MAX_TABLE_BYTES (length bytes) many) refl

-- too many rows
rows_refused : (version : Version) (thresholds bytes : List ℕ) → length bytes ≤ MAX_TABLE_BYTES → HasTooManyRows (table_of bytes) → make_refusal version thresholds bytes ≡ Some TooMany
rows_refused version thresholds bytes few many = rw (le-ltb MAX_TABLE_BYTES (length bytes) few, lt-ltb MAX_ROWS (length (table_of bytes)) many) refl

-- a bad place
place_refused : (version : Version) (thresholds bytes : List ℕ) (row column : ℕ) → HasBadCell version thresholds bytes row column → make_refusal version thresholds bytes ≡ Some (BadTable row column)
place_refused version thresholds bytes row column (few, bad) =
    rw (le-ltb MAX_TABLE_BYTES (length bytes) few, le-ltb MAX_ROWS (length (table_of bytes)) bad.few, place_some version (length thresholds) (table_of bytes) row column bad) refl

-- and nothing a good table
table_kept : (version : Version) (thresholds bytes : List ℕ) → length bytes ≤ MAX_TABLE_BYTES → IsTable version (length thresholds) (table_of bytes) → make_refusal version thresholds bytes ≡ None
table_kept version thresholds bytes few good =
    rw (le-ltb MAX_TABLE_BYTES (length bytes) few, le-ltb MAX_ROWS (length (table_of bytes)) good.few, table_none version (length thresholds) (table_of bytes) good) refl

-- ---- why there is no output

-- no byte is left of a table
rest_of_table : (bytes : List ℕ) → length bytes ≤ MAX_TABLE_BYTES → make_rest bytes ≡ []
rest_of_table bytes few = nil_from_length (make_rest bytes) (omega (arith, length-drop (MAX_TABLE_BYTES + 1) bytes))

-- a byte more was taken than a table may have
pub too_long : (epoch : ℕ) (version : Version) (thresholds : List ℕ) (given : Option (List ℕ)) (input : Seen)
    → ((bytes : List ℕ) → input.left ≡ Some bytes → (MAX_TABLE_BYTES < length bytes) × (input.left_after ≡ Some (make_rest bytes)))
    → IsRefused (Make epoch version thresholds given) input TooMany
too_long epoch version thresholds given input many = λ bytes told. let behind = many bytes told in (long_refused version thresholds bytes behind.0, behind.1)

-- bytes that are no table are refused
pub no_table : (epoch : ℕ) (version : Version) (thresholds : List ℕ) (given : Option (List ℕ)) (input coins : Seen) (taken : List ℕ) (error : TableError)
    → IsWhole input taken → length taken ≤ MAX_TABLE_BYTES
    → (error ≡ table.TooMany → HasTooManyRows (table_of taken))
    → ((row column : ℕ) → error ≡ table.BadTable row column → IsBadTable version (length thresholds) (table_of taken) row column)
    → Reason (Make epoch version thresholds given) input coins (table_status error)
no_table epoch version thresholds given input coins taken table.TooMany all few many bad = λ bytes told.
    let read = all bytes told in
    let few_here : length bytes ≤ MAX_TABLE_BYTES = omega (arith, few, ap length read.0) in
    let many_here : HasTooManyRows (table_of bytes) = subst (λ (b : List ℕ). HasTooManyRows (table_of b)) read.0 (many refl) in
    (rows_refused version thresholds bytes few_here many_here, read.1 ∙ ap (λ (l : List ℕ). Some l) (sym (rest_of_table bytes few_here)))
no_table epoch version thresholds given input coins taken (table.BadTable row column) all few many bad = λ bytes told.
    let read = all bytes told in
    let few_here : length bytes ≤ MAX_TABLE_BYTES = omega (arith, few, ap length read.0) in
    let at : IsBadTable version (length thresholds) (table_of bytes) row column =
    subst (λ (b : List ℕ). IsBadTable version (length thresholds) (table_of b) row column) read.0 (bad row column refl) in
    (place_refused version thresholds bytes row column (few_here, at), read.1 ∙ ap (λ (l : List ℕ). Some l) (sym (rest_of_table bytes few_here)))
no_table epoch version thresholds given input coins taken table.NoMemory all few many bad = tt

-- a table was read, and isn't refused
pub table_read : (epoch : ℕ) (version : Version) (thresholds : List ℕ) (given : Option (List ℕ)) (input : Seen) (taken : List ℕ)
    → IsWhole input taken → length taken ≤ MAX_TABLE_BYTES → IsTable version (length thresholds) (table_of taken)
    → IsRead (Make epoch version thresholds given) input
table_read epoch version thresholds given input taken all few good = λ bytes told.
    let read = all bytes told in
    let few_here : length bytes ≤ MAX_TABLE_BYTES = omega (arith, few, ap length read.0) in
    let table_here : IsTable version (length thresholds) (table_of bytes) = subst (λ (b : List ℕ). IsTable version (length thresholds) (table_of b)) read.0 good in
    (table_kept version thresholds bytes few_here table_here, read.1)

-- why there is no seed behind a good table
pub no_seed : (epoch : ℕ) (version : Version) (thresholds : List ℕ) (given : Option (List ℕ)) (input coins : Seen) (status : Status)
    → IsRead (Make epoch version thresholds given) input → SeedReason given coins status → Reason (Make epoch version thresholds given) input coins status
no_seed epoch version thresholds None input coins ReadFault read why = inr (read, why)
no_seed epoch version thresholds None input coins (ShortCoins have) read why = (read, why)
no_seed epoch version thresholds None input coins status read why = absurd why
no_seed epoch version thresholds (Some seed) input coins status read why = absurd why

-- which is no refusal
pub seed_is_last : (given : Option (List ℕ)) (coins : Seen) (status : Status) → SeedReason given coins status → MayFollowCoins coins status
seed_is_last None coins ReadFault why = why
seed_is_last None coins (ShortCoins have) why = tt
seed_is_last None coins status why = absurd why
seed_is_last (Some seed) coins status why = absurd why

-- coins are touched only behind a good table, where no seed is given
pub seed_drawn : {A : Type 0} (epoch : ℕ) (version : Version) (thresholds : List ℕ) (given : Option (List ℕ)) (input coins : Seen) (status : Status)
    → IsRead (Make epoch version thresholds given) input → TakesCoins coins → MayFollowCoins coins status
    → ((seed : List ℕ) → given ≡ Some seed → A) → A ⊎ Draws (Make epoch version thresholds given) input coins status
seed_drawn epoch version thresholds None input coins status read most may kept = inr (read, most, may)
seed_drawn epoch version thresholds (Some seed) input coins status read most may kept = inl (kept seed refl)

-- the drawn seed, and the output made of the seed that was given or drawn
made_by : (epoch : ℕ) (version : Version) (thresholds : List ℕ) (given : Option (List ℕ)) (coins : Seen) (bytes seed text : List ℕ)
    → IsSeed given coins seed
    → text ≡ stream_of (frames_of (rows_of version (length thresholds) bytes) thresholds epoch seed)
    → (drawn : List ℕ) × OnTrue (is_none given) (TakesSeed coins drawn) × (text ≡ make_output epoch version thresholds given bytes drawn)
made_by epoch version thresholds None coins bytes seed text seeded is = (seed, seeded, is)
made_by epoch version thresholds (Some given) coins bytes seed text seeded is =
    ([], tt, is ∙ ap (λ (s : List ℕ). stream_of (frames_of (rows_of version (length thresholds) bytes) thresholds epoch s)) seeded)

-- the stream of the reports is the output
pub make_made : (epoch : ℕ) (version : Version) (thresholds : List ℕ) (given : Option (List ℕ)) (input coins : Seen) (taken seed text : List ℕ)
    → IsWhole input taken → length taken ≤ MAX_TABLE_BYTES → IsTable version (length thresholds) (table_of taken)
    → IsSeed given coins seed → text ≡ stream_of (frames_of (rows_of version (length thresholds) taken) thresholds epoch seed)
    → IsOutput (Make epoch version thresholds given) input coins text
make_made epoch version thresholds given input coins taken seed text all few good seeded stream = λ bytes told.
    let read = table_read epoch version thresholds given input taken all few good bytes told in
    let is = stream ∙ ap (λ (b : List ℕ). stream_of (frames_of (rows_of version (length thresholds) b) thresholds epoch seed)) (all bytes told).0 in
    (read.0, read.1, made_by epoch version thresholds given coins bytes seed text seeded is)

-- ---- what a refusal means

-- bytes are too much, or have a first bad place, or are the text of a table, and the refusal says which
abbrev Means : Version → (thresholds bytes : List ℕ) → Option Status → Type 0
Means version thresholds bytes refusal =
    ((refusal ≡ Some TooMany) × HasTooMuch bytes)
    ⊎ ((row : ℕ) × (column : ℕ) × (refusal ≡ Some (BadTable row column)) × HasBadCell version thresholds bytes row column)
    ⊎ ((refusal ≡ None) × IsTableText version thresholds bytes)

refusal_means : (version : Version) (thresholds bytes : List ℕ) → Means version thresholds bytes (make_refusal version thresholds bytes)
refusal_means version thresholds bytes = elim (cases_lt MAX_TABLE_BYTES (length bytes)) [
  | inl many ↦ inl (long_refused version thresholds bytes many, inl many)
  | inr few ↦ go few (some-outcome version (length thresholds) (table_of bytes))
]
  where
    go : length bytes ≤ MAX_TABLE_BYTES → IsTable version (length thresholds) (table_of bytes) ⊎ HasTooManyRows (table_of bytes) ⊎ HasBadPlace version (length thresholds) (table_of bytes)
        → Means version thresholds bytes (make_refusal version thresholds bytes)
    go few (inl good) = inr (inr (
      table_kept version thresholds bytes few good,
      record {
        few = λ much. elim much [ inl many ↦ omega arith | inr rows ↦ omega (arith, rows, good.few) ];
        good = λ row column bad. table-not-bad version (length thresholds) (table_of bytes) row column good bad.1;
      },
    ))
    go few (inr (inl rows)) = inl (rows_refused version thresholds bytes few rows, inr rows)
    go few (inr (inr (row, column, bad))) = inr (inl (row, column, place_refused version thresholds bytes row column (few, bad), (few, bad)))

-- too much is refused
pub much_refused : (version : Version) (thresholds bytes : List ℕ) → HasTooMuch bytes → make_refusal version thresholds bytes ≡ Some TooMany
much_refused version thresholds bytes (inl many) = long_refused version thresholds bytes many
much_refused version thresholds bytes (inr rows) = elim (cases_lt MAX_TABLE_BYTES (length bytes)) [
  | inl many ↦ long_refused version thresholds bytes many
  | inr few ↦ rows_refused version thresholds bytes few rows
]

-- the refusals and what they mean, both ways
pub too_many_means : (version : Version) (thresholds bytes : List ℕ) → (make_refusal version thresholds bytes ≡ Some TooMany) ↔ HasTooMuch bytes
too_many_means version thresholds bytes = (go (make_refusal version thresholds bytes) (refusal_means version thresholds bytes), much_refused version thresholds bytes)
  where
    go : (refusal : Option Status) → Means version thresholds bytes refusal → refusal ≡ Some TooMany → HasTooMuch bytes
    go refusal (inl (is, much)) here = much
    go refusal (inr (inl (row, column, is, bad))) here = absurd cc
    go refusal (inr (inr (is, good))) here = absurd cc

pub bad_means : (version : Version) (thresholds bytes : List ℕ) (row column : ℕ) → (make_refusal version thresholds bytes ≡ Some (BadTable row column)) ↔ HasBadCell version thresholds bytes row column
bad_means version thresholds bytes row column = (go (make_refusal version thresholds bytes) (refusal_means version thresholds bytes), place_refused version thresholds bytes row column)
  where
    go : (refusal : Option Status) → Means version thresholds bytes refusal → refusal ≡ Some (BadTable row column) → HasBadCell version thresholds bytes row column
    go refusal (inl (is, much)) here = absurd cc
    go refusal (inr (inl (r, c, is, bad))) here =
        let same_row : r ≡ row = cc in
        let same_column : c ≡ column = cc in
        subst (λ (n : ℕ). HasBadCell version thresholds bytes n column) same_row (subst (λ (n : ℕ). HasBadCell version thresholds bytes r n) same_column bad)
    go refusal (inr (inr (is, good))) here = absurd cc

pub none_means : (version : Version) (thresholds bytes : List ℕ) → (make_refusal version thresholds bytes ≡ None) ↔ IsTableText version thresholds bytes
none_means version thresholds bytes = (go (make_refusal version thresholds bytes) (refusal_means version thresholds bytes), back (make_refusal version thresholds bytes) (refusal_means version thresholds bytes))
  where
    go : (refusal : Option Status) → Means version thresholds bytes refusal → refusal ≡ None → IsTableText version thresholds bytes
    go refusal (inl (is, much)) here = absurd cc
    go refusal (inr (inl (row, column, is, bad))) here = absurd cc
    go refusal (inr (inr (is, good))) here = good

    back : (refusal : Option Status) → Means version thresholds bytes refusal → IsTableText version thresholds bytes → refusal ≡ None
    back refusal (inl (is, much)) text = absurd (text.few much)
    back refusal (inr (inl (row, column, is, bad))) text = absurd (text.good row column bad)
    back refusal (inr (inr (is, good))) text = is
