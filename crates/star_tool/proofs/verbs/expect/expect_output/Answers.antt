use Rattle.std.proofs.Common.{◌≡◌, ◌∙◌, Bool, List, ℕ, length, ap, ap₂, refl, subst, Err}
use Rattle.command_words.specs.declared.command.Command.TheVariants.{Expect}
use Rattle.report_frame.specs.declared.version.Version.TheVariants.{One}
use Rattle.client_table.specs.Table.{table_of, IsTable, HasTooManyRows, IsBadTable}
use Rattle.layer_walk.specs.declared.revealed.OpenedGroup.{OpenedGroup}
use Rattle.table_law.specs.Prefixes.{Values, prefixes}
use Rattle.table_law.specs.Clear.{is_clear}
use Rattle.star_tool.specs.ExpectText.{expect_text_of}
use Rattle.std.specs.Prelude.{None}
use Rattle.star_tool.specs.Seen.{seen}
use Rattle.star_tool.proofs.Reasons.{of_error, read_reason}
use Rattle.star_tool.proofs.MakeLemmas.{too_long}
use Rattle.star_tool.proofs.ExpectLemmas.{expect_made, no_table_expected}
use Rattle.star_tool.proofs.verbs.expect.expect_output.Goals as goal

-- a table of the bytes and the thresholds behind their references
good_table : (slice thresholds view bytes : List ℕ) → slice ≡ thresholds → view ≡ bytes → IsTable One (length slice) (table_of view) → IsTable One (length thresholds) (table_of bytes)
good_table slice thresholds view bytes same read good =
    subst (λ (t : List ℕ). IsTable One (length t) (table_of bytes)) same (subst (λ (b : List ℕ). IsTable One (length slice) (table_of b)) read good)

bad_table : (slice thresholds view bytes : List ℕ) (row column : ℕ) → slice ≡ thresholds → view ≡ bytes → IsBadTable One (length slice) (table_of view) row column → IsBadTable One (length thresholds) (table_of bytes) row column
bad_table slice thresholds view bytes row column same read bad =
    subst (λ (t : List ℕ). IsBadTable One (length t) (table_of bytes) row column) same (subst (λ (b : List ℕ). IsBadTable One (length slice) (table_of b) row column) read bad)

same_text : (groups : List OpenedGroup) (clear : Bool) (rows : List Values) (slice thresholds view bytes : List ℕ) (epoch : ℕ) (seed text : List ℕ) → slice ≡ thresholds → view ≡ bytes
    → rows ≡ table_of view → groups ≡ prefixes rows slice → clear ≡ is_clear rows slice epoch seed → text ≡ expect_text_of groups clear
    → text ≡ expect_text_of (prefixes (table_of bytes) thresholds) (is_clear (table_of bytes) thresholds epoch seed)
same_text groups clear rows slice thresholds view bytes epoch seed text same read are groups_are clear_is is =
    let table : rows ≡ table_of bytes = are ∙ ap table_of read in
    is ∙ ap₂ expect_text_of (groups_are ∙ (λ i. prefixes (table i) (same i))) (clear_is ∙ (λ i. is_clear (table i) (same i) epoch seed))

pub returns-in_err-bytes-clause-reason : goal.returns-in_err-bytes-clause-reason
returns-in_err-bytes-clause-reason g c = λ coins.
    of_error _ _ _ c.from_residual.ensures.1
    (read_reason (Expect c.args.epoch c.args.thresholds.now c.args.seed.now) (seen g.S.Source.left g.S.Source.faults c.args.input.now c.read_bytes.new.input) coins c.in_err-bytes.field-0.0 refl (λ is. c.in_err-bytes.ensures.read (ap (λ e. Err e) is))
    (λ is. too_long c.args.epoch One c.args.thresholds.now None (seen g.S.Source.left g.S.Source.faults c.args.input.now c.read_bytes.new.input) (c.in_err-bytes.ensures.too_many (ap (λ e. Err e) is))))

pub returns-in_err-table-clause-reason : goal.returns-in_err-table-clause-reason
returns-in_err-table-clause-reason g c = λ coins.
    let read = c.deref.ensures.value in
    let same = c.as_slice-thresholds.ensures.value in
    of_error _ _ _ c.from_residual-in_err-table.ensures.1
    (no_table_expected c.args.epoch c.args.thresholds.now c.args.seed.now (seen g.S.Source.left g.S.Source.faults c.args.input.now c.read_bytes.new.input) coins
    c.in_ok-bytes.bytes.items c.in_err-table.field-0.0 c.in_ok-bytes.ensures.bytes c.in_ok-bytes.ensures.few
    (λ is. subst (λ (b : List ℕ). HasTooManyRows (table_of b)) read (c.in_err-table.ensures.too_many (ap (λ e. Err e) is)))
    (λ row column is. bad_table _ _ _ _ row column same read (c.in_err-table.ensures.bad row column (ap (λ e. Err e) is))))

pub returns-clause-output : goal.returns-clause-output
returns-clause-output g c = λ coins.
    expect_made c.args.epoch c.args.thresholds.now c.args.seed.now (seen g.S.Source.left g.S.Source.faults c.args.input.now c.read_bytes.new.input) coins
    c.in_ok-bytes.bytes.items c.in_ok-text.text.items c.in_ok-bytes.ensures.bytes c.in_ok-bytes.ensures.few
    (good_table _ _ _ _ c.as_slice-thresholds.ensures.value c.deref.ensures.value c.in_ok-table.ensures.good)
    (same_text c.in_ok-prefixes.prefixes c.in_ok-clear.clear c.in_ok-table.table c.as_slice-thresholds.result.now c.args.thresholds.now c.deref.result.now c.in_ok-bytes.bytes.items c.args.epoch c.args.seed.now c.in_ok-text.text.items
    c.as_slice-thresholds.ensures.value c.deref.ensures.value c.in_ok-table.ensures.table c.in_ok-prefixes.ensures.prefixes c.in_ok-clear.ensures.test
    (c.in_ok-text.ensures ∙ ap (λ (gs : List OpenedGroup). expect_text_of gs c.in_ok-clear.clear) c.as_slice.ensures))
