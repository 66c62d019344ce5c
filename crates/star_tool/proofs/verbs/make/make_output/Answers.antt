use Rattle.std.proofs.Common.{◌≡◌, ◌∙◌, List, ℕ, length, ap, refl, subst, Err}
use Rattle.command_words.specs.declared.command.Command.TheVariants.{Make}
use Rattle.star_io.specs.RecordLists.{stream_of}
use Rattle.report_frame.specs.declared.version.Version.{Version}
use Rattle.client_table.specs.Table.{table_of, IsTable, IsBadTable, HasTooManyRows}
use Rattle.star_tool.specs.declared.status.Status.TheVariants.{Done, NoMemory}
use Rattle.star_tool.specs.Run.{ending}
use Rattle.star_tool.specs.Rows.{rows_of, frames_of}
use Rattle.star_tool.specs.Seen.{seen}
use Rattle.star_tool.specs.declared.verbs.make.rows.Rows.{Rows}
use Rattle.star_tool.proofs.Reasons.{of_error, read_reason, may_follow}
use Rattle.star_tool.proofs.MakeLemmas.{too_long, no_table, table_read, no_seed, seed_is_last, seed_drawn, make_made}
use Rattle.star_tool.proofs.verbs.make.make_output.Goals as goal

-- a table of the bytes and the thresholds behind their references
good_table : (version : Version) (slice thresholds view bytes : List ℕ) → slice ≡ thresholds → view ≡ bytes → IsTable version (length slice) (table_of view)
    → IsTable version (length thresholds) (table_of bytes)
good_table version slice thresholds view bytes same read good =
    subst (λ (t : List ℕ). IsTable version (length t) (table_of bytes)) same (subst (λ (b : List ℕ). IsTable version (length slice) (table_of b)) read good)

bad_table : (version : Version) (slice thresholds view bytes : List ℕ) (row column : ℕ) → slice ≡ thresholds → view ≡ bytes → IsBadTable version (length slice) (table_of view) row column
    → IsBadTable version (length thresholds) (table_of bytes) row column
bad_table version slice thresholds view bytes row column same read bad =
    subst (λ (t : List ℕ). IsBadTable version (length t) (table_of bytes) row column) same (subst (λ (b : List ℕ). IsBadTable version (length slice) (table_of b) row column) read bad)

same_stream : (version : Version) (rows : Rows) (slice thresholds view bytes : List ℕ) (epoch : ℕ) (seed text : List ℕ) → slice ≡ thresholds → view ≡ bytes
    → rows ≡ rows_of version (length slice) view → text ≡ stream_of (frames_of rows slice epoch seed)
    → text ≡ stream_of (frames_of (rows_of version (length thresholds) bytes) thresholds epoch seed)
same_stream version rows slice thresholds view bytes epoch seed text same read is stream =
    stream ∙ ap (λ (r : Rows). stream_of (frames_of r slice epoch seed)) is
    ∙ ap (λ (b : List ℕ). stream_of (frames_of (rows_of version (length slice) b) slice epoch seed)) read
    ∙ ap (λ (t : List ℕ). stream_of (frames_of (rows_of version (length t) bytes) t epoch seed)) same

pub returns-in_err-bytes-clause-reason : goal.returns-in_err-bytes-clause-reason
returns-in_err-bytes-clause-reason g c =
    of_error _ _ _ c.from_residual.ensures.1
    (read_reason (Make c.args.epoch c.args.version c.args.thresholds.now c.args.given) _ _ c.in_err-bytes.field-0.0 refl (λ is. c.in_err-bytes.ensures.read (ap (λ e. Err e) is))
    (λ is. too_long c.args.epoch c.args.version c.args.thresholds.now c.args.given (seen g.S.Source.left g.S.Source.faults c.args.input.now c.read_bytes.new.input) (c.in_err-bytes.ensures.too_many (ap (λ e. Err e) is))))

pub returns-in_err-rows-clause-reason : goal.returns-in_err-rows-clause-reason
returns-in_err-rows-clause-reason g c =
    let read = c.deref.ensures.value in
    let same = c.as_slice-thresholds.ensures.value in
    of_error _ _ _ c.from_residual-in_err-rows.ensures.1
    (no_table c.args.epoch c.args.version c.args.thresholds.now c.args.given (seen g.S.Source.left g.S.Source.faults c.args.input.now c.read_bytes.new.input)
    (seen g.C.Source.left g.C.Source.faults c.args.coins.now c.args.coins.now) c.in_ok-bytes.bytes.items c.in_err-rows.field-0.0 c.in_ok-bytes.ensures.bytes c.in_ok-bytes.ensures.few
    (λ is. subst (λ (b : List ℕ). HasTooManyRows (table_of b)) read (c.in_err-rows.ensures.too_many (ap (λ e. Err e) is)))
    (λ row column is. bad_table c.args.version _ _ _ _ row column same read (c.in_err-rows.ensures.bad row column (ap (λ e. Err e) is))))

pub returns-in_err-seed-clause-reason : goal.returns-in_err-seed-clause-reason
returns-in_err-seed-clause-reason g c =
    of_error _ _ _ c.from_residual-in_err-seed.ensures.1
    (no_seed c.args.epoch c.args.version c.args.thresholds.now c.args.given (seen g.S.Source.left g.S.Source.faults c.args.input.now c.read_bytes.new.input)
    (seen g.C.Source.left g.C.Source.faults c.args.coins.now c.seed_or_coins.new.coins) c.in_err-seed.field-0.0 (table_read c.args.epoch c.args.version c.args.thresholds.now c.args.given (seen g.S.Source.left g.S.Source.faults c.args.input.now c.read_bytes.new.input) c.in_ok-bytes.bytes.items c.in_ok-bytes.ensures.bytes c.in_ok-bytes.ensures.few
    (good_table c.args.version _ _ _ _ c.as_slice-thresholds.ensures.value c.deref.ensures.value c.in_ok-rows.ensures.good)) c.in_err-seed.ensures.reason)

pub returns-in_err-seed-clause-coins : goal.returns-in_err-seed-clause-coins
returns-in_err-seed-clause-coins g c =
    let coins = seen g.C.Source.left g.C.Source.faults c.args.coins.now c.seed_or_coins.new.coins in
    seed_drawn c.args.epoch c.args.version c.args.thresholds.now c.args.given (seen g.S.Source.left g.S.Source.faults c.args.input.now c.read_bytes.new.input) coins (ending c.from_residual-in_err-seed.result)
    (table_read c.args.epoch c.args.version c.args.thresholds.now c.args.given (seen g.S.Source.left g.S.Source.faults c.args.input.now c.read_bytes.new.input) c.in_ok-bytes.bytes.items c.in_ok-bytes.ensures.bytes c.in_ok-bytes.ensures.few
    (good_table c.args.version _ _ _ _ c.as_slice-thresholds.ensures.value c.deref.ensures.value c.in_ok-rows.ensures.good))
    c.seed_or_coins.ensures.most
    (may_follow coins c.from_residual-in_err-seed.result c.in_err-seed.field-0.0 c.from_residual-in_err-seed.ensures.1 (seed_is_last c.args.given coins c.in_err-seed.field-0.0 c.in_err-seed.ensures.reason))
    (λ seed is. (c.seed_or_coins.ensures.given seed is).1)

pub returns-in_err-text-clause-coins : goal.returns-in_err-text-clause-coins
returns-in_err-text-clause-coins g c =
    let coins = seen g.C.Source.left g.C.Source.faults c.args.coins.now c.seed_or_coins.new.coins in
    seed_drawn c.args.epoch c.args.version c.args.thresholds.now c.args.given (seen g.S.Source.left g.S.Source.faults c.args.input.now c.read_bytes.new.input) coins (ending c.from_residual-in_err-text.result)
    (table_read c.args.epoch c.args.version c.args.thresholds.now c.args.given (seen g.S.Source.left g.S.Source.faults c.args.input.now c.read_bytes.new.input) c.in_ok-bytes.bytes.items c.in_ok-bytes.ensures.bytes c.in_ok-bytes.ensures.few
    (good_table c.args.version _ _ _ _ c.as_slice-thresholds.ensures.value c.deref.ensures.value c.in_ok-rows.ensures.good))
    c.seed_or_coins.ensures.most
    (may_follow coins c.from_residual-in_err-text.result NoMemory c.from_residual-in_err-text.ensures.1 tt)
    (λ seed is. (c.seed_or_coins.ensures.given seed is).1)

pub returns-clause-output : goal.returns-clause-output
returns-clause-output g c =
    make_made c.args.epoch c.args.version c.args.thresholds.now c.args.given (seen g.S.Source.left g.S.Source.faults c.args.input.now c.read_bytes.new.input)
    (seen g.C.Source.left g.C.Source.faults c.args.coins.now c.seed_or_coins.new.coins) c.in_ok-bytes.bytes.items c.in_ok-seed.seed c.in_ok-text.text.items
    c.in_ok-bytes.ensures.bytes c.in_ok-bytes.ensures.few
    (good_table c.args.version _ _ _ _ c.as_slice-thresholds.ensures.value c.deref.ensures.value c.in_ok-rows.ensures.good)
    c.in_ok-seed.ensures.seed
    (same_stream c.args.version c.in_ok-rows.rows c.as_slice-thresholds.result.now c.args.thresholds.now c.deref.result.now c.in_ok-bytes.bytes.items c.args.epoch c.in_ok-seed.seed c.in_ok-text.text.items
    c.as_slice-thresholds.ensures.value c.deref.ensures.value c.in_ok-rows.ensures.rows c.in_ok-text.ensures)

pub returns-clause-coins : goal.returns-clause-coins
returns-clause-coins g c =
    let coins = seen g.C.Source.left g.C.Source.faults c.args.coins.now c.seed_or_coins.new.coins in
    seed_drawn c.args.epoch c.args.version c.args.thresholds.now c.args.given (seen g.S.Source.left g.S.Source.faults c.args.input.now c.read_bytes.new.input) coins Done
    (table_read c.args.epoch c.args.version c.args.thresholds.now c.args.given (seen g.S.Source.left g.S.Source.faults c.args.input.now c.read_bytes.new.input) c.in_ok-bytes.bytes.items c.in_ok-bytes.ensures.bytes c.in_ok-bytes.ensures.few
    (good_table c.args.version _ _ _ _ c.as_slice-thresholds.ensures.value c.deref.ensures.value c.in_ok-rows.ensures.good))
    c.seed_or_coins.ensures.most tt (λ seed is. (c.seed_or_coins.ensures.given seed is).1)
