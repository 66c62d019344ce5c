use Rattle.std.proofs.Common.{◌≡◌, ◌∙◌, List, ℕ, ap, refl, sym, subst, Err, arith}
use Rattle.star_io.specs.Records.{AreRecords}
use Rattle.nest_client.specs.Generator.{drawn_records}
use Rattle.star_tool.proofs.Reasons.{of_error}
use Rattle.star_tool.proofs.RevealLemmas.{no_rise, none_behind, trial_good, gen_reason, gen_made}
use Rattle.star_tool.proofs.verbs.generate.gen_output.Goals as goal

-- the records behind the reference
same_records : (number reports liars : ℕ) (given slice stream : List ℕ) → given ≡ slice → slice ≡ stream → AreRecords (drawn_records number reports liars) stream
    → AreRecords (drawn_records number reports liars) given
same_records number reports liars given slice stream is same are = subst (λ (b : List ℕ). AreRecords (drawn_records number reports liars) b) (sym (is ∙ same)) are

pub returns-in_err-walk-clause-reason : goal.returns-in_err-walk-clause-reason
returns-in_err-walk-clause-reason g c =
    let are = same_records c.args.number c.args.reports c.args.liars c.new.result c.deref.result.now c.in_ok-stream.stream.items c.new.ensures c.deref.ensures.value c.in_ok-stream.ensures.records in
    let none = trial_good c.args.number c.args.reports c.args.liars c.new.result are (omega (arith, c.requires.trial.few)) in
    of_error _ _ _ c.from_residual-in_err-walk.ensures.1
    (gen_reason c.args.number c.args.reports c.args.liars c.args.workers c.in_err-walk.field-0.0
    (λ is. no_rise (c.in_err-walk.ensures.read (ap (λ e. Err e) is)))
    (λ is. none_behind c.new.result none (c.in_err-walk.ensures.too_many (ap (λ e. Err e) is) c.new.result refl).0))

pub returns-clause-output : goal.returns-clause-output
returns-clause-output g c =
    gen_made c.args.number c.args.reports c.args.liars c.args.workers c.new.result c.in_ok-walk.walk c.in_ok-revealed.revealed c.in_ok-text.text.items
    (same_records c.args.number c.args.reports c.args.liars c.new.result c.deref.result.now c.in_ok-stream.stream.items c.new.ensures c.deref.ensures.value c.in_ok-stream.ensures.records)
    (c.in_ok-walk.ensures.records c.new.result refl).0.0 (c.in_ok-walk.ensures.records c.new.result refl).0.1 c.in_ok-revealed.ensures c.in_ok-text.ensures
