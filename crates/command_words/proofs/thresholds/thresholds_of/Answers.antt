use Rattle.std.proofs.Common.{◌≡◌, ◌∙◌, ◌<◌, ◌≤◌, length, map, ℕ, None, ap, ap₂, sym, arith, lit<}
use Rattle.std.specs.Str.Parse.{digits_value}
use Rattle.std.proofs.lemmas.Iterator.Consumers.{YieldsList-at, YieldsList-end, YieldsList-turn}
use Rattle.std.proofs.lemmas.Iterator.Splits.{YieldsList-from_str_split}
use Rattle.std.proofs.lemmas.List.{length-map}
use Rattle.report_frame.specs.Versions.{max_layers, max_threshold}
use Rattle.report_frame.specs.declared.limits.TheConstants.{MIN_THRESHOLD}
use Rattle.command_words.specs.Numbers.{number_in}
use Rattle.command_words.specs.Thresholds.{parts_of}
use Rattle.command_words.proofs.ThresholdLemmas.{number_in-none, thresholds-bad, thresholds-many, thresholds-read, thresholds_of-good}
use Rattle.command_words.proofs.thresholds.thresholds_of.Goals as goal

pub returns-then-as_slice-most-clause-thresholds : goal.returns-then-as_slice-most-clause-thresholds
returns-then-as_slice-most-clause-thresholds c =
    let (within, is) = YieldsList-turn
    (YieldsList-at c.into_iter-part-iterator.ensures.into_iter_gives
    (YieldsList-from_str_split 44 c.args.text.now (lit< tt) c.split-part-items.ensures.text c.split-part-items.ensures.has_more c.split-part-items.ensures.pattern))
    c.loop-part.yielded _ c.loop-part.yielded_by _ _ c.in-Some.part c.in-Some.is c.next.ensures.steps in
    let read = ap length (c.as_slice.ensures.value ∙ c.loop-part.invariant.read)
    ∙ length-map (map (λ part. part.now) c.loop-part.yielded) (digits_value 10) ∙ length-map c.loop-part.yielded (λ part. part.now) in
    let inside : length c.loop-part.yielded < length (parts_of c.args.text.now) = within in
    thresholds-many c.args.version c.args.text.now (omega (arith, read, inside))

pub returns-in_err-threshold-clause-thresholds : goal.returns-in_err-threshold-clause-thresholds
returns-in_err-threshold-clause-thresholds c =
    let (within, is) = YieldsList-turn
    (YieldsList-at c.into_iter-part-iterator.ensures.into_iter_gives
    (YieldsList-from_str_split 44 c.args.text.now (lit< tt) c.split-part-items.ensures.text c.split-part-items.ensures.has_more c.split-part-items.ensures.pattern))
    c.loop-part.yielded _ c.loop-part.yielded_by _ _ c.in-Some.part c.in-Some.is c.next.ensures.steps in
    let none : number_in MIN_THRESHOLD (max_threshold c.args.version) c.in-Some.part.now ≡ None =
    ap₂ (λ (low high : ℕ). number_in low high c.in-Some.part.now) (sym c.from.ensures) (sym (c.from-in-loop-part.ensures ∙ c.max_threshold-high.ensures)) ∙ sym c.in_err-threshold.ensures.number in
    c.from_residual.ensures ∙ thresholds-bad c.args.version c.args.text.now (length c.loop-part.yielded) c.in-Some.part.now within is
    (number_in-none MIN_THRESHOLD (max_threshold c.args.version) c.in-Some.part.now none)

pub returns-clause-thresholds : goal.returns-clause-thresholds
returns-clause-thresholds c =
    let (all, many) = YieldsList-end
    (YieldsList-at c.into_iter-part-iterator.ensures.into_iter_gives
    (YieldsList-from_str_split 44 c.args.text.now (lit< tt) c.split-part-items.ensures.text c.split-part-items.ensures.has_more c.split-part-items.ensures.pattern))
    c.loop-part.yielded _ c.loop-part.yielded_by _ _ c.in-None.is c.next.ensures.steps in
    let few : length (map (λ part. part.now) c.loop-part.yielded) ≤ max_layers c.args.version = omega (arith, length-map c.loop-part.yielded (λ part. part.now)) in
    thresholds-read c.args.version c.args.text.now (map (λ part. part.now) c.loop-part.yielded) c.loop-part.thresholds all few c.loop-part.invariant.all c.loop-part.invariant.read

pub returns-clause-good : goal.returns-clause-good
returns-clause-good c = thresholds_of-good c.args.version c.args.text.now c.loop-part.thresholds (sym (returns-clause-thresholds c))
