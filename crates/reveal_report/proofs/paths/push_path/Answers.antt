use Rattle.std.proofs.Common.{◌≡◌, ◌∙◌, sym, ◌++◌, ◌∷◌, List, ℕ, ap, arith, append_assoc, string_bytes}
use Rattle.std.specs.Prelude.{codes}
use Rattle.std.specs.List.{flat_map}
use Rattle.std.proofs.lemmas.List.{append-nil, nil_from_length, take_all}
use Rattle.layer_walk.specs.declared.path.Step.{Step}
use Rattle.reveal_report.specs.Paths.{path_text, step_text}
use Rattle.reveal_report.proofs.paths.push_path.Goals as goal

pub returns-after-loop-step : goal.returns-after-loop-step
unfolding path_text
returns-after-loop-step c =
    let before = string_bytes c.args.text.now in
    let first = c.in-Some.first.now in
    let others = c.in-Some.others.now in
    let behind : List Step → List ℕ = λ steps. flat_map (λ step. codes "/" ++ step_text step) steps in
    let path_is : c.args.path.now ≡ first ∷ others = sym c.as_slice.ensures.value ∙ c.in-Some.ensures.cases.0 in
    c.loop-step.invariant
    ∙ ap (λ (steps : List Step). string_bytes c.push_step.new.text ++ behind steps) (take_all c.loop-step.step-index others (omega arith))
    ∙ ap (λ (text : List ℕ). text ++ behind others) c.in_ok-push_step.ensures
    ∙ append_assoc before (step_text first) (behind others)
    ∙ ap (λ (path : List Step). before ++ path_text path) (sym path_is)

pub returns-in_default : goal.returns-in_default
unfolding path_text
returns-in_default c =
    let before = string_bytes c.args.text.now in
    sym (ap (λ (path : List Step). before ++ path_text path) (sym c.as_slice.ensures.value ∙ nil_from_length c.as_slice.result.now c.in_default.ensures.cases) ∙ append-nil before)
