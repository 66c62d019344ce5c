use Rattle.std.proofs.Common.{◌≡◌, ◌∙◌, ◌∷◌, [], ℕ, List, ap, ap₂, rules}
use Rattle.std.proofs.lemmas.Result.{IfOk-weaker}
use Rattle.report_frame.specs.declared.version.Version.TheVariants.{One}
use Rattle.nest_client.specs.Report.{client_of, frame_of, report_shifted}
use Rattle.nest_client.specs.Generator.{drawn_values, drawn_shift, drawn_frame, shared_seed}
use Rattle.nest_client.proofs.Layers.{frame_is}
use Rattle.nest_client.proofs.generator.drawn_frame.Goals as goal

pub returns-clause-bytes : goal.returns-clause-bytes
returns-clause-bytes c =
    let values : c.lettered.result ∷ c.lettered-2.result ∷ [] ≡ drawn_values c.args.number c.args.i = search rules in
    let shift : c.if-draws-from.shift ≡ drawn_shift c.args.number c.args.liars c.args.i = search rules in
    let frame : frame_of (report_shifted (client_of One 1 c.labelled-seed.result c.args.i) c.if-draws-from.shift (c.lettered.result ∷ c.lettered-2.result ∷ []) (20 ∷ 10 ∷ []))
    ≡ drawn_frame c.args.number c.args.liars c.args.i =
    ap (λ (seed : List ℕ). frame_of (report_shifted (client_of One 1 seed c.args.i) c.if-draws-from.shift (c.lettered.result ∷ c.lettered-2.result ∷ []) (20 ∷ 10 ∷ []))) c.labelled-seed.ensures
    ∙ ap₂ (λ (s : ℕ) (vs : List (List ℕ)). frame_of (report_shifted (client_of One 1 (shared_seed c.args.number) c.args.i) s vs (20 ∷ 10 ∷ []))) shift values in
    IfOk-weaker c.build_shifted.result _ _ (λ v of_report. frame_is _ _ of_report ∙ frame) c.build_shifted.ensures.frame
