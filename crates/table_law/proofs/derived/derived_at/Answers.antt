use Rattle.std.proofs.Common.{◌≡◌, ◌∙◌, ℕ, ◌+◌, ◌<◌, [], ◌∷◌, ◌++◌, sym, ap, length, take, map, get_or, slice_index, arith}
use Rattle.std.specs.Prelude.{Vec}
use Rattle.std.specs.declared.alloc.Global.{Global}
use Rattle.std.proofs.lemmas.List.{get_or-map, get_or-take, length-map, length-take-le, map_more, take_all}
use Rattle.report_frame.specs.declared.version.Version.TheVariants.{One}
use Rattle.adss_commit.specs.declared.context.Derived.{Derived}
use Rattle.adss_commit.specs.Derivation.{derived}
use Rattle.table_law.specs.Prefixes.{Values, value_at}
use Rattle.table_law.specs.Layers.{layer_context}
use Rattle.table_law.specs.Fronts.{first_of}
use Rattle.table_law.specs.Marks.{derived_at}
use Rattle.table_law.proofs.FrontMarks.{value_there}
use Rattle.table_law.proofs.Growing.{first_at, firsts_long}
use Rattle.table_law.proofs.Contexts.{check_at, checks_long, first_no_later, derived_same}
use Rattle.table_law.proofs.derived.derived_at.Goals as goal
use Rattle.table_law.proofs.derived.derived_at.Goals.{then-first-i+in_ok-push, else-first-i+in_ok-push-2}

pub bounds-firsts-i : goal.bounds-firsts-i
bounds-firsts-i c = omega (arith, firsts_long c.args.table.now (c.args.layer + 1) c.args.firsts.now c.requires.firsts)

pub bounds-checks-i : goal.bounds-checks-i
bounds-checks-i c = omega (arith, checks_long c.args.epoch c.args.thresholds.now c.args.layer c.args.table.now c.args.checks.now c.requires.checks)

pub index-requires : goal.index-requires
index-requires c =
    let table = c.args.table.now in
    let i : ℕ = c.rows.i in
    let within : i < length table = omega (arith, c.len-i-end.ensures) in
    let at : slice_index c.args.firsts.now i ≡ first_of table (c.args.layer + 1) (get_or table i []) = first_at table (c.args.layer + 1) c.args.firsts.now c.requires.firsts i within in
    let made : length c.rows.derived.items ≡ i =
    ap length c.rows.invariant ∙ length-map (take i table) (λ row. derived (layer_context c.args.epoch c.args.thresholds.now c.args.layer row)) ∙ length-take-le i table (omega arith) in
    omega (arith, first_no_later table (c.args.layer + 1) i within, made)

pub rows-preserved : goal.rows-preserved
rows-preserved c =
    let table = c.args.table.now in
    let ks = c.args.thresholds.now in
    let e : ℕ = c.args.epoch in
    let layer : ℕ = c.args.layer in
    let i : ℕ = c.rows.i in
    let within : i < length table = omega (arith, c.len-i-end.ensures) in
    let f : Values → Derived = λ (row : Values). derived (layer_context e ks layer row) in
    let more : map f (take (i + 1) table) ≡ map f (take i table) ++ f (get_or table i []) ∷ [] = map_more f table i [] within in
    elim c.if-first-i.branch [
      | then-first-i+in_ok-push w ↦
          let value : w.copy.result ≡ value_at (get_or table i []) layer =
          w.copy.ensures ∙ value_there w.row.result.now (get_or table i []) w.index-row-layer.result layer w.row.ensures w.index-row-layer.is (c.requires.width i within) in
          let one : w.derive.result ≡ f (get_or table i []) =
          w.derive.ensures ∙ (λ n. derived (record { version = One; parent = check_at e ks layer table c.args.checks.now c.requires.checks i [] within n; epoch = e; level = layer; k = slice_index ks layer; value = value n })) in
          ap (λ (v : Vec Derived Global). v.items) w.derived-is ∙ w.in_ok-push.ensures.items ∙ (λ n. c.rows.invariant n ++ one n ∷ []) ∙ sym more
      | else-first-i+in_ok-push-2 w ↦
          let first : ℕ = slice_index c.args.firsts.now i in
          let at : first ≡ first_of table (layer + 1) (get_or table i []) = first_at table (layer + 1) c.args.firsts.now c.requires.firsts i within in
          let less : first < i = omega (arith, first_no_later table (layer + 1) i within, at, w.if-first-i.false) in
          let one : w.index.result.now ≡ f (get_or table i []) =
          w.index.ensures ∙ ap (λ ds. get_or ds first w.index.result.now) c.rows.invariant
          ∙ get_or-map f (take i table) first [] w.index.result.now (omega (arith, length-take-le i table (omega arith)))
          ∙ ap f (get_or-take i table first [] less) ∙ ap (λ n. f (get_or table n [])) at ∙ derived_same e ks layer table i within in
          ap (λ (v : Vec Derived Global). v.items) w.derived-is ∙ w.in_ok-push-2.ensures.items ∙ (λ n. c.rows.invariant n ++ one n ∷ []) ∙ sym more
    ]

pub returns : goal.returns
unfolding derived_at
returns c = c.rows.invariant ∙ ap (map (λ (row : Values). derived (layer_context c.args.epoch c.args.thresholds.now c.args.layer row))) (take_all c.rows.i c.args.table.now (omega (arith, c.len-i-end.ensures)))
