use Rattle.std.proofs.Common.{◌≡◌, ◌∙◌, ℕ, ◌+◌, ◌<◌, Bool, true, false, ◌&&◌, List, [], ◌∷◌, ◌++◌, refl, sym, ap, length, take, get_or, slice_index, arith, append_assoc, eqb, eq-eqb}
use Rattle.std.specs.Prelude.{Vec, if◌then◌else◌}
use Rattle.std.specs.declared.alloc.Global.{Global}
use Rattle.std.proofs.lemmas.List.{take_all, append-nil}
use Rattle.std.proofs.lemmas.Bool.{and_right, ne_eqb}
use Rattle.layer_walk.specs.declared.revealed.OpenedGroup.{OpenedGroup}
use Rattle.table_law.specs.Prefixes.{Values, is_open, how_many, path_to, entry}
use Rattle.table_law.specs.Fronts.{first_of}
use Rattle.table_law.proofs.Growing.{shown, shown_more, shown_all, first_at, firsts_long, own_count, open_at, opens_long}
use Rattle.table_law.proofs.prefixes.push_prefixes.Goals as goal
use Rattle.table_law.proofs.prefixes.push_prefixes.Goals.{then-firsts-i+then-opens-i+in_ok-push, else-firsts-i, else-firsts-i-via-then-firsts-i+else-opens-i, else-firsts-i-via-else-firsts-i}

pub bounds-firsts-i : goal.bounds-firsts-i
bounds-firsts-i c = omega (arith, c.len-i-end.ensures, firsts_long c.args.table.now c.args.layers c.args.firsts.now c.requires.firsts)

pub bounds-opens-i : goal.bounds-opens-i
bounds-opens-i c = omega (arith, c.len-i-end.ensures, opens_long c.args.table.now c.args.thresholds.now c.args.layers c.args.opens.now c.requires.opens)

pub bounds-counts-i : goal.bounds-counts-i
bounds-counts-i c = omega (arith, c.len-i-end.ensures, firsts_long c.args.table.now c.args.layers c.args.firsts.now c.requires.firsts, c.requires.counts.long)

pub bounds-counts-i-then-opens-i : goal.bounds-counts-i-then-opens-i
bounds-counts-i-then-opens-i c = omega (arith, c.len-i-end.ensures, firsts_long c.args.table.now c.args.layers c.args.firsts.now c.requires.firsts, c.requires.counts.long)

pub bounds-counts-i-then-opens-i-2 : goal.bounds-counts-i-then-opens-i-2
bounds-counts-i-then-opens-i-2 c = omega (arith, c.len-i-end.ensures, firsts_long c.args.table.now c.args.layers c.args.firsts.now c.requires.firsts, c.requires.counts.long)

pub rows-preserved : goal.rows-preserved
rows-preserved c =
    let table = c.args.table.now in
    let ks = c.args.thresholds.now in
    let n : ℕ = c.args.layers in
    let firsts = c.args.firsts.now in
    let opens = c.args.opens.now in
    let old = c.args.groups.now.items in
    let i : ℕ = c.rows.i in
    let row : Values = get_or table i [] in
    let within : i < length table = omega (arith, c.len-i-end.ensures) in
    let own : slice_index firsts i ≡ first_of table n row = first_at table n firsts c.requires.firsts i within in
    let last : Bool → List OpenedGroup = λ b. (if b then entry table ks n row ∷ [] else []) in
    let more : shown table ks n (take (i + 1) table) ≡ shown table ks n (take i table) ++ last (eqb (first_of table n row) i && is_open table ks n row) = shown_more table ks n i within in
    elim c.if-firsts-i.branch [
      | then-firsts-i+then-opens-i+in_ok-push w ↦
          let first : slice_index firsts i ≡ i = w.if-firsts-i.true in
          let count : slice_index c.args.counts.now i ≡ how_many table n row = own_count table n firsts c.args.counts.now c.requires.firsts c.requires.counts i within first in
          let path : w.path_to.result ≡ path_to ks n row = w.path_to.ensures ∙ ap (path_to ks n) w.row.ensures in
          let one : eqb (first_of table n row) i ≡ true = eq-eqb (first_of table n row) i (sym own ∙ first) in
          let two : is_open table ks n row ≡ true = sym (open_at table ks n opens c.requires.opens i _ within) ∙ w.if-opens-i.true in
          ap (λ (v : Vec OpenedGroup Global). v.items) w.groups-is ∙ w.in_ok-push.ensures.items
          ∙ (λ k. c.rows.invariant k ++ record { path = path k; points = count k; agree = count k; members = count k } ∷ [])
          ∙ append_assoc old (shown table ks n (take i table)) (entry table ks n row ∷ [])
          ∙ ap (λ l. old ++ (shown table ks n (take i table) ++ l)) (λ k. last (sym one k && sym two k))
          ∙ ap (λ l. old ++ l) (sym more)
      | else-firsts-i w ↦
          let no : (eqb (first_of table n row) i && is_open table ks n row) ≡ false =
          elim w.else-firsts-i.branch [
            | else-firsts-i-via-then-firsts-i+else-opens-i v ↦
                ap (λ b. eqb (first_of table n row) i && b) (sym (open_at table ks n opens c.requires.opens i _ within) ∙ v.if-opens-i.false) ∙ and_right (eqb (first_of table n row) i) false refl
            | else-firsts-i-via-else-firsts-i v ↦
                ap (λ b. b && is_open table ks n row) (ne_eqb (first_of table n row) i (λ e. v.if-firsts-i.false (own ∙ e)))
          ] in
          ap (λ (v : Vec OpenedGroup Global). v.items) w.groups-is ∙ c.rows.invariant
          ∙ ap (λ l. old ++ l) (sym (append-nil (shown table ks n (take i table))) ∙ ap (λ b. shown table ks n (take i table) ++ last b) (sym no) ∙ sym more)
    ]

pub returns : goal.returns
returns c =
    c.rows.invariant
    ∙ ap (λ l. c.args.groups.now.items ++ l) (shown_all c.args.table.now c.args.thresholds.now c.args.layers c.rows.i (take_all c.rows.i c.args.table.now (omega (arith, c.len-i-end.ensures))))
