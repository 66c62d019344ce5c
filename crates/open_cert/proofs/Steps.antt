-- The opened groups of some levels, with their certificates.
use Rattle.std.proofs.Common.{◌≡◌, ℕ, suc, ◌+◌, List, [], ◌++◌, map, sym, ap, ◌∙◌, subst, arith}
use Rattle.star_io.specs.declared.record.Record.{Record}
use Rattle.report_frame.specs.declared.limits.TheConstants.{MAX_LAYERS}
use Rattle.star_lists.specs.Ascending.{in_order}
use Rattle.star_lists.proofs.Stable.{stable_sort}
use Rattle.tag_groups.specs.Grouped.{groups_of}
use Rattle.layer_walk.specs.declared.grouped.GroupedLevel.{GroupedLevel}
use Rattle.layer_walk.specs.declared.level.Level.{Level}
use Rattle.layer_walk.specs.Kept.{IsSortOf}
use Rattle.layer_walk.specs.Levels.{next_rows, rows_from}
use Rattle.layer_walk.specs.Made.{named, IsAfter, IsLevel}
use Rattle.layer_walk.specs.Reveal.{outer_rows}
use Rattle.layer_walk.specs.Standing.{level_zero_of}
use Rattle.layer_walk.proofs.Firsts.{zero_named}
use Rattle.open_cert.specs.declared.certified.Certified.{Certified}
use Rattle.open_cert.specs.Certs.{by_told_path, certified_at, certified_told, certified_of, certs_list}
use Rattle.open_cert.specs.Made.{certified_groups}
use Rattle.open_cert.proofs.Groups.{groups_certified}
use Rattle.open_cert.proofs.ByPath.{told_total}

-- n levels are done: this is level n, and these are the groups that were opened, with their certificates
pub record IsHere (e : ℕ) (records : List Record) (n : ℕ) (here : GroupedLevel) (made : List Certified) : Type 0 where
  pub good : IsLevel here.level
  pub number : here.level.number ≡ n
  pub epoch : here.level.epoch ≡ e
  pub rows : named here.level ≡ rows_from e (outer_rows e records) n
  pub groups : here.groups ≡ groups_of here.level.rows
  pub made_is : made ≡ certified_told e (outer_rows e records) n

-- no level is done
pub none_done : (e : ℕ) (records : List Record) (zero : Level) (here : GroupedLevel) (made : List Certified) → zero ≡ level_zero_of e records → IsLevel zero → here.level ≡ zero → here.groups ≡ groups_of zero.rows → made ≡ [] → IsHere e records 0 here made
unfolding rows_from certified_told
none_done e records zero here made is good same groups none = record {
  good = subst IsLevel (sym same) good;
  number = ap (λ (l : Level). l.number) (same ∙ is);
  epoch = ap (λ (l : Level). l.epoch) (same ∙ is);
  rows = ap named (same ∙ is) ∙ zero_named e records;
  groups = groups ∙ ap (λ (l : Level). groups_of l.rows) (sym same);
  made_is = none;
}

-- one more level
pub one_more : (e : ℕ) (records : List Record) (n : ℕ) (here : GroupedLevel) (after : Level) (next : GroupedLevel)
    (made more both : List Certified) → IsHere e records n here made
    → more ≡ certified_groups here.level here.groups → both ≡ made ++ more → IsAfter here.level after → IsLevel after
    → next.level ≡ after → next.groups ≡ groups_of after.rows
    → IsHere e records (n + 1) next both
unfolding rows_from certified_told
one_more e records n here after next made more both so level joined follows good same groups =
    let outer = outer_rows e records in
    let up : suc n ≡ n + 1 = omega arith in
    let new : more ≡ certified_at e n (rows_from e outer n) =
    level ∙ groups_certified here.level so.good here.groups so.groups ∙ (λ i. certified_at (so.epoch i) (so.number i) (so.rows i)) in
    let rows : named after ≡ next_rows e n (rows_from e outer n) = follows.rows ∙ (λ i. next_rows (so.epoch i) (so.number i) (so.rows i)) in
    subst (λ m. IsHere e records m next both) up (record {
      good = subst IsLevel (sym same) good;
      number = ap (λ (l : Level). l.number) same ∙ follows.number ∙ omega (arith, so.number);
      epoch = ap (λ (l : Level). l.epoch) same ∙ follows.epoch ∙ so.epoch;
      rows = ap named same ∙ rows;
      groups = groups ∙ ap (λ (l : Level). groups_of l.rows) (sym same);
      made_is = joined ∙ (λ i. so.made_is i ++ new i);
    })

-- all levels are done
pub all_done : (e : ℕ) (records : List Record) (here : GroupedLevel) (made sorted : List Certified) → IsHere e records MAX_LAYERS here made → IsSortOf by_told_path made sorted
    → map (λ (c : Certified). c.cert) sorted ≡ certs_list e records
unfolding certified_of
all_done e records here made sorted so is =
    ap (map (λ (c : Certified). c.cert)) (stable_sort by_told_path told_total made sorted is.rises is.stable ∙ ap (in_order by_told_path) so.made_is)
