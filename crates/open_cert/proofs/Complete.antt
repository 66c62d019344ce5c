-- The certificates of a stream are those of the groups that its reveal opens, and an audit says Yes to each.
use Rattle.std.proofs.Common.{◌≡◌, ℕ, zero, suc, ◌≤◌, List, ◌++◌, Option, Some, None, inl, inr, length, map, refl, sym, ap, ◌∙◌, subst, All}
use Rattle.std.specs.List.{AllZip, filter_map}
use Rattle.std.specs.Option.{option_map}
use Rattle.std.proofs.lemmas.List.Elements.{All-from_recursion, All-map, All-weaker}
use Rattle.std.proofs.lemmas.List.{map-append}
use Rattle.field61.specs.Field.{AreElements}
use Rattle.shamir_limbs.specs.KeyLine.{xs_of, AreDistinct}
use Rattle.star_io.specs.declared.record.Record.{Record}
use Rattle.star_lists.specs.Ascending.{in_order}
use Rattle.star_lists.proofs.Elements.{In, Contains-from_in, all_of}
use Rattle.star_lists.proofs.FirstOnes.{in_firsts}
use Rattle.star_lists.proofs.Inside.{from_filter_map, from_in_order, in_either}
use Rattle.star_lists.proofs.Mapped.{map-filter_map}
use Rattle.star_lists.proofs.Zips.{AllZip-map}
use Rattle.tag_groups.specs.Left.{point_of}
use Rattle.tag_groups.proofs.LeftLaws.{distinct_left}
use Rattle.layer_walk.specs.declared.revealed.OpenedGroup.{OpenedGroup}
use Rattle.layer_walk.specs.Rows.{Row, same_group, members, first_members, points_left}
use Rattle.layer_walk.specs.Outcomes.{outcome_at}
use Rattle.layer_walk.specs.Levels.{opened_at, opened_row, path_with, rows_from}
use Rattle.layer_walk.specs.Reveal.{by_path, groups_told, level_count, outer_rows, reveal_of}
use Rattle.layer_walk.specs.Laws.{AreByteRecords}
use Rattle.layer_walk.proofs.HeldRows.{opened_to, mapped_is}
use Rattle.cert_audit.specs.declared.cert.Cert.{Cert}
use Rattle.cert_audit.specs.declared.limits.TheConstants.{MAX_POINTS}
use Rattle.cert_audit.specs.Audit.{verdict_of}
use Rattle.cert_audit.specs.Certificate.{IsCert}
use Rattle.open_cert.specs.declared.certified.Certified.{Certified}
use Rattle.open_cert.specs.Certs.{row_cert, with_cert, certified_row, certified_at, certified_told, by_told_path, certified_of, certs_list, SaysYes, IsCertOf}
use Rattle.star_lists.proofs.InOrder.{in_order-map}
use Rattle.open_cert.proofs.Ranges.{left_elements, cert_in_range}
use Rattle.open_cert.proofs.Verdicts.{IsOpenCert, open_length, open_yes}

-- ---- the groups are those of the reveal

told_again : (cert : Cert) (o : Option OpenedGroup) → option_map (λ (c : Certified). c.told) (option_map (with_cert cert) o) ≡ o
told_again cert None = refl
told_again cert (Some told) = refl

told_at : (e l : ℕ) (rows : List Row) → map (λ (c : Certified). c.told) (certified_at e l rows) ≡ opened_at e l rows
unfolding certified_at opened_at
told_at e l rows =
    map-filter_map (λ (c : Certified). c.told) (certified_row e l rows) (first_members rows)
    ∙ (λ i. filter_map (λ row. told_again (row_cert e l rows row) (opened_row e l rows row) i) (first_members rows))

told_below : (e : ℕ) (rows : List Row) (n : ℕ) → map (λ (c : Certified). c.told) (certified_told e rows n) ≡ groups_told e rows n
unfolding certified_told groups_told
told_below e rows zero = refl
told_below e rows (suc n) =
    map-append (λ (c : Certified). c.told) (certified_told e rows n) (certified_at e n (rows_from e rows n))
    ∙ (λ i. told_below e rows n i ++ told_at e n (rows_from e rows n) i)

pub told_is : (e : ℕ) (records : List Record) → map (λ (c : Certified). c.told) (certified_of e records) ≡ (reveal_of e records).groups
unfolding certified_of reveal_of
told_is e records =
    sym (in_order-map by_told_path by_path (λ (c : Certified). c.told) (λ a b. refl) (certified_told e (outer_rows e records) level_count))
    ∙ ap (in_order by_path) (told_below e (outer_rows e records) level_count)

-- ---- each certificate is that of its group

-- a group of a reveal, with its certificate
record IsRevealed (e n : ℕ) (rows : List Row) (c : Certified) : Type 0 where
  cert : IsCertOf e rows c.told c.cert
  range : n ≤ MAX_POINTS → IsCert c.cert

module _ (e : ℕ) (records : List Record) (bytes : AreByteRecords records) where
  abbrev outer : List Row
  outer = outer_rows e records

  module _ (l : ℕ) where
    abbrev rows : List Row
    rows = rows_from e outer l

    elements : (row : Row) → AreElements (xs_of (points_left rows row))
    elements row = left_elements e records bytes l row

    distinct : (row : Row) → AreDistinct (xs_of (points_left rows row))
    distinct row = distinct_left (map (λ (r : Row). point_of r.frame) (members rows row))

    -- an opened row's certificate
    open_cert : (row : Row) (told : OpenedGroup) → opened_row e l rows row ≡ Some told → IsOpenCert (row_cert e l rows row)
    unfolding outcome_at
    open_cert row told is =
        let opened = opened_to (λ value agree. Some (record { path = path_with row value; points = length (points_left rows row); agree = agree; members = length (members rows row) })) (outcome_at e l rows row) told is in
        record { value = opened.value; agree = opened.agree; numbers = refl; outcome = opened.opened }

    says_yes : (row : Row) (is : IsOpenCert (row_cert e l rows row)) → SaysYes (outcome_at e l rows row) (verdict_of (row_cert e l rows row))
    unfolding outcome_at
    says_yes row is =
        subst (λ o. SaysYes o (verdict_of (row_cert e l rows row))) (sym is.outcome)
        (open_yes (row_cert e l rows row) is (elements row) (distinct row))

    of_row : (row : Row) (told : OpenedGroup) → In row (first_members rows) → opened_row e l rows row ≡ Some told → IsRevealed e (length records) outer (with_cert (row_cert e l rows row) told)
    of_row row told i is =
        let certified = open_cert row told is in
        record {
          cert = record {
            row = row;
            first = Contains-from_in (first_members rows) row i;
            told = is;
            epoch = refl;
            parent = refl;
            head = refl;
            points = refl;
            verdict = says_yes row certified;
          };
          range = λ few. cert_in_range e records bytes l few row (in_firsts same_group rows row i) (row_cert e l rows row) refl refl refl (open_length (row_cert e l rows row) certified);
        }

    revealed_at : (c : Certified) → In c (certified_at e l rows) → IsRevealed e (length records) outer c
    unfolding certified_at
    revealed_at c i =
        let from = from_filter_map (certified_row e l rows) (first_members rows) c i in
        let row = from.0 in
        let told = mapped_is (with_cert (row_cert e l rows row)) (opened_row e l rows row) c from.2 in
        subst (IsRevealed e (length records) outer) told.2 (of_row row told.0 from.1 told.1)

  revealed_below : (n : ℕ) (c : Certified) → In c (certified_told e outer n) → IsRevealed e (length records) outer c
  unfolding certified_told
  revealed_below zero c i = absurd i
  revealed_below (suc n) c i = elim (in_either c (certified_told e outer n) (certified_at e n (rows_from e outer n)) i) [
    | inl j ↦ revealed_below n c j
    | inr j ↦ revealed_at n c j
  ]

  all_revealed : All (IsRevealed e (length records) outer) (certified_of e records)
  unfolding certified_of
  all_revealed =
      All-from_recursion (IsRevealed e (length records) outer) (certified_of e records)
      (all_of (IsRevealed e (length records) outer) (certified_of e records) (λ c i. revealed_below level_count c (from_in_order by_told_path c (certified_told e outer level_count) i)))

  -- one certificate for each group, in their order
  pub complete : AllZip (IsCertOf e outer) (reveal_of e records).groups (certs_list e records)
  complete =
      subst (λ groups. AllZip (IsCertOf e outer) groups (certs_list e records)) (told_is e records)
      (AllZip-map (IsCertOf e outer) (λ (c : Certified). c.told) (λ (c : Certified). c.cert) (certified_of e records)
      (All-weaker (IsRevealed e (length records) outer) (λ c. IsCertOf e outer c.told c.cert) (λ c r. r.cert) (certified_of e records) all_revealed))

  -- each in range
  pub in_range : length records ≤ MAX_POINTS → All IsCert (certs_list e records)
  in_range few = All-map IsCert (λ (c : Certified). c.cert) (certified_of e records) (All-weaker (IsRevealed e (length records) outer) (λ c. IsCert c.cert) (λ c r. r.range few) (certified_of e records) all_revealed)
