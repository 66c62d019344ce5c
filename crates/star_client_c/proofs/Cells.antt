-- Cells, and the values that they are those of.
use Rattle.std.proofs.Common.{◌≡◌, ◌∙◌, ap, ◌≤◌, ◌+◌, ◌-◌, ◌*◌, ℕ, Bool, true, List, [], ◌∷◌, length, drop, All, length-append, sym, subst, ap₂, arith}
use Rattle.std.proofs.lemmas.List.Elements.{All-tail}
use Rattle.std.proofs.lemmas.List.Sums.{sum_by-append}
use Rattle.std.proofs.Math.Seq.{drop-append_seam}
use Rattle.report_frame.specs.declared.limits.TheConstants.{FIXED_BYTES}
use Rattle.report_frame.specs.declared.version.Version.{Version}
use Rattle.report_frame.specs.Versions.{version_of}
use Rattle.report_frame.specs.Frame.{Fields, IsFrame}
use Rattle.nest_client.specs.Place.{layers_bytes, report_bytes}
use Rattle.nest_client.specs.Report.{client_of, report_with}
use Rattle.star_client_c.specs.Cells.{cells_of, IsValue, IsRow}
use Rattle.star_client_c.specs.Request.{Request, IsReport, report_length}

-- if bytes are the cells of some values, what follows the first value is the cells of the others
pub found_behind : (values : List (List ℕ)) (w n : ℕ) (bytes back : List ℕ) (r : Bool) → 1 ≤ w → length values ≡ w
    → All IsValue values → cells_of values ≡ n ∷ bytes → back ≡ drop n bytes
    → ((others : List (List ℕ)) → length others ≡ w - 1 → All IsValue others → cells_of others ≡ back → r ≡ true)
    → r ≡ true
found_behind [] w n bytes back r some long good same is_back found = absurd (omega arith)
found_behind (v ∷ vs) w n bytes back r some long good same is_back found =
    found vs (omega arith) (All-tail IsValue v vs good) (grind (arith, drop-append_seam v (cells_of vs)))

-- the layers of values take 137 bytes each, and as many as there are cells
pub layers-cells : (values : List (List ℕ)) → layers_bytes values ≡ FIXED_BYTES * length values + length (cells_of values)
layers-cells [] = omega arith
layers-cells (v ∷ vs) =
    let size : List ℕ → ℕ = λ w. FIXED_BYTES + 1 + length w in
    let whole : layers_bytes (v ∷ vs) ≡ layers_bytes (v ∷ []) + layers_bytes vs = sum_by-append size (v ∷ []) vs in
    let one : layers_bytes (v ∷ []) ≡ 138 + length v = omega arith in
    let cells : length (cells_of (v ∷ vs)) ≡ 1 + length v + length (cells_of vs) = omega (arith, length-append v (cells_of vs)) in
    omega (arith, layers-cells vs, whole, one, cells)

-- so a report is as long as its request says
pub length_is : (r : Request) (row : List (List ℕ)) (extra : List ℕ) (n : ℕ) → IsRow row r.cells (length r.thresholds) → extra ≡ r.extra → n ≡ report_bytes row extra
    → n ≡ report_length r
length_is r row extra n is_row extra_is n_is =
    let cells = ap (λ (l : List ℕ). length l) is_row.spelled in
    let more = ap (λ (l : List ℕ). length l) extra_is in
    omega (arith, n_is, layers-cells row, cells, is_row.width, more)

-- a report by its parts
pub made : (r : Request) (epoch client : ℕ) (seed : List ℕ) (version : Version) (s extra : List ℕ) (row values : List (List ℕ)) (bytes told : List ℕ)
    → IsRow row r.cells (length r.thresholds) → version ≡ version_of r.version → s ≡ seed → extra ≡ r.extra → values ≡ row → told ≡ bytes
    → IsFrame (report_with (client_of version epoch s client) extra values r.thresholds) bytes → IsReport r epoch seed client told
made r epoch client seed version s extra row values bytes told is_row version_is seed_is extra_is values_are told_is of_report =
    let same =
    ap₂ (λ (v : Version) (l : List ℕ). report_with (client_of v epoch l client) extra values r.thresholds) version_is seed_is
    ∙ ap₂ (λ (e : List ℕ) (vs : List (List ℕ)). report_with (client_of (version_of r.version) epoch seed client) e vs r.thresholds) extra_is values_are in
    record {
      row = row;
      is_row = is_row;
      frame =
          subst (λ (f : Fields). IsFrame f told) same
          (subst (IsFrame (report_with (client_of version epoch s client) extra values r.thresholds)) (sym told_is) of_report);
    }
