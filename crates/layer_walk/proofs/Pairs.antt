-- Two lists that agree pair by pair.
use Rattle.std.proofs.Common.{◌≡◌, ℕ, zero, suc, ◌<◌, List, [], ◌∷◌, length, get_or, refl, sym, ◌∙◌, arith, Some}
use Rattle.std.specs.List.{AllZip, slice_get}
use Rattle.std.proofs.lemmas.Option.{slice_get-get_or}
use Rattle.report_frame.specs.declared.version.Version.TheVariants.{One}
use Rattle.tag_groups.specs.GroupView.{GroupView}

-- lists that agree pair by pair are of one length
pub zip_lengths : {A B : Type 0} (R : A → B → Type 0) (xs : List A) (ys : List B) → AllZip R xs ys → length ys ≡ length xs
zip_lengths R [] [] zip = refl
zip_lengths R [] (y ∷ ys) zip = absurd zip
zip_lengths R (x ∷ xs) [] zip = absurd zip
zip_lengths R (x ∷ xs) (y ∷ ys) zip = omega (arith, zip_lengths R xs ys zip.1)

-- and they agree at each place
pub zip_at : {A B : Type 0} (R : A → B → Type 0) (xs : List A) (ys : List B) (i : ℕ) (d : A) (e : B) → AllZip R xs ys → i < length xs
    → R (get_or xs i d) (get_or ys i e)
zip_at R [] ys i d e zip lt = absurd (omega arith)
zip_at R (x ∷ xs) [] i d e zip lt = absurd zip
zip_at R (x ∷ xs) (y ∷ ys) zero d e zip lt = zip.0
zip_at R (x ∷ xs) (y ∷ ys) (suc i) d e zip lt = zip_at R xs ys i d e zip.1 (omega arith)

-- the group that get gives stands at its place
pub group_at : (groups : List GroupView) (i : ℕ) (g : GroupView) → i < length groups → slice_get groups i ≡ Some g → g ≡ get_or groups i g
group_at groups i g inside is = let same : Some g ≡ Some (get_or groups i g) = sym is ∙ slice_get-get_or groups i g inside in cc

-- some group, for a place where it doesn't matter which
pub some_group : GroupView
some_group = record { parent = 0; head = record { version = One; k = 0; tag = []; check = []; boxed = [] }; members = [] }
