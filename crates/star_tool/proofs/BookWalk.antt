-- A walk that is fed with the records of a book, entry after entry.
use Rattle.std.proofs.Common.{◌≡◌, ◌∙◌, ℕ, ◌+◌, ◌≤◌, List, [], ◌∷◌, ◌++◌, sum, replicate, sym, ap, subst, append_assoc, arith}
use Rattle.std.specs.List.{flat_map}
use Rattle.std.specs.Map.{values_of}
use Rattle.std.proofs.lemmas.List.{append-nil, replicate_more}
use Rattle.std.proofs.lemmas.List.Sums.{sum_by-cons}
use Rattle.star_io.specs.declared.record.Record.{Record}
use Rattle.star_io.specs.declared.record.Record.TheVariants.{Whole}
use Rattle.star_io.specs.declared.record.TheConstants.{MAX_RECORDS}
use Rattle.layer_walk.specs.Seen.{WalkView}
use Rattle.layer_walk.specs.Standing.{StandsFor}
use Rattle.book_file.specs.Book.{Entry, Book, total_of}
use Rattle.book_merge.specs.Records.{entry_records}

-- a walk that takes a frame once more, behind so many times
pub once_more : (walk : WalkView) (records : List Record) (frame : List ℕ) (n : ℕ) → StandsFor walk ((records ++ replicate n (Whole frame)) ++ Whole frame ∷ []) → StandsFor walk (records ++ replicate (n + 1) (Whole frame))
once_more walk records frame n stands =
    subst (StandsFor walk) (append_assoc records (replicate n (Whole frame)) (Whole frame ∷ []) ∙ ap (λ (l : List Record). records ++ l) (replicate_more n (Whole frame))) stands

-- and no time yet
pub not_yet : (walk : WalkView) (records : List Record) → StandsFor walk records → StandsFor walk (records ++ [])
not_yet walk records stands = subst (StandsFor walk) (sym (append-nil records)) stands

-- The walk stands for the records of some entries, and these are left of all.
pub record HasWalked (walk : WalkView) (left all : List Entry) : Type 0 where
  pub records : List Record
  pub stands : StandsFor walk records
  pub others : records ++ flat_map entry_records left ≡ flat_map entry_records all
  pub few : walk.taken + sum (values_of left) ≤ MAX_RECORDS

-- nothing was taken yet
pub walked_none : (walk : WalkView) (book : Book) (left : List Entry) → left ≡ book.entries → walk.taken ≡ 0 → StandsFor walk [] → total_of book ≤ MAX_RECORDS → HasWalked walk left book.entries
walked_none walk book left is none stands few = record {
  records = [];
  stands = stands;
  others = ap (flat_map entry_records) is;
  few = omega (arith, none, few, ap (λ (l : List Entry). sum (values_of l)) is);
}

-- an entry counts with those behind it
counted : (left rest : List Entry) (entry : Entry) → left ≡ entry ∷ rest → sum (values_of left) ≡ entry.1 + sum (values_of rest)
counted left rest entry is = ap (λ (l : List Entry). sum (values_of l)) is ∙ sum_by-cons (λ n. n) entry.1 (values_of rest)

-- there is room for the next entry
pub has_room : (walk : WalkView) (left rest all : List Entry) (entry : Entry) → left ≡ entry ∷ rest → HasWalked walk left all → walk.taken + entry.1 ≤ MAX_RECORDS
has_room walk left rest all entry is walked = omega (arith, walked.few, counted left rest entry is)

-- the walk took one entry more
pub walked_more : (walk next : WalkView) (left rest all : List Entry) (entry : Entry) → left ≡ entry ∷ rest → next.taken ≡ walk.taken + entry.1
    → ((records : List Record) → StandsFor walk records → StandsFor next (records ++ entry_records entry)) → HasWalked walk left all → HasWalked next rest all
walked_more walk next left rest all entry is taken takes walked = record {
  records = walked.records ++ entry_records entry;
  stands = takes walked.records walked.stands;
  others = append_assoc walked.records (entry_records entry) (flat_map entry_records rest) ∙ ap (λ (l : List Entry). walked.records ++ flat_map entry_records l) (sym is) ∙ walked.others;
  few = omega (arith, walked.few, taken, counted left rest entry is);
}

-- the walk took all
pub walked_all : (walk : WalkView) (left all : List Entry) → left ≡ [] → HasWalked walk left all → StandsFor walk (flat_map entry_records all)
walked_all walk left all none walked =
    subst (StandsFor walk) (sym (append-nil walked.records) ∙ ap (λ (l : List Entry). walked.records ++ flat_map entry_records l) (sym none) ∙ walked.others) walked.stands
