-- A book reveals what its records do.
use Rattle.std.proofs.Common.{◌≡◌, ℕ, zero, suc, true, false, cond, not, ◌||◌, ◌&&◌, List, [], ◌∷◌, ◌++◌, Option, Some, None, Result, Ok, Err, inl, inr, refl, sym, ap, ◌∙◌, map, filter, length, replicate}
use Rattle.std.specs.Prelude.{is_some, ◌==◌}
use Rattle.std.specs.List.{AllByRecursion, filter_map, flat_map, cons_option, list_any}
use Rattle.std.specs.List.Sorted.{IsStrictlySortedBy}
use Rattle.std.specs.Cmp.Lexicographic.{bytes_decides}
use Rattle.std.specs.Ordering.{is_eq}
use Rattle.std.specs.Str.{bytes_eq}
use Rattle.std.specs.declared.cmp.Ordering.TheVariants.{Less, Equal}
use Rattle.std.proofs.lemmas.Cmp.{nat_list_cmp_total}
use Rattle.std.proofs.lemmas.Map.Text.{is_eq-slice_cmp}
use Rattle.std.proofs.lemmas.List.{map-append}
use Rattle.std.proofs.lemmas.Bool.{or_right}
use Rattle.star_io.specs.declared.record.Record.{Record}
use Rattle.star_io.specs.declared.record.Record.TheVariants.{Whole, TooLong, CutLength, CutRecord}
use Rattle.report_frame.specs.Frame.{Fields}
use Rattle.report_frame.specs.Reading.{decoded}
use Rattle.report_frame.specs.declared.fault.Fault.{Fault}
use Rattle.star_lists.specs.Ascending.{ascending}
use Rattle.star_lists.proofs.FirstOnes.{Apart}
use Rattle.star_lists.proofs.Ascending.{rising_ascending, Tied, tied_ascending}
use Rattle.star_lists.specs.Elements.{EquallyOften}
use Rattle.star_lists.proofs.Counted.{often_filter_map}
use Rattle.star_lists.proofs.Gathered.{gathered, gathered_often}
use Rattle.layer_walk.specs.Reveal.{first_frame, reveal_of}
use Rattle.layer_walk.specs.Members.{frame_for}
use Rattle.layer_walk.specs.declared.refusal.Why.TheVariants.{WrongEpoch, WrongLevel}
use Rattle.layer_walk.specs.Laws.{frame_in, first_frames, TellAlike}
use Rattle.layer_walk.proofs.AlikeReveal.{tell_alike}
use Rattle.book_file.specs.Book.{by_bytes, is_outer}
use Rattle.book_file.specs.BookOf.{is_taken, body_of, bodies_of, times, entry_of, book_of}
use Rattle.book_merge.specs.Records.{entry_records, records_of}

-- ---- the frames of a book

-- bytes that are equal to the same are equal
bytes_joined : (x y z : List ℕ) → bytes_eq x z ≡ true → bytes_eq y z ≡ true → bytes_eq x y ≡ true
bytes_joined x y z h k = (bytes_decides x y).1 ((bytes_decides x z).0 h ∙ sym ((bytes_decides y z).0 k))

-- bytes that come before others are none of them
before_apart : (x y : List ℕ) → by_bytes x y ≡ Less → bytes_eq x y ≡ false
before_apart x y less = sym (is_eq-slice_cmp x y) ∙ ap is_eq less

-- bytes that tie are equal
tied_equal : (x y : List ℕ) → by_bytes x y ≡ Equal → bytes_eq y x ≡ true
tied_equal x y tie =
    let same : bytes_eq x y ≡ true = sym (is_eq-slice_cmp x y) ∙ ap is_eq tie in
    (bytes_decides y x).1 (sym ((bytes_decides x y).0 same))

none_before : (x : List ℕ) (ys : List (List ℕ)) → AllByRecursion (λ y. by_bytes x y ≡ Less) ys → list_any (bytes_eq x) ys ≡ false
none_before x [] h = refl
none_before x (y ∷ ys) h = λ i. before_apart x y h.0 i || none_before x ys h.1 i

rising_apart : (xs : List (List ℕ)) → IsStrictlySortedBy by_bytes xs → Apart bytes_eq xs
unfolding IsStrictlySortedBy
rising_apart [] h = tt
rising_apart (x ∷ xs) h = (none_before x xs h.0, rising_apart xs h.1)

tied_any : (z : List ℕ) (ys : List (List ℕ)) → Tied by_bytes nat_list_cmp_total z ys → list_any (λ y. bytes_eq y z) ys ≡ true
tied_any z [] i = absurd i
tied_any z (y ∷ ys) (inl tie) = ap (λ b. b || list_any (λ y. bytes_eq y z) ys) (tied_equal z y tie)
tied_any z (y ∷ ys) (inr i) = or_right (bytes_eq y z) (list_any (λ y. bytes_eq y z) ys) (tied_any z ys i)

-- the bodies that a book gives stand in it as often as they came
given_often : (bodies : List (List ℕ)) → EquallyOften (gathered bytes_eq bytes_joined (ascending by_bytes bodies) bodies) bodies
given_often bodies p =
    gathered_often bytes_eq bytes_joined (ascending by_bytes bodies) (rising_apart (ascending by_bytes bodies) (rising_ascending by_bytes nat_list_cmp_total bodies)) bodies
    (λ z i. tied_any z (ascending by_bytes bodies) (tied_ascending by_bytes nat_list_cmp_total z bodies i)) p

-- ---- the records of a book

all_same : (b : List ℕ) (xs : List (List ℕ)) → replicate (times xs b) b ≡ filter (bytes_eq b) xs
all_same b [] = refl
all_same b (x ∷ xs) =
    elim (bytes_eq b x) as (λ t. bytes_eq b x ≡ t → replicate (length (cond t (x ∷ filter (bytes_eq b) xs) (filter (bytes_eq b) xs))) b ≡ cond t (x ∷ filter (bytes_eq b) xs) (filter (bytes_eq b) xs)) [
      | true ↦ λ e. (λ i. (bytes_decides b x).0 e i ∷ all_same b xs i)
      | false ↦ λ e. all_same b xs
    ] refl

map-replicate : (n : ℕ) (b : List ℕ) → replicate n (Whole b) ≡ map (λ (b : List ℕ). Whole b) (replicate n b)
map-replicate zero b = refl
map-replicate (suc n) b = ap (λ l. Whole b ∷ l) (map-replicate n b)

records_given : (bodies frames : List (List ℕ)) → flat_map entry_records (map (entry_of bodies) frames) ≡ map (λ (b : List ℕ). Whole b) (gathered bytes_eq bytes_joined frames bodies)
records_given bodies [] = refl
records_given bodies (f ∷ frames) =
    (λ i. (map-replicate (times bodies f) f ∙ ap (map (λ (b : List ℕ). Whole b)) (all_same f bodies)) i ++ records_given bodies frames i)
    ∙ sym (map-append (λ (b : List ℕ). Whole b) (filter (bytes_eq f) bodies) (gathered bytes_eq bytes_joined frames bodies))

book_records : (e : ℕ) (records : List Record) → records_of (book_of e records)
    ≡ map (λ (b : List ℕ). Whole b) (gathered bytes_eq bytes_joined (ascending by_bytes (bodies_of e records)) (bodies_of e records))
unfolding records_of book_of
book_records e records = records_given (bodies_of e records) (ascending by_bytes (bodies_of e records))

-- ---- their frames

abbrev frame_of_body : ℕ → List ℕ → Option Fields
frame_of_body e b = frame_in (first_frame e (Whole b))

frames_of_bodies : (e : ℕ) (bodies : List (List ℕ)) → first_frames e (map (λ (b : List ℕ). Whole b) bodies) ≡ filter_map (frame_of_body e) bodies
frames_of_bodies e [] = refl
frames_of_bodies e (b ∷ bodies) = ap (cons_option (frame_of_body e b)) (frames_of_bodies e bodies)

-- what a book takes is what has a frame at level 0
taken_has : (e : ℕ) (o : Result Fields Fault) → is_outer e o ≡ is_some (frame_in (frame_for e 0 o))
taken_has e (Err fault) = refl
taken_has e (Ok r) =
    elim (r.epoch == e) as (λ b. (b && (r.level == 0)) ≡ is_some (frame_in (cond (not b) (Err WrongEpoch) (cond (not (r.level == 0)) (Err WrongLevel) (Ok r))))) [
      | false ↦ refl
      | true ↦ elim (r.level == 0) as (λ b. b ≡ is_some (frame_in (cond (not b) (Err WrongLevel) (Ok r)))) [ true ↦ refl | false ↦ refl ]
    ]

frames_by_body : (e : ℕ) (records : List Record) → first_frames e records ≡ filter_map (frame_of_body e) (bodies_of e records)
unfolding bodies_of
frames_by_body e [] = refl
frames_by_body e (Whole body ∷ records) =
    let rest = frames_by_body e records in
    let kept = filter (is_taken e) records in
    let by_frame : cons_option (frame_of_body e body) (first_frames e records) ≡ filter_map (frame_of_body e) (map body_of (cond (is_some (frame_of_body e body)) (Whole body ∷ kept) kept)) =
    elim (frame_of_body e body) as (λ o. frame_of_body e body ≡ o → cons_option o (first_frames e records) ≡ filter_map (frame_of_body e) (map body_of (cond (is_some o) (Whole body ∷ kept) kept))) [
      | Some frame ↦ λ is. ap (λ l. frame ∷ l) rest ∙ ap (λ o. cons_option o (filter_map (frame_of_body e) (map body_of kept))) (sym is)
      | None ↦ λ is. rest
    ] refl in
    by_frame ∙ ap (λ b. filter_map (frame_of_body e) (map body_of (cond b (Whole body ∷ kept) kept))) (sym (taken_has e (decoded body)))
frames_by_body e (TooLong said ∷ records) = frames_by_body e records
frames_by_body e (CutLength have ∷ records) = frames_by_body e records
frames_by_body e (CutRecord said have ∷ records) = frames_by_body e records

-- a book reveals the groups, levels and rows that its records do
pub book_reveals : (e : ℕ) (records : List Record) → TellAlike (reveal_of e (records_of (book_of e records))) (reveal_of e records)
book_reveals e records =
    let bodies = bodies_of e records in
    let given = gathered bytes_eq bytes_joined (ascending by_bytes bodies) bodies in
    tell_alike e (records_of (book_of e records)) records (λ p.
    ap (λ rs. length (filter p (first_frames e rs))) (book_records e records)
    ∙ ap (λ l. length (filter p l)) (frames_of_bodies e given)
    ∙ often_filter_map (frame_of_body e) given bodies (given_often bodies) p
    ∙ ap (λ l. length (filter p l)) (sym (frames_by_body e records)))
