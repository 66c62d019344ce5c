-- Feeding a taker with one record after the other.
use Rattle.std.proofs.Common.{◌≡◌, ◌+◌, ◌<◌, ◌≤◌, ℕ, List, [], ◌∷◌, ◌++◌, length, drop, Option, Some, None, Result, Ok}
use Rattle.std.proofs.Common.{refl, sym, ap, subst, ◌∙◌, arith, length-append, append_assoc}
use Rattle.std.specs.Prelude.{◌≢◌, ⊤, IfOk}
use Rattle.std.proofs.lemmas.List.{append-nil}
use Rattle.star_io.specs.declared.record.Record.{Record}
use Rattle.star_io.specs.declared.record.Record.TheVariants.{Whole, TooLong, CutLength, CutRecord}
use Rattle.star_io.specs.declared.reader.ReaderState.{ReaderState}
use Rattle.star_io.specs.declared.reader.ReaderState.TheVariants.{Ready, Ended, Broken}
use Rattle.star_io.specs.declared.reader.NextError.{NextError}
use Rattle.star_io.specs.Records.{Begins, BeginAll}
use Rattle.star_io.specs.Reading.{TakesRecord, state_after}
use Rattle.star_io.specs.RecordLists.{stream_records, rest_after}
use Rattle.star_io.proofs.RecordLaws.{begin_more}
use Rattle.star_io.proofs.RecordListLaws.{only_records, rest_is, rest_none}

-- These are so many records at the front of the bytes, with this fact, and this is what follows them: nothing where the reader has ended.
pub record HasTaken (fact : List Record → Type 0) (n : ℕ) (state : ReaderState) (bytes left : List ℕ) : Type 0 where
  pub records : List Record
  pub holds : fact records
  pub many : length records ≡ n
  pub begin : BeginAll records bytes left
  pub ended : state ≡ Ended → left ≡ []

-- the same where the source tells its bytes
abbrev pub HasFed : (List Record → Type 0) → ℕ → ReaderState → (old left : Option (List ℕ)) → Type 0
HasFed fact n state None left = ⊤
HasFed fact n state (Some bytes) None = ⊥
HasFed fact n state (Some bytes) (Some left) = HasTaken fact n state bytes left

-- nothing was taken yet
pub none_fed : (fact : List Record → Type 0) → fact [] → (left : Option (List ℕ)) → HasFed fact 0 Ready left left
none_fed fact first None = tt
none_fed fact first (Some bytes) = record { records = []; holds = first; many = refl; begin = refl; ended = λ no. absurd cc }

-- ---- one more record

-- behind a record after which the reader has ended, nothing follows
nothing_follows : (r : Record) (bytes rest : List ℕ) → Begins r bytes rest → state_after (Some r) ≡ Ended → rest ≡ []
nothing_follows (Whole b) bytes rest h e = absurd cc
nothing_follows (TooLong said) bytes rest h e = absurd cc
nothing_follows (CutLength have) bytes rest h e = h.3
nothing_follows (CutRecord said have) bytes rest h e = h.3

-- what takes a record has the fact of that record put last
abbrev pub Takes : (old new : List Record → Type 0) → Record → Type 0
Takes old new r = (records : List Record) → old records → new (records ++ r ∷ [])

-- one more record was taken from the front
one_more : (fact next : List Record → Type 0) (n : ℕ) (r : Record) (old middle new : Option (List ℕ)) (state : ReaderState)
    → HasFed fact n state old middle → TakesRecord middle new (Some r) → Takes fact next r
    → HasFed next (n + 1) (state_after (Some r)) old new
one_more fact next n r None middle new state h t takes = tt
one_more fact next n r (Some bytes) None new state h t takes = absurd h
one_more fact next n r (Some bytes) (Some middle) None state h t takes = absurd t
one_more fact next n r (Some bytes) (Some middle) (Some rest) state h t takes = record {
  records = h.records ++ r ∷ [];
  holds = takes h.records h.holds;
  many = omega (arith, h.many, length-append h.records (r ∷ []));
  begin = begin_more h.records r bytes middle rest h.begin t;
  ended = nothing_follows r middle rest t;
}

-- no record leaves the reader broken
after_is_sound : (r : Record) → state_after (Some r) ≡ Broken → ⊥
after_is_sound (Whole b) e = cc
after_is_sound (TooLong said) e = cc
after_is_sound (CutLength have) e = cc
after_is_sound (CutRecord said have) e = cc

abbrev answer : Option Record → Result (Option Record) NextError
answer found = Ok found

none_some : {r : Record} → answer None ≡ answer (Some r) → ⊥
none_some e = cc

-- a turn that found a record, which was taken
pub turn : (fact next : List Record → Type 0) (n : ℕ) (state after : ReaderState) (result : Result (Option Record) NextError) (r : Record)
    (old middle new : Option (List ℕ)) → state ≢ Broken → (state ≡ Ended → result ≡ Ok None)
    → (state ≡ Ready → IfOk result (TakesRecord middle new)) → (state ≡ Ready → IfOk result (λ found. after ≡ state_after found))
    → result ≡ Ok (Some r) → Takes fact next r → HasFed fact n state old middle → HasFed next (n + 1) after old new × (after ≢ Broken)
turn fact next n Ready after result r old middle new sound at_end taken state_is e takes h =
    let took : TakesRecord middle new (Some r) =
    subst (λ (x : Result (Option Record) NextError). IfOk x (TakesRecord middle new)) e (taken refl) in
    let is : after ≡ state_after (Some r) =
    subst (λ (x : Result (Option Record) NextError). IfOk x (λ found. after ≡ state_after found)) e (state_is refl) in (
      subst (λ (s : ReaderState). HasFed next (n + 1) s old new) (sym is) (one_more fact next n r old middle new Ready h took takes),
      λ broken. after_is_sound r (sym is ∙ broken),
    )
turn fact next n Ended after result r old middle new sound at_end taken state_is e takes h = absurd (none_some (sym (at_end refl) ∙ e))
turn fact next n Broken after result r old middle new sound at_end taken state_is e takes h = absurd (sound refl)

-- ---- the end

-- where the source told bytes, the fact is that of the records of all of them, which are no more than so many, and nothing is left
abbrev pub HasAll : ℕ → (List Record → Type 0) → (old new : Option (List ℕ)) → Type 0
HasAll most fact old new =
    (bytes : List ℕ) → old ≡ Some bytes → fact (stream_records bytes) × (rest_after most bytes ≡ []) × (new ≡ Some [])

-- the records of all that was told, which are not too many
whole_told : (fact : List Record → Type 0) (most n : ℕ) (state : ReaderState) (bytes told left : List ℕ) → n ≤ most
    → HasTaken fact n state bytes left → left ≡ [] → Some bytes ≡ Some told
    → fact (stream_records told) × (rest_after most told ≡ []) × (Some left ≡ Some [])
whole_told fact most n state bytes told left few h none is =
    let same : bytes ≡ told = cc in
    let are : BeginAll h.records told [] =
    subst (λ (l : List ℕ). BeginAll h.records l []) same (subst (λ (l : List ℕ). BeginAll h.records bytes l) none h.begin) in (
      subst fact (only_records h.records told are) h.holds,
      rest_none most h.records told are (omega (arith, few, h.many)),
      ap (λ (l : List ℕ). Some l) none,
    )

-- where none is left, these are all
pub all_fed : (fact : List Record → Type 0) (most n : ℕ) (state : ReaderState) (old middle new : Option (List ℕ)) → n ≤ most
    → HasFed fact n state old middle → TakesRecord middle new None → HasAll most fact old new
all_fed fact most n state None middle new few h t bytes is = absurd cc
all_fed fact most n state (Some from) None new few h t bytes is = absurd h
all_fed fact most n state (Some from) (Some middle) None few h t bytes is = absurd t
all_fed fact most n state (Some from) (Some middle) (Some rest) few h t bytes is =
    let told = whole_told fact most n state from bytes middle few h t.0 is in
    (told.0, told.1, ap (λ (l : List ℕ). Some l) t.1)

-- where the reader has ended, these are all
pub all_at_end : (fact : List Record → Type 0) (most n : ℕ) (state : ReaderState) (old left : Option (List ℕ)) → n ≤ most
    → state ≡ Ended → HasFed fact n state old left → HasAll most fact old left
all_at_end fact most n state None left few e h bytes is = absurd cc
all_at_end fact most n state (Some from) None few e h bytes is = absurd h
all_at_end fact most n state (Some from) (Some left) few e h bytes is = whole_told fact most n state from bytes left few h (h.ended e) is

-- a turn that found none
pub last_turn : (fact : List Record → Type 0) (most n : ℕ) (state : ReaderState) (result : Result (Option Record) NextError)
    (old middle new : Option (List ℕ)) → n ≤ most → state ≢ Broken → (state ≡ Ended → new ≡ middle)
    → (state ≡ Ready → IfOk result (TakesRecord middle new)) → result ≡ Ok None → HasFed fact n state old middle → HasAll most fact old new
last_turn fact most n Ready result old middle new few sound same taken e h =
    all_fed fact most n Ready old middle new few h
    (subst (λ (x : Result (Option Record) NextError). IfOk x (TakesRecord middle new)) e (taken refl))
last_turn fact most n Ended result old middle new few sound same taken e h =
    subst (λ (left : Option (List ℕ)). HasAll most fact old left) (sym (same refl)) (all_at_end fact most n Ended old middle few refl h)
last_turn fact most n Broken result old middle new few sound same taken e h = absurd (sound refl)

-- as many records were taken as may be, and one byte behind them
pub too_many : (fact : List Record → Type 0) (most : ℕ) (state : ReaderState) (old left new : Option (List ℕ))
    → HasFed fact most state old left
    → ((bytes : List ℕ) → left ≡ Some bytes → (0 < length bytes) × (new ≡ Some (drop 1 bytes))) → (bytes : List ℕ) → old ≡ Some bytes
    → (0 < length (rest_after most bytes)) × (new ≡ Some (drop 1 (rest_after most bytes)))
too_many fact most state None left new h more bytes is = absurd cc
too_many fact most state (Some from) None new h more bytes is = absurd h
too_many fact most state (Some from) (Some left) new h more bytes is =
    let same : from ≡ bytes = cc in
    let rest : rest_after most bytes ≡ left =
    ap (λ (n : ℕ). rest_after n bytes) (sym h.many)
    ∙ rest_is h.records bytes left (subst (λ (l : List ℕ). BeginAll h.records l left) same h.begin) in
    let one = more left refl in
    (omega (arith, one.0, ap length rest), one.1 ∙ ap (λ (l : List ℕ). Some (drop 1 l)) (sym rest))

-- ---- what was taken before

-- what took lists took these records behind each of them
abbrev pub TakesAll : (old new : ℕ → List Record → Type 0) → List Record → Type 0
TakesAll old new records = (epoch : ℕ) (before : List Record) → old epoch before → new epoch (before ++ records)

-- no record
pub takes_none : (stands : ℕ → List Record → Type 0) → TakesAll stands stands []
takes_none stands epoch before stood = rw (append-nil before) stood

-- one record more
pub takes_more : (old middle new : ℕ → List Record → Type 0) (r : Record)
    → ((epoch : ℕ) (records : List Record) → middle epoch records → new epoch (records ++ r ∷ []))
    → Takes (TakesAll old middle) (TakesAll old new) r
takes_more old middle new r one records all epoch before stood =
    subst (new epoch) (append_assoc before records (r ∷ [])) (one epoch (before ++ records) (all epoch before stood))
