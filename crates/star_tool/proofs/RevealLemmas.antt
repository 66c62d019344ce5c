-- The commands `reveal` and `gen`.
use Rattle.std.proofs.Common.{◌≡◌, ◌∙◌, ◌<◌, ◌≤◌, ℕ, List, [], length, refl, sym, ap, subst, arith}
use Rattle.std.proofs.lemmas.List.{length-map}
use Rattle.std.proofs.lemmas.List.FromFn.{length-map-range_with_len}
use Rattle.star_io.specs.declared.record.TheConstants.{MAX_RECORDS}
use Rattle.star_io.specs.declared.record.Record.{Record}
use Rattle.star_io.specs.declared.record.Record.TheVariants.{Whole}
use Rattle.star_io.specs.declared.input_error.InputError.{InputError}
use Rattle.star_io.specs.declared.input_error.InputError.TheVariants as input_error
use Rattle.star_io.specs.Faults.{Rose}
use Rattle.star_io.specs.Records.{AreRecords}
use Rattle.star_io.specs.RecordLists.{stream_records, rest_after}
use Rattle.star_io.proofs.RecordListLaws.{only_records, rest_none}
use Rattle.star_io.proofs.Streams.{HasAll}
use Rattle.nest_client.specs.Generator.{drawn_frame, drawn_frames, drawn_records}
use Rattle.layer_walk.specs.Reveal.{reveal_of}
use Rattle.layer_walk.specs.Seen.{WalkView}
use Rattle.layer_walk.specs.Standing.{StandsFor}
use Rattle.layer_walk.specs.declared.revealed.Revealed.{Revealed}
use Rattle.reveal_report.specs.RevealText.{text_of, summary_of}
use Rattle.command_words.specs.declared.command.Command.TheVariants.{Reveal, Gen}
use Rattle.star_tool.specs.declared.verbs.generate.TheConstants.{TRIAL_EPOCH}
use Rattle.star_tool.specs.Run.{IsOutput, Reason}
use Rattle.star_tool.specs.Seen.{Seen, unseen}
use Rattle.star_tool.specs.Status.{input_status}
use Rattle.star_tool.proofs.StreamLemmas.{stream_good}

-- what a walk of this epoch told is the reveal of the records that it stands for
abbrev pub IsRevealOf : WalkView → Revealed → Type 0
IsRevealOf walk told = (records : List Record) → StandsFor walk records → told ≡ reveal_of walk.epoch records

pub told_is : (walk : WalkView) (told : Revealed) (epoch : ℕ) (records : List Record) → walk.epoch ≡ epoch → IsRevealOf walk told → StandsFor walk records → told ≡ reveal_of epoch records
told_is walk told epoch records is tells stands = tells records stands ∙ ap (λ (e : ℕ). reveal_of e records) is

-- ---- `reveal`

-- the text of what all records tell is the output
pub reveal_made : (epoch workers : ℕ) (input coins : Seen) (walk : WalkView) (told : Revealed) (text : List ℕ)
    → HasAll MAX_RECORDS (λ records. (walk.epoch ≡ epoch) × StandsFor walk records) input.left input.left_after → IsRevealOf walk told
    → text ≡ text_of told → IsOutput (Reveal epoch workers) input coins text
reveal_made epoch workers input coins walk told text all tells made = λ bytes here.
    let read = all bytes here in (
      stream_good bytes read.1,
      read.2,
      ([], tt, made ∙ ap text_of (told_is walk told epoch (stream_records bytes) read.0.0 tells read.0.1)),
    )

-- ---- `gen`

-- there are as many records as reports
drawn-length : (number reports liars : ℕ) → length (drawn_records number reports liars) ≡ reports
drawn-length number reports liars =
    length-map (drawn_frames number reports liars) (λ (body : List ℕ). Whole body) ∙ length-map-range_with_len (drawn_frame number liars) 0 reports

-- nothing follows them
pub trial_good : (number reports liars : ℕ) (bytes : List ℕ) → AreRecords (drawn_records number reports liars) bytes → reports ≤ MAX_RECORDS → rest_after MAX_RECORDS bytes ≡ []
trial_good number reports liars bytes are few =
    rest_none MAX_RECORDS (drawn_records number reports liars) bytes are (omega (arith, drawn-length number reports liars))

pub none_behind : (bytes : List ℕ) → rest_after MAX_RECORDS bytes ≡ [] → 0 < length (rest_after MAX_RECORDS bytes) → ⊥
none_behind bytes none many = absurd (omega (arith, many, ap length none))

-- a source whose count of faults is always 0 never fails
pub no_rise : Rose 0 0 → ⊥
no_rise rose = absurd (omega (arith, rose))

-- the summary of what they tell is the output
pub gen_made : (number reports liars workers : ℕ) (bytes : List ℕ) (walk : WalkView) (told : Revealed) (text : List ℕ) → AreRecords (drawn_records number reports liars) bytes → walk.epoch ≡ TRIAL_EPOCH
    → StandsFor walk (stream_records bytes) → IsRevealOf walk told → text ≡ summary_of told → IsOutput (Gen number reports liars workers) unseen unseen text
gen_made number reports liars workers bytes walk told text are is stands tells made = λ none here.
    let drawn = drawn_records number reports liars in
    let stands_for = subst (StandsFor walk) (sym (only_records drawn bytes are)) stands in
    (refl, tt, ([], tt, made ∙ ap summary_of (told_is walk told TRIAL_EPOCH drawn is tells stands_for)))

-- a stream in memory is read to its end, unless memory runs out
pub gen_reason : (number reports liars workers : ℕ) (error : InputError) → (error ≡ input_error.Read → ⊥) → (error ≡ input_error.TooMany → ⊥)
    → Reason (Gen number reports liars workers) unseen unseen (input_status error)
gen_reason number reports liars workers input_error.Read read many = absurd (read refl)
gen_reason number reports liars workers input_error.TooMany read many = absurd (many refl)
gen_reason number reports liars workers input_error.NoMemory read many = tt
