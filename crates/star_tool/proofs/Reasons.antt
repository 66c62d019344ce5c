-- Why a run ends as it does, whatever its command is.
use Rattle.std.proofs.Common.{◌≡◌, ◌∙◌, Bool, true, false, Result, Ok, Err, refl, sym, subst, inl}
use Rattle.std.specs.Prelude.{IfErr, IsErrAnd}
use Rattle.star_io.specs.Faults.{Rose}
use Rattle.command_words.specs.declared.command.Command.{Command}
use Rattle.star_tool.specs.declared.status.Status.{Status}
use Rattle.command_words.specs.declared.command.Command.TheVariants.{Audit}
use Rattle.star_tool.specs.declared.status.Status.TheVariants.{Done, Usage, ReadFault, WriteFault, TooMany, NoMemory, BadTable, ShortCoins, BadVector, BadBook, BookEpoch, BadCert}
use Rattle.star_io.specs.declared.input_error.InputError.{InputError}
use Rattle.star_io.specs.declared.input_error.InputError.TheVariants as input_error
use Rattle.star_tool.specs.Commands.{reads}
use Rattle.star_tool.specs.Seen.{Seen, unseen}
use Rattle.star_tool.specs.Run.{TrueAnd, IsRefused, Reason, MayFollowCoins, ending}
use Rattle.star_tool.specs.Status.{input_status}

-- ---- words

pub true_and : (b : Bool) (P : Type 0) → b ≡ true → P → TrueAnd b P
true_and true P is p = p
true_and false P is p = is

-- what holds of a status holds of the error that is it
pub of_error : {T : Type 0} (P : Status → Type 0) (result : Result T Status) (status : Status) → IsErrAnd result (λ error. error ≡ status) → P status → IfErr result P
of_error P (Ok x) status is holds = tt
of_error P (Err error) status is holds = subst P (sym is) holds

-- an error that is handed on is that error
pub same_error : {T E : Type 0} (result : Result T E) (error other : E) → IsErrAnd result (λ e. e ≡ error) → result ≡ Err other → error ≡ other
same_error (Ok x) error other is here = absurd is
same_error (Err e) error other is here = let same : e ≡ other = cc here in sym is ∙ same

-- ---- why there is no output

-- an input that isn't read to its end
pub read_reason : (command : Command) (input coins : Seen) (error : InputError) → reads command ≡ true → (error ≡ input_error.Read → Rose input.faults input.faults_after)
    → (error ≡ input_error.TooMany → IsRefused command input TooMany) → Reason command input coins (input_status error)
read_reason command input coins input_error.Read reading read many = inl (true_and (reads command) (Rose input.faults input.faults_after) reading (read refl))
read_reason command input coins input_error.TooMany reading read many = many refl
read_reason command input coins input_error.NoMemory reading read many = tt

-- what may follow coins that were touched, where the output wasn't made
pub may_follow : {T : Type 0} (coins : Seen) (result : Result T Status) (status : Status) → IsErrAnd result (λ error. error ≡ status) → MayFollowCoins coins status
    → MayFollowCoins coins (ending result)
may_follow coins (Ok x) status is may = absurd is
may_follow coins (Err error) status is may = subst (λ (s : Status). MayFollowCoins coins s) (sym is) may

-- why `audit` made no output, which draws no coins, holds whatever they are
pub audit_reason : (input coins : Seen) (status : Status) → Reason Audit input unseen status → Reason Audit input coins status
audit_reason input coins Done reason = reason
audit_reason input coins Usage reason = reason
audit_reason input coins ReadFault reason = reason
audit_reason input coins WriteFault reason = reason
audit_reason input coins TooMany reason = reason
audit_reason input coins NoMemory reason = reason
audit_reason input coins (BadTable row column) reason = reason
audit_reason input coins (ShortCoins have) reason = reason
audit_reason input coins (BadVector number got wanted) reason = reason
audit_reason input coins (BadBook book kind at) reason = reason
audit_reason input coins (BookEpoch book have) reason = reason
audit_reason input coins (BadCert cert kind at) reason = reason
