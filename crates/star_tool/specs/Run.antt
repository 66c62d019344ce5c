-- What a run does with an input, coins and an output, whatever its command is.
use Rattle.std.specs.Prelude.{◌≡◌, ◌⊎◌, ◌&&◌, ℕ, List, [], length, Bool, true, false, nat_lt, MatchBool, Some, None, Result, Ok, Err, ⊤, Vec, if◌then◌else◌}
use Rattle.std.specs.declared.alloc.Global.{Global}
use Rattle.std.specs.Bool.{OnTrue}
use Rattle.star_io.specs.Faults.{Rose}
use Rattle.command_words.specs.declared.command.Command.{Command}
use Rattle.command_words.specs.declared.seed.TheConstants.{SEED_BYTES}
use Rattle.star_tool.specs.declared.status.Status.{Status}
use Rattle.star_tool.specs.declared.status.Status.TheVariants.{Done, Usage, ReadFault, WriteFault, NoMemory, ShortCoins}
use Rattle.star_tool.specs.Commands.{reads, draws, refusal_of, rest_of, output_of}
use Rattle.star_tool.specs.Coins.{TakesSeed, TakesFewCoins, TakesCoins}
use Rattle.star_tool.specs.Seen.{Seen}

-- b holds, and P
abbrev pub TrueAnd : Bool → Type 0 → Type 0
TrueAnd b P = MatchBool b P (false ≡ true)

-- ---- the input

-- the input tells these bytes, where the command reads it; to a command that reads nothing it tells none
abbrev pub Tells : Command → (input : Seen) → (bytes : List ℕ) → Type 0
Tells command input bytes = MatchBool (reads command) (input.left ≡ Some bytes) (bytes ≡ [])

-- nothing refuses the bytes that the input tells, and all were read
abbrev pub IsRead : Command → (input : Seen) → Type 0
IsRead command input = (bytes : List ℕ) → Tells command input bytes
    → (refusal_of command bytes ≡ None) × OnTrue (reads command) (input.left_after ≡ Some [])

-- this refuses the bytes that the input tells, and no more of them was taken than it needs
abbrev pub IsRefused : Command → (input : Seen) → Status → Type 0
IsRefused command input status = (bytes : List ℕ) → Tells command input bytes
    → (refusal_of command bytes ≡ Some status) × OnTrue (reads command) (input.left_after ≡ Some (rest_of command bytes))

-- ---- the output

-- where the input tells its bytes, nothing refuses them, all were read, and the text is the command's output for them
abbrev pub IsOutput : Command → (input coins : Seen) → (text : List ℕ) → Type 0
IsOutput command input coins text = (bytes : List ℕ) → Tells command input bytes
    → (refusal_of command bytes ≡ None) × OnTrue (reads command) (input.left_after ≡ Some [])
    × ((drawn : List ℕ) × OnTrue (draws command) (TakesSeed coins drawn) × (text ≡ output_of command bytes drawn))

-- the same of a text that is held in memory
abbrev pub Makes : Command → (input coins : Seen) → Vec ℕ Global → Type 0
Makes command input coins text = IsOutput command input coins text.items

-- ---- why there is none

-- a read of the input failed, or one of the coins behind an input that was read and isn't refused
abbrev pub HasReadFault : Command → (input coins : Seen) → Type 0
HasReadFault command input coins =
    TrueAnd (reads command) (Rose input.faults input.faults_after)
    ⊎ TrueAnd (draws command) (IsRead command input × Rose coins.faults coins.faults_after)

-- the coins came to their end after so many bytes, which are too few, behind such an input
abbrev pub EndsShort : Command → (input coins : Seen) → (have : ℕ) → Type 0
EndsShort command input coins have = TrueAnd (draws command) (IsRead command input × TakesFewCoins coins have)

-- why a command ended with no output
abbrev pub Reason : Command → (input coins : Seen) → Status → Type 0
Reason command input coins ReadFault = HasReadFault command input coins
Reason command input coins (ShortCoins have) = EndsShort command input coins have
Reason command input coins NoMemory = ⊤
Reason command input coins Done = ⊥
Reason command input coins Usage = ⊥
Reason command input coins WriteFault = ⊥
Reason command input coins refusal = IsRefused command input refusal

-- the status says why an input is refused, and nothing else
abbrev pub is_refusal : Status → Bool
is_refusal Done = false
is_refusal Usage = false
is_refusal ReadFault = false
is_refusal WriteFault = false
is_refusal NoMemory = false
is_refusal (ShortCoins have) = false
is_refusal status = true

-- ---- the coins

-- how a run ends whose output was made, or wasn't
abbrev pub ending : {T : Type 0} → Result T Status → Status
ending (Ok text) = Done
ending (Err status) = status

-- a run whose coins were touched may end so: not by a refusal, nor by a failed read of the input
abbrev pub MayFollowCoins : (coins : Seen) → Status → Type 0
MayFollowCoins coins ReadFault = Rose coins.faults coins.faults_after
MayFollowCoins coins status = MatchBool (is_refusal status) ⊥ ⊤

-- the command draws a seed, its input was read and isn't refused, and no more coins were taken than a seed has bytes
abbrev pub Draws : Command → (input coins : Seen) → Status → Type 0
Draws command input coins status =
    TrueAnd (draws command) (IsRead command input × TakesCoins coins × MayFollowCoins coins status)

-- how a command ends that isn't refused, where nothing fails and the coins tell these bytes
abbrev pub end_of : Command → (coins : List ℕ) → Status
end_of command coins = if draws command && nat_lt (length coins) SEED_BYTES then ShortCoins (length coins) else Done
