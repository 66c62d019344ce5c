-- The coins: a seed that is drawn of them, and why there is none.
use Rattle.std.specs.Prelude.{◌≡◌, ℕ, ◌<◌, ◌≤◌, List, length, Option, Some, None}
use Rattle.std.specs.Io.KnownBytes.{Consumes, IsAtEnd}
use Rattle.star_io.specs.Faults.{Rose}
use Rattle.command_words.specs.declared.seed.TheConstants.{SEED_BYTES}
use Rattle.star_tool.specs.declared.status.Status.{Status}
use Rattle.star_tool.specs.declared.status.Status.TheVariants.{ReadFault, ShortCoins}
use Rattle.star_tool.specs.Seen.{Seen}

-- these coins were taken, and are a seed
abbrev pub TakesSeed : (coins : Seen) → (drawn : List ℕ) → Type 0
TakesSeed coins drawn = (length drawn ≡ SEED_BYTES) × Consumes coins.left coins.left_after drawn

-- the seed is the one that was given, or the next bytes of the coins
abbrev pub IsSeed : (given : Option (List ℕ)) → (coins : Seen) → (seed : List ℕ) → Type 0
IsSeed None coins seed = TakesSeed coins seed
IsSeed (Some given) coins seed = seed ≡ given

-- the coins came to their end after so many bytes, which are too few
abbrev pub TakesFewCoins : (coins : Seen) → (have : ℕ) → Type 0
TakesFewCoins coins have =
    (have < SEED_BYTES) × ((drawn : List ℕ) × (length drawn ≡ have) × Consumes coins.left coins.left_after drawn × IsAtEnd coins.left_after)

-- no more coins were taken than a seed has bytes
abbrev pub TakesCoins : (coins : Seen) → Type 0
TakesCoins coins = (drawn : List ℕ) × (length drawn ≤ SEED_BYTES) × Consumes coins.left coins.left_after drawn

-- why there is no seed: it wasn't given, and a read of the coins failed or they came to their end
abbrev pub SeedReason : (given : Option (List ℕ)) → (coins : Seen) → Status → Type 0
SeedReason None coins ReadFault = Rose coins.faults coins.faults_after
SeedReason None coins (ShortCoins have) = TakesFewCoins coins have
SeedReason _ coins _ = ⊥
