-- What each kind of step makes of the view of the pass that takes it.
use Rattle.std.specs.Prelude.{◌≡◌, ℕ, ◌+◌, ◌-◌, ◌≤◌, true, false, ◌||◌, if◌then◌else◌, [], ◌∷◌, ◌++◌, length, slice_index}
use Rattle.std.specs.Bool.{nat_lt}
use Rattle.atomic_table.specs.Table.{State, Me, Step}
use Rattle.recovery_pool.specs.declared.limits.TheConstants.{MAX_WORKERS}
use Rattle.recovery_pool.specs.declared.pass_view.PassView.{PassView}
use Rattle.recovery_pool.specs.Standing.{TicketsStand}

-- a pass that begins
abbrev pub fresh : ℕ → ℕ → PassView
fresh share jobs = record { drawn = []; nones = 0; share = share; spent = false; found = 0; jobs = jobs }

-- the view that a join leaves behind
abbrev pub nobody : PassView
nobody = record { drawn = []; nones = 0; share = 0; spent = true; found = 0; jobs = 0 }

-- the table has one word, for which the tickets stand
abbrev pub Stands : {S : Type 0} → ℕ → ℕ → State S PassView → Type 0
Stands jobs workers s = (length s.words ≡ 1) × TicketsStand (slice_index s.words 0) s.views jobs workers

-- a pass takes the number that the word held
abbrev pub with_number : PassView → ℕ → PassView
with_number v word = record v { drawn = v.drawn ++ word ∷ []; found = word }

-- a pass finds no number left
abbrev pub with_none : PassView → ℕ → PassView
with_none v word = record v { nones = v.nones + 1; spent = true; found = word }

-- a draw takes a number exactly where the word held one below the number of jobs
abbrev pub after_draw : PassView → ℕ → PassView
after_draw v word = if nat_lt word v.jobs then with_number v word else with_none v word

-- the draw read this word
abbrev pub Drew : {S : Type 0} → Step S → Me S PassView → ℕ → Me S PassView → Type 0
Drew s v word w = (w.0 ≡ after_draw v.0 word) × (w.1 ≡ v.1) × (length w.0.drawn ≤ v.0.jobs)

-- a pass gives a part of its share away
abbrev pub keeps_rest : ℕ → PassView → PassView
keeps_rest part v = record v { share = v.share - part }

-- a pass begins with a part of the share of another
abbrev pub begins_with : ℕ → PassView → PassView
begins_with part v = fresh part v.jobs

-- a pass takes in another
abbrev pub joined : PassView → PassView → PassView
joined v w = record v { drawn = v.drawn ++ w.drawn; nones = v.nones + w.nones; share = v.share + w.share; spent = v.spent || w.spent }

-- nothing changes, and the share is at most that of all workers
abbrev pub Looked : {S : Type 0} → Step S → Me S PassView → ℕ → Me S PassView → Type 0
Looked s v word w = (w.0 ≡ v.0) × (w.1 ≡ v.1) × (v.0.share ≤ MAX_WORKERS)
