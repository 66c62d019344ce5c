use Rattle.std.proofs.Common.{◌≡◌, map, take}
use Rattle.clap.specs.Words.{app_of}
use Rattle.command_words.specs.Parse.{verb_app}
use Rattle.command_words.proofs.options.verb_command.Given as goal

abbrev pub invariant-loop-name : goal.invariant-loop-name
invariant-loop-name l = app_of l.command ≡ verb_app l.fn.verb (map (λ s. s.now) (take l.name-index l.names))
