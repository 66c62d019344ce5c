-- The commands: what each reads and draws, why it refuses an input, and what its output is.
use Rattle.std.specs.Prelude.{ℕ, List, Bool, true, false, Option, None, is_none}
use Rattle.command_words.specs.declared.command.Command.{Command}
use Rattle.command_words.specs.declared.command.Command.TheVariants.{Check, Reveal, Make, Gen, SelfTest, Expect, Book, Merge, OpenBook, Certify, Audit, Epochs}
use Rattle.star_tool.specs.declared.status.Status.{Status}
use Rattle.star_tool.specs.StreamInput.{stream_refusal, stream_rest}
use Rattle.book_merge.specs.Merging.{merge_rest}
use Rattle.star_tool.specs.Verbs.Book.{book_output}
use Rattle.star_tool.specs.Verbs.Audit.{audit_refusal, audit_rest, audit_output}
use Rattle.star_tool.specs.Verbs.Certify.{certify_output}
use Rattle.star_tool.specs.Verbs.Check.{check_output}
use Rattle.star_tool.specs.Verbs.Expect.{expect_refusal, expect_output}
use Rattle.star_tool.specs.Verbs.Epochs.{epochs_output}
use Rattle.star_tool.specs.Verbs.Generate.{gen_output}
use Rattle.star_tool.specs.Verbs.Make.{make_refusal, make_rest, make_output}
use Rattle.star_tool.specs.Verbs.Merge.{merge_refusal, merge_output}
use Rattle.star_tool.specs.Verbs.OpenBook.{open_book_output}
use Rattle.star_tool.specs.Verbs.Reveal.{reveal_output}
use Rattle.star_tool.specs.Verbs.SelfTest.{self_test_refusal, self_test_output}

-- the command reads the input
abbrev pub reads : Command → Bool
reads Check = true
reads (Reveal epoch workers) = true
reads (Make epoch version thresholds given) = true
reads (Gen number reports liars workers) = false
reads SelfTest = false
reads (Expect epoch thresholds seed) = true
reads (Book epoch) = true
reads (Merge epoch) = true
reads (OpenBook epoch workers) = true
reads (Certify epoch) = true
reads Audit = true
reads (Epochs workers) = true

-- the command draws a seed of the coins
abbrev pub draws : Command → Bool
draws Check = false
draws (Reveal epoch workers) = false
draws (Make epoch version thresholds given) = is_none given
draws (Gen number reports liars workers) = false
draws SelfTest = false
draws (Expect epoch thresholds seed) = false
draws (Book epoch) = false
draws (Merge epoch) = false
draws (OpenBook epoch workers) = false
draws (Certify epoch) = false
draws Audit = false
draws (Epochs workers) = false

-- why these bytes of the input give no output, if so
abbrev pub refusal_of : Command → (bytes : List ℕ) → Option Status
refusal_of Check bytes = stream_refusal bytes
refusal_of (Reveal epoch workers) bytes = stream_refusal bytes
refusal_of (Make epoch version thresholds given) bytes = make_refusal version thresholds bytes
refusal_of (Gen number reports liars workers) bytes = None
refusal_of SelfTest bytes = self_test_refusal
refusal_of (Expect epoch thresholds seed) bytes = expect_refusal thresholds bytes
refusal_of (Book epoch) bytes = stream_refusal bytes
refusal_of (Merge epoch) bytes = merge_refusal epoch bytes
refusal_of (OpenBook epoch workers) bytes = merge_refusal epoch bytes
refusal_of (Certify epoch) bytes = stream_refusal bytes
refusal_of Audit bytes = audit_refusal bytes
refusal_of (Epochs workers) bytes = stream_refusal bytes

-- what is left of these bytes where the command refused them
abbrev pub rest_of : Command → (bytes : List ℕ) → List ℕ
rest_of Check bytes = stream_rest bytes
rest_of (Reveal epoch workers) bytes = stream_rest bytes
rest_of (Make epoch version thresholds given) bytes = make_rest bytes
rest_of (Gen number reports liars workers) bytes = bytes
rest_of SelfTest bytes = bytes
rest_of (Expect epoch thresholds seed) bytes = make_rest bytes
rest_of (Book epoch) bytes = stream_rest bytes
rest_of (Merge epoch) bytes = merge_rest bytes
rest_of (OpenBook epoch workers) bytes = merge_rest bytes
rest_of (Certify epoch) bytes = stream_rest bytes
rest_of Audit bytes = audit_rest bytes
rest_of (Epochs workers) bytes = stream_rest bytes

-- the whole output for these bytes, and for the seed that was drawn
abbrev pub output_of : Command → (bytes seed : List ℕ) → List ℕ
output_of Check bytes seed = check_output bytes
output_of (Reveal epoch workers) bytes seed = reveal_output epoch bytes
output_of (Make epoch version thresholds given) bytes seed = make_output epoch version thresholds given bytes seed
output_of (Gen number reports liars workers) bytes seed = gen_output number reports liars
output_of SelfTest bytes seed = self_test_output
output_of (Expect epoch thresholds given) bytes seed = expect_output epoch thresholds given bytes
output_of (Book epoch) bytes seed = book_output epoch bytes
output_of (Merge epoch) bytes seed = merge_output epoch bytes
output_of (OpenBook epoch workers) bytes seed = open_book_output epoch bytes
output_of (Certify epoch) bytes seed = certify_output epoch bytes
output_of Audit bytes seed = audit_output bytes
output_of (Epochs workers) bytes seed = epochs_output bytes
