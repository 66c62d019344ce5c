-- The verbs: the word of each, the names of its options, and the command that its options give.
use Rattle.std.specs.Prelude.{List, [], codes, Option, Some, None, if◌then◌else◌}
use Rattle.std.specs.Str.{bytes_eq}
use Rattle.command_words.specs.Options.{Text, Pair}
use Rattle.command_words.specs.Books.{book_names, open_book_names, book_of, merge_of, open_book_of}
use Rattle.command_words.specs.Expect.{expect_names, expect_of}
use Rattle.command_words.specs.Certify.{certify_names, certify_of}
use Rattle.command_words.specs.Epochs.{epochs_names, epochs_of}
use Rattle.command_words.specs.Generate.{gen_names, gen_of}
use Rattle.command_words.specs.Make.{make_names, make_of}
use Rattle.command_words.specs.Reveal.{reveal_names, reveal_of}
use Rattle.command_words.specs.declared.command.Command.{Command}
use Rattle.command_words.specs.declared.command.Command.TheVariants as command
use Rattle.command_words.specs.declared.verb.Verb.{Verb}
use Rattle.command_words.specs.declared.verb.Verb.TheVariants.{Check, Reveal, Make, Gen, SelfTest, Expect, Book, Merge, OpenBook, Certify, Audit, Epochs}

-- the verb of a word
abbrev pub verb_of : Text → Option Verb
verb_of word =
    if bytes_eq word (codes "check") then Some Check
    else if bytes_eq word (codes "reveal") then Some Reveal
    else if bytes_eq word (codes "make") then Some Make
    else if bytes_eq word (codes "gen") then Some Gen
    else if bytes_eq word (codes "selftest") then Some SelfTest
    else if bytes_eq word (codes "expect") then Some Expect
    else if bytes_eq word (codes "book") then Some Book
    else if bytes_eq word (codes "merge") then Some Merge
    else if bytes_eq word (codes "openbook") then Some OpenBook
    else if bytes_eq word (codes "certify") then Some Certify
    else if bytes_eq word (codes "audit") then Some Audit
    else if bytes_eq word (codes "epochs") then Some Epochs
    else None

-- the names of its options
abbrev pub names_of : Verb → List Text
names_of Check = []
names_of Reveal = reveal_names
names_of Make = make_names
names_of Gen = gen_names
names_of SelfTest = []
names_of Expect = expect_names
names_of Book = book_names
names_of Merge = book_names
names_of OpenBook = open_book_names
names_of Certify = certify_names
names_of Audit = []
names_of Epochs = epochs_names

-- the command that its options give
abbrev pub command_by : Verb → List Pair → Option Command
command_by Check options = Some command.Check
command_by Reveal options = reveal_of options
command_by Make options = make_of options
command_by Gen options = gen_of options
command_by SelfTest options = Some command.SelfTest
command_by Expect options = expect_of options
command_by Book options = book_of options
command_by Merge options = merge_of options
command_by OpenBook options = open_book_of options
command_by Certify options = certify_of options
command_by Audit options = Some command.Audit
command_by Epochs options = epochs_of options
