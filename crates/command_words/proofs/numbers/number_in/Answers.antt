use Rattle.std.proofs.Common.{◌≡◌, ◌∙◌, true, sym, arith}
use Rattle.std.specs.Str.Parse.{digits_value}
use Rattle.command_words.specs.Numbers.{is_number}
use Rattle.command_words.proofs.NumberLemmas.{number_in-value, number-parsed}
use Rattle.command_words.proofs.numbers.number_in.Goals as goal

pub returns-in_default : goal.returns-in_default
returns-in_default c =
    absurd (c.in_default.not-Ok _ (number-parsed c.args.text.now c.parse.result c.parse.ensures.value.0 (sym c.is_number.ensures ∙ c.if-not-is_number.false)))

pub returns-clause-number : goal.returns-clause-number
returns-clause-number c =
    let number : is_number c.args.text.now ≡ true = sym c.is_number.ensures ∙ c.if-not-is_number.false in
    let parsed = number-parsed c.args.text.now c.parse.result c.parse.ensures.value.0 number in
    let is : c.in-Ok.number ≡ digits_value 10 c.args.text.now = cc (sym c.in-Ok.is ∙ parsed) in
    number_in-value c.args.low c.args.high c.in-Ok.number c.args.text.now number is (omega (arith, c.from.ensures)) (omega (arith, c.from-else-number-from.ensures))
