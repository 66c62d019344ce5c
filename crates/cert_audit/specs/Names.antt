-- The names under which faults and verdicts are printed.
use Rattle.std.specs.Prelude.{ℕ, List, codes}
use Rattle.cert_audit.specs.declared.kind.CertKind.{CertKind}
use Rattle.cert_audit.specs.declared.kind.CertKind.TheVariants.{Truncated, Magic, Format, Range}
use Rattle.cert_audit.specs.declared.verdict.Verdict.{Verdict}
use Rattle.cert_audit.specs.declared.verdict.Verdict.TheVariants.{Yes, Few, Key, Short, Value as WrongValue}

abbrev pub name_of : CertKind → List ℕ
name_of Truncated = codes "Truncated"
name_of Magic = codes "Magic"
name_of Format = codes "Format"
name_of Range = codes "Range"

abbrev pub verdict_name : Verdict → List ℕ
verdict_name (Yes value agree) = codes "Yes"
verdict_name Few = codes "Few"
verdict_name Key = codes "Key"
verdict_name (Short agree) = codes "Short"
verdict_name WrongValue = codes "Value"
