-- The lines of `selftest`: one for each vector, and a last one that counts them (docs/FORMATS.md).
use Rattle.std.specs.Prelude.{ℕ, zero, suc, List, [], ◌++◌, codes}
use Rattle.std.specs.Fmt.{decimal}

abbrev pub ok_line : ℕ → List ℕ
ok_line number = codes "vector " ++ decimal number ++ codes " ok\n"

abbrev pub ok_count_line : ℕ → List ℕ
ok_count_line count = codes "vectors=" ++ decimal count ++ codes " ok=" ++ decimal count ++ codes "\n"

-- the lines of the vectors 1 to n
unfoldable pub ok_lines : ℕ → List ℕ
ok_lines zero = []
ok_lines (suc n) = ok_lines n ++ ok_line (suc n)

-- the text where so many vectors are good
abbrev pub self_test_text_of : ℕ → List ℕ
self_test_text_of count = ok_lines count ++ ok_count_line count
