-- The section of what a client may ask: how the heights were found, how to check them, and from what.
use Rattle.std.specs.Prelude.{ℕ, false, List, ◌++◌, codes, decimal}
use Rattle.std.specs.List.{flat_map}
use Rattle.th_html.specs.Lengths.{sized_text}
use Rattle.th_html.specs.Texts.{escaped}
use Rattle.th_inputs.specs.Inputs.{NamedInput, digest_text, input_text}
use Rattle.th_inputs.specs.declared.sums.Sum.{Sum}
use Rattle.th_page.specs.Fixed.{ask_end, ask_middle, ask_start}

-- the length and the digest of an input
unfoldable pub sum_text : Sum → List ℕ
sum_text sum = codes "<small>" ++ decimal sum.length ++ codes " B, SHA-256 " ++ digest_text sum ++ codes "</small>\n"

-- an input: which it is, its name, its length and its digest
unfoldable pub input_item : NamedInput → List ℕ
input_item (name, sum) = codes "<li>" ++ input_text sum.which ++ codes ": <bdi>" ++ escaped name ++ codes "</bdi> " ++ sum_text sum

-- the section
unfoldable pub ask_section : ℕ → List NamedInput → List ℕ
ask_section cost inputs = ask_start ++ sized_text false cost ++ ask_middle ++ flat_map input_item inputs ++ ask_end
