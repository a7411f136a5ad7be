-- The inputs of a run, as texts name them.
use Rattle.std.specs.Prelude.{ℕ, List, ◌++◌, codes, decimal, map, zip}
use Rattle.std.specs.List.{flat_map}
use Rattle.hex.specs.Hex.{encode_lower}
use Rattle.th_columns.specs.Columns.{gap, left_in, line_end, right_in}
use Rattle.th_columns.specs.FileNames.{last_part}
use Rattle.th_inputs.specs.Shown.{shown}
use Rattle.th_inputs.specs.declared.inputs.Input.{Input}
use Rattle.th_inputs.specs.declared.inputs.Input.TheVariants as input
use Rattle.th_inputs.specs.declared.inputs.NamedInputs.{NamedInputs}
use Rattle.th_inputs.specs.declared.sums.Sum.{Sum}

-- the text that names an input
abbrev pub input_text : Input → List ℕ
input_text (input.Book number) = codes "book " ++ decimal number
input_text input.Benchmarks = codes "benchmarks"
input_text input.Weights = codes "weights"
input_text input.Certificate = codes "certificate"
input_text input.Differences = codes "differences"
input_text input.Changes = codes "changes"

-- the digest of an input in base 16
abbrev pub digest_text : Sum → List ℕ
digest_text sum = encode_lower sum.digest

-- an input: its name, and its sum
abbrev pub NamedInput : Type 0
NamedInput = List ℕ × Sum

-- the inputs that a run read
abbrev pub inputs_of : NamedInputs → List NamedInput
inputs_of inputs = zip (map (λ name. name.now) inputs.names.now) inputs.sums.now

-- the line of an input: which it is, how many bytes it has, their digest, and the last part of its name
unfoldable pub input_line : NamedInput → List ℕ
input_line (name, sum) =
    left_in 10 (input_text sum.which) ++ right_in 10 (decimal sum.length) ++ gap ++ digest_text sum ++ gap ++ shown (last_part name) ++ line_end

-- the lines of inputs
abbrev pub input_lines : List NamedInput → List ℕ
input_lines inputs = flat_map input_line inputs
