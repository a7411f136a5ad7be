-- Sums over the first observations, of each flow times a number of its observation.
use Rattle.std.proofs.Common.{◌≡◌, ℕ, ◌+◌, ◌<◌, ◌≤◌, ℤ, pos, ◌+ℤ◌, ◌*ℤ◌, List, get_or, length, take, ap, ◌∙◌, sym, arith}
use Rattle.std.proofs.lemmas.List.{take_all}
use Rattle.std.proofs.lemmas.List.Sums.{fold_more}
use Rattle.std.proofs.lemmas.Slice.Zip.{get_or-zip, length-zip}
use Rattle.std.specs.List.{zip}
use Rattle.th_observations.specs.Observed.{Observed}
use Rattle.th_network.specs.Circulation.{total_by}
use Rattle.th_changes.specs.Rerouted.{summed}

-- a flow times f
abbrev pub times : (Observed → ℤ) → Observed × ℤ → ℤ
times f pair = pair.1 *ℤ f pair.0

abbrev pub summed_to : (Observed → ℤ) → List Observed → List ℤ → ℕ → ℤ
summed_to f observations flows n = total_by (times f) (take n (zip observations flows))

pub summed_more : (f : Observed → ℤ) (observations : List Observed) (flows : List ℤ) (i : ℕ) (o : Observed) → i < length observations → i < length flows → o ≡ get_or observations i o → summed_to f observations flows (i + 1) ≡ summed_to f observations flows i +ℤ get_or flows i (pos 0) *ℤ f o
summed_more f observations flows i o within there same =
    let pairs = zip observations flows in
    let flow : ℤ = get_or flows i (pos 0) in
    let at : get_or pairs i (o, pos 0) ≡ (o, flow) = get_or-zip observations flows i (o, pos 0) within there ∙ ap (λ (a : Observed). (a, flow)) (sym same) in
    fold_more (λ total pair. total +ℤ times f pair) (pos 0) pairs i (o, pos 0) (omega (arith, length-zip observations flows))
    ∙ ap (λ (pair : Observed × ℤ). total_by (times f) (take i pairs) +ℤ times f pair) at

pub summed_all : (f : Observed → ℤ) (observations : List Observed) (flows : List ℤ) (i : ℕ) → length flows ≡ length observations → length observations ≤ i → summed_to f observations flows i ≡ summed f observations flows
summed_all f observations flows i each over = ap (total_by (times f)) (take_all i (zip observations flows) (omega (arith, length-zip observations flows)))
