use Rattle.std.proofs.Common.{◌≡◌, ◌<◌, ◌≤◌, ◌+◌, ◌-◌, ◌/◌, ◌%◌, ◌++◌, ◌∷◌, [], ℕ, List, suc, drop, length, set, refl, sym, ap, ◌∙◌, arith, append_assoc}
use Rattle.std.proofs.lemmas.List.{drop-set, length-set}
use Rattle.std.specs.List.{list_all}
use Rattle.gsi_word.specs.Bytes.{is_data}
use Rattle.th_units.specs.Metres.{last_digits}
use Rattle.th_columns.proofs.DigitLemmas.{digit_is_data, last_digits-all}
use Rattle.th_columns.proofs.digits.last_digits.Goals as goal

-- one digit more, written at its place
digit_more : (size count place rest : ℕ) (digits all : List ℕ) → count < size → place ≡ size - 1 - count → size ≡ length digits → last_digits (size - count) rest ++ drop (size - count) digits ≡ all
    → last_digits (size - (count + 1)) (rest / 10) ++ drop (size - (count + 1)) (set digits place (48 + rest % 10)) ≡ all
unfolding last_digits
digit_more size count place rest digits all within at long so_far =
    let left = size - (count + 1) in
    let turn : size - count ≡ suc left = omega arith in
    let there : place ≡ left = omega arith in
    let next : left + 1 ≡ size - count = omega arith in
    ap (λ place. last_digits left (rest / 10) ++ drop left (set digits place (48 + rest % 10))) there
    ∙ ap (λ end. last_digits left (rest / 10) ++ end) (drop-set digits left (48 + rest % 10) (omega arith))
    ∙ ap (λ k. last_digits left (rest / 10) ++ (48 + rest % 10) ∷ drop k digits) next
    ∙ sym (append_assoc (last_digits left (rest / 10)) ((48 + rest % 10) ∷ []) (drop (size - count) digits))
    ∙ ap (λ k. last_digits k rest ++ drop (size - count) digits) (sym turn)
    ∙ so_far

-- no digit is left
all_digits : (size count rest : ℕ) (digits all : List ℕ) → size ≤ count → last_digits (size - count) rest ++ drop (size - count) digits ≡ all → digits ≡ all
unfolding last_digits
all_digits size count rest digits all done so_far =
    let none : size - count ≡ 0 = omega arith in
    ap (λ k. last_digits k rest ++ drop k digits) (sym none) ∙ so_far

pub loop-count-preserved : goal.loop-count-preserved
loop-count-preserved g c =
    let place = g.row.N - 1 - c.loop-count.count in
    record {
      long = length-set c.loop-count.digits place (48 + c.loop-count.rest % 10) ∙ c.loop-count.invariant.long;
      written = digit_more g.row.N c.loop-count.count place c.loop-count.rest c.loop-count.digits _ c.loop-count-test.true refl (sym c.loop-count.invariant.long) c.loop-count.invariant.written;
    }

pub returns-clause-value : goal.returns-clause-value
returns-clause-value g c = all_digits g.row.N c.loop-count.count c.loop-count.rest c.loop-count.digits _ c.loop-count-test.false c.loop-count.invariant.written

pub returns-clause-data : goal.returns-clause-data
returns-clause-data g c =
    ap (list_all is_data) (all_digits g.row.N c.loop-count.count c.loop-count.rest c.loop-count.digits _ c.loop-count-test.false c.loop-count.invariant.written) ∙ last_digits-all is_data digit_is_data g.row.N c.args.number
