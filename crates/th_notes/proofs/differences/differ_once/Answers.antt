use Rattle.std.proofs.Common.{◌≡◌, ◌<◌, ◌+◌, ◌-◌, ◌∷◌, ℕ, suc, List, drop, get_or, length, nat_eq, ap, sym, ◌∙◌, arith}
use Rattle.std.proofs.lemmas.List.{drop_all, drop_more, length-drop}
use Rattle.th_notes.specs.Twins.{differ_once}
use Rattle.th_notes.proofs.differences.differ_once.Goals as goal

one_left : (n k m : ℕ) → k < n → suc m ≡ n - k → nat_eq n (k + 1) ≡ nat_eq (suc m) 1
one_left n k m within is = grind arith

-- the second text has ended
ended : (text other : List ℕ) (k : ℕ) → k < length text → k ≡ length other → nat_eq (length text) (k + 1) ≡ differ_once (drop k text) (drop k other)
ended text other k within is =
    let first = drop_more text k 0 within in
    one_left (length text) k (length (drop (k + 1) text)) within (sym (ap length first) ∙ length-drop k text)
    ∙ sym (ap (λ own. differ_once own (drop k other)) first ∙ ap (differ_once (get_or text k 0 ∷ drop (k + 1) text)) (drop_all k other (omega (arith, is))))

pub returns-then-k-other : goal.returns-then-k-other
returns-then-k-other c =
    ended c.args.text.now c.args.other.now c.loop-k.k (omega (arith, c.loop-k-test.true)) (omega (arith, c.if-k-other.true)) ∙ c.loop-k.invariant.1
