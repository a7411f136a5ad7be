use Rattle.std.proofs.Common.{◌==◌, ◌++◌, ◌∷◌, [], Bool, List, ap, sym, ◌∙◌, arith}
use Rattle.std.proofs.lemmas.List.FromFn.{map-range_with_len_more}
use Rattle.th_reliability.proofs.marks.mark_at.Goals as goal

pub loop-i-preserved : goal.loop-i-preserved
loop-i-preserved c =
    c.in_ok-push.ensures.items
    ∙ ap (λ (marks : List Bool). marks ++ (c.loop-i.i == c.args.place) ∷ []) c.loop-i.invariant
    ∙ sym (map-range_with_len_more (λ k. k == c.args.place) 0 c.loop-i.i c.loop-i.i (omega arith))
