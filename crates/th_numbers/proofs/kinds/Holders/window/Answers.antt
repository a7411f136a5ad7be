use Rattle.std.proofs.Common.{◌≡◌, ℕ, true, false, List, get_or, subst, sym, ap, arith}
use Rattle.th_observations.specs.Observed.{Observed}
use Rattle.th_entries.specs.declared.entries.Entry.{Entry}
use Rattle.th_numbers.specs.Inside.Kinds.{AreAround, FollowEachOther, is_ended}
use Rattle.th_numbers.proofs.KindLemmas.{one_around}
use Rattle.th_numbers.proofs.kinds.Holders.window.Goals as goal

pub returns : goal.returns
returns c =
    let entries : List Entry = c.as_slice-entries.result.now in
    let o : Observed = c.args.o.now in
    let start = c.count_ended-start.result in
    let split = c.count_ended-start.ensures.split in
    let book : c.o.inside.book ≡ o.book = ap (λ (v : Observed). v.book) c.o.view_is in
    let line : c.o.inside.line ≡ o.line = ap (λ (v : Observed). v.line) c.o.view_is in
    subst (λ (own : List Entry). AreAround own o (start, c.min.result)) c.as_slice-entries.ensures.value
    (one_around entries o start c.min.result (subst FollowEachOther (sym c.as_slice-entries.ensures.value) (c.args.self.now.ordered c.if-not-self.false)) c.count_ended-start.ensures.within
    (λ k d less. subst (λ (l : ℕ). is_ended o.book l (get_or entries k d) ≡ true) line (subst (λ (b : ℕ). is_ended b c.o.inside.line (get_or entries k d) ≡ true) book (split.0 k d (omega arith) less)))
    (λ k d past here. subst (λ (l : ℕ). is_ended o.book l (get_or entries k d) ≡ false) line (subst (λ (b : ℕ). is_ended b c.o.inside.line (get_or entries k d) ≡ false) book (split.1 k d past here)))
    c.min.ensures)
