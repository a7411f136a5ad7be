use Rattle.std.proofs.Common.{◌≡◌, ◌+◌, ◌∙◌, ℕ, length, ap, sym, subst, arith}
use Rattle.std.proofs.lemmas.List.{length_push}
use Rattle.th_remarks.specs.Inside.Said.{AreSaidIn}
use Rattle.th_remarks.proofs.RepeatLemmas.{repeats_more, said_push}
use Rattle.th_remarks.proofs.repeats.repeats_in.Goals as goal

pub loop-k-preserved : goal.loop-k-preserved
loop-k-preserved c = record {
  noted = repeats_more c.args.observations.now c.loop-k.k c.loop-k.notes.items c.add_note.new.notes.items c.repeat_of.result c.loop-k.invariant.noted c.repeat_of.ensures c.in_ok-add_note.ensures;
  all = ap length c.in_ok-push.ensures.items ∙ length_push c.loop-k.before.items c.in_ok-said_in.field-0 ∙ ap (λ (n : ℕ). n + 1) c.loop-k.invariant.all;
  said = subst (AreSaidIn c.args.observations.now) (sym c.in_ok-push.ensures.items)
      (said_push c.args.observations.now c.loop-k.before.items c.in_ok-said_in.field-0 c.loop-k.k c.loop-k.invariant.all c.loop-k.invariant.said c.in_ok-said_in.ensures);
}
