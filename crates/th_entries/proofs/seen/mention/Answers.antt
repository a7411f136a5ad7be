use Rattle.std.proofs.Common.{◌++◌, List, inr, sym, ap, ◌∙◌, subst}
use Rattle.std.specs.Option.{option_copied, option_to_list}
use Rattle.std.specs.Prelude.{OnOk}
use Rattle.std.proofs.lemmas.List.{append-nil}
use Rattle.gsi_word.specs.Words.{parts_of}
use Rattle.std.specs.Prelude.{map}
use Rattle.th_entries.specs.Inside.Seen.{IsSeenNext}
use Rattle.th_entries.specs.Seen.{AreSeenIn}
use Rattle.th_entries.specs.Spellings.{Mention}
use Rattle.th_entries.proofs.SeenLemmas.{mention_by-is, no_mention}
use Rattle.th_entries.proofs.seen.mention.Goals as goal

pub returns : goal.returns
returns c =
    let first = sym c.first.ensures.value ∙ ap option_copied c.in-Some.is in
    let is = mention_by-is c.args.book c.args.line c.args.entered.now c.args.words.now c.in-Some.word.now c.in-Some-or.name first (sym c.or.ensures ∙ c.in-Some-or.is) in
    subst (λ mention. OnOk c.take.result (IsSeenNext mention c.args.names.now c.take.new.self)) (sym is) c.take.ensures

pub returns-in_default-or : goal.returns-in_default-or
returns-in_default-or c = λ before own.
    let none = no_mention c.args.book c.args.line c.args.entered.now (map parts_of c.args.words.now) (inr (sym c.or.ensures ∙ c.in_default-or.is)) in
    subst (λ mention. AreSeenIn (before ++ option_to_list mention) c.args.names.now) (sym none) (subst (λ (all : List Mention). AreSeenIn all c.args.names.now) (sym (append-nil before)) own)
