use Rattle.std.proofs.Common.{◌||◌, ◌&&◌, sym, ap, ◌∙◌}
use Rattle.gsi_word.specs.Names.{same_name}
use Rattle.th_notes.specs.Uses.{is_used, is_used_again}
use Rattle.th_notes.proofs.FindingLemmas.{one_more_name}
use Rattle.th_notes.proofs.UseLemmas.{again-push, same_swap, used-push}
use Rattle.th_notes.proofs.uses.UsedNames.take.Goals as goal

pub returns : goal.returns
returns c = λ before was.
    let name = c.args.name in
    record {
      seen = λ other.
          one_more_name c.args.self.now.names c.insert.new.self name other c.in_ok-insert.ensures.updates
          ∙ ap (λ own. own || same_name name other) (was.seen other)
          ∙ sym (used-push before name other);
      again = λ other.
          c.in_ok-add_if.ensures other
          ∙ ap (λ own. own || (c.contains-known.result && same_name name other)) (was.again other)
          ∙ ap (λ known. is_used_again before other || (known && same_name name other)) (c.contains-known.ensures ∙ was.seen name)
          ∙ ap (λ own. is_used_again before other || own) (same_swap (is_used before) name other)
          ∙ sym (again-push before name other);
    }
