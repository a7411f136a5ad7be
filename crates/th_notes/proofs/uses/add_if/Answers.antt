use Rattle.std.proofs.Common.{◌||◌, ◌&&◌, sym, ap, ◌∙◌}
use Rattle.gsi_word.specs.Names.{same_name}
use Rattle.th_notes.specs.Inside.Sets.{has_name}
use Rattle.th_notes.proofs.FindingLemmas.{one_more_name}
use Rattle.th_notes.proofs.uses.add_if.Goals as goal

pub returns-in_ok-insert : goal.returns-in_ok-insert
returns-in_ok-insert c = λ other.
    one_more_name c.args.names.now c.insert.new.self c.args.name other c.in_ok-insert.ensures.updates
    ∙ ap (λ known. has_name c.args.names.now other || (known && same_name c.args.name other)) (sym c.if-known.true)
