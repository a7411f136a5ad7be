use Rattle.std.proofs.Common.{List, ap, ◌∙◌}
use Rattle.std.specs.List.{filter, slice_range}
use Rattle.th_entries.specs.declared.entries.Entry.{Entry}
use Rattle.th_numbers.specs.Lists.{is_used}
use Rattle.th_numbers.proofs.KindLemmas.{used_around}
use Rattle.th_numbers.proofs.kinds.Holders.around.Goals as goal

pub returns : goal.returns
returns c =
    let run = c.window-start.result in
    ap (λ (entries : List Entry). filter (is_used c.args.kind c.args.o.now) (slice_range entries run.0 run.1)) c.deref.ensures.value
    ∙ used_around c.args.kind c.args.o.now c.args.self.now.entries.items run c.window-start.ensures
