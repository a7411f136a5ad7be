use Rattle.std.proofs.Common.{◌≡◌, ◌++◌, drop}
use Rattle.std.specs.List.{flat_map}
use Rattle.th_explain_texts.specs.Meant.{line_in}
use Rattle.th_explain_texts.proofs.meant.write_each_named.Given as goal

abbrev pub invariant-loop-own : goal.invariant-loop-own
invariant-loop-own l = l.page ++ flat_map (line_in l.several l.rows) (drop l.own-index l.named) ≡ l.fn.page ++ flat_map (line_in l.several l.rows) l.named
