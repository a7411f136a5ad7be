use Rattle.std.proofs.Common.{◌≡◌, ◌++◌, drop, map}
use Rattle.th_columns.specs.FileNames.{last_part}
use Rattle.th_page.proofs.texts.last_parts.Given as goal

abbrev pub invariant-loop-name : goal.invariant-loop-name
invariant-loop-name l = map (λ part. part.now) l.lent.items ++ map last_part (map (λ name. name.now) (drop l.name-index l.names)) ≡ map last_part (map (λ name. name.now) l.names)
