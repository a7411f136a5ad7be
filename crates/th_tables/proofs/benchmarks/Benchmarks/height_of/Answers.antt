use Rattle.std.proofs.Common.{◌≡◌, ◌≤◌, IfSome, bytes_eq, unsigned_abs, subst, sym, rules}
use Rattle.std.specs.Map.{lookup}
use Rattle.std.proofs.lemmas.Map.Entries.{All-lookup}
use Rattle.th_units.specs.Limits.{max_len}
use Rattle.th_tables.proofs.benchmarks.Benchmarks.height_of.Goals as goal

pub returns-clause-range : goal.returns-clause-range
returns-clause-range c =
    let rows = c.self.inside.heights.entries in
    let found : c.copied.result ≡ lookup (bytes_eq c.args.name.now) rows = search rules in
    subst (λ r. IfSome r (λ height. unsigned_abs height ≤ max_len)) (sym found) (All-lookup (λ height. unsigned_abs height ≤ max_len) (bytes_eq c.args.name.now) rows c.self.invariant.heights)
