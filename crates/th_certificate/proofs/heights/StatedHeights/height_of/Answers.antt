use Rattle.std.proofs.Common.{◌≡◌, ◌<◌, IfSome, bytes_eq, unsigned_abs, subst, sym, rules}
use Rattle.std.specs.Map.{lookup}
use Rattle.std.proofs.lemmas.Map.Entries.{All-lookup}
use Rattle.th_network.specs.Limits.{height_limit}
use Rattle.th_certificate.proofs.heights.StatedHeights.height_of.Goals as goal

pub returns-clause-in_range : goal.returns-clause-in_range
returns-clause-in_range c =
    let rows = c.self.inside.heights.entries in
    let found : c.copied.result ≡ lookup (bytes_eq c.args.name.now) rows = search rules in
    subst (λ r. IfSome r (λ height. unsigned_abs height < height_limit)) (sym found) (All-lookup (λ height. unsigned_abs height < height_limit) (bytes_eq c.args.name.now) rows c.self.invariant.in_range)
