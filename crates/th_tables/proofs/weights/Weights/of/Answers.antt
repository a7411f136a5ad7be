use Rattle.std.proofs.Common.{◌≡◌, subst, sym, rules}
use Rattle.th_tables.specs.Rows.{IsWeight, weight_of}
use Rattle.th_tables.proofs.WeightLemmas.{weight_is}
use Rattle.th_tables.proofs.weights.Weights.of.Goals as goal

-- the weight of the call is allowed
allowed : (c : goal.After-unwrap_or) → IsWeight c.unwrap_or.result
allowed c =
    let rows = c.self.inside.weights.entries in
    let found : c.unwrap_or.result ≡ weight_of rows c.args.station.now c.args.target.now = search rules in
    subst IsWeight (sym found) (weight_is rows c.self.invariant c.args.station.now c.args.target.now)

pub returns-clause-positive : goal.returns-clause-positive
returns-clause-positive c = (allowed c).0

pub returns-clause-range : goal.returns-clause-range
returns-clause-range c = (allowed c).1
