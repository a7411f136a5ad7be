use Rattle.std.proofs.Common.{List, ◌++◌, ap, ◌∙◌}
use Rattle.std.specs.List.{flat_map}
use Rattle.th_names.specs.Nears.{near_at}
use Rattle.th_names.specs.declared.located.Located.{Located}
use Rattle.th_names.specs.declared.nears.Near.{Near}
use Rattle.th_names.proofs.nears.near_points.Goals as goal

pub returns : goal.returns
returns c =
    let own = c.args.own.now in
    record {
      located = c.in_ok-located.located.items;
      are_located = c.in_ok-located.ensures;
      listed = c.in_ok-add_nears.ensures ∙ ap (λ (front : List Near). front ++ flat_map (near_at own.network.now c.args.naming.now own.limit) c.deref.result.now) c.new-nears.ensures.items ∙ ap (λ (located : List Located). flat_map (near_at own.network.now c.args.naming.now own.limit) located) c.deref.ensures.value;
    }
