use Rattle.std.proofs.Common.{Result, Ok, Err, pos, ◌-ℤ◌, of_z, to_z, w64, arith}
use Rattle.std.specs.Result.{OnOk}
use Rattle.std.proofs.lemmas.Int.{ints}
use Rattle.th_circulation.proofs.ResidualLemmas.{arcs_added}
use Rattle.th_names.proofs.arcs.add_arcs.Goals as goal

on_ok : {X E : Type 0} {P Q : Type 0} (r : Result X E) → (P → Q) → OnOk r P → OnOk r Q
on_ok (Ok x) f p = f p
on_ok (Err e) f p = p

pub returns : goal.returns
returns c =
    let near = c.requires in
    let diff = to_z w64 (of_z w64 c.args.link.diff) in
    let flow = to_z w64 (of_z w64 c.args.flow) in
    let weight = to_z w64 c.args.weight in
    on_ok c.add_where-2.result (λ second. arcs_added c.args.arcs.now.items c.add_where.new.arcs.items c.add_where-2.new.arcs.items c.args.link c.args.weight c.args.flow flow weight (to_z w64 (of_z w64 (pos 0 -ℤ weight))) diff (to_z w64 (of_z w64 (pos 0 -ℤ diff))) (omega (arith, ints)) (omega (arith, ints)) (omega (arith, ints)) (omega (arith, ints)) (omega (arith, ints)) c.in_ok-add_where.ensures second) c.add_where-2.ensures
