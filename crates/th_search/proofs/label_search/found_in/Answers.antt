use Rattle.std.proofs.Common.{All, sym, subst, ◌∙◌, arith, rules}
use Rattle.th_search.specs.Walks.{IsArc}
use Rattle.th_search.proofs.AnswerLemmas.{potentials}
use Rattle.th_search.proofs.label_search.found_in.Goals as goal

pub passes-init : goal.passes-init
passes-init c = record {
  size = c.in_ok-labels.ensures.size;
  labels = c.in_ok-labels.ensures.labels c.args.arcs.now;
  marks = search rules;
  forest = c.in_ok-labels.ensures.forest c.args.arcs.now;
}

pub pass_over-requires-clause-ready : goal.pass_over-requires-clause-ready
pass_over-requires-clause-ready c = record {
  arcs = subst (λ n. All (IsArc n) c.args.arcs.now) (sym c.passes.invariant.size) c.requires.arcs;
  many = c.requires.many;
  size = omega (arith, c.passes.invariant.size, c.requires.vertices);
  labels = c.passes.invariant.labels;
  forest = c.passes.invariant.forest;
}

pub returns-in-Done : goal.returns-in-Done
returns-in-Done c =
    let size = c.in-Done.ensures.size ∙ c.passes.invariant.size in
    potentials _ _ _ _ size (subst (λ n. All (IsArc n) c.args.arcs.now) (sym size) c.requires.arcs) c.in-Done.ensures.labels c.in-Done.ensures.pass.1 c.in-Done.ensures.pass.0
