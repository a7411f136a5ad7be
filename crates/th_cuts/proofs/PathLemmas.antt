-- A step that is added to a path or taken back, and why a path's steps lead to different vertices.
use Rattle.std.proofs.Common.{◌≡◌, ℕ, ◌+◌, ◌<◌, ◌≤◌, ℤ, List, [], ◌∷◌, ◌++◌, length, refl, sym, subst, arith}
use borrow.Author.Count.{below_more}
use Rattle.std.proofs.lemmas.List.{get_or_append_left, get_or_push, length-append}
use Rattle.th_cuts.specs.declared.edges.Edge.{Edge}
use Rattle.th_cuts.specs.declared.trees.WayStep.{WayStep}
use Rattle.th_cuts.specs.Inside.Guides.{level_at}
use Rattle.th_cuts.specs.Inside.Paths.{IsPath}
use Rattle.th_cuts.specs.Inside.Trees.{IsStep, step_at}
use Rattle.th_cuts.proofs.TreeLemmas.{steps_more}

pub path_more : (edges : List Edge) (flows : List ℤ) (source : ℕ) (levels : List ℕ) (steps : List WayStep) (new : WayStep) → IsPath edges flows source levels steps → 1 ≤ new.limit → new.parent + 1 ≡ length steps → IsStep edges flows (step_at steps new.parent) new → level_at levels new.vertex ≡ level_at levels (step_at steps new.parent).vertex + 1 → IsPath edges flows source levels (steps ++ new ∷ [])
path_more edges flows source levels steps new path limit after step further =
    let long = length-append steps (new ∷ []) in
    let old = λ (k : ℕ) (h : k < length steps). get_or_append_left steps (new ∷ []) (step_at [] 0) k h in
    let last = get_or_push steps new (step_at [] 0) (length steps) refl in
    let now = step_at (steps ++ new ∷ []) in
    let before = path.further new.parent (omega arith) in
    record {
      are_steps = steps_more edges flows source steps new path.are_steps limit (omega arith) step;
      further = λ k h. below_more (λ k. level_at levels (now k).vertex ≡ level_at levels source + k) (length steps)
          (λ k h. subst (λ (s : WayStep). level_at levels s.vertex ≡ level_at levels source + k) (sym (old k h)) (path.further k h))
          (subst (λ (s : WayStep). level_at levels s.vertex ≡ level_at levels source + length steps) (sym last) (omega arith))
          k (omega arith);
    }
