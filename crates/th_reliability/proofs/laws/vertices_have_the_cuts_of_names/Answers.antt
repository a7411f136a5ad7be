use Rattle.std.proofs.Common.{get_or}
use Rattle.std.proofs.lemmas.List.Elements.{Contains-get_or}
use Rattle.th_points.specs.Points.{points}
use Rattle.th_reliability.proofs.VertexLemmas.{names_are_free, names_cut, vertices_at, vertices_cut, vertices_without_0}
use Rattle.th_reliability.proofs.laws.vertices_have_the_cuts_of_names.Goals as goal

pub returns : goal.returns
returns c = record {
  vertices = λ observations benchmarks weights inside out. (names_are_free observations benchmarks inside out, names_cut observations benchmarks weights inside);
  names = λ observations benchmarks weights inside free. (vertices_without_0 observations benchmarks inside free, vertices_cut observations benchmarks weights inside free, λ k d within. vertices_at observations benchmarks inside (get_or (points observations benchmarks) k d) free (Contains-get_or (points observations benchmarks) k d within));
}
