-- What is looked up of the points of a network.
use Rattle.std.proofs.Common.{◌≡◌, ℕ, ℤ, List, Option, Some, None, Result, Ok, Err, IfOk, MatchOption, map, ap, ◌∙◌, subst}
use Rattle.std.specs.declared.alloc.AllocError.{AllocError}
use Rattle.th_tables.specs.Rows.{height_of}
use Rattle.th_points.specs.Points.{points}
use Rattle.th_network.specs.Faults.{IsFirstUntied}
use Rattle.th_network.specs.Walks.{Anchored}
use Rattle.th_network.specs.Inside.Reached.{IsFirstUnreached}
use Rattle.th_network.specs.Inside.Sites.{AreSites, Looked}
use Rattle.th_network.proofs.NetworkLemmas.{anchored_points, first_untied_of_points}

-- the heights are those of the points
pub heights_of_points : (looked : Looked) (names : List (List ℕ)) (ends : List (ℕ × ℕ)) (heights : List (Option ℤ)) → AreSites looked names ends heights → heights ≡ map (height_of looked.benchmarks) (points looked.observations looked.benchmarks)
heights_of_points looked names ends heights are = are.fixed ∙ ap (map (height_of looked.benchmarks)) are.are.all

-- what is found of places, said of points
pub untied_of_points : (looked : Looked) (names : List (List ℕ)) (ends : List (ℕ × ℕ)) (heights : List (Option ℤ)) (found : Option (List ℕ)) → AreSites looked names ends heights → IsFirstUnreached heights ends names found
    → MatchOption found (Anchored looked.observations looked.benchmarks) (IsFirstUntied looked.observations looked.benchmarks)
untied_of_points looked names ends heights None are first =
    anchored_points looked.observations looked.benchmarks names ends are.are (subst (λ (hs : List (Option ℤ)). IsFirstUnreached hs ends names None) are.fixed first)
untied_of_points looked names ends heights (Some name) are first =
    first_untied_of_points looked.observations looked.benchmarks names ends name are.are (subst (λ (hs : List (Option ℤ)). IsFirstUnreached hs ends names (Some name)) are.fixed first)

pub untied_when_ok : (looked : Looked) (names ns : List (List ℕ)) (ends es : List (ℕ × ℕ)) (heights hs : List (Option ℤ)) (result : Result (Option (List ℕ)) AllocError) → AreSites looked names ends heights → ns ≡ names → es ≡ ends → hs ≡ heights
    → IfOk result (IsFirstUnreached hs es ns) → IfOk result (λ found. MatchOption found (Anchored looked.observations looked.benchmarks) (IsFirstUntied looked.observations looked.benchmarks))
untied_when_ok looked names ns ends es heights hs (Err refused) are a b c first = tt
untied_when_ok looked names ns ends es heights hs (Ok found) are a b c first =
    untied_of_points looked names ends heights found are
    (subst (λ (own : List (List ℕ)). IsFirstUnreached heights ends own found) a
    (subst (λ (own : List (ℕ × ℕ)). IsFirstUnreached heights own ns found) b (subst (λ (own : List (Option ℤ)). IsFirstUnreached own es ns found) c first)))

-- where nothing is found, the points are tied, and a name that is found is the first that is not
pub anchored_if_none : (looked own : Looked) (found : Option (List ℕ)) → looked ≡ own → found ≡ None → MatchOption found (Anchored looked.observations looked.benchmarks) (IsFirstUntied looked.observations looked.benchmarks) → Anchored own.observations own.benchmarks
anchored_if_none looked own found same none h =
    subst (λ (l : Looked). Anchored l.observations l.benchmarks) same
    (subst (λ (f : Option (List ℕ)). MatchOption f (Anchored looked.observations looked.benchmarks) (IsFirstUntied looked.observations looked.benchmarks)) none h)

pub untied_if_some : (looked own : Looked) (found : Option (List ℕ)) (name : List ℕ) → looked ≡ own → found ≡ Some name → MatchOption found (Anchored looked.observations looked.benchmarks) (IsFirstUntied looked.observations looked.benchmarks) → IsFirstUntied own.observations own.benchmarks name
untied_if_some looked own found name same some h =
    subst (λ (l : Looked). IsFirstUntied l.observations l.benchmarks name) same
    (subst (λ (f : Option (List ℕ)). MatchOption f (Anchored looked.observations looked.benchmarks) (IsFirstUntied looked.observations looked.benchmarks)) some h)
