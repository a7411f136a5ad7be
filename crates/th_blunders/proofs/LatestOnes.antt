-- The last observation between two points, one observation further.
use Rattle.std.proofs.Common.{◌≡◌, ℕ, ℤ, ◌+◌, ◌-◌, ◌<◌, Bool, true, false, cond, List, [], ◌∷◌, ◌++◌, Option, None, Some, filter, option_map, length, get_or, take, refl, sym, ap, ◌∙◌, arith}
use Rattle.std.specs.List.{enumerate_from}
use Rattle.std.proofs.lemmas.List.{append-nil, get_or_push, length_push}
use Rattle.std.proofs.lemmas.List.Elements.{filter-append}
use Rattle.std.proofs.lemmas.Option.{slice_get_read}
use Rattle.th_observations.specs.Observed.{Observed}
use Rattle.th_blunders.specs.Opposites.{last_of, latest, opposite_of, opposite_to, runs_between}
use Rattle.th_blunders.proofs.Numbered.{enumerate_from-more}

-- what the code keeps of a numbered observation
abbrev pub seen : ℕ × Observed → ℕ × ℤ
seen numbered = (numbered.0, numbered.1.difference)

last_of-push : {X : Type 0} → (xs : List X) (x : X) → last_of (xs ++ x ∷ []) ≡ Some x
last_of-push xs x = slice_get_read (xs ++ x ∷ []) (length (xs ++ x ∷ [])) (length (xs ++ x ∷ []) - 1) x refl (omega (arith, length_push xs x)) (sym (get_or_push xs x x (length (xs ++ x ∷ []) - 1) (omega (arith, length_push xs x))))

filter-push : {X : Type 0} → (p : X → Bool) (xs : List X) (x : X) → filter p (xs ++ x ∷ []) ≡ cond (p x) (filter p xs ++ x ∷ []) (filter p xs)
filter-push p xs x = filter-append p xs (x ∷ []) ∙ by (p x)
  where
    by : (b : Bool) → filter p xs ++ cond b (x ∷ []) [] ≡ cond b (filter p xs ++ x ∷ []) (filter p xs)
    by true = refl
    by false = append-nil (filter p xs)

-- the last one, where the next is an observation between these points or another one
pub latest-more : (observations : List Observed) (i : ℕ) (o : Observed) (ends : List ℕ × List ℕ) → i < length observations → o ≡ get_or observations i o → latest (take (i + 1) observations) ends ≡ cond (runs_between ends o) (Some (i + 1, o)) (latest (take i observations) ends)
latest-more observations i o ends within at =
    ap (λ numbered. last_of (filter (λ n. runs_between ends n.1) numbered)) (enumerate_from-more observations i o within at)
    ∙ ap last_of (filter-push (λ n. runs_between ends n.1) (enumerate_from 1 (take i observations)) (i + 1, o))
    ∙ by (runs_between ends o)
  where
    by : (b : Bool) → last_of (cond b (filter (λ n. runs_between ends n.1) (enumerate_from 1 (take i observations)) ++ (i + 1, o) ∷ []) (filter (λ n. runs_between ends n.1) (enumerate_from 1 (take i observations)))) ≡ cond b (Some (i + 1, o)) (latest (take i observations) ends)
    by true = last_of-push (filter (λ n. runs_between ends n.1) (enumerate_from 1 (take i observations))) (i + 1, o)
    by false = refl

-- what is kept of it
pub seen-more : (b : Bool) (found : ℕ × Observed) (before : Option (ℕ × Observed)) → option_map seen (cond b (Some found) before) ≡ cond b (Some (seen found)) (option_map seen before)
seen-more true found before = refl
seen-more false found before = refl

-- the opposite of an observation, from what is kept of the earlier ones
pub opposite_of-seen : (observations : List Observed) (i : ℕ) (o : Observed) → option_map (opposite_to (i + 1) o.difference) (option_map seen (latest (take i observations) (o.target, o.station))) ≡ opposite_of observations (i + 1, o)
opposite_of-seen observations i o =
    both (latest (take i observations) (o.target, o.station)) ∙ ap (λ k. option_map (λ earlier. opposite_to (i + 1) o.difference (seen earlier)) (latest (take k observations) (o.target, o.station))) (omega arith)
  where
    both : (last : Option (ℕ × Observed)) → option_map (opposite_to (i + 1) o.difference) (option_map seen last) ≡ option_map (λ earlier. opposite_to (i + 1) o.difference (seen earlier)) last
    both None = refl
    both (Some last) = refl
