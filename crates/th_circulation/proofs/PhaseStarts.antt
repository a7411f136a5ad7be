-- The differences of one phase after those of the phase before it, and where the first phase starts.
use Rattle.std.proofs.Common.{◌≡◌, ℕ, zero, suc, ◌≤◌, ◌+◌, ◌-◌, ◌*◌, ◌<◌, ◌^◌, ◌/◌, ℤ, pos, negsuc, ◌+ℤ◌, ◌*ℤ◌, ◌≤ℤ◌, List, [], ◌∷◌, All, length, map, sum, unsigned_abs, Bool, true, false, eqb, zip, if◌then◌else◌, replicate, refl, ap, sym, subst, ◌∙◌, arith}
use Rattle.std.proofs.lemmas.Int.{ints}
use Rattle.std.proofs.lemmas.Nat.{shr-shr, shr_le}
use Rattle.std.proofs.lemmas.List.Elements.{All-map, recursion_from_All}
use Rattle.std.proofs.lemmas.List.Sums.{sum_by-cons}
use Rattle.std.proofs.Math.Nat.{mul-le-mul_left, mul-suc}
use Rattle.std.proofs.Math.IntN.{*ℤ_comm, *ℤ-zero}
use Rattle.std.specs.Prelude.{slice_index_or}
use Rattle.std.specs.List.{AllByRecursion}
use Rattle.th_circulation.specs.Limits.{phases}
use Rattle.th_network.specs.declared.links.Link.{Link}
use Rattle.th_circulation.specs.Inside.Flows.{AreBounded, IsFlow, Next, ShowsLinks, arriving, gain, leaving, residuals}
use Rattle.th_search.specs.Distances.{AreWithin}
use Rattle.th_circulation.specs.Inside.Graphs.{IsLinkGraph}
use Rattle.th_circulation.specs.Inside.Phases.{difference_in, differences_in}
use Rattle.th_circulation.specs.Inside.Workspaces.{IsNear}
use Rattle.th_network.proofs.Balance.{total_by-cons}
use Rattle.th_circulation.proofs.FlowSums.{arrives, leaves}
use Rattle.th_circulation.proofs.PhaseLemmas.{gain-cons, phase}
use Rattle.th_network.specs.Links.{largest_link_difference}
use Rattle.th_network.specs.Limits.{max_observations}
use Rattle.th_tables.specs.Limits.{max_weight}

-- a half, rounded down
half_next : (d : ℤ) (k : ℕ) → ((pos 2 *ℤ difference_in (suc k) d) ≤ℤ difference_in k d) × (difference_in k d ≤ℤ (pos 2 *ℤ difference_in (suc k) d +ℤ pos 1))
half_next (pos a) k =
    let s : suc k ≡ k + 1 = omega arith in
    let e : a / 2 ^ suc k ≡ a / 2 ^ k / 2 = ap (λ (m : ℕ). a / 2 ^ m) s ∙ sym (shr-shr a k 1) in
    let n = a / 2 ^ k in
    (omega (arith, ints), omega (arith, ints))
half_next (negsuc a) k =
    let s : suc k ≡ k + 1 = omega arith in
    let e : a / 2 ^ suc k ≡ a / 2 ^ k / 2 = ap (λ (m : ℕ). a / 2 ^ m) s ∙ sym (shr-shr a k 1) in
    let n = a / 2 ^ k in
    (omega (arith, ints), omega (arith, ints))

pub next_differences : (links : List Link) (k : ℕ) → Next (differences_in (suc k) links) (differences_in k links)
next_differences [] k = tt
next_differences (link ∷ links) k = (half_next link.diff k, next_differences links k)

-- no difference of a phase is larger than the link's own
difference_small : (d : ℤ) (k : ℕ) → unsigned_abs d ≤ largest_link_difference → unsigned_abs (difference_in k d) ≤ largest_link_difference
difference_small (pos a) k h = let less = shr_le a k in omega (arith, ints)
difference_small (negsuc a) k h = let less = shr_le a k in omega (arith, ints)

pub differences_long : (links : List Link) (k : ℕ) → length (differences_in k links) ≡ length links
differences_long [] k = refl
differences_long (link ∷ links) k = ap suc (differences_long links k)

pub differences_within : (links : List Link) (k : ℕ) → All (λ link. unsigned_abs link.diff ≤ largest_link_difference) links → AreWithin (length links) largest_link_difference (differences_in k links)
differences_within links k near = record {
  each = differences_long links k;
  small = All-map (λ d. unsigned_abs d ≤ largest_link_difference) (λ (link : Link). difference_in k link.diff) links (λ i d within. difference_small (slice_index_or links i d).diff k (near i d within));
}

-- without halving, the difference itself
pub first_differences : (links : List Link) → differences_in 0 links ≡ map (λ link. link.diff) links
first_differences [] = refl
first_differences (link ∷ links) = ap (λ (d : ℤ). d ∷ differences_in 0 links) (whole link.diff) ∙ ap (λ (ds : List ℤ). link.diff ∷ ds) (first_differences links)
  where
    whole : (d : ℤ) → difference_in 0 d ≡ d
    whole (pos a) = omega (arith, ints)
    whole (negsuc a) = omega (arith, ints)

-- in the first phase each difference is 0 or -1
first_is : (d : ℤ) → unsigned_abs d ≤ largest_link_difference → (difference_in (phases - 1) d ≤ℤ pos 0) × (pos 0 ≤ℤ (difference_in (phases - 1) d +ℤ pos 1))
first_is (pos a) h = let none : a / 2 ^ (phases - 1) ≡ 0 = omega arith in (omega (arith, ints), omega (arith, ints))
first_is (negsuc a) h = let none : a / 2 ^ (phases - 1) ≡ 0 = omega arith in (omega (arith, ints), omega (arith, ints))

-- a product by nothing or minus one
times_first : (g d : ℤ) (w : ℕ) → unsigned_abs g ≤ w → d ≤ℤ pos 0 → pos 0 ≤ℤ (d +ℤ pos 1) → (g *ℤ d) ≤ℤ pos w
times_first g (pos zero) w bound high low = let none = *ℤ-zero g in omega (arith, ints)
times_first g (pos (suc n)) w bound high low = absurd (omega (arith, ints))
times_first g (negsuc zero) w bound high low = omega (arith, ints)
times_first g (negsuc (suc n)) w bound high low = absurd (omega (arith, ints))

first_gain : (links : List Link) (weights : List ℕ) (flows : List ℤ) → AllByRecursion (λ link. unsigned_abs link.diff ≤ largest_link_difference) links → AreBounded weights flows → gain flows (differences_in (phases - 1) links) ≤ℤ pos (sum weights)
first_gain links [] [] near bounded = omega (arith, ints)
first_gain links [] (flow ∷ flows) near bounded = absurd bounded
first_gain links (weight ∷ weights) [] near bounded = absurd bounded
first_gain [] (weight ∷ weights) (flow ∷ flows) near bounded = omega (arith, ints)
first_gain (link ∷ links) (weight ∷ weights) (flow ∷ flows) near bounded =
    let rest = first_gain links weights flows near.1 bounded.1 in
    let is = first_is link.diff near.0 in
    let one = times_first flow (difference_in (phases - 1) link.diff) weight bounded.0 is.0 is.1 in
    let a = gain-cons flow (difference_in (phases - 1) link.diff) flows (differences_in (phases - 1) links) in
    let s = sum_by-cons (λ (x : ℕ). x) weight weights in
    omega (arith, ints)

-- what flows nowhere gains nothing
abbrev AreNone : List ℤ → Type 0
AreNone flows = AllByRecursion (λ flow. flow ≡ pos 0) flows

gain_none : (flows diffs : List ℤ) → AreNone flows → gain flows diffs ≡ pos 0
gain_none [] diffs none = refl
gain_none (flow ∷ flows) [] none = refl
gain_none (flow ∷ flows) (diff ∷ diffs) none =
    let rest = gain_none flows diffs none.1 in
    let a = gain-cons flow diff flows diffs in
    let b = ap (λ z. z *ℤ diff) none.0 in
    let c = *ℤ_comm (pos 0) diff in
    let e = *ℤ-zero diff in
    omega (arith, ints)

none_near : (vertices : ℕ) (links : List Link) (weights : List ℕ) (flows : List ℤ) → IsLinkGraph vertices links weights → AllByRecursion (λ flow. flow ≡ pos 0) flows → IsNear links weights (differences_in (phases - 1) links) flows
none_near vertices links weights flows graph none others flow =
    let most = first_gain links weights others (recursion_from_All (λ link. unsigned_abs link.diff ≤ largest_link_difference) links graph.near) flow.bounded in
    let nothing = gain_none flows (differences_in (phases - 1) links) none in
    omega (arith, ints)

pub next_near : (links : List Link) (weights : List ℕ) (flows : List ℤ) (heights : ℕ → ℤ) (k : ℕ) → IsFlow links weights flows → ShowsLinks weights flows (residuals links (differences_in (suc k) links) heights) → IsNear links weights (differences_in k links) flows
next_near links weights flows heights k flow shows others other =
    phase links weights (differences_in (suc k) links) (differences_in k links) flows others heights (differences_long links (suc k)) flow shows (next_differences links k) other

-- steps of so many phases
pub phases_more : (w done : ℕ) → 2 * w * (done + 1) ≡ 2 * w * done + 2 * w
phases_more w done = ap (λ (k : ℕ). 2 * w * k) (add-one done) ∙ mul-suc (2 * w) done
  where
    add-one : (n : ℕ) → n + 1 ≡ suc n
    add-one n = omega arith

pub phases_most : (w done : ℕ) → done ≤ phases → 2 * w * done ≤ 2 * phases * w
phases_most w done h = let most = mul-le-mul_left (2 * w) h in omega arith

all_none : (n : ℕ) → AllByRecursion (λ flow. flow ≡ pos 0) (replicate n (pos 0))
all_none zero = tt
all_none (suc n) = (refl, all_none n)

-- the first phase starts from no flow, and raises the gain by at most the sum of the weights
pub first_rise : (vertices : ℕ) (links : List Link) (weights : List ℕ) (flows new diffs : List ℤ) (rise : ℕ) → IsLinkGraph vertices links weights → diffs ≡ differences_in (phases - 1) links → flows ≡ replicate (length links) (pos 0) → IsFlow links weights new → (gain flows diffs +ℤ pos rise) ≤ℤ gain new diffs → rise ≤ sum weights
first_rise vertices links weights flows new diffs rise graph is none flow gained =
    let most = first_gain links weights new (recursion_from_All (λ link. unsigned_abs link.diff ≤ largest_link_difference) links graph.near) flow.bounded in
    let nothing = gain_none (replicate (length links) (pos 0)) (differences_in (phases - 1) links) (all_none (length links)) in
    let more = subst (λ (ds : List ℤ). (gain (replicate (length links) (pos 0)) ds +ℤ pos rise) ≤ℤ gain new ds) is (subst (λ (fs : List ℤ). (gain fs diffs +ℤ pos rise) ≤ℤ gain new diffs) none gained) in
    omega (arith, ints)

-- so all phases but the first may take twice that sum, and the first takes it once
pub few_more : (w done start now next : ℕ) → now ≤ start + 2 * w * done → now ≤ next → next ≤ now + 2 * w → (done ≡ 0 → next ≤ now + w) → (0 < done → now + w ≤ start + 2 * w * done) → next + w ≤ start + 2 * w * (done + 1)
few_more w zero start now next few more rise first before =
    let one = phases_more w 0 in
    let least = first refl in
    omega arith
few_more w (suc done) start now next few more rise first before =
    let one = phases_more w (suc done) in
    let least = before (omega arith) in
    omega arith

-- the weights of a network come to at most 40 million
sum_small : (weights : List ℕ) → AllByRecursion (λ weight. weight ≤ max_weight) weights → sum weights ≤ max_weight * length weights
sum_small [] h = omega arith
sum_small (weight ∷ weights) h =
    let rest = sum_small weights h.1 in
    let one = h.0 in
    let s = sum_by-cons (λ (x : ℕ). x) weight weights in
    omega arith

pub weights_small : (vertices : ℕ) (links : List Link) (weights : List ℕ) → IsLinkGraph vertices links weights → sum weights ≤ max_weight * max_observations
weights_small vertices links weights graph =
    let most = sum_small weights (recursion_from_All (λ weight. weight ≤ max_weight) weights graph.light) in
    let sized = graph.sized in
    let few = graph.few_links in
    omega arith

-- nothing flows
pick_none : (b : Bool) (rest : ℤ) → rest ≡ pos 0 → (if b then pos 0 else pos 0) +ℤ rest ≡ pos 0
pick_none true rest e = omega (arith, ints)
pick_none false rest e = omega (arith, ints)

none_arrives : (links : List Link) (vertex : ℕ) → arriving links (replicate (length links) (pos 0)) vertex ≡ pos 0
none_arrives [] vertex = refl
none_arrives (link ∷ links) vertex =
    total_by-cons (arrives vertex) (link, pos 0) (zip links (replicate (length links) (pos 0))) ∙ pick_none (eqb link.head vertex) (arriving links (replicate (length links) (pos 0)) vertex) (none_arrives links vertex)

none_leaves : (links : List Link) (vertex : ℕ) → leaving links (replicate (length links) (pos 0)) vertex ≡ pos 0
none_leaves [] vertex = refl
none_leaves (link ∷ links) vertex =
    total_by-cons (leaves vertex) (link, pos 0) (zip links (replicate (length links) (pos 0))) ∙ pick_none (eqb link.tail vertex) (leaving links (replicate (length links) (pos 0)) vertex) (none_leaves links vertex)

none_bounded : (links : List Link) (weights : List ℕ) → length weights ≡ length links → AreBounded weights (replicate (length links) (pos 0))
none_bounded [] [] h = tt
none_bounded [] (weight ∷ weights) h = absurd (omega arith)
none_bounded (link ∷ links) [] h = absurd (omega arith)
none_bounded (link ∷ links) (weight ∷ weights) h = (omega arith, none_bounded links weights (omega arith))

pub none_flows : (links : List Link) (weights : List ℕ) → length weights ≡ length links → IsFlow links weights (replicate (length links) (pos 0))
none_flows links weights sized = record {
  sized = sized;
  bounded = none_bounded links weights sized;
  balanced = λ vertex. none_arrives links vertex ∙ sym (none_leaves links vertex);
}

pub none_near_replicate : (vertices : ℕ) (links : List Link) (weights : List ℕ) → IsLinkGraph vertices links weights → IsNear links weights (differences_in (phases - 1) links) (replicate (length links) (pos 0))
none_near_replicate vertices links weights graph = none_near vertices links weights (replicate (length links) (pos 0)) graph (all_none (length links))
