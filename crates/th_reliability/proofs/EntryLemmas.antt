-- What a mistake does that a group with an end at one vertex shares, by what the sets with that vertex drain.
use Rattle.std.proofs.Common.{◌≡◌, ◌⊎◌, ℕ, ◌+◌, ◌<◌, ◌≤◌, inl, inr, Bool, true, false, not, List, [], ◌∷◌, get_or, map, Option, Some, None, All, Contains, eqb, ltb, if◌then◌else◌, refl, sym, ap, ◌∙◌, subst, arith}
use Rattle.std.proofs.lemmas.Bool.{cases_Bool, eqb-false, eqb-true, false≢true, ltb-false, ltb-true}
use Rattle.std.proofs.lemmas.List.Elements.{All-contains, All-head, All-tail}
use Rattle.std.proofs.lemmas.List.Sums.{sum_by-cons}
use Rattle.th_observations.specs.Observed.{Observed}
use Rattle.th_tables.specs.Rows.{weight_of}
use Rattle.th_network.specs.Networks.{Survey}
use Rattle.th_network.specs.Walks.{Anchored}
use Rattle.th_cuts.specs.declared.edges.Edge.{Edge}
use Rattle.th_cuts.specs.Cuts.{Weighted}
use Rattle.th_cuts.specs.CutWeights.{crosses as edge_crosses, cut_weight}
use Rattle.th_cuts.specs.Drains.{IsLeastDrain, drain, on_side}
use Rattle.th_cuts.proofs.CutTreeLemmas.{mirrored}
use Rattle.th_reliability.specs.Blunders.{weight_in}
use Rattle.th_reliability.specs.Cuts.{IsFreeSet, crosses}
use Rattle.th_reliability.specs.Blames.{IsBlame}
use Rattle.th_reliability.specs.Effects.{HasBlame, IsEffect}
use Rattle.th_reliability.specs.declared.blames.Blame.{Blame}
use Rattle.th_reliability.specs.declared.effects.Effect.{Effect}
use Rattle.th_reliability.specs.Edges.{edge_of, vertices_in}
use Rattle.th_reliability.specs.Groups.{own_cut, rest_cut}
use Rattle.th_reliability.specs.Inside.Graphs.{IsGraphOf}
use Rattle.th_reliability.specs.Inside.Targets.{AreAtVertex, AreTargets, IsAtVertex, far_vertex, group_room, room_of, vertex}
use Rattle.th_reliability.specs.Inside.Effects.{IsLeastDrained, of_less}
use Rattle.th_reliability.specs.Inside.Sides.{names_beyond}
use Rattle.th_reliability.specs.SharedMistakes.{IsAlone, IsFreeWithPoint, IsLeastSet, IsOutweighed, IsSharedMistake, own, rest}
use Rattle.th_reliability.specs.declared.mistakes.SharedMistake.{SharedMistake}
use Rattle.th_reliability.specs.declared.mistakes.SharedMistake.TheVariants.{Drags, Shows, Ties, Unchecked}
use Rattle.th_reliability.proofs.BoundLemmas.{WeighSome, cuts_other, end_inside, own_most, own_point}
use Rattle.th_reliability.proofs.SideLemmas.{beyond_crosses, beyond_free}
use Rattle.th_reliability.proofs.VertexLemmas.{crosses_same, ends_agree}

module _ (survey : Survey) (group : Observed → Bool) (start : ℕ) where
  -- a side crosses what a set of names crosses, and an observation of the group has an end at the vertex
  record Sees (inside : List ℕ → Bool) (side : ℕ → Bool) (o : Observed) : Type 0 where
    crossing : edge_crosses side (edge_of survey.observations survey.benchmarks survey.weights o) ≡ crosses inside o
    at : group o ≡ true → IsAtVertex survey start o

  -- ---- what a set drains, beside what it cuts of the group and of the others
  one_drained : (g c t : Bool) (w : ℕ) → (g ≡ true → c ≡ not t) → ((if c then w else 0) + (if g then (if t then w + w else 0) else 0)) + (if g then (if c then w else 0) else 0) ≡ (if g then 0 else (if c then w else 0)) + ((if g then w else 0) + (if g then w else 0))
  one_drained true true true w is = absurd (false≢true (sym (is refl)))
  one_drained true true false w is = omega arith
  one_drained true false true w is = omega arith
  one_drained true false false w is = absurd (false≢true (is refl))
  one_drained false true t w is = omega arith
  one_drained false false t w is = omega arith

  -- of an observation with an end on the side, the other end is there just where it does not cross
  from_on : (s t : Bool) → s ≡ true → (if s then (if t then false else true) else t) ≡ not t
  from_on true true on = refl
  from_on true false on = refl
  from_on false t on = absurd (false≢true on)

  to_on : (s t : Bool) → t ≡ true → (if s then (if t then false else true) else t) ≡ not s
  to_on true true on = refl
  to_on false true on = refl
  to_on s false on = absurd (false≢true on)

  seen : (inside : List ℕ → Bool) (side : ℕ → Bool) (o : Observed) → side start ≡ true → Sees inside side o → group o ≡ true → crosses inside o ≡ not (side (far_vertex survey start o))
  seen inside side o on sees own = sym sees.crossing ∙ by (eqb (vertex survey o.station) start) refl (sees.at own)
    where
      by : (b : Bool) → eqb (vertex survey o.station) start ≡ b → IsAtVertex survey start o → edge_crosses side (edge_of survey.observations survey.benchmarks survey.weights o) ≡ not (side (if b then vertex survey o.target else vertex survey o.station))
      by true e at = from_on (side (vertex survey o.station)) (side (vertex survey o.target)) (ap side (eqb-true (vertex survey o.station) start e) ∙ on)
      by false e (inl at) = let differs = eqb-false (vertex survey o.station) start e in absurd (omega arith)
      by false e (inr at) = to_on (side (vertex survey o.station)) (side (vertex survey o.target)) (ap side at ∙ on)

  drained : (inside : List ℕ → Bool) (side : ℕ → Bool) (observations : List Observed) → side start ≡ true → All (Sees inside side) observations → (cut_weight side (map (edge_of survey.observations survey.benchmarks survey.weights) observations) + group_room survey group start side observations) + own_cut observations survey.weights group inside ≡ rest_cut observations survey.weights group inside + (weight_in observations survey.weights group + weight_in observations survey.weights group)
  drained inside side [] on h = refl
  drained inside side (o ∷ observations) on h =
      let here = All-head (Sees inside side) o observations h in
      let more = drained inside side observations on (All-tail (Sees inside side) o observations h) in
      let w = weight_of survey.weights o.station o.target in
      let one = one_drained (group o) (crosses inside o) (side (far_vertex survey start o)) w (seen inside side o on here) in
      let first = ap (λ (c : Bool). if c then w else 0) here.crossing in
      let a = sum_by-cons (λ (e : Edge). if edge_crosses side e then e.weight else 0) (edge_of survey.observations survey.benchmarks survey.weights o) (map (edge_of survey.observations survey.benchmarks survey.weights) observations) in
      let b = sum_by-cons (λ (x : Observed). if group x then room_of survey start side x else 0) o observations in
      let d = sum_by-cons (λ (x : Observed). if group x then (if crosses inside x then weight_of survey.weights x.station x.target else 0) else 0) o observations in
      let e = sum_by-cons (λ (x : Observed). if group x then 0 else (if crosses inside x then weight_of survey.weights x.station x.target else 0)) o observations in
      let f = sum_by-cons (λ (x : Observed). if group x then weight_of survey.weights x.station x.target else 0) o observations in
      omega arith

  -- ---- sides and sets
  mirror : (side : ℕ → Bool) (o : Observed) → edge_crosses (λ v. not (side v)) (edge_of survey.observations survey.benchmarks survey.weights o) ≡ edge_crosses side (edge_of survey.observations survey.benchmarks survey.weights o)
  mirror side o = mirrored (side (vertex survey o.station)) (side (vertex survey o.target))

  module _ (at : AreAtVertex survey group start) where
    -- each free set has a side with the vertex
    side_of : (inside : List ℕ → Bool) → IsFreeSet survey.benchmarks inside → (side : ℕ → Bool) × (side start ≡ true) × All (Sees inside side) survey.observations
    side_of inside free = elim (cases_Bool (here start)) [
      | inl on ↦ (here, on, λ k d within. record { crossing = same k d within; at = at k d within })
      | inr off ↦ ((λ v. not (here v)), ap not off, λ k d within. record { crossing = mirror here (get_or survey.observations k d) ∙ same k d within; at = at k d within })
    ]
      where
        here : ℕ → Bool
        here = vertices_in survey.observations survey.benchmarks inside

        same : All (λ o. edge_crosses here (edge_of survey.observations survey.benchmarks survey.weights o) ≡ crosses inside o) survey.observations
        same k d within = crosses_same survey.observations survey.benchmarks survey.weights inside here (get_or survey.observations k d) (ends_agree survey.observations survey.benchmarks inside free k d within)

    -- and what each side separates from vertex 0 is a free set
    sees_beyond : (side : ℕ → Bool) → All (Sees (names_beyond survey side) side) survey.observations
    sees_beyond side k d within = record { crossing = sym (beyond_crosses survey side (get_or survey.observations k d)); at = at k d within }

    module _ (rooms targets : List ℕ) (are : AreTargets survey group start rooms targets) where
      -- what a side drains in the graph, if it sees what a set does
      drain_is : (graph : Weighted) (inside : List ℕ → Bool) (side : ℕ → Bool) → IsGraphOf survey graph → side start ≡ true → All (Sees inside side) survey.observations → drain graph.edges rooms side + own survey group inside ≡ rest survey group inside + (weight_in survey.observations survey.weights group + weight_in survey.observations survey.weights group)
      drain_is graph inside side is on sees =
          let all = drained inside side survey.observations on sees in
          let cuts = is.cuts side in
          let room = are.room side in
          omega arith

      -- ---- the three outcomes
      module _ (graph : Weighted) (is : IsGraphOf survey graph) (most : ℕ) (twice : most ≡ weight_in survey.observations survey.weights group + weight_in survey.observations survey.weights group) where
        -- what a least side drains, in the words of sets
        module _ (value : ℕ) (side : List Bool) (least : IsLeastDrain graph.edges rooms start value side) where
          value_is : value + own survey group (names_beyond survey (on_side side)) ≡ rest survey group (names_beyond survey (on_side side)) + (weight_in survey.observations survey.weights group + weight_in survey.observations survey.weights group)
          value_is =
              let drains = drain_is graph (names_beyond survey (on_side side)) (on_side side) is least.holds (sees_beyond (on_side side)) in
              let reached = least.drains in
              omega arith

          value_least : (inside : List ℕ → Bool) → IsFreeSet survey.benchmarks inside → value + own survey group inside ≤ rest survey group inside + (weight_in survey.observations survey.weights group + weight_in survey.observations survey.weights group)
          value_least inside free =
              let other = side_of inside free in
              let drains = drain_is graph inside other.0 is other.1 other.2 in
              let more = least.least other.0 other.1 in
              omega arith

          pub drained_least : IsLeastDrained survey group value
          drained_least = record { reached = (names_beyond survey (on_side side), beyond_free survey (on_side side), value_is); least = value_least }

          least_set : IsFreeWithPoint survey (names_beyond survey (on_side side)) → IsLeastSet survey group (names_beyond survey (on_side side))
          least_set free = record { is = free; least = λ other there. let here = value_is in let more = value_least other there.free in omega arith }

          -- ---- less
          module _ (less : value < most) where
            outweighed : IsOutweighed survey group (names_beyond survey (on_side side))
            outweighed = let here = value_is in record {
              is = record { free = beyond_free survey (on_side side); point = own_point survey group (names_beyond survey (on_side side)) (omega arith) };
              less = omega arith;
            }

            pub less_set : IsLeastSet survey group (names_beyond survey (on_side side))
            less_set = least_set outweighed.is

            pub less_word : (weight : ℕ) → weight ≡ weight_in survey.observations survey.weights group → IsSharedMistake survey group (of_less value weight)
            less_word weight weighs = by (eqb value weight) refl
              where
                by : (b : Bool) → eqb value weight ≡ b → IsSharedMistake survey group (if b then Unchecked else Drags)
                by true e =
                    let same = eqb-true value weight e in
                    let here = value_is in
                    let part = own_most survey group (names_beyond survey (on_side side)) in
                    (names_beyond survey (on_side side), record { is = outweighed; whole = omega arith; none = omega arith })
                by false e = (
                  (names_beyond survey (on_side side), outweighed),
                  λ inside alone.
                      let differs = eqb-false value weight e in
                      let here = value_is in
                      let part = own_most survey group (names_beyond survey (on_side side)) in
                      let more = value_least inside alone.is.is.free in
                      let whole = alone.whole in
                      let none = alone.none in
                      absurd (omega arith),
                )

          -- ---- just as much, by a side that lacks the other end of one of the group
          module _ (target : ℕ) (wanted : Contains targets target) (off : on_side side target ≡ false) (even : value ≡ most) where
            tied : IsFreeWithPoint survey (names_beyond survey (on_side side))
            tied =
                let some = are.only target wanted in
                let sees = All-contains (Sees (names_beyond survey (on_side side)) (on_side side)) survey.observations some.0 (sees_beyond (on_side side)) some.1 in
                let crossing : crosses (names_beyond survey (on_side side)) some.0 ≡ true = seen (names_beyond survey (on_side side)) (on_side side) some.0 least.holds sees some.2 ∙ ap not (ap (on_side side) some.3 ∙ off) in
                record { free = beyond_free survey (on_side side); point = end_inside survey some.0 (names_beyond survey (on_side side)) some.1 crossing }

            pub just_set : IsLeastSet survey group (names_beyond survey (on_side side))
            just_set = least_set tied

            pub just_word : IsSharedMistake survey group Ties
            just_word = (
              (λ inside free. let more = value_least inside free.free in omega arith),
              (names_beyond survey (on_side side), tied, let here = value_is in omega arith),
            )

        -- ---- no less
        module _ (least : (inside : ℕ → Bool) → inside start ≡ true → most ≤ drain graph.edges rooms inside) where
          no_less : (inside : List ℕ → Bool) → IsFreeSet survey.benchmarks inside → own survey group inside ≤ rest survey group inside
          no_less inside free =
              let side = side_of inside free in
              let drains = drain_is graph inside side.0 is side.1 side.2 in
              let more = least side.0 side.1 in
              omega arith

          pub more_least : IsLeastDrained survey group most
          more_least = record {
            reached = ((λ _. false), (λ name fixed. refl), let a = own_none survey.observations in let b = rest_none survey.observations in omega arith);
            least = λ inside free. let more = no_less inside free in omega arith;
          }
            where
              both : (g : Bool) (n : ℕ) → (if g then n else n) ≡ n
              both true n = refl
              both false n = refl

              own_none : (observations : List Observed) → own_cut observations survey.weights group (λ _. false) ≡ 0
              own_none [] = refl
              own_none (o ∷ observations) =
                  let rest = own_none observations in
                  let one = both (group o) 0 in
                  let all = sum_by-cons (λ (x : Observed). if group x then (if crosses (λ _. false) x then weight_of survey.weights x.station x.target else 0) else 0) o observations in
                  omega arith

              rest_none : (observations : List Observed) → rest_cut observations survey.weights group (λ _. false) ≡ 0
              rest_none [] = refl
              rest_none (o ∷ observations) =
                  let rest = rest_none observations in
                  let one = both (group o) 0 in
                  let all = sum_by-cons (λ (x : Observed). if group x then 0 else (if crosses (λ _. false) x then weight_of survey.weights x.station x.target else 0)) o observations in
                  omega arith

          pub shows : WeighSome survey → Anchored survey.observations survey.benchmarks → ((inside : ℕ → Bool) → inside start ≡ true → drain graph.edges rooms inside ≡ most → All (λ vertex. inside vertex ≡ true) targets) → IsSharedMistake survey group Shows
          shows weigh anchored all = λ inside free. by inside free (cases_Bool (ltb (own survey group inside) (rest survey group inside)))
            where
              none_cut : (inside : List ℕ → Bool) (observations : List Observed) → All (λ o. group o ≡ true → crosses inside o ≡ false) observations → own_cut observations survey.weights group inside ≡ 0
              none_cut inside [] h = refl
              none_cut inside (o ∷ observations) h =
                  let here = All-head (λ o. group o ≡ true → crosses inside o ≡ false) o observations h in
                  let rest = none_cut inside observations (All-tail (λ o. group o ≡ true → crosses inside o ≡ false) o observations h) in
                  let one = choose (group o) here in
                  let more = sum_by-cons (λ (x : Observed). if group x then (if crosses inside x then weight_of survey.weights x.station x.target else 0) else 0) o observations in
                  omega arith
                where
                  choose : (g : Bool) → (g ≡ true → crosses inside o ≡ false) → (if g then (if crosses inside o then weight_of survey.weights o.station o.target else 0) else 0) ≡ 0
                  choose true none = ap (λ (c : Bool). if c then weight_of survey.weights o.station o.target else 0) (none refl)
                  choose false none = refl

              by : (inside : List ℕ → Bool) → IsFreeWithPoint survey inside → (ltb (own survey group inside) (rest survey group inside) ≡ true) ⊎ (ltb (own survey group inside) (rest survey group inside) ≡ false) → own survey group inside < rest survey group inside
              by inside free (inl less) = ltb-true (own survey group inside) (rest survey group inside) less
              by inside free (inr heavy) =
                  let side = side_of inside free.free in
                  let drains = drain_is graph inside side.0 is side.1 side.2 in
                  let more = no_less inside free.free in
                  let no_more = ltb-false (own survey group inside) (rest survey group inside) heavy in
                  let on = all side.0 side.1 (omega arith) in
                  let none : own survey group inside ≡ 0 = none_cut inside survey.observations (λ k d within own. seen inside side.0 (get_or survey.observations k d) side.1 (side.2 k d within) own ∙ ap not (All-contains (λ vertex. side.0 vertex ≡ true) targets (far_vertex survey start (get_or survey.observations k d)) on (are.all k d within own))) in
                  cuts_other survey group inside weigh anchored free none

-- ---- groups of the same observations
module _ (survey : Survey) (group other : Observed → Bool) where
  own_same : (inside : List ℕ → Bool) (observations : List Observed) → All (λ o. group o ≡ other o) observations → own_cut observations survey.weights group inside ≡ own_cut observations survey.weights other inside
  own_same inside [] h = refl
  own_same inside (o ∷ observations) h =
      let here = ap (λ (g : Bool). if g then (if crosses inside o then weight_of survey.weights o.station o.target else 0) else 0) (All-head (λ o. group o ≡ other o) o observations h) in
      let rest = own_same inside observations (All-tail (λ o. group o ≡ other o) o observations h) in
      let a = sum_by-cons (λ (x : Observed). if group x then (if crosses inside x then weight_of survey.weights x.station x.target else 0) else 0) o observations in
      let b = sum_by-cons (λ (x : Observed). if other x then (if crosses inside x then weight_of survey.weights x.station x.target else 0) else 0) o observations in
      omega arith

  weight_same : (observations : List Observed) → All (λ o. group o ≡ other o) observations → weight_in observations survey.weights group ≡ weight_in observations survey.weights other
  weight_same [] h = refl
  weight_same (o ∷ observations) h =
      let here = ap (λ (g : Bool). if g then weight_of survey.weights o.station o.target else 0) (All-head (λ o. group o ≡ other o) o observations h) in
      let rest = weight_same observations (All-tail (λ o. group o ≡ other o) o observations h) in
      let a = sum_by-cons (λ (x : Observed). if group x then weight_of survey.weights x.station x.target else 0) o observations in
      let b = sum_by-cons (λ (x : Observed). if other x then weight_of survey.weights x.station x.target else 0) o observations in
      omega arith

  rest_same : (inside : List ℕ → Bool) (observations : List Observed) → All (λ o. group o ≡ other o) observations → rest_cut observations survey.weights group inside ≡ rest_cut observations survey.weights other inside
  rest_same inside [] h = refl
  rest_same inside (o ∷ observations) h =
      let here = ap (λ (g : Bool). if g then 0 else (if crosses inside o then weight_of survey.weights o.station o.target else 0)) (All-head (λ o. group o ≡ other o) o observations h) in
      let rest = rest_same inside observations (All-tail (λ o. group o ≡ other o) o observations h) in
      let a = sum_by-cons (λ (x : Observed). if group x then 0 else (if crosses inside x then weight_of survey.weights x.station x.target else 0)) o observations in
      let b = sum_by-cons (λ (x : Observed). if other x then 0 else (if crosses inside x then weight_of survey.weights x.station x.target else 0)) o observations in
      omega arith

  same_outweighed : (inside : List ℕ → Bool) → All (λ o. group o ≡ other o) survey.observations → IsOutweighed survey group inside → IsOutweighed survey other inside
  same_outweighed inside same is =
      let a = own_same inside survey.observations same in
      let b = rest_same inside survey.observations same in
      let less = is.less in
      record { is = is.is; less = omega arith }

  same_alone : (inside : List ℕ → Bool) → All (λ o. group o ≡ other o) survey.observations → IsAlone survey group inside → IsAlone survey other inside
  same_alone inside same is =
      let a = own_same inside survey.observations same in
      let b = rest_same inside survey.observations same in
      let c = weight_same survey.observations same in
      let whole = is.whole in
      let none = is.none in
      record { is = same_outweighed inside same is.is; whole = omega arith; none = omega arith }

module _ (survey : Survey) (group other : Observed → Bool) (same : All (λ o. group o ≡ other o) survey.observations) where
  same_mistake : (mistake : SharedMistake) → IsSharedMistake survey group mistake → IsSharedMistake survey other mistake
  same_mistake Shows is = λ inside free. let less = is inside free in let a = own_same survey group other inside survey.observations same in let b = rest_same survey group other inside survey.observations same in omega arith
  same_mistake Ties is =
      let a = own_same survey group other is.1.0 survey.observations same in
      let b = rest_same survey group other is.1.0 survey.observations same in
      let even = is.1.2 in
      ((λ inside free. let most = is.0 inside free in let a = own_same survey group other inside survey.observations same in let b = rest_same survey group other inside survey.observations same in omega arith), (is.1.0, is.1.1, omega arith))
  same_mistake Drags is = (
    (is.0.0, same_outweighed survey group other is.0.0 same is.0.1),
    λ inside alone. is.1 inside (same_alone survey other group inside (λ k d within. sym (same k d within)) alone),
  )
  same_mistake Unchecked is = (is.0, same_alone survey group other is.0 same is.1)

  same_least : (inside : List ℕ → Bool) → IsLeastSet survey group inside → IsLeastSet survey other inside
  same_least inside is = record {
    is = is.is;
    least = λ more free.
        let low = is.least more free in
        let a = own_same survey group other inside survey.observations same in
        let b = rest_same survey group other inside survey.observations same in
        let c = own_same survey group other more survey.observations same in
        let d = rest_same survey group other more survey.observations same in
        omega arith;
  }

  marks_same : map group survey.observations ≡ map other survey.observations
  marks_same = by survey.observations same
    where
      by : (observations : List Observed) → All (λ o. group o ≡ other o) observations → map group observations ≡ map other observations
      by [] h = refl
      by (o ∷ observations) h =
          ap (λ (b : Bool). b ∷ map group observations) (All-head (λ o. group o ≡ other o) o observations h)
          ∙ ap (λ (bs : List Bool). other o ∷ bs) (by observations (All-tail (λ o. group o ≡ other o) o observations h))

  -- so what the mistake does in one group it does in the other
  pub same_effect : (effect : Effect) → IsEffect survey group effect → IsEffect survey other effect
  same_effect effect is = record { word = same_mistake effect.mistake is.word; blame = by effect.blame is.blame }
    where
      by : (blame : Option Blame) → HasBlame survey group effect.mistake blame → HasBlame survey other effect.mistake blame
      by None h = h
      by (Some blame) h = (h.0, (h.1.0, same_least h.1.0 h.1.1, subst (λ (marks : List Bool). IsBlame survey marks h.1.0 blame) marks_same h.1.2))
