-- The other ends of some observations, one observation after another.
use Rattle.std.proofs.Common.{◌≡◌, ℕ, zero, suc, inl, inr, pos, ◌+◌, ◌-◌, ◌<◌, ◌≤◌, Bool, true, false, List, [], ◌∷◌, ◌++◌, get_or, map, take, replicate, Contains, if◌then◌else◌, length, sum_by, refl, sym, ap, ◌∙◌, subst, arith}
use Rattle.std.specs.Prelude.{slice_set}
use borrow.Author.Count.{below_more}
use Rattle.std.proofs.lemmas.Bool.{cases_lt, false≢true}
use Rattle.std.proofs.lemmas.List.{get_or_append_left, get_or_default, get_or_push, get_or-map, length-append, length-map, length-replicate, length-set, take_all}
use Rattle.std.proofs.lemmas.List.Sums.{sum_by_more, sum_by_more_le}
use Rattle.th_observations.specs.Observed.{Observed}
use Rattle.th_tables.specs.Rows.{weight_of}
use Rattle.th_network.specs.Networks.{Survey, vertices_of, weights_of}
use Rattle.th_cuts.specs.Drains.{room_at, room_in}
use Rattle.th_cuts.specs.Graphs.{edge_at}
use Rattle.th_cuts.specs.declared.edges.Edge.{Edge}
use Rattle.th_cuts.proofs.RoomLemmas.{room_in_least, room_in_more, room_in_zeros}
use Rattle.th_reliability.specs.Blunders.{weight_in}
use Rattle.th_reliability.specs.Edges.{edge_of}
use Rattle.th_reliability.specs.Inside.Targets.{AreEdges, AreTargets, far_end, far_vertex, group_room, room_of}

-- what is known of room and weight after the first observations, whichever share the mistake
pub record AreSized (survey : Survey) (edges : List Edge) (i weight : ℕ) (rooms : List ℕ) : Type 0 where
  pub each : length rooms ≡ vertices_of survey
  pub few : room_in rooms (λ _. true) ≡ weight + weight
  pub light : weight ≤ sum_by (λ (e : Edge). e.weight) (take i edges)

-- what is known of a group after the first observations
pub record AreFound (survey : Survey) (group : Observed → Bool) (start i weight : ℕ) (rooms targets : List ℕ) : Type 0 where
  pub weighs : weight ≡ weight_in (take i survey.observations) survey.weights group
  pub room : (inside : ℕ → Bool) → room_in rooms inside ≡ group_room survey group start inside (take i survey.observations)
  pub all : (k : ℕ) (d : Observed) → k < i → group (get_or survey.observations k d) ≡ true → Contains targets (far_vertex survey start (get_or survey.observations k d))
  pub only : (target : ℕ) → Contains targets target → (o : Observed) × Contains survey.observations o × (group o ≡ true) × (far_vertex survey start o ≡ target)

pub nowhere : Observed
nowhere = record { station = []; target = []; difference = pos 0; book = 0; line = 0 }

-- whether an observation is of the group, by the list of marks
pub mark_is : (survey : Survey) (group : Observed → Bool) (marks : List Bool) (i : ℕ) → marks ≡ map group survey.observations → i < length survey.observations → get_or marks i false ≡ group (get_or survey.observations i nowhere)
mark_is survey group marks i same within = ap (λ (all : List Bool). get_or all i false) same ∙ get_or-map group survey.observations i nowhere false within

-- the same by other numbers and lists
pub same_found : (survey : Survey) (group : Observed → Bool) (start i : ℕ) (weight weight2 : ℕ) (rooms rooms2 targets targets2 : List ℕ) → weight2 ≡ weight → rooms2 ≡ rooms → targets2 ≡ targets → AreFound survey group start i weight rooms targets → AreFound survey group start i weight2 rooms2 targets2
same_found survey group start i weight weight2 rooms rooms2 targets targets2 a b c found =
    subst (λ (n : ℕ). AreFound survey group start i n rooms2 targets2) (sym a) (subst (λ (r : List ℕ). AreFound survey group start i weight r targets2) (sym b) (subst (λ (t : List ℕ). AreFound survey group start i weight rooms t) (sym c) found))

pub same_sized : (survey : Survey) (edges : List Edge) (i : ℕ) (weight weight2 : ℕ) (rooms rooms2 : List ℕ) → weight2 ≡ weight → rooms2 ≡ rooms → AreSized survey edges i weight rooms → AreSized survey edges i weight2 rooms2
same_sized survey edges i weight weight2 rooms rooms2 a b sized =
    subst (λ (n : ℕ). AreSized survey edges i n rooms2) (sym a) (subst (λ (r : List ℕ). AreSized survey edges i weight r) (sym b) sized)

module _ (survey : Survey) (edges : List Edge) (is : AreEdges survey edges) where
  pub sized_start : AreSized survey edges 0 0 (replicate (vertices_of survey) 0)
  sized_start = record { each = length-replicate (vertices_of survey) 0; few = room_in_zeros (vertices_of survey) (λ _. true); light = omega arith }

  pub found_start : (group : Observed → Bool) (start : ℕ) → AreFound survey group start 0 0 (replicate (vertices_of survey) 0) []
  found_start group start = record {
    weighs = refl;
    room = λ inside. room_in_zeros (vertices_of survey) inside;
    all = λ k d h own. absurd (omega arith);
    only = λ target has. let none = has.1 in absurd (omega arith);
  }

  -- the edge of an observation
  pub edge_is : (i : ℕ) (o : Observed) → i < length survey.observations → o ≡ get_or survey.observations i o → edge_at edges i ≡ edge_of survey.observations survey.benchmarks survey.weights o
  edge_is i o within here = ap (λ (es : List Edge). edge_at es i) is.all ∙ get_or-map (edge_of survey.observations survey.benchmarks survey.weights) survey.observations i o (edge_at [] 0) within ∙ ap (edge_of survey.observations survey.benchmarks survey.weights) (sym here)

  pub edges_long : length edges ≡ length survey.observations
  edges_long = ap (λ (es : List Edge). length es) is.all ∙ length-map survey.observations (edge_of survey.observations survey.benchmarks survey.weights)

  -- the ends of an edge are vertices
  far_within : (start i : ℕ) → i < length edges → far_end start (edge_at edges i) < vertices_of survey
  far_within start i within = by (edge_at edges i).tail (edge_at edges i).head (is.ends i (edge_at [] 0) within)
    where
      choose : (b : Bool) (t h : ℕ) → (t < vertices_of survey) × (h < vertices_of survey) → (if b then h else t) < vertices_of survey
      choose true t h ends = ends.1
      choose false t h ends = ends.0

      by : (t h : ℕ) → (t < vertices_of survey) × (h < vertices_of survey) → far_end start (edge_at edges i) < vertices_of survey
      by t h ends = choose _ (edge_at edges i).tail (edge_at edges i).head (is.ends i (edge_at [] 0) within)

  -- the weight that the network lists is that of the edge
  pub heavy_is : (listed : List ℕ) (i : ℕ) → listed ≡ weights_of survey → i < length survey.observations → get_or listed i 0 ≡ (edge_at edges i).weight
  heavy_is listed i same within =
      let weight_at = λ (o : Observed). weight_of survey.weights o.station o.target in
      let o : Observed = get_or survey.observations i nowhere in
      ap (λ (all : List ℕ). get_or all i 0) same ∙ get_or-map weight_at survey.observations i nowhere 0 within
      ∙ sym (ap (λ (e : Edge). e.weight) (edge_is i o within (get_or_default survey.observations i nowhere o within)))

  -- ---- one that shares the mistake
  module _ (start i weight : ℕ) (rooms : List ℕ) (sized : AreSized survey edges i weight rooms) (within : i < length edges) where
    weighs_more : sum_by (λ (e : Edge). e.weight) (take (i + 1) edges) ≡ sum_by (λ (e : Edge). e.weight) (take i edges) + (edge_at edges i).weight
    weighs_more = sum_by_more (λ (e : Edge). e.weight) edges i (edge_at [] 0) within

    pub far_inside : far_end start (edge_at edges i) < length rooms
    far_inside = let each = sized.each in let inner = far_within start i within in omega arith

    -- its weight fits
    pub weight_fits : weight + (edge_at edges i).weight ≤ sum_by (λ (e : Edge). e.weight) edges
    weight_fits =
        let light = sized.light in
        let all = sum_by_more_le (λ (e : Edge). e.weight) edges i (edge_at [] 0) within in
        omega arith

    pub room_fits : room_at rooms (far_end start (edge_at edges i)) ≤ weight + weight
    room_fits =
        let most = room_in_least rooms (λ _. true) (far_end start (edge_at edges i)) refl in
        let few = sized.few in
        omega arith

    pub sized_hold : (far heavy : ℕ) → far ≡ far_end start (edge_at edges i) → heavy ≡ (edge_at edges i).weight → AreSized survey edges (i + 1) (weight + heavy) (slice_set rooms far (room_at rooms far + (heavy + heavy)))
    sized_hold far heavy far_is heavy_is =
        let there = far_inside in
        let inner : far < length rooms = omega arith in
        let set = room_in_more rooms (λ _. true) far (heavy + heavy) inner in
        let long = length-set rooms far (room_at rooms far + (heavy + heavy)) in
        let each = sized.each in
        let few = sized.few in
        let light = sized.light in
        let more = weighs_more in
        record { each = omega arith; few = omega arith; light = omega arith }

  -- one that does not
  pub sized_skip : (i weight : ℕ) (rooms : List ℕ) → AreSized survey edges i weight rooms → i < length edges → AreSized survey edges (i + 1) weight rooms
  sized_skip i weight rooms sized within =
      let more = sum_by_more (λ (e : Edge). e.weight) edges i (edge_at [] 0) within in
      let light = sized.light in
      record { each = sized.each; few = sized.few; light = omega arith }

  module _ (group : Observed → Bool) (start i weight : ℕ) (rooms targets : List ℕ) (o : Observed) (found : AreFound survey group start i weight rooms targets) (within : i < length survey.observations) (here : o ≡ get_or survey.observations i o) where
    at : (d : Observed) → get_or survey.observations i d ≡ o
    at d = get_or_default survey.observations i d o within ∙ sym here

    sums : (f : Observed → ℕ) → sum_by f (take (i + 1) survey.observations) ≡ sum_by f (take i survey.observations) + f o
    sums f = sum_by_more f survey.observations i o within ∙ ap (λ (x : Observed). sum_by f (take i survey.observations) + f x) (sym here)

    pub found_skip : group o ≡ false → AreFound survey group start (i + 1) weight rooms targets
    found_skip off = record {
      weighs = let more = sums (λ o. if group o then weight_of survey.weights o.station o.target else 0) in let none = ap (λ (b : Bool). if b then weight_of survey.weights o.station o.target else 0) off in let before = found.weighs in omega arith;
      room = λ inside. let more = sums (λ o. if group o then room_of survey start inside o else 0) in let none = ap (λ (b : Bool). if b then room_of survey start inside o else 0) off in let before = found.room inside in omega arith;
      all = λ k d h. below_more (λ k. (d : Observed) → group (get_or survey.observations k d) ≡ true → Contains targets (far_vertex survey start (get_or survey.observations k d))) i (λ k h d own. found.all k d h own) (λ d own. absurd (false≢true (sym off ∙ ap group (sym (at d)) ∙ own))) k h d;
      only = found.only;
    }

    contains_more : (target more : ℕ) → Contains targets target → Contains (targets ++ more ∷ []) target
    contains_more target more (k, inner, is) =
        let long = length-append targets (more ∷ []) in
        (k, omega arith, get_or_append_left targets (more ∷ []) target k inner ∙ is)

    contains_last : (more : ℕ) → Contains (targets ++ more ∷ []) more
    contains_last more =
        let long = length-append targets (more ∷ []) in
        (length targets, omega arith, get_or_push targets more more (length targets) refl)

    pub found_hold : (far heavy : ℕ) → far ≡ far_end start (edge_at edges i) → heavy ≡ (edge_at edges i).weight → far < length rooms → group o ≡ true → AreFound survey group start (i + 1) (weight + heavy) (slice_set rooms far (room_at rooms far + (heavy + heavy))) (targets ++ far ∷ [])
    found_hold far heavy far_is heavy_is inner on =
        let same = edge_is i o within here in
        let there : far ≡ far_vertex survey start o = far_is ∙ ap (far_end start) same in
        let weighs : heavy ≡ weight_of survey.weights o.station o.target = heavy_is ∙ ap (λ (e : Edge). e.weight) same in
        record {
          weighs =
              let more = sums (λ o. if group o then weight_of survey.weights o.station o.target else 0) in
              let some = ap (λ (b : Bool). if b then weight_of survey.weights o.station o.target else 0) on in
              let before = found.weighs in
              omega arith;
          room = λ inside.
              let more = sums (λ o. if group o then room_of survey start inside o else 0) in
              let some = ap (λ (b : Bool). if b then room_of survey start inside o else 0) on in
              let before = found.room inside in
              let set = room_in_more rooms inside far (heavy + heavy) inner in
              let gives : (if inside far then heavy + heavy else 0) ≡ room_of survey start inside o = ap (λ (v : ℕ). if inside v then heavy + heavy else 0) there ∙ ap (λ (w : ℕ). if inside (far_vertex survey start o) then w + w else 0) weighs in
              omega arith;
          all = λ k d h. below_more (λ k. (d : Observed) → group (get_or survey.observations k d) ≡ true → Contains (targets ++ far ∷ []) (far_vertex survey start (get_or survey.observations k d))) i
              (λ k h d own. contains_more (far_vertex survey start (get_or survey.observations k d)) far (found.all k d h own))
              (λ d own. subst (λ (v : ℕ). Contains (targets ++ far ∷ []) v) (there ∙ ap (far_vertex survey start) (sym (at d))) (contains_last far))
              k h d;
          only = only there;
        }
      where
        only : far ≡ far_vertex survey start o → (target : ℕ) → Contains (targets ++ far ∷ []) target → (o : Observed) × Contains survey.observations o × (group o ≡ true) × (far_vertex survey start o ≡ target)
        only there target (k, inner, found_there) = below_more (λ k. get_or (targets ++ far ∷ []) k target ≡ target → (o : Observed) × Contains survey.observations o × (group o ≡ true) × (far_vertex survey start o ≡ target)) (length targets)
            (λ k h is. found.only target (k, h, sym (get_or_append_left targets (far ∷ []) target k h) ∙ is))
            (λ is. (o, (i, within, at o), on, sym there ∙ sym (get_or_push targets far target (length targets) refl) ∙ is))
            k (let long = length-append targets (far ∷ []) in omega arith) found_there

  -- ---- several that do not
  pub sized_skips : (count i j weight : ℕ) (rooms : List ℕ) → j ≡ i + count → j ≤ length edges → AreSized survey edges i weight rooms → AreSized survey edges j weight rooms
  sized_skips zero i j weight rooms there within sized = subst (λ (n : ℕ). AreSized survey edges n weight rooms) (omega arith) sized
  sized_skips (suc count) i j weight rooms there within sized =
      sized_skips count (i + 1) j weight rooms (omega arith) within (sized_skip i weight rooms sized (omega arith))

  pub found_skips : (group : Observed → Bool) (start : ℕ) (marks : List Bool) (same : marks ≡ map group survey.observations) (count i j weight : ℕ) (rooms targets : List ℕ) → j ≡ i + count → j ≤ length survey.observations → ((k : ℕ) → i ≤ k → k < j → get_or marks k false ≡ false) → AreFound survey group start i weight rooms targets → AreFound survey group start j weight rooms targets
  found_skips group start marks same zero i j weight rooms targets there within off found = subst (λ (n : ℕ). AreFound survey group start n weight rooms targets) (omega arith) found
  found_skips group start marks same (suc count) i j weight rooms targets there within off found =
      let inner : i < length survey.observations = omega arith in
      let o : Observed = get_or survey.observations i nowhere in
      let here : o ≡ get_or survey.observations i o = get_or_default survey.observations i nowhere o inner in
      found_skips group start marks same count (i + 1) j weight rooms targets (omega arith) within (λ k h. off k (omega arith))
      (found_skip group start i weight rooms targets o found inner here (sym (mark_is survey group marks i same inner) ∙ off i (omega arith) (omega arith)))

  pub found_all : (group : Observed → Bool) (start i weight : ℕ) (rooms targets : List ℕ) → length survey.observations ≤ i → AreFound survey group start i weight rooms targets → AreTargets survey group start rooms targets × (weight ≡ weight_in survey.observations survey.weights group)
  found_all group start i weight rooms targets past found =
      let whole = take_all i survey.observations past in (
        record {
          room = λ inside. found.room inside ∙ ap (group_room survey group start inside) whole;
          all = λ k d within own. found.all k d (omega arith) own;
          only = found.only;
        },
        found.weighs ∙ ap (λ (os : List Observed). weight_in os survey.weights group) whole,
      )

  -- none is marked from a place on
  pub found_rest : (group : Observed → Bool) (start : ℕ) (marks : List Bool) (same : marks ≡ map group survey.observations) (i weight : ℕ) (rooms targets : List ℕ) → ((k : ℕ) → i ≤ k → get_or marks k false ≡ false) → AreFound survey group start i weight rooms targets → AreTargets survey group start rooms targets × (weight ≡ weight_in survey.observations survey.weights group)
  found_rest group start marks same i weight rooms targets off found = elim (cases_lt i (length survey.observations)) [
    | inl less ↦
        let all = length survey.observations in
        found_all group start all weight rooms targets (omega arith)
        (found_skips group start marks same (all - i) i all weight rooms targets (omega arith) (omega arith) (λ k h before. off k h) found)
    | inr more ↦ found_all group start i weight rooms targets more found
  ]
