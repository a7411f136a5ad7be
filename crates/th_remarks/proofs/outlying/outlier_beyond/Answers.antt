use Rattle.std.proofs.Common.{◌≡◌, ◌<◌, ◌≤◌, ◌*◌, ◌∙◌, ◌≤ℤ◌, ℕ, ℤ, pos, false, List, Some, get_or, length, of_z, slice_get, to_z, unsigned_abs, w64, refl, ap, sym, subst, arith}
use Rattle.std.proofs.lemmas.Int.{ints}
use Rattle.std.proofs.lemmas.List.{length-map}
use Rattle.std.proofs.lemmas.Option.{slice_get_read}
use Rattle.std.proofs.lemmas.Slice.Zip.{length-zip}
use Rattle.std.specs.List.{zip}
use Rattle.th_observations.specs.Observed.{Observed}
use Rattle.th_blunders.specs.Blunders.{is_blunder}
use Rattle.th_blunders.specs.Residuals.{residual_limit}
use Rattle.th_network.specs.Networks.{weights_of}
use Rattle.th_tables.specs.Rows.{weight_of}
use Rattle.th_remarks.specs.Outliers.{IsLargestUnmarked, far_beyond, proposed_limit, sight_at, size_at, times_as_large, weighed}
use Rattle.th_remarks.proofs.GapLemmas.{not_above}
use Rattle.th_remarks.proofs.MedianLemmas.{one_median}
use Rattle.th_remarks.proofs.SightLemmas.{marked_there, marks_it, plain, sight_there, size_there}
use Rattle.th_remarks.proofs.outlying.outlier_beyond.Goals as goal

-- the farthest sight, by the limit and the weights of the network
found : (given bits : ℤ) (weights own : List ℕ) (residuals : List ℤ) (place : ℕ) → bits ≡ given → own ≡ weights
    → IsLargestUnmarked bits (zip own residuals) (length residuals) place → IsLargestUnmarked given (zip weights residuals) (length residuals) place
found given bits weights own residuals place same is far =
    subst (λ limit. IsLargestUnmarked limit (zip weights residuals) (length residuals) place) same (subst (λ own. IsLargestUnmarked bits (zip own residuals) (length residuals) place) is far)

-- the weighted size that was computed
size_is : (weights own : List ℕ) (residuals : List ℤ) (place weighted : ℕ) (bits : ℤ) → place < length weights → place < length residuals → own ≡ weights
    → weighted ≡ get_or own place 0 * unsigned_abs bits → bits ≡ get_or residuals place (pos 0) → weighted ≡ size_at (zip weights residuals) place
size_is weights own residuals place weighted bits light within is value same =
    value ∙ ap (λ (residual : ℤ). get_or own place 0 * unsigned_abs residual) same
    ∙ ap (λ (own : List ℕ). get_or own place 0 * unsigned_abs (get_or residuals place (pos 0))) is
    ∙ sym (size_there weights residuals place light within)

pub returns-then-weighted-usual-clause-note : goal.returns-then-weighted-usual-clause-note
returns-then-weighted-usual-clause-note c = λ usual place is_usual unmarked.
    let network = c.args.network.now in
    let residuals : List ℤ = c.args.residuals.now in
    let weights : List ℕ = weights_of network in
    let own : ℕ = c.in_ok-place.place in
    let same : to_z w64 (of_z w64 c.args.limit) ≡ c.args.limit = omega (arith, ints, c.ranges.limit) in
    let far = found c.args.limit _ weights c.weights-weights.result.now residuals own same c.weights-weights.ensures.weights c.in_ok-place.ensures in
    let within : own < length residuals = far.there.within in
    let there : length weights ≡ length network.observations = length-map network.observations (λ (o : Observed). weight_of network.weights o.station o.target) in
    let light : own < length weights = omega (arith, there, within, c.requires.each) in
    let size = size_is weights c.weights-weights.result.now residuals own c.weighted_size-weighted.result _ light within c.weights-weights.ensures.weights c.weighted_size-weighted.ensures.value (plain residuals own c.requires.small within) in
    let one : usual ≡ c.args.usual = one_median _ usual c.args.usual is_usual.median c.requires.usual.median in
    let large = far.largest place unmarked in
    omega (arith, one, large, size, c.if-weighted-usual.true)

pub returns-clause-note : goal.returns-clause-note
returns-clause-note c =
    let network = c.args.network.now in
    let residuals : List ℤ = c.args.residuals.now in
    let weights : List ℕ = weights_of network in
    let own : ℕ = c.in_ok-place.place in
    let same : to_z w64 (of_z w64 c.args.limit) ≡ c.args.limit = omega (arith, ints, c.ranges.limit) in
    let far = found c.args.limit _ weights c.weights-weights.result.now residuals own same c.weights-weights.ensures.weights c.in_ok-place.ensures in
    let within : own < length residuals = far.there.within in
    let there : length weights ≡ length network.observations = length-map network.observations (λ (o : Observed). weight_of network.weights o.station o.target) in
    let light : own < length weights = omega (arith, there, within, c.requires.each) in
    let size = size_is weights c.weights-weights.result.now residuals own c.weighted_size-weighted.result _ light within c.weights-weights.ensures.weights c.weighted_size-weighted.ensures.value (plain residuals own c.requires.small within) in
    let all : length residuals ≡ length (weighed network residuals) = omega (arith, length-zip weights residuals, there, c.requires.each) in
    let sight = sight_there weights residuals own light within in
    let o : Observed = c.index-observations-place.result in
    let listed : List Observed = c.observations.result.now in
    let inside : own < length listed = omega (arith, ap length c.observations.ensures.observations, within, c.requires.each) in
    record {
      usual = c.args.usual;
      is_usual = c.requires.usual;
      place = own;
      farthest = subst (λ count. IsLargestUnmarked c.args.limit (weighed network residuals) count own) all far;
      beyond = omega (arith, size, c.if-weighted-usual.false);
      o = o;
      observed = subst (λ (observations : List Observed). slice_get observations own ≡ Some o) c.observations.ensures.observations (slice_get_read listed (length listed) own o refl inside c.index-observations-place.is);
      book = ap (λ (o : Observed). o.book) c.o.view_is;
      line = ap (λ (o : Observed). o.line) c.o.view_is;
      size = c.unsigned_abs-size.ensures.value ∙ ap unsigned_abs (plain residuals own c.requires.small within) ∙ sym (ap (λ (sight : ℕ × ℤ). unsigned_abs sight.1) sight);
      times = c.times_as_large.ensures ∙ ap (λ (size : ℕ). times_as_large size c.args.usual) size;
      limit = c.proposed_limit.ensures ∙ ap (λ (weights : List ℕ). proposed_limit (get_or weights own 0) c.args.usual) c.weights-weights.ensures.weights ∙ sym (ap (λ (sight : ℕ × ℤ). proposed_limit sight.0 c.args.usual) sight);
    }

pub returns-clause-marked : goal.returns-clause-marked
returns-clause-marked c =
    let residuals : List ℤ = c.args.residuals.now in
    let own : ℕ = c.in_ok-place.place in
    let within : own < length residuals = c.in_ok-place.ensures.there.within in
    let size : c.unsigned_abs-size.result ≡ unsigned_abs (to_z w64 (of_z w64 (get_or residuals own (pos 0)))) = c.unsigned_abs-size.ensures.value in
    let beyond : far_beyond c.args.usual < get_or c.weights-weights.result.now own 0 * c.unsigned_abs-size.result = rw size (omega (arith, c.weighted_size-weighted.ensures.value, c.if-weighted-usual.false)) in
    marks_it (far_beyond c.args.usual) (get_or c.weights-weights.result.now own 0) c.unsigned_abs-size.result c.proposed_limit.result beyond (omega (arith, c.proposed_limit.ensures))

pub returns-clause-below : goal.returns-clause-below
returns-clause-below c =
    let network = c.args.network.now in
    let residuals : List ℤ = c.args.residuals.now in
    let weights : List ℕ = weights_of network in
    let own : ℕ = c.in_ok-place.place in
    let same : to_z w64 (of_z w64 c.args.limit) ≡ c.args.limit = omega (arith, ints, c.ranges.limit) in
    let far = found c.args.limit _ weights c.weights-weights.result.now residuals own same c.weights-weights.ensures.weights c.in_ok-place.ensures in
    let within : own < length residuals = far.there.within in
    let there : length weights ≡ length network.observations = length-map network.observations (λ (o : Observed). weight_of network.weights o.station o.target) in
    let light : own < length weights = omega (arith, there, within, c.requires.each) in
    let unmarked : is_blunder c.args.limit (get_or residuals own (pos 0)) ≡ false = sym (marked_there c.args.limit weights residuals own light within) ∙ far.there.unmarked in
    let small : pos (unsigned_abs (get_or residuals own (pos 0))) ≤ℤ c.args.limit = not_above c.args.limit (pos (unsigned_abs (get_or residuals own (pos 0)))) unmarked in
    let size : c.unsigned_abs-size.result ≡ unsigned_abs (get_or residuals own (pos 0)) = c.unsigned_abs-size.ensures.value ∙ ap unsigned_abs (plain residuals own c.requires.small within) in
    rw size small
