-- The group of the sight at a place is that of the sight.
use Rattle.std.proofs.Common.{◌≡◌, ◌∙◌, ◌<◌, ◌&&◌, ℕ, ℤ, pos, Bool, List, ap, get_or, length, sym}
use Rattle.std.proofs.lemmas.List.{get_or-map}
use Rattle.th_observations.specs.Observed.{Observed}
use Rattle.th_blunders.specs.Blunders.{is_blunder}
use Rattle.th_network.specs.Heights.{residual}
use Rattle.th_network.specs.Networks.{Survey, weights_of}
use Rattle.th_remarks.specs.Outliers.{weighted_size}
use Rattle.th_tables.specs.Rows.{weight_of}
use Rattle.th_answer.specs.Corrected.{Corrected}
use Rattle.th_answer.specs.Groups.{first_group, group_of, is_beyond, size_of, stays_marked}
use Rattle.th_answer.specs.Inside.Judging.{IsJudge, all_marked, group_at, is_in_any, is_unlike_at, judged_in, size_in}
use Rattle.th_answer.specs.declared.judge.Judge.{Judge}
use Rattle.th_answer.proofs.PlaceLemmas.{marks_there}

-- the residual at a place
residual_there : (judge : Judge) (heights : List ℕ → ℤ) (after : List Corrected) (k : ℕ) (o : Observed) → IsJudge judge heights after → k < length judge.network.now.observations → o ≡ get_or judge.network.now.observations k o → get_or judge.residuals.now k (pos 0) ≡ residual o heights
residual_there judge heights after k o is within here =
    ap (λ (residuals : List ℤ). get_or residuals k (pos 0)) is.residuals ∙ get_or-map (λ (o : Observed). residual o heights) judge.network.now.observations k o (pos 0) within ∙ ap (λ (o : Observed). residual o heights) (sym here)

-- the weight there
weight_there : (survey : Survey) (k : ℕ) (o : Observed) → k < length survey.observations → o ≡ get_or survey.observations k o → get_or (weights_of survey) k 0 ≡ weight_of survey.weights o.station o.target
weight_there survey k o within here =
    get_or-map (λ (o : Observed). weight_of survey.weights o.station o.target) survey.observations k o 0 within ∙ ap (λ (o : Observed). weight_of survey.weights o.station o.target) (sym here)

pub group_there : (judge : Judge) (heights : List ℕ → ℤ) (after : List Corrected) (k : ℕ) (o : Observed) → IsJudge judge heights after → k < length judge.network.now.observations → o ≡ get_or judge.network.now.observations k o → group_at judge k o ≡ group_of (judged_in judge heights after) o
group_there judge heights after k o is within here =
    let survey : Survey = judge.network.now in
    let own = judged_in judge heights after in
    let r = residual_there judge heights after k o is within here in
    let marked = ap (is_blunder judge.limit) r in
    let stays : all_marked judge.corrected.now k ≡ stays_marked own o = marks_there survey judge.limit after judge.corrected.now k o is.listed within here in
    let size : size_in judge k ≡ size_of own o =
    ap (λ (w : ℕ). weighted_size (w, get_or judge.residuals.now k (pos 0))) (weight_there survey k o within here) ∙ ap (λ (r : ℤ). weighted_size (weight_of survey.weights o.station o.target, r)) r in
    let unlike = ap (λ (size : ℕ). judge.is_quiet && is_beyond judge.usual size) size in
    ap (λ (marked : Bool). first_group (is_in_any judge o) marked (all_marked judge.corrected.now k) (is_unlike_at judge k)) marked
    ∙ ap (λ (stays : Bool). first_group (is_in_any judge o) (is_blunder judge.limit (residual o heights)) stays (is_unlike_at judge k)) stays
    ∙ ap (λ (unlike : Bool). first_group (is_in_any judge o) (is_blunder judge.limit (residual o heights)) (stays_marked own o) unlike) unlike
