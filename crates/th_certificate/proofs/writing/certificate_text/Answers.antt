use Rattle.std.proofs.Common.{◌≡◌, ◌++◌, ◌∷◌, [], ℕ, ℤ, All, List, OnOk, Result, Some, Ok, Err, codes, length, map, ap, rules, ◌∙◌}
use Rattle.gsi_word.specs.Names.{name_of}
use Rattle.th_observations.specs.Observed.{IsBetweenPoints}
use Rattle.th_tables.specs.Rows.{AreWeights}
use Rattle.th_network.specs.Faults.{IsNetwork}
use Rattle.std.specs.List.{enumerate_from}
use Rattle.th_network.specs.Heights.{heights_at}
use Rattle.th_network.specs.Networks.{Survey, points_of}
use Rattle.th_csv.specs.Records.{Fields}
use Rattle.th_csv.specs.Texts.{csv_text}
use Rattle.th_certificate.specs.Certified.{HeightRows}
use Rattle.th_certificate.specs.Texts.{IsCertifiable, cost_row, flow_row, header_row, height_row, heights_at_points, version_row}
use Rattle.th_certificate.proofs.TextLemmas.{holds_same, written_joined}
use Rattle.th_certificate.proofs.writing.certificate_text.Goals as goal

-- the rows of a certificate from what they say
rows_from : ℕ → HeightRows → HeightRows → HeightRows → List ℤ → ℕ → List Fields
rows_from count heights low high flows cost =
    (header_row ∷ version_row (codes "2") count ∷ [])
    ++ (map (height_row (codes "H")) heights ++ (map (height_row (codes "L")) low ++ (map (height_row (codes "U")) high ++ (map flow_row (enumerate_from 1 flows) ++ cost_row cost ∷ []))))

pub returns-clause-text : goal.returns-clause-text
unfolding rows_from
returns-clause-text c =
    let network = c.args.network.now in
    let names = points_of network in
    let heights = heights_at names c.args.heights.now in
    let low = heights_at names c.args.low.now in
    let high = heights_at names c.args.high.now in
    let flows = c.args.flows.now in
    let count : length c.observations.result.now ≡ length network.observations = ap length c.observations.ensures.observations in
    let count_rows = λ (n : ℕ) (cost : ℕ). rows_from n (heights_at_points network heights) (heights_at_points network low) (heights_at_points network high) flows cost in
    let whole : c.write_cost.new.writer.text ≡ csv_text (count_rows (length c.observations.result.now) c.args.cost) =
    written_joined c.new-writer.result.text c.write_front.new.writer.text c.write_heights.new.writer.text c.write_heights-2.new.writer.text c.write_heights-3.new.writer.text c.write_flows.new.writer.text c.write_cost.new.writer.text
    (header_row ∷ version_row (codes "2") (length c.observations.result.now) ∷ []) (map (height_row (codes "H")) (heights_at_points network heights)) (map (height_row (codes "L")) (heights_at_points network low))
    (map (height_row (codes "U")) (heights_at_points network high)) (map flow_row (enumerate_from 1 flows)) (cost_row c.args.cost ∷ [])
    c.new-writer.ensures.text c.in_ok-write_front.ensures c.in_ok-write_heights.ensures.text c.in_ok-write_heights-2.ensures.text c.in_ok-write_heights-3.ensures.text c.in_ok-write_flows.ensures c.in_ok-write_cost.ensures in
    holds_same c.into_text.result c.write_cost.new.writer.text _ c.into_text.ensures.text
    (whole ∙ ap (λ n. csv_text (count_rows n c.args.cost)) count ∙ ap (λ n. csv_text (count_rows (length network.observations) n)) c.requires.cost)

-- what is made is of a network whose names, observations and weights are in their ranges
certifiable : {X E : Type 0} (result : Result X E) (survey : Survey) → IsNetwork survey.observations survey.benchmarks → All IsBetweenPoints survey.observations
    → All (λ name. name_of name ≡ Some name) (points_of survey) → OnOk result (AreWeights survey.weights → IsCertifiable survey)
certifiable (Ok made) survey network between names = λ weights. record { network = network; between = between; weights = weights; names = names }
certifiable (Err error) survey network between names = search rules

pub returns-clause-certifiable : goal.returns-clause-certifiable
returns-clause-certifiable c =
    certifiable c.into_text.result c.args.network.now c.in_ok-write_heights.ensures.network c.observations.ensures.between c.in_ok-write_heights.ensures.names
