-- The lines of the table of residuals, one observation further.
use Rattle.std.proofs.Common.{◌≡◌, ◌<◌, ◌+◌, ◌++◌, ◌∷◌, ℕ, ℤ, Bool, true, false, pos, List, Some, drop, filter, get_or, if◌then◌else◌, length, slice_get, sym, ap, ◌∙◌, arith}
use Rattle.std.specs.List.{enumerate_from, flat_map, zip}
use Rattle.std.proofs.lemmas.List.{get_or_default}
use Rattle.th_observations.specs.Observed.{Observed}
use Rattle.th_tables.specs.Rows.{weight_of}
use Rattle.th_network.specs.Networks.{Survey, weights_of}
use Rattle.th_blunders.specs.Blunders.{is_blunder}
use Rattle.th_report.specs.Reports.{line_in, residual_line}
use Rattle.th_columns.proofs.RowLemmas.{found_there, further, paired-first}

module _ (survey : Survey) (residuals : List ℤ) (limit : ℤ) where
  -- the rows from a place on
  abbrev pub rows_left : ℕ → List (ℕ × (Observed × ℤ))
  rows_left i = enumerate_from (i + 1) (zip (drop i survey.observations) (drop i residuals))

  -- those that are blunders
  abbrev pub blunders_left : ℕ → List (ℕ × (Observed × ℤ))
  blunders_left i = filter (λ row. is_blunder limit row.1.1) (rows_left i)

  module _ (i : ℕ) (o : Observed) (residual : ℤ) (within : i < length survey.observations) (each : length residuals ≡ length survey.observations) (is : o ≡ get_or survey.observations i o) (at : residual ≡ get_or residuals i (pos 0)) where
    row : ℕ × (Observed × ℤ)
    row = (i + 1, (o, residual))

    first_row : rows_left i ≡ row ∷ rows_left (i + 1)
    unfolding row
    first_row = paired-first survey.observations residuals i o residual within (omega arith) is (at ∙ get_or_default residuals i (pos 0) residual (omega arith))

    line_there : (weight : ℕ) → slice_get (weights_of survey) i ≡ Some weight → residual_line limit (i + 1) o weight residual ≡ line_in survey limit row
    unfolding line_in row
    line_there weight found = ap (λ (weight : ℕ). residual_line limit (i + 1) o weight residual) (found_there (λ (o : Observed). weight_of survey.weights o.station o.target) survey.observations i o weight within is found)

    -- the next line of the table
    pub residuals-further : (weight : ℕ) → slice_get (weights_of survey) i ≡ Some weight → (text text' all : List ℕ) → text' ≡ text ++ residual_line limit (i + 1) o weight residual → text ++ flat_map (line_in survey limit) (rows_left i) ≡ all → text' ++ flat_map (line_in survey limit) (rows_left (i + 1)) ≡ all
    residuals-further weight found text text' all written so_far =
        further (line_in survey limit) row (rows_left i) (rows_left (i + 1)) text text' all first_row (written ∙ ap (λ line. text ++ line) (line_there weight found)) so_far

    first_blunder : (b : Bool) → is_blunder limit residual ≡ b → blunders_left i ≡ (if b then row ∷ blunders_left (i + 1) else blunders_left (i + 1))
    unfolding row
    first_blunder b so = ap (filter (λ row. is_blunder limit row.1.1)) first_row ∙ ap (λ b. if b then row ∷ blunders_left (i + 1) else blunders_left (i + 1)) so

    -- the next line of the list of blunders
    pub blunders-further : (weight : ℕ) → slice_get (weights_of survey) i ≡ Some weight → (text text' all : List ℕ) → is_blunder limit residual ≡ true → text' ≡ text ++ residual_line limit (i + 1) o weight residual → text ++ flat_map (line_in survey limit) (blunders_left i) ≡ all → text' ++ flat_map (line_in survey limit) (blunders_left (i + 1)) ≡ all
    blunders-further weight found text text' all so written so_far =
        further (line_in survey limit) row (blunders_left i) (blunders_left (i + 1)) text text' all (first_blunder true so) (written ∙ ap (λ line. text ++ line) (line_there weight found)) so_far

    -- an observation that is no blunder has none
    pub blunders-passed : (text all : List ℕ) → is_blunder limit residual ≡ false → text ++ flat_map (line_in survey limit) (blunders_left i) ≡ all → text ++ flat_map (line_in survey limit) (blunders_left (i + 1)) ≡ all
    blunders-passed text all so so_far = ap (λ rows. text ++ flat_map (line_in survey limit) rows) (sym (first_blunder false so)) ∙ so_far
