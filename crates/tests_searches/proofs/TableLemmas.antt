-- The rows of the table, one on another.
use Rattle.std.proofs.Common.{◌≡◌, ◌≢◌, ℕ, zero, suc, ◌+◌, ◌-◌, ◌*◌, ◌<◌, ◌≤◌, inl, inr, ℤ, pos, ◌+ℤ◌, ◌≤ℤ◌, List, [], ◌∷◌, ◌++◌, Option, None, Some, All, length, get_or, unsigned_abs, refl, sym, ap, ◌∙◌, subst, arith, mul-le-mul_right, length-append}
use Rattle.std.proofs.lemmas.Bool.{cases_lt}
use Rattle.std.proofs.lemmas.Int.{ints}
use Rattle.std.proofs.lemmas.List.{get_or-map, get_or_append_left, get_or_push}
use Rattle.std.proofs.lemmas.List.Elements.{All-from_get_or}
use Rattle.th_limits.specs.Limits.{max_points}
use Rattle.th_search.specs.Limits.{farthest, max_cost}
use Rattle.th_search.specs.Walks.{IsArc, arc_at}
use Rattle.th_search.specs.Potentials.{ArePotentials, largest_cost, value_at}
use Rattle.tests_searches.specs.Levels.{AreLevels, IsAbove, Row, last_at, row_at, row_of, rows_of}
use Rattle.th_search.specs.declared.arcs.Arc.{Arc}
use Rattle.tests_searches.specs.declared.levels.Level.{Level}
use Rattle.th_search.proofs.DepthLemmas.{arc_is}
use Rattle.th_search.proofs.AnswerLemmas.{cost_most}

-- the cost of a vertex in a row
abbrev pub cost_at : List Row → ℕ → ℕ → ℤ
cost_at rows k vertex = value_at (row_at rows k).costs vertex

-- the row of a level
pub row_of_level : (levels : List Level) (k : ℕ) (d : Level) → k < length levels → row_at (rows_of levels) k ≡ row_of (get_or levels k d)
row_of_level levels k d within = get_or-map row_of levels k d (record { costs = []; last = [] }) within

pub row_read : (levels : List Level) (k : ℕ) (level : Level) → k < length levels → level ≡ get_or levels k level → row_at (rows_of levels) k ≡ row_of level
row_read levels k level within read = row_of_level levels k level within ∙ ap row_of (sym read)

-- costs only fall from row to row
pub falls_once : (arcs : List Arc) (below above : Row) (v : ℕ) → IsAbove arcs below above → value_at above.costs v ≤ℤ value_at below.costs v
falls_once arcs below above v is = by (last_at above v) refl
  where
    by : (last : Option ℕ) → last_at above v ≡ last → value_at above.costs v ≤ℤ value_at below.costs v
    by None at = let same = is.kept v at in omega (arith, ints)
    by (Some number) at = let less = (is.fell v number at).less in omega (arith, ints)

pub falls_over : (n : ℕ) (arcs : List Arc) (rows : List Row) (v j d : ℕ) → AreLevels n arcs rows → j + d < length rows → cost_at rows (j + d) v ≤ℤ cost_at rows j v
falls_over n arcs rows v j zero levels within = let same : cost_at rows (j + 0) v ≡ cost_at rows j v = ap (λ k. cost_at rows k v) (omega arith) in omega (arith, ints)
falls_over n arcs rows v j (suc d) levels within =
    let rest = falls_over n arcs rows v j d levels (omega arith) in
    let k : suc (j + d) ≡ j + suc d = omega arith in
    let last = falls_once arcs (row_at rows (j + d)) (row_at rows (suc (j + d))) v (levels.next (j + d) (omega arith)) in
    let same = ap (λ k. cost_at rows k v) k in
    omega (arith, ints)

-- where a cost is new, so is that of its arc's tail in the row before
pub lowered_before : (n : ℕ) (arcs : List Arc) (rows : List Row) (k v number : ℕ) → AreLevels n arcs rows → suc (suc k) < length rows → last_at (row_at rows (suc (suc k))) v ≡ Some number → last_at (row_at rows (suc k)) (arc_at arcs number).tail ≢ None
lowered_before n arcs rows k v number levels within at none =
    let falls = (levels.next (suc k) within).fell v number at in
    let is = falls.is in
    let less = falls.less in
    let below = levels.next k (omega arith) in
    let kept = below.kept (arc_at arcs number).tail none in
    let least = below.least number falls.within in
    let here = ap (cost_at rows (suc k)) falls.head in
    omega (arith, ints)

pub high : (n : ℕ) (arcs : List Arc) (rows : List Row) (k v : ℕ) → AreLevels n arcs rows → k < length rows → cost_at rows k v ≤ℤ pos 0
high n arcs rows k v levels within =
    let most = falls_over n arcs rows v 0 k levels (omega arith) in
    let same : cost_at rows (0 + k) v ≡ cost_at rows k v = ap (λ k. cost_at rows k v) (omega arith) in
    let first = levels.first v in
    omega (arith, ints)

-- a cost is below zero by no more than the row's number times what bounds the costs
pub low : (n : ℕ) (arcs : List Arc) (rows : List Row) (most : ℕ) → ((number : ℕ) → number < length arcs → unsigned_abs (arc_at arcs number).cost ≤ most) → AreLevels n arcs rows → (k v : ℕ) → k < length rows → pos 0 ≤ℤ (cost_at rows k v +ℤ pos (k * most))
low n arcs rows most costs levels zero v within =
    let first = levels.first v in
    omega (arith, ints)
low n arcs rows most costs levels (suc k) v within = by (λ v. low n arcs rows most costs levels k v (omega arith)) (last_at (row_at rows (suc k)) v) refl
  where
    above : IsAbove arcs (row_at rows k) (row_at rows (suc k))
    above = levels.next k within

    by : ((v : ℕ) → pos 0 ≤ℤ (cost_at rows k v +ℤ pos (k * most))) → (last : Option ℕ) → last_at (row_at rows (suc k)) v ≡ last → pos 0 ≤ℤ (cost_at rows (suc k) v +ℤ pos (suc k * most))
    by rest None at =
        let same = above.kept v at in
        let before = rest v in
        omega (arith, ints)
    by rest (Some number) at =
        let falls = above.fell v number at in
        let is = falls.is in
        let cost = costs number falls.within in
        let before = rest (arc_at arcs number).tail in
        omega (arith, ints)

pub sized : (n : ℕ) (arcs : List Arc) (rows : List Row) (k v : ℕ) → All (IsArc n) arcs → AreLevels n arcs rows → k < length rows → k ≤ max_points → unsigned_abs (cost_at rows k v) ≤ farthest
sized n arcs rows k v all levels within few =
    let least = low n arcs rows max_cost (λ number inside. (arc_is n arcs number all inside).cost) levels k v within in
    let most = high n arcs rows k v levels within in
    omega (arith, ints)

-- the first row alone
pub levels_first : (n : ℕ) (arcs : List Arc) (row : Row) → length row.costs ≡ n → length row.last ≡ n → ((v : ℕ) → value_at row.costs v ≡ pos 0) → AreLevels n arcs (row ∷ [])
levels_first n arcs row costs last zeros = record {
  costs = λ k within. let none : k ≡ 0 = omega arith in subst (λ k. length (row_at (row ∷ []) k).costs ≡ n) (sym none) costs;
  last = λ k within. let none : k ≡ 0 = omega arith in subst (λ k. length (row_at (row ∷ []) k).last ≡ n) (sym none) last;
  first = zeros;
  next = λ k within. absurd (omega arith);
}

old_row : (rows : List Row) (row : Row) (k : ℕ) → k < length rows → row_at (rows ++ row ∷ []) k ≡ row_at rows k
old_row rows row k within = get_or_append_left rows (row ∷ []) (record { costs = []; last = [] }) k within

pub new_row : (rows : List Row) (row : Row) (k : ℕ) → length rows ≡ k → row_at (rows ++ row ∷ []) k ≡ row
new_row rows row k size = get_or_push rows row (record { costs = []; last = [] }) k size

-- a row more
pub levels_next : (n : ℕ) (arcs : List Arc) (rows : List Row) (row : Row) (k : ℕ) → length rows ≡ suc k → IsAbove arcs (row_at rows k) row → AreLevels n arcs rows → AreLevels n arcs (rows ++ row ∷ [])
levels_next n arcs rows row k size above levels =
    let more = length-append rows (row ∷ []) in
    let same_size = levels.costs k (omega arith) in
    let costs = above.costs in
    let last = above.last in
    record {
      costs = λ j within. elim (cases_lt j (length rows)) [
        | inl before ↦ subst (λ row. length row.costs ≡ n) (sym (old_row rows row j before)) (levels.costs j before)
        | inr past ↦ subst (λ row. length row.costs ≡ n) (sym (new_row rows row j (omega arith))) (omega arith)
      ];
      last = λ j within. elim (cases_lt j (length rows)) [
        | inl before ↦ subst (λ row. length row.last ≡ n) (sym (old_row rows row j before)) (levels.last j before)
        | inr past ↦ subst (λ row. length row.last ≡ n) (sym (new_row rows row j (omega arith))) (omega arith)
      ];
      first = λ v. subst (λ row. value_at row.costs v ≡ pos 0) (sym (old_row rows row 0 (omega arith))) (levels.first v);
      next = λ j within. elim (cases_lt (suc j) (length rows)) [
        | inl before ↦
            subst (λ below. IsAbove arcs below (row_at (rows ++ row ∷ []) (suc j))) (sym (old_row rows row j (omega arith))) (
            subst (λ above. IsAbove arcs (row_at rows j) above) (sym (old_row rows row (suc j) before)) (levels.next j before))
        | inr past ↦
            let at : j ≡ k = omega arith in
            subst (λ below. IsAbove arcs below (row_at (rows ++ row ∷ []) (suc j))) (sym (old_row rows row j (omega arith))) (
            subst (λ above. IsAbove arcs (row_at rows j) above) (sym (new_row rows row (suc j) (omega arith))) (
            subst (λ j. IsAbove arcs (row_at rows j) row) (sym at) above))
      ];
    }

-- a row in which no cost is new holds potentials
pub level_potentials : (n : ℕ) (arcs : List Arc) (rows : List Row) (row : Row) (k : ℕ) → All (IsArc n) arcs → k < n → k < length rows → AreLevels n arcs rows → IsAbove arcs (row_at rows k) row → ((v : ℕ) → last_at row v ≡ None) → ArePotentials n arcs row.costs
level_potentials n arcs rows row k all few within levels above none =
    let same : (v : ℕ) → value_at row.costs v ≡ cost_at rows k v = λ v. above.kept v (none v) in
    record {
      each = above.costs ∙ levels.costs k within;
      feasible = All-from_get_or (λ arc. value_at row.costs arc.head ≤ℤ (value_at row.costs arc.tail +ℤ arc.cost)) arcs (record { tail = 0; head = 0; cost = pos 0 }) (λ number inside.
          let least = above.least number inside in
          let tail = same (arc_at arcs number).tail in
          omega (arith, ints));
      high = All-from_get_or (λ potential. potential ≤ℤ pos 0) row.costs (pos 0) (λ v inside.
          let is = same v in
          let most = high n arcs rows k v levels within in
          omega (arith, ints));
      low = All-from_get_or (λ potential. unsigned_abs potential ≤ (n - 1) * largest_cost arcs) row.costs (pos 0) (λ v inside.
          let is = same v in
          let most = high n arcs rows k v levels within in
          let least = low n arcs rows (largest_cost arcs) (cost_most arcs) levels k v within in
          let fewer : k ≤ n - 1 = omega arith in
          let product = mul-le-mul_right (largest_cost arcs) fewer in
          omega (arith, ints));
    }
