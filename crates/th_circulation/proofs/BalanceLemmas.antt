-- The balances of vertices, and flows that others found.
use Rattle.std.proofs.Common.{◌≡◌, ◌≢◌, ℕ, zero, suc, Bool, true, false, ◌+◌, ◌<◌, ◌≤◌, ℤ, pos, ◌+ℤ◌, ◌-ℤ◌, List, [], ◌∷◌, All, eqb, get_or, if◌then◌else◌, length, take, unsigned_abs, refl, ap, sym, ◌∙◌, arith}
use Rattle.std.proofs.lemmas.Bool.{eqb-true, eqb-false}
use Rattle.std.proofs.lemmas.Int.{ints}
use Rattle.std.proofs.lemmas.List.{get_or-set_other, get_or-set_same, take_all}
use Rattle.std.proofs.lemmas.List.Elements.{All-head, All-tail}
use Rattle.std.proofs.lemmas.List.Sums.{fold_more}
use Rattle.std.proofs.lemmas.Slice.Zip.{get_or-zip, length-zip}
use Rattle.std.proofs.Math.ListN.{set}
use Rattle.std.specs.List.{zip}
use Rattle.th_network.specs.Circulation.{total_by}
use Rattle.th_network.specs.declared.links.Link.{Link}
use Rattle.th_search.specs.Potentials.{value_at}
use Rattle.th_circulation.specs.Inside.Balances.{AreBalances, balance_to}
use Rattle.th_circulation.specs.Inside.Flows.{AreBounded, arriving, leaving}
use Rattle.th_circulation.proofs.FlowSums.{arrives, leaves}

-- flows within the weights, place by place
pub bounded_from : (weights : List ℕ) (flows : List ℤ) → length flows ≡ length weights → ((k : ℕ) → k < length flows → unsigned_abs (get_or flows k (pos 0)) ≤ get_or weights k 0) → AreBounded weights flows
bounded_from [] [] each small = tt
bounded_from [] (flow ∷ flows) each small = absurd (omega arith)
bounded_from (weight ∷ weights) [] each small = absurd (omega arith)
bounded_from (weight ∷ weights) (flow ∷ flows) each small = (small 0 (omega arith), bounded_from weights flows (omega arith) (λ k within. small (suc k) (omega arith)))

-- one flow more
sum_more : (f : Link × ℤ → ℤ) (links : List Link) (flows : List ℤ) (n : ℕ) (link : Link) (flow : ℤ) → n < length links → n < length flows → link ≡ get_or links n link → flow ≡ get_or flows n (pos 0) → total_by f (take (n + 1) (zip links flows)) ≡ total_by f (take n (zip links flows)) +ℤ f (link, flow)
sum_more f links flows n link flow within there same own =
    let pairs = zip links flows in
    let at : get_or pairs n (link, pos 0) ≡ (link, flow) = get_or-zip links flows n (link, pos 0) within there ∙ ap (λ (l : Link). (l, get_or flows n (pos 0))) (sym same) ∙ ap (λ (g : ℤ). (link, g)) (sym own) in
    fold_more (λ total pair. total +ℤ f pair) (pos 0) pairs n (link, pos 0) (omega (arith, length-zip links flows))
    ∙ ap (λ (pair : Link × ℤ). total_by f (take n pairs) +ℤ f pair) at

turned_if : (b : Bool) (flow turned : ℤ) → turned ≡ pos 0 -ℤ flow → (if b then turned else pos 0) ≡ pos 0 -ℤ (if b then flow else pos 0)
turned_if true flow turned is = is
turned_if false flow turned is = omega (arith, ints)

pub one_more : (links : List Link) (flows : List ℤ) (n : ℕ) (link : Link) (flow turned : ℤ) (balances once twice : List ℤ) → n < length links → n < length flows → link ≡ get_or links n link → flow ≡ get_or flows n (pos 0) → turned ≡ pos 0 -ℤ flow
    → ((v : ℕ) → value_at once v ≡ value_at balances v +ℤ (if eqb link.head v then flow else pos 0)) → ((v : ℕ) → value_at twice v ≡ value_at once v +ℤ (if eqb link.tail v then turned else pos 0)) → AreBalances links flows n balances → AreBalances links flows (n + 1) twice
one_more links flows n link flow turned balances once twice within there same own is first second before v =
    let high = sum_more (arrives v) links flows n link flow within there same own in
    let low = sum_more (leaves v) links flows n link flow within there same own in
    let so_far = before v in
    let one = first v in
    let two = second v in
    let away = turned_if (eqb link.tail v) flow turned is in
    omega (arith, ints, high, low, so_far, one, two, away)

-- no flow yet
pub zero_at : (balances : List ℤ) (v : ℕ) → All (λ balance. balance ≡ pos 0) balances → value_at balances v ≡ pos 0
zero_at [] v all = refl
zero_at (balance ∷ balances) zero all = All-head (λ balance. balance ≡ pos 0) balance balances all
zero_at (balance ∷ balances) (suc v) all = zero_at balances v (All-tail (λ balance. balance ≡ pos 0) balance balances all)

pub none_to : (links : List Link) (flows balances : List ℤ) → All (λ balance. balance ≡ pos 0) balances → AreBalances links flows 0 balances
none_to links flows balances all v = zero_at balances v all

-- all flows
pub level_at : (links : List Link) (flows balances : List ℤ) (v : ℕ) → length flows ≡ length links → AreBalances links flows (length flows) balances → value_at balances v ≡ pos 0 → arriving links flows v ≡ leaving links flows v
level_at links flows balances v each are none =
    let whole = take_all (length flows) (zip links flows) (omega (arith, length-zip links flows)) in
    let high = ap (total_by (arrives v)) whole in
    let low = ap (total_by (leaves v)) whole in
    let is = are v in
    omega (arith, ints, high, low, is, none)
