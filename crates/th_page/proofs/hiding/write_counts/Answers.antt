use Rattle.std.proofs.Common.{◌≡◌, ◌++◌, ℕ, codes, count_by, ap, ◌∙◌}
use Rattle.th_review_rows.specs.Weak.{is_weak_benchmark, is_weak_entry, is_weak_observation}
use Rattle.th_page.specs.Facts.{fact_item}
use Rattle.th_page.specs.Hiding.{weak_counts}
use Rattle.th_picture.proofs.Joins.{more, on_ok}
use Rattle.th_page.proofs.hiding.write_counts.Goals as goal

pub returns : goal.returns
unfolding weak_counts
returns c =
    let p = c.args.page.now in
    let part1 = codes "<ul class=\"facts\">\n" in
    let part2 = fact_item (count_by is_weak_observation c.args.sights.now) (codes "weak sights") in
    let part3 = fact_item (count_by is_weak_benchmark c.args.benchmarks.now) (codes "weak benchmarks") in
    let part4 = fact_item (count_by is_weak_entry c.args.entries.now) (codes "weak keyed-in heights") in
    let part5 = codes "</ul>\n" in
    let front2 = part1 ++ part2 in
    let front3 = front2 ++ part3 in
    let front4 = front3 ++ part4 in
    let step1 : c.add.new.self ≡ p ++ part1 = c.in_ok-add.ensures in
    let step2 = more p part1 part2 c.add.new.self c.write_fact.new.page step1 (c.in_ok-write_fact.ensures ∙ ap (λ (count : ℕ). c.add.new.self ++ fact_item count (codes "weak sights")) c.weak_observation_count.ensures) in
    let step3 = more p front2 part3 c.write_fact.new.page c.write_fact-2.new.page step2 (c.in_ok-write_fact-2.ensures ∙ ap (λ (count : ℕ). c.write_fact.new.page ++ fact_item count (codes "weak benchmarks")) c.weak_benchmark_count.ensures) in
    let step4 = more p front3 part4 c.write_fact-2.new.page c.write_fact-3.new.page step3 (c.in_ok-write_fact-3.ensures ∙ ap (λ (count : ℕ). c.write_fact-2.new.page ++ fact_item count (codes "weak keyed-in heights")) c.weak_entry_count.ensures) in
    on_ok _ _ c.add-2.result (more p front4 part5 c.write_fact-3.new.page c.add-2.new.self step4) c.add-2.ensures
