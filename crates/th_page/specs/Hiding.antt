-- The section of where a mistake could hide.
use Rattle.std.specs.Prelude.{ℕ, List, [], ◌∷◌, ◌++◌, codes, count_by, filter}
use Rattle.th_html.specs.Tables.{benchmark_table, entry_table, sight_table}
use Rattle.th_review_rows.specs.Weak.{is_weak_benchmark, is_weak_entry, is_weak_observation}
use Rattle.th_review_rows.specs.declared.rows.BenchmarkRow.{BenchmarkRow}
use Rattle.th_review_rows.specs.declared.rows.EntryRow.{EntryRow}
use Rattle.th_review_rows.specs.declared.rows.ObservationRow.{ObservationRow}
use Rattle.th_page.specs.Facts.{fact_item}
use Rattle.th_page.specs.Fixed.{details_end, hiding_start, section_end, weak_benchmarks_start, weak_entries_start, weak_sights_start}

-- how many sights, benchmarks and entries are weak
unfoldable pub weak_counts : List ObservationRow → List BenchmarkRow → List EntryRow → List ℕ
weak_counts sights benchmarks entries =
    codes "<ul class=\"facts\">\n"
    ++ fact_item (count_by is_weak_observation sights) (codes "weak sights")
    ++ fact_item (count_by is_weak_benchmark benchmarks) (codes "weak benchmarks")
    ++ fact_item (count_by is_weak_entry entries) (codes "weak keyed-in heights")
    ++ codes "</ul>\n"

-- which they are; what has none is left out
unfoldable pub weak_sights : List ObservationRow → List ℕ
weak_sights [] = []
weak_sights (row ∷ rows) = weak_sights_start ++ sight_table (row ∷ rows) ++ details_end

unfoldable pub weak_benchmarks : List BenchmarkRow → List ℕ
weak_benchmarks [] = []
weak_benchmarks (row ∷ rows) = weak_benchmarks_start ++ benchmark_table (row ∷ rows) ++ details_end

unfoldable pub weak_entries : List EntryRow → List ℕ
weak_entries [] = []
weak_entries (row ∷ rows) = weak_entries_start ++ entry_table (row ∷ rows) ++ details_end

-- the section
unfoldable pub hiding_section : List ObservationRow → List BenchmarkRow → List EntryRow → List ℕ
hiding_section sights benchmarks entries =
    hiding_start
    ++ weak_counts sights benchmarks entries
    ++ weak_sights (filter is_weak_observation sights)
    ++ weak_benchmarks (filter is_weak_benchmark benchmarks)
    ++ weak_entries (filter is_weak_entry entries)
    ++ section_end
