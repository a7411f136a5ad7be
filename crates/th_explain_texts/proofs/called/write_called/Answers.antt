use Rattle.std.proofs.Common.{ℕ, List, ◌++◌, ap, append_assoc, codes, sym, ◌∙◌}
use Rattle.th_explain_texts.specs.Called.{called, line_name}
use Rattle.th_explain_texts.specs.Tables.{name_field, number_field}
use Rattle.th_explain_texts.specs.declared.rows.Kind.{Kind}
use Rattle.th_explain_texts.proofs.TextLemmas.{on_ok}
use Rattle.th_explain_texts.proofs.called.write_called.Goals as goal

pub returns-in-Benchmark : goal.returns-in-Benchmark
returns-in-Benchmark c =
    let page : List ℕ = c.args.page.now in
    let row = c.args.row.now in
    on_ok _ _ c.write_named.result
    (λ grown. grown ∙ ap (λ (name : List ℕ). (page ++ codes "the height of ") ++ name) c.name_field.ensures ∙ append_assoc page (codes "the height of ") (name_field row.from)
    ∙ ap (λ (kind : Kind). page ++ called c.args.several kind row) (sym c.in-Benchmark.is))
    c.write_named.ensures

pub returns-in-Book : goal.returns-in-Book
returns-in-Book c =
    let page : List ℕ = c.args.page.now in
    let row = c.args.row.now in
    on_ok _ _ c.write_numbered.result
    (λ grown. grown ∙ append_assoc page (codes "word 33 of book ") (number_field row.book)
    ∙ ap (λ (kind : Kind). page ++ called c.args.several kind row) (sym c.in-Book.is))
    c.write_numbered.ensures

pub returns-in-InstrumentSince : goal.returns-in-InstrumentSince
returns-in-InstrumentSince c =
    let page : List ℕ = c.args.page.now in
    let row = c.args.row.now in
    on_ok _ _ c.write_line_name-in-InstrumentSince.result
    (λ grown. grown ∙ append_assoc page (codes "word 88 since ") (line_name c.args.several row)
    ∙ ap (λ (kind : Kind). page ++ called c.args.several kind row) (sym c.in-InstrumentSince.is))
    c.write_line_name-in-InstrumentSince.ensures

pub returns-in-ReflectorSince : goal.returns-in-ReflectorSince
returns-in-ReflectorSince c =
    let page : List ℕ = c.args.page.now in
    let row = c.args.row.now in
    on_ok _ _ c.write_line_name-in-ReflectorSince.result
    (λ grown. grown ∙ append_assoc page (codes "word 87 since ") (line_name c.args.several row)
    ∙ ap (λ (kind : Kind). page ++ called c.args.several kind row) (sym c.in-ReflectorSince.is))
    c.write_line_name-in-ReflectorSince.ensures

pub returns-in-Sight : goal.returns-in-Sight
returns-in-Sight c =
    let page : List ℕ = c.args.page.now in
    let row = c.args.row.now in
    on_ok _ _ c.write_line_name-in-Sight.result
    (λ grown. grown ∙ append_assoc page (codes "the sight of ") (line_name c.args.several row)
    ∙ ap (λ (kind : Kind). page ++ called c.args.several kind row) (sym c.in-Sight.is))
    c.write_line_name-in-Sight.ensures
