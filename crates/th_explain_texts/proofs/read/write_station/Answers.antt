use Rattle.std.proofs.Common.{◌≡◌, ℕ, List, ◌++◌, ap, append_assoc, codes, sym, ◌∙◌}
use Rattle.th_explain_texts.specs.Called.{line_name}
use Rattle.th_explain_texts.specs.Tables.{name_field}
use Rattle.th_explain_texts.proofs.TextLemmas.{on_ok, with_part}
use Rattle.th_explain_texts.proofs.read.write_station.Goals as goal

-- a text that has grown grows by a name, what is between, and another name
with_names : (p a n m f q r : List ℕ) → q ≡ p ++ a → r ≡ q ++ ((n ++ m) ++ f) → r ≡ p ++ (((a ++ n) ++ m) ++ f)
with_names p a n m f q r first second =
    with_part p a ((n ++ m) ++ f) q r first second ∙ ap (λ (t : List ℕ). p ++ t) (sym (append_assoc a (n ++ m) f) ∙ ap (λ (t : List ℕ). t ++ f) (sym (append_assoc a n m)))

pub returns : goal.returns
returns c =
    let page : List ℕ = c.args.page.now in
    let name : List ℕ = c.args.name.now in
    let setup : List ℕ = codes "The setup of " in
    let line : List ℕ = line_name c.args.several c.args.row.now in
    let middle : List ℕ = codes " in place of " in
    let own : List ℕ = name_field c.args.row.now.from in
    on_ok _ _ c.write_in_place.result
    (λ last. with_names page ((setup ++ line) ++ codes " fits ") name middle own c.add.new.self c.write_in_place.new.page
    (with_part page (setup ++ line) (codes " fits ") c.write_line_name.new.page c.add.new.self (c.in_ok-write_line_name.ensures ∙ append_assoc page setup line) c.in_ok-add.ensures)
    (last ∙ ap (λ (text : List ℕ). c.add.new.self ++ ((name ++ middle) ++ text)) c.name_field.ensures))
    c.write_in_place.ensures
