use Rattle.std.proofs.Common.{ℕ, List, ◌++◌, ap, codes, ◌∙◌}
use Rattle.th_explain_texts.proofs.TextLemmas.{on_ok, with_part}
use Rattle.th_explain_texts.proofs.read.write_in_place.Goals as goal

pub returns : goal.returns
returns c =
    let page : List ℕ = c.args.page.now in
    let name : List ℕ = c.args.name.now in
    let middle : List ℕ = codes " in place of " in
    on_ok _ _ c.add-3.result
    (with_part page (name ++ middle) c.args.old.now c.add-2.new.self c.add-3.new.self
    (with_part page name middle c.add.new.self c.add-2.new.self (c.in_ok-add.ensures ∙ ap (λ (text : List ℕ). page ++ text) c.as_bytes.ensures.bytes) c.in_ok-add-2.ensures))
    c.add-3.ensures
