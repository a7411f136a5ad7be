use Rattle.std.proofs.Common.{ℕ, List, arith}
use Rattle.std.specs.Borrow.{Bor}
use Rattle.std.proofs.lemmas.List.{length-map}
use Rattle.th_files.proofs.OpenedLemmas.{opened-length}
use Rattle.th_files.proofs.opening.sources_of.Goals as goal

pub returns-clause-few_books : goal.returns-clause-few_books
returns-clause-few_books g c =
    let same = opened-length g.F.In.Source.state (g.F.Folder.failing c.args.folder.now).reading (g.F.Folder.held c.args.folder.now) _ _ c.in_ok-books_of.ensures.opened in
    omega (arith, same, length-map c.names.result.now (λ (name : Bor (List ℕ)). name.now), c.names.ensures.few)
