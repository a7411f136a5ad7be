use Rattle.std.proofs.Common.{◌≡◌, ◌∙◌, ◌+◌, ◌++◌, ◌∷◌, ℕ, List, [], ap, get_or, map, subst, take, rules}
use Rattle.std.specs.Borrow.{Bor}
use Rattle.std.proofs.lemmas.List.{get_or_default, map-append, take_more}
use Rattle.th_devices.specs.Devices.{IsOpened}
use Rattle.th_devices.specs.Spots.{file}
use Rattle.th_files.proofs.OpenedLemmas.{zip_more}
use Rattle.th_files.proofs.opening.books_of.Goals as goal

pub loop-name-preserved : goal.loop-name-preserved
loop-name-preserved g c =
    let names : List (Bor (List ℕ)) = c.args.names.now in
    let i : ℕ = c.loop-name.name-index in
    let none : Bor (List ℕ) = record { ref_ptr = c.args.names.ref_ptr; now = [] } in
    let one = ap (λ (name : Bor (List ℕ)). name.now) (get_or_default names i _ none c.loop-name-test.true) in
    let shown : map (λ (name : Bor (List ℕ)). name.now) (take (i + 1) names) ≡ map (λ (name : Bor (List ℕ)). name.now) (take i names) ++ (get_or names i none).now ∷ [] =
    ap (map (λ (name : Bor (List ℕ)). name.now)) (take_more names i none c.loop-name-test.true)
    ∙ map-append (λ (name : Bor (List ℕ)). name.now) (take i names) (get_or names i none ∷ []) in
    let opened = subst (λ (name : List ℕ). IsOpened ((g.F.Folder.failing c.loop-name.folder).reading (file name)) (g.F.Folder.held c.loop-name.folder (file name))
    (g.F.In.Source.state c.in_ok-source.field-0)) one c.in_ok-source.ensures.opened in
    let more = zip_more (λ (name : List ℕ) source. IsOpened ((g.F.Folder.failing c.args.folder.now).reading (file name)) (g.F.Folder.held c.args.folder.now (file name)) (g.F.In.Source.state source)) _ c.loop-name.sources.items _ _ c.loop-name.invariant.1 (rw c.loop-name.invariant.0 at opened) in
    (search rules, rw shown (rw c.in_ok-push.ensures.items more))
