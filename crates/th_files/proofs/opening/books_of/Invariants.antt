use Rattle.std.proofs.Common.{◌≡◌, map, take}
use Rattle.th_files.specs.Opened.{EachIsOpened}
use Rattle.th_files.proofs.opening.books_of.Given as goal

abbrev pub invariant-loop-name : goal.invariant-loop-name
invariant-loop-name g l =
    (l.folder ≡ l.fn.folder)
    × EachIsOpened g.F.In.Source.state (g.F.Folder.failing l.fn.folder).reading (g.F.Folder.held l.fn.folder) (map (λ name. name.now) (take l.name-index l.names)) l.sources.items
