use Rattle.th_program.proofs.InputLemmas.{kept}
use Rattle.th_program.proofs.laws.inputs_are_kept.Goals as goal

pub returns : goal.returns
returns g c =
    kept g.F.Folder.tells g.F.Folder.held g.F.Folder.has_failed g.F.Folder.failing
    g.met.F.Folder.tells_or_not
