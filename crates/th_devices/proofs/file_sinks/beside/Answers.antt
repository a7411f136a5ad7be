use Rattle.std.proofs.lemmas.Result.{IfOk-weaker}
use Rattle.th_devices.proofs.BesideLemmas.{beside_folder, beside_none}
use Rattle.th_devices.proofs.file_sinks.beside.Goals as goal

pub returns-in-Some : goal.returns-in-Some
returns-in-Some c =
    IfOk-weaker c.format.result _ _ (λ own is. beside_folder c.args.name.now c.in-Some.folder.now _ _ _ c.in-Some.ensures.cases is) c.format.ensures.ok

pub returns-in-None : goal.returns-in-None
returns-in-None c = IfOk-weaker c.format-in-None.result _ _ (λ own _. beside_none c.args.name.now _ c.in-None.ensures.cases) c.format-in-None.ensures.ok
