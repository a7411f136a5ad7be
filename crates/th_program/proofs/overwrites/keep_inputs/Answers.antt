use Rattle.std.proofs.Common.{◌≡◌, IfErr, IfOk, subst, sym, true}
use Rattle.std.proofs.lemmas.Result.{IfErr-weaker}
use Rattle.th_runs.specs.Paged.{paging}
use Rattle.th_commands.specs.Plans.{files}
use Rattle.th_commands.specs.declared.plans.Plan.{Plan}
use Rattle.th_commands.specs.declared.plans.Plan.TheVariants as plan
use Rattle.th_program.specs.Done.{KeepsInputs}
use Rattle.th_program.specs.Inside.Stops.{IsStopOf}
use Rattle.th_files.specs.Outputs.{spots_of}
use Rattle.th_program.proofs.OverwriteLemmas.{stop_of}
use Rattle.th_program.proofs.overwrites.keep_inputs.Goals as goal
use Rattle.th_runs.specs.Adjusted.{adjusting}
use Rattle.th_runs.specs.Reviewed.{reviewing}

pub returns-in-Adjust-clause-apart : goal.returns-in-Adjust-clause-apart
returns-in-Adjust-clause-apart g c =
    subst (λ (own : Plan). IfOk c.keep_all.result (λ _. g.F.Folder.tells ≡ true → KeepsInputs own)) (sym c.in-Adjust.is) c.keep_all.ensures.apart

pub returns-in-Adjust-clause-stopped : goal.returns-in-Adjust-clause-stopped
returns-in-Adjust-clause-stopped g c =
    subst (λ (own : Plan). IfErr c.keep_all.result (IsStopOf g.F.Folder.tells own)) (sym c.in-Adjust.is)
    (IfErr-weaker c.keep_all.result _ _
    (stop_of g.F.Folder.tells (plan.Adjust c.in-Adjust.inputs c.in-Adjust.limit c.in-Adjust.prefix) (files c.in-Adjust.inputs) (spots_of c.in-Adjust.prefix.now adjusting.outputs)
    (λ name has. has) (λ which name read. read))
    c.keep_all.ensures.stopped)

pub returns-in-Review-clause-apart : goal.returns-in-Review-clause-apart
returns-in-Review-clause-apart g c =
    subst (λ (own : Plan). IfOk c.keep_all-in-Review.result (λ _. g.F.Folder.tells ≡ true → KeepsInputs own)) (sym c.in-Review.is) c.keep_all-in-Review.ensures.apart

pub returns-in-Review-clause-stopped : goal.returns-in-Review-clause-stopped
returns-in-Review-clause-stopped g c =
    subst (λ (own : Plan). IfErr c.keep_all-in-Review.result (IsStopOf g.F.Folder.tells own)) (sym c.in-Review.is)
    (IfErr-weaker c.keep_all-in-Review.result _ _
    (stop_of g.F.Folder.tells (plan.Review c.in-Review.inputs c.in-Review.limit c.in-Review.prefix) (files c.in-Review.inputs) (spots_of c.in-Review.prefix.now reviewing.outputs)
    (λ name has. has) (λ which name read. read))
    c.keep_all-in-Review.ensures.stopped)

pub returns-in-Page-clause-apart : goal.returns-in-Page-clause-apart
returns-in-Page-clause-apart g c =
    subst (λ (own : Plan). IfOk c.keep_all-in-Page.result (λ _. g.F.Folder.tells ≡ true → KeepsInputs own)) (sym c.in-Page.is) c.keep_all-in-Page.ensures.apart

pub returns-in-Page-clause-stopped : goal.returns-in-Page-clause-stopped
returns-in-Page-clause-stopped g c =
    subst (λ (own : Plan). IfErr c.keep_all-in-Page.result (IsStopOf g.F.Folder.tells own)) (sym c.in-Page.is)
    (IfErr-weaker c.keep_all-in-Page.result _ _
    (stop_of g.F.Folder.tells (plan.Page c.in-Page.inputs c.in-Page.limit c.in-Page.prefix _) (files c.in-Page.inputs) (spots_of c.in-Page.prefix.now paging.outputs)
    (λ name has. has) (λ which name read. read))
    c.keep_all-in-Page.ensures.stopped)
