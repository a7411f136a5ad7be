use Rattle.std.proofs.Common.{◌∙◌, Option, Some, ap}
use Rattle.th_devices.specs.declared.reasons.Reason.{Reason}
use Rattle.th_messages.specs.Helped.{refused_lines}
use Rattle.th_messages.proofs.ErrorLemmas.{put_whole}
use Rattle.th_program.proofs.refusals.refuse.Goals as goal

pub returns-clause-reported : goal.returns-clause-reported
returns-clause-reported g c = λ clear. λ tell.
    put_whole g.F.Folder.tells _ _ _ _ _ _ c.begin_line-line.ensures.begun c.put_refusal.ensures (c.end_line.ensures.written clear) tell
    ∙ ap (λ (reason : Option Reason). Some (refused_lines c.args.plan.now c.args.refusal.now reason)) (c.reason-reason.ensures tell)
