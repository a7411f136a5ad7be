use Rattle.std.proofs.Common.{◌∙◌, ap, inl, inr}
use Rattle.th_program.proofs.RefusalLemmas.{unless-map}
use Rattle.th_program.proofs.RunLemmas.{cut-after, done-after, errors_apart, refused-after}
use Rattle.th_devices.specs.Spots.{errors}
use Rattle.th_program.proofs.plans.run_apart.Goals as goal

pub returns : goal.returns
returns g c =
    let own = c.in-Err.refusal in
    inr (
      own,
      record {
        refused = refused-after g.F.Folder.tells (g.F.Folder.failing c.args.folder.now) (g.F.Folder.held c.args.folder.now) (g.F.Folder.held c.carry_out.new.folder) (g.F.Folder.held c.refuse.new.folder) c.args.plan.now own c.refuse.ensures.others c.in-Err.ensures.refused;
        status_is = c.refuse.ensures.status;
        reported = c.refuse.ensures.reported;
        untouched = unless-map own _ _ (λ same. λ spot apart. c.refuse.ensures.others spot apart ∙ ap (λ folder. g.F.Folder.held folder spot) same) c.in-Err.ensures.untouched;
        left = λ write. cut-after g.F.Folder.tells (g.F.Folder.held c.args.folder.now) (g.F.Folder.held c.carry_out.new.folder) (g.F.Folder.held c.refuse.new.folder) c.args.plan.now own c.refuse.ensures.others (c.in-Err.ensures.left write);
        others = λ spot apart no_output. c.refuse.ensures.others spot apart ∙ c.carry_out.ensures.others spot no_output;
      },
    )

pub returns-in-Ok : goal.returns-in-Ok
returns-in-Ok g c = inl (record {
  done = done-after g.F.Folder.tells (g.F.Folder.held c.args.folder.now) (g.F.Folder.held c.carry_out.new.folder) (g.F.Folder.held c.tell_notes.new.folder) c.args.plan.now c.in-Ok.status c.tell_notes.ensures.others c.in-Ok.ensures.done;
  notes = c.carry_out.new.notes;
  of_plan = c.in-Ok.ensures.noted;
  silent = λ none. ap (λ folder. g.F.Folder.held folder errors) (c.tell_notes.ensures.silent none) ∙ c.carry_out.ensures.others errors (errors_apart c.args.plan.now);
  noted = c.tell_notes.ensures.noted;
  others = λ spot apart no_output. c.tell_notes.ensures.others spot apart ∙ c.carry_out.ensures.others spot no_output;
})
