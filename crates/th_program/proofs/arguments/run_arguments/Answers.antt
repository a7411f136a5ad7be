use Rattle.th_program.proofs.arguments.run_arguments.Goals as goal

pub returns-in-Ok-clause-done : goal.returns-in-Ok-clause-done
returns-in-Ok-clause-done g c = rw c.in-Ok.is (rw c.as_slice.ensures.value at c.run_words.ensures)
