use Rattle.std.proofs.Common.{◌≡◌, ◌-◌, ap, arith, drop, length, length-drop, rules, take}
use Rattle.std.proofs.lemmas.Grind.{common_steps}
use Rattle.std.proofs.lemmas.List.{take_all}
use Rattle.th_devices.proofs.MemoryLemmas.{given-on}
use Rattle.th_devices.proofs.memory_sources.give.Goals as goal

pub returns-clause-gives : goal.returns-clause-gives
returns-clause-gives c =
    let all = c.as_slice.result.now in
    let rest = drop c.args.done.now all in
    let whole : take (length all - c.args.done.now) rest ≡ rest = take_all _ _ (omega (arith, length-drop c.args.done.now all)) in
    record {
      within = search rules;
      taken = rw c.in-Some.is (given-on c.in-Some.text.items rest _ _ c.args.done.now c.copy_front-count.result
          (ap (drop c.args.done.now) c.as_slice.ensures.value) (grind (arith, common_steps, rw whole at c.copy_front-count.ensures.count)) (rw whole at c.copy_front-count.ensures.copied));
      beyond = grind (arith, common_steps);
      end = search rules;
      failed = search rules;
    }
