use Rattle.std.proofs.Common.{◌≡◌, ◌∷◌, take, drop}
use Rattle.th_mend.specs.Ends.{ended_lines}
use Rattle.th_mend.proofs.EndLemmas.{behind_end, end_of, ended_lines-step}
use Rattle.th_mend.proofs.ends.split_line.Goals as goal

pub returns-clause-first : goal.returns-clause-first
returns-clause-first c =
    let text = c.args.text.now in
    let step : ended_lines text ≡ (take c.line_len.result text, end_of (drop c.line_len.result text)) ∷ ended_lines (behind_end (drop c.line_len.result text)) =
    ended_lines-step text c.line_len.result c.line_len.ensures.place c.requires in
    cc (step, c.split_at.ensures.front, c.split_at.ensures.back, c.split_at-2.ensures.front, c.split_at-2.ensures.back, c.end_len.ensures.value)
