use Rattle.std.proofs.Common.{◌≡◌, ◌++◌, ℕ, unsigned_abs, ap, ◌∙◌}
use Rattle.std.proofs.Math.Facts.{to_z-of_z}
use Rattle.th_picture.specs.Strips.{bar_lines, label_lines, offset, open_text, range_text, scale_lines, strip_at}
use Rattle.th_picture.proofs.Joins.{more, on_ok}
use Rattle.th_picture.proofs.strips.write_strip_at.Goals as goal

pub returns : goal.returns
unfolding strip_at
returns c =
    let p = c.args.page.now in
    let part1 = open_text in
    let part2 = range_text (offset c.args.half (unsigned_abs c.args.limit)) in
    let part3 = scale_lines c.args.half in
    let part4 = bar_lines c.args.half c.args.sights.now in
    let part5 = label_lines c.args.sights.now in
    let front2 = part1 ++ part2 in
    let front3 = front2 ++ part3 in
    let front4 = front3 ++ part4 in
    let size : c.unsigned_abs.result ≡ unsigned_abs c.args.limit = c.unsigned_abs.ensures.value ∙ ap unsigned_abs (to_z-of_z c.ranges.limit) in
    let within : c.offset.result ≡ offset c.args.half (unsigned_abs c.args.limit) = c.offset.ensures.value ∙ ap (offset c.args.half) size in
    let step1 : c.write_open.new.page ≡ p ++ part1 = c.in_ok-write_open.ensures in
    let step2 = more p part1 part2 c.write_open.new.page c.write_range.new.page step1 (c.in_ok-write_range.ensures ∙ ap (λ (within : ℕ). c.write_open.new.page ++ range_text within) within) in
    let step3 = more p front2 part3 c.write_range.new.page c.write_scale.new.page step2 c.in_ok-write_scale.ensures in
    let step4 = more p front3 part4 c.write_scale.new.page c.write_bars.new.page step3 c.in_ok-write_bars.ensures in
    on_ok _ _ c.write_labels.result (more p front4 part5 c.write_bars.new.page c.write_labels.new.page step4) c.write_labels.ensures
