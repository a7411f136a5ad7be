-- Notes of a run that was not refused: what the surveyor should know beside its outputs.
use Rattle.std.specs.Prelude.{ℕ, ◌==◌, List, ◌++◌, codes, if◌then◌else◌}
use Rattle.std.specs.Fmt.{decimal}
use Rattle.th_entries.specs.Sights.{no_sight_text}
use Rattle.th_entries.specs.declared.sights.NoSight.{NoSight}
use Rattle.th_remarks.specs.declared.heights.ManyHeights.{ManyHeights}
use Rattle.th_units.specs.Metres.{metres}

-- the line of a book that has blocks and no sight
abbrev pub no_sight_note : NoSight → List ℕ
no_sight_note note = codes "note: " ++ (no_sight_text note ++ codes "\n")

-- the text after the count of these points
abbrev pub loose_end : ℕ → List ℕ
loose_end points = if points == 1 then codes " point has more than one best height, up to " else codes " points have more than one best height, up to "

-- the beginning of the line of points that have more than one best height
abbrev pub loose_points : ℕ → List ℕ
loose_points points = codes "note: " ++ (decimal points ++ loose_end points)

-- the line of these points: the lowest and the highest height are farthest apart at the named one
abbrev pub many_heights_note : ManyHeights → List ℕ
many_heights_note note = loose_points note.points ++ (metres note.apart ++ (codes " m apart at " ++ (note.name ++ codes "\n")))
