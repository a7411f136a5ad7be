-- Each sight is in one group.
use Rattle.std.proofs.Common.{◌≡◌, refl}
use Rattle.std.specs.Prelude.{count_by, ◌==◌}
use Rattle.th_answer.specs.declared.answers.Group.{Group}
use Rattle.th_answer.specs.declared.answers.Group.TheVariants.{Cleared, Fits, Question, Stays, Unlike}
use Rattle.th_picture.specs.Groups.{groups, letter_of}
use Rattle.th_picture.specs.Laws.{EachSightOnce}

by_group : (own : Group) → count_by (λ group. letter_of own == letter_of group) groups ≡ 1
by_group Question = refl
by_group Stays = refl
by_group Cleared = refl
by_group Unlike = refl
by_group Fits = refl

pub each_once : EachSightOnce
each_once sight = by_group sight.group
