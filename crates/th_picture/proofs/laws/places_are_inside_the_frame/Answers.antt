use Rattle.th_picture.proofs.Bends.{inside_frame}
use Rattle.th_picture.proofs.laws.places_are_inside_the_frame.Goals as goal

pub returns : goal.returns
returns c = inside_frame
