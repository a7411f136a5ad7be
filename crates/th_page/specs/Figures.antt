-- The figure of a page: the picture with its caption and its legend.
use Rattle.std.specs.Prelude.{ℕ, ◌==◌, List, [], ◌++◌, codes, decimal, if◌then◌else◌}
use Rattle.th_picture.specs.Groups.{undrawn_count}
use Rattle.th_picture.specs.Legends.{legend_text}
use Rattle.th_picture.specs.Pictures.{picture_text}
use Rattle.th_picture.specs.declared.drawn.DrawnPoint.{DrawnPoint}
use Rattle.th_picture.specs.declared.drawn.DrawnSight.{DrawnSight}
use Rattle.th_page.specs.Fixed.{caption_text, picture_start}

-- how many sights are not drawn, if any are not
unfoldable pub undrawn_note : ℕ → List ℕ
undrawn_note count = codes "<p>Not drawn, because they are too many: " ++ decimal count ++ codes " sights.</p>\n"

abbrev pub undrawn_text : ℕ → List ℕ
undrawn_text count = if count == 0 then [] else undrawn_note count

-- the picture of points and sights, if so many numbers explain most
unfoldable pub figure_text : List DrawnPoint → List DrawnSight → ℕ → List ℕ
figure_text points sights firsts =
    picture_start ++ picture_text points sights ++ codes "</div>\n" ++ legend_text sights firsts ++ undrawn_text (undrawn_count sights)
    ++ caption_text
