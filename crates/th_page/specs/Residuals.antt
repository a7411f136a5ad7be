-- The section of residuals.
use Rattle.std.specs.Prelude.{ℕ, ℤ, Bool, List, [], ◌∷◌, ◌++◌, codes, decimal, filter, if◌then◌else◌, length, nat_le, not, take}
use Rattle.std.specs.List.{flat_map}
use Rattle.th_answer.specs.declared.answers.Group.{Group}
use Rattle.th_answer.specs.declared.answers.Group.TheVariants.{Question, Stays, Cleared, Unlike, Fits}
use Rattle.th_html.specs.Tables.{found_cells, left_out, most_rows, sight_cells, table_close, table_open}
use Rattle.th_picture.specs.Groups.{is_in}
use Rattle.th_picture.specs.Strips.{strip_text}
use Rattle.th_picture.specs.declared.drawn.DrawnSight.{DrawnSight}
use Rattle.th_page.specs.Fixed.{details_end, residual_start, section_end}

-- what a page says of a sight, by its group
abbrev pub group_words : Group → List ℕ
group_words Question = codes "in question"
group_words Stays = codes "does not fit"
group_words Cleared = codes "fits if mended"
group_words Unlike = codes "unlike the others"
group_words Fits = []

unfoldable pub residual_head : List ℕ
residual_head = codes "<td>Place<th>From<th>To<td>Observed<td>Residual<td>Weight<td>Control<th>"

-- a sight
unfoldable pub residual_row : DrawnSight → List ℕ
residual_row sight =
    codes "<tr>" ++ sight_cells sight.row ++ found_cells sight.row ++ codes "<th class=\"t\">" ++ group_words sight.group ++ codes "\n"

-- a table of some sights
unfoldable pub residual_table : List DrawnSight → List ℕ
residual_table sights = table_open residual_head ++ flat_map residual_row sights ++ table_close

-- a sight of which the page says something
abbrev pub is_told : DrawnSight → Bool
is_told sight = not (is_in Fits sight)

-- the first of those, if there are any
unfoldable pub first_told : List DrawnSight → List ℕ
first_told [] = []
first_told (sight ∷ sights) = residual_table (take most_rows (sight ∷ sights)) ++ left_out (length (sight ∷ sights))

-- all sights are listed if there are at most so many
abbrev pub most_listed : ℕ
most_listed = 2000

unfoldable pub all_listed : List DrawnSight → List ℕ
all_listed sights =
    codes "<details>\n<summary>All " ++ decimal (length sights) ++ codes " sights</summary>\n" ++ residual_table sights ++ details_end

abbrev pub listed_sights : List DrawnSight → List ℕ
listed_sights sights = if nat_le (length sights) most_listed then all_listed sights else []

-- the section; it is left out if there are no sights
unfoldable pub residual_section : List DrawnSight → ℤ → List ℕ
residual_section [] limit = []
residual_section (sight ∷ sights) limit =
    residual_start ++ strip_text (sight ∷ sights) limit ++ codes "</div>\n" ++ first_told (filter is_told (sight ∷ sights))
    ++ listed_sights (sight ∷ sights) ++ section_end
