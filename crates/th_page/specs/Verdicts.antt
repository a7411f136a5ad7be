-- The verdict of a page, in words.
use Rattle.std.specs.Prelude.{ℕ, ℤ, ◌==◌, List, [], Option, None, Some, ◌++◌, codes, decimal, if◌then◌else◌, unsigned_abs}
use Rattle.std.specs.List.{flat_map}
use Rattle.th_answer.specs.declared.answers.Moved.{Moved}
use Rattle.th_html.specs.Lengths.{height_text, size_text}
use Rattle.th_html.specs.Texts.{escaped}
use Rattle.th_html.specs.declared.shown.ShownPoint.{ShownPoint}
use Rattle.th_remarks.specs.declared.residuals.Outlier.{Outlier}
use Rattle.th_review_rows.specs.declared.rows.PointRow.{PointRow}
use Rattle.th_page.specs.Contents.{JoinedRows, ShownRows}
use Rattle.th_page.specs.Counts.{all_checked, tone_of, verdict_of}
use Rattle.th_page.specs.declared.counts.Counts.{Counts}
use Rattle.th_page.specs.declared.verdicts.Tone.{Tone}
use Rattle.th_page.specs.declared.verdicts.Tone.TheVariants.{Good, Care, Bad}
use Rattle.th_page.specs.declared.verdicts.Verdict.{Verdict}
use Rattle.th_page.specs.declared.verdicts.Verdict.TheVariants.{Unchecked, Unlike, Fits, Doubted, Unexplained, InPart, Explained, Undecided}

abbrev pub tone_class : Tone → List ℕ
tone_class Good = codes "good"
tone_class Care = codes "care"
tone_class Bad = codes "bad"

abbrev pub verdict_heading : Verdict → List ℕ
verdict_heading Unchecked = codes "Nothing checks these heights."
verdict_heading Unlike = codes "All sights are within the limit, but not all fit alike."
verdict_heading Fits = codes "All sights fit."
verdict_heading Doubted = codes "All sights are within the limit, but one number may be wrong."
verdict_heading Unexplained = codes "Sights do not fit, and no one number explains it."
verdict_heading InPart = codes "Sights do not fit, and no one number explains all of it."
verdict_heading Explained = codes "One wrong number explains all that does not fit."
verdict_heading Undecided = codes "One wrong number explains all that does not fit, but the books do not say which."

-- the beginning, with the heading
unfoldable pub verdict_start : Tone → Verdict → List ℕ
verdict_start tone verdict = codes "<div class=\"verdict " ++ tone_class tone ++ codes "\">\n<h2>" ++ verdict_heading verdict ++ codes "</h2>\n"

-- a count of what is called in one way if it is one, else in another
unfoldable pub count_text : ℕ → List ℕ → List ℕ → List ℕ
count_text count one many = decimal count ++ codes " " ++ (if count == 1 then one else many)

-- how many sights are marked
unfoldable pub marks_counts : ℕ → ℕ → List ℕ
marks_counts count total = codes "<b>" ++ decimal count ++ codes " of " ++ decimal total ++ codes " sights marked.</b> "

abbrev pub marks_words : ℕ → List ℕ
marks_words count =
    if count == 0 then codes "No residual is above the limit."
    else (if count == 1 then codes "Its residual is above the limit: see <a href=\"#residuals\">residuals</a>."
    else codes "Their residuals are above the limit: see <a href=\"#residuals\">residuals</a>.")

-- not to use the heights, if they are bad
abbrev pub wait_words : Tone → List ℕ
wait_words Good = []
wait_words Care = []
wait_words Bad = codes " Do not use these heights yet."

unfoldable pub marks_paragraph : Counts → List ℕ
marks_paragraph counts =
    codes "<p>" ++ marks_counts counts.marked counts.sights ++ marks_words counts.marked ++ wait_words (tone_of counts) ++ codes "</p>\n"

-- a sentence of the explanations
unfoldable pub said_paragraph : List ℕ → List ℕ
said_paragraph sentence = codes "<p>" ++ escaped sentence ++ codes "</p>\n"

-- that no height is moved
unfoldable pub still_words : ℕ → List ℕ
still_words limit = codes "No height moves by more than " ++ size_text limit ++ codes " then."

-- the height of a point, and the one that it has once the number is put right
unfoldable pub point_name : PointRow → List ℕ
point_name row = codes "Then the height of <b>" ++ escaped row.name ++ codes "</b> is <b>"

unfoldable pub point_heights : ℤ → ℤ → List ℕ
point_heights mended height = height_text mended ++ codes "</b> in place of <s>" ++ height_text height ++ codes "</s>."

unfoldable pub point_words : PointRow → Moved → List ℕ
point_words row moved = point_name row ++ point_heights moved.low row.low

-- that of a point that is moved
abbrev pub moved_words : PointRow → Option Moved → List ℕ
moved_words row None = []
moved_words row (Some moved) = point_words row moved

abbrev pub words_of_point : ShownPoint → List ℕ
words_of_point point = moved_words point.row point.moved

-- that many heights are moved
unfoldable pub many_words : ℕ → ℕ → List ℕ
many_words count limit = codes "Then " ++ decimal count ++ codes " heights move by more than " ++ size_text limit ++ codes ": they are struck out below."

-- that heights depend on which number is wrong
unfoldable pub depend_words : ℕ → ℕ → List ℕ
depend_words count limit =
    count_text count (codes "height depends") (codes "heights depend") ++ codes " on it by more than " ++ size_text limit ++ codes ": struck out below."

-- what one number moves
abbrev pub one_words : ℕ → ℕ → List ShownPoint → List ℕ
one_words count limit points = if count == 1 then flat_map words_of_point points else many_words count limit

-- what the numbers that explain most move, by the size of the limit
abbrev pub moves_words : Counts → ℕ → List ShownPoint → List ℕ
moves_words counts limit points =
    if counts.moved == 0 then still_words limit
    else (if counts.firsts == 1 then one_words counts.moved limit points else depend_words counts.moved limit)

unfoldable pub moves_note : Counts → ℕ → List ShownPoint → List ℕ
moves_note counts limit points = codes "<p>" ++ moves_words counts limit points ++ codes "</p>\n"

-- the same, if a number explains anything
abbrev pub moves_paragraph : Counts → ℕ → List ShownPoint → List ℕ
moves_paragraph counts limit points = if counts.firsts == 0 then [] else moves_note counts limit points

-- the sight that is far beyond the others
unfoldable pub outlier_sight : Outlier → List ℕ
outlier_sight outlier = codes "<p>The sight in line " ++ decimal outlier.line ++ codes " of book " ++ decimal outlier.book ++ codes " is off by "

unfoldable pub outlier_size : Outlier → List ℕ
outlier_size outlier = size_text outlier.size ++ codes ": " ++ decimal outlier.times ++ codes " times the usual residual. "

-- the limit that marks it
unfoldable pub outlier_limit : Outlier → List ℕ
outlier_limit outlier =
    codes "To see what would explain it, make the page again with <code>--blunder " ++ decimal outlier.limit ++ codes "</code>.</p>\n"

unfoldable pub outlier_note : Outlier → List ℕ
outlier_note outlier = outlier_sight outlier ++ outlier_size outlier ++ outlier_limit outlier

abbrev pub outlier_paragraph : Option Outlier → List ℕ
outlier_paragraph None = []
outlier_paragraph (Some outlier) = outlier_note outlier

-- the same, if the verdict speaks of it
abbrev pub unlike_paragraph : Verdict → Option Outlier → List ℕ
unlike_paragraph Unlike outlier = outlier_paragraph outlier
unlike_paragraph Unchecked outlier = []
unlike_paragraph Fits outlier = []
unlike_paragraph Doubted outlier = []
unlike_paragraph Unexplained outlier = []
unlike_paragraph InPart outlier = []
unlike_paragraph Explained outlier = []
unlike_paragraph Undecided outlier = []

-- how many sights and keyed-in heights nothing checks; what is checked is left out
abbrev pub sights_called : ℕ → List ℕ
sights_called sights = count_text sights (codes "sight") (codes "sights")

abbrev pub entries_called : ℕ → List ℕ
entries_called entries = count_text entries (codes "keyed-in height") (codes "keyed-in heights")

unfoldable pub both_called : ℕ → ℕ → List ℕ
both_called sights entries = sights_called sights ++ codes " and " ++ entries_called entries

abbrev pub unchecked_called : ℕ → ℕ → List ℕ
unchecked_called sights entries =
    if sights == 0 then entries_called entries else (if entries == 0 then sights_called sights else both_called sights entries)

unfoldable pub unchecked_note : ℕ → ℕ → List ℕ
unchecked_note sights entries = codes "<p>Nothing checks " ++ unchecked_called sights entries ++ codes ": a mistake there would not show.</p>\n"

abbrev pub unchecked_paragraph : Counts → List ℕ
unchecked_paragraph counts = if all_checked counts then [] else unchecked_note counts.unchecked_sights counts.unchecked_entries

-- that there is one benchmark, if there is one
unfoldable pub lone_paragraph : ℕ → List ℕ
lone_paragraph benchmarks =
    if benchmarks == 1 then codes "<p>All heights rest on one benchmark: nothing checks its height.</p>\n" else []

-- what is found to be wrong: the heading, the marks, and the sentences of the explanations
unfoldable pub found_part : Counts → List (List ℕ) → List ℕ
found_part counts says = verdict_start (tone_of counts) (verdict_of counts) ++ marks_paragraph counts ++ flat_map said_paragraph says

-- what it means for the heights, and what nothing checks
unfoldable pub meaning_part : Counts → ShownRows → JoinedRows → List ℕ
meaning_part counts shown joined =
    moves_paragraph counts (unsigned_abs shown.limit) joined.points
    ++ unlike_paragraph (verdict_of counts) shown.answer.outlier
    ++ unchecked_paragraph counts
    ++ lone_paragraph counts.benchmarks

unfoldable pub verdict_text : Counts → ShownRows → JoinedRows → List ℕ
verdict_text counts shown joined = found_part counts shown.says ++ meaning_part counts shown joined ++ codes "</div>\n"
