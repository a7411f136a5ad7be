-- The head of a page: its title, and what the heights come from.
use Rattle.std.specs.Prelude.{ℕ, ℤ, List, [], ◌∷◌, ◌++◌, codes, unsigned_abs}
use Rattle.std.specs.List.{flat_map}
use Rattle.th_html.specs.Lengths.{size_text}
use Rattle.th_html.specs.Texts.{escaped}
use Rattle.th_inputs.specs.Inputs.{NamedInput}
use Rattle.th_page.specs.Fixed.{body_text, head_text, style_text, title_end}

-- the name of an input
unfoldable pub name_text : List ℕ → List ℕ
name_text name = codes "<bdi>" ++ escaped name ++ codes "</bdi>"

-- that of an input behind others
unfoldable pub next_name : NamedInput → List ℕ
next_name (name, sum) = codes ", " ++ name_text name

abbrev pub names_text : List NamedInput → List ℕ
names_text [] = []
names_text ((name, sum) ∷ inputs) = name_text name ++ flat_map next_name inputs

-- what the heights come from, and the limit
unfoldable pub source_text : List NamedInput → ℤ → List ℕ
source_text inputs limit =
    codes "<p class=\"of\">Heights from " ++ names_text inputs ++ codes " &middot; limit " ++ size_text (unsigned_abs limit) ++ codes "</p>\n"

-- the title, in the head and above the page
unfoldable pub title_part : List ℕ → List ℕ
title_part title = head_text ++ escaped title ++ title_end ++ style_text ++ body_text ++ escaped title ++ codes "</h1>\n"

unfoldable pub head_part : List ℕ → List NamedInput → ℤ → List ℕ
head_part title inputs limit = title_part title ++ source_text inputs limit
