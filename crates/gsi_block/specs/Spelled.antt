use Rattle.std.specs.Prelude.{ℕ, Bool, List, [], ◌∷◌, ⊤}
use Rattle.std.specs.Coded.{Coded-set, coded_bool, coded_list, coded_ℕ, ×_prop, Unit-prop}
use Rattle.gsi_word.specs.Words.{Parts, Spells, spelling_of}
use Rattle.gsi_word.specs.declared.words.Width.{Width}

-- every word has a spelling in this width
abbrev pub AreSpelled : Width → List Parts → Type 0
AreSpelled width [] = ⊤
AreSpelled width (word ∷ words) = Spells word (spelling_of word) width × AreSpelled width words

numbers_set : IsSet ℕ
numbers_set = Coded-set coded_ℕ

tests_set : IsSet Bool
tests_set = Coded-set coded_bool

lists_set : IsSet (List ℕ)
lists_set = Coded-set (coded_list coded_ℕ)

Spells-prop : (word : Parts) (bytes : List ℕ) (width : Width) → IsProp (Spells word bytes width)
Spells-prop word bytes width = hlevel (numbers_set, tests_set, lists_set)

-- `AreSpelled` is a proposition: any two proofs of it are equal
pub AreSpelled-prop : (width : Width) (words : List Parts) → IsProp (AreSpelled width words)
AreSpelled-prop width [] = Unit-prop
AreSpelled-prop width (word ∷ words) = ×_prop (Spells-prop word (spelling_of word) width) (AreSpelled-prop width words)
