-- Lists that grow by what is made of one item after another.
use Rattle.std.proofs.Common.{◌≡◌, ◌<◌, ◌+◌, ℕ, List, ◌++◌, drop, get_or, length, sym, ap, ◌∙◌, append_assoc}
use Rattle.std.specs.List.{flat_map}
use Rattle.th_numbers.specs.Lists.{Listed}
use Rattle.th_numbers.specs.declared.candidates.Candidate.{Candidate}
use Rattle.th_columns.proofs.RowLemmas.{drop-first}

pub flat_next : {X Y : Type 0} → (f : X → List Y) (xs : List X) (i : ℕ) (x : X) (old new all : List Y) → i < length xs → x ≡ get_or xs i x → new ≡ old ++ f x → old ++ flat_map f (drop i xs) ≡ all → new ++ flat_map f (drop (i + 1) xs) ≡ all
flat_next f xs i x old new all within is more so_far =
    ap (λ front. front ++ flat_map f (drop (i + 1) xs)) more
    ∙ append_assoc old (f x) (flat_map f (drop (i + 1) xs))
    ∙ ap (λ (rest : List _). old ++ flat_map f rest) (sym (drop-first xs i x within is))
    ∙ so_far

abbrev pub listed : List Candidate → List Candidate → List Candidate → List Candidate → Listed
listed a b c d = record { entered = a; changes = b; sights = c; benchmarks = d }

pub listed_same : (a b c d a' b' c' d' : List Candidate) → a ≡ a' → b ≡ b' → c ≡ c' → d ≡ d' → listed a b c d ≡ listed a' b' c' d'
listed_same a b c d a' b' c' d' e f g h =
    ap (λ x. listed x b c d) e ∙ ap (λ x. listed a' x c d) f ∙ ap (λ x. listed a' b' x d) g ∙ ap (λ x. listed a' b' c' x) h
