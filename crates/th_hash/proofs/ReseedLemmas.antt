-- Distinct keys that are inserted in turn are there in their order.
use Rattle.std.proofs.Common.{◌≡◌, Bool, false, ◌||◌, List, [], ◌∷◌, ◌++◌, refl, sym, ap, ◌∙◌, subst, append_assoc, if◌then◌else◌}
use Rattle.std.proofs.lemmas.List.{append-nil}
use Rattle.std.specs.Cmp.{IsEquivalence}
use Rattle.std.specs.List.{list_any, AllByRecursion, IsDistinct}
use Rattle.std.specs.Map.{keys_of}
use Rattle.indexmap.specs.IndexMap.{insert_all as insert_entries}
use Rattle.indexmap.specs.IndexSet.{insert_all as insert_keys}
use Rattle.indexmap.proofs.MapLemmas.{absent_before, absent_from_lookup, insert_entry-absent}

module _ {K : Type 0} {eq : K → K → Bool} (laws : IsEquivalence eq) where
  module _ {V : Type 0} where
    -- entries of distinct keys
    pub distinct_entries : (es xs : List (K × V)) → IsDistinct eq (keys_of (es ++ xs)) → insert_entries eq es xs ≡ es ++ xs
    distinct_entries es [] distinct = sym (append-nil es)
    distinct_entries es (x ∷ xs) distinct =
        ap (λ done. insert_entries eq done xs) (insert_entry-absent eq x.0 x.1 es (absent_from_lookup (eq x.0) es (absent_before laws es xs x distinct)))
        ∙ distinct_entries (es ++ x ∷ []) xs (subst (λ (all : List (K × V)). IsDistinct eq (keys_of all)) (sym (append_assoc es (x ∷ []) xs)) distinct)
        ∙ append_assoc es (x ∷ []) xs

  apart_from_later : (key : K) (before later : List K) (k : K) → AllByRecursion (λ other. eq key other ≡ false) (before ++ k ∷ later) → eq key k ≡ false
  apart_from_later key [] later k apart = apart.0
  apart_from_later key (x ∷ before) later k apart = apart_from_later key before later k apart.1

  -- a key that comes later is not among those before it
  none_before : (before later : List K) (k : K) → IsDistinct eq (before ++ k ∷ later) → list_any (eq k) before ≡ false
  unfolding IsDistinct
  none_before [] later k distinct = refl
  none_before (x ∷ before) later k distinct =
      ap (λ here. here || list_any (eq k) before) (laws.symm k x ∙ apart_from_later x before later k distinct.0) ∙ none_before before later k distinct.1

  -- distinct keys
  pub distinct_keys : (ks xs : List K) → IsDistinct eq (ks ++ xs) → insert_keys eq ks xs ≡ ks ++ xs
  distinct_keys ks [] distinct = sym (append-nil ks)
  distinct_keys ks (x ∷ xs) distinct =
      ap (λ there. insert_keys eq (if there then ks else ks ++ x ∷ []) xs) (none_before ks xs x distinct)
      ∙ distinct_keys (ks ++ x ∷ []) xs (subst (IsDistinct eq) (sym (append_assoc ks (x ∷ []) xs)) distinct)
      ∙ append_assoc ks (x ∷ []) xs
