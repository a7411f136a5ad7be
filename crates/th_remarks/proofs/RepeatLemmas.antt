-- Notes on books, one book further.
use Rattle.std.proofs.Common.{◌≡◌, ◌<◌, ◌≤◌, ◌+◌, ◌++◌, ◌∷◌, [], ◌⊎◌, inl, inr, ◌∙◌, ℕ, zero, suc, List, Some, None, length, slice_get, refl, ap, sym, subst, arith}
use Rattle.std.specs.Prelude.{Option, option_to_list}
use Rattle.std.specs.List.{flat_map}
use Rattle.std.proofs.lemmas.Grind.{flat_map-append}
use Rattle.std.proofs.lemmas.List.{append-nil, length_push}
use Rattle.std.specs.BTreeSet.{BTreeSet}
use Rattle.th_observations.specs.Observed.{Observed}
use Rattle.th_remarks.specs.Inside.Said.{AreSaidIn, IsSaidIn, Said}
use Rattle.th_remarks.specs.Repeats.{AreRepeats, IsRepeatNote}
use Rattle.th_remarks.specs.declared.repeats.Repeat.{Repeat}

-- what is at a place of a list with one thing more
got : {X : Type 0} (xs : List X) (x y : X) (k : ℕ) → slice_get (xs ++ x ∷ []) k ≡ Some y → (slice_get xs k ≡ Some y) ⊎ ((k ≡ length xs) × (x ≡ y))
got [] x y zero is = inr (refl, cc)
got [] x y (suc k) is = absurd (cc)
got (z ∷ zs) x y zero is = inl is
got (z ∷ zs) x y (suc k) is = elim (got zs x y k is) [
  | inl there ↦ inl there
  | inr last ↦ inr (ap suc last.0, last.1)
]

pub repeats_more : (observations : List Observed) (k : ℕ) (notes later : List Repeat) (note : Option Repeat) → AreRepeats observations k notes → IsRepeatNote observations (k + 1) note
    → later ≡ notes ++ option_to_list note → AreRepeats observations (k + 1) later
repeats_more observations k notes later note before own more = record {
  found = before.found ++ note ∷ [];
  each = length_push before.found note ∙ ap (λ n. n + 1) before.each;
  noted = λ place there is. elim (got before.found note there place is) [
    | inl earlier ↦ before.noted place there earlier
    | inr last ↦ subst (λ at. IsRepeatNote observations (at + 1) there) (sym (last.0 ∙ before.each)) (subst (IsRepeatNote observations (k + 1)) last.1 own)
  ];
  all = more ∙ ap (λ front. front ++ option_to_list note) before.all ∙ sym (flat_map-append option_to_list before.found (note ∷ []) ∙ ap (λ end. flat_map option_to_list before.found ++ end) (append-nil (option_to_list note)));
}

pub said_push : (observations : List Observed) (sets : List (BTreeSet Said)) (set : BTreeSet Said) (k : ℕ) → length sets ≡ k → AreSaidIn observations sets → IsSaidIn observations (k + 1) set
    → AreSaidIn observations (sets ++ set ∷ [])
said_push observations sets set k count before own = λ place there is. elim (got sets set there place is) [
  | inl earlier ↦ before place there earlier
  | inr last ↦ subst (λ at. IsSaidIn observations (at + 1) there) (sym (last.0 ∙ count)) (subst (IsSaidIn observations (k + 1)) last.1 own)
]
