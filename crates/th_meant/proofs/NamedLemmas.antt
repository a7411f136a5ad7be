-- What is named is what may have been meant.
use Rattle.std.proofs.Common.{◌≡◌, ◌⊎◌, inl, inr, Bool, true, false, cond, ◌||◌, ℤ, List, [], ◌∷◌, Contains, length, nat_le, take, refl, subst, sym, ap, ◌∙◌, arith, leb-false, leb-true}
use Rattle.std.specs.Ordering.{int_eq}
use Rattle.std.proofs.lemmas.Bool.{false≢true, true≢false}
use Rattle.std.proofs.lemmas.List.{length-take, take_all}
use Rattle.th_meant.specs.Inside.Nearest.{either_of, is_among, with_offers}
use Rattle.th_meant.specs.Inside.Slips.{slips_of}
use Rattle.th_meant.specs.Meant.{AreCandidates, AreNamed, IsCandidate, named_of}
use Rattle.th_meant.specs.Slips.{IsSlipOf}
use Rattle.th_meant.specs.declared.nearest.Sought.{Sought}
use Rattle.th_meant.specs.declared.proposed.Proposed.{Proposed}
use Rattle.th_meant.specs.declared.typed.Typed.{Typed}
use Rattle.th_meant.proofs.MemberLemmas.{at_first, in_rest, member_cases, none_in}
use Rattle.th_meant.proofs.OfferLemmas.{has_offered, in_order, is_wanted_if, offered_ascends, offered_cases, taken_offers, wanted_tells}
use Rattle.th_meant.proofs.PlacedLemmas.{equal_heights, is_equal, ordered}
use Rattle.th_meant.proofs.SlipLemmas.{listed_is_slip, slip_is_listed}

-- whether a height is one of some
has_among : (height : ℤ) (heights : List ℤ) → is_among height heights ≡ true → Contains heights height
has_among height [] e = absurd (false≢true e)
has_among height (own ∷ rest) e = go (has_among height rest) (int_eq own height) refl e
  where
    go : (is_among height rest ≡ true → Contains rest height) → (same : Bool) → int_eq own height ≡ same → (same || is_among height rest) ≡ true → Contains (own ∷ rest) height
    go later true s e = subst (λ (other : ℤ). Contains (own ∷ rest) other) (equal_heights own height s) (at_first own rest)
    go later false s e = in_rest own height rest (later e)

is_among_if : (height : ℤ) (heights : List ℤ) → Contains heights height → is_among height heights ≡ true
is_among_if height [] has = absurd (none_in height has)
is_among_if height (own ∷ rest) has = go (is_among_if height rest) (int_eq own height) refl (member_cases own height rest has)
  where
    go : (Contains rest height → is_among height rest ≡ true) → (same : Bool) → int_eq own height ≡ same → (own ≡ height) ⊎ Contains rest height → (same || is_among height rest) ≡ true
    go later true s cases = refl
    go later false s (inl same) = absurd (false≢true (sym s ∙ is_equal own height same))
    go later false s (inr there) = later there

module _ (typed : Typed) (others : List ℤ) (proposed : Proposed) where
  abbrev sought : Sought
  sought = record { proposed = proposed; given = typed.given }

  abbrev offered : List ℤ
  offered = either_of typed others

  abbrev all : List ℤ
  all = in_order sought [] offered

  -- cases of the given height: it is in force elsewhere, or not
  by_given : (P : List ℤ → Type 0) → (Contains others typed.given → P others) → (¬ Contains others typed.given → P (slips_of typed)) → P offered
  by_given P elsewhere new = go (is_among typed.given others) refl
    where
      go : (own : Bool) → is_among typed.given others ≡ own → P (cond own others (slips_of typed))
      go true e = elsewhere (has_among typed.given others e)
      go false e = new (λ has. true≢false (sym (is_among_if typed.given others has) ∙ e))

  candidate : (height : ℤ) → Contains all height → IsCandidate typed others proposed height
  candidate height among = elim (offered_cases sought [] offered height among) [
    | inl none ↦ absurd (none_in height none)
    | inr found ↦
        let tells = wanted_tells sought height found.1 in
        let source = by_given (λ list. Contains list height → (Contains others typed.given → Contains others height) × (¬ Contains others typed.given → IsSlipOf typed height))
        (λ has own. (λ also. own, λ no. absurd (no has)))
        (λ no own. (λ has. absurd (no has), λ also. listed_is_slip typed height own)) found.0
        in
        record { another = tells.0; fits = tells.1; other = source.0; slip = source.1 }
  ]

  listed : (height : ℤ) → IsCandidate typed others proposed height → Contains all height
  listed height is =
      let offers = by_given (λ list. Contains list height) (λ has. is.other has) (λ no. slip_is_listed typed height (is.slip no)) in
      has_offered sought [] offered height offers (is_wanted_if sought height is.another is.fits)

  are_candidates : AreCandidates typed others proposed all
  are_candidates = record {
    each = λ height. (candidate height, listed height);
    ordered = ordered proposed all (offered_ascends sought [] offered tt);
  }

-- whether there are too many shows in those that are kept
pub named_of_kept : (heights : List ℤ) → named_of (take 4 heights) ≡ named_of heights
named_of_kept heights = go (nat_le (length heights) 3) refl
  where
    go : (few : Bool) → nat_le (length heights) 3 ≡ few → named_of (take 4 heights) ≡ named_of heights
    go true e = ap named_of (take_all 4 heights (omega (arith, leb-true (length heights) 3 e)))
    go false e =
        let many = leb-false (length heights) 3 e in
        let long : length (take 4 heights) ≡ 4 = length-take 4 heights ∙ omega (arith, many) in
        let none : named_of (take 4 heights) ≡ [] = ap (λ count. cond (nat_le count 3) (take 4 heights) []) long in
        none ∙ sym (ap (λ few. cond few heights []) e)

pub are_named : (typed : Typed) (others : List ℤ) (proposed : Proposed) (sought : Sought) (kept : List ℤ) → sought.proposed ≡ proposed → sought.given ≡ typed.given
    → kept ≡ with_offers sought [] (either_of typed others) → AreNamed typed others proposed (named_of kept)
are_named typed others proposed own kept same given is =
    let both : own ≡ sought typed others proposed = ap (λ (p : Proposed). record { proposed = p; given = own.given }) same ∙ ap (λ (g : ℤ). record { proposed = proposed; given = g }) given in
    let taken : kept ≡ take 4 (in_order own [] (offered typed others proposed)) = is ∙ taken_offers own [] (offered typed others proposed) in
    let found : kept ≡ take 4 (all typed others proposed) = taken ∙ ap (λ own. take 4 (in_order own [] (offered typed others proposed))) both in
    (all typed others proposed, are_candidates typed others proposed, ap named_of found ∙ named_of_kept (all typed others proposed))
