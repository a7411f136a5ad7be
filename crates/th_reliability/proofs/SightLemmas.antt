-- Whether sights are from one station.
use Rattle.std.proofs.Common.{◌≡◌, ◌≢◌, ◌↔◌, ℕ, Bool, true, false, List, [], All, Contains, refl, sym, ◌∙◌}
use Rattle.std.proofs.lemmas.Bool.{false≢true}
use Rattle.std.proofs.lemmas.List.Elements.{All-contains}
use Rattle.th_observations.specs.Observed.{Observed}
use Rattle.th_reliability.specs.Sights.{IsOfOneStation, in_sights}
use Rattle.th_reliability.specs.declared.sights.Sights.{Sights}

pub one_of_some : (observations : List Observed) (sights : Sights) (station : List ℕ) (r : Bool) → ((o : Observed) × Contains observations o × (in_sights sights o ≡ true) × (o.station ≡ station)) → (r ≡ true → All (λ o. in_sights sights o ≡ true → o.station ≡ station) observations) → (r ≡ false → (o : Observed) × Contains observations o × (in_sights sights o ≡ true) × (o.station ≢ station)) → (r ≡ true) ↔ IsOfOneStation observations sights
one_of_some observations sights station true some all_from other_from = ((λ e. (station, all_from e)), (λ one. refl))
one_of_some observations sights station false some all_from other_from = (
  (λ e. absurd (false≢true e)),
  (λ one.
      let other = other_from refl in
      let here : some.0.station ≡ one.0 = All-contains (λ o. in_sights sights o ≡ true → o.station ≡ one.0) observations some.0 one.1 some.1 some.2 in
      let there : other.0.station ≡ one.0 = All-contains (λ o. in_sights sights o ≡ true → o.station ≡ one.0) observations other.0 one.1 other.1 other.2 in
      absurd (other.3 (there ∙ sym here ∙ some.3))),
)

pub one_of_none : (observations : List Observed) (sights : Sights) → All (λ o. in_sights sights o ≡ false) observations → (true ≡ true) ↔ IsOfOneStation observations sights
one_of_none observations sights none = ((λ e. ([], λ k d within own. absurd (false≢true (sym (none k d within) ∙ own)))), (λ one. refl))
