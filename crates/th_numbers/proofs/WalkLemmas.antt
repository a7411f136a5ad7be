-- Walks one after the other, and back.
use Rattle.std.proofs.Common.{ℕ, inl, inr, List, [], ◌∷◌, All, Contains, refl, sym, subst}
use Rattle.std.proofs.lemmas.List.Elements.{All-nil, All-cons, All-head, All-tail}
use Rattle.th_observations.specs.Observed.{Observed}
use Rattle.th_network.specs.Walks.{Leads, Walk}

pub walk_none : (observations : List Observed) (a : List ℕ) → Walk observations a a
walk_none observations a = ([], All-nil (Contains observations), refl)

-- an observation as a walk, in either direction
pub walk_there : (observations : List Observed) (o : Observed) → Contains observations o → Walk observations o.station o.target
walk_there observations o has = (o ∷ [], All-cons (Contains observations) o [] has (All-nil (Contains observations)), inl (refl, refl))

pub walk_back : (observations : List Observed) (o : Observed) → Contains observations o → Walk observations o.target o.station
walk_back observations o has = (o ∷ [], All-cons (Contains observations) o [] has (All-nil (Contains observations)), inr (refl, refl))

along : (observations chain : List Observed) (a b c : List ℕ) → All (Contains observations) chain → Leads chain a b → Walk observations b c → Walk observations a c
along observations [] a b c among leads walk = subst (λ name. Walk observations name c) (sym leads) walk
along observations (o ∷ chain) a b c among leads walk =
    let has = All-head (Contains observations) o chain among in
    let rest = All-tail (Contains observations) o chain among in
    elim leads [
      | inl h ↦ let more = along observations chain o.target b c rest h.1 walk in (o ∷ more.0, All-cons (Contains observations) o more.0 has more.1, inl (h.0, more.2))
      | inr h ↦ let more = along observations chain o.station b c rest h.1 walk in (o ∷ more.0, All-cons (Contains observations) o more.0 has more.1, inr (h.0, more.2))
    ]

pub walk_on : (observations : List Observed) (a b c : List ℕ) → Walk observations a b → Walk observations b c → Walk observations a c
walk_on observations a b c first second = along observations first.0 a b c first.1 first.2 second
