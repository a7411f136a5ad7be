use Rattle.std.proofs.Common.{◌≡◌, ◌<◌, ℕ, List, ap, length, subst, sym, ◌∙◌, arith}
use Rattle.th_network.specs.Networks.{points_of}
use Rattle.th_points.specs.Places.{place_of}
use Rattle.th_numbers.specs.Inside.Parts.{HasOther}
use Rattle.th_numbers.proofs.PartLemmas.{other_is_tied, tied_has_other, tied_is_below}
use Rattle.th_numbers.proofs.ties.is_tied.Goals as goal

pub returns-then-place-parts : goal.returns-then-place-parts
returns-then-place-parts c =
    let name = c.args.name.now in
    let at : c.place_in-place.result ≡ place_of (points_of c.args.network.now) name = c.place_in-place.ensures ∙ ap (λ (own : List (List ℕ)). place_of own name) c.points.ensures.points in
    ((λ e. absurd (cc e)), (λ tied. absurd (omega (arith, at, tied_is_below c.args.network.now c.args.parts.now name c.requires tied))))

pub returns : goal.returns
returns c =
    let name = c.args.name.now in
    let at : c.place_in-place.result ≡ place_of (points_of c.args.network.now) name = c.place_in-place.ensures ∙ ap (λ (own : List (List ℕ)). place_of own name) c.points.ensures.points in
    let below : place_of (points_of c.args.network.now) name < length c.args.parts.now = omega (arith, at) in (
      (λ e. other_is_tied c.args.network.now c.args.parts.now name c.requires below (subst (HasOther c.args.network.now c.args.parts.now) at (c.has_other.ensures.0 e))),
      (λ tied. c.has_other.ensures.1 (subst (HasOther c.args.network.now c.args.parts.now) (sym at) (tied_has_other c.args.network.now c.args.parts.now name c.requires tied))),
    )
