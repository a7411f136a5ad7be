use Rattle.std.proofs.Common.{◌≡◌, ◌<◌, ◌++◌, ◌∷◌, ◌&&◌, [], true, false, ℕ, List, bytes_eq, length, get_or, All, unsigned_abs, w64, subst, sym, ap, ◌∙◌, arith}
use Rattle.std.specs.List.{list_all, list_any}
use Rattle.std.specs.Map.{keys_of}
use Rattle.std.proofs.lemmas.Int.{fits_signed_from_abs, to_z-of_z}
use Rattle.std.proofs.lemmas.List.Elements.{All-push}
use Rattle.th_network.specs.Limits.{height_limit}
use Rattle.th_checker.proofs.MapLemmas.{a_row, listed_more, no_row}
use Rattle.th_checker.proofs.PositionLemmas.{all_fails, all_more}
use Rattle.th_checker.proofs.maps.heights_at.Goals as goal

pub returns-in-None : goal.returns-in-None
returns-in-None c =
    let names = c.args.points.now.keys in
    let stated = c.args.stated.now in
    let i = c.loop-name.name-index in
    let name = c.name-item.result in
    let within : i < length names = omega (arith, ap length c.as_slice-name-items.ensures.keys, c.loop-name-test.true) in
    let is : name ≡ get_or names i name = c.name-item.is ∙ ap (λ (ns : List (List ℕ)). get_or ns i name) c.as_slice-name-items.ensures.keys in
    let fails : list_any (bytes_eq (get_or names i name)) (keys_of stated) ≡ false = ap (λ (n : List ℕ). list_any (bytes_eq n) (keys_of stated)) (sym is) ∙ no_row stated name (sym c.in-None.ensures.value) in
    ap (λ b. b && list_all (λ row. list_any (bytes_eq row.0) names) stated) (all_fails (λ name. list_any (bytes_eq name) (keys_of stated)) names i name within fails)

pub loop-name-preserved : goal.loop-name-preserved
loop-name-preserved c =
    let names = c.args.points.now.keys in
    let stated = c.args.stated.now in
    let i = c.loop-name.name-index in
    let name = c.name-item.result in
    let height = c.in-Some.height in
    let within : i < length names = omega (arith, ap length c.as_slice-name-items.ensures.keys, c.loop-name-test.true) in
    let is : name ≡ get_or names i name = c.name-item.is ∙ ap (λ (ns : List (List ℕ)). get_or ns i name) c.as_slice-name-items.ensures.keys in
    let found = sym c.in-Some.ensures.value in
    let passes : list_any (bytes_eq (get_or names i name)) (keys_of stated) ≡ true = ap (λ (n : List ℕ). list_any (bytes_eq n) (keys_of stated)) (sym is) ∙ a_row stated name height found in
    let plain = to_z-of_z w64 height (fits_signed_from_abs w64 height (omega (arith, c.in-Some.ensures.in_range))) in
    record {
      value = c.in_ok-push-in-Some.ensures.items
          ∙ ap (λ z. c.loop-name.heights.items ++ z ∷ []) plain
          ∙ listed_more stated names i name height c.loop-name.heights.items within is found c.loop-name.invariant.value;
      in_range = subst (All (λ height. unsigned_abs height < height_limit)) (sym (c.in_ok-push-in-Some.ensures.items ∙ ap (λ z. c.loop-name.heights.items ++ z ∷ []) plain))
          (All-push (λ height. unsigned_abs height < height_limit) c.loop-name.heights.items height c.loop-name.invariant.in_range c.in-Some.ensures.in_range);
      all = all_more (λ name. list_any (bytes_eq name) (keys_of stated)) names i name within passes c.loop-name.invariant.all;
    }
