use Rattle.std.proofs.Common.{◌≡◌, ◌++◌, ◌∷◌, [], None, All, List, ℕ, ℤ, bytes_eq, unsigned_abs, ◌<◌, w64, ap, subst, sym, ◌∙◌, arith}
use Rattle.std.proofs.lemmas.Int.{fits_signed_from_abs, to_z-of_z}
use Rattle.std.specs.Map.{lookup}
use Rattle.indexmap.specs.IndexMap.{insert_entry}
use Rattle.th_network.specs.Limits.{height_limit}
use Rattle.th_certificate.proofs.HeightLemmas.{added_in_range, added_last}
use Rattle.th_certificate.proofs.heights.StatedHeights.add.Goals as goal

-- the row went last
added : (c : goal.In_ok-insert_stated) → c.insert_stated.new.map.entries ≡ c.self.inside.heights.entries ++ (c.args.name, c.args.height) ∷ []
added c =
    let rows = c.self.inside.heights.entries in
    let small = c.requires.in_range in
    let absent : lookup (bytes_eq c.args.name) rows ≡ None = ap (lookup (bytes_eq c.args.name)) c.self.view_is ∙ c.requires.new in
    c.in_ok-insert_stated.ensures.entries
    ∙ ap (λ height. insert_entry bytes_eq rows c.args.name height) (to_z-of_z w64 c.args.height (fits_signed_from_abs w64 c.args.height (omega (arith, small))))
    ∙ added_last c.self.inside.heights c.args.name c.args.height absent

pub invariant_of-self-2 : goal.invariant_of-self-2
invariant_of-self-2 c = record {
  distinct = c.in_ok-insert_stated.ensures.unique;
  in_range = subst (All (λ row. unsigned_abs row.1 < height_limit)) (sym (added c)) (added_in_range c.self.inside.heights.entries c.args.name c.args.height c.self.invariant c.requires.in_range);
}

pub returns-clause-added : goal.returns-clause-added
returns-clause-added c = added c ∙ ap (λ (rows : List (List ℕ × ℤ)). rows ++ (c.args.name, c.args.height) ∷ []) c.self.view_is
