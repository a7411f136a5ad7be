-- A list of the first of some things, with one more.
use Rattle.std.proofs.Common.{◌≡◌, ◌<◌, ◌≤◌, ◌+◌, ◌∷◌, ◌++◌, [], ℕ, List, length, length-append, take, sym, ap, ◌∙◌, arith}
use Rattle.std.specs.Prelude.{min}
use Rattle.std.proofs.lemmas.List.{length-take, take-append-le, take_all}
use Rattle.th_entries.specs.Limits.{max_listed}
use Rattle.th_entries.specs.Listed.{IsListed, counted}
use Rattle.th_entries.specs.declared.listed.Listed.{Listed}

module _ {X : Type 0} (before : List X) (x : X) where
  -- one more is counted
  one_counted : (old new : ℕ) → old ≡ counted before → new ≡ min (old + 1) 4294967295 → new ≡ counted (before ++ x ∷ [])
  one_counted old new was more =
      let long : length (before ++ x ∷ []) ≡ length before + 1 = length-append before (x ∷ []) in
      omega (arith, was, more, long)

  -- there was room for it among the first
  pub listed-first : (old new : Listed X) → IsListed before old → length old.first.items < 1000 → new.first.items ≡ old.first.items ++ x ∷ [] → new.count ≡ min (old.count + 1) 4294967295 → IsListed (before ++ x ∷ []) new
  listed-first old new was room first count =
      let few : length (take max_listed before) ≡ min max_listed (length before) = length-take max_listed before in
      let long : length (before ++ x ∷ []) ≡ length before + 1 = length-append before (x ∷ []) in
      let same : length old.first.items ≡ length (take max_listed before) = ap length was.first in
      let short : length before ≤ max_listed = omega (arith, few, same, room) in
      let all : length (before ++ x ∷ []) ≤ max_listed = omega (arith, few, same, room, long) in
      record {
        first = first ∙ ap (λ (own : List X). own ++ x ∷ []) (was.first ∙ take_all max_listed before short) ∙ sym (take_all max_listed (before ++ x ∷ []) all);
        count = one_counted old.count new.count was.count count;
      }

  -- there was none
  pub listed-full : (old new : Listed X) → IsListed before old → 1000 ≤ length old.first.items → new.first.items ≡ old.first.items → new.count ≡ min (old.count + 1) 4294967295 → IsListed (before ++ x ∷ []) new
  listed-full old new was full first count =
      let few : length (take max_listed before) ≡ min max_listed (length before) = length-take max_listed before in
      let same : length old.first.items ≡ length (take max_listed before) = ap length was.first in
      record {
        first = first ∙ was.first ∙ sym (take-append-le max_listed before (x ∷ []) (omega (arith, few, same, full)));
        count = one_counted old.count new.count was.count count;
      }
