-- How many names are that of standard input.
use Rattle.std.proofs.Common.{◌≡◌, ◌∙◌, ℕ, Bool, List, [], Option, Some, ap, map, sym}
use Rattle.std.specs.Borrow.{Bor}
use Rattle.std.specs.Prelude.{min, unwrap_or}
use Rattle.std.specs.List.{count_by}
use Rattle.std.proofs.lemmas.List.Folds.{fold-map}
use Rattle.clap.specs.Words.{Text}
use Rattle.th_commands.specs.Streams.{is_stream, streams_among}

-- of the elements that a function gives are counted those that it gives for
count_by_map : {X Y : Type 0} (p : Y → Bool) (f : X → Y) (xs : List X) → count_by p (map f xs) ≡ count_by (λ x. p (f x)) xs
count_by_map p f xs = fold-map _ f 0 xs

-- the names that were found are counted as those that `clap` found
pub streams_are : (names : List (Bor Text)) (all : Option (List Text)) → Some (map (λ (own : Bor Text). own.now) names) ≡ all
    → min (count_by (λ (own : Bor Text). is_stream own.now) names) 2 ≡ min (streams_among (unwrap_or all [])) 2
streams_are names all found =
    ap (λ (count : ℕ). min count 2)
    (sym (count_by_map is_stream (λ (own : Bor Text). own.now) names) ∙ ap (λ (own : Option (List Text)). streams_among (unwrap_or own [])) found)
