-- What a feed has taken while a source is read into it in pieces.
use Rattle.std.proofs.Common.{◌≡◌, ◌≤◌, ◌+◌, ℕ, List, [], ◌++◌, Some, None, IfSome, length, take, ap, sym, subst, ◌∙◌, append-nil, append_assoc, length-append, arith}
use Rattle.std.proofs.KnownBytes.{Consumes-trans}
use Rattle.std.proofs.lemmas.List.{take_all, take_at}
use Rattle.std.specs.Prelude.{Option}
use Rattle.std.specs.Io.KnownBytes.{Consumes, IsAtEnd}
use Rattle.th_devices.specs.Transfer.{Advances}
use Rattle.th_run_parts.specs.Readers.{AreTaken}

-- a feed was fed so many bytes, which the source lost: what it was to take with them it has taken
pub record IsFedFrom {B F : Type 0} (has_taken : B → List ℕ → F → Type 0) (old new : F) (told left : Option (List ℕ)) (done : ℕ) : Type 0 where
  pub bytes : List ℕ
  pub count : length bytes ≡ done
  pub taken : Consumes told left bytes
  pub keeps : (start : B) (later : List ℕ) → has_taken start (bytes ++ later) old → has_taken start later new

-- one piece more
pub fed_more : {B F : Type 0} (has_taken : B → List ℕ → F → Type 0) (old mid new : F) (told left after : Option (List ℕ)) (done count : ℕ) (piece : List ℕ)
    → IsFedFrom has_taken old mid told left done → Consumes left after piece → length piece ≡ count
    → ((start : B) (later : List ℕ) → has_taken start (piece ++ later) mid → has_taken start later new)
    → IsFedFrom has_taken old new told after (done + count)
fed_more has_taken old mid new told left after done count piece fed more size step = record {
  bytes = fed.bytes ++ piece;
  count = length-append fed.bytes piece ∙ omega (arith, fed.count, size);
  taken = Consumes-trans _ _ _ _ _ fed.taken more;
  keeps = λ start later has.
      step start later (fed.keeps start (piece ++ later)
      (subst (λ all. has_taken start all old) (append_assoc fed.bytes piece later) has));
}

-- a feed took the front of what a source tells
abbrev pub TookFront : {B F : Type 0} → (B → List ℕ → F → Type 0) → F → F → Option (List ℕ) → ℕ → Type 0
TookFront has_taken old new told most = (front : List ℕ) × AreTaken has_taken front old new × IfSome told (λ text. front ≡ take most text)

-- all that was fed was taken
all_taken : {B F : Type 0} (has_taken : B → List ℕ → F → Type 0) (old new : F) (told left : Option (List ℕ)) (done : ℕ)
    (fed : IsFedFrom has_taken old new told left done) → AreTaken has_taken fed.bytes old new
all_taken has_taken old new told left done fed = λ start has.
    fed.keeps start [] (subst (λ all. has_taken start all old) (sym (append-nil fed.bytes)) has)

-- at the end of the source the feed has the whole text, and so all that a limit lets through
pub fed_to_end : {B F : Type 0} (has_taken : B → List ℕ → F → Type 0) (old new : F) (told left : Option (List ℕ)) (done most : ℕ)
    → IsFedFrom has_taken old new told left done → IsAtEnd left → done ≤ most → TookFront has_taken old new told most
fed_to_end has_taken old new told left done most fed end within =
    (fed.bytes, all_taken has_taken old new told left done fed, front told left fed.taken end)
  where
    front : (told left : Option (List ℕ)) → Consumes told left fed.bytes → IsAtEnd left → IfSome told (λ text. fed.bytes ≡ take most text)
    front None left taken end = tt
    front (Some text) None taken end = absurd taken
    front (Some text) (Some rest) taken end =
        let all : text ≡ fed.bytes = taken ∙ ap (λ xs. fed.bytes ++ xs) end ∙ append-nil fed.bytes in
        sym (ap (take most) all ∙ take_all most fed.bytes (omega (arith, fed.count, within)))

-- a feed that was fed to the limit has the front of the text
pub fed_to_limit : {B F : Type 0} (has_taken : B → List ℕ → F → Type 0) (old new : F) (told left : Option (List ℕ)) (done most : ℕ)
    → IsFedFrom has_taken old new told left done → done ≡ most → TookFront has_taken old new told most
fed_to_limit has_taken old new told left done most fed full =
    (fed.bytes, all_taken has_taken old new told left done fed, front told left fed.taken)
  where
    front : (told left : Option (List ℕ)) → Consumes told left fed.bytes → IfSome told (λ text. fed.bytes ≡ take most text)
    front None left taken = tt
    front (Some text) None taken = absurd taken
    front (Some text) (Some rest) taken = sym (ap (take most) taken ∙ take_at fed.bytes rest most (fed.count ∙ full))

-- and where memory was refused for a piece that was read
pub fed_stands_more : {B F : Type 0} (has_taken : B → List ℕ → F → Type 0) (old new : F) (told left after : Option (List ℕ)) (done count most : ℕ) (piece : List ℕ)
    → IsFedFrom has_taken old new told left done → Consumes left after piece → length piece ≡ count → done + count ≤ most → Advances most told after
fed_stands_more has_taken old new told left after done count most piece fed more size within =
    (fed.bytes ++ piece, omega (arith, length-append fed.bytes piece, fed.count, size, within), Consumes-trans _ _ _ _ _ fed.taken more)
