-- Names in the folder of a name.
use Rattle.std.proofs.Common.{◌≡◌, ◌<◌, ◌+◌, ◌++◌, ◌∙◌, ℕ, List, [], ◌∷◌, Some, None, ap, ap₂, arith, drop, length, length-append, refl, suc, sym, take}
use Rattle.std.proofs.Math.Seq.{drop-cons}
use Rattle.std.proofs.lemmas.List.{append_assoc, take-append-drop, take_at}
use Rattle.std.proofs.lemmas.Option.{get_or_from_slice_get, slice_get_within}
use Rattle.std.specs.Prelude.{slice_get}
use Rattle.std.specs.Str.Pattern.{RFindsText, SplitsAroundMatch}
use Rattle.th_devices.specs.Files.{IsBeside}

-- from a slash on a name begins with it
at-slash : (name : List ℕ) (at : ℕ) → slice_get name at ≡ Some 47 → drop at name ≡ 47 ∷ drop (suc at) name
at-slash name at is =
    drop-cons name at 0 (slice_get_within name at 47 is) ∙ ap (λ byte. byte ∷ drop (suc at) name) (get_or_from_slice_get name at 47 0 is)

-- the front of a list that goes on with a slash
cut-behind : (front tail : List ℕ) (i : ℕ) → length front ≡ i → take (i + 1) (front ++ 47 ∷ tail) ≡ front ++ 47 ∷ []
cut-behind front tail i size =
    ap (take (i + 1)) (sym (append_assoc front (47 ∷ []) tail))
    ∙ take_at (front ++ 47 ∷ []) tail (i + 1) (length-append front (47 ∷ []) ∙ ap (λ n. n + 1) size)

-- a name in the folder before the last slash
pub beside_folder : (name front back own rest : List ℕ) → SplitsAroundMatch (RFindsText (47 ∷ [])) name front back → own ≡ front ++ 47 ∷ rest → IsBeside name own
beside_folder name front back own rest (i, j, found, is_front, is_back, order, size, size_back) is =
    let whole : name ≡ front ++ 47 ∷ drop j name = sym (take-append-drop i name) ∙ ap₂ (λ one other. one ++ other) (sym is_front) found.1.split in
    record {
      place = i + 1;
      folder = ap (take (i + 1)) is ∙ cut-behind front rest i size ∙ sym (cut-behind front (drop j name) i size) ∙ sym (ap (take (i + 1)) whole);
      last = λ at behind slash.
          let within : at < length name = slice_get_within name at 47 slash in
          found.0 at (omega (arith, behind)) (omega (arith, within)) (drop (suc at) name) (at-slash name at slash);
    }

-- any name is beside one without a slash
pub beside_none : (name own : List ℕ) → RFindsText (47 ∷ []) name None → IsBeside name own
beside_none name own none = record {
  place = 0;
  folder = refl;
  last = λ at _ slash.
      let within : at < length name = slice_get_within name at 47 slash in
      none at (omega (arith, within)) (drop (suc at) name) (at-slash name at slash);
}
