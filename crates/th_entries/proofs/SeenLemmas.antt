-- What is known of names after one more mention.
use Rattle.std.proofs.Common.{◌≡◌, Bool, true, false, cond, not, ◌||◌, ◌⊎◌, inl, inr, ◌<◌, ◌≤◌, ◌+◌, List, ℕ, [], ◌∷◌, ◌++◌, Option, Some, None, length, length-append, map, refl, sym, ap, ◌∙◌, subst, arith}
use Rattle.std.specs.Prelude.{bytes_eq, find, slice_get}
use Rattle.std.specs.List.{list_any}
use Rattle.std.specs.Option.{option_map, option_map_or, option_or}
use Rattle.std.specs.Cmp.Lexicographic.{bytes_decides}
use Rattle.std.proofs.lemmas.List.{append-nil, take-append-le, take_all}
use Rattle.std.proofs.lemmas.List.Elements.{All-filter}
use Rattle.std.proofs.lemmas.List.Folds.{find-append, list_any_none}
use Rattle.gsi_word.specs.Words.{Parts, parts_of}
use Rattle.gsi_word.specs.Names.{same_name}
use Rattle.gsi_word.specs.declared.words.Word.{Word}
use Rattle.th_book.specs.declared.entries.Entered.{Entered}
use Rattle.th_entries.specs.Limits.{max_mentions}
use Rattle.th_entries.specs.Listed.{IsListed}
use Rattle.th_entries.specs.Spellings.{Mention, differing, differs, is_of, spellings_in, without_zeros}
use Rattle.th_entries.specs.Seen.{AreKnownIn, AreSeenIn, spelled_at, spelled_in}
use Rattle.th_entries.specs.Inside.Seen.{mention_by}
use Rattle.th_entries.specs.declared.seen.SeenNames.{SeenNames}
use Rattle.th_entries.specs.declared.seen.Spelled.{Spelled}
use Rattle.th_entries.specs.declared.spellings.Spelling.{Spelling}
use Rattle.th_entries.specs.declared.seen.Spelled.TheVariants.{Alike, Otherwise}
use Rattle.th_entries.proofs.MentionLemmas.{any-push, flip, found-push, found_with, is_other, itself, none-passes, was_other}

-- the mention of a block whose first word and whose station or target are these
pub mention_by-is : (book line : ℕ) (entered : Entered) (words : List Word) (word : Word) (name : List ℕ) → slice_get words 0 ≡ Some word → option_or entered.target entered.station ≡ Some name → mention_by book line entered (map parts_of words) ≡ Some (record { here = record { book = book; line = line; name = name }; bytes = without_zeros (parts_of word).body })
mention_by-is book line entered [] word name first named = cc
mention_by-is book line entered (own ∷ words) word name first named =
    ap (option_map (mention_at own)) named ∙ ap (λ found. Some (mention_at found name)) same
  where
    mention_at : Word → List ℕ → Mention
    mention_at found name = record { here = record { book = book; line = line; name = name }; bytes = without_zeros (parts_of found).body }

    same : own ≡ word
    same = cc

-- there is none without a first word, or without a station and a target
pub no_mention : (book line : ℕ) (entered : Entered) (words : List Parts) → (slice_get words 0 ≡ None) ⊎ (option_or entered.target entered.station ≡ None) → mention_by book line entered words ≡ None
no_mention book line entered [] none = refl
no_mention book line entered (word ∷ words) (inl none) = absurd (cc)
no_mention book line entered (word ∷ words) (inr none) = ap (option_map (λ (name : List ℕ). record { here = record { book = book; line = line; name = name }; bytes = without_zeros word.body })) none

or_false : (b : Bool) → (b || false) ≡ b
or_false true = refl
or_false false = refl

cond_itself : (b : Bool) → cond b true false ≡ b
cond_itself true = refl
cond_itself false = refl

cond_false : (b : Bool) → cond b false false ≡ false
cond_false true = refl
cond_false false = refl

or_none : {X : Type 0} → (found : Option X) → option_or found None ≡ found
or_none None = refl
or_none (Some x) = refl

-- how a name is spelled whose first mention is this, by whether some mention differs
abbrev spelled_by : Bool → Mention → Spelled
spelled_by differing first = cond differing Otherwise (Alike (record { items = first.bytes }))

-- another name is spelled as before
spelled-other : (mentions : List Mention) (mention : Mention) (name : List ℕ) → is_of name mention ≡ false → spelled_in (mentions ++ mention ∷ []) name ≡ spelled_in mentions name
spelled-other mentions mention name other =
    ap (λ found. option_map (spelled_by (list_any (is_of name) (differing (mentions ++ mention ∷ [])))) found) finds
    ∙ ap (λ any. option_map (spelled_by any) (find (is_of name) mentions)) anys
  where
    finds : find (is_of name) (mentions ++ mention ∷ []) ≡ find (is_of name) mentions
    finds = find-append (is_of name) mentions (mention ∷ []) ∙ ap (λ (same : Bool). option_or (find (is_of name) mentions) (cond same (Some mention) None)) other ∙ or_none (find (is_of name) mentions)

    anys : list_any (is_of name) (differing (mentions ++ mention ∷ [])) ≡ list_any (is_of name) (differing mentions)
    anys = any-push mentions mention name
        ∙ ap (λ same. list_any (is_of name) (differing mentions) || cond (is_other mentions mention) same false) other
        ∙ ap (λ last. list_any (is_of name) (differing mentions) || last) (cond_false (is_other mentions mention))
        ∙ or_false (list_any (is_of name) (differing mentions))

-- the first mention of its name, or this one
abbrev first_of : List Mention → Mention → Option Mention
first_of mentions mention = option_or (find (is_of mention.here.name) mentions) (Some mention)

find-push : (mentions : List Mention) (mention : Mention) → find (is_of mention.here.name) (mentions ++ mention ∷ []) ≡ first_of mentions mention
find-push mentions mention =
    find-append (is_of mention.here.name) mentions (mention ∷ [])
    ∙ ap (λ (same : Bool). option_or (find (is_of mention.here.name) mentions) (cond same (Some mention) None)) (itself mention.here.name)

-- its own name is spelled otherwise where this mention differs, or an earlier one
spelled-own : (mentions : List Mention) (mention : Mention) → spelled_in (mentions ++ mention ∷ []) mention.here.name ≡ option_map (spelled_by (was_other mentions mention || is_other mentions mention)) (first_of mentions mention)
spelled-own mentions mention =
    ap (λ found. option_map (spelled_by (list_any (is_of mention.here.name) (differing (mentions ++ mention ∷ [])))) found) (find-push mentions mention)
    ∙ ap (λ any. option_map (spelled_by any) (first_of mentions mention))
    (any-push mentions mention mention.here.name
    ∙ ap (λ same. was_other mentions mention || cond (is_other mentions mention) same false) (itself mention.here.name)
    ∙ ap (λ last. was_other mentions mention || last) (cond_itself (is_other mentions mention)))

-- it differs where the data of the first do
abbrev differs_from : Mention → Mention → Bool
differs_from mention first = not (bytes_eq first.bytes mention.bytes)

other-first : (mentions : List Mention) (mention : Mention) → is_other mentions mention ≡ option_map_or (differs_from mention) (first_of mentions mention) false
other-first mentions mention = ap (λ found. option_map_or (differs_from mention) found false) (find-push mentions mention)

-- what a map says of all names, and what was found, are those of one more mention
seen-next : (mentions : List Mention) (mention : Mention) (old new : SeenNames) → AreKnownIn mentions old → IsListed (spellings_in mentions ++ found_with mentions mention) new.found → ((name : List ℕ) → same_name mention.here.name name ≡ false → spelled_at new name ≡ spelled_at old name) → spelled_at new mention.here.name ≡ option_map (spelled_by (was_other mentions mention || is_other mentions mention)) (first_of mentions mention) → AreKnownIn (mentions ++ mention ∷ []) new
seen-next mentions mention old new was found others own = record {
  found = subst (λ (all : List Spelling). IsListed all new.found) (sym (found-push mentions mention)) found;
  spelled = λ name. go name (same_name mention.here.name name) refl;
}
  where
    go : (name : List ℕ) (same : Bool) → same_name mention.here.name name ≡ same → spelled_at new name ≡ spelled_in (mentions ++ mention ∷ []) name
    go name true e = subst (λ own. spelled_at new own ≡ spelled_in (mentions ++ mention ∷ []) own) ((bytes_decides mention.here.name name).0 e) (own ∙ sym (spelled-own mentions mention))
    go name false e = others name e ∙ was.spelled name ∙ sym (spelled-other mentions mention name (flip name mention.here.name ∙ e))

-- nothing more was found
found_none : (mentions : List Mention) (mention : Mention) (old new : SeenNames) → AreKnownIn mentions old → found_with mentions mention ≡ [] → new.found ≡ old.found → IsListed (spellings_in mentions ++ found_with mentions mention) new.found
found_none mentions mention old new was none same =
    subst (λ (all : List Spelling). IsListed all new.found) (sym (append-nil (spellings_in mentions)) ∙ ap (λ last. spellings_in mentions ++ last) (sym none))
    (subst (IsListed (spellings_in mentions)) (sym same) was.found)

-- a map that did not change says the same of each name
unchanged : (mentions : List Mention) (mention : Mention) (names : SeenNames) → AreKnownIn mentions names → found_with mentions mention ≡ [] → spelled_at names mention.here.name ≡ option_map (spelled_by (was_other mentions mention || is_other mentions mention)) (first_of mentions mention) → AreKnownIn (mentions ++ mention ∷ []) names
unchanged mentions mention names was none own =
    seen-next mentions mention names names was (found_none mentions mention names names was none refl) (λ name other. refl) own

-- a name that no mention is of
pub first-seen : (mentions : List Mention) (mention : Mention) (old new : SeenNames) → AreKnownIn mentions old → spelled_at old mention.here.name ≡ None → new.found ≡ old.found → ((name : List ℕ) → same_name mention.here.name name ≡ false → spelled_at new name ≡ spelled_at old name) → spelled_at new mention.here.name ≡ Some (Alike (record { items = mention.bytes })) → AreKnownIn (mentions ++ mention ∷ []) new
first-seen mentions mention old new was none found others own =
    seen-next mentions mention old new was
    (found_none mentions mention old new was (ap (λ (other : Bool). cond other (cond (was_other mentions mention) [] (mention.here ∷ [])) []) alike) found)
    others
    (own ∙ ap (λ differing. Some (spelled_by differing mention)) (sym (ap (λ before. before || is_other mentions mention) before ∙ alike)) ∙ ap (option_map (spelled_by (was_other mentions mention || is_other mentions mention))) (sym first))
  where
    absent : (found : Option Mention) → option_map (spelled_by (was_other mentions mention)) found ≡ None → found ≡ None
    absent None e = refl
    absent (Some own) e = cc

    not_found : find (is_of mention.here.name) mentions ≡ None
    not_found = absent (find (is_of mention.here.name) mentions) (sym (was.spelled mention.here.name) ∙ none)

    first : first_of mentions mention ≡ Some mention
    first = ap (λ found. option_or found (Some mention)) not_found

    before : was_other mentions mention ≡ false
    before = list_any_none (is_of mention.here.name) (differing mentions) (All-filter (differs mentions) (λ own. is_of mention.here.name own ≡ false) mentions (none-passes (is_of mention.here.name) mentions not_found))

    alike : is_other mentions mention ≡ false
    alike = other-first mentions mention ∙ ap (λ found. option_map_or (differs_from mention) found false) first ∙ ap not (itself mention.bytes)

-- a name of which some mention differs
pub seen-otherwise : (mentions : List Mention) (mention : Mention) (names : SeenNames) → AreKnownIn mentions names → spelled_at names mention.here.name ≡ Some Otherwise → AreKnownIn (mentions ++ mention ∷ []) names
seen-otherwise mentions mention names was known =
    go (find (is_of mention.here.name) mentions) (was_other mentions mention) refl refl (sym (was.spelled mention.here.name) ∙ known)
  where
    nothing : (other : Bool) → cond other (cond true [] (mention.here ∷ [])) [] ≡ []
    nothing true = refl
    nothing false = refl

    go : (found : Option Mention) (before : Bool) → find (is_of mention.here.name) mentions ≡ found → was_other mentions mention ≡ before → option_map (spelled_by before) found ≡ Some Otherwise → AreKnownIn (mentions ++ mention ∷ []) names
    go None before f b e = absurd (cc)
    go (Some first) false f b e = absurd (cc)
    go (Some first) true f b e =
        unchanged mentions mention names was
        (ap (λ (before : Bool). cond (is_other mentions mention) (cond before [] (mention.here ∷ [])) []) b ∙ nothing (is_other mentions mention))
        (known ∙ sym (ap (λ found. option_map (spelled_by (was_other mentions mention || is_other mentions mention)) (option_or found (Some mention))) f ∙ ap (λ before. Some (spelled_by (before || is_other mentions mention) first)) b))

-- the first mention of a name whose mentions are alike so far
record IsFirst (mentions : List Mention) (mention : Mention) (bytes : List ℕ) : Type 0 where
  pub first : Mention
  pub found : first_of mentions mention ≡ Some first
  pub before : was_other mentions mention ≡ false
  pub same : first.bytes ≡ bytes

abbrev bytes_in : Option Spelled → List ℕ
bytes_in None = []
bytes_in (Some (Alike own)) = own.items
bytes_in (Some Otherwise) = []

is-first : (mentions : List Mention) (mention : Mention) (names : SeenNames) (bytes : List ℕ) → AreKnownIn mentions names → spelled_at names mention.here.name ≡ Some (Alike (record { items = bytes })) → IsFirst mentions mention bytes
is-first mentions mention names bytes was known =
    go (find (is_of mention.here.name) mentions) (was_other mentions mention) refl refl (sym (was.spelled mention.here.name) ∙ known)
  where
    go : (found : Option Mention) (before : Bool) → find (is_of mention.here.name) mentions ≡ found → was_other mentions mention ≡ before → option_map (spelled_by before) found ≡ Some (Alike (record { items = bytes })) → IsFirst mentions mention bytes
    go None before f b e = absurd (cc)
    go (Some first) true f b e = absurd (cc)
    go (Some first) false f b e = record { first = first; found = ap (λ found. option_or found (Some mention)) f; before = b; same = ap bytes_in e }

-- it differs where their data do
differs-first : (mentions : List Mention) (mention : Mention) (bytes : List ℕ) (same : Bool) → IsFirst mentions mention bytes → bytes_eq bytes mention.bytes ≡ same → is_other mentions mention ≡ not same
differs-first mentions mention bytes same is e =
    other-first mentions mention
    ∙ ap (λ found. option_map_or (differs_from mention) found false) is.found
    ∙ ap (λ own. not (bytes_eq own mention.bytes)) is.same
    ∙ ap not e

-- data that are the same once more
pub seen-alike : (mentions : List Mention) (mention : Mention) (names : SeenNames) (bytes : List ℕ) → AreKnownIn mentions names → spelled_at names mention.here.name ≡ Some (Alike (record { items = bytes })) → bytes_eq bytes mention.bytes ≡ true → AreKnownIn (mentions ++ mention ∷ []) names
seen-alike mentions mention names bytes was known same =
    unchanged mentions mention names was
    (ap (λ (other : Bool). cond other (cond (was_other mentions mention) [] (mention.here ∷ [])) []) alike)
    (known ∙ sym (ap (λ found. option_map (spelled_by (was_other mentions mention || is_other mentions mention)) found) is.found ∙ ap (λ differing. Some (spelled_by differing is.first)) (ap (λ before. before || is_other mentions mention) is.before ∙ alike) ∙ ap (λ own. Some (Alike (record { items = own }))) is.same))
  where
    is : IsFirst mentions mention bytes
    is = is-first mentions mention names bytes was known

    alike : is_other mentions mention ≡ false
    alike = differs-first mentions mention bytes true is same

-- other data for the first time
pub seen-differing : (mentions : List Mention) (mention : Mention) (old new : SeenNames) (bytes : List ℕ) → AreKnownIn mentions old → spelled_at old mention.here.name ≡ Some (Alike (record { items = bytes })) → bytes_eq bytes mention.bytes ≡ false → ((all : List Spelling) → IsListed all old.found → IsListed (all ++ mention.here ∷ []) new.found) → ((name : List ℕ) → same_name mention.here.name name ≡ false → spelled_at new name ≡ spelled_at old name) → spelled_at new mention.here.name ≡ Some Otherwise → AreKnownIn (mentions ++ mention ∷ []) new
seen-differing mentions mention old new bytes was known differ found others own =
    seen-next mentions mention old new was
    (subst (λ (all : List Spelling). IsListed all new.found)
    (ap (λ last. spellings_in mentions ++ last) (sym (ap (λ (other : Bool). cond other (cond (was_other mentions mention) [] (mention.here ∷ [])) []) other ∙ ap (λ (before : Bool). cond before [] (mention.here ∷ [])) is.before)))
    (found (spellings_in mentions) was.found))
    others
    (own ∙ sym (ap (λ found. option_map (spelled_by (was_other mentions mention || is_other mentions mention)) found) is.found ∙ ap (λ differing. Some (spelled_by differing is.first)) (ap (λ before. before || is_other mentions mention) is.before ∙ other)))
  where
    is : IsFirst mentions mention bytes
    is = is-first mentions mention old bytes was known

    other : is_other mentions mention ≡ true
    other = differs-first mentions mention bytes false is differ

-- one more mention, while they are compared
pub seen-compared : (mentions : List Mention) (mention : Mention) (old new : SeenNames) → AreSeenIn mentions old → old.taken < 200000 → new.taken ≡ old.taken + 1 → (AreKnownIn mentions old → AreKnownIn (mentions ++ mention ∷ []) new) → AreSeenIn (mentions ++ mention ∷ []) new
seen-compared mentions mention old new was room taken known =
    let long : length (mentions ++ mention ∷ []) ≡ length mentions + 1 = length-append mentions (mention ∷ []) in
    let few : length mentions < max_mentions = omega (arith, was.taken, room) in
    record {
      known = subst (λ (all : List Mention). AreKnownIn all new) (sym (take_all max_mentions (mentions ++ mention ∷ []) (omega (arith, long, few))))
          (known (subst (λ (all : List Mention). AreKnownIn all old) (take_all max_mentions mentions (omega (arith, few))) was.known));
      taken = omega (arith, was.taken, room, taken, long);
    }

-- one more when no more are
pub seen-past : (mentions : List Mention) (mention : Mention) (names : SeenNames) → AreSeenIn mentions names → 200000 ≤ names.taken → AreSeenIn (mentions ++ mention ∷ []) names
seen-past mentions mention names was full =
    let long : length (mentions ++ mention ∷ []) ≡ length mentions + 1 = length-append mentions (mention ∷ []) in
    let many : max_mentions ≤ length mentions = omega (arith, was.taken, full) in
    record {
      known = subst (λ (all : List Mention). AreKnownIn all names) (sym (take-append-le max_mentions mentions (mention ∷ []) many)) was.known;
      taken = omega (arith, was.taken, full, long);
    }
