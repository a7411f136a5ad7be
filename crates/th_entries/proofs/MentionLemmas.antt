-- What mentions say of the names that they are of, after one more mention.
use Rattle.std.proofs.Common.{◌≡◌, ℕ, Bool, true, false, cond, not, ◌||◌, List, [], ◌∷◌, ◌++◌, Option, Some, None, length, filter, map, refl, sym, ap, ◌∙◌, append_assoc}
use Rattle.std.specs.Prelude.{All, Contains, bytes_eq, find}
use Rattle.std.specs.List.{list_any}
use Rattle.std.specs.Option.{option_map_or, option_or}
use Rattle.std.specs.Cmp.Lexicographic.{bytes_decides}
use Rattle.std.proofs.lemmas.Bool.{true≢false}
use Rattle.std.proofs.lemmas.Cmp.{nat_list_eq_equiv}
use Rattle.std.proofs.lemmas.List.{append-nil, map-append}
use Rattle.std.proofs.lemmas.List.Elements.{All-cons, All-contains, All-contains_itself, All-head, All-nil, All-tail, All-weaker, filter-append}
use Rattle.std.proofs.lemmas.List.Folds.{find-append, list_any-append}
use Rattle.gsi_word.specs.Names.{same_name}
use Rattle.th_book.specs.Lines.{ParsedLine}
use Rattle.th_entries.specs.Below.{all_below}
use Rattle.th_entries.specs.Spellings.{Mention, differing, differs, firsts, is_of, mentions_at, mentions_of, spellings_in}
use Rattle.th_entries.specs.declared.spellings.Spelling.{Spelling}

-- what one more book mentions comes last
pub mentions_of-push : (books : List (ℕ × List ParsedLine)) (number : ℕ) (parsed : List ParsedLine) → mentions_of (books ++ (number, parsed) ∷ []) ≡ mentions_of books ++ all_below (mentions_at number parsed) (length parsed)
mentions_of-push [] number parsed = append-nil (all_below (mentions_at number parsed) (length parsed))
mentions_of-push (book ∷ books) number parsed =
    let own = all_below (mentions_at book.0 book.1) (length book.1) in
    ap (λ rest. own ++ rest) (mentions_of-push books number parsed) ∙ sym (append_assoc own (mentions_of books) (all_below (mentions_at number parsed) (length parsed)))

-- names are compared either way round
pub flip : (name other : List ℕ) → same_name name other ≡ same_name other name
flip name other = nat_list_eq_equiv.symm name other

pub itself : (name : List ℕ) → same_name name name ≡ true
itself name = (bytes_decides name name).1 refl

-- where none is found, none passes
pub none-passes : {X : Type 0} → (test : X → Bool) (xs : List X) → find test xs ≡ None → All (λ x. test x ≡ false) xs
none-passes test [] none = All-nil (λ x. test x ≡ false)
none-passes test (x ∷ xs) none = go (test x) refl none (none-passes test xs)
  where
    go : (passes : Bool) → test x ≡ passes → cond passes (Some x) (find test xs) ≡ None → (find test xs ≡ None → All (λ x. test x ≡ false) xs) → All (λ x. test x ≡ false) (x ∷ xs)
    go true is e rest = absurd (cc)
    go false is e rest = All-cons (λ x. test x ≡ false) x xs is (rest e)

-- two tests that agree on some items keep the same of them
filter-same : {X : Type 0} → (test other : X → Bool) (xs : List X) → All (λ x. test x ≡ other x) xs → filter test xs ≡ filter other xs
filter-same test other [] same = refl
filter-same test other (x ∷ xs) same =
    ap (λ own. cond own (x ∷ filter test xs) (filter test xs)) (All-head (λ x. test x ≡ other x) x xs same)
    ∙ ap (λ rest. cond (other x) (x ∷ rest) rest) (filter-same test other xs (All-tail (λ x. test x ≡ other x) x xs same))

-- a mention differs from the first of its name whatever mentions come behind
differs-kept : (mentions more : List Mention) (mention : Mention) → Contains mentions mention → differs (mentions ++ more) mention ≡ differs mentions mention
differs-kept mentions more mention among = go (find own mentions) refl
  where
    own : Mention → Bool
    own = is_of mention.here.name

    go : (found : Option Mention) → find own mentions ≡ found → differs (mentions ++ more) mention ≡ differs mentions mention
    go None is = absurd (true≢false (sym (itself mention.here.name) ∙ All-contains (λ other. own other ≡ false) mentions mention (none-passes own mentions is) among))
    go (Some first) is =
        ap (λ found. option_map_or (λ (first : Mention). not (bytes_eq first.bytes mention.bytes)) found false)
        (find-append own mentions more ∙ ap (λ found. option_or found (find own more)) is ∙ sym is)

-- which mentions differ, with one more
differing-push : (mentions : List Mention) (mention : Mention) → differing (mentions ++ mention ∷ []) ≡ differing mentions ++ cond (differs (mentions ++ mention ∷ []) mention) (mention ∷ []) []
differing-push mentions mention =
    let all = mentions ++ mention ∷ [] in
    filter-append (differs all) mentions (mention ∷ [])
    ∙ ap (λ own. own ++ cond (differs all mention) (mention ∷ []) [])
    (filter-same (differs all) (differs mentions) mentions (All-weaker (Contains mentions) (λ own. differs all own ≡ differs mentions own) (λ own. differs-kept mentions (mention ∷ []) own) mentions (All-contains_itself mentions)))

-- the first mention of each name, with one more
firsts-push : (mentions : List Mention) (mention : Mention) → firsts (mentions ++ mention ∷ []) ≡ firsts mentions ++ cond (list_any (is_of mention.here.name) mentions) [] (mention ∷ [])
firsts-push [] mention = refl
firsts-push (own ∷ mentions) mention =
    ap (λ rest. own ∷ filter later rest) (firsts-push mentions mention)
    ∙ ap (λ rest. own ∷ rest) (filter-append later (firsts mentions) last ∙ ap (λ rest. filter later (firsts mentions) ++ rest) (go (list_any (is_of mention.here.name) mentions) (is_of mention.here.name own) (flip own.here.name mention.here.name)))
  where
    later : Mention → Bool
    later = λ other. not (is_of own.here.name other)

    last : List Mention
    last = cond (list_any (is_of mention.here.name) mentions) [] (mention ∷ [])

    go : (any same : Bool) → is_of own.here.name mention ≡ same → filter later (cond any [] (mention ∷ [])) ≡ cond (same || any) [] (mention ∷ [])
    go true true e = refl
    go true false e = refl
    go false true e = ap (λ (is : Bool). cond (not is) (mention ∷ []) []) e
    go false false e = ap (λ (is : Bool). cond (not is) (mention ∷ []) []) e

-- one more mention differs from the first of its name
abbrev pub is_other : List Mention → Mention → Bool
is_other mentions mention = differs (mentions ++ mention ∷ []) mention

-- an earlier one does
abbrev pub was_other : List Mention → Mention → Bool
was_other mentions mention = list_any (is_of mention.here.name) (differing mentions)

-- it is found where it is the first that differs
abbrev pub found_with : List Mention → Mention → List Spelling
found_with mentions mention = cond (is_other mentions mention) (cond (was_other mentions mention) [] (mention.here ∷ [])) []

pub found-push : (mentions : List Mention) (mention : Mention) → spellings_in (mentions ++ mention ∷ []) ≡ spellings_in mentions ++ found_with mentions mention
found-push mentions mention = ap (λ all. map here_of (firsts all)) (differing-push mentions mention) ∙ go (is_other mentions mention) (was_other mentions mention) refl
  where
    here_of : Mention → Spelling
    here_of = λ own. own.here

    go : (other was : Bool) → was_other mentions mention ≡ was → map here_of (firsts (differing mentions ++ cond other (mention ∷ []) [])) ≡ spellings_in mentions ++ cond other (cond was [] (mention.here ∷ [])) []
    go false was e = ap (λ all. map here_of (firsts all)) (append-nil (differing mentions)) ∙ sym (append-nil (spellings_in mentions))
    go true true e =
        ap (map here_of) (firsts-push (differing mentions) mention ∙ ap (λ was. firsts (differing mentions) ++ cond was [] (mention ∷ [])) e ∙ append-nil (firsts (differing mentions)))
        ∙ sym (append-nil (spellings_in mentions))
    go true false e =
        ap (map here_of) (firsts-push (differing mentions) mention ∙ ap (λ was. firsts (differing mentions) ++ cond was [] (mention ∷ [])) e)
        ∙ map-append here_of (firsts (differing mentions)) (mention ∷ [])

-- whether some mention of a name differs, with one more
pub any-push : (mentions : List Mention) (mention : Mention) (name : List ℕ) → list_any (is_of name) (differing (mentions ++ mention ∷ [])) ≡ (list_any (is_of name) (differing mentions) || cond (is_other mentions mention) (is_of name mention) false)
any-push mentions mention name =
    ap (list_any (is_of name)) (differing-push mentions mention)
    ∙ list_any-append (is_of name) (differing mentions) (cond (is_other mentions mention) (mention ∷ []) [])
    ∙ ap (λ last. list_any (is_of name) (differing mentions) || last) (go (is_other mentions mention) (is_of name mention))
  where
    go : (other same : Bool) → list_any (is_of name) (cond other (mention ∷ []) []) ≡ cond other (is_of name mention) false
    go true same = last (is_of name mention)
      where
        last : (same : Bool) → (same || false) ≡ same
        last true = refl
        last false = refl
    go false same = refl
