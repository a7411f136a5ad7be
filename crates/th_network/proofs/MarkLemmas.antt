-- How marks spread: one at a time, and one state after another.
use Rattle.std.proofs.Common.{◌≡◌, ◌≢◌, ℕ, ◌+◌, ◌<◌, ◌≤◌, inl, inr, Bool, true, false, ℤ, List, [], ◌∷◌, ◌++◌, length, get_or, take, map, Option, None, Contains, is_some, if◌then◌else◌, refl, sym, ap, ◌∙◌, subst, arith, length-append, length-take}
use Rattle.std.proofs.Math.ListN.{set, get_or-append}
use Rattle.std.proofs.Math.Seq.{get_or-append_seam}
use Rattle.std.proofs.lemmas.Bool.{cases_eq, false≢true}
use Rattle.std.proofs.lemmas.List.{length-map, length-set, get_or-set_other, get_or-set_same, map-append, take_more, take_all}
use Rattle.std.proofs.lemmas.List.Sums.{sum_by-set}
use Rattle.std.proofs.lemmas.List.Elements.{Contains-append_left, Contains-push, Contains-push_cases}
use Rattle.std.proofs.lemmas.Option.{slice_get_within, slice_get_read, get_or_from_slice_get}
use Rattle.th_network.specs.Inside.Marks.{IsMarked, unmarked_count, IsSeeded, Spreads, AreAdded}
use Rattle.th_network.proofs.Gets.{got-set_other, got-push}

-- a mark at another place stays
marked_other : (marked : List Bool) (place other : ℕ) → other ≢ place → IsMarked marked other → IsMarked (set marked place true) other
marked_other marked place other differs is =
    slice_get_read (set marked place true) (length marked) other true (sym (length-set marked place true)) (slice_get_within marked other true is) (sym (get_or_from_slice_get marked other true true is) ∙ sym (get_or-set_other marked place other true true differs))

marked_here : (marked : List Bool) (place : ℕ) → place < length marked → IsMarked (set marked place true) place
marked_here marked place within =
    slice_get_read (set marked place true) (length marked) place true (sym (length-set marked place true)) within (sym (get_or-set_same marked place true true within))

-- what a list of one place has
only_here : (place other : ℕ) → Contains (place ∷ []) other → place ≡ other
only_here place other has = elim (Contains-push_cases [] place other has) [ inl none ↦ absurd (omega (arith, none.1)) | inr same ↦ same ]

-- one place is marked, or it was
pub added_mark : (marked : List Bool) (place : ℕ) → place < length marked → AreAdded (place ∷ []) marked (set marked place true)
added_mark marked place within = record {
  all = λ other has. subst (IsMarked (set marked place true)) (only_here place other has) (marked_here marked place within);
  no_other = λ other is. elim (cases_eq other place) [
    | inl same ↦ inr (subst (Contains (place ∷ [])) (sym same) (Contains-push [] place))
    | inr differs ↦ inl (got-set_other marked place other true true differs is)
  ];
}

pub added_before : (marked : List Bool) (place : ℕ) → IsMarked marked place → AreAdded (place ∷ []) marked marked
added_before marked place is = record {
  all = λ other has. subst (IsMarked marked) (only_here place other has) is;
  no_other = λ other now. inl now;
}

-- what a mark leaves to do at its place
abbrev left_by : Bool → ℕ
left_by mark = if mark then 0 else 1

-- a new mark, at a place that then waits
pub spreads_mark : (marked : List Bool) (waiting waiting' : List ℕ) (place : ℕ) (mark : Bool) → place < length marked → mark ≡ get_or marked place mark → mark ≡ false → waiting' ≡ waiting ++ place ∷ [] → Spreads marked waiting (set marked place true) waiting'
spreads_mark marked waiting waiting' place mark within here bare added =
    let one = sum_by-set left_by marked place true mark within in
    let was : left_by (get_or marked place mark) ≡ 1 = ap left_by (sym here ∙ bare) in
    let more = length-append waiting (place ∷ []) in
    let work : unmarked_count (set marked place true) + length (waiting ++ place ∷ []) ≡ unmarked_count marked + length waiting = omega arith in
    subst (Spreads marked waiting (set marked place true)) (sym added) (
    record {
      size = length-set marked place true;
      kept = λ other is. elim (cases_eq other place) [
        | inl same ↦ subst (IsMarked (set marked place true)) (sym same) (marked_here marked place within)
        | inr differs ↦ marked_other marked place other differs is
      ];
      still_waits = λ other waits. Contains-append_left waiting (place ∷ []) other waits;
      new_waits = λ other is. elim (cases_eq other place) [
        | inl same ↦ inr (subst (Contains (waiting ++ place ∷ [])) (sym same) (Contains-push waiting place))
        | inr differs ↦ inl (got-set_other marked place other true true differs is)
      ];
      no_other = λ other waits. elim (Contains-push_cases waiting place other waits) [
        | inl before ↦ inl before
        | inr same ↦ inr (subst (IsMarked (set marked place true)) same (marked_here marked place within))
      ];
      work = work;
    })

pub spreads_none : (marked : List Bool) (waiting : List ℕ) → Spreads marked waiting marked waiting
spreads_none marked waiting = record {
  size = refl;
  kept = λ place is. is;
  still_waits = λ place waits. waits;
  new_waits = λ place is. inl is;
  no_other = λ place waits. inl waits;
  work = refl;
}

-- one spread after another
pub spreads_on : (m1 m2 m3 : List Bool) (w1 w2 w3 : List ℕ) → Spreads m1 w1 m2 w2 → Spreads m2 w2 m3 w3 → Spreads m1 w1 m3 w3
spreads_on m1 m2 m3 w1 w2 w3 first second = record {
  size = second.size ∙ first.size;
  kept = λ place is. second.kept place (first.kept place is);
  still_waits = λ place waits. second.still_waits place (first.still_waits place waits);
  new_waits = λ place is. elim (second.new_waits place is) [
    | inr waits ↦ inr waits
    | inl before ↦ elim (first.new_waits place before) [
      | inl old ↦ inl old
      | inr waits ↦ inr (second.still_waits place waits)
    ]
  ];
  no_other = λ place waits. elim (second.no_other place waits) [
    | inr is ↦ inr is
    | inl before ↦ elim (first.no_other place before) [
      | inl old ↦ inl old
      | inr is ↦ inr (second.kept place is)
    ]
  ];
  work = second.work ∙ first.work;
}

-- the first i places are marked, and those wait that were not marked before
pub record AreMarkedTo (places : List ℕ) (i : ℕ) (marked : List Bool) (waiting : List ℕ) (marked' : List Bool) (waiting' : List ℕ) : Type 0 where
  pub added : AreAdded (take i places) marked marked'
  pub spreads : Spreads marked waiting marked' waiting'

pub none_marked : (places : List ℕ) (marked : List Bool) (waiting : List ℕ) → AreMarkedTo places 0 marked waiting marked waiting
none_marked places marked waiting = record {
  added = record { all = λ place has. absurd (omega (arith, has.1, length-take 0 places)); no_other = λ place is. inl is };
  spreads = spreads_none marked waiting;
}

pub one_more_marked : (places : List ℕ) (i : ℕ) (m1 m2 m3 : List Bool) (w1 w2 w3 : List ℕ) → i < length places → AreAdded (get_or places i 0 ∷ []) m2 m3 → Spreads m2 w2 m3 w3 → AreMarkedTo places i m1 w1 m2 w2 → AreMarkedTo places (i + 1) m1 w1 m3 w3
one_more_marked places i m1 m2 m3 w1 w2 w3 within one more h =
    let place = get_or places i 0 in
    let is : IsMarked m3 place = one.all place (Contains-push [] place) in
    let taken : take (i + 1) places ≡ take i places ++ place ∷ [] = take_more places i 0 within in
    record {
      added = subst (λ (done : List ℕ). AreAdded done m1 m3) (sym taken) (record {
        all = λ other has. elim (Contains-push_cases (take i places) place other has) [
          | inl before ↦ more.kept other (h.added.all other before)
          | inr same ↦ subst (IsMarked m3) same is
        ];
        no_other = λ other now. elim (one.no_other other now) [
          | inl before ↦ elim (h.added.no_other other before) [
            | inl old ↦ inl old
            | inr done ↦ inr (Contains-append_left (take i places) (place ∷ []) other done)
          ]
          | inr new ↦ inr (subst (Contains (take i places ++ place ∷ [])) (only_here place other new) (Contains-push (take i places) place))
        ];
      });
      spreads = spreads_on m1 m2 m3 w1 w2 w3 h.spreads more;
    }

pub all_marked : (places : List ℕ) (i : ℕ) (m1 m2 : List Bool) (w1 w2 : List ℕ) → length places ≤ i → AreMarkedTo places i m1 w1 m2 w2 → AreAdded places m1 m2
all_marked places i m1 m2 w1 w2 all h = subst (λ (done : List ℕ). AreAdded done m1 m2) (take_all i places all) h.added

-- a mark before a push stays
marked_before : (marked : List Bool) (mark : Bool) (place : ℕ) → IsMarked marked place → IsMarked (marked ++ mark ∷ []) place
marked_before marked mark place is =
    let within = slice_get_within marked place true is in
    slice_get_read (marked ++ mark ∷ []) (length (marked ++ mark ∷ [])) place true refl (omega (arith, length-append marked (mark ∷ []))) (sym (get_or-append marked (mark ∷ []) true place within ∙ get_or_from_slice_get marked place true true is))

marks_more : (heights : List (Option ℤ)) (i : ℕ) (marked : List Bool) → i < length heights → marked ≡ map is_some (take i heights) → marked ++ is_some (get_or heights i None) ∷ [] ≡ map is_some (take (i + 1) heights)
marks_more heights i marked within marks =
    ap (λ (done : List Bool). done ++ is_some (get_or heights i None) ∷ []) marks ∙ sym (ap (map is_some) (take_more heights i None within) ∙ map-append is_some (take i heights) (get_or heights i None ∷ []))

-- a place without height
pub seeded_none : (heights : List (Option ℤ)) (i : ℕ) (mark : Bool) (marked marked' : List Bool) (waiting waiting' : List ℕ) → i < length heights → mark ≡ is_some (get_or heights i None) → mark ≡ false → marked' ≡ marked ++ mark ∷ [] → waiting' ≡ waiting → IsSeeded (take i heights) marked waiting → IsSeeded (take (i + 1) heights) marked' waiting'
seeded_none heights i mark marked marked' waiting waiting' within is_mark none pushed same h =
    subst (λ (m : List Bool). IsSeeded (take (i + 1) heights) m waiting') (sym pushed) (subst (λ (w : List ℕ). IsSeeded (take (i + 1) heights) (marked ++ mark ∷ []) w) (sym same) (record {
      marks = ap (λ (b : Bool). marked ++ b ∷ []) is_mark ∙ marks_more heights i marked within h.marks;
      all_wait = λ place is. elim (got-push marked mark place true is) [
        | inl before ↦ h.all_wait place before
        | inr now ↦ absurd (false≢true (sym none ∙ now.1))
      ];
      no_other = λ place waits. marked_before marked mark place (h.no_other place waits);
    }))

-- a place with a height, which waits
pub seeded_some : (heights : List (Option ℤ)) (i : ℕ) (mark : Bool) (marked marked' : List Bool) (waiting waiting' : List ℕ) → i < length heights → mark ≡ is_some (get_or heights i None) → mark ≡ true → marked' ≡ marked ++ mark ∷ [] → waiting' ≡ waiting ++ i ∷ [] → IsSeeded (take i heights) marked waiting → IsSeeded (take (i + 1) heights) marked' waiting'
seeded_some heights i mark marked marked' waiting waiting' within is_mark some pushed added h =
    let count : length marked ≡ i = ap length h.marks ∙ length-map (take i heights) is_some ∙ omega (arith, length-take i heights) in
    let last : IsMarked (marked ++ mark ∷ []) i = slice_get_read (marked ++ mark ∷ []) (length (marked ++ mark ∷ [])) i true refl (omega (arith, length-append marked (mark ∷ []))) (sym (ap (λ k. get_or (marked ++ mark ∷ []) k true) (sym count) ∙ get_or-append_seam marked mark [] true ∙ some)) in
    subst (λ (m : List Bool). IsSeeded (take (i + 1) heights) m waiting') (sym pushed) (subst (λ (w : List ℕ). IsSeeded (take (i + 1) heights) (marked ++ mark ∷ []) w) (sym added) (record {
      marks = ap (λ (b : Bool). marked ++ b ∷ []) is_mark ∙ marks_more heights i marked within h.marks;
      all_wait = λ place is. elim (got-push marked mark place true is) [
        | inl before ↦ Contains-append_left waiting (i ∷ []) place (h.all_wait place before)
        | inr now ↦ subst (Contains (waiting ++ i ∷ [])) (sym (now.0 ∙ count)) (Contains-push waiting i)
      ];
      no_other = λ place waits. elim (Contains-push_cases waiting i place waits) [
        | inl before ↦ marked_before marked mark place (h.no_other place before)
        | inr same ↦ subst (IsMarked (marked ++ mark ∷ [])) same last
      ];
    }))
