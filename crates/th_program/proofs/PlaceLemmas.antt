-- Files that took their places after a run.
use Rattle.std.proofs.Common.{◌≡◌, ◌≢◌, ◌∙◌, ℕ, Bool, true, List, [], ◌∷◌, None, Some, Ok, Err, IfErr, ap, ap₂, inl, inr, length, map, refl, subst, suc, sym, take, zero}
use Rattle.std.specs.List.{AllByRecursion}
use Rattle.std.specs.Prelude.{OnOk, Option, Result, is_some, slice_get}
use Rattle.th_devices.specs.Devices.{IsMade, SinkState}
use Rattle.th_devices.specs.Spots.{Spot}
use Rattle.th_devices.specs.Transfer.{HasTaken}
use Rattle.th_devices.specs.Folders.{ArePlaced, Failing, IsPlaced}
use Rattle.th_network.specs.Networks.{Survey}
use Rattle.th_commands.specs.Asked.{Files}
use Rattle.std.proofs.lemmas.Option.{get_or_from_slice_get, slice_get_within}
use Rattle.th_program.proofs.HeadlineLemmas.{survey_same}
use Rattle.th_files.proofs.OutputLemmas.{where_told}
use Rattle.th_program.specs.Done.{IsPrinted, IsRefusedFor, IsWrite}
use Rattle.th_files.specs.Opened.{AreApart, AreGivenBack, AreMade}
use Rattle.th_files.specs.Outputs.{IsLeft, spots_of}
use Rattle.th_files.specs.Owed.{Told, survey_owed}
use Rattle.th_run_parts.specs.Inputs.{IsOwed, Meets, Owed}
use Rattle.th_run_parts.specs.Outcomes.{Accepted}
use Rattle.th_run_parts.specs.Reads.{IsNamed, Run, refused}
use Rattle.th_run_parts.specs.Writes.{AreWritten, Complete, EachOut, IsAt, IsWritten, NotBegun, Texts, UnlessWrite, UpTo}
use Rattle.th_run_parts.specs.declared.outputs.Output.{Output}
use Rattle.th_run_parts.specs.declared.refusals.Refusal.{Refusal}
use Rattle.th_run_parts.specs.declared.refusals.Refusal.TheVariants as refusal

-- no sink is at this spot
abbrev Apart : Spot → List SinkState → Type 0
Apart spot sinks = AllByRecursion (λ own. spot ≢ own.spot) sinks

apart_take : (count : ℕ) (spot : Spot) (sinks : List SinkState) → Apart spot sinks → Apart spot (take count sinks)
apart_take zero spot sinks apart = tt
apart_take (suc count) spot [] apart = tt
apart_take (suc count) spot (own ∷ sinks) apart = (apart.0, apart_take count spot sinks apart.1)

-- what is elsewhere stays
pub placed_others : {F : Type 0} (tells : Bool) (held : F → Told) (has_failed : F → Spot → Bool) (sinks : List SinkState) (old new : F)
    → ArePlaced tells held has_failed sinks old new → (spot : Spot) → Apart spot sinks → held new spot ≡ held old spot
placed_others tells held has_failed [] old new same spot apart = ap (λ folder. held folder spot) same
placed_others tells held has_failed (own ∷ sinks) old new (next, placed, rest) spot apart =
    placed_others tells held has_failed sinks next new rest spot apart.1 ∙ placed.others spot apart.0

-- sinks that a run wrote for spots are at none of the others
apart_written : {K : Type 0} (state_of : K → SinkState) (tells : Bool) (writing : Spot → Bool) (texts : Texts) (spots : List Spot) (olds news : List K) (spot : Spot)
    → AllByRecursion (λ other. other ≢ spot) spots → AreMade state_of tells writing spots olds → EachOut (IsAt state_of) Complete texts olds news
    → Apart spot (map state_of news)
apart_written state_of tells writing [] [] [] [] spot differ made written = tt
apart_written state_of tells writing (text ∷ texts) (one ∷ spots) (old ∷ olds) (new ∷ news) spot differ made written = (
  (λ same. differ.0 (sym (written.0.called.spot ∙ made.0.there) ∙ sym same)),
  apart_written state_of tells writing texts spots olds news spot differ.1 made.1 written.1,
)
apart_written state_of tells writing texts [] (old ∷ olds) news spot differ made written = absurd made
apart_written state_of tells writing texts (one ∷ spots) [] news spot differ made written = absurd made
apart_written state_of tells writing texts spots olds news spot differ made written = absurd written

-- what two folders tell alike of all spots but one
told_alike : (one other : Told) (spot : Spot) (spots : List Spot) → AllByRecursion (λ own. own ≢ spot) spots → ((own : Spot) → own ≢ spot → one own ≡ other own)
    → map one spots ≡ map other spots
told_alike one other spot [] differ alike = refl
told_alike one other spot (own ∷ spots) differ alike = ap₂ (λ first more. first ∷ more) (alike own differ.0) (told_alike one other spot spots differ.1 alike)

-- a file that took its place, and then others
one_placed : {F : Type 0} (tells may_fail : Bool) (held : F → Told) (has_failed : F → Spot → Bool) (sinks : List SinkState) (text : List ℕ) (spot : Spot)
    (old new : SinkState) (before next after : F) → IsMade tells may_fail spot old → new.spot ≡ old.spot → HasTaken text old new
    → IsPlaced tells held has_failed new before next → ArePlaced tells held has_failed sinks next after → Apart spot sinks
    → tells ≡ true → held after spot ≡ Some text
one_placed tells may_fail held has_failed sinks text spot old new before next after made there has placed rest apart =
    λ tell. placed_others tells held has_failed sinks next after rest spot apart ∙ sym (ap (held next) (there ∙ made.there)) ∙ placed.there tell
    ∙ where_told old.held [] (new.held ≡ Some text) (made.empty tell) has.held

-- all files took their places
pub placed_left : {F K : Type 0} (state_of : K → SinkState) (tells : Bool) (writing : Spot → Bool) (held : F → Told) (has_failed : F → Spot → Bool) (texts : Texts) (spots : List Spot)
    (olds news : List K) (before after : F) → AreApart spots → AreMade state_of tells writing spots olds → EachOut (IsAt state_of) Complete texts olds news
    → ArePlaced tells held has_failed (map state_of news) before after
    → EachOut (IsLeft tells) Complete texts (map (held before) spots) (map (held after) spots)
placed_left state_of tells writing held has_failed [] [] [] [] before after apart made written placed = tt
placed_left state_of tells writing held has_failed (text ∷ texts) (spot ∷ spots) (old ∷ olds) (new ∷ news) before after apart made written (next, placed, rest) = (
  one_placed tells _ held has_failed (map state_of news) text.1 spot (state_of old) (state_of new) before next after made.0 written.0.called.spot written.0.stands placed rest
      (apart_written state_of tells writing texts spots olds news spot apart.0 made.1 written.1),
  subst (λ known. EachOut (IsLeft tells) Complete texts known (map (held after) spots))
      (told_alike (held next) (held before) spot spots apart.0
      (λ own differs. placed.others own (λ same. differs (same ∙ written.0.called.spot ∙ made.0.there))))
      (placed_left state_of tells writing held has_failed texts spots olds news next after apart.1 made.1 written.1 rest),
)
placed_left state_of tells writing held has_failed texts [] (old ∷ olds) news before after apart made written placed = absurd made
placed_left state_of tells writing held has_failed texts (spot ∷ spots) [] news before after apart made written placed = absurd made
placed_left state_of tells writing held has_failed texts spots olds news before after apart made written placed = absurd written

-- no file took its place
none_left : {K : Type 0} (state_of : K → SinkState) (tells : Bool) (writing : Spot → Bool) (before after : Told) (texts : Texts) (spots : List Spot) (olds news : List K)
    → AreMade state_of tells writing spots olds → EachOut (IsAt state_of) Complete texts olds news → ((spot : Spot) → after spot ≡ before spot)
    → EachOut (IsLeft tells) NotBegun texts (map before spots) (map after spots)
none_left state_of tells writing before after [] [] [] [] made written same = tt
none_left state_of tells writing before after (text ∷ texts) (spot ∷ spots) (old ∷ olds) (new ∷ news) made written same =
    (same spot, none_left state_of tells writing before after texts spots olds news made.1 written.1 same)
none_left state_of tells writing before after texts [] (old ∷ olds) news made written same = absurd made
none_left state_of tells writing before after texts (spot ∷ spots) [] news made written same = absurd made
none_left state_of tells writing before after texts spots olds news made written same = absurd written

-- so many files took their places, and the next one could not
pub stopped_left : {F K : Type 0} (state_of : K → SinkState) (tells : Bool) (writing : Spot → Bool) (held : F → Told) (has_failed : F → Spot → Bool) (count : ℕ) (which : Output) (texts : Texts)
    (spots : List Spot) (olds news : List K) (before after : F) → slice_get (map (λ own. own.0) texts) count ≡ Some which → AreApart spots
    → AreMade state_of tells writing spots olds → EachOut (IsAt state_of) Complete texts olds news
    → ArePlaced tells held has_failed (take count (map state_of news)) before after
    → EachOut (IsLeft tells) (UpTo which) texts (map (held before) spots) (map (held after) spots)
stopped_left state_of tells writing held has_failed count which [] [] [] [] before after at apart made written placed = cc at
stopped_left state_of tells writing held has_failed zero which (text ∷ texts) (spot ∷ spots) (old ∷ olds) (new ∷ news) before after at apart made written same =
    let own : text.0 ≡ which = cc at in
    inr (
      own,
      ap (λ folder. held folder spot) same,
      none_left state_of tells writing (held before) (held after) texts spots olds news made.1 written.1 (λ other. ap (λ folder. held folder other) same),
    )
stopped_left state_of tells writing held has_failed (suc count) which (text ∷ texts) (spot ∷ spots) (old ∷ olds) (new ∷ news) before after at apart made written (next, placed, rest) =
    inl (
      one_placed tells _ held has_failed (take count (map state_of news)) text.1 spot (state_of old) (state_of new) before next after made.0 written.0.called.spot
          written.0.stands placed rest
          (apart_take count spot (map state_of news) (apart_written state_of tells writing texts spots olds news spot apart.0 made.1 written.1)),
      subst (λ known. EachOut (IsLeft tells) (UpTo which) texts known (map (held after) spots))
          (told_alike (held next) (held before) spot spots apart.0
          (λ own differs. placed.others own (λ same. differs (same ∙ written.0.called.spot ∙ made.0.there))))
          (stopped_left state_of tells writing held has_failed count which texts spots olds news next after at apart.1 made.1 written.1 rest),
    )
stopped_left state_of tells writing held has_failed count which texts [] (old ∷ olds) news before after at apart made written placed = absurd made
stopped_left state_of tells writing held has_failed count which texts (spot ∷ spots) [] news before after at apart made written placed = absurd made
stopped_left state_of tells writing held has_failed count which texts spots olds news before after at apart made written placed = absurd written

-- all sinks that a run wrote are finished
pub all_finished : {K : Type 0} (state_of : K → SinkState) (texts : Texts) (olds news : List K) → EachOut (IsAt state_of) Complete texts olds news
    → AllByRecursion (λ own. (state_of own).is_finished ≡ true) news
all_finished state_of [] [] [] written = tt
all_finished state_of (text ∷ texts) (old ∷ olds) (new ∷ news) written = (written.0.stands.finished, all_finished state_of texts olds news written.1)
all_finished state_of texts olds news written = absurd written

-- what a run that was begun and given back printed of its survey
pub printed_given : {F K : Type 0} (tells : Bool) (held : F → Told) (has_failed : F → Spot → Bool) (failing : F → Failing) (from : Files) (prefix : List ℕ) (outputs : List Output)
    (AreOf : Survey → Texts → Type 0) (state_of : K → SinkState) (olds news : List K) (owed : Owed Survey) (answer result : Result (Unit {0}) Refusal) (before after : F)
    → owed ≡ survey_owed (held before) (refused answer) from → AreApart (spots_of prefix outputs) → AreMade state_of tells (failing before).writing (spots_of prefix outputs) olds
    → ((survey : Survey) (texts : Texts) → AreOf survey texts → map (λ own. own.0) texts ≡ outputs)
    → (IsWritten answer → (survey : Survey) × Accepted (λ (own : Survey). own) owed survey
    × ((texts : Texts) × AreOf survey texts × AreWritten state_of (refused answer) texts olds news))
    → AreGivenBack tells held has_failed failing (map state_of news) outputs answer result before after
    → OnOk result (IsPrinted tells (held before) (held after) from prefix outputs AreOf None)
    × IfErr result (λ own. IsWrite own → IsPrinted tells (held before) (held after) from prefix outputs AreOf (Some own))
printed_given tells held has_failed failing from prefix outputs AreOf state_of olds news owed (Ok x) (Ok y) before after is_owed apart made of_outputs written given =
    let (survey, accepted, (texts, are_of, are_written)) = written tt in (
      record {
        survey = survey;
        texts = texts;
        given = subst (λ (own : Owed Survey). Meets own (Ok survey)) is_owed accepted.given;
        network = accepted.network;
        printed = are_of;
        left = placed_left state_of tells (failing before).writing held has_failed texts (spots_of prefix outputs) olds news before after apart made are_written given;
      },
      tt,
    )
printed_given tells held has_failed failing from prefix outputs AreOf state_of olds news owed (Ok x) (Err own) before after is_owed apart made of_outputs written
    (number, which, at, is, stopped) =
    let (survey, accepted, (texts, are_of, are_written)) = written tt in
    let there = ap (λ (all : List Output). slice_get all number) (of_outputs survey texts are_of) ∙ at in (
      tt,
      λ write. subst (λ (refusal : Refusal). IsPrinted tells (held before) (held after) from prefix outputs AreOf (Some refusal)) (sym is) (record {
        survey = survey;
        texts = texts;
        given = subst (λ (own : Owed Survey). Meets own (Ok survey)) (is_owed ∙ sym (survey_same (held before) (refusal.Write which) (λ input. refl) from)) accepted.given;
        network = accepted.network;
        printed = are_of;
        left = inr (stopped_left state_of tells (failing before).writing held has_failed number which texts (spots_of prefix outputs) olds news before after there apart made are_written stopped.before);
      }),
    )
printed_given tells held has_failed failing from prefix outputs AreOf state_of olds news owed (Err own) result before after is_owed apart made of_outputs written (same, kept) =
    subst (λ (known : Result (Unit {0}) Refusal). OnOk known (IsPrinted tells (held before) (held after) from prefix outputs AreOf None)
    × IfErr known (λ refusal. IsWrite refusal → IsPrinted tells (held before) (held after) from prefix outputs AreOf (Some refusal))) (sym same) (
      tt,
      λ write.
          let (survey, accepted, (texts, are_of, are_written)) = written (begun own write) in
          record {
            survey = survey;
            texts = texts;
            given = subst (λ (own : Owed Survey). Meets own (Ok survey)) is_owed accepted.given;
            network = accepted.network;
            printed = are_of;
            left = inl (ap (λ folder. map (held folder) (spots_of prefix outputs)) kept);
          },
    )
  where
    begun : (real : Refusal) → IsWrite real → IsWritten {X = Unit {0}} (Err real)
    begun (refusal.Write which) write = tt
    begun other write = absurd write

-- the refusal of such a run
pub refused_given : {F Y : Type 0} (tells : Bool) (held : F → Told) (has_failed : F → Spot → Bool) (failing : F → Failing) (run : Run) (from : Files) (survey_of : Y → Survey)
    (owed_at : Option Refusal → Owed Y) (HasLeft : Option Refusal → Type 0) (Caused : Refusal → Type 0) (sinks : List SinkState) (answer result : Result (Unit {0}) Refusal) (before after : F)
    → IfErr answer (IsNamed (length from.books) (is_some from.weights) run)
    → IfErr answer (λ own. UnlessWrite own (IsOwed survey_of (owed_at (refused answer)) own))
    → AreGivenBack tells held has_failed failing sinks run.outputs answer result before after
    → IfErr result (λ own. IsWrite own → HasLeft (Some own)) → IfErr result Caused
    → IfErr result (λ own. IsRefusedFor run from survey_of (owed_at (Some own)) HasLeft Caused own)
refused_given tells held has_failed failing run from survey_of owed_at HasLeft Caused sinks (Ok x) (Ok y) before after named owes given left caused = tt
refused_given tells held has_failed failing run from survey_of owed_at HasLeft Caused sinks (Ok x) (Err own) before after named owes (number, which, at, is, stopped) left caused =
    record {
      named = subst (λ (refusal : Refusal). IsNamed (length from.books) (is_some from.weights) run refusal) (sym is)
          (number, slice_get_within run.outputs number which at, get_or_from_slice_get run.outputs number which which at);
      owes = subst (λ (refusal : Refusal). UnlessWrite refusal (IsOwed survey_of (owed_at (Some refusal)) refusal)) (sym is) tt;
      left = left;
      cause = caused;
    }
refused_given tells held has_failed failing run from survey_of owed_at HasLeft Caused sinks (Err own) (Ok y) before after named owes (same, kept) left caused = tt
refused_given tells held has_failed failing run from survey_of owed_at HasLeft Caused sinks (Err own) (Err other) before after named owes (same, kept) left caused =
    let is : own ≡ other = cc same in
    record {
      named = subst (λ (refusal : Refusal). IsNamed (length from.books) (is_some from.weights) run refusal) is named;
      owes = subst (λ (refusal : Refusal). UnlessWrite refusal (IsOwed survey_of (owed_at (Some refusal)) refusal)) is owes;
      left = left;
      cause = caused;
    }

unless_of : (own : Refusal) (A : Type 0) → A → UnlessWrite own A
unless_of (refusal.Write which) A known = tt
unless_of (refusal.Book number fault) A known = known
unless_of (refusal.Benchmarks fault) A known = known
unless_of (refusal.Weights fault) A known = known
unless_of (refusal.Certificate fault) A known = known
unless_of (refusal.Differences fault) A known = known
unless_of (refusal.Heights fault) A known = known
unless_of (refusal.Changes fault) A known = known
unless_of (refusal.Unfit fault) A known = known
unless_of (refusal.Mended fault) A known = known
unless_of (refusal.Network fault) A known = known
unless_of (refusal.Read which) A known = known
unless_of refusal.NoMemory A known = known

-- such a refusal leaves the folder as it was, unless a write failed
pub untouched_given : {F : Type 0} (tells : Bool) (held : F → Told) (has_failed : F → Spot → Bool) (failing : F → Failing) (sinks : List SinkState) (outputs : List Output)
    (answer result : Result (Unit {0}) Refusal) (before after : F) → AreGivenBack tells held has_failed failing sinks outputs answer result before after
    → IfErr result (λ own. UnlessWrite own (after ≡ before))
untouched_given tells held has_failed failing sinks outputs (Ok x) (Ok y) before after given = tt
untouched_given tells held has_failed failing sinks outputs (Ok x) (Err own) before after (number, which, at, is, stopped) =
    subst (λ (refusal : Refusal). UnlessWrite refusal (after ≡ before)) (sym is) tt
untouched_given tells held has_failed failing sinks outputs (Err own) (Ok y) before after given = tt
untouched_given tells held has_failed failing sinks outputs (Err own) (Err other) before after (same, kept) = unless_of other (after ≡ before) kept

-- in any case what is elsewhere stays
pub others_given : {F : Type 0} (tells : Bool) (held : F → Told) (has_failed : F → Spot → Bool) (failing : F → Failing) (sinks : List SinkState) (outputs : List Output)
    (answer result : Result (Unit {0}) Refusal) (before after : F) → AreGivenBack tells held has_failed failing sinks outputs answer result before after
    → (spot : Spot) → AllByRecursion (λ own. spot ≢ own.spot) sinks → held after spot ≡ held before spot
others_given tells held has_failed failing sinks outputs (Ok x) (Ok y) before after placed spot apart = placed_others tells held has_failed sinks before after placed spot apart
others_given tells held has_failed failing sinks outputs (Ok x) (Err own) before after (number, which, at, is, stopped) spot apart =
    placed_others tells held has_failed (take number sinks) before after stopped.before spot (apart_take number spot sinks apart)
others_given tells held has_failed failing sinks outputs (Err own) result before after (same, kept) spot apart = ap (λ folder. held folder spot) kept

pub apart_map : {K : Type 0} (state_of : K → SinkState) (spot : Spot) (sinks : List K) → AllByRecursion (λ own. spot ≢ (state_of own).spot) sinks
    → AllByRecursion (λ own. spot ≢ own.spot) (map state_of sinks)
apart_map state_of spot [] apart = tt
apart_map state_of spot (own ∷ sinks) apart = (apart.0, apart_map state_of spot sinks apart.1)

-- the sinks of a run that ended well are finished
pub finished_given : {K : Type 0} (state_of : K → SinkState) (AreOf : Survey → Texts → Type 0) (owed : Owed Survey) (olds news : List K) (answer : Result (Unit {0}) Refusal)
    → (IsWritten answer → (survey : Survey) × Accepted (λ (own : Survey). own) owed survey
    × ((texts : Texts) × AreOf survey texts × AreWritten state_of (refused answer) texts olds news))
    → OnOk answer (AllByRecursion (λ own. (state_of own).is_finished ≡ true) news)
finished_given state_of AreOf owed olds news (Ok x) written =
    let (survey, accepted, (texts, are_of, are_written)) = written tt in all_finished state_of texts olds news are_written
finished_given state_of AreOf owed olds news (Err own) written = tt
