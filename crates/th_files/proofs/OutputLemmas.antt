-- The sinks that a folder gives for the outputs of a run and takes back, and what the run leaves at their spots.
use Rattle.std.proofs.Common.{◌≡◌, ◌≢◌, ◌<◌, ◌+◌, ◌++◌, ◌&&◌, ◌∙◌, ℕ, Bool, true, false, List, [], ◌∷◌, None, Some, Ok, Err, IfSome, ap, ap₂, bytes_eq, drop, get_or, inl, inr, length, map, not, refl, subst, sym, take, arith}
use Rattle.std.specs.Prelude.{Option, Result}
use Rattle.std.specs.List.{AllByRecursion, Contains, All}
use Rattle.std.proofs.lemmas.List.{append_cancel_left, get_or-map, length-map, map-append, take_at, take_more}
use Rattle.std.proofs.lemmas.List.Elements.{All-from_recursion, Contains-append_right, Contains-get_or}
use Rattle.std.proofs.lemmas.Slice.Eq.{bytes_eq-Decides}
use Rattle.std.proofs.lemmas.Slice.Zip.{AllZip-long}
use Rattle.std.proofs.Math.Nat.{eq-or-lt_of_le}
use Rattle.std.specs.Io.KnownBytes.{Keeps}
use Rattle.th_devices.specs.Devices.{IsMade, IsReady, SinkState}
use Rattle.th_devices.specs.Spots.{Spot, errors, file, is_file, output}
use Rattle.th_devices.specs.Transfer.{HasTaken, IsBroken}
use Rattle.th_devices.specs.Folders.{IsClosed, IsWholeFile}
use Rattle.th_files.proofs.OpenedLemmas.{zip_more}
use Rattle.th_files.specs.Opened.{AreApart, AreMade, IsTaken, IsUntouched}
use Rattle.th_files.specs.Outputs.{HoldsPart, IsLeft, spot_at, spots_of}
use Rattle.th_files.specs.Owed.{Told}
use Rattle.th_run_parts.specs.Outcomes.{Outcome}
use Rattle.th_run_parts.specs.Outputs.{ending_of}
use Rattle.th_run_parts.specs.Reads.{refused}
use Rattle.th_run_parts.specs.Writes.{AreWritable, AreWritten, Complete, EachOut, IsAt, NotBegun, Progress, Texts, UpTo, progress_of}
use Rattle.th_run_parts.specs.declared.outputs.Output.{Output}
use Rattle.th_run_parts.specs.declared.refusals.Refusal.{Refusal}
use Rattle.th_run_parts.specs.declared.refusals.Refusal.TheVariants as refusal

-- the spots of one output more
pub spots_more : (prefix : List ℕ) (outputs : List Output) (i : ℕ) (d : Output) → i < length outputs
    → spots_of prefix (take (i + 1) outputs) ≡ spots_of prefix (take i outputs) ++ spot_at prefix (ending_of (get_or outputs i d)) ∷ []
spots_more prefix outputs i d within =
    ap (spots_of prefix) (take_more outputs i d within) ∙ map-append (λ which. spot_at prefix (ending_of which)) (take i outputs) (get_or outputs i d ∷ [])

pub spot_among : (prefix : List ℕ) (outputs : List Output) (i : ℕ) (d : Output) → i < length outputs
    → Contains (spots_of prefix outputs) (spot_at prefix (ending_of (get_or outputs i d)))
spot_among prefix outputs i d within =
    subst (Contains (spots_of prefix outputs)) (get_or-map (λ (which : Output). spot_at prefix (ending_of which)) outputs i d output within)
    (Contains-get_or (spots_of prefix outputs) i output (omega (arith, within, length-map outputs (λ (which : Output). spot_at prefix (ending_of which)))))

-- so a sink more was made
pub made_more : {K : Type 0} (state_of : K → SinkState) (tells : Bool) (writing : Spot → Bool) (prefix : List ℕ) (outputs : List Output) (i : ℕ) (d : Output) (sinks : List K) (sink : K)
    → i < length outputs → AreMade state_of tells writing (spots_of prefix (take i outputs)) sinks
    → IsMade tells (writing (spot_at prefix (ending_of (get_or outputs i d)))) (spot_at prefix (ending_of (get_or outputs i d))) (state_of sink)
    → AreMade state_of tells writing (spots_of prefix (take (i + 1) outputs)) (sinks ++ sink ∷ [])
made_more state_of tells writing prefix outputs i d sinks sink within made is =
    subst (λ spots. AreMade state_of tells writing spots (sinks ++ sink ∷ [])) (sym (spots_more prefix outputs i d within))
    (zip_more (λ spot own. IsMade tells (writing spot) spot (state_of own)) (spots_of prefix (take i outputs)) sinks _ sink made is)

-- what holds of each holds of each in other words
each : {A : Type 0} (P Q : A → Type 0) (xs : List A) → ((x : A) → P x → Q x) → AllByRecursion P xs → AllByRecursion Q xs
each P Q [] step all = tt
each P Q (x ∷ xs) step all = (step x all.0, each P Q xs step all.1)

-- also where two things hold of each
each_both : {A : Type 0} (P O Q : A → Type 0) (xs : List A) → ((x : A) → P x → O x → Q x) → AllByRecursion P xs → AllByRecursion O xs → AllByRecursion Q xs
each_both P O Q [] step all others = tt
each_both P O Q (x ∷ xs) step all others = (step x all.0 others.0, each_both P O Q xs step all.1 others.1)

pub of_map : {A B : Type 0} (f : A → B) (P : B → Type 0) (xs : List A) → AllByRecursion P (map f xs) → AllByRecursion (λ x. P (f x)) xs
of_map f P [] all = tt
of_map f P (x ∷ xs) all = (all.0, of_map f P xs all.1)

-- a folder took a first sink back, and then the later ones
pub taken_next : {F K : Type 0} (state_of : K → SinkState) (tells : Bool) (held : F → Told) (has_failed : F → Spot → Bool) (sinks : List K) (sink : K) (later : List K)
    (old mid new : F) → sinks ≡ sink ∷ later → AreApart (map (λ own. (state_of own).spot) sinks) → IsClosed tells held has_failed (state_of sink) old mid
    → AllByRecursion (λ own. IsTaken (held mid) (held new) (state_of own)) later
    → ((spot : Spot) → AllByRecursion (λ own. spot ≢ (state_of own).spot) later → held new spot ≡ held mid spot)
    → AllByRecursion (λ own. IsTaken (held old) (held new) (state_of own)) sinks
taken_next state_of tells held has_failed sinks sink later old mid new are apart closed taken others =
    subst (AllByRecursion (λ own. IsTaken (held old) (held new) (state_of own))) (sym are) (
      record {
        called = λ stream some. kept ∙ closed.called stream some;
        finished = λ stream done. kept ∙ closed.finished stream done;
        file = λ is. kept ∙ ap (λ folder. held folder (state_of sink).spot) (closed.file is);
      },
      each_both (λ own. IsTaken (held mid) (held new) (state_of own)) (λ own. (state_of own).spot ≢ (state_of sink).spot)
          (λ own. IsTaken (held old) (held new) (state_of own)) later
          (λ own is differs. record {
            called = is.called;
            finished = is.finished;
            file = λ is_named. is.file is_named ∙ closed.others (state_of own).spot differs;
          })
          taken differ,
    )
  where
    parts : AreApart ((state_of sink).spot ∷ map (λ own. (state_of own).spot) later)
    parts = subst (λ own. AreApart (map (λ it. (state_of it).spot) own)) are apart

    differ : AllByRecursion (λ own. (state_of own).spot ≢ (state_of sink).spot) later
    differ = of_map (λ own. (state_of own).spot) (λ other. other ≢ (state_of sink).spot) later parts.0

    kept : held new (state_of sink).spot ≡ held mid (state_of sink).spot
    kept = others (state_of sink).spot
        (each (λ own. (state_of own).spot ≢ (state_of sink).spot) (λ own. (state_of sink).spot ≢ (state_of own).spot) later (λ own differs same. differs (sym same)) differ)

-- the name of a file
abbrev name_of : Spot → List ℕ
name_of (file name) = name
name_of other = []

never : false ≡ true → ⊥
never e = cc e

both : (first second : Bool) → (first && second) ≡ true → (first ≡ true) × (second ≡ true)
both true second holds = (refl, holds)
both false second holds = absurd (never holds)

-- an ending is none of others, of which each is there; and endings are all there, no two of which are the same
abbrev is_new : List ℕ → List (Option (List ℕ)) → Bool
is_new ending [] = true
is_new ending (None ∷ endings) = false
is_new ending (Some other ∷ endings) = not (bytes_eq other ending) && is_new ending endings

abbrev pub are_different : List (Option (List ℕ)) → Bool
are_different [] = true
are_different (None ∷ endings) = false
are_different (Some ending ∷ endings) = is_new ending endings && are_different endings

all_new : (prefix ending : List ℕ) (endings : List (Option (List ℕ))) → is_new ending endings ≡ true
    → AllByRecursion (λ other. other ≢ file (prefix ++ ending)) (map (spot_at prefix) endings)
all_new prefix ending [] new = tt
all_new prefix ending (None ∷ endings) new = absurd (never new)
all_new prefix ending (Some other ∷ endings) new =
    let parts = both _ _ new in (
      λ same.
          let is : bytes_eq other ending ≡ true = (bytes_eq-Decides other ending).1 (append_cancel_left prefix other ending (ap name_of same)) in
          let bad : not true ≡ true = subst (λ (own : Bool). not own ≡ true) is parts.0 in
          never bad,
      all_new prefix ending endings parts.1,
    )

-- so their files are different
pub all_apart : (prefix : List ℕ) (endings : List (Option (List ℕ))) → are_different endings ≡ true → AreApart (map (spot_at prefix) endings)
all_apart prefix [] different = tt
all_apart prefix (None ∷ endings) different = absurd (never different)
all_apart prefix (Some ending ∷ endings) different =
    let parts = both _ _ different in
    (all_new prefix ending endings parts.0, all_apart prefix endings parts.1)

pub all_files : (prefix : List ℕ) (endings : List (Option (List ℕ))) → are_different endings ≡ true
    → AllByRecursion (λ spot. is_file spot ≡ true) (map (spot_at prefix) endings)
all_files prefix [] different = tt
all_files prefix (None ∷ endings) different = absurd (never different)
all_files prefix (Some ending ∷ endings) different = let parts = both _ _ different in (refl, all_files prefix endings parts.1)

-- the spots of sinks
abbrev spots_at : {K : Type 0} → (K → SinkState) → List K → List Spot
spots_at state_of sinks = map (λ own. (state_of own).spot) sinks

-- the sinks that were made for spots are there, and were not called
pub made_spots : {K : Type 0} (state_of : K → SinkState) (tells : Bool) (writing : Spot → Bool) (spots : List Spot) (sinks : List K) → AreMade state_of tells writing spots sinks
    → map (λ own. (state_of own).spot) sinks ≡ spots
made_spots state_of tells writing [] [] made = refl
made_spots state_of tells writing [] (sink ∷ sinks) made = absurd made
made_spots state_of tells writing (spot ∷ spots) [] made = absurd made
made_spots state_of tells writing (spot ∷ spots) (sink ∷ sinks) made = ap₂ (λ one more. one ∷ more) made.0.there (made_spots state_of tells writing spots sinks made.1)

pub made_untouched : {K : Type 0} (state_of : K → SinkState) (tells : Bool) (writing : Spot → Bool) (spots : List Spot) (sinks : List K) → AreMade state_of tells writing spots sinks
    → AllByRecursion (λ own. IsUntouched (state_of own)) sinks
made_untouched state_of tells writing [] [] made = tt
made_untouched state_of tells writing [] (sink ∷ sinks) made = absurd made
made_untouched state_of tells writing (spot ∷ spots) [] made = absurd made
made_untouched state_of tells writing (spot ∷ spots) (sink ∷ sinks) made = ((made.0.calls, made.0.unfinished), made_untouched state_of tells writing spots sinks made.1)

-- so a run may write them
pub made_ready : {K : Type 0} (state_of : K → SinkState) (tells : Bool) (writing : Spot → Bool) (prefix : List ℕ) (outputs : List Output) (sinks : List K)
    → AreMade state_of tells writing (spots_of prefix outputs) sinks → AreWritable state_of outputs sinks
made_ready state_of tells writing prefix outputs sinks made = record {
  as_many = AllZip-long _ (spots_of prefix outputs) sinks made ∙ length-map outputs (λ which. spot_at prefix (ending_of which));
  each_sink = All-from_recursion (λ own. IsReady (state_of own).counts) sinks
      (each (λ own. IsUntouched (state_of own)) (λ own. IsReady (state_of own).counts) sinks (λ own is. omega (arith, is.0)) (made_untouched state_of tells writing (spots_of prefix outputs) sinks made));
}

-- what is left of sinks that were lent whole
pub lent : {K : Type 0} (sinks news : List K) (n : ℕ) → length news ≡ n → take n (news ++ drop (length news) sinks) ≡ news
lent sinks news n same = take_at news (drop (length news) sinks) n same

-- a run writes its sinks where they are
in_place : {K : Type 0} (state_of : K → SinkState) (progress : Progress) (texts : Texts) (olds news : List K) → EachOut (IsAt state_of) progress texts olds news
    → map (λ own. (state_of own).spot) news ≡ map (λ own. (state_of own).spot) olds
in_place state_of Complete [] [] [] written = refl
in_place state_of (UpTo failed) [] [] [] written = refl
in_place state_of NotBegun [] [] [] written = refl
in_place state_of Complete (text ∷ texts) (old ∷ olds) (new ∷ news) written =
    ap₂ (λ one more. one ∷ more) written.0.called.spot (in_place state_of Complete texts olds news written.1)
in_place state_of (UpTo failed) (text ∷ texts) (old ∷ olds) (new ∷ news) (inl (whole, rest)) =
    ap₂ (λ one more. one ∷ more) whole.called.spot (in_place state_of (UpTo failed) texts olds news rest)
in_place state_of (UpTo failed) (text ∷ texts) (old ∷ olds) (new ∷ news) (inr (is, broken, rest)) =
    ap₂ (λ one more. one ∷ more) broken.called.spot (in_place state_of NotBegun texts olds news rest)
in_place state_of NotBegun (text ∷ texts) (old ∷ olds) (new ∷ news) written =
    ap₂ (λ one more. one ∷ more) written.0.called.spot (in_place state_of NotBegun texts olds news written.1)
in_place state_of progress texts olds news written = absurd written

-- what holds of outputs that are written and of outputs that are as they were, holds after a run
after_run : {A X O : Type 0} (Owes : Refusal → Type 0) (IsGiven HasWritten : A → Type 0) (result : Result X Refusal) (old new : O) (P : Type 0)
    → Outcome Owes IsGiven HasWritten result old new → ((found : A) → HasWritten found → P) → (new ≡ old → P) → P
after_run Owes IsGiven HasWritten (Ok x) old new P outcome written same = let (found, given, has) = outcome.written tt in written found has
after_run Owes IsGiven HasWritten (Err (refusal.Write which)) old new P outcome written same = let (found, given, has) = outcome.written tt in written found has
after_run Owes IsGiven HasWritten (Err (refusal.Book number fault)) old new P outcome written same = same outcome.untouched
after_run Owes IsGiven HasWritten (Err (refusal.Benchmarks fault)) old new P outcome written same = same outcome.untouched
after_run Owes IsGiven HasWritten (Err (refusal.Weights fault)) old new P outcome written same = same outcome.untouched
after_run Owes IsGiven HasWritten (Err (refusal.Certificate fault)) old new P outcome written same = same outcome.untouched
after_run Owes IsGiven HasWritten (Err (refusal.Differences fault)) old new P outcome written same = same outcome.untouched
after_run Owes IsGiven HasWritten (Err (refusal.Heights fault)) old new P outcome written same = same outcome.untouched
after_run Owes IsGiven HasWritten (Err (refusal.Changes fault)) old new P outcome written same = same outcome.untouched
after_run Owes IsGiven HasWritten (Err (refusal.Unfit fault)) old new P outcome written same = same outcome.untouched
after_run Owes IsGiven HasWritten (Err (refusal.Mended fault)) old new P outcome written same = same outcome.untouched
after_run Owes IsGiven HasWritten (Err (refusal.Network fault)) old new P outcome written same = same outcome.untouched
after_run Owes IsGiven HasWritten (Err (refusal.Read which)) old new P outcome written same = same outcome.untouched
after_run Owes IsGiven HasWritten (Err refusal.NoMemory) old new P outcome written same = same outcome.untouched

-- so the sinks that were made for spots are there after a run
pub spots_after : {A X K : Type 0} (state_of : K → SinkState) (tells : Bool) (writing : Spot → Bool) (spots : List Spot) (Owes : Refusal → Type 0) (IsGiven HasWritten : A → Type 0)
    (result : Result X Refusal) (olds news : List K) → Outcome Owes IsGiven HasWritten result olds news → AreMade state_of tells writing spots olds
    → ((found : A) → HasWritten found → (texts : Texts) × AreWritten state_of (refused result) texts olds news) → map (λ own. (state_of own).spot) news ≡ spots
spots_after state_of tells writing spots Owes IsGiven HasWritten result olds news outcome made written =
    after_run Owes IsGiven HasWritten result olds news (map (λ own. (state_of own).spot) news ≡ map (λ own. (state_of own).spot) olds) outcome
    (λ found has. let (texts, are) = written found has in in_place state_of (progress_of (refused result)) texts olds news are)
    (λ same. ap (spots_at state_of) same)
    ∙ made_spots state_of tells writing spots olds made

-- a spot that is none of these is that of none of their sinks
pub none_among : {K : Type 0} (state_of : K → SinkState) (sinks : List K) (spots : List Spot) (spot : Spot) → map (λ own. (state_of own).spot) sinks ≡ spots
    → AllByRecursion (λ own. spot ≢ own) spots → AllByRecursion (λ own. spot ≢ (state_of own).spot) sinks
none_among state_of sinks spots spot is none =
    of_map (λ own. (state_of own).spot) (λ own. spot ≢ own) sinks (subst (AllByRecursion (λ own. spot ≢ own)) (sym is) none)

pub not_among : (spots : List Spot) (spot : Spot) → (Contains spots spot → ⊥) → AllByRecursion (λ own. spot ≢ own) spots
not_among [] spot none = tt
not_among (one ∷ spots) spot none =
    (λ same. none (0, omega arith, sym same), not_among spots spot (λ has. none (Contains-append_right (one ∷ []) spots spot has)))

-- what is known where something is told
pub where_told : {A : Type 0} (told : Option A) (own : A) (P : Type 0) → told ≡ Some own → IfSome told (λ _. P) → P
where_told None own P is known = absurd (cc is)
where_told (Some x) own P is known = known

-- the sink of a stream that was written whole and given back
whole_at : (tells may_fail : Bool) (before after : Told) (text : List ℕ) (spot : Spot) (old new : SinkState) → is_file spot ≡ false → IsMade tells may_fail spot old
    → new.spot ≡ old.spot → IsTaken before after new → HasTaken text old new → tells ≡ true → after spot ≡ Some text
whole_at tells may_fail before after text spot old new stream made there taken has =
    λ tell. sym (ap after (there ∙ made.there)) ∙ taken.finished (ap is_file (there ∙ made.there) ∙ stream) has.finished
    ∙ where_told old.held [] (new.held ≡ Some text) (made.empty tell) has.held

-- sinks of streams that were written whole and given back
pub all_whole : {K : Type 0} (state_of : K → SinkState) (tells : Bool) (writing : Spot → Bool) (before after : Told) (texts : Texts) (spots : List Spot) (olds news : List K)
    → AllByRecursion (λ spot. is_file spot ≡ false) spots → AreMade state_of tells writing spots olds → AllByRecursion (λ own. IsTaken before after (state_of own)) news
    → EachOut (IsAt state_of) Complete texts olds news → EachOut (IsLeft tells) Complete texts (map before spots) (map after spots)
all_whole state_of tells writing before after [] [] [] [] streams made taken written = tt
all_whole state_of tells writing before after (text ∷ texts) (spot ∷ spots) (old ∷ olds) (new ∷ news) streams made taken written = (
  whole_at tells _ before after text.1 spot (state_of old) (state_of new) streams.0 made.0 written.0.called.spot taken.0 written.0.stands,
  all_whole state_of tells writing before after texts spots olds news streams.1 made.1 taken.1 written.1,
)
all_whole state_of tells writing before after texts [] (old ∷ olds) news streams made taken written = absurd made
all_whole state_of tells writing before after texts (spot ∷ spots) [] news streams made taken written = absurd made
all_whole state_of tells writing before after texts spots olds news streams made taken written = absurd written

-- a sink that began empty and failed to take a text holds a beginning of it
part_held : (text : List ℕ) (old new : SinkState) → old.held ≡ Some [] → IsBroken text old new → (n : ℕ) × (new.held ≡ Some (take n text))
part_held text old new empty broken =
    elim (eq-or-lt_of_le broken.called) [
      | inl is ↦ (0, kept old.held new.held empty (broken.kept (omega (arith, is))))
      | inr more ↦ where_told old.held [] ((n : ℕ) × (new.held ≡ Some (take n text))) empty (broken.beginning (omega (arith, more)))
    ]
  where
    kept : (before after : Option (List ℕ)) → before ≡ Some [] → Keeps before after → after ≡ Some []
    kept None after is keeps = absurd (cc is)
    kept (Some xs) None is keeps = absurd keeps
    kept (Some xs) (Some ys) is keeps = ap Some keeps ∙ is

-- standard output after its sink failed to take a text and was given back
pub part_left : {K : Type 0} (state_of : K → SinkState) (tells : Bool) (writing : Spot → Bool) (before after : Told) (which : Output) (text : Output × List ℕ) (olds news : List K)
    → AreMade state_of tells writing (output ∷ []) olds → AllByRecursion (λ own. IsTaken before after (state_of own)) news
    → EachOut (IsAt state_of) (UpTo which) (text ∷ []) olds news → HoldsPart tells after text.1
part_left state_of tells writing before after which text (old ∷ []) (new ∷ []) made taken (inl (whole, rest)) = absurd rest
part_left state_of tells writing before after which text (old ∷ []) (new ∷ []) made taken (inr (is, broken, rest)) = λ tell.
    let there : (state_of new).spot ≡ output = broken.called.spot ∙ made.0.there in
    let (n, held) = part_held text.1 (state_of old) (state_of new) (made.0.empty tell) broken.stands in
    (n, sym (ap after there) ∙ taken.0.called (ap is_file there) (omega (arith, broken.stands.called)) ∙ held)
part_left state_of tells writing before after which text [] news made taken written = absurd made
part_left state_of tells writing before after which text (old ∷ one ∷ more) news made taken written = absurd made.1
part_left state_of tells writing before after which text (old ∷ []) [] made taken written = absurd written
part_left state_of tells writing before after which text (old ∷ []) (new ∷ one ∷ more) made taken (inl (whole, rest)) = absurd rest
part_left state_of tells writing before after which text (old ∷ []) (new ∷ one ∷ more) made taken (inr (is, broken, rest)) = absurd rest

-- standard error is no file
pub file-apart : (name : List ℕ) → file name ≢ errors
file-apart name = λ e. cc e

pub no_errors : (spot : Spot) → is_file spot ≡ true → spot ≢ errors
no_errors spot is same = never (subst (λ own. is_file own ≡ true) same is)

-- files that are finished
pub whole_files : {K : Type 0} (state_of : K → SinkState) (sinks : List K) → AllByRecursion (λ own. is_file (state_of own).spot ≡ true) sinks
    → AllByRecursion (λ own. (state_of own).is_finished ≡ true) sinks → All (λ own. IsWholeFile (state_of own)) sinks
whole_files state_of sinks files finished = All-from_recursion (λ own. IsWholeFile (state_of own)) sinks (both sinks files finished)
  where
    both : (sinks : List _) → AllByRecursion (λ own. is_file (state_of own).spot ≡ true) sinks
        → AllByRecursion (λ own. (state_of own).is_finished ≡ true) sinks → AllByRecursion (λ own. IsWholeFile (state_of own)) sinks
    both [] files finished = tt
    both (own ∷ sinks) files finished = ((files.0, finished.0), both sinks files.1 finished.1)
