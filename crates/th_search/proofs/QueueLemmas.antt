-- What holds of all entries of a queue, where one is added or taken.
use Rattle.std.proofs.Common.{◌≡◌, Bool, true, false, List, ◌∷◌, [], ◌++◌, Option, Some, None, All, if◌then◌else◌, sym}
use Rattle.std.specs.Prelude.{IfSome, option_to_list}
use Rattle.std.proofs.lemmas.List.Elements.{All-cons, All-head, All-push, All-rest, All-same}

pub all_first : {X : Type 0} (P : X → Type 0) (added : Bool) (entry : X) (old new : List X) → new ≡ (if added then entry ∷ old else old) → P entry → All P old → All P new
all_first P true entry old new is one all = All-same P new (entry ∷ old) is (All-cons P entry old one all)
all_first P false entry old new is one all = All-same P new old is all

pub all_last : {X : Type 0} (P : X → Type 0) (added : Bool) (entry : X) (old new : List X) → new ≡ (if added then old ++ entry ∷ [] else old) → P entry → All P old → All P new
all_last P true entry old new is one all = All-same P new (old ++ entry ∷ []) is (All-push P old entry all one)
all_last P false entry old new is one all = All-same P new old is all

pub all_left : {X : Type 0} (P : X → Type 0) (taken : Option X) (old new : List X) → old ≡ option_to_list taken ++ new → All P old → All P new
all_left P None old new is all = All-same P new old (sym is) all
all_left P (Some entry) old new is all = All-rest P entry new old is all

pub one_taken : {X : Type 0} (P : X → Type 0) (taken : Option X) (old new : List X) → old ≡ option_to_list taken ++ new → All P old → IfSome taken P
one_taken P None old new is all = tt
one_taken P (Some entry) old new is all = All-head P entry new (All-same P (entry ∷ new) old (sym is) all)
