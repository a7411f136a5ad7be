-- Sinks that took their places one after the other.
use Rattle.std.proofs.Common.{◌≡◌, ◌∙◌, ◌++◌, ◌∷◌, [], ℕ, Bool, List, Some, Ok, Err, ap, sym, subst, take, length, refl}
use Rattle.std.proofs.lemmas.List.{take_at}
use Rattle.std.specs.Prelude.{IfErr, OnOk, Option, Result, slice_get}
use Rattle.th_devices.specs.Devices.{SinkState}
use Rattle.th_devices.specs.Spots.{Spot}
use Rattle.th_devices.specs.Folders.{ArePlaced, Failing, IsPlaced, IsStopped}
use Rattle.th_devices.specs.Inside.Placing.{IsNext}

-- how far some of the sinks came: they took their places, or one of them could not
abbrev pub HaveCome : {F : Type 0} → Bool → (F → Spot → Option (List ℕ)) → (F → Spot → Bool) → (F → Failing) → List SinkState → List SinkState
    → F → F → Result (Unit {0}) ℕ → Type 0
HaveCome tells held_in has_failed failing all done old new answer =
    OnOk answer (ArePlaced tells held_in has_failed done old new) × IfErr answer (IsStopped tells held_in has_failed failing all old new)

-- one more takes its place
placed-more : {F : Type 0} (tells : Bool) (held_in : F → Spot → Option (List ℕ)) (has_failed : F → Spot → Bool) (sinks : List SinkState) (sink : SinkState) (old mid new : F)
    → ArePlaced tells held_in has_failed sinks old mid → IsPlaced tells held_in has_failed sink mid new → ArePlaced tells held_in has_failed (sinks ++ sink ∷ []) old new
placed-more tells held_in has_failed [] sink old mid new same one = (new, subst (λ from. IsPlaced tells held_in has_failed sink from new) same one, refl)
placed-more tells held_in has_failed (first ∷ sinks) sink old mid new (next, placed, rest) one =
    (next, placed, placed-more tells held_in has_failed sinks sink next mid new rest one)

-- the sink behind others
at-end : (done : List SinkState) (sink : SinkState) (rest : List SinkState) → slice_get (done ++ sink ∷ rest) (length done) ≡ Some sink
at-end [] sink rest = refl
at-end (first ∷ done) sink rest = at-end done sink rest

-- the next sink of all
pub come-further : {F : Type 0} (tells : Bool) (held_in : F → Spot → Option (List ℕ)) (has_failed : F → Spot → Bool) (failing : F → Failing) (all done rest : List SinkState) (sink : SinkState)
    (number : ℕ) (old mid new : F) (answer result : Result (Unit {0}) ℕ)
    → all ≡ done ++ sink ∷ rest → number ≡ length done → (failing mid).writing ≡ (failing old).writing
    → HaveCome tells held_in has_failed failing all done old mid answer → IsNext tells held_in has_failed failing sink number answer mid new result
    → HaveCome tells held_in has_failed failing all (done ++ sink ∷ []) old new result
come-further tells held_in has_failed failing all done rest sink number old mid new (Ok u) (Ok v) are is fixed (placed, stopped) (one, none) =
    (placed-more tells held_in has_failed done sink old mid new placed one, tt)
come-further tells held_in has_failed failing all done rest sink number old mid new (Ok u) (Err own) are is fixed (placed, stopped) (one, (same, kept, fails)) = (
  tt,
  record {
    sink = sink;
    at = ap (slice_get all) (same ∙ is) ∙ ap (λ (sinks : List SinkState). slice_get sinks (length done)) are ∙ at-end done sink rest;
    allowed = sym (ap (λ (may : Spot → Bool). may sink.spot) fixed) ∙ fails;
    before = subst (λ (front : List SinkState). ArePlaced tells held_in has_failed front old new)
        (sym (ap (take own) are ∙ take_at done (sink ∷ rest) own (sym (same ∙ is))))
        (subst (λ to. ArePlaced tells held_in has_failed done old to) (sym kept) placed);
  },
)
come-further tells held_in has_failed failing all done rest sink number old mid new (Err before) result are is fixed (placed, stopped) (same, kept) =
    subst (λ (own : Result (Unit {0}) ℕ). HaveCome tells held_in has_failed failing all (done ++ sink ∷ []) old new own) (sym same)
    (tt, subst (λ to. IsStopped tells held_in has_failed failing all old to before) (sym kept) stopped)
