-- Outputs that are written one after the other.
use Rattle.std.proofs.Common.{◌≡◌, List, [], ◌∷◌, Some, Ok, Err, IfErr, inr, length, map, ap, sym, subst, refl, ◌∙◌, arith}
use Rattle.std.proofs.lemmas.List.{length-map}
use Rattle.std.proofs.lemmas.List.Elements.{All-tail, Contains-append_right}
use Rattle.std.specs.List.{All}
use Rattle.std.specs.Prelude.{Result, ℕ}
use Rattle.th_devices.specs.Devices.{IsReady, SinkState}
use Rattle.th_run_parts.proofs.SourceLemmas.{none_failed}
use Rattle.th_run_parts.specs.Writes.{AreWritable, AreWritten, Broken, EachOut, IsAt, IsFailedWrite, NotBegun, Texts}
use Rattle.th_run_parts.specs.declared.outputs.Output.{Output}
use Rattle.th_run_parts.specs.declared.refusals.Refusal.{Refusal}
use Rattle.th_run_parts.specs.declared.refusals.Refusal.TheVariants as refusal

-- the outputs that texts are for
abbrev pub outputs_of : Texts → List Output
outputs_of texts = map (λ text. text.0) texts

-- there are as many later sinks as later texts
as_many_later : {K : Type 0} (texts : Texts) (text : Output × List ℕ) (rest : Texts) (outs : List K) (out : K) (later : List K)
    → texts ≡ text ∷ rest → outs ≡ out ∷ later → length outs ≡ length (outputs_of texts) → length later ≡ length rest
as_many_later texts text rest outs out later are_texts are_outs same =
    omega (arith, ap length are_texts, ap length are_outs, same, length-map texts (λ (own : Output × List ℕ). own.0))

-- sinks that are left as they are
all_untouched : {K : Type 0} (state_of : K → SinkState) (texts : Texts) (outs : List K) → length outs ≡ length texts
    → EachOut (IsAt state_of) NotBegun texts outs outs
all_untouched state_of [] [] same = tt
all_untouched state_of [] (out ∷ outs) same = absurd (omega (arith, same))
all_untouched state_of (text ∷ texts) [] same = absurd (omega (arith, same))
all_untouched state_of (text ∷ texts) (out ∷ outs) same = (
  record {
    stands = refl;
    called = record { failed = omega arith; may_fail = none_failed 0 _ (omega arith); often = omega arith; spot = refl };
  },
  all_untouched state_of texts outs (omega (arith, same)),
)

-- the first output failed, and those behind it are left as they are
pub first_failed : {K : Type 0} (state_of : K → SinkState) (own : Refusal) (texts : Texts) (text : Output × List ℕ) (rest : Texts) (outs : List K) (old new : K)
    (later : List K) → texts ≡ text ∷ rest → outs ≡ old ∷ later → length outs ≡ length (outputs_of texts) → own ≡ refusal.Write text.0
    → IsAt state_of Broken text.1 old new → AreWritten state_of (Some own) texts outs (new ∷ later)
first_failed state_of own texts text rest outs old new later are_texts are_outs same is at =
    let many = as_many_later texts text rest outs old later are_texts are_outs same in
    subst (λ real. AreWritten state_of (Some real) texts outs (new ∷ later)) (sym is)
    (subst (λ known. AreWritten state_of (Some (refusal.Write text.0)) known outs (new ∷ later)) (sym are_texts)
    (subst (λ sinks. AreWritten state_of (Some (refusal.Write text.0)) (text ∷ rest) sinks (new ∷ later)) (sym are_outs)
    (inr (refl, at, all_untouched state_of rest later many))))

-- the later sinks may be written, for the later texts
pub writable_later : {K : Type 0} (state_of : K → SinkState) (texts : Texts) (text : Output × List ℕ) (rest : Texts) (outs : List K) (out : K) (later : List K)
    → texts ≡ text ∷ rest → outs ≡ out ∷ later → AreWritable state_of (outputs_of texts) outs → AreWritable state_of (outputs_of rest) later
writable_later state_of texts text rest outs out later are_texts are_outs writable = record {
  as_many = as_many_later texts text rest outs out later are_texts are_outs writable.as_many ∙ sym (length-map rest (λ (own : Output × List ℕ). own.0));
  each_sink = All-tail (λ sink. IsReady (state_of sink).counts) out later (subst (All (λ sink. IsReady (state_of sink).counts)) are_outs writable.each_sink);
}

-- a failed write of a later output
pub failed_later : {X : Type 0} (texts : Texts) (text : Output × List ℕ) (rest : Texts) (result : Result X Refusal) → texts ≡ text ∷ rest
    → IfErr result (IsFailedWrite (outputs_of rest)) → IfErr result (IsFailedWrite (outputs_of texts))
failed_later {X = X} texts text rest result are_texts failed =
    subst (λ known. IfErr result (IsFailedWrite (outputs_of known))) (sym are_texts) (by result failed)
  where
    by : (known : Result X Refusal) → IfErr known (IsFailedWrite (outputs_of rest)) → IfErr known (IsFailedWrite (outputs_of (text ∷ rest)))
    by (Ok x) failed = tt
    by (Err (refusal.Write which)) failed = Contains-append_right (text.0 ∷ []) (outputs_of rest) which failed
    by (Err other) failed = absurd failed
