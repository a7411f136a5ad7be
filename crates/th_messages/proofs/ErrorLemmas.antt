-- A line that reached standard error.
use Rattle.std.proofs.Common.{◌≡◌, ◌<◌, ◌∙◌, ℕ, zero, suc, Bool, true, false, List, [], ◌++◌, None, Some, Ok, Err, ap, sym, subst, refl, arith}
use Rattle.std.specs.Prelude.{Option, Result}
use Rattle.std.specs.Io.KnownBytes.{Appends, Keeps}
use Rattle.th_devices.specs.Devices.{SinkState}
use Rattle.th_devices.specs.Spots.{Spot, errors, is_file}
use Rattle.th_devices.specs.declared.devices.Failed.{Failed}
use Rattle.th_devices.specs.Folders.{IsClosed}
use Rattle.th_messages.specs.Errors.{IsBegunThere, IsWholeThere}
use Rattle.th_messages.specs.Lines.{IsEnded, IsPutIn}

-- a line that was ended, and its sink given back to a folder
pub whole_there : {F : Type 0} (tells : Bool) (held : F → Spot → Option (List ℕ)) (has_failed : F → Spot → Bool) (line sink : SinkState) (old new : F)
    → IsEnded line sink → IsClosed tells held has_failed sink old new → line.spot ≡ errors → has_failed new errors ≡ false
    → IsWholeThere tells line (held new errors)
whole_there tells held has_failed line sink old new ended closed at clear = record {
  unfailed = λ tell. omega (arith, ended.failures, none tell);
  there = λ tell. subst (Keeps line.held) (sym (left tell)) (ended.whole (none tell)).1;
}
  where
    there : sink.spot ≡ errors
    there = ended.spot ∙ at

    stream : is_file sink.spot ≡ false
    stream = ap is_file there

    by : (count : ℕ) → tells ≡ true → (0 < count → has_failed new sink.spot ≡ true) → count ≡ 0
    by zero tell failed = refl
    by (suc more) tell failed =
        let is : has_failed new errors ≡ true = subst (λ spot. has_failed new spot ≡ true) there (failed (omega arith)) in
        absurd (cc (is, clear))

    none : tells ≡ true → sink.counts.failures ≡ 0
    none tell = by sink.counts.failures tell (closed.failed tell stream)

    left : tells ≡ true → held new errors ≡ sink.held
    left tell = subst (λ spot. held new spot ≡ sink.held) there (closed.finished stream (ended.whole (none tell)).0)

-- what was put on a line that began empty is all that it held
pub put_whole : {X : Type 0} (tells : Bool) (most : ℕ) (text : List ℕ) (first line : SinkState) (told : Option (List ℕ)) (result : Result X Failed)
    → IsBegunThere tells first → IsPutIn most text first line result → IsWholeThere tells line told → tells ≡ true → told ≡ Some text
put_whole tells most text first line told (Err fault) begun put whole tell = absurd (omega (arith, put.failed, whole.unfailed tell))
put_whole tells most text first line told (Ok done) begun put whole tell = by first.held line.held told
    (begun.empty tell (omega (arith, put.failures, whole.unfailed tell))) put.taken (whole.there tell)
  where
    by : (before after last : Option (List ℕ)) → before ≡ Some [] → Appends before after text → Keeps after last → last ≡ Some text
    by None after last empty taken kept = cc
    by (Some old) None last empty taken kept = absurd taken
    by (Some old) (Some new) None empty taken kept = absurd kept
    by (Some old) (Some new) (Some end) empty taken kept =
        let nothing : old ≡ [] = cc in
        ap Some (kept ∙ taken ∙ ap (λ own. own ++ text) nothing)
