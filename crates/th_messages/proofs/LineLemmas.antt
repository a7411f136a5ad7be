-- Bytes that are put behind others.
use Rattle.std.proofs.Common.{◌≤◌, ◌+◌, ℕ, List, ◌++◌, Ok, Err, take, drop, sym, subst, ◌∙◌, arith}
use Rattle.std.proofs.KnownBytes.{Appends-trans}
use Rattle.std.proofs.Math.Seq.{take-add}
use Rattle.std.specs.Prelude.{Option, Result}
use Rattle.std.specs.Io.KnownBytes.{Appends}
use Rattle.th_devices.specs.Devices.{SinkState}
use Rattle.th_devices.specs.declared.devices.Failed.{Failed}
use Rattle.th_messages.specs.Lines.{IsPutIn}

-- what took the front of a text, and then what comes next, took a longer front
pub appended_more : (first before after : Option (List ℕ)) (text : List ℕ) (done count : ℕ) → Appends first before (take done text)
    → Appends before after (take count (drop done text)) → Appends first after (take (done + count) text)
appended_more first before after text done count taken more =
    subst (Appends first after) (sym (take-add done count text)) (Appends-trans first before after _ _ taken more)

-- two texts that were put one after the other
pub appended : (first before after : Option (List ℕ)) (one more : List ℕ) → Appends first before one → Appends before after more
    → Appends first after (one ++ more)
appended = Appends-trans

-- a text was put, and then another one
pub put_then : {X Y : Type 0} (done : X) (result : Result Y Failed) (some next most : ℕ) (one more : List ℕ) (first before after : SinkState)
    → IsPutIn some one first before (Ok done) → IsPutIn next more before after result → some + next ≤ most → IsPutIn most (one ++ more) first after result
put_then done (Ok end) some next most one more first before after was is within = record {
  taken = Appends-trans _ _ _ _ _ was.taken is.taken;
  failed = tt;
  failures = omega (arith, was.failures, is.failures);
  spot = is.spot ∙ was.spot;
  often = omega (arith, was.often, is.often);
}
put_then done (Err fault) some next most one more first before after was is within = record {
  taken = tt;
  failed = is.failed;
  failures = omega (arith, was.failures, is.failures);
  spot = is.spot ∙ was.spot;
  often = omega (arith, was.often, is.often);
}
