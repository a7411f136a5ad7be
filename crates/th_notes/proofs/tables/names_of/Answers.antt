use Rattle.std.proofs.Common.{◌≡◌, ◌||◌, ℕ, Bool, true, false, List, get_or, take, refl, sym, ap, ◌∙◌, arith}
use Rattle.std.specs.List.{list_any}
use Rattle.std.proofs.lemmas.List.{take_all}
use Rattle.std.proofs.lemmas.List.Folds.{list_any_more}
use Rattle.gsi_word.specs.Names.{same_name}
use Rattle.th_observations.specs.Observed.{Observed}
use Rattle.th_notes.specs.Seen.{was_seen}
use Rattle.th_notes.specs.Inside.Sets.{has_name}
use Rattle.th_notes.proofs.FindingLemmas.{one_more_name}
use Rattle.th_notes.proofs.tables.names_of.Goals as goal

either_of : (a b c : Bool) → ((a || b) || c) ≡ (a || (b || c))
either_of true b c = refl
either_of false b c = refl

pub loop-o-preserved : goal.loop-o-preserved
loop-o-preserved c =
    let observations : List Observed = c.args.observations.now in
    let i = c.loop-o.o-index in
    let o : Observed = c.o-item.result in
    let is : o ≡ get_or observations i o = c.o-item.is in
    λ name.
    let ends_at : Observed → Bool = λ (o : Observed). same_name o.station name || same_name o.target name in
    let old : Bool = has_name c.loop-o.names name in
    let first : has_name c.insert.new.self name ≡ (old || same_name o.station name) =
    one_more_name c.loop-o.names c.insert.new.self c.ends-station.result.0 name c.in_ok-insert.ensures.updates ∙ ap (λ (station : List ℕ). old || same_name station name) c.ends-station.ensures.station in
    one_more_name c.insert.new.self _ c.ends-station.result.1 name c.in_ok-insert-2.ensures.updates
    ∙ ap (λ (target : List ℕ). has_name c.insert.new.self name || same_name target name) c.ends-station.ensures.target
    ∙ ap (λ (b : Bool). b || same_name o.target name) first
    ∙ either_of old (same_name o.station name) (same_name o.target name)
    ∙ ap (λ (b : Bool). b || ends_at o) (c.loop-o.invariant name)
    ∙ ap (λ (o : Observed). list_any ends_at (take i observations) || ends_at o) is
    ∙ sym (list_any_more ends_at observations i o c.loop-o-test.true)

pub returns : goal.returns
returns c =
    let observations : List Observed = c.args.observations.now in
    λ name. c.loop-o.invariant name ∙ ap (λ (os : List Observed). was_seen os name) (take_all c.loop-o.o-index observations (omega arith))
