use Rattle.std.proofs.Common.{◌≡◌, ◌∙◌, ◌+◌, ◌++◌, ◌∷◌, [], List, ap, arith, map, subst, sym}
use Rattle.std.proofs.lemmas.List.{append_assoc, length-map, length_push, map-append}
use Rattle.std.specs.Vec.Iter.{into_iter_items}
use Rattle.th_devices.specs.Devices.{SinkState}
use Rattle.th_devices.proofs.PlacingLemmas.{HaveCome, come-further}
use Rattle.th_devices.proofs.placing.place_all.Goals as goal

pub loop-sink-preserved : goal.loop-sink-preserved
loop-sink-preserved g c =
    let folder = g.F.Folder in
    let state = g.F.Out.Sink.state in
    let before = c.loop-sink.invariant in
    let done = c.loop-sink.yielded in
    let sink = c.in-Some.sink in
    let rest = into_iter_items c.next.new.self in
    let step = c.in-Some.ensures.steps in
    let next = c.place_next-answer in
    let are : c.args.sinks.items ≡ done ++ sink ∷ rest = before.2 ∙ ap (λ left. done ++ left) step.0 in
    let further = come-further folder.tells folder.held folder.has_failed folder.failing (map state c.args.sinks.items) (map state done) (map state rest)
    (state sink) c.loop-sink.number _ _ _ _ _ (ap (map state) are ∙ map-append state done (sink ∷ rest)) (before.1 ∙ sym (length-map done state)) before.3 before.4
    next.ensures.next in (
      omega (arith, before.0, step.1),
      ap (λ count. count + 1) before.1 ∙ sym (length_push done sink),
      are ∙ sym (append_assoc done (sink ∷ []) rest),
      next.ensures.fixed ∙ before.3,
      subst (λ (states : List SinkState). HaveCome folder.tells folder.held folder.has_failed folder.failing (map state c.args.sinks.items) states
          c.args.folder.now next.new.folder next.result) (sym (map-append state done (sink ∷ []))) further,
    )
