use Rattle.std.proofs.Common.{◌≡◌, rules, subst, sym}
use Rattle.std.specs.List.{filter}
use Rattle.th_entries.specs.declared.entries.HeightKind.{HeightKind}
use Rattle.th_entries.specs.declared.entries.HeightKind.TheVariants as height
use Rattle.th_numbers.specs.Lists.{is_used}
use Rattle.th_numbers.proofs.KindLemmas.{used_of_kind}
use Rattle.th_numbers.proofs.kinds.Kinds.around.Goals as goal

pub returns-in-Instrument : goal.returns-in-Instrument
returns-in-Instrument c =
    let o = c.args.o.now in
    let is : c.args.kind ≡ height.Instrument = search rules in
    subst (λ (kind : HeightKind). filter (is_used kind o) c.around.result.now ≡ filter (is_used kind o) c.args.self.now.entries.now) (sym is)
    (used_of_kind height.Instrument o c.args.self.now.instruments.entries.items c.args.self.now.entries.now c.around.result.now c.args.self.now.instruments_are c.around.ensures)

pub returns-in-Reflector : goal.returns-in-Reflector
returns-in-Reflector c =
    let o = c.args.o.now in
    let is : c.args.kind ≡ height.Reflector = search rules in
    subst (λ (kind : HeightKind). filter (is_used kind o) c.around-in-Reflector.result.now ≡ filter (is_used kind o) c.args.self.now.entries.now) (sym is)
    (used_of_kind height.Reflector o c.args.self.now.reflectors.entries.items c.args.self.now.entries.now c.around-in-Reflector.result.now c.args.self.now.reflectors_are c.around-in-Reflector.ensures)
