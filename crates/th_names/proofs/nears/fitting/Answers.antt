use Rattle.std.proofs.Common.{◌≡◌, ◌<◌, List, [], ◌++◌, get_or, length, sym, subst, ap, ◌∙◌, take, arith}
use Rattle.std.specs.List.{AllZip}
use Rattle.std.proofs.lemmas.List.{append-nil, take_all}
use Rattle.th_changes.specs.declared.numbers.Number.{Number}
use Rattle.th_explain.specs.Explained.{Explains}
use Rattle.th_names.specs.Doubts.{namings_of, number_of}
use Rattle.th_names.specs.Gaps.{number_in}
use Rattle.th_names.specs.Nears.{AreNear, sign_nears}
use Rattle.th_names.specs.declared.namings.Naming.{Naming}
use Rattle.th_names.specs.declared.nears.Near.{Near}
use Rattle.th_names.proofs.JoinLemmas.{joined_next}
use Rattle.th_names.proofs.NamingLemmas.{namings_number}
use Rattle.th_names.proofs.nears.fitting.Goals as goal

pub loop-naming-init : goal.loop-naming-init
loop-naming-init c = record { each = []; are = tt; listed = c.in_ok-nears.ensures ∙ sym (append-nil _) }

pub near_points-requires : goal.near_points-requires
near_points-requires c =
    let own = c.args.own.now in
    let namings : List Naming = c.deref-naming-items.result.now in
    let doubt = c.args.doubt.now in
    let all : namings ≡ namings_of doubt = c.deref-naming-items.ensures.value ∙ c.in_ok-namings.ensures in
    let naming : Naming = c.naming-item.result in
    let here : naming ≡ get_or (namings_of doubt) c.loop-naming.naming-index naming = c.naming-item.is ∙ ap (λ (own' : List Naming). get_or own' c.loop-naming.naming-index naming) all in
    let within = subst (λ (own' : List Naming). c.loop-naming.naming-index < length own') all c.loop-naming-test.true in
    let same : number_in naming ≡ number_of doubt = ap number_in here ∙ namings_number doubt c.loop-naming.naming-index naming within in
    record { freed = subst (λ (number : Number). Explains own.network.now 0 number c.args.freed.now) (sym same) c.requires.freed }

pub loop-naming-preserved : goal.loop-naming-preserved
loop-naming-preserved c =
    let own = c.args.own.now in
    joined_next (AreNear own.network.now own.limit) c.deref-naming-items.result.now (sign_nears own.network.now own.kinds.now.entries.now own.limit c.args.freed.now c.args.doubt.now) c.loop-naming.nears.items c.extend_from_slice.new.self.items c.in_ok-points.points.items
    c.loop-naming.naming-index c.naming-item.result c.loop-naming-test.true c.naming-item.is (c.in_ok-extend_from_slice.ensures.items ∙ ap (λ (own' : List Near). c.loop-naming.nears.items ++ own') c.deref.ensures.value) c.loop-naming.invariant c.in_ok-points.ensures

pub returns : goal.returns
returns c =
    let own = c.args.own.now in
    let namings : List Naming = c.deref-naming-items.result.now in
    let all : take c.loop-naming.naming-index namings ≡ namings_of c.args.doubt.now = take_all c.loop-naming.naming-index namings (omega (arith, c.loop-naming-test.false)) ∙ c.deref-naming-items.ensures.value ∙ c.in_ok-namings.ensures in
    record {
      each = c.loop-naming.invariant.each;
      are_near = subst (λ (own' : List Naming). AllZip (AreNear own.network.now own.limit) own' c.loop-naming.invariant.each) all c.loop-naming.invariant.are;
      listed = c.loop-naming.invariant.listed;
    }
