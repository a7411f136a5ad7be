use Rattle.std.proofs.Common.{◌≡◌, ◌≢◌, ◌<◌, ◌⊎◌, false, is_some, [], Ok, Err, Result, IsErrAnd, IfErr, List, length, Some, None, ap, sym, subst, refl, inl, inr, ◌∙◌, true}
use Rattle.std.specs.Prelude.{Option, option_map}
use Rattle.clap.proofs.WalkLemmas.{both}
use Rattle.clap.specs.Words.{App, HasKind, HasMatchesOf, Row, Text, fault_of, is_simple, is_simple_and_free, kind_of, subcommand_of, subcommand_rows_of}
use Rattle.clap.specs.declared.error.Error.{Error}
use Rattle.clap.specs.declared.error.kind.ErrorKind.{ErrorKind}
use Rattle.clap.specs.declared.error.kind.ErrorKind.TheVariants.{MissingRequiredArgument, OutOfMemory}
use Rattle.clap.specs.declared.parser.matches.ArgMatches.{ArgMatches}
use Rattle.clap.proofs.OnLiterals.{clap_on_literals}
use Rattle.th_commands.specs.ArgumentFaults.{argument_fault_by}
use Rattle.th_commands.specs.Plans.{AreTaken, IsFaultOf, IsPlanOf, argument_fault, asked, said_by}
use Rattle.th_commands.specs.Commands.{command_line}
use Rattle.th_commands.specs.Asked.{Asked, asked_by}
use Rattle.th_commands.specs.declared.plans.Plan.{Plan}
use Rattle.th_commands.specs.declared.plans.Plan.TheVariants as plan
use Rattle.th_commands.specs.declared.faults.ArgumentFault.{ArgumentFault}
use Rattle.th_commands.specs.declared.faults.PlanFault.{PlanFault}
use Rattle.th_commands.specs.declared.faults.PlanFault.TheVariants.{Line, NoMemory}

-- `clap` states the matches and the faults of this command line exactly
command_line_is_simple : is_simple_and_free command_line ≡ true
unfolding clap_on_literals
command_line_is_simple = refl

is_memory : (kind : ErrorKind) → (kind ≡ OutOfMemory) ⊎ (kind ≢ OutOfMemory)
is_memory OutOfMemory = inl refl
is_memory other = inr (λ e. cc)

fault_with : (words : List Text) (error : Error) (fault : PlanFault) → 1 < length words → HasKind (fault_of command_line words) error
    → (kind_of error ≢ OutOfMemory) → fault ≡ Line error → IsFaultOf words fault
fault_with words error fault more (inl memory) other is_line = absurd (other memory)
fault_with words error fault more (inr among) other is_line = subst (IsFaultOf words) (sym is_line) (more, other, inl among)

-- an error of `clap` becomes a fault of the words
pub refused : (words : List Text) (app : App) (error : Error) (fault : PlanFault) → 1 < length words → app ≡ command_line
    → (is_simple_and_free app ≡ true → HasKind (fault_of app words) error)
    → (kind_of error ≡ OutOfMemory → fault ≡ NoMemory) × (kind_of error ≢ OutOfMemory → fault ≡ Line error)
    → IsFaultOf words fault
refused words app error fault more is kinds gives =
    let has_kind : HasKind (fault_of command_line words) error =
    subst (λ (a : App). HasKind (fault_of a words) error) is (kinds (ap is_simple_and_free is ∙ command_line_is_simple)) in
    elim (is_memory (kind_of error)) [
      | inl memory ↦ subst (IsFaultOf words) (sym (gives.0 memory)) more
      | inr other ↦ fault_with words error fault more has_kind other (gives.1 other)
    ]

-- what holds of every error that may be there
pub at_err : {T E : Type 0} (r : Result T E) (Q P : E → Type 0) → IsErrAnd r Q → ((e : E) → Q e → P e) → IfErr r P
at_err (Ok x) Q P h k = tt
at_err (Err e) Q P h k = k e h

-- words that `clap` parsed have no fault
pub are_taken : (words : List Text) (app : App) → app ≡ command_line → (is_simple_and_free app ≡ true → fault_of app words ≡ [])
    → AreTaken words
are_taken words app is none = subst (λ (a : App). fault_of a words ≡ []) is (none (ap is_simple_and_free is ∙ command_line_is_simple))

-- what `clap` found of a command is what the words name
pub found_is : (words : List Text) (app : App) (m : ArgMatches) → app ≡ command_line → HasMatchesOf app words m
    → subcommand_rows_of m ≡ subcommand_of command_line words
found_is words app m is has =
    let simple : is_simple command_line ≡ true = (both _ _ command_line_is_simple).0 in
    subst (λ (a : App). subcommand_rows_of m ≡ subcommand_of a words) is (has (ap is_simple is ∙ simple)).1

said_is_asked : (said asked : Option Asked) → Some said ≡ option_map Some asked → (asked ≡ said) × (is_some asked ≡ true)
said_is_asked said None e = cc
said_is_asked said (Some x) e = (cc, refl)

-- a plan that says what was found is the plan of the words
pub is_plan : (words : List Text) (own : Plan) (found : Option (Text × List Row)) → 1 < length words → AreTaken words
    → found ≡ subcommand_of command_line words → Some (said_by own) ≡ option_map Some (asked_by found) → IsPlanOf words own
is_plan words own found more taken met e = go own (said_is_asked (said_by own) (asked_by found) e)
  where
    go : (p : Plan) → (asked_by found ≡ said_by p) × (is_some (asked_by found) ≡ true) → IsPlanOf words p
    go plan.Standard h =
        let bad : false ≡ true = rw h.0 at h.1 in
        cc
    go (plan.List book) h = (more, taken, ap asked_by (sym met) ∙ h.0)
    go (plan.Adjust inputs limit prefix) h = (more, taken, ap asked_by (sym met) ∙ h.0)
    go (plan.Review inputs limit prefix) h = (more, taken, ap asked_by (sym met) ∙ h.0)
    go (plan.Explain inputs limit table) h = (more, taken, ap asked_by (sym met) ∙ h.0)
    go (plan.Page inputs limit prefix title) h = (more, taken, ap asked_by (sym met) ∙ h.0)
    go (plan.Check inputs certificate true) h = (more, taken, ap asked_by (sym met) ∙ h.0)
    go (plan.Check inputs certificate false) h = (more, taken, ap asked_by (sym met) ∙ h.0)
    go (plan.Book table) h = (more, taken, ap asked_by (sym met) ∙ h.0)
    go (plan.BookOfHeights book) h = (more, taken, ap asked_by (sym met) ∙ h.0)
    go (plan.Mend changes book) h = (more, taken, ap asked_by (sym met) ∙ h.0)

-- where no plan says what was found, nothing was asked for
pub nothing_asked : (words : List Text) (found : Option (Text × List Row)) → found ≡ subcommand_of command_line words
    → None ≡ option_map Some (asked_by found) → asked words ≡ None
nothing_asked words found met e = ap asked_by (sym met) ∙ go (asked_by found) e
  where
    go : (o : Option Asked) → None ≡ option_map Some o → o ≡ None
    go None h = refl
    go (Some x) h = cc

-- what is wrong with the arguments that were found is what is wrong with the words
pub argument_fault_is : (words : List Text) (found : Option (Text × List Row)) (own : Option ArgumentFault) → found ≡ subcommand_of command_line words
    → own ≡ argument_fault_by found → argument_fault words ≡ own
argument_fault_is words found own met e = ap argument_fault_by (sym met) ∙ sym e

-- a missing argument is no allocation failure
pub other_kind : (kind : ErrorKind) → kind ≡ MissingRequiredArgument → kind ≡ OutOfMemory → ⊥
other_kind kind missing memory =
    let bad : MissingRequiredArgument ≡ OutOfMemory = sym missing ∙ memory in
    cc
