-- What holds of a statement that a record makes after a draft.
use Rattle.std.proofs.Common.{◌≡◌, ◌<◌, ◌+◌, ◌&&◌, ℕ, ℤ, Bool, true, false, if◌then◌else◌, List, length, Option, Some, None, is_none, is_some, Result, Ok, Err, IfOk, bytes_eq, codes, nat_lt, refl, sym, subst, arith}
use Rattle.std.proofs.lemmas.Bool.Decides.{nat_tests}
use Rattle.std.specs.Map.{lookup}
use Rattle.gsi_word.specs.Names.{name_of}
use Rattle.th_tables.proofs.TableLemmas.{none_from_test}
use Rattle.th_certificate.specs.Certified.{HeightRows}
use Rattle.th_certificate.specs.Numbers.{cost_in, flow_in, height_in}
use Rattle.th_certificate.specs.Statements.{Draft, may_have_cost, may_have_flow, may_have_height, may_have_high, may_have_low, new_name, row_in, row_of, said, states}
use Rattle.th_certificate.specs.Inside.Drafts.{Follows, IsNewRow}
use Rattle.th_certificate.specs.declared.faults.CertKind.{CertKind}
use Rattle.th_certificate.specs.declared.faults.CertKind.TheVariants.{BadName}
use Rattle.th_certificate.specs.declared.statements.Statement.{Statement}
use Rattle.th_certificate.specs.declared.statements.Statement.TheVariants.{Flow, Cost}
use Rattle.th_certificate.proofs.NumberLemmas.{cost_small, flow_small, height_small, second_of}

new_row : (rows : HeightRows) (name : Option (List ℕ)) (number : List ℕ) (row : List ℕ × ℤ) → row_of (new_name rows name) (height_in number) ≡ Ok row → IsNewRow rows row.0 row.1
new_row rows None number row h = cc h
new_row rows (Some name) number row h = by (is_some (lookup (bytes_eq name) rows)) (height_in number) refl refl h
  where
    by : (there : Bool) (height : Result ℤ CertKind) → is_some (lookup (bytes_eq name) rows) ≡ there → height_in number ≡ height
        → row_of (if there then Err BadName else Ok name) height ≡ Ok row → IsNewRow rows row.0 row.1
    by true height is is' h = cc h
    by false (Err kind) is is' h = cc h
    by false (Ok height) is is' h =
        let same : (name, height) ≡ row = cc in
        subst (λ (row : List ℕ × ℤ). IsNewRow rows row.0 row.1) same (record { new = none_from_test (lookup (bytes_eq name) rows) is; in_range = height_small number height is' })

-- what holds of each thing that is read holds of the statement of it
pub states_of : {A : Type 0} (make : A → Statement) (read : Result A CertKind) (statement : Statement) (P : Statement → Type 0) → states make read ≡ Ok statement → ((it : A) → read ≡ Ok it → P (make it)) → P statement
states_of make (Err kind) statement P h each = cc h
states_of make (Ok it) statement P h each =
    let same : make it ≡ statement = cc in
    subst P same (each it refl)

-- one of two
pub either_of : (test : Bool) (first second : Result Statement CertKind) (statement : Statement) (P : Type 0) → (if test then first else second) ≡ Ok statement
    → (test ≡ true → first ≡ Ok statement → P) → (second ≡ Ok statement → P) → P
either_of true first second statement P h a b = a refl h
either_of false first second statement P h a b = b h

said_follows : (draft : Draft) (kind key number : List ℕ) (statement : Statement) → said draft kind key number ≡ Ok statement → Follows draft statement
said_follows draft kind key number statement h =
    let P : Type 0 = Follows draft statement in
    either_of (bytes_eq kind (codes "H") && may_have_height draft) _ _ statement P h
    (λ test read. states_of _ (row_in draft.heights key number) statement (Follows draft) read (λ row is. new_row draft.heights (name_of key) number row is)) (λ h.
    either_of (bytes_eq kind (codes "L") && may_have_low draft) _ _ statement P h
    (λ test read. states_of _ (row_in draft.low key number) statement (Follows draft) read (λ row is. new_row draft.low (name_of key) number row is)) (λ h.
    either_of (bytes_eq kind (codes "U") && may_have_high draft) _ _ statement P h
    (λ test read. states_of _ (row_in draft.high key number) statement (Follows draft) read (λ row is. new_row draft.high (name_of key) number row is)) (λ h.
    either_of (bytes_eq kind (codes "F") && may_have_flow draft) _ _ statement P h
    (λ test read. states_of Flow (flow_in (length draft.flows + 1) key number) statement (Follows draft) read (λ flow is. (
      room (second_of (is_none draft.cost) (nat_lt (length draft.flows) draft.count) (second_of (bytes_eq kind (codes "F")) (may_have_flow draft) test)),
      flow_small (length draft.flows + 1) key number flow is,
    ))) (λ h.
    either_of (bytes_eq kind (codes "Z") && (may_have_cost draft && bytes_eq key (codes "cost"))) _ _ statement P h
    (λ test read. states_of Cost (cost_in number) statement (Follows draft) read (λ cost is. cost_small number cost is))
    (λ h. cc h)))))
  where
    room : nat_lt (length draft.flows) draft.count ≡ true → length draft.flows < draft.count
    room test = grind (arith, nat_tests)

-- what is said may follow
pub all_follow : (draft : Draft) (kind key number : List ℕ) (result : Result Statement CertKind) → result ≡ said draft kind key number → IfOk result (Follows draft)
all_follow draft kind key number (Ok statement) is = said_follows draft kind key number statement (sym is)
all_follow draft kind key number (Err kind') is = tt
