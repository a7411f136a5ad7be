-- The entry in force behind a line: it is the same up to the next line that begins one, or a setup.
use Rattle.std.proofs.Common.{◌≡◌, ℕ, suc, ◌<◌, ◌≤◌, ◌&&◌, Bool, true, false, not, Option, Some, None, List, refl, sym, ap, ◌∙◌, arith}
use Rattle.std.specs.Prelude.{nat_le, option_and_then}
use Rattle.std.proofs.lemmas.Bool.{and_left, and_parts, and_right, cond-false, leb-true}
use Rattle.std.proofs.lemmas.Option.{none-some}
use Rattle.th_book.specs.Lines.{ParsedLine, holds, is_setup, is_sight}
use Rattle.th_book.specs.Places.{last_below, setup_of, words_at}
use Rattle.th_entries.specs.Entries.{begins, begins_from, continues, entry_behind}
use Rattle.th_mend.specs.Reached.{has_coordinate}
use Rattle.th_explain_laws.proofs.LastLemmas.{last-after, last-is, last-stays, last-true}
use Rattle.th_mend.proofs.LastLemmas.{last-lt}

-- what an entry in force is: there is a setup at or before the line, and an entry begins in it
pub record IsInForce (index : ℕ) (parsed : List ParsedLine) (place entry : ℕ) : Type 0 where
  pub setup : ℕ
  pub running : setup_of parsed (suc place) ≡ Some setup
  pub last : last_below (begins_from parsed index setup) (suc place) ≡ Some entry

pub in_force : (index : ℕ) (parsed : List ParsedLine) (place entry : ℕ) → entry_behind index parsed place ≡ Some entry → IsInForce index parsed place entry
in_force index parsed place entry h = go (setup_of parsed (suc place)) refl h
  where
    go : (setup : Option ℕ) → setup_of parsed (suc place) ≡ setup → option_and_then (λ from. last_below (begins_from parsed index from) (suc place)) setup ≡ Some entry → IsInForce index parsed place entry
    go None is h = absurd (none-some entry h)
    go (Some setup) is h = record { setup = setup; running = is; last = h }

behind_setup : (index : ℕ) (parsed : List ParsedLine) (place setup : ℕ) → setup_of parsed (suc place) ≡ Some setup → entry_behind index parsed place ≡ last_below (begins_from parsed index setup) (suc place)
behind_setup index parsed place setup running = ap (option_and_then (λ from. last_below (begins_from parsed index from) (suc place))) running

-- a setup that runs behind a line runs behind each line from its own on
pub same_running : (parsed : List ParsedLine) (from bound k : ℕ) → setup_of parsed bound ≡ Some from → from ≤ k → k < bound → setup_of parsed (suc k) ≡ Some from
same_running parsed from bound k runs after below =
    last-is begun (suc k) from (omega arith) (last-true begun bound from runs) (λ j behind within. last-after begun bound from j runs behind (omega arith))
  where
    begun : ℕ → Bool
    begun place = is_setup (words_at parsed place)

-- the entry is at the line or before it
pub force_le : (index : ℕ) (parsed : List ParsedLine) (place entry : ℕ) → entry_behind index parsed place ≡ Some entry → entry ≤ place
force_le index parsed place entry h =
    let is = in_force index parsed place entry h in
    let below = last-lt (begins_from parsed index is.setup) (suc place) entry is.last in
    omega arith

-- the same entry is in force behind each line from its own to this one
pub force_between : (index : ℕ) (parsed : List ParsedLine) (place entry k : ℕ) → entry_behind index parsed place ≡ Some entry → entry ≤ k → k ≤ place → entry_behind index parsed k ≡ Some entry
force_between index parsed place entry k h after before =
    let is = in_force index parsed place entry h in
    let passes = last-true (begins_from parsed index is.setup) (suc place) entry is.last in
    let late : is.setup ≤ entry = leb-true is.setup entry (and_parts (nat_le is.setup entry) (begins index parsed entry) passes).0 in
    let runs : setup_of parsed (suc k) ≡ Some is.setup = same_running parsed is.setup (suc place) k is.running (omega arith) (omega arith) in
    behind_setup index parsed k is.setup runs
    ∙ last-is (begins_from parsed index is.setup) (suc k) entry (omega arith) passes (λ j behind within. last-after (begins_from parsed index is.setup) (suc place) entry j is.last behind (omega arith))

-- a sight is no setup
pub no_setup : (parsed : List ParsedLine) (place : ℕ) → is_sight (words_at parsed place) ≡ true → is_setup (words_at parsed place) ≡ false
no_setup parsed place sight = ap (λ own. not own && has_coordinate (words_at parsed place)) sight

-- the setup of a sight runs behind it
pub sight_running : (parsed : List ParsedLine) (place from : ℕ) → is_sight (words_at parsed place) ≡ true → setup_of parsed place ≡ Some from → setup_of parsed (suc place) ≡ Some from
sight_running parsed place from sight runs =
    cond-false (is_setup (words_at parsed place)) (Some place) (setup_of parsed place) (no_setup parsed place sight) ∙ runs

-- where no line holds the index between a place and a sight, the same entry is in force behind both
pub force_stays : (index : ℕ) (parsed : List ParsedLine) (from k place : ℕ) → setup_of parsed (suc place) ≡ Some from → from ≤ k → k ≤ place
    → ((j : ℕ) → k < j → j ≤ place → holds index (words_at parsed j) ≡ false) → entry_behind index parsed place ≡ entry_behind index parsed k
force_stays index parsed from k place runs after before none =
    behind_setup index parsed place from runs
    ∙ last-stays (begins_from parsed index from) (suc k) (suc place) (omega arith) (λ j behind within. and_right (nat_le from j) (begins index parsed j) (and_left (holds index (words_at parsed j)) (not (continues index parsed j)) (none j (omega arith) (omega arith))))
    ∙ sym (behind_setup index parsed k from (same_running parsed from (suc place) k runs after (omega arith)))
