use Rattle.std.proofs.Common.{◌≡◌, [], ◌∷◌, sym, ap, subst, ◌∙◌, map}
use Rattle.std.specs.Prelude.{Contains, ◌-ℤ◌}
use Rattle.th_book.specs.Books.{observations_of, parsed_of}
use Rattle.th_changes.specs.Numbers.{changed_observation}
use Rattle.th_numbers.specs.Candidates.{given_of, number_of}
use Rattle.th_explain_laws.specs.Corrected.{corrected}
use Rattle.th_explain_laws.specs.Typed.{IsOfBook}
use Rattle.th_explain_laws.proofs.MendedLemmas.{answered_is, same_observations}
use Rattle.th_explain_laws.proofs.TableLemmas.{table_readable}
use Rattle.th_explain_laws.proofs.TypedLemmas.{EntryLaws, number_changed, survey_changed}
use Rattle.th_explain_laws.proofs.mend_laws.typed_number_is_changed.Goals as goal

pub returns : goal.returns
returns c = λ table bytes text number candidate own change before observations behind news benchmarks weights answered of_book is read mended again first last.
    let parsed = parsed_of bytes in
    let laws : EntryLaws = record {
      all = c.sights_from_line_to_last_use_it.ensures.all;
      others = c.sights_from_line_to_last_use_it.ensures.others;
      height = c.entry_has_the_height_of_its_sights.ensures;
    } in
    let law = c.mended_book_has_just_the_changes.ensures table bytes text (change ∷ []) number read mended in
    let all : observations ≡ observations_of number parsed = answered_is number bytes observations answered in
    let new : news ≡ corrected law.0 number parsed = same_observations news (corrected law.0 number parsed) (sym again ∙ law.2) in
    let found = number_changed laws number parsed candidate own change law.0 benchmarks
    (λ o among. c.observation_is_of_a_sight.ensures.sight number bytes observations o answered (subst (λ items. Contains items o) (sym all) among))
    (subst (λ items. IsOfBook number parsed items candidate) all of_book) is (table_readable c.name_of_name_is_itself.ensures table (change ∷ []) read).0 law.1 in
    survey_changed number (number_of candidate) (own -ℤ given_of benchmarks candidate) before observations behind news benchmarks weights found.over first last
    (new ∙ found.grows ∙ sym (ap (map (changed_observation (number_of candidate) (own -ℤ given_of benchmarks candidate))) all))
