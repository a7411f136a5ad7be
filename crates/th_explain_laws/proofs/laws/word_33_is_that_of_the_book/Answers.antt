use Rattle.th_explain_laws.proofs.Word33Lemmas.{read_is}
use Rattle.th_explain_laws.proofs.laws.word_33_is_that_of_the_book.Goals as goal

pub returns : goal.returns
returns c = read_is (record {
  all = c.sights_from_line_to_last_use_it.ensures.all;
  height = c.entry_has_the_height_of_its_sights.ensures;
  sight = c.observation_is_of_a_sight.ensures.sight;
})
