use Rattle.th_explain_laws.proofs.LeadLemmas.{ahead, wrong_printed}
use Rattle.th_explain_laws.proofs.laws.wrong_number_leads.Goals as goal

pub returns : goal.returns
returns c = record {
  printed = λ right candidate wrong truth flows reviews limit explained freed are circulation kept. wrong_printed right candidate wrong truth flows circulation kept c.freed_is_one.ensures reviews limit explained freed are;
  ahead = λ right candidate other wrong truth flows filter cost own row circulation none kept large. ahead right candidate wrong truth flows circulation kept other filter cost own row none large;
}
