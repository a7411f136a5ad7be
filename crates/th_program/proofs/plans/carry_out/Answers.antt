use Rattle.std.proofs.Common.{◌≡◌, ◌∙◌, Err, ap, rules, subst, sym}
use Rattle.th_program.specs.Done.{IsCut, IsOutputOf, IsRefused}
use Rattle.th_program.proofs.plans.carry_out.Goals as goal
use Rattle.th_program.proofs.plans.carry_out.Goals.{in-Standard+in_ok-list-in-Standard, in-List+in_ok-list-in-List, in-Adjust+in_ok-adjust-in-Adjust, in-Review+in_ok-review-in-Review, in-Explain+in_ok-explain-in-Explain, in-Page+in_ok-page-in-Page, in-Book+in_ok-make_book-in-Book, in-BookOfHeights+in_ok-make_book-in-BookOfHeights, in-Mend+in_ok-mend-in-Mend}

pub returns-clause-others : goal.returns-clause-others
returns-clause-others g c = λ spot none. elim c.match-plan.branch [
  | in-Standard+in_ok-list-in-Standard w ↦
      ap (λ own. g.F.Folder.held own spot) w.folder-is ∙ w.list.ensures.others spot (λ is. none (subst (λ own. IsOutputOf own spot) (sym w.in-Standard.is) is))
  | in-List+in_ok-list-in-List w ↦
      ap (λ own. g.F.Folder.held own spot) w.folder-is ∙ w.list-in-List.ensures.others spot (λ is. none (subst (λ own. IsOutputOf own spot) (sym w.in-List.is) is))
  | in-Adjust+in_ok-adjust-in-Adjust w ↦
      ap (λ own. g.F.Folder.held own spot) w.folder-is ∙ w.adjust.ensures.others spot (λ is. none (subst (λ own. IsOutputOf own spot) (sym w.in-Adjust.is) is))
  | in-Review+in_ok-review-in-Review w ↦
      ap (λ own. g.F.Folder.held own spot) w.folder-is ∙ w.review.ensures.others spot (λ is. none (subst (λ own. IsOutputOf own spot) (sym w.in-Review.is) is))
  | in-Explain+in_ok-explain-in-Explain w ↦
      ap (λ own. g.F.Folder.held own spot) w.folder-is ∙ w.explain.ensures.others spot (λ is. none (subst (λ own. IsOutputOf own spot) (sym w.in-Explain.is) is))
  | in-Page+in_ok-page-in-Page w ↦
      ap (λ own. g.F.Folder.held own spot) w.folder-is ∙ w.page.ensures.others spot (λ is. none (subst (λ own. IsOutputOf own spot) (sym w.in-Page.is) is))
  | in-Book+in_ok-make_book-in-Book w ↦
      ap (λ own. g.F.Folder.held own spot) w.folder-is ∙ w.make_book.ensures.others spot (λ is. none (subst (λ own. IsOutputOf own spot) (sym w.in-Book.is) is))
  | in-BookOfHeights+in_ok-make_book-in-BookOfHeights w ↦
      ap (λ own. g.F.Folder.held own spot) w.folder-is ∙ w.make_book-in-BookOfHeights.ensures.others spot (λ is. none (subst (λ own. IsOutputOf own spot) (sym w.in-BookOfHeights.is) is))
  | in-Mend+in_ok-mend-in-Mend w ↦
      ap (λ own. g.F.Folder.held own spot) w.folder-is ∙ w.mend.ensures.others spot (λ is. none (subst (λ own. IsOutputOf own spot) (sym w.in-Mend.is) is))
]

pub returns-in_err-adjust-in-Adjust-clause-others : goal.returns-in_err-adjust-in-Adjust-clause-others
returns-in_err-adjust-in-Adjust-clause-others g c = λ spot none. c.adjust.ensures.others spot (λ is. none (subst (λ own. IsOutputOf own spot) (sym c.in-Adjust.is) is))

pub returns-in_err-review-in-Review-clause-others : goal.returns-in_err-review-in-Review-clause-others
returns-in_err-review-in-Review-clause-others g c = λ spot none. c.review.ensures.others spot (λ is. none (subst (λ own. IsOutputOf own spot) (sym c.in-Review.is) is))

pub returns-in_err-page-in-Page-clause-others : goal.returns-in_err-page-in-Page-clause-others
returns-in_err-page-in-Page-clause-others g c = λ spot none. c.page.ensures.others spot (λ is. none (subst (λ own. IsOutputOf own spot) (sym c.in-Page.is) is))

pub returns-in_err-explain-in-Explain-clause-left : goal.returns-in_err-explain-in-Explain-clause-left
returns-in_err-explain-in-Explain-clause-left g c =
    let is : c.from_residual-in_err-explain-in-Explain.result ≡ Err c.in_err-explain-in-Explain.field-0.0 = search rules in
    rw is (λ write.
    subst (λ own. IsCut g.F.Folder.tells (g.F.Folder.held c.args.folder.now) (g.F.Folder.held c.explain.new.folder) own c.in_err-explain-in-Explain.field-0.0) (sym c.in-Explain.is)
    (rw c.form_of.ensures at c.in_err-explain-in-Explain.ensures.left write))

pub returns-in_err-page-in-Page-clause-refused : goal.returns-in_err-page-in-Page-clause-refused
returns-in_err-page-in-Page-clause-refused g c =
    let is : c.from_residual-in_err-page-in-Page.result ≡ Err c.in_err-page-in-Page.field-0.0 = search rules in
    rw is (subst (λ own. IsRefused g.F.Folder.tells (g.F.Folder.failing c.args.folder.now) (g.F.Folder.held c.args.folder.now) (g.F.Folder.held c.page.new.folder) own c.in_err-page-in-Page.field-0.0) (sym c.in-Page.is)
    c.in_err-page-in-Page.ensures.refused)
