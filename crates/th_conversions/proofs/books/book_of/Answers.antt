use Rattle.std.proofs.Common.{◌≡◌, ◌+◌, ◌<◌, ◌∷◌, ◌++◌, ℕ, Vec, true, false, drop, length, ap, ◌∙◌, arith}
use Rattle.std.proofs.lemmas.Bool.Decides.{nat_tests}
use Rattle.std.specs.declared.alloc.Global.{Global}
use Rattle.gsi_block.specs.Writing.{block_text}
use Rattle.th_columns.proofs.RowLemmas.{drop-first}
use Rattle.th_conversions.specs.Books.{setup_block, stands_at}
use Rattle.th_conversions.proofs.BookLemmas.{begins, stays}
use Rattle.th_conversions.proofs.books.book_of.Goals as goal
use Rattle.th_conversions.proofs.books.book_of.Goals.{then-not-stands_at+in_ok-write_setup, else-not-stands_at}

pub loop-row-preserved : goal.loop-row-preserved
loop-row-preserved c =
    let rows = c.args.rows.now in
    let i = c.loop-row.row-index in
    let row = c.row-item.result in
    let within : i < length rows = omega arith in
    let first : drop i rows ≡ row ∷ drop (i + 1) rows = drop-first rows i row within c.row-item.is in
    elim c.if-not-stands_at.branch [
      | then-not-stands_at+in_ok-write_setup w ↦
          let at : stands_at c.loop-row.running row.from ≡ false = grind (arith, nat_tests, w.if-not-stands_at.true, c.stands_at.ensures) in
          let begun : c.if-not-stands_at.text.items ≡ c.loop-row.text.items ++ block_text (setup_block c.loop-row.number row.from) = ap (λ (text : Vec ℕ Global). text.items) w.text-is ∙ w.in_ok-write_setup.ensures in
          record {
            written = begins c.loop-row.running c.if-not-stands_at.running c.loop-row.number c.if-not-stands_at.number (c.if-not-stands_at.number + 1) row (drop (i + 1) rows) (drop i rows) c.loop-row.text.items c.if-not-stands_at.text.items c.write_sight.new.text.items _
                first at w.running-is w.number-is (omega (arith, w.number-is)) begun c.in_ok-write_sight.ensures c.loop-row.invariant.written;
            small = omega (arith, w.number-is, c.loop-row.invariant.small);
          }
      | else-not-stands_at w ↦
          let at : stands_at c.loop-row.running row.from ≡ true = grind (arith, nat_tests, w.if-not-stands_at.false, c.stands_at.ensures) in
          record {
            written = stays c.loop-row.running c.if-not-stands_at.running c.loop-row.number c.if-not-stands_at.number row (drop (i + 1) rows) (drop i rows) c.loop-row.text.items c.if-not-stands_at.text.items c.write_sight.new.text.items _
                first at w.running-is w.number-is (ap (λ (text : Vec ℕ Global). text.items) w.text-is) c.in_ok-write_sight.ensures c.loop-row.invariant.written;
            small = omega (arith, w.number-is, c.loop-row.invariant.small);
          }
    ]
