use Rattle.std.proofs.Common.{◌≡◌, ◌+◌, ◌<◌, ◌≤◌, map, length, sym, ap, ◌∙◌, subst, arith}
use Rattle.register.specs.Keys.{laid_in}
use Rattle.register.specs.Held.{held, places}
use Rattle.std.specs.List.{range_with_len}
use Rattle.dfa.specs.Known.{lettered, cell}
use Rattle.dfa.specs.Filled.{Grown}
use Rattle.dfa.proofs.Adding.{laid_again, laid_length, one_cell, all_cells, row_full, row_added, row_longer}
use Rattle.dfa.proofs.filling.take_row.Goals as goal

pub returns-in_err-cells-clause-grown : goal.returns-in_err-cells-clause-grown
returns-in_err-cells-clause-grown g c =
    let A = g.R.Rule.meaning c.args.rule.now in
    let r = c.loop-letter.known in
    let inv = c.loop-letter.invariant in
    let l : c.loop-letter.letter < A.letters = omega arith in
    let f = row_full A c.args.table.now (held c.args.known.now) (length (places r)) c.loop-letter.letter (held r) c.extended_table.result c.extended_table.ensures inv.rows A.letters l (sym c.in_err-cells.ensures.added.place) in
    subst (λ o. Grown A c.args.table.now (places c.args.known.now) (held c.args.known.now) o (places c.add.new.self) (held c.add.new.self)) (sym c.from_residual.ensures) (omega (arith, f, inv.long))

pub overflow_cast-cells : goal.overflow_cast-cells
overflow_cast-cells g c =
    let A = g.R.Rule.meaning c.args.rule.now in
    let r = c.loop-letter.known in
    let inv = c.loop-letter.invariant in
    let d = row_added A c.args.table.now (held c.args.known.now) (length (places r)) c.loop-letter.letter (held r) c.extended_table.result c.extended_table.ensures inv.rows c.in_ok-cells.field-0 (sym c.in_ok-cells.ensures.added.place) in
    omega (arith, d.2, d.3, inv.long, c.requires)

pub loop-letter-preserved : goal.loop-letter-preserved
loop-letter-preserved g c =
    let A = g.R.Rule.meaning c.args.rule.now in
    let t = c.args.table.now in
    let xs = held c.args.known.now in
    let a = c.loop-letter.letter in
    let r = c.loop-letter.known in
    let inv = c.loop-letter.invariant in
    let e = c.in_ok-cells.ensures in
    let few = (g.met.R.Rule.lawful c.args.rule.now).letters_high in
    let d = row_added A t xs (length (places r)) a (held r) c.extended_table.result c.extended_table.ensures inv.rows c.in_ok-cells.field-0 (sym e.added.place) in
    let longer = row_longer A t xs (length (places r)) a (held r) c.extended_table.result c.extended_table.ensures inv.rows in
    let keys : held c.add.new.self ≡ lettered A t xs (a + 1) = e.added.keys ∙ d.0 in
    let le : length (held c.add.new.self) ≤ length (places r) = omega (arith, ap length keys, d.3) in
    let more : length (held r) ≤ length (held c.add.new.self) = omega (arith, ap length keys, longer) in
    let over : places c.add.new.self ≡ laid_in (places c.args.known.now) (held c.add.new.self) =
    e.added.others ∙ ap (λ ps. laid_in ps (held c.add.new.self)) inv.over ∙ laid_again (places c.args.known.now) (held r) (held c.add.new.self) more in
    record {
      lent = e.lent ∙ inv.lent;
      long = ap length e.added.others ∙ laid_length (places r) (held c.add.new.self) le ∙ inv.long;
      rows = keys;
      over = over;
      taken = one_cell A t xs a c.loop-letter.cells c.in_ok-cells.field-0 (omega arith) d.1 inv.taken;
    }

pub returns-clause-grown : goal.returns-clause-grown
returns-clause-grown g c =
    let A = g.R.Rule.meaning c.args.rule.now in
    let t = c.args.table.now in
    let xs = held c.args.known.now in
    let a = c.loop-letter.letter in
    let inv = c.loop-letter.invariant in
    let z : a ≡ A.letters = omega arith in
    let rows : held c.loop-letter.known ≡ lettered A t xs A.letters = inv.rows ∙ ap (lettered A t xs) z in
    record { rows = rows; others = inv.over; cells_are = all_cells A t xs a c.loop-letter.cells z inv.taken ∙ ap (λ ys. map (cell A ys t) (range_with_len 0 16)) (sym rows) }
