use Rattle.std.proofs.Common.{ℕ, ◌∷◌, decimal, ap}
use Rattle.text.specs.Parts.{tab}
use Rattle.listings.specs.Listing.{cell_of}
use Rattle.listings.proofs.Placing.{placed_next, placed_over, goes_on}
use Rattle.listings.proofs.lines.put_cells.Goals as goal

pub returns-in_err-put_field-clause-placed : goal.returns-in_err-put_field-clause-placed
returns-in_err-put_field-clause-placed c =
    let inv = c.loop-letter.invariant in
    placed_over c.args.writer.now c.loop-letter.writer c.put_field.new.self c.loop-letter.letter c.args.letters (λ (a : ℕ). tab ∷ decimal (cell_of c.args.row.now a)) (tab ∷ decimal c.cell.result) c.from_residual.result
    c.loop-letter-test.true (ap (λ x. tab ∷ decimal x) c.cell.ensures) c.from_residual.ensures inv.continues inv.placed c.in_err-put_field.ensures.placed

pub loop-letter-preserved : goal.loop-letter-preserved
loop-letter-preserved c =
    let inv = c.loop-letter.invariant in
    let e = c.in_ok-put_field.ensures in
    record {
      placed = placed_next c.args.writer.now c.loop-letter.writer c.put_field.new.self c.loop-letter.letter (λ (a : ℕ). tab ∷ decimal (cell_of c.args.row.now a)) (tab ∷ decimal c.cell.result) inv.continues
          (ap (λ x. tab ∷ decimal x) c.cell.ensures) inv.placed e.placed;
      continues = goes_on inv.continues e.continues;
    }
