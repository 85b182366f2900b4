use Rattle.std.proofs.Common.{[], length, get_or}
use Rattle.dfa.specs.Rows.{row_of}
use Rattle.dfa.specs.Asked.{row_at}
use Rattle.listings.specs.Listing.{line, row_fields}
use Rattle.listings.proofs.Placing.{placed_next, placed_over, goes_on}
use Rattle.listings.proofs.Soundly.{line_read}
use Rattle.listings.proofs.lines.put_rows.Goals as goal

pub returns-in_err-put_row-clause-placed : goal.returns-in_err-put_row-clause-placed
returns-in_err-put_row-clause-placed c =
    let s = c.args.shelf.now in
    let ds = s.rows.now in
    let i = c.loop-number.number in
    let xs = c.rows-row-items.result.now in
    let inv = c.loop-number.invariant in
    let read = line_read s.letters c.letters.result i ds xs c.letters.ensures c.rows-row-items.ensures c.loop-number-test.true in
    placed_over c.args.writer.now c.loop-number.writer c.put_row.new.writer i (length ds) (λ j. line (row_fields s.letters j (row_at ds j))) (line (row_fields c.letters.result i (get_or xs i (row_of [] 0)))) c.from_residual.result
    read.0 read.1 c.from_residual.ensures inv.continues inv.placed c.in_err-put_row.ensures.placed

pub loop-number-preserved : goal.loop-number-preserved
loop-number-preserved c =
    let s = c.args.shelf.now in
    let ds = s.rows.now in
    let i = c.loop-number.number in
    let xs = c.rows-row-items.result.now in
    let inv = c.loop-number.invariant in
    let read = line_read s.letters c.letters.result i ds xs c.letters.ensures c.rows-row-items.ensures c.loop-number-test.true in
    let e = c.in_ok-put_row.ensures in
    record {
      placed = placed_next c.args.writer.now c.loop-number.writer c.put_row.new.writer i (λ j. line (row_fields s.letters j (row_at ds j))) (line (row_fields c.letters.result i (get_or xs i (row_of [] 0)))) inv.continues read.1
          inv.placed e.placed;
      continues = goes_on inv.continues e.continues;
    }
