use Rattle.std.proofs.Common.{length, arith}
use Rattle.std.specs.List.{range_with_len, flat_map}
use Rattle.std.proofs.lemmas.List.{length-append}
use Rattle.dfa.specs.Asked.{row_at}
use Rattle.listings.specs.Listing.{line, head_fields, row_fields, listing}
use Rattle.listings.specs.Listed.{shelf_listing}
use Rattle.listings.proofs.Placing.{placed_more, placed_past, stays}
use Rattle.listings.proofs.lines.put_listing.Goals as goal

pub returns-in_err-put_head-clause-placed : goal.returns-in_err-put_head-clause-placed
unfolding listing
returns-in_err-put_head-clause-placed c =
    let s = c.args.shelf.now in
    let n = length s.rows.now in
    let head = line (head_fields n s.letters) in
    let rest = flat_map (λ i. line (row_fields s.letters i (row_at s.rows.now i))) (range_with_len 0 n) in
    let w = c.args.writer.now in
    placed_past w w c.put_head.new.writer head (shelf_listing s) c.from_residual.result 0 c.from_residual.ensures (stays w) (omega arith) c.in_err-put_head.ensures.placed (omega (arith, length-append head rest))

pub returns-clause-placed : goal.returns-clause-placed
unfolding listing
returns-clause-placed c =
    let s = c.args.shelf.now in
    let n = length s.rows.now in
    let e = c.in_ok-put_head.ensures in
    placed_more c.args.writer.now c.put_head.new.writer c.put_rows.new.writer (line (head_fields n s.letters)) (flat_map (λ i. line (row_fields s.letters i (row_at s.rows.now i))) (range_with_len 0 n)) c.put_rows.result e.continues
    e.placed c.put_rows.ensures.placed
