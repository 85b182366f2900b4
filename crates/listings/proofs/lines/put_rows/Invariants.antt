use Rattle.std.specs.List.{range_with_len, flat_map}
use Rattle.std.proofs.Common.{Some}
use Rattle.dfa.specs.Asked.{row_at}
use Rattle.listings.specs.Listing.{line, row_fields}
use Rattle.listings.specs.Placed.{Placed, Continues}
use Rattle.listings.proofs.lines.put_rows.Given as goal

-- the rows so far
abbrev pub invariant-loop-number : goal.invariant-loop-number
invariant-loop-number l = record {
  placed : Placed l.initial.writer (flat_map (λ i. line (row_fields l.shelf.letters i (row_at l.shelf.rows.now i))) (range_with_len 0 l.number)) (Some tt) l.writer;
  continues : Continues l.initial.writer l.writer;
}
