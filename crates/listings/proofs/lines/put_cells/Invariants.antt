use Rattle.std.proofs.Common.{◌∷◌, Some, decimal}
use Rattle.std.specs.List.{range_with_len, flat_map}
use Rattle.text.specs.Parts.{tab}
use Rattle.listings.specs.Listing.{cell_of}
use Rattle.listings.specs.Placed.{Placed, Continues}
use Rattle.listings.proofs.lines.put_cells.Given as goal

-- the cells so far
abbrev pub invariant-loop-letter : goal.invariant-loop-letter
invariant-loop-letter l = record {
  placed : Placed l.initial.writer (flat_map (λ a. tab ∷ decimal (cell_of l.row a)) (range_with_len 0 l.letter)) (Some tt) l.writer;
  continues : Continues l.initial.writer l.writer;
}
