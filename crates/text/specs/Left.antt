-- What an iterator over a text has still to give. Assumes nothing.
use Rattle.std.specs.Prelude.{ℕ, List, [], Some, None, Option}
use Rattle.std.specs.Borrow.{Bor}
use Rattle.text.specs.Parts.{parts}
use Rattle.text.specs.Lines.{Line, as_lines}
use Rattle.text.specs.declared.parts.Parts.{Parts}
use Rattle.text.specs.declared.lines.Line.{Line as Held}
use Rattle.text.specs.declared.lines.Lines.{Lines}

abbrev pub parts_of : ℕ → Option (Bor (List ℕ)) → List (List ℕ)
parts_of x None = []
parts_of x (Some rest) = parts x rest.now

abbrev pub parts_left : Parts → List (List ℕ)
parts_left p = parts_of p.separator p.rest

-- the line that a line of the code holds
abbrev pub line_of : Held → Line
line_of l = record { text = l.text.now; ended = l.ended }

abbrev pub lines_left : Lines → List Line
lines_left l = as_lines (parts_left l.parts)
