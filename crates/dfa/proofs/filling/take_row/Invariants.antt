use Rattle.std.proofs.Common.{◌≡◌, length}
use Rattle.register.specs.Keys.{laid_in}
use Rattle.register.specs.Held.{held, places}
use Rattle.dfa.specs.Known.{lettered}
use Rattle.dfa.proofs.Adding.{Cells}
use Rattle.dfa.proofs.filling.take_row.Given as goal

-- the letters before `letter` are taken
abbrev pub invariant-loop-letter : goal.invariant-loop-letter
invariant-loop-letter g l = record {
  lent : l.known.keys.ghost_name ≡ l.initial.known.keys.ghost_name;
  long : length (places l.known) ≡ length (places l.initial.known);
  rows : held l.known ≡ lettered (g.R.Rule.meaning l.rule) l.table (held l.initial.known) l.letter;
  over : places l.known ≡ laid_in (places l.initial.known) (held l.known);
  taken : Cells (g.R.Rule.meaning l.rule) l.table (held l.initial.known) l.letter l.cells;
}
