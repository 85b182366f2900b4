use Rattle.std.proofs.Common.{◌≡◌, ℕ, ◌<◌, ◌≤◌, length, get_or, drop}
use Rattle.register.specs.Keys.{laid_in}
use Rattle.register.specs.Held.{held, places}
use Rattle.dfa.specs.Rows.{blank_row}
use Rattle.dfa.specs.Known.{known}
use Rattle.dfa.proofs.Finishing.{then_row}
use Rattle.dfa.proofs.filling.take_rows.Given as goal

-- the rows before `at` are taken
abbrev pub invariant-loop-at : goal.invariant-loop-at
invariant-loop-at g l = record {
  lent : l.known.keys.ghost_name ≡ l.initial.known.keys.ghost_name;
  long : length (places l.known) ≡ length l.initial.dfa;
  rows : held l.known ≡ known (g.R.Rule.meaning l.rule) l.at;
  over : places l.known ≡ laid_in (places l.initial.known) (held l.known);
  reached : l.at ≤ length (held l.known);
  written : (j : ℕ) → j < l.at → get_or l.dfa j blank_row ≡ then_row (g.R.Rule.meaning l.rule) j;
  others : drop l.at l.dfa ≡ drop l.at l.initial.dfa;
  few : length l.initial.dfa ≤ 4096;
}
