use Rattle.folding.proofs.Foldings.{folded_lists}
use Rattle.folding.proofs.fold_sheet.Goals as goal

pub returns : goal.returns
returns c = record {
  folded = c.fold.ensures;
  law = folded_lists c.args.sheet.now (record { tables = c.args.tables.now; dfa = c.args.dfa.now; out = c.args.out.now })
      (record { answer = c.fold.result; left = record { tables = c.fold.new.tables; dfa = c.fold.new.dfa; out = c.fold.new.out } }) c.fold.ensures;
}
