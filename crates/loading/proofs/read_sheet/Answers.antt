use Rattle.std.proofs.Common.{sym, subst}
use Rattle.spelling.specs.Judged.{FirstMet, Spelled}
use Rattle.spelling.proofs.First.{first_is_met}
use Rattle.spelling.proofs.Spelled.{read_is_spelled}
use Rattle.loading.proofs.read_sheet.Goals as goal

pub returns : goal.returns
returns c =
    let sheet = c.args.sheet.now in
    let e = c.read.ensures in
    record {
      answer = e;
      spelled = subst (Spelled sheet) (sym e) (read_is_spelled sheet);
      first = subst (FirstMet sheet) (sym e) (first_is_met sheet);
    }
