use Rattle.std.proofs.Common.{List, sym, ap, subst}
use Rattle.text.specs.Lines.{Line, as_lines, Lined}
use Rattle.text.proofs.Lining.{lined}
use Rattle.text.proofs.lines.Lines.of.Goals as goal

pub returns : goal.returns
returns c text h =
    let e = ap as_lines h in
    (e, subst (λ (ls : List Line). Lined text ls) (sym e) (lined text))
