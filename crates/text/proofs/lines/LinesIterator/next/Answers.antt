use Rattle.std.proofs.Common.{sym, ◌∙◌, rules}
use Rattle.std.proofs.lemmas.Bool.{eqb-true}
use Rattle.text.specs.Left.{parts_left}
use Rattle.text.proofs.Lining.{no_line}
use Rattle.text.proofs.lines.LinesIterator.next.Goals as goal
use Rattle.std.proofs.iter.Next.{firm}

pub returns-then-is_empty : goal.returns-then-is_empty
returns-then-is_empty c =
    let done = eqb-true _ 0 (sym c.is_done.ensures ∙ c.if-not-is_done.false) in
    let empty = eqb-true _ 0 (sym c.is_empty.ensures ∙ c.if-is_empty.true) in
    record {
      steps = no_line (parts_left c.args.self.now.parts) (parts_left c.next.new.self) c.in_ok-text.text.now c.in_ok-text.ensures.steps empty done;
      goes = firm (tt) (λ h. search rules);
    }
