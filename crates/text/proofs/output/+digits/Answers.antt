use Rattle.std.proofs.Common.{ℕ, ◌+◌, ◌/◌, ap, ◌∙◌, arith}
use Rattle.std.proofs.lemmas.Fmt.{length-decimal-le}
use Rattle.text.proofs.Writing.{one_digit, one_more}
use Rattle.text.proofs.output.+digits.Goals as goal

pub overflow_add-result : goal.overflow_add-result
overflow_add-result t c = omega (arith, length-decimal-le 20 (c.args.n / 10) (omega arith) (omega arith) (omega arith))

pub returns-then-n-lt10 : goal.returns-then-n-lt10
returns-then-n-lt10 t c = one_digit c.args.n c.if-n-lt10.true

pub returns-else-n-lt10 : goal.returns-else-n-lt10
returns-else-n-lt10 t c = ap (λ (k : ℕ). k + 1) c.digits.ensures ∙ one_more c.args.n c.if-n-lt10.false (omega arith)
