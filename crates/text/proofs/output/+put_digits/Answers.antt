use Rattle.std.proofs.Common.{ℕ, ◌+◌, ◌/◌, ◌%◌, ◌<◌, ◌≤◌, ◌++◌, length, drop, set, decimal, sym, ap, ◌∙◌, arith}
use Rattle.std.proofs.lemmas.Fmt.{decimal_digit, decimal_step, length-decimal-le}
use Rattle.text.proofs.Writing.{one_digit, one_more, put_one, put_more}
use Rattle.text.proofs.output.+put_digits.Goals as goal

pub bounds-out-0 : goal.bounds-out-0
bounds-out-0 t c = omega (arith, one_digit c.args.n c.if-n-lt10.true)

pub returns-then-n-lt10 : goal.returns-then-n-lt10
returns-then-n-lt10 t c =
    let one = one_digit c.args.n c.if-n-lt10.true in
    let fits : 1 ≤ length c.args.out.now = omega arith in
    record {
      count = one;
      after = put_one (48 + c.args.n) c.args.out.now fits ∙ (λ i. sym (decimal_digit c.args.n c.if-n-lt10.true) i ++ drop (one i) c.args.out.now);
    }

pub put_digits-at-requires : goal.put_digits-at-requires
put_digits-at-requires t c =
    let more = one_more c.args.n c.if-n-lt10.false (omega arith) in
    (omega arith, omega arith)

pub bounds-out-at : goal.bounds-out-at
bounds-out-at t c =
    let more = one_more c.args.n c.if-n-lt10.false (omega arith) in
    omega arith

pub overflow_add-result : goal.overflow_add-result
overflow_add-result t c = omega (arith, length-decimal-le 20 (c.args.n / 10) (omega arith) (omega arith) (omega arith))

pub returns : goal.returns
returns t c =
    let out = c.args.out.now in
    let p = decimal (c.args.n / 10) in
    let x = 48 + c.args.n % 10 in
    let at = c.put_digits-at.ensures.count in
    let more = one_more c.args.n c.if-n-lt10.false (omega arith) in
    let room : length p < length out = omega arith in
    record {
      count = ap (λ (k : ℕ). k + 1) at ∙ more;
      after =
          (λ i. set (c.put_digits-at.ensures.after i) (at i) x)
          ∙ put_more p out x room
          ∙ (λ i. sym (decimal_step c.args.n c.if-n-lt10.false (omega arith)) i ++ drop (more i) out);
    }
