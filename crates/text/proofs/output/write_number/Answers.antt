use Rattle.std.proofs.Common.{◌≡◌, ℕ, true, leb, List, length, take, drop, Some, decimal, sym, ap, ◌∙◌, arith}
use Rattle.std.proofs.lemmas.List.{take_at}
use Rattle.std.proofs.lemmas.Bool.{le-leb}
use Rattle.text.specs.Numbers.{number}
use Rattle.text.proofs.Reading.{read_back}
use Rattle.text.proofs.output.write_number.Goals as goal

pub returns : goal.returns
returns g c =
    let n = c.into-n.result in
    let ds = decimal n in
    let out = c.args.out.now in
    let e = c.put_digits.ensures.after in
    let fits : leb (length ds) (length out) ≡ true = le-leb _ _ (omega arith) in (
      n,
      c.into-n.ensures,
      record {
        answer = rw fits (ap Some c.put_digits.ensures.count);
        after = rw fits e;
        read_back = λ k most r l.
            let at : length ds ≡ k = sym c.put_digits.ensures.count ∙ cc in
            ap (λ (t : List ℕ). number most (take k t)) e
            ∙ ap (number most) (take_at ds (drop (length ds) out) k at)
            ∙ read_back most n (omega arith) l;
      },
    )
