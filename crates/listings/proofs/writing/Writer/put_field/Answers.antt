use Rattle.std.proofs.Common.{is_some, ap, ◌∙◌, arith}
use Rattle.std.proofs.lemmas.Bool.{cond-true}
use Rattle.listings.proofs.Spelling.{few_digits}
use Rattle.listings.proofs.writing.Writer.put_field.Goals as goal

pub unwrap-digits-requires : goal.unwrap-digits-requires
unwrap-digits-requires c =
    let w = c.write_number.ensures in
    ap is_some (w.2.answer ∙ cond-true _ _ _ (few_digits w.0 (omega (arith, w.1))))
