use Rattle.std.proofs.Common.{◌≡◌, ℕ, Bool, not, eqb, List, length, is_some, Some, None, Option, sym, ◌∙◌, Bor}
use Rattle.std.proofs.lemmas.Bool.{not-true, not-false}
use Rattle.text.specs.Left.{parts_of}
use Rattle.text.proofs.Parting.{some_parts}
use Rattle.text.proofs.parts.Parts.is_done.Goals as goal

done : (x : ℕ) (rest : Option (Bor (List ℕ))) (r : Bool) → is_some rest ≡ not r → r ≡ eqb (length (parts_of x rest)) 0
done x None r e = not-false r (sym e)
done x (Some rest) r e = not-true r (sym e) ∙ sym (some_parts x rest.now)

pub returns : goal.returns
returns c = done c.args.self.now.separator c.args.self.now.rest c.is_none.result c.is_none.ensures
