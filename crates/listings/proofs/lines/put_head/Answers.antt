use Rattle.std.proofs.Common.{ℕ, List, [], ◌∷◌, ◌++◌, length, Some, codes, decimal, subst}
use Rattle.text.specs.Parts.{tab, line_feed}
use Rattle.listings.specs.Placed.{Placed}
use Rattle.listings.proofs.Placing.{placed_more, goes_on}
use Rattle.listings.proofs.Spelling.{head_text}
use Rattle.listings.proofs.lines.put_head.Goals as goal

pub returns-clause-placed : goal.returns-clause-placed
returns-clause-placed c =
    let u = c.args.writer.now in
    let s = c.args.shelf.now in
    let field = λ (k : ℕ). tab ∷ decimal k in
    let word = codes "shelf" in
    let n = field (length s.rows.now) in
    let m = field s.letters in
    let e = c.in_ok-put.ensures in
    let f = c.in_ok-put_field.ensures in
    let g = c.in_ok-put_field-2.ensures in
    let h = c.put-2.ensures in
    let rows = subst (λ xs. Placed c.put.new.self (field (length xs)) (Some tt) c.put_field.new.self) c.rows.ensures f.placed in
    let letters = subst (λ k. Placed c.put_field.new.self (field k) (Some tt) c.put_field-2.new.self) c.letters.ensures g.placed in
    let two = placed_more u c.put.new.self c.put_field.new.self word n (Some tt) e.continues e.placed rows in
    let past = goes_on e.continues f.continues in
    let three = placed_more u c.put_field.new.self c.put_field-2.new.self (word ++ n) m (Some tt) past two letters in
    let four = placed_more u c.put_field-2.new.self c.put-2.new.self ((word ++ n) ++ m) (line_feed ∷ []) c.put-2.result (goes_on past g.continues) three h.placed in
    subst (λ (t : List ℕ). Placed u t c.put-2.result c.put-2.new.self) (head_text (length s.rows.now) s.letters) four
