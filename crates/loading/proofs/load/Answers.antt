use Rattle.std.proofs.Common.{◌≡◌, ℕ, ◌+◌, false, List, [], ◌∷◌, ◌++◌, length, inl, inr, None, Option, unwrap_or, sym, ap, ◌∙◌, subst, append_assoc, arith}
use Rattle.std.proofs.lemmas.List.{length_push, append-nil}
use Rattle.std.proofs.lemmas.Result.{err_from_is_err_and}
use Rattle.text.specs.Lines.{Line, lines}
use Rattle.text.specs.Left.{line_of, lines_left}
use Rattle.text.proofs.Lining.{few_lines}
use Rattle.spelling.specs.Said.{letters}
use Rattle.spelling.specs.Conditions.{first_met, word_conditions, refused, refused_from}
use Rattle.spelling.proofs.Spelled.{lawful_lines}
use Rattle.spelling.proofs.LoadLines.{later_words, later_step, begun, line_passed, line_refused, ended}
use Rattle.loading.specs.Fields.{Says}
use Rattle.loading.specs.Telling.{told_on}
use Rattle.loading.proofs.load.Goals as goal
use Rattle.loading.proofs.load.Goals.{In-Some, In_ok-entry, In-None}

pub loop-number-init : goal.loop-number-init
loop-number-init c =
    let sheet = c.args.sheet.now in
    let h = line_of c.in_ok-line.line in
    let left = lines_left c.next.new.self in
    let H = c.in_ok-header.ensures in
    let D = c.new-draft.ensures in
    let all : lines sheet ≡ h ∷ left = sym c.new-lines.ensures.lines ∙ rw c.in_ok-line.ensures.ok_part at c.next.ensures.steps in
    rw (c.into_iter-number-iterator.ensures.into_iter_gives, c.zip-number-items.ensures.first, c.zip-number-items.ensures.second) (
      (tt, tt),
      tt,
      record {
        head = h;
        done = [];
        drawn = D.drawn h H.1;
        counted = D.lines;
        all = all;
        on = begun sheet h left c.if-sheet-gt-LONGEST.false all ∙ line_passed [] left h H.0;
        short = omega (arith, D.lines, ap length all, few_lines sheet, c.if-sheet-gt-LONGEST.false);
      },
      omega arith,
    )

-- a line in the loop: the sheet is refused by it, or by one after it
reads : (c : In-Some) → (refused c.args.sheet.now ≡ refused_from (c.loop-number.invariant.2.head ∷ c.loop-number.invariant.2.done) (line_of c.in-Some.line ∷ lines_left c.next-in-loop-number.new.self.b))
    × (c.in-Some.number ≡ length (c.loop-number.invariant.2.head ∷ c.loop-number.invariant.2.done) + 1)
reads c =
    let I = c.loop-number.invariant in
    let w = c.in-Some.ensures.steps in
    (I.2.on ∙ ap (refused_from (I.2.head ∷ I.2.done)) w.1, omega (arith, w.0.0, I.3, I.2.counted))

letters_are : (c : In-Some) → c.loop-number.draft.header.letters ≡ letters (c.loop-number.invariant.2.head ∷ c.loop-number.invariant.2.done)
letters_are c = sym (ap (λ (o : Option ℕ). unwrap_or o 0) c.loop-number.invariant.2.drawn.heads.letters)

pub returns-in_err-entry : goal.returns-in_err-entry
returns-in_err-entry c =
    let p = err_from_is_err_and c.from_residual-in_err-entry.result c.from_residual-in_err-entry.ensures.1 in
    let I = c.loop-number.invariant.2 in
    let l = line_of c.in-Some.line in
    let e = c.in_err-entry.field-0.0 in
    let r = reads (goal.at.returns-in_err-entry c).In-Some in
    let t : told_on c.in-Some.number e (first_met (word_conditions (letters (I.head ∷ I.done)) l)) =
    subst (λ (m : ℕ). told_on c.in-Some.number e (first_met (word_conditions m l))) (letters_are (goal.at.returns-in_err-entry c).In-Some) c.in_err-entry.ensures in
    rw (p.1, p.2)
    (line_refused c.args.sheet.now (I.head ∷ I.done) (lines_left c.next-in-loop-number.new.self.b) l e r.0 (t.0 ∙ r.1)
    (later_words I.head I.done l (e.fault, e.field) t.1))

-- the words of a line in the loop
words : (c : In_ok-entry) → (first_met (word_conditions (letters (c.loop-number.invariant.2.head ∷ c.loop-number.invariant.2.done)) (line_of c.in-Some.line)) ≡ None)
    × Says (letters (c.loop-number.invariant.2.head ∷ c.loop-number.invariant.2.done)) (line_of c.in-Some.line) c.in_ok-entry.entry
words c =
    subst (λ (m : ℕ). (first_met (word_conditions m (line_of c.in-Some.line)) ≡ None) × Says m (line_of c.in-Some.line) c.in_ok-entry.entry)
    (sym (ap (λ (o : Option ℕ). unwrap_or o 0) c.loop-number.invariant.2.drawn.heads.letters)) c.in_ok-entry.ensures

pub loop-number-preserved : goal.loop-number-preserved
loop-number-preserved c =
    let I = c.loop-number.invariant in
    let G = I.2 in
    let l = line_of c.in-Some.line in
    let left = lines_left c.next-in-loop-number.new.self.b in
    let g = c.in-Some.ensures.steps in
    let r = reads (goal.at.loop-number-preserved c).In-Some in
    let w = words (goal.at.loop-number-preserved c).In_ok-entry in
    let o = c.in_ok-enter.ensures G.head G.done G.drawn w.1 in (
      (tt, tt),
      tt,
      record {
        head = G.head;
        done = G.done ++ l ∷ [];
        drawn = o.1;
        counted = omega (arith, o.2, r.1, length_push G.done l);
        all = G.all ∙ ap (λ (ls : List Line). G.head ∷ (G.done ++ ls)) g.1 ∙ ap (λ (ls : List Line). G.head ∷ ls) (sym (append_assoc G.done (l ∷ []) left));
        on = r.0 ∙ line_passed (G.head ∷ G.done) left l (later_step G.head G.done l w.0 ∙ o.0);
        short = omega (arith, o.2, g.0.0, I.3, ap length g.1, G.short);
      },
      omega (arith, o.2, g.0.1),
    )

pub returns-in_err-enter : goal.returns-in_err-enter
returns-in_err-enter c =
    let p = err_from_is_err_and c.from_residual-in_err-enter.result c.from_residual-in_err-enter.ensures.1 in
    let I = c.loop-number.invariant.2 in
    let l = line_of c.in-Some.line in
    let e = c.in_err-enter.field-0.0 in
    let r = reads (goal.at.returns-in_err-enter c).In-Some in
    let w = words (goal.at.returns-in_err-enter c).In_ok-entry in
    let t = c.in_err-enter.ensures I.head I.done I.drawn w.1 in
    rw (p.1, p.2)
    (line_refused c.args.sheet.now (I.head ∷ I.done) (lines_left c.next-in-loop-number.new.self.b) l e r.0 (t.0 ∙ r.1)
    (later_step I.head I.done l w.0 ∙ t.1))

-- after the last line: what the sheet is refused by, and its lines
over : (c : In-None) → (refused c.args.sheet.now ≡ refused_from (c.loop-number.invariant.2.head ∷ c.loop-number.invariant.2.done) []) × (lines c.args.sheet.now ≡ c.loop-number.invariant.2.head ∷ c.loop-number.invariant.2.done)
over c =
    let I = c.loop-number.invariant in
    let G = I.2 in
    let e : lines_left c.loop-number.number-iterator.b ≡ [] = elim c.in-None.ensures.steps [ inl u ↦ absurd (omega (arith, u.1.0, I.3, G.short)) | inr u ↦ u.1.0 ] in (
      G.on ∙ ap (refused_from (G.head ∷ G.done)) e,
      G.all ∙ ap (λ (ls : List Line). G.head ∷ (G.done ++ ls)) e ∙ ap (λ (ls : List Line). G.head ∷ ls) (append-nil G.done),
    )

pub finish-requires : goal.finish-requires
finish-requires c =
    let I = c.loop-number.invariant.2 in
    let o = over (goal.at.finish-requires c).In-None in
    let short = c.if-sheet-gt-LONGEST.false in
    record {
      head = I.head;
      rest = I.done;
      drawn = I.drawn;
      lawful = λ z. lawful_lines c.args.sheet.now I.head I.done o.1 short (sym (begun c.args.sheet.now I.head I.done short o.1) ∙ o.0 ∙ ended (I.head ∷ I.done) false z);
      short = omega (arith, I.short);
    }
