-- A line's form by its fields, a sheet's by its lines, and both by the rows that are written.
use Rattle.std.proofs.Common.{◌≡◌, ℕ, suc, ◌+◌, ◌≤◌, Bool, true, false, cond, eqb, ltb, List, [], ◌∷◌, ◌++◌, length, get_or, Ok, Err, codes, Result, sym, refl, ap, ◌∙◌, subst, inl, inr, append_assoc, arith}
use Rattle.std.specs.Str.Iter.{LacksByte}
use Rattle.std.specs.List.{join_with_byte, flat_map, AllByRecursion}
use Rattle.std.proofs.lemmas.Slice.Eq.{bytes_eq-Decides}
use Rattle.std.proofs.lemmas.Bool.{and_parts, both_ways, cases_Bool, cond-false, false≢true, eqb-true, le-ltb, ltb-true, ltb-false}
use Rattle.text.specs.Parts.{parts, tab, line_feed}
use Rattle.text.specs.Lines.{Line, lines, line_bytes, Ended, LinedAs}
use Rattle.text.proofs.Parting.{parted, parts_rejoined, lacks_parts, lacks_rejoined}
use Rattle.text.proofs.Lining.{few_lines, lined, lines_cons, lines_joined}
use Rattle.refusals.specs.declared.refusal.Refusal.{Refusal}
use Rattle.sheets.specs.Form.{formed, checked, checked_lines, form_of, longest, too_long, misformed_at}
use Rattle.sheets.specs.WellFormed.{Row, row_fields, row_text, Begins, Rows, word_after, WellFormed, Stops, Refused, by_length, empty, on_line, Judged}

-- a sheet whose first line is formed: the answer is that of the other lines
pub after_first : (sheet : List ℕ) (l : Line) (ls : List Line) → length sheet ≤ longest → lines sheet ≡ l ∷ ls → formed (codes "rule") l ≡ true → (checked (codes "at") 2 ls ≡ form_of sheet) × (1 + length ls ≤ longest)
after_first sheet l ls short e f =
    let few = few_lines sheet in
    let n = ap length e in
    (sym (cond-false _ _ _ (le-ltb longest (length sheet) short) ∙ ap checked_lines e ∙ rw f refl), omega arith)

-- the row of a line that is formed
module _ (word : List ℕ) (l : Line) where
  five_fields : (fs : List (List ℕ)) → eqb (length fs) 5 ≡ true → (r : Row) × (row_fields r ≡ fs)
  five_fields (a ∷ b ∷ c ∷ d ∷ e ∷ []) h = (record { word = a; second = b; third = c; fourth = d; fifth = e }, refl)
  five_fields [] h = absurd (false≢true h)
  five_fields (a ∷ []) h = absurd (false≢true h)
  five_fields (a ∷ b ∷ []) h = absurd (false≢true h)
  five_fields (a ∷ b ∷ c ∷ []) h = absurd (false≢true h)
  five_fields (a ∷ b ∷ c ∷ d ∷ []) h = absurd (false≢true h)
  five_fields (a ∷ b ∷ c ∷ d ∷ e ∷ f ∷ fs) h = absurd (let n = eqb-true (length (a ∷ b ∷ c ∷ d ∷ e ∷ f ∷ fs)) 5 h in omega arith)

  pub row_of : formed word l ≡ true → LacksByte line_feed l.text → (r : Row) × Begins word r × (row_text r ≡ line_bytes l)
  row_of f clear =
      let p = and_parts _ _ f in
      let q = and_parts _ _ p.1 in
      let r = five_fields (parts tab l.text) q.0 in
      let parted_so = parted tab l.text in
      let whole : join_with_byte tab (row_fields r.0) ≡ l.text = ap (join_with_byte tab) r.1 ∙ parted_so.whole in
      let first : get_or (row_fields r.0) 0 [] ≡ word = ap (λ (fs : List (List ℕ)). get_or fs 0 []) r.1 ∙ (bytes_eq-Decides _ word).0 q.1 in (
        r.0,
        record {
          first = first;
          no_tab = subst (AllByRecursion (LacksByte tab)) (sym r.1) parted_so.clear;
          no_feed = lacks_parts line_feed tab (row_fields r.0) (subst (LacksByte line_feed) (sym whole) clear);
        },
        λ i. whole i ++ cond (sym p.0 i) (line_feed ∷ []) [],
      )

-- the line that a row is
abbrev line_of_row : Row → Line
line_of_row r = record { text = join_with_byte tab (row_fields r); ended = true }

row_clear : (word : List ℕ) (r : Row) → Begins word r → LacksByte line_feed (join_with_byte tab (row_fields r))
row_clear word r b = lacks_rejoined line_feed tab (row_fields r) (λ e. omega arith) b.no_feed

row_formed : (word : List ℕ) (r : Row) → Begins word r → formed word (line_of_row r) ≡ true
row_formed word r b =
    let back = parts_rejoined tab (row_fields r) (λ e. let z : ◌≡◌ {A = ℕ} 0 1 = cc in omega arith) b.no_tab in
    rw back ((bytes_eq-Decides r.word word).1 b.first)

-- a text that begins with a row has its line first
row_first : (word : List ℕ) (r : Row) (more : List ℕ) → Begins word r → lines (row_text r ++ more) ≡ line_of_row r ∷ lines more
row_first word r more b = lines_cons (join_with_byte tab (row_fields r)) more (row_clear word r b)

-- rows are checked as good
rows_checked : (word : List ℕ) (n : ℕ) (rs : List Row) → Rows word rs → checked word n (lines (flat_map row_text rs)) ≡ Ok tt
rows_checked word n [] h = refl
rows_checked word n (r ∷ rs) h =
    ap (checked word n) (row_first word r (flat_map row_text rs) h.0)
    ∙ rw (row_formed word r h.0) (rows_checked (codes "at") (n + 1) rs h.1)

pub well_formed_taken : (sheet : List ℕ) → WellFormed sheet → form_of sheet ≡ Ok tt
well_formed_taken sheet w =
    let e : lines sheet ≡ line_of_row w.first ∷ lines (flat_map row_text w.rest) =
    ap lines (sym w.text) ∙ row_first (codes "rule") w.first (flat_map row_text w.rest) w.rows.0 in
    cond-false _ _ _ (le-ltb longest (length sheet) w.short) ∙ ap checked_lines e
    ∙ sym (ap (checked (codes "rule") 1) (row_first (codes "rule") w.first (flat_map row_text w.rest) w.rows.0))
    ∙ rows_checked (codes "rule") 1 (w.first ∷ w.rest) w.rows

-- lines that are checked as good are rows
abbrev RowsOf : List ℕ → List Line → Type 0
RowsOf word ls = (rs : List Row) × Rows word rs × (flat_map row_text rs ≡ flat_map line_bytes ls) × (length rs ≡ length ls)

-- no line has a line feed inside
abbrev Clear : List Line → Type 0
Clear ls = AllByRecursion (λ l. LacksByte line_feed l.text) ls

one_row : (word : List ℕ) (l : Line) (ls : List Line) → formed word l ≡ true → LacksByte line_feed l.text → RowsOf (codes "at") ls → RowsOf word (l ∷ ls)
one_row word l ls f clear (rs, rows, text, count) =
    let r = row_of word l f clear in
    (r.0 ∷ rs, (r.1, rows), (λ i. r.2 i ++ text i), ap suc count)

pub taken_rows : (word : List ℕ) (n : ℕ) (ls : List Line) → Clear ls → checked word n ls ≡ Ok tt → RowsOf word ls
taken_rows word n [] clear e = ([], tt, refl, refl)
taken_rows word n (l ∷ ls) clear e = elim (cases_Bool (formed word l)) [
  | inl f ↦ one_row word l ls f clear.0 (taken_rows (codes "at") (n + 1) ls clear.1 (rw f at e))
  | inr f ↦ absurd (let g : Err (misformed_at n) ≡ Ok tt = rw f at e in let z : ◌≡◌ {A = ℕ} 0 1 = cc in omega arith)
]

-- a line that is not formed: no row of the word begins the text of it and the lines after it
no_row : (word : List ℕ) (l : Line) (ls : List Line) → Clear (l ∷ ls) → Ended (l ∷ ls) → formed word l ≡ false → (r : Row) (more : List ℕ) → Begins word r → row_text r ++ more ≡ flat_map line_bytes (l ∷ ls) → ⊥
no_row word l ls clear ended f r more b e =
    let same : line_of_row r ∷ lines more ≡ l ∷ ls = sym (row_first word r more b) ∙ ap lines e ∙ lines_joined (l ∷ ls) clear ended in
    let this : line_of_row r ≡ l = ap (λ (ks : List Line). get_or ks 0 l) same in
    both_ways (formed word l) f (sym (ap (formed word) this) ∙ row_formed word r b)

not_empty : (l : Line) (ls : List Line) → Clear (l ∷ ls) → Ended (l ∷ ls) → flat_map line_bytes (l ∷ ls) ≡ [] → ⊥
not_empty l ls clear ended e =
    let same : l ∷ ls ≡ [] = sym (lines_joined (l ∷ ls) clear ended) ∙ ap lines e in
    let z : ◌≡◌ {A = ℕ} 0 1 = cc in omega arith

ended_rest : (l : Line) (ls : List Line) → Ended (l ∷ ls) → Ended ls
ended_rest l [] h = tt
ended_rest l (k ∷ ls) h = h.1

-- the refusal names the line after the good ones
abbrev Stopped : List ℕ → ℕ → List ℕ → Refusal → Type 0
Stopped word n text e = (k : ℕ) × Stops word text k × (e ≡ misformed_at (n + k))

one_passed : (word : List ℕ) (n : ℕ) (l : Line) (ls : List Line) (e : Refusal) → formed word l ≡ true → LacksByte line_feed l.text → Stopped (codes "at") (n + 1) (flat_map line_bytes ls) e → Stopped word n (flat_map line_bytes (l ∷ ls)) e
one_passed word n l ls e f clear (k, s, at) =
    let r = row_of word l f clear in (
      suc k,
      record {
        before = r.0 ∷ s.before;
        rest = s.rest;
        rows = (r.1, s.rows);
        whole = append_assoc (row_text r.0) (flat_map row_text s.before) s.rest ∙ (λ i. r.2 i ++ s.whole i);
        count = ap suc s.count;
        stuck = λ q more b. s.stuck q more (at_word s.before q b);
        goes_on = s.goes_on;
      },
      at ∙ ap misformed_at (omega arith),
    )
  where
    at_word : (rs : List Row) (q : Row) → Begins (codes "at") q → Begins (word_after (codes "at") rs) q
    at_word [] q b = b
    at_word (r ∷ rs) q b = b

pub stopped : (word : List ℕ) (n : ℕ) (ls : List Line) (e : Refusal) → Clear ls → Ended ls → checked word n ls ≡ Err e → Stopped word n (flat_map line_bytes ls) e
stopped word n [] e clear ended h = absurd (let g : Ok tt ≡ Err e = h in let z : ◌≡◌ {A = ℕ} 0 1 = cc in omega arith)
stopped word n (l ∷ ls) e clear ended h = elim (cases_Bool (formed word l)) [
  | inl f ↦ one_passed word n l ls e f clear.0 (stopped (codes "at") (n + 1) ls e clear.1 (ended_rest l ls ended) (rw f at h))
  | inr f ↦
      let g : Err (misformed_at n) ≡ Err e = rw f at h in
      let same : misformed_at n ≡ e = cc in (
        0,
        record {
          before = [];
          rest = flat_map line_bytes (l ∷ ls);
          rows = tt;
          whole = refl;
          count = refl;
          stuck = no_row word l ls clear ended f;
          goes_on = not_empty l ls clear ended;
        },
        sym same ∙ ap misformed_at (omega arith),
      )
]

module _ (sheet : List ℕ) where
  good : length sheet ≤ longest → (ls : List Line) → LinedAs sheet ls → checked_lines ls ≡ Ok tt → WellFormed sheet
  good short [] lined_so e = absurd (let z : ◌≡◌ {A = ℕ} 0 1 = cc in omega arith)
  good short (l ∷ ls) lined_so e = made (taken_rows (codes "rule") 1 (l ∷ ls) lined_so.clear e)
    where
      made : RowsOf (codes "rule") (l ∷ ls) → WellFormed sheet
      made ([], rows, text, count) = absurd (omega arith)
      made (r ∷ rs, rows, text, count) = record { first = r; rest = rs; rows = rows; text = text ∙ lined_so.whole; short = short }

  bad : length sheet ≤ longest → (ls : List Line) → LinedAs sheet ls → (e : Refusal) → checked_lines ls ≡ Err e → Refused sheet e
  bad short [] lined_so e h = subst (Refused sheet) (let g : misformed_at 1 ≡ e = cc in g) (empty (sym lined_so.whole))
  bad short (l ∷ ls) lined_so e h =
      let s = stopped (codes "rule") 1 (l ∷ ls) e lined_so.clear lined_so.ended h in
      let at : misformed_at (s.0 + 1) ≡ e = ap misformed_at (omega arith) ∙ sym s.2 in
      subst (Refused sheet) at (on_line short (subst (λ (text : List ℕ). Stops (codes "rule") text s.0) lined_so.whole s.1))

  told : (long : Bool) → ltb longest (length sheet) ≡ long → (r : Result (Unit {0}) Refusal) → cond long (Err too_long) (checked_lines (lines sheet)) ≡ r → form_of sheet ≡ r → Judged sheet r
  told true t (Ok u) e all = absurd (let z : ◌≡◌ {A = ℕ} 0 1 = cc in omega arith)
  told true t (Err x) e all =
      let same : too_long ≡ x = cc in (
        (λ w. let g = well_formed_taken sheet w in let z : ◌≡◌ {A = ℕ} 0 1 = cc in omega arith),
        subst (Refused sheet) same (by_length (ltb-true longest (length sheet) t)),
      )
  told false t (Ok u) e all = good (ltb-false longest (length sheet) t) (lines sheet) (lined sheet).0 e
  told false t (Err x) e all = (
    (λ w. let g = well_formed_taken sheet w in let z : ◌≡◌ {A = ℕ} 0 1 = cc in omega arith),
    bad (ltb-false longest (length sheet) t) (lines sheet) (lined sheet).0 x e,
  )

  pub judged : (r : Result (Unit {0}) Refusal) → r ≡ form_of sheet → Judged sheet r
  judged r e = told (ltb longest (length sheet)) refl r (sym e) (sym e)
