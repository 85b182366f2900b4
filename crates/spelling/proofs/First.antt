-- A sheet is refused by the first condition met. Assumes nothing.
use Rattle.std.proofs.Common.{◌≡◌, ℕ, zero, suc, ◌+◌, ◌<◌, ◌≤◌, true, false, ltb, ◌⊎◌, List, [], ◌∷◌, ◌++◌, length, Some, None, Option, sym, refl, ap, ◌∙◌, subst, inl, inr, append_assoc, le_refl, arith, lit<}
use Rattle.std.specs.List.{slice_get}
use Rattle.std.proofs.lemmas.List.{append-nil, length-append}
use Rattle.std.proofs.lemmas.Bool.{cases_Bool, cond-true, cond-false, lt-ltb, ltb-true, both_ways}
use Rattle.text.specs.Lines.{Line, lines}
use Rattle.text.proofs.Lining.{lined}
use Rattle.refusals.specs.declared.fault.Fault.{Fault}
use Rattle.refusals.specs.declared.fault.Fault.TheVariants.{SheetTooLong, LineForm, StepMissing}
use Rattle.refusals.specs.declared.refusal.Refusal.{Refusal}
use Rattle.refusals.specs.Numbers.{number_of}
use Rattle.sheets.specs.Form.{longest, refusal_at}
use Rattle.spelling.specs.Conditions.{Condition, first_met, conditions, lacks, or_else, refused_from, refused_lines, refused}
use Rattle.spelling.specs.Reading.{sheet_read, read_as, rule_of}
use Rattle.spelling.specs.Judged.{Meets, too_long, empty, on_line, missing, Before, FirstMet}

pub option : {X : Type 0} (o : Option X) → (o ≡ None) ⊎ ((x : X) × (o ≡ Some x))
option None = inl refl
option (Some x) = inr (x, refl)

-- a line on which no condition is met, and one on which some is
pub line_on : (before after : List Line) (l : Line) → first_met (conditions before l) ≡ None → refused_from before (l ∷ after) ≡ refused_from (before ++ (l ∷ [])) after
line_on before after l e = ap (λ (o : Option (Fault × ℕ)). or_else o (length before + 1) (refused_from (before ++ (l ∷ [])) after)) e

pub line_refused : (before after : List Line) (l : Line) (v : Fault × ℕ) → first_met (conditions before l) ≡ Some v → refused_from before (l ∷ after) ≡ Some (refusal_at v.0 (length before + 1) v.1)
line_refused before after l v e = ap (λ (o : Option (Fault × ℕ)). or_else o (length before + 1) (refused_from (before ++ (l ∷ [])) after)) e

-- the numbers of a line's conditions rise
abbrev Above : ℕ → List Condition → Type 0
Above n [] = Unit {0}
Above n (r ∷ rs) = (n < number_of r.0) × Above (number_of r.0) rs

rise : (before : List Line) (l : Line) → Above 0 (conditions before l)
rise [] l = (lit< tt, (lit< tt, (lit< tt, (lit< tt, tt))))
rise (h ∷ es) l = (lit< tt, (lit< tt, (lit< tt, (lit< tt, (lit< tt, (lit< tt, (lit< tt, (lit< tt, tt))))))))

no_row : (u : Condition) → ◌≡◌ {A = Option Condition} None (Some u) → ⊥
no_row u e = let z : ◌≡◌ {A = ℕ} 0 1 = cc in omega arith

no_field : (f : ℕ) → ◌≡◌ {A = Option ℕ} None (Some f) → ⊥
no_field f e = let z : ◌≡◌ {A = ℕ} 0 1 = cc in omega arith

same_row : (a b : Fault) (o p : Option ℕ) → ◌≡◌ {A = Option Condition} (Some (a, o)) (Some (b, p)) → (a ≡ b) × (o ≡ p)
same_row a b o p e =
    let q : ◌≡◌ {A = Condition} (a, o) (b, p) = cc in
    (ap (λ (c : Condition). c.0) q, ap (λ (c : Condition). c.1) q)

above_lt : (rs : List Condition) (a : ℕ) → Above a rs → (i : ℕ) (n : Fault) (o : Option ℕ) → slice_get rs i ≡ Some (n, o) → a < number_of n
above_lt [] a u i n o e = absurd (no_row (n, o) e)
above_lt ((x, y) ∷ rs) a u zero n o e = omega (arith, u.0, ap number_of (same_row x n y o e).0)
above_lt ((x, y) ∷ rs) a u (suc i) n o e = omega (arith, u.0, above_lt rs (number_of x) u.1 i n o e)

-- what is met first is not later than what is met
abbrev NotLater : Fault × ℕ → Fault → ℕ → Type 0
NotLater v n f = (number_of v.0 < number_of n) ⊎ ((v.0 ≡ n) × (v.1 ≤ f))

first_le : (rs : List Condition) (a : ℕ) → Above a rs → (i : ℕ) (n : Fault) (f : ℕ) → slice_get rs i ≡ Some (n, Some f) → (v : Fault × ℕ) × (first_met rs ≡ Some v) × NotLater v n f
first_le [] a u i n f e = absurd (no_row (n, Some f) e)
first_le ((x, None) ∷ rs) a u zero n f e = absurd (no_field f (same_row x n None (Some f) e).1)
first_le ((x, None) ∷ rs) a u (suc i) n f e = first_le rs (number_of x) u.1 i n f e
first_le ((x, Some g) ∷ rs) a u zero n f e =
    let same : g ≡ f = let s = (same_row x n (Some g) (Some f) e).1 in cc in
    ((x, g), refl, inr ((same_row x n (Some g) (Some f) e).0, omega arith))
first_le ((x, Some g) ∷ rs) a u (suc i) n f e = ((x, g), refl, inl (above_lt rs (number_of x) u.1 i n (Some f) e))

met_in : (rs : List Condition) (v : Fault × ℕ) → first_met rs ≡ Some v → (i : ℕ) × (slice_get rs i ≡ Some (v.0, Some v.1))
met_in [] v e = absurd (let z : ◌≡◌ {A = ℕ} 0 1 = cc in omega arith)
met_in ((x, None) ∷ rs) v e = let w = met_in rs v e in (suc w.0, w.1)
met_in ((x, Some g) ∷ rs) v e = (0, let q : ◌≡◌ {A = Fault × ℕ} (x, g) v = cc in cc)

-- a condition met on a line: the sheet is refused there, or earlier
ToldBy : List Line → List Line → Refusal → Type 0
ToldBy before ls u = (e : Refusal) × (refused_from before ls ≡ Some e) × Before e u

here : (before : List Line) (l : Line) (after : List Line) (n : Fault) (f i : ℕ) → slice_get (conditions before l) i ≡ Some (n, Some f) → ToldBy before (l ∷ after) (refusal_at n (length before + 1) f)
unfolding ToldBy
here before l after n f i w =
    let v = first_le (conditions before l) 0 (rise before l) i n f w in
    (refusal_at v.0.0 (length before + 1) v.0.1, line_refused before after l v.0 v.1, inr (refl, v.2))

earlier : (mid before after : List Line) (l : Line) (n : Fault) (f i : ℕ) → slice_get (conditions (before ++ mid) l) i ≡ Some (n, Some f) → ToldBy before (mid ++ (l ∷ after)) (refusal_at n (length (before ++ mid) + 1) f)
unfolding ToldBy
earlier [] before after l n f i w =
    subst (λ (bs : List Line). slice_get (conditions bs l) i ≡ Some (n, Some f) → ToldBy before (l ∷ after) (refusal_at n (length bs + 1) f)) (sym (append-nil before)) (here before l after n f i) w
earlier (a ∷ mid) before after l n f i w = elim (option (first_met (conditions before a))) [
  | inl e ↦
      let assoc = append_assoc before (a ∷ []) mid in
      let r = earlier mid (before ++ (a ∷ [])) after l n f i (subst (λ (bs : List Line). slice_get (conditions bs l) i ≡ Some (n, Some f)) (sym assoc) w) in
      (r.0, line_on before (mid ++ (l ∷ after)) a e ∙ r.1, subst (λ (bs : List Line). Before r.0 (refusal_at n (length bs + 1) f)) assoc r.2)
  | inr v ↦ (refusal_at v.0.0 (length before + 1) v.0.1, line_refused before (mid ++ (l ∷ after)) a v.0 v.1, inl (omega (arith, length-append before (a ∷ mid))))
]

at_end : (mid before : List Line) → lacks (before ++ mid) ≡ true → ToldBy before mid (refusal_at StepMissing (length (before ++ mid) + 1) 0)
unfolding ToldBy
at_end [] before t =
    subst (λ (bs : List Line). lacks bs ≡ true → ToldBy before [] (refusal_at StepMissing (length bs + 1) 0)) (sym (append-nil before))
    (λ t. (refusal_at StepMissing (length before + 1) 0, cond-true (lacks before) _ _ t, inr (refl, inr (refl, le_refl 0)))) t
at_end (a ∷ mid) before t = elim (option (first_met (conditions before a))) [
  | inl e ↦
      let assoc = append_assoc before (a ∷ []) mid in
      let r = at_end mid (before ++ (a ∷ [])) (subst (λ (bs : List Line). lacks bs ≡ true) (sym assoc) t) in
      (r.0, line_on before mid a e ∙ r.1, subst (λ (bs : List Line). Before r.0 (refusal_at StepMissing (length bs + 1) 0)) assoc r.2)
  | inr v ↦ (refusal_at v.0.0 (length before + 1) v.0.1, line_refused before mid a v.0 v.1, inl (omega (arith, length-append before (a ∷ mid))))
]

-- where a refusal comes from: a line, or the missing columns
pub record OnLine (before mid : List Line) (e : Refusal) : Type 0 where
  pub front : List Line
  pub line : Line
  pub back : List Line
  pub fault : Fault
  pub field : ℕ
  pub place : ℕ
  pub split : mid ≡ front ++ (line ∷ back)
  pub met : slice_get (conditions (before ++ front) line) place ≡ Some (fault, Some field)
  pub told : e ≡ refusal_at fault (length (before ++ front) + 1) field

abbrev AtEnd : List Line → Refusal → Type 0
AtEnd ls e = (lacks ls ≡ true) × (e ≡ refusal_at StepMissing (length ls + 1) 0)

some_refusal : (e u : Refusal) → ◌≡◌ {A = Option Refusal} (Some e) (Some u) → e ≡ u
some_refusal e u q = cc

no_refusal : (u : Refusal) → ◌≡◌ {A = Option Refusal} None (Some u) → ⊥
no_refusal u e = let z : ◌≡◌ {A = ℕ} 0 1 = cc in omega arith

came : (mid before : List Line) (e : Refusal) → refused_from before mid ≡ Some e → OnLine before mid e ⊎ AtEnd (before ++ mid) e
came [] before e r =
    inr (elim (cases_Bool (lacks before)) [
      | inl t ↦
          subst (λ (bs : List Line). AtEnd bs e) (sym (append-nil before))
          (t, some_refusal e (refusal_at StepMissing (length before + 1) 0) (sym r ∙ cond-true (lacks before) (Some (refusal_at StepMissing (length before + 1) 0)) None t))
      | inr z ↦ absurd (no_refusal e (sym (cond-false (lacks before) (Some (refusal_at StepMissing (length before + 1) 0)) None z) ∙ r))
    ])
came (a ∷ mid) before e r = elim (option (first_met (conditions before a))) [
  | inl n ↦
      elim (came mid (before ++ (a ∷ [])) e (sym (line_on before mid a n) ∙ r)) [
        | inl w ↦
            let assoc = append_assoc before (a ∷ []) w.front in
            inl (record {
              front = a ∷ w.front;
              line = w.line;
              back = w.back;
              fault = w.fault;
              field = w.field;
              place = w.place;
              split = ap (λ (t : List Line). a ∷ t) w.split;
              met = subst (λ (bs : List Line). slice_get (conditions bs w.line) w.place ≡ Some (w.fault, Some w.field)) assoc w.met;
              told = subst (λ (bs : List Line). e ≡ refusal_at w.fault (length bs + 1) w.field) assoc w.told;
            })
        | inr w ↦ inr (subst (λ (bs : List Line). AtEnd bs e) (append_assoc before (a ∷ []) mid) w)
      ]
  | inr v ↦
      let w = met_in (conditions before a) v.0 v.1 in
      inl (record {
        front = [];
        line = a;
        back = mid;
        fault = v.0.0;
        field = v.0.1;
        place = w.0;
        split = refl;
        met = subst (λ (bs : List Line). slice_get (conditions bs a) w.0 ≡ Some (v.0.0, Some v.0.1)) (sym (append-nil before)) w.1;
        told = subst (λ (bs : List Line). e ≡ refusal_at v.0.0 (length bs + 1) v.0.1) (sym (append-nil before)) (some_refusal e _ (sym r ∙ line_refused before mid a v.0 v.1));
      })
]

-- by the length of the sheet
pub is_long : (b : List ℕ) → ltb longest (length b) ≡ true → refused b ≡ Some (refusal_at SheetTooLong 0 0)
is_long b t = cond-true (ltb longest (length b)) _ _ t

pub is_short : (b : List ℕ) → ltb longest (length b) ≡ false → refused b ≡ refused_lines (lines b)
is_short b z = cond-false (ltb longest (length b)) _ _ z

lines_some : (x : ℕ) (xs : List ℕ) → lines (x ∷ xs) ≡ [] → ⊥
lines_some x xs e =
    let w = (lined (x ∷ xs)).0 in
    let q : ◌≡◌ {A = List ℕ} [] (x ∷ xs) = rw e at w.whole in
    let z : ◌≡◌ {A = ℕ} 0 1 = cc in omega arith

from_some : (ls : List Line) → (ls ≡ [] → ⊥) → refused_lines ls ≡ refused_from [] ls
from_some [] n = absurd (n refl)
from_some (l ∷ ls) n = refl

filled : (x : ℕ) (xs : List ℕ) → refused_lines (lines (x ∷ xs)) ≡ refused_from [] (lines (x ∷ xs))
filled x xs = from_some (lines (x ∷ xs)) (lines_some x xs)

met_short : (b : List ℕ) (e : Refusal) → refused_lines (lines b) ≡ Some e → Meets b e
met_short [] e r = subst (Meets []) (some_refusal (refusal_at LineForm 1 0) e r) (empty refl)
met_short (x ∷ xs) e r = elim (came (lines (x ∷ xs)) [] e (sym (filled x xs) ∙ r)) [
  | inl w ↦ subst (Meets (x ∷ xs)) (sym w.told) (on_line w.front w.back w.line w.fault w.field w.place w.split w.met)
  | inr w ↦ subst (Meets (x ∷ xs)) (sym w.1) (missing (λ n. let z : ◌≡◌ {A = ℕ} 0 1 = cc in omega arith) w.0)
]

-- what a sheet is refused by is met
pub is_met : (b : List ℕ) (e : Refusal) → refused b ≡ Some e → Meets b e
is_met b e r = elim (cases_Bool (ltb longest (length b))) [
  | inl t ↦ subst (Meets b) (some_refusal (refusal_at SheetTooLong 0 0) e (sym (is_long b t) ∙ r)) (too_long (ltb-true longest (length b) t))
  | inr z ↦ met_short b e (sym (is_short b z) ∙ r)
]

first_of_all : (b : List ℕ) (u : Refusal) → Meets b u → Before (refusal_at SheetTooLong 0 0) u
first_of_all b _ (too_long t) = inr (refl, inr (refl, le_refl 0))
first_of_all b _ (empty e) = inl (lit< tt)
first_of_all b _ (on_line before after l n f i e w) = inl (omega arith)
first_of_all b _ (missing n t) = inl (omega arith)

no_lines : (bs : List Line) (l : Line) (after : List Line) → ◌≡◌ {A = List Line} [] (bs ++ (l ∷ after)) → ⊥
no_lines [] l after e = let z : ◌≡◌ {A = ℕ} 0 1 = cc in omega arith
no_lines (b ∷ bs) l after e = let z : ◌≡◌ {A = ℕ} 0 1 = cc in omega arith

told_short : (b : List ℕ) (u : Refusal) → ltb longest (length b) ≡ false → Meets b u → (e : Refusal) × (refused_lines (lines b) ≡ Some e) × Before e u
unfolding ToldBy
told_short b _ z (too_long t) = absurd (both_ways _ z (lt-ltb longest (length b) t))
told_short b _ z (empty e) = (refusal_at LineForm 1 0, ap (λ (c : List ℕ). refused_lines (lines c)) e, inr (refl, inr (refl, le_refl 0)))
told_short [] _ z (on_line before after l n f i e w) = absurd (no_lines before l after e)
told_short [] _ z (missing n t) = absurd (n refl)
told_short (x ∷ xs) _ z (on_line before after l n f i e w) =
    let r = earlier before [] after l n f i w in
    (r.0, filled x xs ∙ (ap (refused_from []) e ∙ r.1), r.2)
told_short (x ∷ xs) _ z (missing n t) =
    let r = at_end (lines (x ∷ xs)) [] t in
    (r.0, filled x xs ∙ r.1, r.2)

-- and whatever is met, it is refused by something not later
is_refused : (b : List ℕ) (u : Refusal) → Meets b u → (e : Refusal) × (refused b ≡ Some e) × Before e u
is_refused b u M = elim (cases_Bool (ltb longest (length b))) [
  | inl t ↦ (refusal_at SheetTooLong 0 0, is_long b t, first_of_all b u M)
  | inr z ↦ let r = told_short b u z M in (r.0, is_short b z ∙ r.1, r.2)
]

by_answer : (b : List ℕ) (o : Option Refusal) → refused b ≡ o → FirstMet b (read_as o (rule_of (lines b)))
by_answer b None e = λ u M. let r = is_refused b u M in no_refusal r.0 (sym e ∙ r.1)
by_answer b (Some x) e = (
  is_met b x e,
  λ u M. let r = is_refused b u M in subst (λ (t : Refusal). Before t u) (some_refusal r.0 x (sym r.1 ∙ e)) r.2,
)

pub first_is_met : (b : List ℕ) → FirstMet b (sheet_read b)
first_is_met b = by_answer b (refused b) refl
