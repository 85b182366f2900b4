-- Numbers of letters, columns and directions, written and read back. Assumes nothing.
use Rattle.std.proofs.Common.{◌≡◌, ℕ, ◌+◌, ◌^◌, ◌<◌, ◌≤◌, Bool, true, false, List, [], ◌∷◌, Some, None, codes, decimal, Option, sym, refl, ap, ◌∙◌, subst, inl, inr, arith, lit<}
use Rattle.std.specs.Str.Iter.{LacksByte}
use Rattle.std.specs.Str.{bytes_eq}
use Rattle.std.proofs.lemmas.Slice.Eq.{bytes_eq-Decides}
use Rattle.std.proofs.lemmas.Bool.{cases_Bool, cond-true, cond-false}
use Rattle.std.proofs.lemmas.Bool.Decides.{nat_tests}
use Rattle.text.specs.Parts.{tab, line_feed}
use Rattle.text.specs.Numbers.{number, WrittenAs}
use Rattle.text.proofs.Parting.{lacks_from_test}
use Rattle.text.proofs.Reading.{read_back, written_as, lacks_decimal}
use Rattle.two_way.specs.Automaton.{Way, L, R}
use Rattle.spelling.specs.Words.{within, letters_of, column_of, direction_of}
use Rattle.spelling.specs.Conditions.{wrong_way}
use Rattle.spelling.specs.Spells.{Column, left_end, right_end, letter, column_text, column_number, way_text, way_number, Turning}

-- a number of at most 16, written and read
written : (n : ℕ) → n ≤ 16 → number 16 (decimal n) ≡ Some n
written n l = read_back 16 n (let k : n < 2 ^ 64 = omega arith in k) l

read_so : (f : List ℕ) (n : ℕ) (o : Option ℕ) → WrittenAs 16 f o → o ≡ Some n → (n ≤ 16) × (decimal n ≡ f)
read_so f n None w e = absurd (let z : ◌≡◌ {A = ℕ} 0 1 = cc in omega arith)
read_so f n (Some k) w e = let q : k ≡ n = cc in (omega (arith, w.0), ap decimal (sym q) ∙ w.1)

number_read : (f : List ℕ) (n : ℕ) → number 16 f ≡ Some n → (n ≤ 16) × (decimal n ≡ f)
number_read f n e = read_so f n (number 16 f) (written_as 16 f (lit< tt)) e

within_read : (low high n : ℕ) (o : Option ℕ) → within low high o ≡ Some n → (o ≡ Some n) × (low ≤ n) × (n < high)
within_read low high n None e = absurd (let z : ◌≡◌ {A = ℕ} 0 1 = cc in omega arith)
within_read low high n (Some k) e = (grind (arith, nat_tests), grind (arith, nat_tests), grind (arith, nat_tests))

within_kept : (low high n : ℕ) → low ≤ n → n < high → within low high (Some n) ≡ Some n
within_kept low high n l h = grind (arith, nat_tests)

-- the number of letters
pub letters_read : (f : List ℕ) (m : ℕ) → letters_of f ≡ Some m → (1 ≤ m) × (m ≤ 16) × (decimal m ≡ f)
letters_read f m e =
    let w = within_read 1 17 m (number 16 f) e in
    let r = number_read f m w.0 in
    (w.1, r.0, r.1)

pub letters_written : (m : ℕ) → 1 ≤ m → m ≤ 16 → letters_of (decimal m) ≡ Some m
letters_written m l h = ap (within 1 17) (written m h) ∙ within_kept 1 17 m l (omega arith)

-- a number has no mark and no separator in it
pub plain_decimal : (n : ℕ) → n ≤ 16 → LacksByte tab (decimal n) × LacksByte line_feed (decimal n)
plain_decimal n l =
    let k : n < 2 ^ 64 = omega arith in
    (lacks_decimal tab n k (λ h. omega arith), lacks_decimal line_feed n k (λ h. omega arith))

no_mark : (x n : ℕ) → n ≤ 16 → 57 < x → bytes_eq (decimal n) (x ∷ []) ≡ false
no_mark x n l h = elim (cases_Bool (bytes_eq (decimal n) (x ∷ []))) [
  | inl t ↦
      let k : n < 2 ^ 64 = omega arith in
      let e : decimal n ≡ x ∷ [] = (bytes_eq-Decides (decimal n) (x ∷ [])).0 t in
      let free : LacksByte x (decimal n) = lacks_decimal x n k (λ r. omega arith) in
      let bare : LacksByte x (x ∷ []) = subst (LacksByte x) e free in
      absurd (bare 0 (lit< tt) refl)
  | inr z ↦ z
]

-- a letter is one of m, and the ends are columns anyway
abbrev pub InRange : ℕ → Column → Type 0
InRange m left_end = Unit {0}
InRange m right_end = Unit {0}
InRange m (letter n) = n < m

pub record ColumnRead (m : ℕ) (f : List ℕ) (c : ℕ) : Type 0 where
  pub column : Column
  pub text : column_text column ≡ f
  pub number : column_number m column ≡ c
  pub range : InRange m column

some_same : (x y : ℕ) → ◌≡◌ {A = Option ℕ} (Some x) (Some y) → x ≡ y
some_same x y e = cc

pub column_read : (m : ℕ) (f : List ℕ) (c : ℕ) → column_of m f ≡ Some c → ColumnRead m f c
column_read m f c e = elim (cases_Bool (bytes_eq f (codes "<"))) [
  | inl t ↦ record {
    column = left_end;
    text = sym ((bytes_eq-Decides f (codes "<")).0 t);
    number = some_same m c (sym (cond-true (bytes_eq f (codes "<")) (Some m) _ t) ∙ e);
    range = tt;
  }
  | inr z ↦ elim (cases_Bool (bytes_eq f (codes ">"))) [
    | inl t ↦ record {
      column = right_end;
      text = sym ((bytes_eq-Decides f (codes ">")).0 t);
      number = some_same (m + 1) c (sym (cond-true (bytes_eq f (codes ">")) (Some (m + 1)) _ t) ∙ (sym (cond-false (bytes_eq f (codes "<")) (Some m) _ z) ∙ e));
      range = tt;
    }
    | inr y ↦
        let w = within_read 0 m c (number 16 f) (sym (cond-false (bytes_eq f (codes ">")) (Some (m + 1)) _ y) ∙ (sym (cond-false (bytes_eq f (codes "<")) (Some m) _ z) ∙ e)) in
        record { column = letter c; text = (number_read f c w.0).1; number = refl; range = w.2 }
  ]
]

pub column_written : (m : ℕ) (k : Column) → m ≤ 16 → InRange m k → column_of m (column_text k) ≡ Some (column_number m k)
column_written m left_end l r = refl
column_written m right_end l r = refl
column_written m (letter n) l r =
    cond-false _ _ _ (no_mark 60 n (omega arith) (lit< tt))
    ∙ (cond-false _ _ _ (no_mark 62 n (omega arith) (lit< tt))
    ∙ (ap (within 0 m) (written n (omega arith)) ∙ within_kept 0 m n (omega arith) r))

-- every column in range is a number below letters + 2
pub column_below : (m : ℕ) (k : Column) → InRange m k → column_number m k < m + 2
column_below m left_end r = omega arith
column_below m right_end r = omega arith
column_below m (letter n) r = omega arith

-- the fields have no tab and no line feed
pub column_plain : (m : ℕ) (k : Column) → m ≤ 16 → InRange m k → LacksByte tab (column_text k) × LacksByte line_feed (column_text k)
column_plain m left_end l r = (lacks_from_test tab (codes "<") refl, lacks_from_test line_feed (codes "<") refl)
column_plain m right_end l r = (lacks_from_test tab (codes ">") refl, lacks_from_test line_feed (codes ">") refl)
column_plain m (letter n) l r = plain_decimal n (omega arith)

-- directions
pub record WayRead (f : List ℕ) (d : ℕ) : Type 0 where
  pub way : Way
  pub text : way_text way ≡ f
  pub number : way_number way ≡ d

pub way_read : (f : List ℕ) (d : ℕ) → direction_of f ≡ Some d → WayRead f d
way_read f d e = elim (cases_Bool (bytes_eq f (codes "L"))) [
  | inl t ↦ record {
    way = L;
    text = sym ((bytes_eq-Decides f (codes "L")).0 t);
    number = some_same 0 d (sym (cond-true (bytes_eq f (codes "L")) (Some 0) _ t) ∙ e);
  }
  | inr z ↦ elim (cases_Bool (bytes_eq f (codes "R"))) [
    | inl t ↦ record {
      way = R;
      text = sym ((bytes_eq-Decides f (codes "R")).0 t);
      number = some_same 1 d (sym (cond-true (bytes_eq f (codes "R")) (Some 1) _ t) ∙ (sym (cond-false (bytes_eq f (codes "L")) (Some 0) _ z) ∙ e));
    }
    | inr y ↦
        let none : ◌≡◌ {A = Option ℕ} None (Some d) = sym (cond-false (bytes_eq f (codes "R")) (Some 1) _ y) ∙ (sym (cond-false (bytes_eq f (codes "L")) (Some 0) _ z) ∙ e) in
        absurd (let n : ◌≡◌ {A = ℕ} 0 1 = cc in omega arith)
  ]
]

pub way_plain : (w : Way) → LacksByte tab (way_text w) × LacksByte line_feed (way_text w)
way_plain L = (lacks_from_test tab (codes "L") refl, lacks_from_test line_feed (codes "L") refl)
way_plain R = (lacks_from_test tab (codes "R") refl, lacks_from_test line_feed (codes "R") refl)

pub way_written : (w : Way) → direction_of (way_text w) ≡ Some (way_number w)
way_written L = refl
way_written R = refl

-- the ends turn back exactly where the direction is not the wrong one
pub turns : (m : ℕ) (k : Column) (w : Way) → InRange m k → wrong_way m (column_number m k) (way_number w) ≡ false → Turning m k w
turns m left_end L r e = absurd (let z : ◌≡◌ {A = Bool} true false = grind (arith, nat_tests) in let n : ◌≡◌ {A = ℕ} 0 1 = cc in omega arith)
turns m left_end R r e = refl
turns m right_end L r e = refl
turns m right_end R r e = absurd (let z : ◌≡◌ {A = Bool} true false = grind (arith, nat_tests) in let n : ◌≡◌ {A = ℕ} 0 1 = cc in omega arith)
turns m (letter n) w r e = r

pub right_way : (m : ℕ) (k : Column) (w : Way) → Turning m k w → InRange m k × (wrong_way m (column_number m k) (way_number w) ≡ false)
right_way m left_end L t = absurd (let z : ◌≡◌ {A = ℕ} 0 1 = cc in omega arith)
right_way m left_end R t = (tt, grind (arith, nat_tests))
right_way m right_end L t = (tt, grind (arith, nat_tests))
right_way m right_end R t = absurd (let z : ◌≡◌ {A = ℕ} 0 1 = cc in omega arith)
right_way m (letter n) w t = (t, grind (arith, nat_tests))
