-- Lines and the sheet that they say, entry by entry; and the conditions of all lines. Assumes nothing.
use Rattle.std.proofs.Common.{◌≡◌, ℕ, zero, suc, ◌+◌, ◌≤◌, Bool, true, false, ◌&&◌, eqb, List, [], ◌∷◌, ◌++◌, length, is_some, Some, None, codes, Option, unwrap_or, sym, refl, ap, ◌∙◌, subst, inl, inr, append_assoc, arith}
use Rattle.std.specs.List.{slice_get}
use Rattle.std.specs.Str.{bytes_eq}
use Rattle.std.proofs.lemmas.Slice.Eq.{bytes_eq-Decides}
use Rattle.std.proofs.lemmas.List.{append-nil}
use Rattle.std.proofs.lemmas.Bool.{cases_Bool, both_ways, and_parts, and_from, not-false, eqb-true, eq-eqb, ltb-false, cond-true, cond-false}
use Rattle.text.specs.Lines.{Line}
use Rattle.refusals.specs.declared.fault.Fault.{Fault}
use Rattle.refusals.specs.declared.refusal.Refusal.{Refusal}
use Rattle.spelling.specs.Words.{is_name, letters_of, column_of, direction_of}
use Rattle.spelling.specs.Said.{field, with_name, in_order, entry_names, names, letters, halts, is_for, found, entry_for}
use Rattle.sheets.specs.Form.{formed}
use Rattle.spelling.specs.Conditions.{Condition, if_met, earliest, first_met, wrong_way, entry_column, entry_direction, one_too_many, rule_conditions, conditions, lacks, or_else, refused_from}
use Rattle.spelling.specs.Spells.{Entry, said, column_number}
use Rattle.spelling.proofs.Order.{order_more}
use Rattle.spelling.proofs.Linewise.{Says}

-- each line says its entry
abbrev pub AllSay : ℕ → List Line → List Entry → Type 0
AllSay m [] [] = Unit {0}
AllSay m [] (e ∷ es) = ⊥
AllSay m (l ∷ ls) [] = ⊥
AllSay m (l ∷ ls) (e ∷ es) = Says m l e × AllSay m ls es

pub say_more : (m : ℕ) (ls : List Line) (es : List Entry) (l : Line) (e : Entry) → AllSay m ls es → Says m l e → AllSay m (ls ++ (l ∷ [])) (es ++ (e ∷ []))
say_more m [] [] l e a s = (s, tt)
say_more m [] (x ∷ es) l e a s = absurd a
say_more m (k ∷ ls) [] l e a s = absurd a
say_more m (k ∷ ls) (x ∷ es) l e a s = (a.0, say_more m ls es l e a.1 s)

pub say_names : (m : ℕ) (ls : List Line) (es : List Entry) → AllSay m ls es → entry_names ls ≡ said es
say_names m [] [] a = refl
say_names m [] (x ∷ es) a = absurd a
say_names m (k ∷ ls) [] a = absurd a
say_names m (k ∷ ls) (x ∷ es) a = λ i. a.0.state i ∷ a.0.next i ∷ say_names m ls es a.1 i

pub said_more : (ds es : List Entry) → said (ds ++ es) ≡ said ds ++ said es
said_more [] es = refl
said_more (d ∷ ds) es = ap (λ (ns : List (List ℕ)). d.state ∷ d.next ∷ ns) (said_more ds es)

-- the entry that a search of the lines finds
pub record Found (m : ℕ) (es : List Entry) (x : List ℕ) (c : ℕ) (l : Line) : Type 0 where
  pub place : ℕ
  pub entry : Entry
  pub at : slice_get es place ≡ Some entry
  pub says : Says m l entry
  pub state : entry.state ≡ x
  pub column : column_number m entry.column ≡ c

pub column_said : (m : ℕ) (l : Line) (e : Entry) → Says m l e → unwrap_or (column_of m (field 3 l)) 0 ≡ column_number m e.column
column_said m l e s = ap (λ (o : Option ℕ). unwrap_or o 0) s.column

is_for_said : (m : ℕ) (x : List ℕ) (c : ℕ) (l : Line) (e : Entry) → Says m l e → is_for m x c l ≡ (bytes_eq e.state x && eqb (column_number m e.column) c)
is_for_said m x c l e s = λ i. bytes_eq (s.state i) x && eqb (column_said m l e s i) c

-- an entry for the name and the column
abbrev pub For : ℕ → List ℕ → ℕ → Entry → Type 0
For m x c e = (e.state ≡ x) × (column_number m e.column ≡ c)

for_test : (m : ℕ) (x : List ℕ) (c : ℕ) (l : Line) (e : Entry) → Says m l e → is_for m x c l ≡ true → For m x c e
for_test m x c l e s t =
    let p = and_parts _ _ (sym (is_for_said m x c l e s) ∙ t) in
    ((bytes_eq-Decides e.state x).0 p.0, eqb-true (column_number m e.column) c p.1)

test_for : (m : ℕ) (x : List ℕ) (c : ℕ) (l : Line) (e : Entry) → Says m l e → For m x c e → is_for m x c l ≡ true
test_for m x c l e s f =
    is_for_said m x c l e s ∙ and_from _ _ ((bytes_eq-Decides e.state x).1 f.0) (eq-eqb (column_number m e.column) c f.1)

pub found_some : (m : ℕ) (ls : List Line) (es : List Entry) (x : List ℕ) (c : ℕ) (l : Line) → AllSay m ls es → found m x c ls ≡ Some l → Found m es x c l
found_some m [] es x c l a e = absurd (let z : ◌≡◌ {A = ℕ} 0 1 = cc in omega arith)
found_some m (k ∷ ls) [] x c l a e = absurd a
found_some m (k ∷ ls) (y ∷ es) x c l a e = elim (cases_Bool (is_for m x c k)) [
  | inl t ↦
      let q : ◌≡◌ {A = Option Line} (Some k) (Some l) = sym (cond-true (is_for m x c k) (Some k) (found m x c ls) t) ∙ e in
      let same : k ≡ l = cc in
      let f = for_test m x c k y a.0 t in
      record { place = 0; entry = y; at = refl; says = subst (λ (v : Line). Says m v y) same a.0; state = f.0; column = f.1 }
  | inr z ↦
      let r = found_some m ls es x c l a.1 (sym (cond-false (is_for m x c k) (Some k) (found m x c ls) z) ∙ e) in
      record { place = suc r.place; entry = r.entry; at = r.at; says = r.says; state = r.state; column = r.column }
]

passed : (m : ℕ) (x : List ℕ) (c : ℕ) (k : Line) (ls : List Line) → found m x c (k ∷ ls) ≡ None → is_for m x c k ≡ false
passed m x c k ls n = elim (cases_Bool (is_for m x c k)) [
  | inl t ↦
      let q : ◌≡◌ {A = Option Line} (Some k) None = sym (cond-true (is_for m x c k) (Some k) (found m x c ls) t) ∙ n in
      absurd (let z : ◌≡◌ {A = ℕ} 0 1 = cc in omega arith)
  | inr z ↦ z
]

pub found_none : (m : ℕ) (ls : List Line) (es : List Entry) (x : List ℕ) (c : ℕ) → AllSay m ls es → found m x c ls ≡ None → (i : ℕ) (e : Entry) → slice_get es i ≡ Some e → For m x c e → ⊥
found_none m [] [] x c a n i e h f = let z : ◌≡◌ {A = ℕ} 0 1 = cc in omega arith
found_none m [] (y ∷ es) x c a n i e h f = a
found_none m (k ∷ ls) [] x c a n i e h f = a
found_none m (k ∷ ls) (y ∷ es) x c a n zero e h f =
    let q : e ≡ y = cc in
    both_ways _ (passed m x c k ls n) (test_for m x c k y a.0 (subst (For m x c) q f))
found_none m (k ∷ ls) (y ∷ es) x c a n (suc i) e h f =
    found_none m ls es x c a.1 (sym (cond-false (is_for m x c k) (Some k) (found m x c ls) (passed m x c k ls n)) ∙ n) i e h f

-- what the conditions of a later line come to
pub record Fine (before : List Line) (l : Line) : Type 0 where
  pub formed_so : formed (codes "at") l ≡ true
  pub state_name : is_name (field 2 l) ≡ true
  pub next_name : is_name (field 4 l) ≡ true
  pub column : is_some (column_of (letters before) (field 3 l)) ≡ true
  pub direction : is_some (direction_of (field 5 l)) ≡ true
  pub goes_on : halts before (field 2 l) ≡ false
  pub few_first : one_too_many (names before) (field 2 l) ≡ false
  pub few_second : one_too_many (with_name (names before) (field 2 l)) (field 4 l) ≡ false
  pub turns_back : wrong_way (letters before) (entry_column before l) (entry_direction l) ≡ false
  pub new : is_some (entry_for before (field 2 l) (entry_column before l)) ≡ false

met_none : (n : Fault) (f : ℕ) (b : Bool) (rs : List Condition) → first_met ((n, if_met f b) ∷ rs) ≡ None → (b ≡ false) × (first_met rs ≡ None)
met_none n f true rs e = absurd (let z : ◌≡◌ {A = ℕ} 0 1 = cc in omega arith)
met_none n f false rs e = (refl, e)

met_two : (n : Fault) (f g : ℕ) (a b : Bool) (rs : List Condition) → first_met ((n, earliest (if_met f a ∷ if_met g b ∷ [])) ∷ rs) ≡ None → (a ≡ false) × (b ≡ false) × (first_met rs ≡ None)
met_two n f g true b rs e = absurd (let z : ◌≡◌ {A = ℕ} 0 1 = cc in omega arith)
met_two n f g false true rs e = absurd (let z : ◌≡◌ {A = ℕ} 0 1 = cc in omega arith)
met_two n f g false false rs e = (refl, refl, e)

met_three : (n : Fault) (f g h : ℕ) (a b c : Bool) (rs : List Condition) → first_met ((n, earliest (if_met f a ∷ if_met g b ∷ if_met h c ∷ [])) ∷ rs) ≡ None → (a ≡ false) × (b ≡ false) × (c ≡ false) × (first_met rs ≡ None)
met_three n f g h true b c rs e = absurd (let z : ◌≡◌ {A = ℕ} 0 1 = cc in omega arith)
met_three n f g h false true c rs e = absurd (let z : ◌≡◌ {A = ℕ} 0 1 = cc in omega arith)
met_three n f g h false false true rs e = absurd (let z : ◌≡◌ {A = ℕ} 0 1 = cc in omega arith)
met_three n f g h false false false rs e = (refl, refl, refl, e)

pub fine_of : (h : Line) (done : List Line) (l : Line) → first_met (conditions (h ∷ done) l) ≡ None → Fine (h ∷ done) l
fine_of h done l e =
    let a = met_none _ _ _ _ e in
    let b = met_two _ _ _ _ _ _ a.1 in
    let c = met_none _ _ _ _ b.2 in
    let d = met_none _ _ _ _ c.1 in
    let f = met_none _ _ _ _ d.1 in
    let g = met_two _ _ _ _ _ _ f.1 in
    let k = met_none _ _ _ _ g.2 in
    let n = met_none _ _ _ _ k.1 in
    record {
      formed_so = not-false _ a.0;
      state_name = not-false _ b.0;
      next_name = not-false _ b.1;
      column = not-false _ c.0;
      direction = not-false _ d.0;
      goes_on = f.0;
      few_first = g.0;
      few_second = g.1;
      turns_back = k.0;
      new = n.0;
    }

pub of_fine : (h : Line) (done : List Line) (l : Line) → Fine (h ∷ done) l → first_met (conditions (h ∷ done) l) ≡ None
of_fine h done l v =
    rw (v.formed_so, v.state_name, v.next_name, v.column, v.direction, v.goes_on, v.few_first, v.few_second, v.turns_back, v.new) refl

-- what the conditions of line 1 come to
pub record FineRule (h : Line) : Type 0 where
  pub formed_so : formed (codes "rule") h ≡ true
  pub start_name : is_name (field 3 h) ≡ true
  pub accept_name : is_name (field 4 h) ≡ true
  pub reject_name : is_name (field 5 h) ≡ true
  pub number : is_some (letters_of (field 2 h)) ≡ true
  pub apart : bytes_eq (field 4 h) (field 5 h) ≡ false

pub fine_rule_of : (h : Line) → first_met (rule_conditions h) ≡ None → FineRule h
fine_rule_of h e =
    let a = met_none _ _ _ _ e in
    let b = met_three _ _ _ _ _ _ _ _ a.1 in
    let c = met_none _ _ _ _ b.3 in
    let d = met_none _ _ _ _ c.1 in
    record {
      formed_so = not-false _ a.0;
      start_name = not-false _ b.0;
      accept_name = not-false _ b.1;
      reject_name = not-false _ b.2;
      number = not-false _ c.0;
      apart = d.0;
    }

pub of_fine_rule : (h : Line) → FineRule h → first_met (rule_conditions h) ≡ None
of_fine_rule h v = rw (v.formed_so, v.start_name, v.accept_name, v.reject_name, v.number, v.apart) refl

-- no condition of the lines that follow is met
abbrev pub FineFrom : Line → List Line → List Line → Type 0
FineFrom h done [] = lacks (h ∷ done) ≡ false
FineFrom h done (l ∷ ls) = Fine (h ∷ done) l × FineFrom h (done ++ (l ∷ [])) ls

pub none_else : (o : Option (Fault × ℕ)) (n : ℕ) (r : Option Refusal) → or_else o n r ≡ None → (o ≡ None) × (r ≡ None)
none_else None n r e = (refl, e)
none_else (Some v) n r e = absurd (let z : ◌≡◌ {A = ℕ} 0 1 = cc in omega arith)

pub fine_from : (h : Line) (done ls : List Line) → refused_from (h ∷ done) ls ≡ None → FineFrom h done ls
fine_from h done [] e = elim (cases_Bool (lacks (h ∷ done))) [
  | inl t ↦ absurd (let q = sym (cond-true (lacks (h ∷ done)) (Some _) None t) ∙ e in let z : ◌≡◌ {A = ℕ} 0 1 = cc in omega arith)
  | inr z ↦ z
]
fine_from h done (l ∷ ls) e =
    let p = none_else _ _ _ e in
    (fine_of h done l p.0, fine_from h (done ++ (l ∷ [])) ls p.1)

pub from_fine : (h : Line) (done ls : List Line) → FineFrom h done ls → refused_from (h ∷ done) ls ≡ None
from_fine h done [] f = cond-false (lacks (h ∷ done)) _ _ f
from_fine h done (l ∷ ls) f =
    ap (λ (o : Option (Fault × ℕ)). or_else o (length (h ∷ done) + 1) (refused_from (h ∷ (done ++ (l ∷ []))) ls)) (of_fine h done l f.0)
    ∙ from_fine h (done ++ (l ∷ [])) ls f.1

-- the names of one line more
names_more : (ls : List Line) (l : Line) → entry_names (ls ++ (l ∷ [])) ≡ entry_names ls ++ (field 2 l ∷ field 4 l ∷ [])
names_more [] l = refl
names_more (k ∷ ls) l = ap (λ (ns : List (List ℕ)). field 2 k ∷ field 4 k ∷ ns) (names_more ls l)

pub names_on : (h : Line) (done : List Line) (l : Line) → names (h ∷ (done ++ (l ∷ []))) ≡ with_name (with_name (names (h ∷ done)) (field 2 l)) (field 4 l)
names_on h done l =
    ap (λ (ns : List (List ℕ)). in_order [] (field 3 h ∷ field 4 h ∷ field 5 h ∷ ns)) (names_more done l)
    ∙ order_more [] (field 3 h ∷ field 4 h ∷ field 5 h ∷ entry_names done) (field 2 l ∷ field 4 l ∷ [])

-- at the end: no column lacks, and the names are at most 32
pub none_lacks : (h : Line) (done ls : List Line) → FineFrom h done ls → lacks (h ∷ (done ++ ls)) ≡ false
none_lacks h done [] f = subst (λ (ks : List Line). lacks (h ∷ ks) ≡ false) (sym (append-nil done)) f
none_lacks h done (l ∷ ls) f =
    subst (λ (ks : List Line). lacks (h ∷ ks) ≡ false) (append_assoc done (l ∷ []) ls) (none_lacks h (done ++ (l ∷ [])) ls f.1)

pub few_names : (h : Line) (done ls : List Line) → length (names (h ∷ done)) ≤ 32 → FineFrom h done ls → length (names (h ∷ (done ++ ls))) ≤ 32
few_names h done [] few f = subst (λ (ks : List Line). length (names (h ∷ ks)) ≤ 32) (sym (append-nil done)) few
few_names h done (l ∷ ls) few f =
    subst (λ (ks : List Line). length (names (h ∷ ks)) ≤ 32) (append_assoc done (l ∷ []) ls)
    (few_names h (done ++ (l ∷ [])) ls (omega (arith, ap length (names_on h done l), ltb-false 32 _ f.0.few_second)) f.1)
