-- The three calls one after another, and what the listing that they leave decides. Assumes nothing.
use Rattle.std.proofs.Common.{◌≡◌, ℕ, zero, suc, ◌<◌, ◌≤◌, Bool, true, false, cond, eqb, List, [], ◌∷◌, ◌++◌, length, take, drop, is_some, IfOk, Some, None, Ok, Err, Option, Result, sym, refl, ap, ◌∙◌, subst, inl, inr, arith}
use Rattle.std.specs.Option.{ok_or}
use Rattle.std.proofs.lemmas.List.{take_at}
use Rattle.std.proofs.lemmas.Bool.{cases_lt, eqb-false, or_parts, not-false, and_parts}
use Rattle.two_way.specs.declared.Verdict.{Verdict}
use Rattle.two_way.specs.Automaton.{Automaton, Lawful}
use Rattle.two_way.specs.Runs.{Word}
use Rattle.two_way.specs.Crossings.{reached}
use Rattle.refusals.specs.declared.fault.Fault.TheVariants.{LettersDiffer, NoRows, TooFewPlaces, DamagedTable, ListingTooLong}
use Rattle.refusals.specs.declared.refusal.Refusal.{Refusal}
use Rattle.refusals.specs.Line.{unplaced}
use Rattle.register.specs.declared.tables.CrossingTable.{CrossingTable}
use Rattle.text.specs.Output.{room, put}
use Rattle.rules.specs.Kinds.{of_stored}
use Rattle.rules.specs.declared.stored.StoredRule.{StoredRule}
use Rattle.alphabets.specs.Plain.{letter_count}
use Rattle.alphabets.specs.declared.plain.PlainLetters.{PlainLetters}
use Rattle.dfa.specs.declared.rows.DfaRow.{DfaRow}
use Rattle.dfa.specs.Known.{known}
use Rattle.dfa.specs.Filled.{capacity, too_few}
use Rattle.dfa.specs.Asked.{verdict_in, row_at}
use Rattle.dfa.proofs.Following.{leads_at, sound_leads}
use Rattle.engine.specs.declared.calls.Engine.{Engine}
use Rattle.engine.specs.Calls.{fresh, with_rows, build_answer, build_rows, build_tables, build_dfa}
use Rattle.engine.specs.Runs.{InUse, force_built}
use Rattle.engine.proofs.Lawfully.{used, ask_right_by}
use Rattle.listings.specs.Listing.{listing, cell_of}
use Rattle.listings.specs.Listed.{sound, damaged, listed_answer, listed_bytes}
use Rattle.spelling.specs.Spells.{Spells}
use Rattle.spelling.specs.Judged.{Spelled}
use Rattle.spelling.specs.Reading.{sheet_read}
use Rattle.spelling.proofs.Spelled.{read_is_spelled, spelled_lawful}
use Rattle.folding.specs.Folded.{Lent, Folded, listed, after_build, built, folded, ListsRule}

-- the letters of a rule are as many as plain letters can be
pub plain_count : (m : ℕ) → 1 ≤ m → m ≤ 16 → letter_count m ≡ m
plain_count m l h = omega arith

-- the rows in use after a build that was taken
built_rows : (A : Automaton) (c p k n : ℕ) → Ok n ≡ build_answer A c p → build_rows A c p k ≡ n
built_rows A c p k n e = go (eqb A.letters c) (too_few A p) e where
  go : (b f : Bool) → Ok n ≡ cond b (cond f (Err (unplaced TooFewPlaces)) (Ok (length (known A p)))) (Err (unplaced LettersDiffer)) → cond b (cond f 0 (length (known A p))) k ≡ n
  go true false q = cc
  go true true q = absurd (let z : ◌≡◌ {A = ℕ} 0 1 = cc in omega arith)
  go false f q = absurd (let z : ◌≡◌ {A = ℕ} 0 1 = cc in omega arith)

pub fold_done : (b : List ℕ) (rule : StoredRule) (letters : PlainLetters) (e e' : Engine StoredRule PlainLetters) (x : Lent) (n : ℕ) (ts : List CrossingTable) (ds : List DfaRow) (r : Result ℕ Refusal) (o : List ℕ)
    → Ok (of_stored rule) ≡ sheet_read b
    → letters.count ≡ (of_stored rule).letters
    → e ≡ fresh rule letters
    → Ok n ≡ build_answer (of_stored e.rule) e.alphabet.count (capacity x.tables x.dfa)
    → e' ≡ with_rows e (build_rows (of_stored e.rule) e.alphabet.count (capacity x.tables x.dfa) e.rows)
    → ts ≡ build_tables (of_stored e.rule) e.alphabet.count (capacity x.tables x.dfa) x.tables
    → ds ≡ build_dfa (of_stored e.rule) e.alphabet.count (capacity x.tables x.dfa) x.dfa
    → r ≡ listed_answer e'.rows e'.alphabet.count ds x.out
    → o ≡ listed_bytes e'.rows e'.alphabet.count ds x.out
    → record { answer = r; left = record { tables = ts; dfa = ds; out = o } } ≡ folded (sheet_read b) x
fold_done b rule letters e e' x n ts ds r o read count new answer after tables dfa told bytes =
    let A = of_stored rule in
    let p = capacity x.tables x.dfa in
    let a_is : of_stored e.rule ≡ A = ap (λ (t : Engine StoredRule PlainLetters). of_stored t.rule) new in
    let c_is : e.alphabet.count ≡ A.letters = ap (λ (t : Engine StoredRule PlainLetters). t.alphabet.count) new ∙ count in
    let rows : e'.rows ≡ n = ap (λ (t : Engine StoredRule PlainLetters). t.rows) after ∙ built_rows (of_stored e.rule) e.alphabet.count p e.rows n answer in
    let same : e'.alphabet.count ≡ A.letters = ap (λ (t : Engine StoredRule PlainLetters). t.alphabet.count) after ∙ c_is in
    let built_ts : ts ≡ (built A x).tables = tables ∙ λ i. build_tables (a_is i) (c_is i) p x.tables in
    let built_ds : ds ≡ (built A x).dfa = dfa ∙ λ i. build_dfa (a_is i) (c_is i) p x.dfa in
    let taken : build_answer A A.letters p ≡ Ok n = sym (answer ∙ λ i. build_answer (a_is i) (c_is i) p) in
    let r_is : r ≡ listed_answer n A.letters (built A x).dfa x.out = told ∙ λ i. listed_answer (rows i) (same i) (built_ds i) x.out in
    let o_is : o ≡ listed_bytes n A.letters (built A x).dfa x.out = bytes ∙ λ i. listed_bytes (rows i) (same i) (built_ds i) x.out in
    let all : record { answer = r; left = record { tables = ts; dfa = ds; out = o } } ≡ listed n A.letters (built A x) =
    λ i. record { answer = r_is i; left = record { tables = built_ts i; dfa = built_ds i; out = o_is i } } in
    all ∙ (ap (λ (a : Result ℕ Refusal). after_build A.letters a (built A x)) (sym taken) ∙ ap (λ (t : Result Automaton Refusal). folded t x) read)

-- a listing that was taken: its rows are sound, and its bytes stand in front
pub record Taken (n m : ℕ) (ds : List DfaRow) (out left : List ℕ) (k : ℕ) : Type 0 where
  pub some : 0 < n
  pub whole : sound n m ds n ≡ true
  pub text : take k left ≡ listing n m ds

taken_by : (n m : ℕ) (ds : List DfaRow) (out : List ℕ) (k : ℕ) → listed_answer n m ds out ≡ Ok k → Taken n m ds out (listed_bytes n m ds out) k
taken_by n m ds out k e = go (eqb n 0) (damaged n m ds) refl refl e where
  put_front : (fits : Bool) → ok_or (cond fits (Some (length (listing n m ds))) None) (unplaced ListingTooLong) ≡ Ok k → take k (cond fits (listing n m ds ++ drop (length (listing n m ds)) out) out) ≡ listing n m ds
  put_front true q = let same : length (listing n m ds) ≡ k = cc in take_at (listing n m ds) (drop (length (listing n m ds)) out) k same
  put_front false q = absurd (let z : ◌≡◌ {A = ℕ} 0 1 = cc in omega arith)

  go : (z d : Bool) → eqb n 0 ≡ z → damaged n m ds ≡ d
      → cond z (Err (unplaced NoRows)) (cond d (Err (unplaced DamagedTable)) (ok_or (room (listing n m ds) out) (unplaced ListingTooLong))) ≡ Ok k
      → Taken n m ds out (cond z out (cond d out (put (listing n m ds) out))) k
  go true d p q r = absurd (let z : ◌≡◌ {A = ℕ} 0 1 = cc in omega arith)
  go false true p q r = absurd (let z : ◌≡◌ {A = ℕ} 0 1 = cc in omega arith)
  go false false p q r = record {
    some = elim (cases_lt 0 n) [ inl l ↦ l | inr g ↦ absurd (eqb-false n 0 p (omega arith)) ];
    whole = not-false _ (or_parts _ _ q).1;
    text = put_front _ r;
  }

-- letters lead from row to row in use
sound_row : (n m : ℕ) (ds : List DfaRow) (k i : ℕ) → sound n m ds k ≡ true → i < k → is_some (verdict_in m n (row_at ds i)) ≡ true
sound_row n m ds zero i s l = absurd (let no : ⊥ = omega arith in no)
sound_row n m ds (suc k) i s l =
    let p = and_parts (sound n m ds k) (is_some (verdict_in m n (row_at ds k))) s in
    elim (cases_lt i k) [
      | inl h ↦ sound_row n m ds k i p.0 h
      | inr g ↦ let same : i ≡ k = omega arith in subst (λ (j : ℕ). is_some (verdict_in m n (row_at ds j)) ≡ true) (sym same) p.1
    ]

some_verdict : (o : Option Verdict) → is_some o ≡ true → (v : Verdict) × (o ≡ Some v)
some_verdict (Some v) e = (v, refl)
some_verdict None e = absurd (let z : ◌≡◌ {A = ℕ} 0 1 = cc in omega arith)

stays : (A : Automaton) (n : ℕ) (ds : List DfaRow) → sound n A.letters ds n ≡ true → (w : List ℕ) → Word A w → (i : ℕ) → i < n → reached (λ j a. cell_of (row_at ds j) a) i w < n
stays A n ds s [] ww i l = l
stays A n ds s (a ∷ w) ww i l =
    let v = some_verdict (verdict_in A.letters n (row_at ds i)) (sound_row n A.letters ds n i s l) in
    stays A n ds s w ww.1 (cell_of (row_at ds i) a) (leads_at A.letters a n (row_at ds i) ww.0 (sound_leads A.letters n (row_at ds i) v.0 v.1))

-- what a build that was taken has in force
in_use : (A : Automaton) → Lawful A → (p n : ℕ) (ds : List DfaRow) → build_answer A A.letters p ≡ Ok n → InUse A A.letters (Some (build_dfa A A.letters p ds)) n
in_use A law p n ds e =
    let fresh_use : InUse A A.letters None 0 = record { none = λ z. refl; some = λ xs z. absurd (let w : ◌≡◌ {A = ℕ} 0 1 = cc in omega arith) } in
    let u = used A law A.letters p ds None 0 fresh_use in
    let forced : force_built (build_answer A A.letters p) (build_dfa A A.letters p ds) None ≡ Some (build_dfa A A.letters p ds) = ap (λ (a : Result ℕ Refusal). force_built a (build_dfa A A.letters p ds) None) e in
    let rows : build_rows A A.letters p 0 ≡ n = built_rows A A.letters p 0 n (sym e) in
    subst (λ (k : ℕ). InUse A A.letters (Some (build_dfa A A.letters p ds)) k) rows
    (subst (λ (o : Option (List DfaRow)). InUse A A.letters o (build_rows A A.letters p 0)) forced u)

lists : (b : List ℕ) (A : Automaton) → Spells b A → (x : Lent) (n k : ℕ) → build_answer A A.letters (capacity x.tables x.dfa) ≡ Ok n
    → (listed n A.letters (built A x)).answer ≡ Ok k → ListsRule b (take k (listed n A.letters (built A x)).left.out)
lists b A s x n k e q =
    let ds = (built A x).dfa in
    let t = taken_by n A.letters ds x.out k q in
    let u = in_use A (spelled_lawful b A s) (capacity x.tables x.dfa) n x.dfa e in
    record {
      rule = A;
      spells = s;
      rows = n;
      dfa = ds;
      lists = t.text;
      within = λ w ww. stays A n ds t.whole w ww 0 t.some;
      decides = λ w ww. let v = (ask_right_by A (spelled_lawful b A s) A.letters (Some ds) n u ds w (λ z. ww)).told refl in (v.0, v.2, v.3);
    }

by_build : (b : List ℕ) (A : Automaton) → Spells b A → (x : Lent) (a r : Result ℕ Refusal) → build_answer A A.letters (capacity x.tables x.dfa) ≡ a
    → r ≡ (after_build A.letters a (built A x)).answer → IfOk r (λ n. ListsRule b (take n (after_build A.letters a (built A x)).left.out))
by_build b A s x (Ok n) (Ok k) e q = lists b A s x n k e (sym q)
by_build b A s x (Ok n) (Err f) e q = tt
by_build b A s x (Err f) (Ok k) e q = absurd (let z : ◌≡◌ {A = ℕ} 0 1 = cc in omega arith)
by_build b A s x (Err f) (Err g) e q = tt

by_read : (b : List ℕ) (t : Result Automaton Refusal) → Spelled b t → (x : Lent) (r : Result ℕ Refusal) → r ≡ (folded t x).answer → IfOk r (λ n. ListsRule b (take n (folded t x).left.out))
by_read b (Ok A) s x r q = by_build b A s.0 x (build_answer A A.letters (capacity x.tables x.dfa)) r refl q
by_read b (Err f) s x (Ok k) q = absurd (let z : ◌≡◌ {A = ℕ} 0 1 = cc in omega arith)
by_read b (Err f) s x (Err g) q = tt

pub folded_lists : (b : List ℕ) (x : Lent) (y : Folded) → y ≡ folded (sheet_read b) x → IfOk y.answer (λ n. ListsRule b (take n y.left.out))
folded_lists b x y e = subst (λ (z : Folded). IfOk z.answer (λ n. ListsRule b (take n z.left.out))) (sym e) (by_read b (sheet_read b) (read_is_spelled b) x (folded (sheet_read b) x).answer refl)
