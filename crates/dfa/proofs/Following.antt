-- A turn of an ask.
use Rattle.std.proofs.Common.{◌≡◌, ℕ, zero, suc, ◌+◌, ◌<◌, ◌≤◌, Bool, true, false, cond, ◌≢◌, ◌&&◌, ltb, eqb, List, [], ◌∷◌, map, length, get_or, take, drop, is_some, Some, None, Err, Option, sym, refl, ap, ◌∙◌, add-one, arith, le-ltb, lt-ltb, ne_eqb, get_or-take, length-take-le}
use native.Mathlib.Decide.{dec_lt, ℕ_discrete}
use Rattle.std.specs.Option.{ok_or}
use Rattle.std.specs.List.{list_all}
use Rattle.std.proofs.lemmas.List.{drop_more, get_or_past, take_all}
use Rattle.std.proofs.Math.Bool.{and-true, and-false}
use Rattle.std.proofs.lemmas.List.Folds.{list_all_more}
use Rattle.std.proofs.lemmas.Bool.{and_parts, ltb-true, ltb-false, eqb-false}
use Rattle.two_way.specs.declared.Verdict.{Verdict}
use Rattle.two_way.specs.Verdicts.{named}
use Rattle.refusals.specs.declared.fault.Fault.TheVariants.{NoRows, DamagedTable}
use Rattle.refusals.specs.Line.{unplaced}
use Rattle.dfa.specs.declared.rows.DfaRow.{DfaRow}
use Rattle.dfa.specs.Rows.{blank_row}
use Rattle.dfa.specs.Shelved.{unshelved}
use Rattle.dfa.specs.Asked.{leads, verdict_in, row_at, next_row, followed, asked}

-- with no row in use no cell leads on
none_lead : (m : ℕ) (d : DfaRow) → 1 ≤ m → leads m 0 d ≡ false
none_lead zero d h = absurd (let z : ⊥ = omega arith in z)
none_lead (suc m) d h = ap (λ b. leads m 0 d && b) (le-ltb (get_or d.cells m 0) 0 (omega arith)) ∙ and-false (leads m 0 d)

-- a test of the first m cells; there are some, and past them a letter leads to row 0
pub leads_all : (m n : ℕ) (d : DfaRow) → 0 < length d.cells → list_all (λ k. ltb k n) (take m d.cells) ≡ leads m n d
leads_all zero n d h = refl
leads_all (suc m) n d h = go (dec_lt m (length d.cells)) (leads_all m n d h)
  where
    past : length d.cells ≤ m → Dec (0 < n) → leads m n d ≡ leads m n d && ltb 0 n
    past l (yes low) = sym (and-true (leads m n d)) ∙ ap (λ b. leads m n d && b) (sym (lt-ltb 0 n low))
    past l (no none) =
        let e : 0 ≡ n = omega arith in
        let f : leads m n d ≡ false = ap (λ k. leads m k d) (sym e) ∙ none_lead m d (omega arith) in
        f ∙ ap (λ b. b && ltb 0 n) (sym f)

    go : Dec (m < length d.cells) → list_all (λ k. ltb k n) (take m d.cells) ≡ leads m n d → list_all (λ k. ltb k n) (take (suc m) d.cells) ≡ leads (suc m) n d
    go (yes l) ih = ap (λ j. list_all (λ k. ltb k n) (take j d.cells)) (sym (add-one m)) ∙ list_all_more (λ k. ltb k n) d.cells m 0 l ∙ ap (λ b. b && ltb (get_or d.cells m 0) n) ih
    go (no l) ih =
        let cell : get_or d.cells m 0 ≡ 0 = get_or_past d.cells m 0 (omega arith) in
        let all = ap (list_all (λ k. ltb k n)) (take_all (suc m) d.cells (omega arith) ∙ sym (take_all m d.cells (omega arith))) in
        all ∙ ih ∙ past (omega arith) (dec_lt 0 n) ∙ ap (λ c. leads m n d && ltb c n) (sym cell)

-- each of the first m cells is a row in use
pub leads_at : (m a n : ℕ) (d : DfaRow) → a < m → leads m n d ≡ true → get_or d.cells a 0 < n
leads_at zero a n d h e = absurd (let z : ⊥ = omega arith in z)
leads_at (suc m) a n d h e = go (ℕ_discrete a m) (leads_at m a n d)
  where
    p : (leads m n d ≡ true) × (ltb (get_or d.cells m 0) n ≡ true)
    p = and_parts (leads m n d) (ltb (get_or d.cells m 0) n) e

    go : Dec (a ≡ m) → (a < m → leads m n d ≡ true → get_or d.cells a 0 < n) → get_or d.cells a 0 < n
    go (yes z) ih = rw z (ltb-true (get_or d.cells m 0) n p.1)
    go (no z) ih = ih (omega arith) p.0

-- a row that has a verdict leads on
pub sound_leads : (m n : ℕ) (d : DfaRow) (v : Verdict) → verdict_in m n d ≡ Some v → leads m n d ≡ true
sound_leads m n d v e = go (leads m n d) refl
  where
    go : (b : Bool) → leads m n d ≡ b → leads m n d ≡ true
    go true f = f
    go false f = let z : ◌≡◌ {A = Option Verdict} None (Some v) = sym (ap (λ b. cond b (named d.verdict) None) f) ∙ e in absurd (let y : ◌≡◌ {A = ℕ} 0 1 = cc in omega arith)

-- a mark more, from a row that leads on
pub followed_more : {X : Type 0} (letter : X → ℕ) (m n : ℕ) (ds : List DfaRow) (ms : List X) (i j k : ℕ) (x : X) → j < length ms → x ≡ get_or ms j x → Some k ≡ next_row m n ds i (letter x)
    → followed m n ds i (map letter (drop j ms)) ≡ followed m n ds k (map letter (drop (j + 1) ms))
followed_more letter m n ds ms i j k x h e s =
    ap (λ ys. followed m n ds i (map letter ys)) (drop_more ms j x h ∙ ap (λ y. y ∷ drop (j + 1) ms) (sym e)) ∙ turn (verdict_in m n (row_at ds i)) s
  where
    turn : (v : Option Verdict) → Some k ≡ cond (is_some v) (Some (get_or (row_at ds i).cells (letter x) 0)) None
        → cond (is_some v) (followed m n ds (get_or (row_at ds i).cells (letter x) 0) (map letter (drop (j + 1) ms))) None ≡ followed m n ds k (map letter (drop (j + 1) ms))
    turn (Some v) z = let q : k ≡ get_or (row_at ds i).cells (letter x) 0 = cc in ap (λ r. followed m n ds r (map letter (drop (j + 1) ms))) (sym q)
    turn None z = absurd (let y : ◌≡◌ {A = ℕ} 0 1 = cc in omega arith)

pub next_low : (m n : ℕ) (ds : List DfaRow) (i a k : ℕ) → a < m → Some k ≡ next_row m n ds i a → k < n
next_low m n ds i a k l s = turn (verdict_in m n (row_at ds i)) refl s
  where
    turn : (v : Option Verdict) → verdict_in m n (row_at ds i) ≡ v → Some k ≡ cond (is_some v) (Some (get_or (row_at ds i).cells a 0)) None → k < n
    turn (Some v) e z = let q : k ≡ get_or (row_at ds i).cells a 0 = cc in omega (arith, leads_at m a n (row_at ds i) l (sound_leads m n (row_at ds i) v e))
    turn None e z = absurd (let y : ◌≡◌ {A = ℕ} 0 1 = cc in omega arith)

-- over the rows in use
pub row_taken : (n i : ℕ) (ds : List DfaRow) → i < n → row_at (take n ds) i ≡ row_at ds i
row_taken n i ds h = get_or-take n ds i blank_row h

-- rows that are not refused are some, and no more than there are
pub shelved : (n : ℕ) (ds : List DfaRow) → unshelved n ds ≡ None → (0 < n) × (n ≤ length ds)
shelved n ds e = go (eqb n 0) (ltb (length ds) n) refl refl e
  where
    go : (a b : Bool) → eqb n 0 ≡ a → ltb (length ds) n ≡ b → cond a (Some (unplaced NoRows)) (cond b (Some (unplaced DamagedTable)) None) ≡ None → (0 < n) × (n ≤ length ds)
    go true b x y z = absurd (let w : ⊥ = cc in w)
    go false true x y z = absurd (let w : ⊥ = cc in w)
    go false false x y z = let some : n ≢ 0 = eqb-false n 0 x in (omega arith, ltb-false (length ds) n y)

pub asked_is : (m n : ℕ) (ds : List DfaRow) (w : List ℕ) → 0 < n → n ≤ length ds → asked m n ds w ≡ ok_or (followed m n ds 0 w) (unplaced DamagedTable)
asked_is m n ds w a b =
    ap (λ t. cond t (Err (unplaced NoRows)) (cond (ltb (length ds) n) (Err (unplaced DamagedTable)) (ok_or (followed m n ds 0 w) (unplaced DamagedTable)))) (ne_eqb n 0 (λ z. omega arith))
    ∙ ap (λ t. cond t (Err (unplaced DamagedTable)) (ok_or (followed m n ds 0 w) (unplaced DamagedTable))) (le-ltb (length ds) n b)

module _ {X : Type 0} (letter : X → ℕ) (m n : ℕ) (ds : List DfaRow) (low : (x : X) → letter x < m) where
  followed_taken : (ms : List X) (i : ℕ) → i < n → followed m n (take n ds) i (map letter ms) ≡ followed m n ds i (map letter ms)
  followed_taken [] i h = ap (verdict_in m n) (row_taken n i ds h)
  followed_taken (x ∷ ms) i h =
      ap (λ (d : DfaRow). cond (is_some (verdict_in m n d)) (followed m n (take n ds) (get_or d.cells (letter x) 0) (map letter ms)) None) (row_taken n i ds h)
      ∙ turn (verdict_in m n (row_at ds i)) refl (followed_taken ms)
    where
      c : ℕ
      c = get_or (row_at ds i).cells (letter x) 0

      turn : (o : Option Verdict) → verdict_in m n (row_at ds i) ≡ o → ((j : ℕ) → j < n → followed m n (take n ds) j (map letter ms) ≡ followed m n ds j (map letter ms))
          → cond (is_some o) (followed m n (take n ds) c (map letter ms)) None ≡ cond (is_some o) (followed m n ds c (map letter ms)) None
      turn None e ih = refl
      turn (Some v) e ih = ih c (leads_at m (letter x) n (row_at ds i) (low x) (sound_leads m n (row_at ds i) v e))

  -- what is asked of a shelf
  pub asked_taken : (k : ℕ) (xs : List DfaRow) (ms : List X) → unshelved n ds ≡ None → xs ≡ take n ds → k ≡ m
      → ok_or (followed k (length xs) xs 0 (map letter ms)) (unplaced DamagedTable) ≡ asked m n ds (map letter ms)
  asked_taken k xs ms u e z =
      let p = shelved n ds u in
      let long : length xs ≡ n = ap length e ∙ length-take-le n ds p.1 in
      ap (λ o. ok_or o (unplaced DamagedTable)) ((λ i. followed (z i) (long i) (e i) 0 (map letter ms)) ∙ followed_taken ms 0 p.0) ∙ sym (asked_is m n ds (map letter ms) p.0 p.1)
