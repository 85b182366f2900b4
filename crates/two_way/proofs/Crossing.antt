-- A table's answers are where the run comes out.
use Rattle.std.proofs.Common.{◌≡◌, ℕ, zero, suc, ◌-◌, ◌<◌, ◌≤◌, ◌↔◌, Some, None, Option, sym, refl, ap, ◌∙◌, subst, arith}
use native.Mathlib.Decide.{dec_le}
use Rattle.two_way.specs.Automaton.{Automaton, left_end, right_end, Way, L, R, to, way}
use Rattle.two_way.specs.Runs.{moved}
use Rattle.two_way.specs.Tables.{Table, Turn, on, stop, crossing, cross, empty_table, extended}
use Rattle.two_way.proofs.Loops.{clash, run, or_else, Ends, ends, goes, run_ends, ends_run, bound_states, follow_run}
use Rattle.two_way.proofs.Sound.{Sound}

-- from state q at position j, the run comes in state p to the position after i, having stayed at i or before it
pub data Leaves (A : Automaton) (c : ℕ → ℕ) (i p : ℕ) : ℕ → ℕ → Type 0 where
  out : {q j : ℕ} → j ≡ i → way A q (c j) ≡ R → to A q (c j) ≡ p → Leaves A c i p q j
  stay : {q j : ℕ} → moved (way A q (c j)) j ≤ i → Leaves A c i p (to A q (c j)) (moved (way A q (c j)) j) → Leaves A c i p q j

-- the table at each position
abbrev pub table_at : Automaton → (ℕ → ℕ) → ℕ → Table
table_at A c zero = empty_table A
table_at A c (suc i) = extended A (table_at A c i) (c (suc i))

down : (i : ℕ) → suc i - 1 ≡ i
down i = omega arith

crossing_R : (A : Automaton) (T : ℕ → Option ℕ) (a p q : ℕ) → way A p a ≡ R → to A p a ≡ q → crossing A T a p ≡ stop (Some q)
crossing_R A T a p q e e' = cc

crossing_L : (A : Automaton) (T : ℕ → Option ℕ) (a p o : ℕ) → way A p a ≡ L → T (to A p a) ≡ Some o → crossing A T a p ≡ on o
crossing_L A T a p o e e' = cc

pub crossing_on : (A : Automaton) (T : ℕ → Option ℕ) (a q b : ℕ) → crossing A T a q ≡ on b → (way A q a ≡ L) × (T (to A q a) ≡ Some b)
crossing_on A T a q b e = go (way A q a) refl (T (to A q a)) refl
  where
    go : (w : Way) → way A q a ≡ w → (o : Option ℕ) → T (to A q a) ≡ o → (way A q a ≡ L) × (T (to A q a) ≡ Some b)
    go R e₁ o e₂ = clash cc
    go L e₁ None e₂ = clash cc
    go L e₁ (Some o) e₂ = (e₁, cc)

pub crossing_stop : (A : Automaton) (T : ℕ → Option ℕ) (a q p : ℕ) → crossing A T a q ≡ stop (Some p) → (way A q a ≡ R) × (to A q a ≡ p)
crossing_stop A T a q p e = go (way A q a) refl (T (to A q a)) refl
  where
    go : (w : Way) → way A q a ≡ w → (o : Option ℕ) → T (to A q a) ≡ o → (way A q a ≡ R) × (to A q a ≡ p)
    go R e₁ o e₂ = (e₁, cc)
    go L e₁ None e₂ = clash cc
    go L e₁ (Some o) e₂ = clash cc

-- the crossing of a letter, by the number of its turns
pub cross_run : (A : Automaton) (T : ℕ → Option ℕ) (a p : ℕ) → cross A T a p ≡ or_else None (run (crossing A T a) (suc A.states) p)
unfolding cross
cross_run A T a p = follow_run None (crossing A T a) (suc A.states) p

or_some : (o : Option (Option ℕ)) (p : ℕ) → or_else None o ≡ Some p → o ≡ Some (Some p)
or_some None p e = clash cc
or_some (Some o) p e = cc

pub cross_ends : (A : Automaton) (T : ℕ → Option ℕ) (a q p : ℕ) → cross A T a q ≡ Some p → (n : ℕ) × Ends (crossing A T a) (Some p) q n
cross_ends A T a q p e =
    let r = run_ends (crossing A T a) (suc A.states) q (Some p) (or_some (run (crossing A T a) (suc A.states) q) p (sym (cross_run A T a q) ∙ e)) in (r.0, r.2)

ends_cross : (A : Automaton) (T : ℕ → Option ℕ) (a : ℕ) {q p n : ℕ} → Ends (crossing A T a) (Some p) q n → n ≤ A.states → cross A T a q ≡ Some p
ends_cross A T a {q} d h = cross_run A T a q ∙ ap (or_else None) (ends_run (crossing A T a) d (suc A.states) (omega arith))

module _ (A : Automaton) (law : Sound A) (c : ℕ → ℕ) (c_left : c 0 ≡ left_end A) (c_in : (i : ℕ) → c i ≤ right_end A) where
  pub leaves_in : {i p q j : ℕ} → q < A.states → Leaves A c i p q j → p < A.states
  leaves_in {q = q} {j = j} h (out e r e') = let z = law.inside q (c j) h (c_in j) in rw e' at z
  leaves_in {q = q} {j = j} h (stay l d) = leaves_in (law.inside q (c j) h (c_in j)) d

  -- inside i, then from the position after i on
  glue : {i p o q j : ℕ} → Leaves A c i o q j → Leaves A c (suc i) p o (suc i) → Leaves A c (suc i) p q j
  glue {i} {p} {o} {q} {j} (out e r e') d =
      stay (rw (r, e) (omega arith)) (rw (r, e', e) d)
  glue (stay l d) d' = stay (omega arith) (glue d d')

  -- one more step inside i, before the run stands after i in a state of which X holds
  pub inner : (X : ℕ → Type 0) (i q j : ℕ) → j ≤ i
      → (moved (way A q (c j)) j ≡ suc i → X (to A q (c j)))
      → (moved (way A q (c j)) j ≤ i → (o : ℕ) × Leaves A c i o (to A q (c j)) (moved (way A q (c j)) j) × X o)
      → (o : ℕ) × Leaves A c i o q j × X o
  inner X i q j l s t = go (way A q (c j)) refl
    where
      go : (w : Way) → way A q (c j) ≡ w → (o : ℕ) × Leaves A c i o q j × X o
      go L e = let z : moved (way A q (c j)) j ≤ i = rw e (omega arith) in let r = t z in (r.0, stay z r.1, r.2)
      go R e = at (dec_le (suc j) i)
        where
          at : Dec (suc j ≤ i) → (o : ℕ) × Leaves A c i o q j × X o
          at (yes y) = let z : moved (way A q (c j)) j ≤ i = rw e y in let r = t z in (r.0, stay z r.1, r.2)
          at (no n) = (to A q (c j), out (omega arith) e refl, s (rw e (omega arith)))

  -- the crossing at i + 1 from state q there comes out in p
  Comes : ℕ → ℕ → ℕ → Type 0
  Comes i p q = (n : ℕ) × Ends (crossing A (table_at A c i).at (c (suc i))) (Some p) q n

  Told : ℕ → Type 0
  Told i = (q p : ℕ) → q < A.states → Leaves A c i p q i → (table_at A c i).at q ≡ Some p

  split : (i : ℕ) → Told i → {p q j : ℕ} → q < A.states → Leaves A c (suc i) p q j
      → (j ≡ suc i → Comes i p q) × (j ≤ i → (o : ℕ) × Leaves A c i o q j × Comes i p o)
  unfolding Comes Told
  split i ih {p} {q} {j} h (out e r e') =
      (λ _. (0, ends (crossing_R A (table_at A c i).at (c (suc i)) q p (rw e at r) (rw e at e'))), λ l. absurd (omega arith))
  split i ih {p} {q} {j} h (stay l d) =
      let s = split i ih (law.inside q (c j) h (c_in j)) d in
      (λ jh. go (way A q (c j)) refl jh s.1, λ jl. inner (Comes i p) i q j jl s.0 s.1)
    where
      go : (w : Way) → way A q (c j) ≡ w → j ≡ suc i
          → (moved (way A q (c j)) j ≤ i → (o : ℕ) × Leaves A c i o (to A q (c j)) (moved (way A q (c j)) j) × Comes i p o)
          → Comes i p q
      go R e jh s = let z : suc j ≤ suc i = rw e at l in absurd (omega arith)
      go L e jh s =
          let m : moved (way A q (c j)) j ≡ i = rw e (omega arith) in
          let t = s (rw m (omega arith)) in
          let b : Leaves A c i t.0 (to A q (c (suc i))) i =
          subst (λ (y : ℕ). Leaves A c i t.0 (to A q (c (suc i))) y) m
          (subst (λ (x : ℕ). Leaves A c i t.0 (to A q (c x)) (moved (way A q (c j)) j)) jh t.1) in
          (suc t.2.0, goes (crossing_L A (table_at A c i).at (c (suc i)) q t.0 (rw jh at e) (ih (to A q (c (suc i))) t.0 (law.inside q (c (suc i)) h (c_in (suc i))) b)) t.2.1)

  -- back from the crossing's turns to the run's steps
  joined : (i : ℕ) → ((q p : ℕ) → q < A.states → (table_at A c i).at q ≡ Some p → Leaves A c i p q i) → {p q n : ℕ} → q < A.states
      → Ends (crossing A (table_at A c i).at (c (suc i))) (Some p) q n → Leaves A c (suc i) p q (suc i)
  joined i ih {p} {q} h (ends e) = let v = crossing_stop A (table_at A c i).at (c (suc i)) q p e in out refl v.0 v.1
  joined i ih {p} {q} h (goes {x' = b} e d) =
      let v = crossing_on A (table_at A c i).at (c (suc i)) q b e in
      let inn = law.inside q (c (suc i)) h (c_in (suc i)) in
      let x = ih (to A q (c (suc i))) b inn v.1 in
      stay (rw v.0 (omega arith)) (rw (v.0, down i) (glue x (joined i ih (leaves_in inn x) d)))

  mutual_told : (i : ℕ) → ((q p : ℕ) → q < A.states → (table_at A c i).at q ≡ Some p → Leaves A c i p q i) × Told i
  unfolding Told Comes
  mutual_told zero = (
    λ q p h e. out refl (rw c_left (law.left_gives_R q h)) (rw c_left cc),
    λ q p h d. first_told q p h d,
  )
    where
      first_told : (q p : ℕ) → q < A.states → Leaves A c 0 p q 0 → Some (to A q (left_end A)) ≡ Some p
      first_told q p h (out e r e') = cc
      first_told q p h (stay l d) =
          let z : way A q (c 0) ≡ R = rw c_left (law.left_gives_R q h) in
          let z' : 1 ≤ 0 = rw z at l in absurd (omega arith)
  mutual_told (suc i) = go (mutual_told i)
    where
      go : ((q p : ℕ) → q < A.states → (table_at A c i).at q ≡ Some p → Leaves A c i p q i) × Told i
          → ((q p : ℕ) → q < A.states → (table_at A c (suc i)).at q ≡ Some p → Leaves A c (suc i) p q (suc i)) × Told (suc i)
      go ih = (λ q p h e. there q p h e, λ q p h d. back' q p h ((split i ih.1 h d).0 refl))
        where
          f : ℕ → Turn ℕ (Option ℕ)
          f = crossing A (table_at A c i).at (c (suc i))

          there : (q p : ℕ) → q < A.states → (table_at A c (suc i)).at q ≡ Some p → Leaves A c (suc i) p q (suc i)
          there q p h e = joined i ih.0 h (cross_ends A (table_at A c i).at (c (suc i)) q p e).1

          keeps : (a b : ℕ) → a < A.states → f a ≡ on b → b < A.states
          keeps a b h e =
              let v = crossing_on A (table_at A c i).at (c (suc i)) a b e in
              let inn = law.inside a (c (suc i)) h (c_in (suc i)) in
              leaves_in inn (ih.0 (to A a (c (suc i))) b inn v.1)

          back' : (q p : ℕ) → q < A.states → Comes i p q → (table_at A c (suc i)).at q ≡ Some p
          back' q p h x = ends_cross A (table_at A c i).at (c (suc i)) x.1 (bound_states f A.states keeps h x.1)

  -- what a table answers is where the run comes out, over any columns
  pub table_tells : (i q p : ℕ) → q < A.states → ((table_at A c i).at q ≡ Some p) ↔ Leaves A c i p q i
  unfolding Told
  table_tells i q p h = ((mutual_told i).0 q p h, (mutual_told i).1 q p h)

  -- the same of the first arrival
  pub first_tells : (i p : ℕ) → ((table_at A c i).first ≡ Some p) ↔ Leaves A c i p A.start 0
  unfolding Comes
  first_tells zero p = table_tells 0 A.start p law.start_in
  first_tells (suc i) p = (λ e. there (λ o. (first_tells i o).0) (table_at A c i).first refl e, λ d. back' (λ o. (first_tells i o).1) ((split i (mutual_told i).1 law.start_in d).1 (omega arith)))
    where
      there : ((o : ℕ) → (table_at A c i).first ≡ Some o → Leaves A c i o A.start 0)
          → (o : Option ℕ) → (table_at A c i).first ≡ o → (table_at A c (suc i)).first ≡ Some p → Leaves A c (suc i) p A.start 0
      there ih None e e' = clash cc
      there ih (Some o) e e' =
          let x = ih o e in
          let z : (table_at A c (suc i)).at o ≡ Some p = cc in
          glue x ((table_tells (suc i) o p (leaves_in law.start_in x)).0 z)

      back' : ((o : ℕ) → Leaves A c i o A.start 0 → (table_at A c i).first ≡ Some o)
          → (o : ℕ) × Leaves A c i o A.start 0 × Comes i p o → (table_at A c (suc i)).first ≡ Some p
      back' ih x =
          let e = ih x.0 x.1 in
          let h = leaves_in law.start_in x.1 in
          let z = (table_tells (suc i) x.0 p h).1 (joined i (mutual_told i).0 h x.2.1) in
          cc
