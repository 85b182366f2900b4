-- The verdict of the table of a word is the verdict of the run on it.
use Rattle.std.proofs.Common.{◌≡◌, ℕ, zero, suc, ◌+◌, ◌-◌, ◌<◌, ◌≤◌, ◌⊎◌, ◌↔◌, Some, None, Option, sym, refl, ap, ◌∙◌, subst, inl, inr, arith}
use mathlib.Core.Path.{fun_ext}
use Rattle.two_way.specs.declared.Verdict.{Verdict}
use Rattle.two_way.specs.Automaton.{Automaton, right_end, L, to, way}
use Rattle.two_way.specs.Runs.{Config, step, begin, Enters, now, later, Going}
use Rattle.two_way.specs.Tables.{Table, Turn, on, stop, arriving, ending, verdict}
use Rattle.two_way.proofs.Loops.{clash, run, or_else, Ends, ends, goes, run_ends, ends_run, bound_states, follow_run}
use Rattle.two_way.proofs.Sound.{Halts, Sound}
use Rattle.two_way.proofs.Crossing.{Leaves, out, stay, table_at, leaves_in, inner, table_tells, first_tells}
use Rattle.two_way.proofs.Halting.{Final, stepping, sieve_halts, sieve_goes, sieve_on, sieve_stop, final_halts, final_one, final_low, Tape, stepping_on, stepping_stop, enters_ends}

pub verdict_run : (A : Automaton) (T : Table) → verdict A T ≡ arriving Verdict.Loops T.first (λ p. or_else Verdict.Loops (run (ending A T.at) (suc A.states) p))
unfolding verdict
verdict_run A T = ap (arriving Verdict.Loops T.first) (fun_ext (follow_run Verdict.Loops (ending A T.at) (suc A.states)))

module _ (A : Automaton) (law : Sound A) (T : ℕ → Option ℕ) where
  into : ℕ → Turn ℕ Verdict
  into q = arriving (stop Verdict.Loops) (T (to A q (right_end A))) on

  -- a turn at the right end that goes on
  pub ending_on : (q b : ℕ) → ending A T q ≡ on b → T (to A q (right_end A)) ≡ Some b
  unfolding into
  ending_on q b e = go (T (to A q (right_end A))) refl
    where
      r : into q ≡ on b
      r = (sieve_on A law q (into q) b e).1

      go : (o : Option ℕ) → T (to A q (right_end A)) ≡ o → T (to A q (right_end A)) ≡ Some b
      go None e' = let z = r in clash cc
      go (Some o) e' = let z = r in cc

  -- a turn at the right end that stops
  ending_stop : (q : ℕ) (v : Verdict) → ending A T q ≡ stop v → Final A q v ⊎ (v ≡ Verdict.Loops)
  unfolding into
  ending_stop q v e = go (sieve_stop A law q (into q) v e) (T (to A q (right_end A))) refl
    where
      go : Final A q v ⊎ (into q ≡ stop v) → (o : Option ℕ) → T (to A q (right_end A)) ≡ o → Final A q v ⊎ (v ≡ Verdict.Loops)
      go (inl f) o e' = inl f
      go (inr r) None e' = inr cc
      go (inr r) (Some o) e' = clash cc

module _ (A : Automaton) (law : Sound A) (N : ℕ) (c : ℕ → ℕ) (tape : Tape A N c) where
  leaves_enters : {h i p q j : ℕ} → Leaves A c i p q j → Enters A c h (record { state = p; place = suc i }) → Enters A c h (record { state = q; place = j })
  leaves_enters (out e r e') d = later (rw (r, e', e) d)
  leaves_enters (stay l x) d = later (leaves_enters x d)

  -- a halting state walks to the right end
  sweep : {q : ℕ} → Halts A q → (gap j : ℕ) → j + gap ≡ N → Leaves A c N q q j
  sweep k zero j e = out (omega arith) (k.right (c j) (tape.marks j (omega arith))) (k.stays (c j) (tape.inside j))
  sweep k (suc gap) j e =
      let r = k.right (c j) (tape.marks j (omega arith)) in
      let s = k.stays (c j) (tape.inside j) in
      stay (rw r (omega arith)) (rw (r, s) (sweep k gap (suc j) (omega arith)))

  T : ℕ → Option ℕ
  T = (table_at A c N).at

  tells : (q p : ℕ) → q < A.states → (T q ≡ Some p) ↔ Leaves A c N p q N
  unfolding T
  tells q p h = table_tells A law c tape.left tape.inside N q p h

  inn : (q : ℕ) → q < A.states → to A q (right_end A) < A.states
  inn q h = law.inside q (right_end A) h (omega arith)

  ending_keeps : (q b : ℕ) → q < A.states → ending A T q ≡ on b → b < A.states
  ending_keeps q b h e = leaves_in A law c tape.left tape.inside (inn q h) ((tells (to A q (right_end A)) b (inn q h)).0 (ending_on A law T q b e))

  -- one step from the right end
  off_end : {h q : ℕ} → q < A.states → Enters A c h (record { state = to A q (right_end A); place = N }) → Enters A c h (record { state = q; place = suc N })
  off_end {h} {q} l d =
      let w : way A q (c (suc N)) ≡ L = rw tape.right (law.right_gives_L q l) in
      let z : suc N - 1 ≡ N = omega arith in
      later (rw (w, z, tape.right) d)

  ending_enters : {v : Verdict} {h q n : ℕ} → Final A h v → q < A.states → Ends (ending A T) v q n → Enters A c h (record { state = q; place = suc N })
  ending_enters {v} {h} {q} f l (ends e) = go (ending_stop A law T q v e)
    where
      go : Final A q v ⊎ (v ≡ Verdict.Loops) → Enters A c h (record { state = q; place = suc N })
      go (inl g) = now (final_one A q h v g f)
      go (inr z) = absurd (final_low A h v f z)
  ending_enters {q = q} f l (goes {x' = b} e d) =
      off_end l (leaves_enters ((tells (to A q (right_end A)) b (inn q l)).0 (ending_on A law T q b e)) (ending_enters f (ending_keeps q b l e) d))

  Met : Verdict → ℕ → Type 0
  Met v q = (n : ℕ) × Ends (ending A T) v q n

  arrivals : {v : Verdict} {x : Config} {n : ℕ} → x.state < A.states → Ends (stepping A c) v x n
      → (x.place ≡ suc N → Met v x.state) × (x.place ≤ N → (o : ℕ) × Leaves A c N o x.state x.place × Met v o)
  unfolding Met
  arrivals {v} {x} l (ends e) =
      let f = stepping_stop A law N c tape x v e in
      let s = sieve_halts A law x.state v (arriving (stop Verdict.Loops) (T (to A x.state (right_end A))) on) f in
      (λ _. (0, ends s), λ i. (x.state, sweep (final_halts A law x.state v f) (N - x.place) x.place (omega arith), (0, ends s)))
  arrivals {v} {x} l (goes {x' = y} e d) =
      let r = stepping_on A law N c tape x y e in
      let ih = subst (λ z. (z.place ≡ suc N → Met v z.state) × (z.place ≤ N → (o : ℕ) × Leaves A c N o z.state z.place × Met v o)) (sym r.1)
      (arrivals (subst (λ z. z.state < A.states) r.1 (law.inside x.state (c x.place) l (tape.inside x.place))) d) in
      (λ i. at_end i r.0 ih.1, λ i. inner A law c tape.left tape.inside (Met v) N x.state x.place i ih.0 ih.1)
    where
      at_end : x.place ≡ suc N → Going A x.state
          → ((step A c x).place ≤ N → (o : ℕ) × Leaves A c N o (step A c x).state (step A c x).place × Met v o) → Met v x.state
      at_end i g k =
          let w : way A x.state (c x.place) ≡ L = rw (i, tape.right) (law.right_gives_L x.state l) in
          let z : (step A c x).place ≡ N = rw (w, i) (omega arith) in
          let u : (step A c x).state ≡ to A x.state (right_end A) = rw (i, tape.right) in
          let t = k (rw z (omega arith)) in
          let b : Leaves A c N t.0 (to A x.state (right_end A)) N =
          subst (λ (y : ℕ). Leaves A c N t.0 (to A x.state (right_end A)) y) z (subst (λ (y : ℕ). Leaves A c N t.0 y (step A c x).place) u t.1) in
          let r = (tells (to A x.state (right_end A)) t.0 (inn x.state l)).1 b in
          let s = sieve_goes A x.state (arriving (stop Verdict.Loops) (T (to A x.state (right_end A))) on) g in
          (suc t.2.0, goes (s ∙ ap (λ o. arriving (stop Verdict.Loops) o on) r) t.2.1)

  pub verdict_of : {h : ℕ} {v : Verdict} → Final A h v → Enters A c h (begin A) → verdict A (table_at A c N) ≡ v
  unfolding T Met
  verdict_of {h} {v} f d =
      let e = enters_ends A law N c tape f d in
      let a = (arrivals {x = begin A} law.start_in e.1).1 (omega arith) in
      let x = (first_tells A law c tape.left tape.inside N a.0).1 a.1 in
      let b = bound_states (ending A T) A.states ending_keeps (leaves_in A law c tape.left tape.inside law.start_in a.1) a.2.1 in
      let r = ends_run (ending A T) a.2.1 (suc A.states) (omega arith) in
      verdict_run A (table_at A c N) ∙ cc

  pub of_verdict : {h : ℕ} {v : Verdict} → Final A h v → verdict A (table_at A c N) ≡ v → Enters A c h (begin A)
  unfolding T
  of_verdict {h} {v} f e = go (table_at A c N).first refl
    where
      go : (o : Option ℕ) → (table_at A c N).first ≡ o → Enters A c h (begin A)
      go None e' = let z = verdict_run A (table_at A c N) in absurd (final_low A h v f cc)
      go (Some p) e' = at (run (ending A T) (suc A.states) p) refl
        where
          at : (o : Option Verdict) → run (ending A T) (suc A.states) p ≡ o → Enters A c h (begin A)
          at None e'' = let z = verdict_run A (table_at A c N) in absurd (final_low A h v f cc)
          at (Some u) e'' =
              let z = verdict_run A (table_at A c N) in
              let y : u ≡ v = cc in
              let x = run_ends (ending A T) (suc A.states) p v cc in
              let d = (first_tells A law c tape.left tape.inside N p).0 e' in
              leaves_enters d (ending_enters f (leaves_in A law c tape.left tape.inside law.start_in d) x.2)
