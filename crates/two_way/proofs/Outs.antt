-- Where a run comes out, by the numbers of its steps, and what a word's table says of it.
use Rattle.std.proofs.Common.{◌≡◌, ℕ, zero, suc, ◌<◌, ◌≤◌, ◌↔◌, List, ◌++◌, length, Some, None, Option, sym, refl, ap, ◌∙◌, subst, arith}
use native.Mathlib.Decide.{dec_le}
use Rattle.two_way.specs.Automaton.{Automaton, Way, L, R, way}
use Rattle.two_way.specs.Runs.{Word, column, Config, moved, step, after, begin}
use Rattle.two_way.specs.Tables.{table}
use Rattle.two_way.specs.Crossings.{ComesOut, Tells}
use Rattle.two_way.proofs.Loops.{clash}
use Rattle.two_way.proofs.Sound.{Sound}
use Rattle.two_way.proofs.Crossing.{Leaves, out, stay, table_tells, first_tells}
use Rattle.two_way.proofs.Words.{table_here, tape_of}

pub after_step : (A : Automaton) (c : ℕ → ℕ) (n : ℕ) (x : Config) → after A c n (step A c x) ≡ after A c (suc n) x
after_step A c zero x = refl
after_step A c (suc n) x = ap (step A c) (after_step A c n x)

leaves_out : (A : Automaton) (c : ℕ → ℕ) {i p q j : ℕ} → j ≤ i → Leaves A c i p q j → ComesOut A c i p (record { state = q; place = j })
leaves_out A c {i} {p} {q} {j} h (out e r e') = (1, (λ k. record { state = e' k; place = at k }), below)
  where
    at : moved (way A q (c j)) j ≡ suc i
    at = rw r (omega arith)

    below : (m : ℕ) → m < 1 → (after A c m (record { state = q; place = j })).place ≤ i
    below zero l = h
    below (suc m) l = absurd (omega arith)
leaves_out A c {i} {p} {q} {j} h (stay l d) = go (leaves_out A c l d)
  where
    x : Config
    x = record { state = q; place = j }

    go : ComesOut A c i p (step A c x) → ComesOut A c i p x
    go (n, e, b) = (suc n, sym (after_step A c n x) ∙ e, below)
      where
        below : (m : ℕ) → m < suc n → (after A c m x).place ≤ i
        below zero l = h
        below (suc m) l = subst (λ y. y.place ≤ i) (after_step A c m x) (b m (omega arith))

out_leaves : (A : Automaton) (c : ℕ → ℕ) (i p n : ℕ) (x : Config) → x.place ≤ i → after A c n x ≡ record { state = p; place = suc i }
    → ((j : ℕ) → j < n → (after A c j x).place ≤ i) → Leaves A c i p x.state x.place
out_leaves A c i p zero x h e b = let z : x.place ≡ suc i = ap (λ y. y.place) e in absurd (omega arith)
out_leaves A c i p (suc n) x h e b = go (dec_le (step A c x).place i) (λ h'. out_leaves A c i p n (step A c x) h' (after_step A c n x ∙ e)
    (λ j l. subst (λ y. y.place ≤ i) (sym (after_step A c j x)) (b (suc j) (omega arith))))
  where
    go : Dec ((step A c x).place ≤ i) → ((step A c x).place ≤ i → Leaves A c i p (step A c x).state (step A c x).place) → Leaves A c i p x.state x.place
    go (yes h') ih = stay h' (ih h')
    go (no nh) ih = last n refl (way A x.state (c x.place)) refl
      where
        last : (m : ℕ) → n ≡ m → (w : Way) → way A x.state (c x.place) ≡ w → Leaves A c i p x.state x.place
        last (suc m) en w ew = absurd (nh (b 1 (omega arith)))
        last zero en L ew = let z : (step A c x).place ≤ i = rw ew (omega arith) in absurd (nh z)
        last zero en R ew =
            let z : ¬ (suc x.place ≤ i) = (λ k. nh (rw ew k)) in
            let s : step A c x ≡ record { state = p; place = suc i } = subst (λ m. after A c (suc m) x ≡ record { state = p; place = suc i }) en e in
            out (omega arith) ew (ap (λ y. y.state) s)

leaves_comes : (A : Automaton) (c : ℕ → ℕ) (i p : ℕ) (x : Config) → x.place ≤ i → Leaves A c i p x.state x.place ↔ ComesOut A c i p x
leaves_comes A c i p x h = (leaves_out A c h, λ r. out_leaves A c i p r.0 x h r.1 r.2)

-- an answer that names p exactly when P p holds is "never" exactly when P holds of none
tells_of : (o : Option ℕ) (P : ℕ → Type 0) → ((p : ℕ) → (o ≡ Some p) ↔ P p) → Tells o P
tells_of o P t = (t, (λ e p h. let z = (t p).1 h in clash cc, λ n. go o refl n))
  where
    go : (u : Option ℕ) → o ≡ u → ((p : ℕ) → P p → ⊥) → o ≡ None
    go None e n = e
    go (Some p) e n = absurd (n p ((t p).0 e))

through : {P Q R : Type 0} → P ↔ Q → Q ↔ R → P ↔ R
through f g = (λ p. g.0 (f.0 p), λ r. f.1 (g.1 r))

module _ (A : Automaton) (law : Sound A) (x z : List ℕ) (h : Word A (x ++ z)) where
  pub state_tells : (q : ℕ) → q < A.states
      → Tells ((table A x).at q) (λ p. ComesOut A (column A (x ++ z)) (length x) p (record { state = q; place = length x }))
  state_tells q l =
      tells_of ((table A x).at q) (λ p. ComesOut A (column A (x ++ z)) (length x) p (record { state = q; place = length x }))
      (λ p. through
      (rw (table_here A x z) (table_tells A law (column A (x ++ z)) refl (tape_of A (x ++ z) h).inside (length x) q p l))
      (leaves_comes A (column A (x ++ z)) (length x) p (record { state = q; place = length x }) (omega arith)))

  pub arrival_tells : Tells (table A x).first (λ p. ComesOut A (column A (x ++ z)) (length x) p (begin A))
  arrival_tells =
      tells_of (table A x).first (λ p. ComesOut A (column A (x ++ z)) (length x) p (begin A))
      (λ p. through
      (rw (table_here A x z) (first_tells A law (column A (x ++ z)) refl (tape_of A (x ++ z) h).inside (length x) p))
      (leaves_comes A (column A (x ++ z)) (length x) p (begin A) (omega arith)))
