-- The laws, said of the total views `to` and `way` of the step: what every proof about runs goes by.
use Rattle.std.proofs.Common.{◌≡◌, ℕ, ◌+◌, ◌<◌, ◌≤◌, cond, eqb, Some, None, Option, refl, ap, ◌∙◌, arith}
use native.Mathlib.Decide.{ℕ_discrete}
use Rattle.two_way.specs.Automaton.{Automaton, left_end, right_end, Keeps, Lawful, L, R, to, way}

-- a state that is entered for good
pub record Halts (A : Automaton) (h : ℕ) : Type 0 where
  pub stays : (c : ℕ) → c ≤ right_end A → to A h c ≡ h
  pub right : (c : ℕ) → c < right_end A → way A h c ≡ R

pub record Sound (A : Automaton) : Type 0 where
  pub some_states : 2 ≤ A.states
  pub few_states : A.states ≤ 32
  pub start_in : A.start < A.states
  pub accept_in : A.accept < A.states
  pub reject_in : A.reject < A.states
  pub apart : A.accept ≡ A.reject → ⊥
  pub inside : (q c : ℕ) → q < A.states → c ≤ right_end A → to A q c < A.states
  pub left_gives_R : (q : ℕ) → q < A.states → way A q (left_end A) ≡ R
  pub right_gives_L : (q : ℕ) → q < A.states → way A q (right_end A) ≡ L
  pub accept_halts : Halts A A.accept
  pub reject_halts : Halts A A.reject

-- what a step says of the two views
pub to_is : (A : Automaton) (q c p d : ℕ) → A.next q c ≡ Some (p, d) → to A q c ≡ p
unfolding to
to_is A q c p d e = rw (e, to)

pub way_is : (A : Automaton) (q c p d : ℕ) → A.next q c ≡ Some (p, d) → way A q c ≡ cond (eqb d 1) R L
unfolding way
way_is A q c p d e = rw (e, way)

pub to_none : (A : Automaton) (q c : ℕ) → A.next q c ≡ None → to A q c ≡ q
unfolding to
to_none A q c e = rw (e, to)

pub way_none : (A : Automaton) (q c : ℕ) → A.next q c ≡ None → way A q c ≡ L
unfolding way
way_none A q c e = rw (e, way)

module _ (A : Automaton) (l : Lawful A) where
  given : (q c : ℕ) → q < A.states → c < A.letters + 2 → (p : ℕ) × (d : ℕ) × (A.next q c ≡ Some (p, d))
  given q c h h' = go (A.next q c) refl
    where
      go : (o : Option (ℕ × ℕ)) → A.next q c ≡ o → (p : ℕ) × (d : ℕ) × (A.next q c ≡ Some (p, d))
      go (Some x) e = (x.0, x.1, e)
      go None e = absurd (l.inside q c h h' e)

  halts : (h : ℕ) → Keeps A h → Halts A h
  halts h k = record { stays = λ c b. s c b (ℕ_discrete c (right_end A)); right = λ c b. way_is A h c h 1 (k.on c b) }
    where
      s : (c : ℕ) → c ≤ right_end A → Dec (c ≡ right_end A) → to A h c ≡ h
      s c b (yes e) = rw e (to_is A h (right_end A) h 0 k.at_right)
      s c b (no n) = to_is A h c h 1 (k.on c (omega arith))

  pub sound : Sound A
  sound = record {
    some_states = l.states_low;
    few_states = l.states_high;
    start_in = l.start_in;
    accept_in = l.accept_in;
    reject_in = l.reject_in;
    apart = l.apart;
    inside = λ q c h b.
        let g = given q c h (omega arith) in
        rw (to_is A q c g.0 g.1 g.2) (l.state_in q c g.0 g.1 g.2);
    left_gives_R = λ q h.
        let g = given q (left_end A) h (omega arith) in
        way_is A q (left_end A) g.0 g.1 g.2 ∙ ap (λ d. cond (eqb d 1) R L) (l.at_left q g.0 g.1 g.2);
    right_gives_L = λ q h.
        let g = given q (right_end A) h (omega arith) in
        way_is A q (right_end A) g.0 g.1 g.2 ∙ ap (λ d. cond (eqb d 1) R L) (l.at_right q g.0 g.1 g.2);
    accept_halts = halts A.accept l.accept_keeps;
    reject_halts = halts A.reject l.reject_keeps;
  }
