-- A run stays on the tape, and a run on n marks that enters accept or reject does so within (k - 2) * (n + 2) steps.
use Rattle.std.proofs.Common.{◌≡◌, ℕ, zero, suc, ◌+◌, ◌-◌, ◌*◌, ◌/◌, ◌%◌, ◌<◌, ◌≤◌, cond, ltb, sym, refl, ap, ◌∙◌, subst, arith}
use native.Mathlib.Decide.{ℕ_discrete}
use lib.Arith.{digits_lt, digits_div, digits_mod}
use Rattle.std.proofs.lemmas.Bool.Decides.{nat_tests}
use Rattle.two_way.specs.declared.Verdict.{Verdict}
use Rattle.two_way.specs.Automaton.{Automaton, Way, L, R, way}
use Rattle.two_way.specs.Runs.{Config, moved, step, after, begin, Going, most}
use Rattle.two_way.specs.Tables.{on}
use Rattle.two_way.proofs.Loops.{Ends, bound}
use Rattle.two_way.proofs.Sound.{Sound}
use Rattle.two_way.proofs.Halting.{stepping, Tape, stepping_on}

-- the numbers other than a, counted
less : ℕ → ℕ → ℕ
less a q = cond (ltb a q) (q - 1) q

less_one : (a p q : ℕ) → (p ≡ a → ⊥) → (q ≡ a → ⊥) → less a p ≡ less a q → p ≡ q
unfolding less
less_one a p q n n' e = grind (arith, nat_tests)

less_low : (K a q : ℕ) → q < suc K → a < suc K → (q ≡ a → ⊥) → less a q < K
unfolding less
less_low K a q l l' n = grind (arith, nat_tests)

-- the states other than accept and reject, counted
nth : Automaton → ℕ → ℕ
nth A q = less (less A.accept A.reject) (less A.accept q)

module _ (A : Automaton) (law : Sound A) where
  nth_one : (p q : ℕ) → Going A p → Going A q → nth A p ≡ nth A q → p ≡ q
  unfolding nth
  nth_one p q gp gq e =
      less_one A.accept p q gp.0 gq.0
      (less_one (less A.accept A.reject) (less A.accept p) (less A.accept q)
      (λ z. gp.1 (less_one A.accept p A.reject gp.0 (λ x. law.apart (sym x)) z))
      (λ z. gq.1 (less_one A.accept q A.reject gq.0 (λ x. law.apart (sym x)) z)) e)

  nth_low : (q : ℕ) → q < A.states → Going A q → nth A q < A.states - 2
  unfolding nth
  nth_low q l g =
      let a = law.accept_in in
      let r = law.reject_in in
      let k = law.some_states in
      let K = A.states - 2 in
      let x : less A.accept q < suc K = less_low (suc K) A.accept q (omega arith) (omega arith) g.0 in
      let y : less A.accept A.reject < suc K = less_low (suc K) A.accept A.reject (omega arith) (omega arith) (λ x. law.apart (sym x)) in
      less_low K (less A.accept A.reject) (less A.accept q) x y
      (λ z. g.1 (less_one A.accept q A.reject g.0 (λ x. law.apart (sym x)) z))

-- a configuration of a run on N marks: in a state, at a position from 0 to N + 1
abbrev Here : Automaton → ℕ → Config → Type 0
Here A N x = (x.state < A.states) × (x.place < N + 2)

module _ (A : Automaton) (law : Sound A) (N : ℕ) (c : ℕ → ℕ) (tape : Tape A N c) where
  here_step : (x : Config) → Here A N x → Here A N (step A c x)
  here_step x h = (law.inside x.state (c x.place) h.0 (tape.inside x.place), go (way A x.state (c x.place)) refl)
    where
      go : (w : Way) → way A x.state (c x.place) ≡ w → moved (way A x.state (c x.place)) x.place < N + 2
      go L e' = rw e' (omega arith)
      go R e' = at (ℕ_discrete x.place (suc N))
        where
          at : Dec (x.place ≡ suc N) → moved (way A x.state (c x.place)) x.place < N + 2
          at (no n) = rw e' (omega arith)
          at (yes i) =
              let z : way A x.state (c x.place) ≡ L = rw (i, tape.right) (law.right_gives_L x.state h.0) in
              rw z (omega arith)

  -- a run never leaves the tape
  pub here_after : (n : ℕ) → Here A N (after A c n (begin A))
  here_after zero = (law.start_in, omega arith)
  here_after (suc n) = here_step (after A c n (begin A)) (here_after n)

  here_on : (x y : Config) → Here A N x → stepping A c x ≡ on y → Here A N y
  here_on x y h e = subst (Here A N) (stepping_on A law N c tape x y e).1 (here_step x h)

  code : Config → ℕ
  code x = nth A x.state * (N + 2) + x.place

  code_low : (x y : Config) → Here A N x → stepping A c x ≡ on y → code x < most A N
  unfolding code
  code_low x y h e =
      let r = stepping_on A law N c tape x y e in
      digits_lt (nth_low A law x.state h.0 r.0) h.1

  code_one : (x x' y y' : Config) → Here A N x → Here A N y → stepping A c x ≡ on x' → stepping A c y ≡ on y' → code x ≡ code y → x ≡ y
  unfolding code
  code_one x x' y y' hx hy ex ey e =
      let rx = stepping_on A law N c tape x x' ex in
      let ry = stepping_on A law N c tape y y' ey in
      let d : nth A x.state ≡ nth A y.state = sym (digits_div (nth A x.state) hx.1) ∙ ap (λ n. n / (N + 2)) e ∙ digits_div (nth A y.state) hy.1 in
      let m : x.place ≡ y.place = sym (digits_mod (nth A x.state) hx.1) ∙ ap (λ n. n % (N + 2)) e ∙ digits_mod (nth A y.state) hy.1 in
      let s = nth_one A law x.state y.state rx.0 ry.0 d in
      λ i. record { state = s i; place = m i }

  pub steps_most : {v : Verdict} {n : ℕ} → Ends (stepping A c) v (begin A) n → n ≤ most A N
  steps_most d = bound (stepping A c) (Here A N) here_on (most A N) code code_low code_one (here_after 0) d
