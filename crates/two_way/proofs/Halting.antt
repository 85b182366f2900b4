-- The run as a loop that stops in accept and in reject: it ends exactly when the run enters one of them.
use Rattle.std.proofs.Common.{◌≡◌, ℕ, suc, ◌<◌, ◌≤◌, ◌⊎◌, sym, refl, ap, ◌∙◌, subst, inl, inr, eq-eqb, ne_eqb}
use native.Mathlib.Decide.{ℕ_discrete}
use Rattle.two_way.specs.declared.Verdict.{Verdict}
use Rattle.two_way.specs.Automaton.{Automaton, left_end, right_end, to}
use Rattle.two_way.specs.Runs.{Config, step, Enters, now, later, Going}
use Rattle.two_way.specs.Tables.{Turn, on, stop, sieve}
use Rattle.two_way.proofs.Loops.{clash, Ends, ends, goes}
use Rattle.two_way.proofs.Sound.{Halts, Sound}

-- h is accept or reject, and v its verdict
abbrev pub Final : Automaton → ℕ → Verdict → Type 0
Final A h Verdict.Accepts = h ≡ A.accept
Final A h Verdict.Rejects = h ≡ A.reject
Final A h Verdict.Loops = ⊥

-- the run as a loop that stops in accept and in reject
abbrev pub stepping : Automaton → (ℕ → ℕ) → Config → Turn Config Verdict
stepping A c x = sieve A x.state (on (step A c x))

-- a state is accept or reject, or neither
pub data Kind (A : Automaton) (q : ℕ) : Type 0 where
  halting : (v : Verdict) → Final A q v → Kind A q
  going : Going A q → Kind A q

pub kind : (A : Automaton) (q : ℕ) → Kind A q
kind A q = go (ℕ_discrete q A.accept) (ℕ_discrete q A.reject)
  where
    go : Dec (q ≡ A.accept) → Dec (q ≡ A.reject) → Kind A q
    go (yes e) d = halting Verdict.Accepts e
    go (no n) (yes e) = halting Verdict.Rejects e
    go (no n) (no n') = going (n, n')

pub sieve_halts : {X : Type 0} (A : Automaton) → Sound A → (q : ℕ) (v : Verdict) (rest : Turn X Verdict) → Final A q v → sieve A q rest ≡ stop v
sieve_halts A law q Verdict.Accepts rest e = let z = eq-eqb q A.accept e in cc
sieve_halts A law q Verdict.Rejects rest e =
    let z = ne_eqb q A.accept (λ x. law.apart (sym x ∙ e)) in
    let z' = eq-eqb q A.reject e in cc
sieve_halts A law q Verdict.Loops rest e = absurd e

pub sieve_goes : {X : Type 0} (A : Automaton) (q : ℕ) (rest : Turn X Verdict) → Going A q → sieve A q rest ≡ rest
sieve_goes A q rest g =
    let z = ne_eqb q A.accept g.0 in
    let z' = ne_eqb q A.reject g.1 in cc

-- a turn that goes on
pub sieve_on : {X : Type 0} (A : Automaton) → Sound A → (q : ℕ) (rest : Turn X Verdict) (x : X) → sieve A q rest ≡ on x → Going A q × (rest ≡ on x)
sieve_on {X} A law q rest x e = go (kind A q)
  where
    go : Kind A q → Going A q × (rest ≡ on x)
    go (halting u g) = let z = sieve_halts A law q u rest g in clash cc
    go (going g) = (g, sym (sieve_goes A q rest g) ∙ e)

-- a turn that stops
pub sieve_stop : {X : Type 0} (A : Automaton) → Sound A → (q : ℕ) (rest : Turn X Verdict) (v : Verdict) → sieve A q rest ≡ stop v → Final A q v ⊎ (rest ≡ stop v)
sieve_stop {X} A law q rest v e = go (kind A q)
  where
    go : Kind A q → Final A q v ⊎ (rest ≡ stop v)
    go (halting u g) = let z = sieve_halts A law q u rest g in let y : u ≡ v = cc in inl (subst (Final A q) y g)
    go (going g) = inr (sym (sieve_goes A q rest g) ∙ e)

pub final_halts : (A : Automaton) → Sound A → (h : ℕ) (v : Verdict) → Final A h v → Halts A h
final_halts A law h Verdict.Accepts e = subst (λ x. Halts A x) (sym e) law.accept_halts
final_halts A law h Verdict.Rejects e = subst (λ x. Halts A x) (sym e) law.reject_halts
final_halts A law h Verdict.Loops e = absurd e

-- one state for each verdict
pub final_one : (A : Automaton) (q h : ℕ) (v : Verdict) → Final A q v → Final A h v → q ≡ h
final_one A q h Verdict.Accepts e e' = cc
final_one A q h Verdict.Rejects e e' = cc
final_one A q h Verdict.Loops e e' = absurd e

pub final_low : (A : Automaton) (h : ℕ) (v : Verdict) → Final A h v → v ≡ Verdict.Loops → ⊥
final_low A h v f e = subst (Final A h) e f

-- the columns of a run on N marks
pub record Tape (A : Automaton) (N : ℕ) (c : ℕ → ℕ) : Type 0 where
  pub left : c 0 ≡ left_end A
  pub inner : (j : ℕ) → c (suc j) ≡ left_end A → ⊥
  pub marks : (j : ℕ) → j ≤ N → c j < right_end A
  pub right : c (suc N) ≡ right_end A
  pub inside : (j : ℕ) → c j ≤ right_end A

module _ (A : Automaton) (law : Sound A) (N : ℕ) (c : ℕ → ℕ) (tape : Tape A N c) where
  pub stepping_on : (x y : Config) → stepping A c x ≡ on y → Going A x.state × (step A c x ≡ y)
  stepping_on x y e = let r = sieve_on A law x.state (on (step A c x)) y e in (r.0, let z = r.1 in cc)

  pub stepping_stop : (x : Config) (v : Verdict) → stepping A c x ≡ stop v → Final A x.state v
  stepping_stop x v e = go (sieve_stop A law x.state (on (step A c x)) v e)
    where
      go : Final A x.state v ⊎ (on (step A c x) ≡ stop v) → Final A x.state v
      go (inl f) = f
      go (inr z) = clash cc

  -- a halting state is never left
  pub held : {g h : ℕ} {x : Config} → Halts A g → x.state ≡ g → Enters A c h x → h ≡ g
  held k e (now e') = cc
  held {g} {x = x} k e (later d) = held k (ap (λ s. to A s (c x.place)) e ∙ k.stays (c x.place) (tape.inside x.place)) d

  -- the run that enters h, stopped there
  pub enters_ends : {h : ℕ} {v : Verdict} {x : Config} → Final A h v → Enters A c h x → (n : ℕ) × Ends (stepping A c) v x n
  enters_ends {h} {v} {x} f (now e) = (0, ends (sieve_halts A law x.state v (on (step A c x)) (subst (λ y. Final A y v) (sym e) f)))
  enters_ends {h} {v} {x} f (later d) = go (kind A x.state) (enters_ends f d)
    where
      go : Kind A x.state → (n : ℕ) × Ends (stepping A c) v (step A c x) n → (n : ℕ) × Ends (stepping A c) v x n
      go (halting u g) ih =
          let e : h ≡ x.state = held (final_halts A law x.state u g) refl (later d) in
          (0, ends (sieve_halts A law x.state v (on (step A c x)) (subst (λ y. Final A y v) e f)))
      go (going g) ih = (suc ih.0, goes (sieve_goes A x.state (on (step A c x)) g) ih.1)
