-- The answer of a walk is that of the run: its verdict, and the steps made.
use Rattle.std.proofs.Common.{◌≡◌, ℕ, zero, suc, ◌+◌, ◌<◌, cond, eqb, List, length, sym, refl, subst, arith, eq-eqb, ne_eqb}
use native.Mathlib.Decide.{ℕ_discrete}
use Rattle.two_way.specs.declared.Verdict.{Verdict}
use Rattle.two_way.specs.Automaton.{Automaton}
use Rattle.two_way.specs.Runs.{Word, Config, column, step, after, begin, most, Going, Walks}
use Rattle.two_way.proofs.Sound.{Sound}
use Rattle.two_way.proofs.Walk.{spent}
use Rattle.engine.specs.declared.walking.Walked.{Walked}
use Rattle.engine.specs.Walks.{found, walk_from, walked}

module _ (A : Automaton) (law : Sound A) (w : List ℕ) (ww : Word A w) where
  abbrev c : ℕ → ℕ
  c = column A w

  abbrev limit : ℕ
  limit = most A (length w)

  abbrev Right : Walked → Type 0
  Right x = Walks A w x.verdict x.steps

  from : (f n : ℕ) → n + f ≡ suc limit → ((i : ℕ) → i < n → Going A (after A c i (begin A)).state) → Right (walk_from A c limit f (after A c n (begin A)) n)
  from zero n e g = let s = spent A law w ww (λ i h. g i (omega arith)) in (s, refl)
  from (suc f) n e g = go (λ h. from f (suc n) (omega arith) h) (ℕ_discrete (after A c n (begin A)).state A.accept) (ℕ_discrete (after A c n (begin A)).state A.reject)
    where
      x : Config
      x = after A c n (begin A)

      rest : Walked
      rest = walk_from A c limit f (step A c (after A c n (begin A))) (suc n)

      more : Going A (after A c n (begin A)).state → (i : ℕ) → i < suc n → Going A (after A c i (begin A)).state
      more k i h = pick (ℕ_discrete i n)
        where
          pick : Dec (i ≡ n) → Going A (after A c i (begin A)).state
          pick (yes z) = subst (λ j. Going A (after A c j (begin A)).state) (sym z) k
          pick (no z) = g i (omega arith)

      go : (((i : ℕ) → i < suc n → Going A (after A c i (begin A)).state) → Right (walk_from A c limit f (after A c (suc n) (begin A)) (suc n)))
          → Dec ((after A c n (begin A)).state ≡ A.accept) → Dec ((after A c n (begin A)).state ≡ A.reject) → Right (walk_from A c limit (suc f) (after A c n (begin A)) n)
      go ih (yes a) d =
          subst (λ b. Right (cond b (found Verdict.Accepts n) (cond (eqb (after A c n (begin A)).state A.reject) (found Verdict.Rejects n) (walk_from A c limit f (step A c (after A c n (begin A))) (suc n))))) (sym (eq-eqb (after A c n (begin A)).state A.accept a))
          ((a, g))
      go ih (no a) (yes d) =
          subst (λ b. Right (cond b (found Verdict.Accepts n) (cond (eqb (after A c n (begin A)).state A.reject) (found Verdict.Rejects n) (walk_from A c limit f (step A c (after A c n (begin A))) (suc n))))) (sym (ne_eqb (after A c n (begin A)).state A.accept a))
          (subst (λ b. Right (cond b (found Verdict.Rejects n) (walk_from A c limit f (step A c (after A c n (begin A))) (suc n)))) (sym (eq-eqb (after A c n (begin A)).state A.reject d))
          ((d, g)))
      go ih (no a) (no d) =
          subst (λ b. Right (cond b (found Verdict.Accepts n) (cond (eqb (after A c n (begin A)).state A.reject) (found Verdict.Rejects n) (walk_from A c limit f (step A c (after A c n (begin A))) (suc n))))) (sym (ne_eqb (after A c n (begin A)).state A.accept a))
          (subst (λ b. Right (cond b (found Verdict.Rejects n) (walk_from A c limit f (step A c (after A c n (begin A))) (suc n)))) (sym (ne_eqb (after A c n (begin A)).state A.reject d))
          (ih (more (a, d))))

  pub walked_right : Walks A w (walked A w).verdict (walked A w).steps
  walked_right = from (suc limit) 0 (omega arith) (λ i h. absurd (omega arith))
