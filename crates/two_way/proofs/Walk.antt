-- A run that enters accept or reject does so within `most` steps, so every word has one walk.
use Rattle.std.proofs.Common.{◌≡◌, ℕ, zero, suc, ◌<◌, ◌≤◌, List, length, sym, refl, ap, ◌∙◌, subst, arith}
use Rattle.two_way.specs.declared.Verdict.{Verdict}
use Rattle.two_way.specs.Automaton.{Automaton}
use Rattle.two_way.specs.Runs.{Word, column, Config, step, after, begin, Enters, now, later, Accepts, Rejects, Reads, Going, state_after, HaltsAt, most, Walks}
use Rattle.two_way.specs.Tables.{on, table, verdict}
use Rattle.two_way.proofs.Loops.{Ends, ends, goes, ends_same}
use Rattle.two_way.proofs.Sound.{Sound}
use Rattle.two_way.proofs.Halting.{Final, stepping, sieve_halts, sieve_goes, Tape, stepping_on, stepping_stop, enters_ends}
use Rattle.two_way.proofs.Words.{tape_of, reads_verdict, reads_one}
use Rattle.two_way.proofs.Outs.{after_step}
use Rattle.two_way.proofs.Bound.{steps_most}

after_enters : (A : Automaton) (c : ℕ → ℕ) (h n : ℕ) (x : Config) → (after A c n x).state ≡ h → Enters A c h x
after_enters A c h zero x e = now e
after_enters A c h (suc n) x e = later (after_enters A c h n (step A c x) (ap (λ y. y.state) (after_step A c n x) ∙ e))

-- after n steps from x the run is in accept or reject, with the verdict v, and before that in neither
abbrev Stops : (A : Automaton) → (ℕ → ℕ) → Verdict → ℕ → Config → Type 0
Stops A c v n x = Final A (after A c n x).state v × ((i : ℕ) → i < n → Going A (after A c i x).state)

module _ (A : Automaton) (law : Sound A) (N : ℕ) (c : ℕ → ℕ) (tape : Tape A N c) where
  ends_stops : {v : Verdict} {n : ℕ} {x : Config} → Ends (stepping A c) v x n → Stops A c v n x
  ends_stops {v} {x = x} (ends e) = (stepping_stop A law N c tape x v e, λ i l. absurd (omega arith))
  ends_stops {v} {x = x} (goes {x' = y} {n = n} e d) = go (ends_stops d)
    where
      r : Going A x.state × (step A c x ≡ y)
      r = stepping_on A law N c tape x y e

      at : (i : ℕ) → after A c i y ≡ after A c (suc i) x
      at i = ap (after A c i) (sym r.1) ∙ after_step A c i x

      go : Stops A c v n y → Stops A c v (suc n) x
      go ih = (subst (λ z. Final A z.state v) (at n) ih.0, below)
        where
          below : (i : ℕ) → i < suc n → Going A (after A c i x).state
          below zero l = r.0
          below (suc i) l = subst (λ z. Going A z.state) (at i) (ih.1 i (omega arith))

  stops_ends : {v : Verdict} (n : ℕ) (x : Config) → Stops A c v n x → Ends (stepping A c) v x n
  stops_ends {v} zero x s = ends (sieve_halts A law x.state v (on (step A c x)) s.0)
  stops_ends {v} (suc n) x s =
      goes (sieve_goes A x.state (on (step A c x)) (s.1 0 (omega arith)))
      (stops_ends n (step A c x) (
        subst (λ z. Final A z.state v) (sym (after_step A c n x)) s.0,
        λ i l. subst (λ z. Going A z.state) (sym (after_step A c i x)) (s.1 (suc i) (omega arith)),
      ))

module _ (A : Automaton) (law : Sound A) (w : List ℕ) (ww : Word A w) where
  -- a run that enters accept or reject does so within `most` steps
  halts_within : (v : Verdict) {h : ℕ} → Final A h v → Enters A (column A w) h (begin A) → (n : ℕ) × (n ≤ most A (length w)) × Stops A (column A w) v n (begin A)
  halts_within v f d =
      let t = tape_of A w ww in
      let e = enters_ends A law (length w) (column A w) t f d in
      (e.0, steps_most A law (length w) (column A w) t e.1, ends_stops A law (length w) (column A w) t e.1)

  pub accepts_within : Accepts A w → (n : ℕ) × (n ≤ most A (length w)) × HaltsAt A w A.accept n
  accepts_within a = halts_within Verdict.Accepts refl a

  pub rejects_within : Rejects A w → (n : ℕ) × (n ≤ most A (length w)) × HaltsAt A w A.reject n
  rejects_within a = halts_within Verdict.Rejects refl a

  -- so a walk that has made `most` steps and enters neither loops
  pub spent : ((i : ℕ) → i < suc (most A (length w)) → Going A (state_after A w i)) → Reads A w Verdict.Loops
  spent g = (
    λ a. let r = accepts_within a in (g r.0 (omega arith)).0 r.2.0,
    λ a. let r = rejects_within a in (g r.0 (omega arith)).1 r.2.0,
  )

  -- a walk's verdict is the run's
  pub walk_reads : (v : Verdict) (n : ℕ) → Walks A w v n → Reads A w v
  walk_reads Verdict.Accepts n s = after_enters A (column A w) A.accept n (begin A) s.0
  walk_reads Verdict.Rejects n s = after_enters A (column A w) A.reject n (begin A) s.0
  walk_reads Verdict.Loops n s = s.0

  stops_within : (v : Verdict) (n : ℕ) → Stops A (column A w) v n (begin A) → n ≤ most A (length w)
  stops_within v n s =
      let t = tape_of A w ww in
      steps_most A law (length w) (column A w) t (stops_ends A law (length w) (column A w) t n (begin A) s)

  pub walk_within : (v : Verdict) (n : ℕ) → Walks A w v n → n ≤ most A (length w)
  walk_within Verdict.Accepts n s = stops_within Verdict.Accepts n s
  walk_within Verdict.Rejects n s = stops_within Verdict.Rejects n s
  walk_within Verdict.Loops n s = omega arith

  -- every word has one walk: its verdict and its count
  pub some_walk : (v : Verdict) × (n : ℕ) × Walks A w v n
  some_walk = go (verdict A (table A w)) (reads_verdict A law w ww)
    where
      go : (v : Verdict) → Reads A w v → (v : Verdict) × (n : ℕ) × Walks A w v n
      go Verdict.Accepts a = let r = accepts_within a in (Verdict.Accepts, r.0, r.2)
      go Verdict.Rejects a = let r = rejects_within a in (Verdict.Rejects, r.0, r.2)
      go Verdict.Loops a = (Verdict.Loops, most A (length w), (a, refl))

  count_one : (v : Verdict) (n l : ℕ) → Stops A (column A w) v n (begin A) → Stops A (column A w) v l (begin A) → n ≡ l
  count_one v n l s s' =
      let t = tape_of A w ww in
      (ends_same (stepping A (column A w)) (stops_ends A law (length w) (column A w) t n (begin A) s) (stops_ends A law (length w) (column A w) t l (begin A) s')).0

  same_count : (v : Verdict) (n l : ℕ) → Walks A w v n → Walks A w v l → n ≡ l
  same_count Verdict.Accepts n l s s' = count_one Verdict.Accepts n l s s'
  same_count Verdict.Rejects n l s s' = count_one Verdict.Rejects n l s s'
  same_count Verdict.Loops n l s s' = s.1 ∙ sym s'.1

  pub one_walk : (v u : Verdict) (n l : ℕ) → Walks A w v n → Walks A w u l → (v ≡ u) × (n ≡ l)
  one_walk v u n l s s' =
      let e : v ≡ u = reads_one A law w ww v (walk_reads v n s) ∙ sym (reads_one A law w ww u (walk_reads u l s')) in
      (e, same_count u n l (subst (λ x. Walks A w x n) e s) s')
