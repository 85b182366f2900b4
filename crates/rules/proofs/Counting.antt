-- What a distance rule decides: its run goes to the right end and from there counts marks back.
use Rattle.std.proofs.Common.{◌≡◌, ℕ, zero, suc, ◌+◌, ◌-◌, ◌<◌, ◌≤◌, Bool, true, false, cond, List, length, get_or, Some, sym, refl, ap, ◌∙◌, subst, arith, rules}
use native.Mathlib.Decide.{ℕ_discrete, dec_le}
use Rattle.std.proofs.lemmas.List.{get_or_default}
use Rattle.std.proofs.lemmas.Bool.{both_ways}
use Rattle.std.proofs.lemmas.Bool.Decides.{nat_tests}
use Rattle.two_way.specs.declared.Verdict.{Verdict}
use Rattle.two_way.specs.Automaton.{Automaton, Lawful}
use Rattle.two_way.specs.Runs.{Word, column, Config, moved, step, Enters, now, later, Accepts, Rejects}
use Rattle.two_way.proofs.Loops.{clash}
use Rattle.two_way.proofs.Sound.{to_is, way_is, sound}
use Rattle.two_way.proofs.Halting.{Tape}
use Rattle.two_way.proofs.Words.{tape_of, reads_one}
use Rattle.rules.specs.Distance.{has, distance_step, distance_rule, Ranged, Marked, DistanceDecides}
use Rattle.rules.proofs.Laws.{kept_lawful}

-- a step that goes R, and one that goes L
step_R : (A : Automaton) (c : ℕ → ℕ) (q i p : ℕ) → A.next q (c i) ≡ Some (p, 1) → step A c (record { state = q; place = i }) ≡ record { state = p; place = suc i }
step_R A c q i p e k = record { state = to_is A q (c i) p 1 e k; place = moved (way_is A q (c i) p 1 e k) i }

step_L : (A : Automaton) (c : ℕ → ℕ) (q i p : ℕ) → A.next q (c (suc i)) ≡ Some (p, 0) → step A c (record { state = q; place = suc i }) ≡ record { state = p; place = i }
step_L A c q i p e =
    let z : suc i - 1 ≡ i = omega arith in
    (λ k. record { state = to_is A q (c (suc i)) p 0 e k; place = moved (way_is A q (c (suc i)) p 0 e k) (suc i) }) ∙ ap (λ j. record { state = p; place = j }) z

-- the five kinds of step
module _ (d m set : ℕ) (z : Ranged d m set) where
  runs : (c : ℕ) → c < m + 1 → (distance_rule d m set).next 0 c ≡ Some (0, 1)
  runs c h = grind (arith, nat_tests)

  turns : (c : ℕ) → c ≡ m + 1 → (distance_rule d m set).next 0 c ≡ Some (1, 0)
  turns c h = grind (arith, nat_tests)

  goes_back : (q c : ℕ) → 1 ≤ q → q < d → c < m → (distance_rule d m set).next q c ≡ Some (suc q, 0)
  goes_back q c low high h = grind (arith, nat_tests)

  chooses : (c : ℕ) (b : Bool) → has set c ≡ b → c < m → (distance_rule d m set).next d c ≡ Some (cond b (d + 1) (d + 2), 1)
  chooses c b e h = grind (arith, nat_tests)

  gives_up : (q : ℕ) → 1 ≤ q → q ≤ d → (distance_rule d m set).next q m ≡ Some (d + 2, 1)
  gives_up q low high = grind (arith, nat_tests)

module _ (d m set : ℕ) (z : Ranged d m set) (w : List ℕ) (ww : Word (distance_rule d m set) w) where
  abbrev A : Automaton
  A = distance_rule d m set

  abbrev c : ℕ → ℕ
  c = column A w

  tape : Tape A (length w) c
  tape = tape_of A w ww

  letter : (i : ℕ) → i < length w → c (suc i) < m
  letter i h = let a = tape.marks (suc i) (omega arith) in let b = tape.inner i in omega arith

  -- the run from x enters h where the run from the next configuration, y, does
  by : {h : ℕ} {x y : Config} → step A c x ≡ y → Enters A c h y → Enters A c h x
  by {h} e r = later (subst (λ u. Enters A c h u) (sym e) r)

  -- from j positions before the right end on to it, and one back
  forth : {h : ℕ} → Enters A c h (record { state = 1; place = length w }) → (j i : ℕ) → i + j ≡ suc (length w) → Enters A c h (record { state = 0; place = i })
  forth {h} r zero i s =
      let e : suc (length w) ≡ i = omega arith in
      subst (λ (i : ℕ). Enters A c h (record { state = 0; place = i })) e (by (step_L A c 0 (length w) 1 (turns d m set z (c (suc (length w))) tape.right)) r)
  forth r (suc j) i s = by (step_R A c 0 i 0 (runs d m set z (c i) (tape.marks i (omega arith)))) (forth r j (suc i) (omega arith))

  -- the run from state q, position i, decides
  abbrev Decided : ℕ → ℕ → Type 0
  Decided q i = (Marked d set w → Enters A c (d + 1) (record { state = q; place = i })) × ((Marked d set w → ⊥) → Enters A c (d + 2) (record { state = q; place = i }))

  -- at the distance, where i marks lie before
  chosen : (i : ℕ) → d + i ≡ length w → (b : Bool) → has set (c (suc i)) ≡ b → Decided d (suc i)
  chosen i s b e = go b e
    where
      same : get_or w (length w - d) 0 ≡ c (suc i)
      same = let k : length w - d ≡ i = omega arith in ap (λ (k : ℕ). get_or w k 0) k ∙ get_or_default w i 0 (m + 1) (omega arith)

      last : (b : Bool) → has set (c (suc i)) ≡ b → Enters A c (cond b (d + 1) (d + 2)) (record { state = d; place = suc i })
      last b e = by (step_R A c d (suc i) (cond b (d + 1) (d + 2)) (chooses d m set z (c (suc i)) b e (letter i (omega arith)))) (now refl)

      go : (b : Bool) → has set (c (suc i)) ≡ b → Decided d (suc i)
      go true e = (λ _. last true e, λ n. absurd (n (omega arith, ap (has set) same ∙ e)))
      go false e = (λ k. absurd (both_ways (has set (c (suc i))) e (sym (ap (has set) same) ∙ k.1)), λ _. last false e)

  -- counting back
  back : (i q : ℕ) → q + i ≡ suc (length w) → 1 ≤ q → q ≤ d → Decided q i
  back zero q s low high = (λ k. absurd (omega arith), λ _. by (step_R A c q 0 (d + 2) (gives_up d m set z q low high)) (now refl))
  back (suc i) q s low high = go (ℕ_discrete q d) (back i (suc q))
    where
      go : Dec (q ≡ d) → (suc q + i ≡ suc (length w) → 1 ≤ suc q → suc q ≤ d → Decided (suc q) i) → Decided q (suc i)
      go (yes e) more = subst (λ (q : ℕ). Decided q (suc i)) (sym e) (chosen i (omega arith) (has set (c (suc i))) refl)
      go (no n) more =
          let r = more (omega arith) (omega arith) (omega arith) in
          let e = step_L A c q i (suc q) (goes_back d m set z q (c (suc i)) low (omega arith) (letter i (omega arith))) in
          (λ k. by e (r.0 k), λ k. by e (r.1 k))

  marked_accepts : Marked d set w → Accepts A w
  marked_accepts k = forth ((back (length w) 1 (omega arith) (omega arith) z.0).0 k) (suc (length w)) 0 (omega arith)

  else_rejects : (Marked d set w → ⊥) → Rejects A w
  else_rejects k = forth ((back (length w) 1 (omega arith) (omega arith) z.0).1 k) (suc (length w)) 0 (omega arith)

  law : Lawful A
  law = kept_lawful (d + 3) m 0 (d + 1) (d + 2) (distance_step d m set) (search rules) (λ q c h. grind (arith, nat_tests))

  never_both : Accepts A w → Rejects A w → ⊥
  never_both a b =
      let e = reads_one A (sound A law) w ww Verdict.Accepts a in
      let e' = reads_one A (sound A law) w ww Verdict.Rejects b in clash cc

  decide : Dec (Marked d set w)
  decide = go (dec_le d (length w)) (has set (get_or w (length w - d) 0)) refl
    where
      go : Dec (d ≤ length w) → (b : Bool) → has set (get_or w (length w - d) 0) ≡ b → Dec (Marked d set w)
      go (no n) b e = no (λ k. n k.0)
      go (yes h) true e = yes (h, e)
      go (yes h) false e = no (λ k. both_ways (has set (get_or w (length w - d) 0)) e k.1)

  pub distance_decides : DistanceDecides A d set w
  distance_decides = go decide
    where
      go : Dec (Marked d set w) → DistanceDecides A d set w
      go (yes k) = let a = marked_accepts k in record { accepts = (λ _. k, λ _. a); rejects = (λ r. absurd (never_both a r), λ n. absurd (n k)); no_loop = λ r. r.0 a }
      go (no n) = let a = else_rejects n in record { accepts = (λ r. absurd (never_both r a), λ k. absurd (n k)); rejects = (λ _. n, λ _. a); no_loop = λ r. r.1 a }
