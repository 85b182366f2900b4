-- One turn of a loop over states, and a table written state by state.
use Rattle.std.proofs.Common.{◌≡◌, ℕ, suc, ◌+◌, ◌-◌, ◌<◌, ◌≤◌, List, length, get_or, set, replicate, Some, None, Option, unwrap_or, sym, refl, ap, ◌∙◌, arith, length-set, get_or-set_other, get_or-set_same, ext_get_or, le-ltb, lt-ltb, eq-eqb, ne_eqb}
use native.Mathlib.Decide.{ℕ_discrete, dec_lt}
use lib.ListN.{get_or-replicate}
use Rattle.std.proofs.lemmas.List.FromFn.{get_or-map-range_with_len}
use Rattle.two_way.specs.declared.Verdict.{Verdict}
use Rattle.two_way.specs.Automaton.{Automaton, right_end, L, R, to, way}
use Rattle.two_way.specs.Tables.{Table, Turn, on, stop, arriving, crossing, cross, ending, verdict}
use Rattle.two_way.specs.Rows.{byte_of, of_row, answer, row_of}
use Rattle.rules.specs.declared.rule.Direction.{Direction}
use Rattle.rules.specs.declared.rule.Direction.TheVariants.{Left, Right}
use Rattle.rules.specs.Steps.{way_of}
use Rattle.two_way.proofs.Loops.{run, or_else}
use Rattle.two_way.proofs.Crossing.{cross_run}
use Rattle.two_way.proofs.Endings.{verdict_run}

-- what is left of the turns, n of them, gives what all gave
module _ {Y : Type 0} (f : ℕ → Turn ℕ Y) (K k i s from : ℕ) (same : K ≡ k) (so_far : run f (K + 1) from ≡ run f (K + 1 - i) s) where
  pub at_turn : i < K + 1 → (o : Option Y) → ((n : ℕ) → run f (suc n) s ≡ o) → run f (suc k) from ≡ o
  at_turn h o step =
      let e : K + 1 - i ≡ suc (K - i) = omega arith in
      let z : suc k ≡ K + 1 = omega arith in
      ap (λ n. run f n from) z ∙ (so_far ∙ (ap (λ n. run f n s) e ∙ step (K - i)))

  pub next_turn : i < K + 1 → (b : ℕ) → ((n : ℕ) → run f (suc n) s ≡ run f n b) → run f (K + 1) from ≡ run f (K + 1 - (i + 1)) b
  next_turn h b step =
      let e : K + 1 - i ≡ suc (K - i) = omega arith in
      let z : K - i ≡ K + 1 - (i + 1) = omega arith in
      so_far ∙ (ap (λ n. run f n s) e ∙ (step (K - i) ∙ ap (λ n. run f n b) z))

  pub no_turn : K + 1 ≤ i → run f (suc k) from ≡ None
  no_turn h =
      let e : K + 1 - i ≡ 0 = omega arith in
      let z : suc k ≡ K + 1 = omega arith in
      ap (λ n. run f n from) z ∙ (so_far ∙ ap (λ n. run f n s) e)

-- a turn on a letter, by the step to p and what the row answers there
module _ (A : Automaton) (r : List ℕ) (a s p : ℕ) (d : Direction) (goes_to : p ≡ to A s a) (goes_way : way A s a ≡ way_of d) where
  abbrev turns : ℕ → Turn ℕ (Option ℕ)
  turns = crossing A (of_row r).at a

  pub leaves : d ≡ Right → (n : ℕ) → run turns (suc n) s ≡ Some (Some p)
  leaves e n = let w : way A s a ≡ R = cc in let t : turns s ≡ stop (Some p) = cc in cc

  pub stays : d ≡ Left → (of_row r).at p ≡ None → (n : ℕ) → run turns (suc n) s ≡ Some None
  stays e o n =
      let w : way A s a ≡ L = cc in
      let q : (of_row r).at (to A s a) ≡ None = ap (λ x. (of_row r).at x) (sym goes_to) ∙ o in
      let t : turns s ≡ stop None = cc in cc

  pub comes_back : (b : ℕ) → d ≡ Left → (of_row r).at p ≡ Some b → (n : ℕ) → run turns (suc n) s ≡ run turns n b
  comes_back b e o n =
      let w : way A s a ≡ L = cc in
      let q : (of_row r).at (to A s a) ≡ Some b = ap (λ x. (of_row r).at x) (sym goes_to) ∙ o in
      let t : turns s ≡ on b = cc in cc

-- the answer of all turns on a letter
pub crossed_by : (A : Automaton) (r : List ℕ) (a q : ℕ) (o : Option (Option ℕ)) → run (crossing A (of_row r).at a) (suc A.states) q ≡ o → or_else None o ≡ cross A (of_row r).at a q
crossed_by A r a q o e = sym (cross_run A (of_row r).at a q ∙ ap (or_else None) e)

-- a turn at the right end, in the state s
module _ (A : Automaton) (r : List ℕ) (s : ℕ) where
  abbrev pub lasts : ℕ → Turn ℕ Verdict
  lasts = ending A (of_row r).at

  pub accepted : s ≡ A.accept → (n : ℕ) → run lasts (suc n) s ≡ Some Verdict.Accepts
  accepted e n = let z = eq-eqb s A.accept e in let t : lasts s ≡ stop Verdict.Accepts = cc in cc

  pub rejected : (s ≡ A.accept → ⊥) → s ≡ A.reject → (n : ℕ) → run lasts (suc n) s ≡ Some Verdict.Rejects
  rejected ne e n =
      let y = ne_eqb s A.accept ne in
      let z = eq-eqb s A.reject e in
      let t : lasts s ≡ stop Verdict.Rejects = cc in cc

  -- neither accept nor reject: the step at the right end leads to p
  module _ (p : ℕ) (goes_to : p ≡ to A s (right_end A)) (na : s ≡ A.accept → ⊥) (nr : s ≡ A.reject → ⊥) where
    into : lasts s ≡ arriving (stop Verdict.Loops) ((of_row r).at p) on
    into =
        let y = ne_eqb s A.accept na in
        let z = ne_eqb s A.reject nr in
        let q = ap (λ x. (of_row r).at x) goes_to in cc

    pub lost : (of_row r).at p ≡ None → (n : ℕ) → run lasts (suc n) s ≡ Some Verdict.Loops
    lost o n = let i = into in let t : lasts s ≡ stop Verdict.Loops = cc in cc

    pub again : (b : ℕ) → (of_row r).at p ≡ Some b → (n : ℕ) → run lasts (suc n) s ≡ run lasts n b
    again b o n = let i = into in let t : lasts s ≡ on b = cc in cc

-- the verdict, by the answer at the first arrival and the turns from there
pub no_arrival : (A : Automaton) (r : List ℕ) → (of_row r).first ≡ None → Verdict.Loops ≡ verdict A (of_row r)
no_arrival A r o = let v = verdict_run A (of_row r) in cc

pub judged : (A : Automaton) (r : List ℕ) (b : ℕ) → (of_row r).first ≡ Some b → (o : Option Verdict) → run (ending A (of_row r).at) (suc A.states) b ≡ o → or_else Verdict.Loops o ≡ verdict A (of_row r)
judged A r b f o h = let v = verdict_run A (of_row r) in cc

pub or_never : (o : Option ℕ) → unwrap_or o 255 ≡ byte_of o
or_never (Some p) = refl
or_never None = refl

-- the row of a table, written state by state
pub made : (A : Automaton) (T : Table) (k v : ℕ) (xs : List ℕ) → k ≡ A.states → k ≤ 32 → length xs ≡ 33
    → ((j : ℕ) → j < k → get_or xs j 0 ≡ byte_of (T.at j)) → ((j : ℕ) → k ≤ j → j < 33 → get_or xs j 0 ≡ 255) → v ≡ byte_of T.first → set xs 32 v ≡ row_of A T
made A T k v xs same few len low high first =
    ext_get_or 0 _ _ (length-set xs 32 v ∙ (len ∙ refl)) each
  where
    at_j : (j : ℕ) → j < 33 → Dec (j ≡ 32) → Dec (j < k) → get_or (set xs 32 v) j 0 ≡ answer A T j
    at_j j l (yes e) d = let p : 32 < length xs = omega arith in rw e (get_or-set_same xs 32 v 0 p ∙ first)
    at_j j l (no n) (yes h) =
        let z = ne_eqb j 32 n in
        let h' : j < A.states = omega arith in
        let y = lt-ltb j A.states h' in
        let t = get_or-set_other xs 32 j v 0 n in
        let u = low j h in
        cc
    at_j j l (no n) (no h) =
        let z = ne_eqb j 32 n in
        let h' : A.states ≤ j = omega arith in
        let y = le-ltb j A.states h' in
        let t = get_or-set_other xs 32 j v 0 n in
        let h'' : k ≤ j = omega arith in
        let u = high j h'' l in
        cc

    each : (j : ℕ) → j < length (set xs 32 v) → get_or (set xs 32 v) j 0 ≡ get_or (row_of A T) j 0
    each j h =
        let l : j < 33 = omega (arith, length-set xs 32 v) in
        at_j j l (ℕ_discrete j 32) (dec_lt j k) ∙ sym (get_or-map-range_with_len (answer A T) 0 33 j j 0 l (omega arith))

-- the first k answers of a table stand in the row, and 255 past them
abbrev pub Written : Table → ℕ → List ℕ → Type 0
Written T k xs = (length xs ≡ 33) × ((j : ℕ) → j < k → get_or xs j 0 ≡ byte_of (T.at j)) × ((j : ℕ) → k ≤ j → j < 33 → get_or xs j 0 ≡ 255)

pub none_written : (T : Table) → Written T 0 (replicate 33 255)
none_written T = (refl, λ j h. absurd (omega arith), λ j h l. get_or-replicate 33 j 255 0 l)

pub one_written : (T : Table) (k v : ℕ) (xs : List ℕ) → k < 32 → Written T k xs → v ≡ byte_of (T.at k) → Written T (k + 1) (set xs k v)
one_written T k v xs few w e = (length-set xs k v ∙ w.0, low, λ j h l. get_or-set_other xs k j v 0 (λ z. omega arith) ∙ w.2 j (omega arith) l)
  where
    low : (j : ℕ) → j < k + 1 → get_or (set xs k v) j 0 ≡ byte_of (T.at j)
    low j h = go (ℕ_discrete j k)
      where
        go : Dec (j ≡ k) → get_or (set xs k v) j 0 ≡ byte_of (T.at j)
        go (yes z) = let p : k < length xs = omega (arith, w.0) in rw z (get_or-set_same xs k v 0 p ∙ e)
        go (no n) = get_or-set_other xs k j v 0 n ∙ w.1 j (omega arith)
