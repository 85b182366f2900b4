-- The pair keeps the laws, and one step of a composed automaton, by the part that it is in.
use Rattle.std.proofs.Common.{◌≡◌, ℕ, ◌+◌, ◌-◌, ◌<◌, ◌≤◌, Bool, true, false, cond, eqb, ltb, leb, Some, None, Option, sym, refl, ap, subst, arith, rules}
use Rattle.std.proofs.lemmas.Bool.{and_parts, leb-true, eqb-true}
use Rattle.std.proofs.lemmas.Bool.Decides.{nat_tests}
use Rattle.two_way.specs.Automaton.{Automaton, left_end, right_end, Lawful, L, to, way}
use Rattle.two_way.specs.Runs.{Going}
use Rattle.two_way.specs.Pairs.{shifted, composed, blank, Fits, fits, pair}
use Rattle.two_way.proofs.Sound.{to_is, way_is}

pub blank_lawful : (m : ℕ) → 1 ≤ m → m ≤ 16 → Lawful (blank m)
blank_lawful m low high = search (rules, nat_tests)

-- the test of `Fits` tells
fits_true : (A B : Automaton) → Fits A B → fits A B ≡ true
fits_true A B f = grind (arith, nat_tests)

true_fits : (A B : Automaton) → fits A B ≡ true → Fits A B
true_fits A B e =
    let h = and_parts (leb (A.states + B.states) 32) (eqb A.letters B.letters) e in
    (leb-true (A.states + B.states) 32 h.0, eqb-true A.letters B.letters h.1)

pub pair_fits : (A B : Automaton) → Fits A B → pair A B ≡ composed A B
pair_fits A B f = ap (λ b. cond b (composed A B) (blank A.letters)) (fits_true A B f)

pub pair_blank : (A B : Automaton) → (Fits A B → ⊥) → pair A B ≡ blank A.letters
pair_blank A B n = go (fits A B) refl
  where
    go : (b : Bool) → fits A B ≡ b → pair A B ≡ blank A.letters
    go true e = absurd (n (true_fits A B e))
    go false e = ap (λ b. cond b (composed A B) (blank A.letters)) e

module _ (A B : Automaton) (la : Lawful A) (lb : Lawful B) where
  composed_lawful : Fits A B → Lawful (composed A B)
  composed_lawful f = record {
    states_low = omega (arith, la.states_low);
    states_high = f.0;
    letters_low = la.letters_low;
    letters_high = la.letters_high;
    start_in = omega (arith, la.start_in);
    accept_in = omega (arith, lb.accept_in);
    reject_in = omega (arith, lb.reject_in);
    apart = λ e. lb.apart (omega arith);
    inside = λ q c h k e. grind (arith, nat_tests, la.inside q c, lb.inside (q - A.states) c, lb.inside B.start c);
    past_states = λ q c h. grind (arith, nat_tests, lb.past_states (q - A.states) c);
    past_columns = λ q c h. grind (arith, nat_tests);
    state_in = λ q c p d e. grind (arith, nat_tests, la.state_in q c p d, lb.state_in (q - A.states) c (p - A.states) d, lb.state_in B.start c (p - A.states) d);
    direction_in = λ q c p d e. grind (arith, nat_tests, la.direction_in q c p d, lb.direction_in (q - A.states) c (p - A.states) d, lb.direction_in B.start c (p - A.states) d);
    at_left = λ q p d e. grind (arith, nat_tests, la.at_left q p d, lb.at_left (q - A.states) (p - A.states) d, lb.at_left B.start (p - A.states) d);
    at_right = λ q p d e. grind (arith, nat_tests, la.at_right q p d, lb.at_right (q - A.states) (p - A.states) d);
    accept_keeps = record { on = λ c h. grind (arith, nat_tests, lb.accept_keeps.on c); at_right = grind (arith, nat_tests, lb.accept_keeps.at_right) };
    reject_keeps = record { on = λ c h. grind (arith, nat_tests, lb.reject_keeps.on c); at_right = grind (arith, nat_tests, lb.reject_keeps.at_right) };
  }

  pub pair_lawful : Lawful (pair A B)
  pair_lawful = go (fits A B) refl
    where
      go : (b : Bool) → fits A B ≡ b → Lawful (pair A B)
      go true e = subst Lawful (sym (pair_fits A B (true_fits A B e))) (composed_lawful (true_fits A B e))
      go false e = subst Lawful (ap (λ b. cond b (composed A B) (blank A.letters)) (sym e)) (blank_lawful A.letters la.letters_low la.letters_high)

-- one step renumbers a step of B
shift : (P B : Automaton) (k q p c : ℕ) → P.next q c ≡ shifted k (B.next p c) → (B.next p c ≡ None → q ≡ k + p) → (to P q c ≡ k + to B p c) × (way P q c ≡ way B p c)
unfolding to way
shift P B k q p c e n = go (B.next p c) refl
  where
    go : (o : Option (ℕ × ℕ)) → B.next p c ≡ o → (to P q c ≡ k + to B p c) × (way P q c ≡ way B p c)
    go (Some x) e' = (cc, cc)
    go None e' = let z = n e' in (cc, cc)

-- the steps of the composed automaton, by the part that it is in
module _ (A B : Automaton) (la : Lawful A) (lb : Lawful B) where
  -- B's states
  pub in_B : (q c : ℕ) → c ≤ right_end A → (to (composed A B) (A.states + q) c ≡ A.states + to B q c) × (way (composed A B) (A.states + q) c ≡ way B q c)
  in_B q c h = shift (composed A B) B A.states (A.states + q) q c
      (let e : (A.states + q) - A.states ≡ q = omega arith in grind (arith, nat_tests, ap (λ p. shifted A.states (B.next p c)) e))
      (λ _. refl)

  -- A's states, where A goes on
  pub in_A : (q c : ℕ) → c ≤ right_end A → q < A.states → Going A q → (to (composed A B) q c ≡ to A q c) × (way (composed A B) q c ≡ way A q c)
  unfolding to way
  in_A q c h l g =
      let n = g.0 in
      let n' = g.1 in
      let e : (composed A B).next q c ≡ A.next q c = grind (arith, nat_tests) in (cc, cc)

  -- A's accept goes back
  pub goes_back : (q c : ℕ) → c ≤ right_end A → q ≡ A.accept → (c ≡ left_end A → ⊥) → (to (composed A B) q c ≡ q) × (way (composed A B) q c ≡ L)
  goes_back q c h e n =
      let s : (composed A B).next q c ≡ Some (q, 0) = grind (arith, nat_tests, la.accept_in) in
      (to_is (composed A B) q c q 0 s, way_is (composed A B) q c q 0 s)

  -- and makes B's first step at the left end
  pub hands_over : (q c : ℕ) → q ≡ A.accept → c ≡ left_end A → c ≡ left_end B
      → (to (composed A B) q c ≡ A.states + to B B.start c) × (way (composed A B) q c ≡ way B B.start c)
  hands_over q c e a b = shift (composed A B) B A.states q B.start c (grind (arith, nat_tests, la.accept_in))
      (λ n. absurd (lb.inside B.start c lb.start_in (omega arith) n))

  -- A's reject goes to B's
  pub gives_up : (q c : ℕ) → c ≤ right_end A → q ≡ A.reject → to (composed A B) q c ≡ A.states + B.reject
  gives_up q c h e = to_is (composed A B) q c (A.states + B.reject) (cond (ltb c (right_end A)) 1 0) (grind (arith, nat_tests, la.reject_in, la.apart))
