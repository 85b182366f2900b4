-- The rows of a rule grow at the end, and stand once every row is taken.
use Rattle.std.proofs.Common.{◌≡◌, ℕ, zero, suc, ◌<◌, ◌≤◌, cond, List, length, sym, refl, ap, ◌∙◌, subst, arith, le-ltb, lt-ltb}
use native.Mathlib.Decide.{dec_lt, dec_le}
use Rattle.two_way.specs.Automaton.{Automaton}
use Rattle.register.specs.declared.tables.CrossingTable.{CrossingTable}
use Rattle.crossing.specs.Computed.{extended_of}
use Rattle.dfa.specs.Known.{place, row, lettered, taken, known}
use Rattle.dfa.proofs.Placing.{Front, front_refl, front_trans, front_place, new_front, new_there}

module _ (A : Automaton) where
  pub lettered_front : (t : CrossingTable) (xs : List CrossingTable) (a : ℕ) → Front xs (lettered A t xs a)
  lettered_front t xs zero = front_refl xs
  lettered_front t xs (suc a) = front_trans (lettered_front t xs a) (new_front (lettered A t xs a) (extended_of A t a))

  pub lettered_later : (t : CrossingTable) (xs : List CrossingTable) (a b : ℕ) → a ≤ b → Front (lettered A t xs a) (lettered A t xs b)
  lettered_later t xs a zero h = let e : a ≡ 0 = omega arith in rw e (front_refl xs)
  lettered_later t xs a (suc b) h = go (lettered_later t xs a b) (dec_le a b)
    where
      go : (a ≤ b → Front (lettered A t xs a) (lettered A t xs b)) → Dec (a ≤ b) → Front (lettered A t xs a) (lettered A t xs (suc b))
      go ih (yes l) = front_trans (ih l) (new_front (lettered A t xs b) (extended_of A t b))
      go ih (no n) = let e : a ≡ suc b = omega arith in rw e (front_refl (lettered A t xs (suc b)))

  pub front_there : {xs ys : List CrossingTable} → Front xs ys → (t : CrossingTable) → place xs t < length xs → place ys t < length ys
  front_there f t h = omega (arith, front_place f t h, f.longer)

  pub lettered_there : (t : CrossingTable) (xs : List CrossingTable) (m a : ℕ) → a < m → place (lettered A t xs m) (extended_of A t a) < length (lettered A t xs m)
  lettered_there t xs m a h = front_there (lettered_later t xs (suc a) m h) (extended_of A t a) (new_there (lettered A t xs a) (extended_of A t a))

  pub taken_more : (i : ℕ) (xs : List CrossingTable) → i < length xs → taken A i xs ≡ lettered A (row xs i) xs A.letters
  taken_more i xs h = ap (λ b. cond b (lettered A (row xs i) xs A.letters) xs) (lt-ltb i (length xs) h)

  pub taken_none : (i : ℕ) (xs : List CrossingTable) → length xs ≤ i → taken A i xs ≡ xs
  taken_none i xs h = ap (λ b. cond b (lettered A (row xs i) xs A.letters) xs) (le-ltb i (length xs) h)

  taken_front : (i : ℕ) (xs : List CrossingTable) → Front xs (taken A i xs)
  taken_front i xs = go (dec_lt i (length xs))
    where
      go : Dec (i < length xs) → Front xs (taken A i xs)
      go (yes h) = subst (Front xs) (sym (taken_more i xs h)) (lettered_front (row xs i) xs A.letters)
      go (no n) = subst (Front xs) (sym (taken_none i xs (omega arith))) (front_refl xs)

  pub known_later : (i n : ℕ) → i ≤ n → Front (known A i) (known A n)
  known_later i zero h = let e : i ≡ 0 = omega arith in rw e (front_refl (known A 0))
  known_later i (suc n) h = go (known_later i n) (dec_le i n)
    where
      go : (i ≤ n → Front (known A i) (known A n)) → Dec (i ≤ n) → Front (known A i) (known A (suc n))
      go ih (yes l) = front_trans (ih l) (taken_front n (known A n))
      go ih (no k) = let e : i ≡ suc n = omega arith in rw e (front_refl (known A (suc n)))

  -- once every row is taken, the rows stay
  pub settled : (i n : ℕ) → i ≤ n → length (known A i) ≤ i → known A n ≡ known A i
  settled i zero h l = let e : i ≡ 0 = omega arith in rw e refl
  settled i (suc n) h l = go (λ k. settled i n k l) (dec_le i n)
    where
      go : (i ≤ n → known A n ≡ known A i) → Dec (i ≤ n) → known A (suc n) ≡ known A i
      go ih (yes k) = let e = ih k in let f : length (known A n) ≤ n = omega (arith, ap length e) in taken_none n (known A n) f ∙ e
      go ih (no k) = let e : i ≡ suc n = omega arith in rw e refl

  active : (i n : ℕ) → i < n → i < length (known A n) → i < length (known A i)
  active i n h l = go (dec_lt i (length (known A i)))
    where
      go : Dec (i < length (known A i)) → i < length (known A i)
      go (yes k) = k
      go (no k) = absurd (let z : ⊥ = omega (arith, ap length (settled i n (omega arith) (omega arith))) in z)

  -- the row that a letter leads to stands among the rows
  pub row_there : (i n a : ℕ) → i < n → i < length (known A n) → a < A.letters → place (known A n) (extended_of A (row (known A n) i) a) < length (known A n)
  row_there i n a h l k =
      let act = active i n h l in
      let same = (known_later i n (omega arith)).same i act in
      let there = lettered_there (row (known A i) i) (known A i) A.letters a k in
      let f : Front (lettered A (row (known A i) i) (known A i) A.letters) (known A n) = subst (λ xs. Front xs (known A n)) (taken_more i (known A i) act) (known_later (suc i) n h) in
      subst (λ (t : CrossingTable). place (known A n) (extended_of A t a) < length (known A n)) (sym same) (front_there f (extended_of A (row (known A i) i) a) there)

  -- the same place as when the row was taken
  pub row_then : (i n a : ℕ) → i < n → i < length (known A i) → a < A.letters → place (known A n) (extended_of A (row (known A i) i) a) ≡ place (known A (suc i)) (extended_of A (row (known A i) i) a)
  row_then i n a h act k =
      let there = lettered_there (row (known A i) i) (known A i) A.letters a k in
      let t = extended_of A (row (known A i) i) a in
      front_place (known_later (suc i) n h) t (subst (λ xs. place xs t < length xs) (sym (taken_more i (known A i) act)) there)
