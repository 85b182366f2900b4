-- The place of a key. Assumes nothing.
use Rattle.std.proofs.Common.{◌≡◌, ℕ, zero, suc, ◌<◌, Bool, true, false, List, [], ◌∷◌, length, get_or, Some, None, Decides, Option, sym, refl, ap, ◌∙◌, inl, inr, suc-le-suc, le_of_suc-le-suc, not-suc-le-zero, zero-lt-suc, arith}
use Rattle.std.specs.Option.{MatchOption}
use Rattle.std.specs.List.{AllWithin, HoldsAt}
use Rattle.std.proofs.lemmas.Bool.{cases_order, cases_Bool, both_ways}
use Rattle.register.specs.Keys.{place_of, next_of, At, Absent, Differ, Tells}

-- a scan from the first place finds the key, or passes all places
place_some : {K : Type 0} (alike : K → K → Bool) (xs : List K) (k : K) (i : ℕ) → ((j : ℕ) → j < i → alike (get_or xs j k) k ≡ false) → i < length xs → alike (get_or xs i k) k ≡ true → place_of alike xs k ≡ Some i
place_some alike [] k i b h e = absurd (not-suc-le-zero h)
place_some alike (x ∷ xs) k zero b h e = rw e refl
place_some alike (x ∷ xs) k (suc i) b h e =
    rw (b 0 (zero-lt-suc i)) (ap next_of (place_some alike xs k i (λ j l. b (suc j) (suc-le-suc l)) (le_of_suc-le-suc h) e))

place_none : {K : Type 0} (alike : K → K → Bool) (xs : List K) (k : K) → ((j : ℕ) → j < length xs → alike (get_or xs j k) k ≡ false) → place_of alike xs k ≡ None
place_none alike [] k b = refl
place_none alike (x ∷ xs) k b =
    rw (b 0 (zero-lt-suc (length xs))) (ap next_of (place_none alike xs k (λ j l. b (suc j) (suc-le-suc l))))

-- what `position` finds is the place
pub first_place : {K : Type 0} (alike : K → K → Bool) (xs : List K) (k : K) (r : Option ℕ)
    → MatchOption r (AllWithin (λ x. alike x k ≡ false) xs 0 (length xs)) (λ i. (i < length xs) × HoldsAt (λ x. alike x k ≡ true) xs i × AllWithin (λ x. alike x k ≡ false) xs 0 i)
    → r ≡ place_of alike xs k
first_place alike xs k None h = sym (place_none alike xs k (λ j l. h j k (omega arith) l))
first_place alike xs k (Some i) (l, t, f) = sym (place_some alike xs k i (λ j l. f j k (omega arith) l) l (t k))

-- a sameness that decides equality of contents
abbrev pub Fair : {K : Type 0} → (K → K → Bool) → Type 0
Fair {K} alike = (x y : K) → Decides (alike x y) (x ≡ y)

-- what an answer says of the keys
abbrev Says : {K : Type 0} → List K → K → Option ℕ → Type 0
Says xs k (Some i) = At xs k i
Says xs k None = Absent xs k

absent_more : {K : Type 0} (x : K) (xs : List K) (k : K) → (x ≡ k → ⊥) → Absent xs k → Absent (x ∷ xs) k
absent_more x xs k ne a zero h = ne h.1
absent_more x xs k ne a (suc i) h = a i (le_of_suc-le-suc h.0, h.1)

says_next : {K : Type 0} (x : K) (xs : List K) (k : K) (r : Option ℕ) → (x ≡ k → ⊥) → Says xs k r → Says (x ∷ xs) k (next_of r)
says_next x xs k (Some i) ne h = (suc-le-suc h.0, h.1)
says_next x xs k None ne h = absent_more x xs k ne h

place_says : {K : Type 0} (alike : K → K → Bool) → Fair alike → (xs : List K) (k : K) → Says xs k (place_of alike xs k)
place_says alike fair [] k = λ i h. not-suc-le-zero h.0
place_says alike fair (x ∷ xs) k =
    elim (cases_Bool (alike x k)) [
      | inl e ↦ rw e (zero-lt-suc (length xs), (fair x k).0 e)
      | inr e ↦ rw e (says_next x xs k (place_of alike xs k) (λ q. both_ways _ e ((fair x k).1 q)) (place_says alike fair xs k))
    ]

pub place_at : {K : Type 0} (alike : K → K → Bool) → Fair alike → (xs : List K) (k : K) (i : ℕ) → place_of alike xs k ≡ Some i → At xs k i
place_at alike fair xs k i e = rw e at (place_says alike fair xs k)

pub place_absent : {K : Type 0} (alike : K → K → Bool) → Fair alike → (xs : List K) (k : K) → place_of alike xs k ≡ None → Absent xs k
place_absent alike fair xs k e = rw e at (place_says alike fair xs k)

-- a key stands at one place only
one_place : {K : Type 0} (xs : List K) (k : K) → Differ xs → (i j : ℕ) → At xs k i → At xs k j → i ≡ j
one_place xs k d i j a b =
    elim (cases_order i j) [
      | inl q ↦ q
      | inr (inl l) ↦ absurd (d k i j (l, a, b))
      | inr (inr g) ↦ absurd (d k j i (g, b, a))
    ]

-- where a key stands among different ones is its place, however it was looked for
pub place_here : {K : Type 0} (alike : K → K → Bool) → Fair alike → (xs : List K) (k : K) → Differ xs → (i : ℕ) → At xs k i → place_of alike xs k ≡ Some i
place_here alike fair xs k d i a = go (place_of alike xs k) refl where
  go : (r : Option ℕ) → place_of alike xs k ≡ r → place_of alike xs k ≡ Some i
  go (Some j) e = e ∙ ap Some (one_place xs k d j i (place_at alike fair xs k j e) a)
  go None e = absurd (place_absent alike fair xs k e i a)

pub place_nowhere : {K : Type 0} (alike : K → K → Bool) → Fair alike → (xs : List K) (k : K) → Absent xs k → place_of alike xs k ≡ None
place_nowhere alike fair xs k n = go (place_of alike xs k) refl where
  go : (r : Option ℕ) → place_of alike xs k ≡ r → place_of alike xs k ≡ None
  go (Some j) e = absurd (n j (place_at alike fair xs k j e))
  go None e = e

pub tells : {K : Type 0} (alike : K → K → Bool) → Fair alike → (xs : List K) (k : K) → Differ xs → Tells xs k (place_of alike xs k)
tells alike fair xs k d = record {
  some = place_at alike fair xs k;
  some_back = place_here alike fair xs k d;
  none = place_absent alike fair xs k;
  none_back = place_nowhere alike fair xs k;
}
