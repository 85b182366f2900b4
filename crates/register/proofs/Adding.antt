-- One key more: what adding answers and leaves, by the three ways that it goes. Assumes nothing.
use Rattle.std.proofs.Common.{◌≡◌, ℕ, ◌+◌, ◌<◌, ◌≤◌, Bool, ◌⊎◌, List, [], ◌∷◌, ◌++◌, length, take, set, Some, None, Option, sym, refl, ◌∙◌, inl, inr, arith}
use Rattle.std.proofs.lemmas.List.{length_push, get_or_push, get_or_append_left, length-set, length-take-le, take-append-drop, take_more_set, drop-set-lt}
use Rattle.std.proofs.lemmas.Bool.{cases_lt, le-leb, lt-leb}
use Rattle.register.specs.Keys.{place_of, seat_of, keys_after, laid_in, At, Absent, Differ, Grows, Added}
use Rattle.register.specs.Seats.{Seated}
use Rattle.register.proofs.Places.{Fair, place_at, place_absent, place_here}

-- a key at the end of the others
pub push_old : {K : Type 0} (xs : List K) (k x : K) (i : ℕ) → At xs x i → At (xs ++ k ∷ []) x i
push_old xs k x i a = (omega (arith, length_push xs k), get_or_append_left xs (k ∷ []) x i a.0 ∙ a.1)

pub push_new : {K : Type 0} (xs : List K) (k : K) → At (xs ++ k ∷ []) k (length xs)
push_new xs k = (omega (arith, length_push xs k), get_or_push xs k k (length xs) refl)

pub push_only : {K : Type 0} (xs : List K) (k x : K) (i : ℕ) → At (xs ++ k ∷ []) x i → At xs x i ⊎ ((x ≡ k) × (i ≡ length xs))
push_only xs k x i a =
    elim (cases_lt i (length xs)) [
      | inl l ↦ inl (l, sym (get_or_append_left xs (k ∷ []) x i l) ∙ a.1)
      | inr g ↦
          let q : length xs ≡ i = omega (arith, length_push xs k) in
          inr (sym a.1 ∙ get_or_push xs k x i q, sym q)
    ]

pub push_differ : {K : Type 0} (xs : List K) (k : K) → Differ xs → Absent xs k → Differ (xs ++ k ∷ [])
push_differ xs k d n x i j (lt, a, b) = go (push_only xs k x i a) (push_only xs k x j b) where
  go : At xs x i ⊎ ((x ≡ k) × (i ≡ length xs)) → At xs x j ⊎ ((x ≡ k) × (j ≡ length xs)) → ⊥
  go (inl p) (inl q) = d x i j (lt, p, q)
  go (inl p) (inr q) = n i (rw q.0 at p)
  go (inr p) (inl q) = omega arith
  go (inr p) (inr q) = omega arith

-- the three ways
pub seat_known : {K : Type 0} (alike : K → K → Bool) (room : ℕ) (xs : List K) (k : K) (i : ℕ) → length xs ≤ room → place_of alike xs k ≡ Some i → (seat_of alike room xs k ≡ Some i) × (keys_after alike room xs k ≡ xs)
unfolding seat_of keys_after
seat_known alike room xs k i le e = rw (e, le-leb (length xs) room le) (e, refl)

pub seat_full : {K : Type 0} (alike : K → K → Bool) (room : ℕ) (xs : List K) (k : K) → length xs ≡ room → place_of alike xs k ≡ None → (seat_of alike room xs k ≡ None) × (keys_after alike room xs k ≡ xs)
unfolding seat_of keys_after
seat_full alike room xs k q e =
    let long : room < length (xs ++ k ∷ []) = omega (arith, length_push xs k) in
    rw (e, lt-leb (length (xs ++ k ∷ [])) room long) (refl, refl)

pub seat_new : {K : Type 0} (alike : K → K → Bool) → Fair alike → (room : ℕ) (xs : List K) (k : K) → Differ xs → length xs < room → place_of alike xs k ≡ None → (seat_of alike room xs k ≡ Some (length xs)) × (keys_after alike room xs k ≡ xs ++ k ∷ [])
unfolding seat_of keys_after
seat_new alike fair room xs k d lt e =
    let le : length (xs ++ k ∷ []) ≤ room = omega (arith, length_push xs k) in
    let n = place_absent alike fair xs k e in
    let p = place_here alike fair (xs ++ k ∷ []) k (push_differ xs k d n) (length xs) (push_new xs k) in
    rw (e, le-leb (length (xs ++ k ∷ [])) room le) (p, refl)

-- what they mean
no_place : (i : ℕ) → ◌≡◌ {A = Option ℕ} (Some i) None → ⊥
no_place i e = let z : ◌≡◌ {A = ℕ} 0 1 = cc in omega arith

grows_known : {K : Type 0} (room : ℕ) (xs : List K) (k : K) (i : ℕ) → Differ xs → At xs k i → Grows room xs k (Some i) xs
grows_known room xs k i d a = record {
  different = d;
  stands = λ j e. let q : i ≡ j = cc in rw q at a;
  stay = λ x j b. b;
  others = λ x j b. inl b;
  none = λ e. absurd (no_place i e);
  none_back = λ n q. absurd (n i a);
}

grows_full : {K : Type 0} (room : ℕ) (xs : List K) (k : K) → Differ xs → Absent xs k → length xs ≡ room → Grows room xs k None xs
grows_full room xs k d n q = record {
  different = d;
  stands = λ j e. absurd (no_place j (sym e));
  stay = λ x j b. b;
  others = λ x j b. inl b;
  none = λ e. (n, q, refl);
  none_back = λ m e. refl;
}

grows_new : {K : Type 0} (room : ℕ) (xs : List K) (k : K) → Differ xs → Absent xs k → length xs < room → Grows room xs k (Some (length xs)) (xs ++ k ∷ [])
grows_new room xs k d n lt = record {
  different = push_differ xs k d n;
  stands = λ j e. let q : length xs ≡ j = cc in rw q at (push_new xs k);
  stay = push_old xs k;
  others = λ x j b. elim (push_only xs k x j b) [ inl a ↦ inl a | inr w ↦ inr w.0 ];
  none = λ e. absurd (no_place (length xs) e);
  none_back = λ m q. let no : ⊥ = omega arith in absurd no;
}

-- the same over all places, of which the first n have keys
laid_same : {K : Type 0} (places : List K) (n : ℕ) → n ≤ length places → places ≡ laid_in places (take n places)
laid_same places n le = rw (length-take-le n places le) (sym (take-append-drop n places))

laid_new : {K : Type 0} (places : List K) (n : ℕ) (k : K) → n < length places → set places n k ≡ laid_in places (take (n + 1) (set places n k))
laid_new places n k lt =
    let le : n + 1 ≤ length (set places n k) = simp length-set (omega arith) in
    let l : n < n + 1 = omega arith in
    rw (length-take-le (n + 1) (set places n k) le, ← drop-set-lt (n + 1) places n k l) (sym (take-append-drop (n + 1) (set places n k)))

pub added_known : {K : Type 0} (alike : K → K → Bool) → Fair alike → (places : List K) (n : ℕ) (k : K) (i : ℕ) → n ≤ length places → Differ (take n places) → Some i ≡ place_of alike (take n places) k → Added alike places (take n places) k (Some i) places (take n places)
added_known alike fair places n k i le d e =
    let long : length (take n places) ≤ length places = omega (arith, length-take-le n places le) in
    let w = seat_known alike (length places) (take n places) k i long (sym e) in
    record {
      place = sym w.0;
      keys = sym w.1;
      others = laid_same places n le;
      room = refl;
      grows = grows_known (length places) (take n places) k i d (place_at alike fair (take n places) k i (sym e));
    }

pub added_full : {K : Type 0} (alike : K → K → Bool) → Fair alike → (places : List K) (n : ℕ) (k : K) → n ≡ length places → Differ (take n places) → None ≡ place_of alike (take n places) k → Added alike places (take n places) k None places (take n places)
added_full alike fair places n k q d e =
    let le : n ≤ length places = omega arith in
    let long : length (take n places) ≡ length places = length-take-le n places le ∙ q in
    let w = seat_full alike (length places) (take n places) k long (sym e) in
    record {
      place = sym w.0;
      keys = sym w.1;
      others = laid_same places n le;
      room = refl;
      grows = grows_full (length places) (take n places) k d (place_absent alike fair (take n places) k (sym e)) long;
    }

pub added_new : {K : Type 0} (alike : K → K → Bool) → Fair alike → (places : List K) (n : ℕ) (k : K) → n < length places → Differ (take n places) → None ≡ place_of alike (take n places) k → Added alike places (take n places) k (Some n) (set places n k) (take (n + 1) (set places n k))
added_new alike fair places n k lt d e =
    let long : length (take n places) ≡ n = length-take-le n places (omega arith) in
    let short : length (take n places) < length places = omega arith in
    let more : take (n + 1) (set places n k) ≡ take n places ++ k ∷ [] = take_more_set places n k lt in
    let w = seat_new alike fair (length places) (take n places) k d short (sym e) in
    let g = grows_new (length places) (take n places) k d (place_absent alike fair (take n places) k (sym e)) short in
    record {
      place = sym (rw long at w.0);
      keys = more ∙ sym w.1;
      others = laid_new places n k lt;
      room = length-set places n k;
      grows = rw more (rw long at g);
    }

pub seated : {K : Type 0} (alike : K → K → Bool) → Fair alike → (places : List K) (n : ℕ) (k : K) (r : Option ℕ) → n ≤ length places → Differ (take n places) → r ≡ place_of alike (take n places) k → Seated alike places n k r
seated alike fair places n k (Some i) le d e = added_known alike fair places n k i le d e
seated alike fair places n k None le d e = (
  (λ q. added_full alike fair places n k q d e),
  (λ q. added_new alike fair places n k (omega arith) d e),
)
