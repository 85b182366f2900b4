-- The row of a table in a list, and lists that grow at the end.
use Rattle.std.proofs.Common.{◌≡◌, ℕ, zero, suc, ◌<◌, ◌≤◌, Bool, true, false, cond, List, [], ◌∷◌, ◌++◌, length, is_some, Some, None, Option, unwrap_or, sym, refl, ap, ◌∙◌, subst, arith}
use native.Mathlib.Decide.{dec_lt}
use Rattle.std.proofs.lemmas.Slice.Eq.{bytes_eq-Decides}
use Rattle.std.proofs.lemmas.List.{length_push, get_or_push, get_or_append_left}
use Rattle.register.specs.declared.tables.CrossingTable.{CrossingTable}
use Rattle.register.specs.Keys.{place_of, next_of, with_key}
use Rattle.register.specs.Tables.{blank_table, alike_tables}
use Rattle.dfa.specs.Known.{place, row}

alike : (x t : CrossingTable) → x.answers ≡ t.answers → x ≡ t
alike x t e = let wrap : List ℕ → CrossingTable = λ xs. record { answers = xs } in ap wrap e

-- the row of a table in a longer list
place_more : (b : Bool) (o : Option ℕ) (n : ℕ) → unwrap_or (cond b (Some 0) (next_of o)) (suc n) ≡ cond b 0 (suc (unwrap_or o n))
place_more true o n = refl
place_more false None n = refl
place_more false (Some i) n = refl

place_cons : (x : CrossingTable) (xs : List CrossingTable) (t : CrossingTable) → place (x ∷ xs) t ≡ cond (alike_tables x t) 0 (suc (place xs t))
place_cons x xs t = place_more (alike_tables x t) (place_of alike_tables xs t) (length xs)

place_le : (xs : List CrossingTable) (t : CrossingTable) → place xs t ≤ length xs
place_le [] t = omega arith
place_le (x ∷ xs) t = subst (λ n. n ≤ suc (length xs)) (sym (place_cons x xs t)) (go (place_le xs t) (alike_tables x t))
  where
    go : place xs t ≤ length xs → (b : Bool) → cond b 0 (suc (place xs t)) ≤ suc (length xs)
    go h true = omega arith
    go h false = omega arith

pub place_at : (xs : List CrossingTable) (t : CrossingTable) → place xs t < length xs → row xs (place xs t) ≡ t
place_at [] t h = absurd (let k : ⊥ = omega arith in k)
place_at (x ∷ xs) t h =
    ap (row (x ∷ xs)) (place_cons x xs t)
    ∙ go (place_at xs t) (alike_tables x t) refl (subst (λ n. n < suc (length xs)) (place_cons x xs t) h)
  where
    go : (place xs t < length xs → row xs (place xs t) ≡ t) → (b : Bool) → alike_tables x t ≡ b → cond b 0 (suc (place xs t)) < suc (length xs) → row (x ∷ xs) (cond b 0 (suc (place xs t))) ≡ t
    go ih true e l = alike x t ((bytes_eq-Decides x.answers t.answers).0 e)
    go ih false e l = ih (omega arith)

pub place_first : (xs : List CrossingTable) (t : CrossingTable) (j : ℕ) → j < length xs → row xs j ≡ t → place xs t ≤ j
place_first [] t j h e = omega arith
place_first (x ∷ xs) t zero h e =
    let z = (bytes_eq-Decides x.answers t.answers).1 (ap (λ (y : CrossingTable). y.answers) e) in
    subst (λ n. n ≤ 0) (sym (place_cons x xs t ∙ ap (λ b. cond b 0 (suc (place xs t))) z)) (omega arith)
place_first (x ∷ xs) t (suc j) h e =
    subst (λ n. n ≤ suc j) (sym (place_cons x xs t)) (go (place_first xs t j (omega arith) e) (alike_tables x t))
  where
    go : place xs t ≤ j → (b : Bool) → cond b 0 (suc (place xs t)) ≤ suc j
    go ih true = omega arith
    go ih false = omega arith

-- ys begins with xs
pub record Front (xs ys : List CrossingTable) : Type 0 where
  pub longer : length xs ≤ length ys
  pub same : (j : ℕ) → j < length xs → row ys j ≡ row xs j

pub front_refl : (xs : List CrossingTable) → Front xs xs
front_refl xs = record { longer = omega arith; same = λ j h. refl }

pub front_trans : {xs ys zs : List CrossingTable} → Front xs ys → Front ys zs → Front xs zs
front_trans f g = record { longer = omega (arith, f.longer, g.longer); same = λ j h. g.same j (omega (arith, f.longer)) ∙ f.same j h }

pub front_place : {xs ys : List CrossingTable} → Front xs ys → (t : CrossingTable) → place xs t < length xs → place ys t ≡ place xs t
front_place {xs} {ys} f t h =
    let p = place xs t in
    let q = place ys t in
    let up : p < length ys = omega (arith, f.longer) in
    let le : q ≤ p = place_first ys t p up (f.same p h ∙ place_at xs t h) in
    let lq : q < length xs = omega arith in
    let ge : p ≤ q = place_first xs t q lq (sym (f.same q lq) ∙ place_at ys t (omega arith)) in
    omega arith

-- a table that has a row, and one that has none
some_place : (o : Option ℕ) (n : ℕ) → unwrap_or o n < n → is_some o ≡ true
some_place None n h = absurd (let k : ⊥ = omega arith in k)
some_place (Some i) n h = refl

pub with_old : (xs : List CrossingTable) (t : CrossingTable) → place xs t < length xs → with_key alike_tables xs t ≡ xs
with_old xs t h = ap (λ b. cond b xs (xs ++ t ∷ [])) (some_place (place_of alike_tables xs t) (length xs) h)

pub place_below : (xs : List CrossingTable) (t : CrossingTable) (i : ℕ) → place_of alike_tables xs t ≡ Some i → i < length xs
place_below [] t i e = absurd (let z : ◌≡◌ {A = ℕ} 0 1 = cc in omega arith)
place_below (x ∷ xs) t i e = go (place_below xs t) (alike_tables x t) (place_of alike_tables xs t) refl e
  where
    go : ((j : ℕ) → place_of alike_tables xs t ≡ Some j → j < length xs) → (b : Bool) (o : Option ℕ) → place_of alike_tables xs t ≡ o → cond b (Some 0) (next_of o) ≡ Some i → i < suc (length xs)
    go ih true o f g = let z : 0 ≡ i = cc in omega arith
    go ih false None f g = absurd (let z : ◌≡◌ {A = ℕ} 0 1 = cc in omega arith)
    go ih false (Some j) f g = let z : suc j ≡ i = cc in let l = ih j f in omega arith

pub with_next : (xs : List CrossingTable) (t : CrossingTable) → length xs ≤ place xs t → with_key alike_tables xs t ≡ xs ++ t ∷ []
with_next xs t h = go (place_of alike_tables xs t) refl
  where
    go : (o : Option ℕ) → place_of alike_tables xs t ≡ o → with_key alike_tables xs t ≡ xs ++ t ∷ []
    go None e = ap (λ p. cond (is_some p) xs (xs ++ t ∷ [])) e
    go (Some i) e = absurd (let l = place_below xs t i e in let v : place xs t ≡ i = ap (λ p. unwrap_or p (length xs)) e in omega arith)

push_front : (xs : List CrossingTable) (t : CrossingTable) → Front xs (xs ++ t ∷ [])
push_front xs t = record { longer = omega (arith, length_push xs t); same = λ j h. get_or_append_left xs (t ∷ []) blank_table j h }

pub new_front : (xs : List CrossingTable) (t : CrossingTable) → Front xs (with_key alike_tables xs t)
new_front xs t = go (dec_lt (place xs t) (length xs))
  where
    go : Dec (place xs t < length xs) → Front xs (with_key alike_tables xs t)
    go (yes h) = subst (Front xs) (sym (with_old xs t h)) (front_refl xs)
    go (no h) = subst (Front xs) (sym (with_next xs t (omega arith))) (push_front xs t)

-- the table has a row in the list that it is added to
pub new_there : (xs : List CrossingTable) (t : CrossingTable) → place (with_key alike_tables xs t) t < length (with_key alike_tables xs t)
new_there xs t = go (dec_lt (place xs t) (length xs))
  where
    go : Dec (place xs t < length xs) → place (with_key alike_tables xs t) t < length (with_key alike_tables xs t)
    go (yes h) = rw (with_old xs t h) h
    go (no h) =
        let e = with_next xs t (omega arith) in
        let l = length_push xs t in
        let z = place_first (xs ++ t ∷ []) t (length xs) (omega arith) (get_or_push xs t blank_table (length xs) refl) in
        rw e (omega arith)
