-- What adding the tables of a row does to the rows.
use Rattle.std.proofs.Common.{◌≡◌, ℕ, suc, ◌+◌, ◌-◌, ◌<◌, ◌≤◌, Bool, true, false, cond, List, [], ◌∷◌, ◌++◌, map, length, get_or, take, drop, set, replicate, Some, None, Option, unwrap_or, sym, refl, ap, ◌∙◌, subst, add-one, arith, length-set, get_or-set_other, get_or-set_same, ext_get_or, le-ltb, lt-ltb}
use native.Mathlib.Decide.{dec_lt, ℕ_discrete}
use lib.ListN.{get_or-replicate}
use Rattle.std.specs.List.{range_with_len}
use Rattle.std.proofs.lemmas.List.FromFn.{get_or-map-range_with_len, length-map-range_with_len}
use Rattle.std.proofs.lemmas.List.{drop-drop, drop_at, length-append, length-drop, length-take-le, take-append-drop}
use Rattle.std.proofs.lemmas.Bool.{leb-true, leb-false}
use Rattle.two_way.specs.Automaton.{Automaton}
use Rattle.register.specs.Keys.{place_of, with_key, fits_in, seat_of, keys_after, laid_in}
use Rattle.register.specs.Tables.{alike_tables}
use Rattle.register.specs.declared.tables.CrossingTable.{CrossingTable}
use Rattle.crossing.specs.Computed.{extended_of}
use Rattle.dfa.specs.Known.{place, lettered, cell}
use Rattle.dfa.proofs.Placing.{front_place, new_front, new_there}
use Rattle.dfa.proofs.Growth.{lettered_there, lettered_later}

-- an add that answers a place, and one that finds none
pub added : (room : ℕ) (xs : List CrossingTable) (k : CrossingTable) (i : ℕ) → seat_of alike_tables room xs k ≡ Some i
    → (keys_after alike_tables room xs k ≡ with_key alike_tables xs k) × (i ≡ place (with_key alike_tables xs k) k) × (length (with_key alike_tables xs k) ≤ room)
unfolding seat_of keys_after
added room xs k i e = go (fits_in alike_tables room xs k) refl
  where
    go : (b : Bool) → fits_in alike_tables room xs k ≡ b → (keys_after alike_tables room xs k ≡ with_key alike_tables xs k) × (i ≡ place (with_key alike_tables xs k) k) × (length (with_key alike_tables xs k) ≤ room)
    go true f =
        let p : place_of alike_tables (with_key alike_tables xs k) k ≡ Some i = rw f at e in
        (ap (λ b. cond b (with_key alike_tables xs k) xs) f, sym (ap (λ o. unwrap_or o (length (with_key alike_tables xs k))) p), leb-true _ _ f)
    go false f = let n : ◌≡◌ {A = Option ℕ} None (Some i) = rw f at e in absurd (let z : ◌≡◌ {A = ℕ} 0 1 = cc in omega arith)

pub refused : (room : ℕ) (xs : List CrossingTable) (k : CrossingTable) → seat_of alike_tables room xs k ≡ None → (room < length (with_key alike_tables xs k)) × (keys_after alike_tables room xs k ≡ xs)
unfolding seat_of keys_after
refused room xs k e = go (fits_in alike_tables room xs k) refl
  where
    go : (b : Bool) → fits_in alike_tables room xs k ≡ b → (room < length (with_key alike_tables xs k)) × (keys_after alike_tables room xs k ≡ xs)
    go true f =
        let p : place_of alike_tables (with_key alike_tables xs k) k ≡ None = rw f at e in
        let v : place (with_key alike_tables xs k) k ≡ length (with_key alike_tables xs k) = ap (λ o. unwrap_or o (length (with_key alike_tables xs k))) p in
        absurd (let z : ⊥ = omega (arith, new_there xs k) in z)
    go false f = (leb-false _ _ f, ap (λ b. cond b (with_key alike_tables xs k) xs) f)

-- keys laid over keys, where they are more
pub laid_again : (ps xs ys : List CrossingTable) → length xs ≤ length ys → laid_in (laid_in ps xs) ys ≡ laid_in ps ys
laid_again ps xs ys h =
    let d = length ys - length xs in
    let z : length xs + d ≡ length ys = omega arith in
    ap (λ zs. ys ++ zs)
    (ap (λ n. drop n (xs ++ drop (length xs) ps)) (sym z) ∙ (sym (drop-drop d (length xs) (xs ++ drop (length xs) ps))
    ∙ (ap (drop d) (drop_at xs (drop (length xs) ps) (length xs) refl) ∙ (drop-drop d (length xs) ps ∙ ap (λ n. drop n ps) z))))

pub laid_length : (ps xs : List CrossingTable) → length xs ≤ length ps → length (laid_in ps xs) ≡ length ps
laid_length ps xs h = length-append xs (drop (length xs) ps) ∙ (ap (λ n. length xs + n) (length-drop (length xs) ps) ∙ omega arith)

-- the cells of the letters below a, in the rows once these are added, and 0 in the others
abbrev pub Cells : Automaton → CrossingTable → List CrossingTable → ℕ → List ℕ → Type 0
Cells A t xs a cells =
    (length cells ≡ 16)
    × ((b : ℕ) → b < a → get_or cells b 0 ≡ place (lettered A t xs a) (extended_of A t b))
    × ((b : ℕ) → a ≤ b → b < 16 → get_or cells b 0 ≡ 0)

module _ (A : Automaton) (t : CrossingTable) (xs : List CrossingTable) where
  pub one_cell : (a : ℕ) (cells : List ℕ) (v : ℕ) → a < 16 → v ≡ place (lettered A t xs (suc a)) (extended_of A t a) → Cells A t xs a cells → Cells A t xs (a + 1) (set cells a v)
  one_cell a cells v few e c =
      subst (λ n. Cells A t xs n (set cells a v)) (sym (add-one a))
      (length-set cells a v ∙ c.0, λ b h. low b h (ℕ_discrete b a), λ b h l. get_or-set_other cells a b v 0 (λ z. omega arith) ∙ c.2 b (omega arith) l)
    where
      low : (b : ℕ) → b < suc a → Dec (b ≡ a) → get_or (set cells a v) b 0 ≡ place (lettered A t xs (suc a)) (extended_of A t b)
      low b h (yes z) = let la : a < length cells = omega (arith, c.0) in rw z (get_or-set_same cells a v 0 la ∙ e)
      low b h (no z) =
          let l : b < a = omega arith in
          get_or-set_other cells a b v 0 z ∙ (c.1 b l ∙ sym (front_place (new_front (lettered A t xs a) (extended_of A t a)) (extended_of A t b) (lettered_there A t xs a b l)))

  pub all_cells : (a : ℕ) (cells : List ℕ) → a ≡ A.letters → Cells A t xs a cells → cells ≡ map (cell A (lettered A t xs A.letters) t) (range_with_len 0 16)
  all_cells a cells e c =
      ext_get_or 0 cells _ (c.0 ∙ sym (length-map-range_with_len (cell A (lettered A t xs A.letters) t) 0 16)) (λ b h. at b (omega (arith, c.0)) (dec_lt b A.letters))
    where
      at : (b : ℕ) → b < 16 → Dec (b < A.letters) → get_or cells b 0 ≡ get_or (map (cell A (lettered A t xs A.letters) t) (range_with_len 0 16)) b 0
      at b h d = val d ∙ sym (get_or-map-range_with_len (cell A (lettered A t xs A.letters) t) 0 16 b b 0 h (omega arith))
        where
          val : Dec (b < A.letters) → get_or cells b 0 ≡ cell A (lettered A t xs A.letters) t b
          val (yes l) = c.1 b (omega arith) ∙ (ap (λ n. place (lettered A t xs n) (extended_of A t b)) e ∙ ap (λ z. cond z (place (lettered A t xs A.letters) (extended_of A t b)) 0) (sym (lt-ltb b A.letters l)))
          val (no l) = c.2 b (omega arith) h ∙ ap (λ z. cond z (place (lettered A t xs A.letters) (extended_of A t b)) 0) (sym (le-ltb b A.letters (omega arith)))

  -- one letter more, whose table k is added to the rows so far
  module _ (room a : ℕ) (now : List CrossingTable) (k : CrossingTable) (is_k : k ≡ extended_of A t a) (rows : now ≡ lettered A t xs a) where
    lettered_more : with_key alike_tables now k ≡ lettered A t xs (suc a)
    lettered_more = (λ i. with_key alike_tables (rows i) (is_k i))

    pub row_full : (m : ℕ) → a < m → seat_of alike_tables room now k ≡ None → room < length (lettered A t xs m)
    row_full m l e =
        let f = (refused room now k e).0 in
        let g = (lettered_later A t xs (suc a) m l).longer in
        omega (arith, ap length lettered_more)

    pub row_added : (i : ℕ) → seat_of alike_tables room now k ≡ Some i
        → (keys_after alike_tables room now k ≡ lettered A t xs (a + 1)) × (i ≡ place (lettered A t xs (suc a)) (extended_of A t a)) × (i < length (lettered A t xs (a + 1))) × (length (lettered A t xs (a + 1)) ≤ room)
    row_added i e =
        let d = added room now k i e in
        let n : lettered A t xs (suc a) ≡ lettered A t xs (a + 1) = ap (lettered A t xs) (sym (add-one a)) in
        let p : i ≡ place (lettered A t xs (suc a)) (extended_of A t a) = d.1 ∙ (λ j. place (lettered_more j) (is_k j)) in
        (d.0 ∙ lettered_more ∙ n, p, omega (arith, lettered_there A t xs (suc a) a (omega arith), ap length n), omega (arith, d.2, ap length lettered_more, ap length n))

    pub row_longer : length now ≤ length (lettered A t xs (a + 1))
    row_longer = omega (arith, ap length rows, (lettered_later A t xs a (a + 1) (omega arith)).longer)

-- what a register holds lies in its places
pub held_laid : (n : ℕ) (ps : List CrossingTable) → n ≤ length ps → ps ≡ laid_in ps (take n ps)
held_laid n ps h = sym (ap (λ m. take n ps ++ drop m ps) (length-take-le n ps h) ∙ take-append-drop n ps)

pub held_long : (n : ℕ) (ps : List CrossingTable) → n ≤ length ps → length (take n ps) ≤ length ps
held_long n ps h = omega (arith, length-take-le n ps h)

-- the first table, added to a register that has no key
pub first_added : (ts ps xs : List CrossingTable) (k : CrossingTable) (i : ℕ) → xs ≡ [] → ps ≡ ts → Some i ≡ seat_of alike_tables (length ps) xs k
    → (ps' xs' : List CrossingTable) → xs' ≡ keys_after alike_tables (length ps) xs k → ps' ≡ laid_in ps xs'
    → (xs' ≡ k ∷ []) × (ps' ≡ laid_in ts xs') × (length ps' ≡ length ts)
first_added ts ps xs k i none same seat ps' xs' keys others =
    let d = added (length ps) xs k i (sym seat) in
    let one : with_key alike_tables xs k ≡ k ∷ [] = ap (λ ys. with_key alike_tables ys k) none in
    let e : xs' ≡ k ∷ [] = keys ∙ (d.0 ∙ one) in
    let le : length xs' ≤ length ps = omega (arith, d.2, ap length (keys ∙ d.0)) in
    (e, others ∙ ap (λ qs. laid_in qs xs') same, ap length others ∙ (laid_length ps xs' le ∙ ap length same))
