-- A text is its parts joined, and is parted in one way only.
use Rattle.std.proofs.Common.{◌≡◌, ℕ, zero, suc, ◌+◌, ◌-◌, ◌<◌, Bool, true, false, cond, eqb, List, [], ◌∷◌, ◌++◌, length, get_or, take, drop, sym, refl, ap, ◌∙◌, inl, inr, suc-le-suc, le_of_suc-le-suc, not-suc-le-zero, zero-lt-suc, add-one, arith}
use Rattle.std.specs.Str.Iter.{LacksByte}
use Rattle.std.specs.List.{join_with_byte, AllByRecursion}
use Rattle.std.proofs.lemmas.List.{take_rest, nil_from_length}
use Rattle.std.proofs.lemmas.Bool.{cases_Bool, eq-eqb, ne_eqb, eqb-true, eqb-false, both_ways}
use Rattle.text.specs.Parts.{parts, onto, Parted, PartedOnly}

-- the empty part before the others, or a byte before the first, stays free of x
pub lacks_none : (x : ℕ) → LacksByte x []
lacks_none x k h e = not-suc-le-zero h

pub lacks_more : (x b : ℕ) (p : List ℕ) → (b ≡ x → ⊥) → LacksByte x p → LacksByte x (b ∷ p)
lacks_more x b p n f zero h e = n e
lacks_more x b p n f (suc k) h e = f k (le_of_suc-le-suc h) e

pub lacks_rest : (x b : ℕ) (p : List ℕ) → LacksByte x (b ∷ p) → LacksByte x p
lacks_rest x b p f k h e = f (suc k) (suc-le-suc h) e

pub lacks_first : (x b : ℕ) (p : List ℕ) → LacksByte x (b ∷ p) → eqb b x ≡ false
lacks_first x b p f = ne_eqb b x (f 0 (zero-lt-suc (length p)))

-- no list with a first part is empty
parted_onto : (x b : ℕ) (bs : List ℕ) (ps : List (List ℕ)) → (b ≡ x → ⊥) → Parted x bs ps → Parted x (b ∷ bs) (onto b ps)
parted_onto x b bs [] n h = absurd (h.some refl)
parted_onto x b bs (p ∷ []) n h = record {
  some = λ e. let z : ◌≡◌ {A = ℕ} 0 1 = cc in omega arith;
  clear = (lacks_more x b p n h.clear.0, tt);
  whole = ap (λ (t : List ℕ). b ∷ t) h.whole;
}
parted_onto x b bs (p ∷ q ∷ ps) n h = record {
  some = λ e. let z : ◌≡◌ {A = ℕ} 0 1 = cc in omega arith;
  clear = (lacks_more x b p n h.clear.0, h.clear.1);
  whole = ap (λ (t : List ℕ). b ∷ t) h.whole;
}

parted_at : (x : ℕ) (bs : List ℕ) (ps : List (List ℕ)) → Parted x bs ps → Parted x (x ∷ bs) ([] ∷ ps)
parted_at x bs [] h = absurd (h.some refl)
parted_at x bs (p ∷ ps) h = record {
  some = λ e. let z : ◌≡◌ {A = ℕ} 0 1 = cc in omega arith;
  clear = (lacks_none x, h.clear);
  whole = ap (λ (t : List ℕ). x ∷ t) h.whole;
}

pub parted : (x : ℕ) (bs : List ℕ) → Parted x bs (parts x bs)
parted x [] = record { some = λ e. let z : ◌≡◌ {A = ℕ} 0 1 = cc in omega arith; clear = (lacks_none x, tt); whole = refl }
parted x (b ∷ bs) = elim (cases_Bool (eqb b x)) [
  | inl y ↦ rw (y, eqb-true b x y) (parted_at x bs (parts x bs) (parted x bs))
  | inr z ↦ rw z (parted_onto x b bs (parts x bs) (eqb-false b x z) (parted x bs))
]

-- a part without x, and then the parts after an x
pub parts_cons : (x : ℕ) (p rest : List ℕ) → LacksByte x p → parts x (p ++ (x ∷ rest)) ≡ p ∷ parts x rest
parts_cons x [] rest f = rw (eq-eqb x x refl) refl
parts_cons x (b ∷ p) rest f = rw (lacks_first x b p f) (ap (onto b) (parts_cons x p rest (lacks_rest x b p f)))

pub parts_one : (x : ℕ) (p : List ℕ) → LacksByte x p → parts x p ≡ p ∷ []
parts_one x [] f = refl
parts_one x (b ∷ p) f = rw (lacks_first x b p f) (ap (onto b) (parts_one x p (lacks_rest x b p f)))

pub parts_rejoined : (x : ℕ) (ps : List (List ℕ)) → (ps ≡ [] → ⊥) → AllByRecursion (LacksByte x) ps → parts x (join_with_byte x ps) ≡ ps
parts_rejoined x [] n f = absurd (n refl)
parts_rejoined x (p ∷ []) n f = parts_one x p f.0
parts_rejoined x (p ∷ q ∷ ps) n f =
    parts_cons x p (join_with_byte x (q ∷ ps)) f.0
    ∙ ap (λ (t : List (List ℕ)). p ∷ t) (parts_rejoined x (q ∷ ps) (λ e. let z : ◌≡◌ {A = ℕ} 0 1 = cc in omega arith) f.1)

pub parted_only : (x : ℕ) (bs : List ℕ) → PartedOnly x bs (parts x bs)
parted_only x bs = (parted x bs, λ qs h. sym (parts_rejoined x qs h.some h.clear) ∙ ap (parts x) h.whole)

-- the first part, found by the place of the first x
split_at : (x : ℕ) (bs : List ℕ) (n : ℕ) → n < length bs → get_or bs n 0 ≡ x → bs ≡ take n bs ++ (x ∷ drop (suc n) bs)
split_at x [] n h e = absurd (not-suc-le-zero h)
split_at x (b ∷ bs) zero h e = ap (λ (c : ℕ). c ∷ bs) e
split_at x (b ∷ bs) (suc n) h e = ap (λ (t : List ℕ). b ∷ t) (split_at x bs n (le_of_suc-le-suc h) e)

lacks_take : (x : ℕ) (bs : List ℕ) (n : ℕ) → ((k : ℕ) → k < n → get_or bs k 0 ≡ x → ⊥) → LacksByte x (take n bs)
lacks_take x [] zero f k h e = not-suc-le-zero h
lacks_take x [] (suc n) f k h e = not-suc-le-zero h
lacks_take x (b ∷ bs) zero f k h e = not-suc-le-zero h
lacks_take x (b ∷ bs) (suc n) f zero h e = f 0 (zero-lt-suc n) e
lacks_take x (b ∷ bs) (suc n) f (suc k) h e = lacks_take x bs n (λ j l. f (suc j) (suc-le-suc l)) k (le_of_suc-le-suc h) e

pub first_part : (x : ℕ) (bs : List ℕ) (n : ℕ) → n < length bs → ((k : ℕ) → k < n → get_or bs k 0 ≡ x → ⊥) → get_or bs n 0 ≡ x → parts x bs ≡ take n bs ∷ parts x (take (length bs - (n + 1)) (drop (n + 1) bs))
first_part x bs n h before found =
    ap (parts x) (split_at x bs n h found)
    ∙ parts_cons x (take n bs) (drop (suc n) bs) (lacks_take x bs n before)
    ∙ rw (take_rest bs (n + 1), add-one)

pub some_parts : (x : ℕ) (bs : List ℕ) → eqb (length (parts x bs)) 0 ≡ false
some_parts x bs = ne_eqb _ _ (λ e. (parted x bs).some (nil_from_length (parts x bs) e))

-- the test by which a text that is written out is seen to lack a byte
abbrev pub lacking : ℕ → List ℕ → Bool
lacking x [] = true
lacking x (b ∷ bs) = cond (eqb b x) false (lacking x bs)

pub lacks_from_test : (x : ℕ) (bs : List ℕ) → lacking x bs ≡ true → LacksByte x bs
lacks_from_test x [] t = lacks_none x
lacks_from_test x (b ∷ bs) t = elim (cases_Bool (eqb b x)) [
  | inl y ↦ absurd (let f : lacking x (b ∷ bs) ≡ false = rw y refl in both_ways _ f t)
  | inr z ↦ lacks_more x b bs (eqb-false b x z) (lacks_from_test x bs (rw z at t))
]

-- what a list of parts lacks, and what they lack joined
pub lacks_append : (x : ℕ) (p q : List ℕ) → LacksByte x p → LacksByte x q → LacksByte x (p ++ q)
lacks_append x [] q f g = g
lacks_append x (b ∷ p) q f g = lacks_more x b (p ++ q) (f 0 (zero-lt-suc (length p))) (lacks_append x p q (lacks_rest x b p f) g)

lacks_front : (x : ℕ) (p q : List ℕ) → LacksByte x (p ++ q) → LacksByte x p
lacks_front x [] q f = lacks_none x
lacks_front x (b ∷ p) q f = lacks_more x b p (f 0 (zero-lt-suc (length (p ++ q)))) (lacks_front x p q (lacks_rest x b (p ++ q) f))

lacks_back : (x : ℕ) (p q : List ℕ) → LacksByte x (p ++ q) → LacksByte x q
lacks_back x [] q f = f
lacks_back x (b ∷ p) q f = lacks_back x p q (lacks_rest x b (p ++ q) f)

pub lacks_rejoined : (x y : ℕ) (ps : List (List ℕ)) → (y ≡ x → ⊥) → AllByRecursion (LacksByte x) ps → LacksByte x (join_with_byte y ps)
lacks_rejoined x y [] n f = lacks_none x
lacks_rejoined x y (p ∷ []) n f = f.0
lacks_rejoined x y (p ∷ q ∷ ps) n f =
    lacks_append x p (y ∷ join_with_byte y (q ∷ ps)) f.0 (lacks_more x y (join_with_byte y (q ∷ ps)) n (lacks_rejoined x y (q ∷ ps) n f.1))

pub lacks_parts : (x y : ℕ) (ps : List (List ℕ)) → LacksByte x (join_with_byte y ps) → AllByRecursion (LacksByte x) ps
lacks_parts x y [] f = tt
lacks_parts x y (p ∷ []) f = (f, tt)
lacks_parts x y (p ∷ q ∷ ps) f =
    let g = lacks_rest x y (join_with_byte y (q ∷ ps)) (lacks_back x p (y ∷ join_with_byte y (q ∷ ps)) f) in
    (lacks_front x p (y ∷ join_with_byte y (q ∷ ps)) f, lacks_parts x y (q ∷ ps) g)
