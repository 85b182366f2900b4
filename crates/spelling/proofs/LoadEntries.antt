-- The entry that is found for a name and a column, and the columns that lack one.
use Rattle.std.proofs.Common.{◌≡◌, ℕ, zero, suc, ◌+◌, ◌<◌, true, false, cond, not, ◌&&◌, List, [], ◌∷◌, ◌++◌, is_some, Some, None, Decides, Option, sym, refl, ap, ◌∙◌, subst, inl, inr}
use Rattle.std.specs.List.{AllByRecursion, slice_get}
use Rattle.std.proofs.lemmas.Slice.Eq.{bytes_eq-Decides}
use Rattle.std.proofs.lemmas.Bool.{cases_Bool, both_ways, and_parts, and_from, or_left, or_right, or_cases, not-true, not_from_false}
use Rattle.std.proofs.lemmas.Bool.Decides.{Decides-below_or}
use Rattle.text.specs.Lines.{Line}
use Rattle.spelling.specs.Said.{field, letters, halts, is_for, found, entry_for}
use Rattle.spelling.specs.Conditions.{entry_direction, lacks_below, any_lacks}
use Rattle.spelling.specs.Reading.{step_of}
use Rattle.spelling.proofs.LoadNames.{none_some, place, Has, Known, state_is}

pub found_in : (P : Line → Type 0) (m : ℕ) (x : List ℕ) (c : ℕ) (es : List Line) (e : Line) → AllByRecursion P es → found m x c es ≡ Some e → P e × (is_for m x c e ≡ true)
found_in P m x c [] e a h = absurd (none_some e h)
found_in P m x c (y ∷ es) e a h = elim (cases_Bool (is_for m x c y)) [
  | inl t ↦
      let g : Some y ≡ Some e = rw t at h in
      let s : y ≡ e = cc in
      subst (λ (k : Line). P k × (is_for m x c k ≡ true)) s (a.0, t)
  | inr z ↦ found_in P m x c es e a.1 (rw z at h)
]

-- one more entry
pub found_skip : (m : ℕ) (x : List ℕ) (c : ℕ) (es : List Line) (l : Line) → is_for m x c l ≡ false → found m x c (es ++ l ∷ []) ≡ found m x c es
found_skip m x c [] l z = rw z refl
found_skip m x c (e ∷ es) l z = ap (λ (o : Option Line). cond (is_for m x c e) (Some e) o) (found_skip m x c es l z)

pub found_last : (m : ℕ) (x : List ℕ) (c : ℕ) (es : List Line) (l : Line) → found m x c es ≡ None → is_for m x c l ≡ true → found m x c (es ++ l ∷ []) ≡ Some l
found_last m x c [] l n t = rw t refl
found_last m x c (e ∷ es) l n t = elim (cases_Bool (is_for m x c e)) [
  | inl y ↦ absurd (let g : Some e ≡ None = rw y at n in none_some e (sym g))
  | inr y ↦ rw y (found_last m x c es l (rw y at n) t)
]

-- one more name changes no step
pub step_kept : (ns ks : List (List ℕ)) (m : ℕ) (es : List Line) → ((x : List ℕ) (i : ℕ) → place ns x ≡ Some i → place ks x ≡ Some i) → Known ns es → (x : List ℕ) (c : ℕ) → step_of ks (found m x c es) ≡ step_of ns (found m x c es)
step_kept ns ks m es up K x c = go (found m x c es) refl where
  go : (o : Option Line) → found m x c es ≡ o → step_of ks o ≡ step_of ns o
  go None e = refl
  go (Some l) e =
      let h : Has ns (field 4 l) = (found_in (λ (k : Line). Has ns (field 2 k) × Has ns (field 4 k)) m x c es l K e).0.1 in
      ap (λ (p : ℕ). Some (p, entry_direction l)) (state_is ks (field 4 l) h.0 (up (field 4 l) h.0 h.1) ∙ sym (state_is ns (field 4 l) h.0 h.1))

-- a name without a place has no entry
pub new_none : (ns : List (List ℕ)) (f : List ℕ) (m : ℕ) (es : List Line) → Known ns es → place ns f ≡ None → (c : ℕ) → found m f c es ≡ None
new_none ns f m es K z c = go (found m f c es) refl where
  go : (o : Option Line) → found m f c es ≡ o → o ≡ None
  go None e = refl
  go (Some l) e =
      let h = found_in (λ (k : Line). Has ns (field 2 k) × Has ns (field 4 k)) m f c es l K e in
      let s : field 2 l ≡ f = (bytes_eq-Decides (field 2 l) f).0 (and_parts _ _ h.1).0 in
      let k : Has ns f = subst (Has ns) s h.0.0 in
      absurd (none_some k.0 (sym z ∙ k.1))

pub step_none : (ns : List (List ℕ)) (o : Option Line) → step_of ns o ≡ None → o ≡ None
step_none ns None e = refl
step_none ns (Some l) e = absurd (none_some _ (sym e))

pub isSome_step : (ns : List (List ℕ)) (o : Option Line) → is_some (step_of ns o) ≡ is_some o
isSome_step ns None = refl
isSome_step ns (Some e) = refl

pub none_is : {A : Type 0} (o : Option A) → is_some o ≡ false → o ≡ None
none_is None e = refl
none_is (Some x) e = absurd (both_ways true e refl)

-- a column is lacking
decides_none : {A : Type 0} (o : Option A) → Decides (not (is_some o)) (o ≡ None)
decides_none None = (λ _. refl, λ _. refl)
decides_none (Some x) = (λ e. absurd (both_ways false refl e), λ e. absurd (none_some x (sym e)))

lacks_below_is : (ls : List Line) (y : List ℕ) (n : ℕ) → Decides (lacks_below ls y n) ((c : ℕ) × (c < n) × (entry_for ls y c ≡ None))
lacks_below_is ls y n =
    Decides-below_or (λ c. not (is_some (entry_for ls y c))) (λ c. entry_for ls y c ≡ None) (lacks_below ls y) (λ c. decides_none (entry_for ls y c)) refl (λ _. refl) n

pub any_true : (ls : List Line) (xs : List (List ℕ)) (i : ℕ) (y : List ℕ) (c : ℕ) → slice_get xs i ≡ Some y → halts ls y ≡ false → c < letters ls + 2 → entry_for ls y c ≡ None → any_lacks ls xs ≡ true
any_true ls [] i y c e h l n = absurd (none_some y e)
any_true ls (a ∷ xs) zero y c e h l n =
    let s : a ≡ y = cc in
    let t : (not (halts ls y) && lacks_below ls y (letters ls + 2)) ≡ true = and_from _ _ (not_from_false (halts ls y) h) ((lacks_below_is ls y (letters ls + 2)).1 (c, l, n)) in
    or_left _ _ (subst (λ (w : List ℕ). (not (halts ls w) && lacks_below ls w (letters ls + 2)) ≡ true) (sym s) t)
any_true ls (a ∷ xs) (suc i) y c e h l n = or_right _ _ (any_true ls xs i y c e h l n)

-- a state and a column that lack an entry
pub record Lacking (ls : List Line) (xs : List (List ℕ)) : Type 0 where
  pub state : ℕ
  pub name : List ℕ
  pub column : ℕ
  pub named : slice_get xs state ≡ Some name
  pub goes_on : halts ls name ≡ false
  pub low : column < letters ls + 2
  pub none : entry_for ls name column ≡ None

pub any_lacking : (ls : List Line) (xs : List (List ℕ)) → any_lacks ls xs ≡ true → Lacking ls xs
any_lacking ls [] t = absurd (both_ways false refl t)
any_lacking ls (a ∷ xs) t = elim (or_cases (not (halts ls a) && lacks_below ls a (letters ls + 2)) (any_lacks ls xs) t) [
  | inl w ↦
      let p = and_parts (not (halts ls a)) (lacks_below ls a (letters ls + 2)) w in
      let q = (lacks_below_is ls a (letters ls + 2)).0 p.1 in
      record { state = 0; name = a; column = q.0; named = refl; goes_on = not-true (halts ls a) p.0; low = q.1; none = q.2 }
  | inr w ↦
      let q = any_lacking ls xs w in
      record { state = suc q.state; name = q.name; column = q.column; named = q.named; goes_on = q.goes_on; low = q.low; none = q.none }
]
