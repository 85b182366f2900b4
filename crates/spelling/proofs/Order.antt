-- Names in their order of appearance: each has one place, and keeps it. Assumes nothing.
use Rattle.std.proofs.Common.{◌≡◌, ℕ, zero, suc, ◌+◌, ◌<◌, ◌≤◌, List, [], ◌∷◌, ◌++◌, length, get_or, Some, None, Option, unwrap_or, sym, refl, ap, ◌∙◌, subst, inl, inr, not-suc-le-zero, arith}
use Rattle.std.specs.List.{slice_get}
use Rattle.std.specs.Str.{bytes_eq}
use Rattle.std.proofs.lemmas.Slice.Eq.{bytes_eq-Decides}
use Rattle.std.proofs.lemmas.Option.{slice_get-get_or, slice_get_past as nth_past}
use Rattle.std.proofs.lemmas.Bool.{cases_lt}
use Rattle.register.specs.Keys.{place_of, At, Differ}
use Rattle.register.proofs.Places.{place_at, place_absent, place_here}
use Rattle.register.proofs.Adding.{push_differ, push_new, push_old}
use Rattle.spelling.specs.Said.{with_name, in_order, state_of}
use Rattle.spelling.proofs.First.{option}

-- the element at a place is within the list, and one only
pub nth_in : {X : Type 0} (xs : List X) (i : ℕ) (x : X) → slice_get xs i ≡ Some x → i < length xs
nth_in xs i x e = elim (cases_lt i (length xs)) [
  | inl l ↦ l
  | inr g ↦ absurd (let n = nth_past xs i g in let z : ◌≡◌ {A = ℕ} 0 1 = cc in omega arith)
]

pub nth_one : {X : Type 0} (o : Option X) (x y : X) → o ≡ Some x → o ≡ Some y → x ≡ y
nth_one o x y p q = cc

-- a place in the words of the register
at_nth : (ns : List (List ℕ)) (x : List ℕ) (q : ℕ) → At ns x q → slice_get ns q ≡ Some x
at_nth ns x q a = slice_get-get_or ns q x a.0 ∙ ap Some a.1

nth_at : (ns : List (List ℕ)) (x : List ℕ) (q : ℕ) → slice_get ns q ≡ Some x → At ns x q
nth_at ns x q e = let l = nth_in ns q x e in (l, nth_one (slice_get ns q) (get_or ns q x) x (slice_get-get_or ns q x l) e)

pub placed_nth : (ns : List (List ℕ)) (x : List ℕ) (q : ℕ) → place_of bytes_eq ns x ≡ Some q → slice_get ns q ≡ Some x
placed_nth ns x q e = at_nth ns x q (place_at bytes_eq bytes_eq-Decides ns x q e)

pub nth_placed : (ns : List (List ℕ)) (x : List ℕ) (q : ℕ) → Differ ns → slice_get ns q ≡ Some x → place_of bytes_eq ns x ≡ Some q
nth_placed ns x q d e = place_here bytes_eq bytes_eq-Decides ns x d q (nth_at ns x q e)

-- the state of a name that has a place
pub state_is : (ns : List (List ℕ)) (x : List ℕ) (q : ℕ) → Differ ns → slice_get ns q ≡ Some x → state_of ns x ≡ q
state_is ns x q d e = ap (λ (o : Option ℕ). unwrap_or o 0) (nth_placed ns x q d e)

pub getD_is : (ns : List (List ℕ)) (x : List ℕ) (q : ℕ) → slice_get ns q ≡ Some x → get_or ns q [] ≡ x
getD_is ns x q e = nth_one (slice_get ns q) (get_or ns q []) x (slice_get-get_or ns q [] (nth_in ns q x e)) e

pub one_place : (ns : List (List ℕ)) (x : List ℕ) (p q : ℕ) → Differ ns → slice_get ns p ≡ Some x → slice_get ns q ≡ Some x → p ≡ q
one_place ns x p q d e f = nth_one (place_of bytes_eq ns x) p q (nth_placed ns x p d e) (nth_placed ns x q d f)

-- one name more
known : (ns : List (List ℕ)) (x : List ℕ) (q : ℕ) → place_of bytes_eq ns x ≡ Some q → with_name ns x ≡ ns
known ns x q e = rw e refl

unknown : (ns : List (List ℕ)) (x : List ℕ) → place_of bytes_eq ns x ≡ None → with_name ns x ≡ ns ++ x ∷ []
unknown ns x e = rw e refl

differ_with : (ns : List (List ℕ)) (x : List ℕ) → Differ ns → Differ (with_name ns x)
differ_with ns x d = elim (option (place_of bytes_eq ns x)) [
  | inl e ↦ subst Differ (sym (unknown ns x e)) (push_differ ns x d (place_absent bytes_eq bytes_eq-Decides ns x e))
  | inr w ↦ subst Differ (sym (known ns x w.0 w.1)) d
]

kept_with : (ns : List (List ℕ)) (x y : List ℕ) (q : ℕ) → slice_get ns q ≡ Some y → slice_get (with_name ns x) q ≡ Some y
kept_with ns x y q h = elim (option (place_of bytes_eq ns x)) [
  | inl e ↦ ap (λ (ms : List (List ℕ)). slice_get ms q) (unknown ns x e) ∙ at_nth (ns ++ x ∷ []) y q (push_old ns x y q (nth_at ns y q h))
  | inr w ↦ ap (λ (ms : List (List ℕ)). slice_get ms q) (known ns x w.0 w.1) ∙ h
]

-- the name stands somewhere in the list
abbrev pub In : List ℕ → List (List ℕ) → Type 0
In x xs = (i : ℕ) × (slice_get xs i ≡ Some x)

has_with : (ns : List (List ℕ)) (x : List ℕ) → In x (with_name ns x)
has_with ns x = elim (option (place_of bytes_eq ns x)) [
  | inl e ↦ (length ns, ap (λ (ms : List (List ℕ)). slice_get ms (length ns)) (unknown ns x e) ∙ at_nth (ns ++ x ∷ []) x (length ns) (push_new ns x))
  | inr w ↦ (w.0, ap (λ (ms : List (List ℕ)). slice_get ms w.0) (known ns x w.0 w.1) ∙ placed_nth ns x w.0 w.1)
]

-- all names of a text
differ_order : (ns xs : List (List ℕ)) → Differ ns → Differ (in_order ns xs)
differ_order ns [] d = d
differ_order ns (x ∷ xs) d = differ_order (with_name ns x) xs (differ_with ns x d)

kept_order : (ns xs : List (List ℕ)) (y : List ℕ) (q : ℕ) → slice_get ns q ≡ Some y → slice_get (in_order ns xs) q ≡ Some y
kept_order ns [] y q h = h
kept_order ns (x ∷ xs) y q h = kept_order (with_name ns x) xs y q (kept_with ns x y q h)

pub has_order : (ns xs : List (List ℕ)) (x : List ℕ) (i : ℕ) → slice_get xs i ≡ Some x → In x (in_order ns xs)
has_order ns [] x i e = absurd (let z : ◌≡◌ {A = ℕ} 0 1 = cc in omega arith)
has_order ns (y ∷ xs) x zero e =
    let w = has_with ns y in
    let q : y ≡ x = cc in
    (w.0, kept_order (with_name ns y) xs x w.0 (w.1 ∙ ap Some q))
has_order ns (y ∷ xs) x (suc i) e = has_order (with_name ns y) xs x i e

none_differ : Differ {K = List ℕ} []
none_differ k i j (l, a, b) = not-suc-le-zero a.0

pub order_differ : (xs : List (List ℕ)) → Differ (in_order [] xs)
order_differ xs = differ_order [] xs none_differ

pub order_more : (ns xs ys : List (List ℕ)) → in_order ns (xs ++ ys) ≡ in_order (in_order ns xs) ys
order_more ns [] ys = refl
order_more ns (x ∷ xs) ys = order_more (with_name ns x) xs ys

-- a name more is one name more at most
pub few_with : (ns : List (List ℕ)) (x : List ℕ) → length (with_name ns x) ≤ length ns + 1
few_with ns x = elim (option (place_of bytes_eq ns x)) [
  | inl e ↦ omega (arith, ap length (unknown ns x e), (push_new ns x).0, length_one ns x)
  | inr w ↦ omega (arith, ap length (known ns x w.0 w.1))
]
  where
    length_one : (ms : List (List ℕ)) (y : List ℕ) → length (ms ++ y ∷ []) ≡ length ms + 1
    length_one [] y = refl
    length_one (m ∷ ms) y = omega (arith, length_one ms y)

-- names are never lost
pub more_with : (ns : List (List ℕ)) (x : List ℕ) → length ns ≤ length (with_name ns x)
more_with ns x = elim (option (place_of bytes_eq ns x)) [
  | inl e ↦ omega (arith, ap length (unknown ns x e), (push_new ns x).0)
  | inr w ↦ omega (arith, ap length (known ns x w.0 w.1))
]

pub more_order : (ns xs : List (List ℕ)) → length ns ≤ length (in_order ns xs)
more_order ns [] = omega arith
more_order ns (x ∷ xs) = omega (arith, more_with ns x, more_order (with_name ns x) xs)
