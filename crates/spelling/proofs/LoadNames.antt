-- Names in their order of arrival, and the places that they have.
use Rattle.std.proofs.Common.{◌≡◌, ℕ, zero, suc, Bool, true, false, cond, ◌⊎◌, List, [], ◌∷◌, ◌++◌, length, is_some, Some, None, Option, unwrap_or, sym, refl, ap, ◌∙◌, subst, inl, inr, arith}
use Rattle.std.specs.List.{AllByRecursion, slice_get}
use Rattle.std.specs.Str.{bytes_eq}
use Rattle.std.proofs.lemmas.Slice.Eq.{bytes_eq-Decides}
use Rattle.text.specs.Lines.{Line}
use Rattle.register.specs.Keys.{place_of, next_of}
use Rattle.spelling.proofs.Order.{nth_placed, order_differ, order_more}
use Rattle.spelling.specs.Said.{field, with_name, in_order, state_of, entry_names, names, spoken}

pub option : {A : Type 0} (o : Option A) → (o ≡ None) ⊎ ((x : A) × (o ≡ Some x))
option None = inl refl
option (Some x) = inr (x, refl)

pub none_some : {A : Type 0} (x : A) → ◌≡◌ {A = Option A} None (Some x) → ⊥
none_some x e = let z : ◌≡◌ {A = ℕ} 0 1 = cc in omega arith

-- the place of a name
abbrev pub place : List (List ℕ) → List ℕ → Option ℕ
place ns x = place_of bytes_eq ns x

pub state_is : (ns : List (List ℕ)) (x : List ℕ) (i : ℕ) → place ns x ≡ Some i → state_of ns x ≡ i
state_is ns x i e = ap (λ (o : Option ℕ). unwrap_or o 0) e

-- one more name
next_kept : (o p : Option ℕ) (i : ℕ) → ((j : ℕ) → o ≡ Some j → p ≡ Some j) → next_of o ≡ Some i → next_of p ≡ Some i
next_kept None p i h e = absurd (none_some i e)
next_kept (Some j) p i h e = ap next_of (h j refl) ∙ e

next_none : (o : Option ℕ) → next_of o ≡ None → o ≡ None
next_none None e = refl
next_none (Some j) e = absurd (none_some (suc j) (sym e))

pub place_push : (ns : List (List ℕ)) (x f : List ℕ) (i : ℕ) → place ns x ≡ Some i → place (ns ++ f ∷ []) x ≡ Some i
place_push [] x f i e = absurd (none_some i e)
place_push (n ∷ ns) x f i e = go (bytes_eq n x) e (λ j w. place_push ns x f j w) where
  go : (b : Bool) → cond b (Some 0) (next_of (place ns x)) ≡ Some i → ((j : ℕ) → place ns x ≡ Some j → place (ns ++ f ∷ []) x ≡ Some j) → cond b (Some 0) (next_of (place (ns ++ f ∷ []) x)) ≡ Some i
  go true h rest = h
  go false h rest = next_kept (place ns x) (place (ns ++ f ∷ []) x) i rest h

place_pushed : (ns : List (List ℕ)) (f : List ℕ) → place ns f ≡ None → place (ns ++ f ∷ []) f ≡ Some (length ns)
place_pushed [] f e = rw ((bytes_eq-Decides f f).1 refl) refl
place_pushed (n ∷ ns) f e = go (bytes_eq n f) e (λ z. place_pushed ns f z) where
  go : (b : Bool) → cond b (Some 0) (next_of (place ns f)) ≡ None → (place ns f ≡ None → place (ns ++ f ∷ []) f ≡ Some (length ns)) → cond b (Some 0) (next_of (place (ns ++ f ∷ []) f)) ≡ Some (suc (length ns))
  go true h rest = absurd (none_some 0 (sym h))
  go false h rest = ap next_of (rest (next_none (place ns f) h))

with_old : (ns : List (List ℕ)) (f : List ℕ) (i : ℕ) → place ns f ≡ Some i → with_name ns f ≡ ns
with_old ns f i e = ap (λ (o : Option ℕ). cond (is_some o) ns (ns ++ f ∷ [])) e

with_new : (ns : List (List ℕ)) (f : List ℕ) → place ns f ≡ None → with_name ns f ≡ ns ++ f ∷ []
with_new ns f e = ap (λ (o : Option ℕ). cond (is_some o) ns (ns ++ f ∷ [])) e

-- a fact of the old names and of the names with one more
pub by_name : (P : List (List ℕ) → Type 0) (ns : List (List ℕ)) (f : List ℕ) → ((i : ℕ) → place ns f ≡ Some i → P ns) → (place ns f ≡ None → P (ns ++ f ∷ [])) → P (with_name ns f)
by_name P ns f old new = elim (option (place ns f)) [
  | inl e ↦ subst P (sym (with_new ns f e)) (new e)
  | inr w ↦ subst P (sym (with_old ns f w.0 w.1)) (old w.0 w.1)
]

pub with_kept : (ns : List (List ℕ)) (f x : List ℕ) (i : ℕ) → place ns x ≡ Some i → place (with_name ns f) x ≡ Some i
with_kept ns f x i e = by_name (λ (ks : List (List ℕ)). place ks x ≡ Some i) ns f (λ _ _. e) (λ _. place_push ns x f i e)

-- the name has some place
abbrev pub Has : List (List ℕ) → List ℕ → Type 0
Has ns x = (i : ℕ) × (place ns x ≡ Some i)

pub with_here : (ns : List (List ℕ)) (f : List ℕ) → Has (with_name ns f) f
with_here ns f = by_name (λ (ks : List (List ℕ)). Has ks f) ns f (λ i e. (i, e)) (λ e. (length ns, place_pushed ns f e))

pub has_kept : (ns : List (List ℕ)) (f x : List ℕ) → Has ns x → Has (with_name ns f) x
has_kept ns f x (i, e) = (i, with_kept ns f x i e)

-- what stands at a place of one more thing: an old one, the new one, or none
pub nth_more : {A : Type 0} (ns : List A) (f : A) (q : ℕ) → (slice_get (ns ++ f ∷ []) q ≡ slice_get ns q) ⊎ ((q ≡ length ns) × (slice_get ns q ≡ None) × (slice_get (ns ++ f ∷ []) q ≡ Some f))
nth_more [] f zero = inr (refl, refl, refl)
nth_more [] f (suc q) = inl refl
nth_more (n ∷ ns) f zero = inl refl
nth_more (n ∷ ns) f (suc q) = elim (nth_more ns f q) [ inl e ↦ inl e | inr w ↦ inr (ap suc w.0, w.1, w.2) ]

-- each name stands at its place only
abbrev pub Apart : List (List ℕ) → Type 0
Apart ns = (q : ℕ) (x : List ℕ) → slice_get ns q ≡ Some x → place ns x ≡ Some q

pub apart_names : (ls : List Line) → Apart (names ls)
apart_names ls q x e = nth_placed (names ls) x q (order_differ (spoken ls)) e

-- the names on one more line
entry_names_more : (es : List Line) (l : Line) → entry_names (es ++ l ∷ []) ≡ entry_names es ++ field 2 l ∷ field 4 l ∷ []
entry_names_more [] l = refl
entry_names_more (e ∷ es) l = ap (λ (xs : List (List ℕ)). field 2 e ∷ field 4 e ∷ xs) (entry_names_more es l)

-- the names on line 1
abbrev pub first_names : Line → List (List ℕ)
first_names h = with_name (with_name (with_name [] (field 3 h)) (field 4 h)) (field 5 h)

pub names_more : (h : Line) (es : List Line) (l : Line) → names (h ∷ (es ++ l ∷ [])) ≡ with_name (with_name (names (h ∷ es)) (field 2 l)) (field 4 l)
names_more h es l = ap (in_order (first_names h)) (entry_names_more es l) ∙ order_more (first_names h) (entry_names es) (field 2 l ∷ field 4 l ∷ [])

-- every name on the lines has a place
order_kept : (xs ns : List (List ℕ)) (x : List ℕ) → Has ns x → Has (in_order ns xs) x
order_kept [] ns x h = h
order_kept (y ∷ xs) ns x h = order_kept xs (with_name ns y) x (has_kept ns y x h)

-- the names on the entries have places
abbrev pub Known : List (List ℕ) → List Line → Type 0
Known ns es = AllByRecursion (λ (e : Line). Has ns (field 2 e) × Has ns (field 4 e)) es

known_order : (es : List Line) (ns : List (List ℕ)) → Known (in_order ns (entry_names es)) es
known_order [] ns = tt
known_order (e ∷ es) ns =
    let more = with_name (with_name ns (field 2 e)) (field 4 e) in (
      (
        order_kept (entry_names es) more (field 2 e) (has_kept (with_name ns (field 2 e)) (field 4 e) (field 2 e) (with_here ns (field 2 e))),
        order_kept (entry_names es) more (field 4 e) (with_here (with_name ns (field 2 e)) (field 4 e)),
      ),
      known_order es more,
    )

pub known_names : (h : Line) (es : List Line) → Known (names (h ∷ es)) es
known_names h es = known_order es (first_names h)

pub known_more : (ns : List (List ℕ)) (f : List ℕ) (es : List Line) → Known ns es → Known (with_name ns f) es
known_more ns f [] K = tt
known_more ns f (e ∷ es) K = ((has_kept ns f (field 2 e) K.0.0, has_kept ns f (field 4 e) K.0.1), known_more ns f es K.1)
