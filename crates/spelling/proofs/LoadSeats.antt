-- One more name in a register of 32 places.
use Rattle.std.proofs.Common.{◌≡◌, ℕ, suc, ◌<◌, Bool, true, false, cond, leb, List, [], ◌∷◌, map, length, Some, None, Option, sym, refl, ◌∙◌, arith}
use Rattle.std.specs.Str.{bytes_eq}
use Rattle.std.proofs.lemmas.Bool.{leb-true, leb-false, le-ltb, lt-ltb}
use Rattle.register.specs.Keys.{place_of, next_of, with_key, seat_of, keys_after}
use Rattle.register.specs.Names.{as_name, alike_names}
use Rattle.register.specs.declared.names.Name.{Name}
use Rattle.register.proofs.Mapped.{seat_map, after_map}
use Rattle.register.proofs.Naming.{alike_as_names}
use Rattle.spelling.specs.Said.{with_name}
use Rattle.spelling.specs.Conditions.{one_too_many}
use Rattle.spelling.proofs.LoadNames.{none_some, place, with_here}

place_in : {K : Type 0} (alike : K → K → Bool) (xs : List K) (k : K) (i : ℕ) → place_of alike xs k ≡ Some i → i < length xs
place_in alike [] k i e = absurd (none_some i e)
place_in alike (x ∷ xs) k i e = go (alike x k) (place_of alike xs k) e (λ j w. place_in alike xs k j w) where
  go : (b : Bool) (o : Option ℕ) → cond b (Some 0) (next_of o) ≡ Some i → ((j : ℕ) → o ≡ Some j → j < length xs) → i < suc (length xs)
  go true o h rest = let z : ◌≡◌ {A = ℕ} 0 i = cc in omega arith
  go false None h rest = absurd (none_some i h)
  go false (Some j) h rest = let z : suc j ≡ i = cc in let l = rest j refl in omega arith

-- a place that is given is one of the register's
pub seat_low : {K : Type 0} (alike : K → K → Bool) (room : ℕ) (xs : List K) (k : K) (i : ℕ) → Some i ≡ seat_of alike room xs k → i < room
unfolding seat_of
seat_low alike room xs k i e = go (leb (length (with_key alike xs k)) room) refl e where
  go : (b : Bool) → leb (length (with_key alike xs k)) room ≡ b → Some i ≡ cond b (place_of alike (with_key alike xs k) k) None → i < room
  go true h f = omega (arith, leb-true _ _ h, place_in alike (with_key alike xs k) k i (sym f))
  go false h f = absurd (none_some i (sym f))

module _ (ns : List (List ℕ)) (f : List ℕ) (xs ys : List Name) (k : Name) (names : xs ≡ map as_name ns) (name : k ≡ as_name f) (after : ys ≡ keys_after alike_names 32 xs k) where
  seat : seat_of alike_names 32 xs k ≡ seat_of bytes_eq 32 ns f
  seat = (λ i. seat_of alike_names 32 (names i) (name i)) ∙ seat_map as_name alike_names bytes_eq alike_as_names 32 ns f

  keys : ys ≡ map as_name (keys_after bytes_eq 32 ns f)
  keys = after ∙ (λ i. keys_after alike_names 32 (names i) (name i)) ∙ after_map as_name alike_names bytes_eq alike_as_names 32 ns f

  -- the name has a place
  pub seated : (i : ℕ) → Some i ≡ seat_of alike_names 32 xs k → (one_too_many ns f ≡ false) × (place (with_name ns f) f ≡ Some i) × (ys ≡ map as_name (with_name ns f))
  unfolding seat_of keys_after
  seated i e = go (leb (length (with_name ns f)) 32) refl (e ∙ seat) keys where
    go : (b : Bool) → leb (length (with_name ns f)) 32 ≡ b → Some i ≡ cond b (place (with_name ns f) f) None → ys ≡ map as_name (cond b (with_name ns f) ns)
        → (one_too_many ns f ≡ false) × (place (with_name ns f) f ≡ Some i) × (ys ≡ map as_name (with_name ns f))
    go true h s t = (le-ltb 32 (length (with_name ns f)) (leb-true _ _ h), sym s, t)
    go false h s t = absurd (none_some i (sym s))

  -- or it is one too many
  pub unseated : None ≡ seat_of alike_names 32 xs k → one_too_many ns f ≡ true
  unfolding seat_of
  unseated e = go (leb (length (with_name ns f)) 32) refl (e ∙ seat) where
    go : (b : Bool) → leb (length (with_name ns f)) 32 ≡ b → None ≡ cond b (place (with_name ns f) f) None → one_too_many ns f ≡ true
    go true h s = let w = with_here ns f in absurd (none_some w.0 (s ∙ w.1))
    go false h s = lt-ltb 32 (length (with_name ns f)) (leb-false _ _ h)
