-- Keys that stand for other things, as names for lists of bytes: a register of the keys is a list of those things. Assumes nothing.
use Rattle.std.proofs.Common.{◌≡◌, ℕ, Bool, true, false, cond, List, [], ◌∷◌, ◌++◌, map, is_some, refl}
use Rattle.std.proofs.lemmas.List.{length-map, map_push}
use Rattle.register.specs.Keys.{place_of, with_key, fits_in, seat_of, keys_after}

-- two things are like one another exactly when their keys are alike
abbrev pub Mirrors : {A K : Type 0} → (A → K) → (K → K → Bool) → (A → A → Bool) → Type 0
Mirrors {A} f alike like = (a b : A) → alike (f a) (f b) ≡ like a b

pub place_map : {A K : Type 0} (f : A → K) (alike : K → K → Bool) (like : A → A → Bool) → Mirrors f alike like → (xs : List A) (x : A) → place_of alike (map f xs) (f x) ≡ place_of like xs x
place_map f alike like h [] x = refl
place_map f alike like h (a ∷ xs) x = cc (h a x, place_map f alike like h xs x)

cond_of : {A B : Type 0} (g : A → B) (b : Bool) (x y : A) → cond b (g x) (g y) ≡ g (cond b x y)
cond_of g true x y = refl
cond_of g false x y = refl

pub with_map : {A K : Type 0} (f : A → K) (alike : K → K → Bool) (like : A → A → Bool) → Mirrors f alike like → (xs : List A) (x : A) → with_key alike (map f xs) (f x) ≡ map f (with_key like xs x)
with_map f alike like h xs x =
    rw (place_map f alike like h xs x, ← map_push f xs x) (cond_of (map f) (is_some (place_of like xs x)) xs (xs ++ x ∷ []))

pub seat_map : {A K : Type 0} (f : A → K) (alike : K → K → Bool) (like : A → A → Bool) → Mirrors f alike like → (room : ℕ) (xs : List A) (x : A) → seat_of alike room (map f xs) (f x) ≡ seat_of like room xs x
unfolding seat_of
seat_map f alike like h room xs x =
    rw (with_map f alike like h xs x, length-map (with_key like xs x) f, place_map f alike like h (with_key like xs x) x) refl

pub after_map : {A K : Type 0} (f : A → K) (alike : K → K → Bool) (like : A → A → Bool) → Mirrors f alike like → (room : ℕ) (xs : List A) (x : A) → keys_after alike room (map f xs) (f x) ≡ map f (keys_after like room xs x)
unfolding keys_after
after_map f alike like h room xs x =
    rw (with_map f alike like h xs x, length-map (with_key like xs x) f) (cond_of (map f) (fits_in like room xs x) (with_key like xs x) xs)
