-- Text put piece by piece.
use Rattle.std.proofs.Common.{◌≡◌, ℕ, zero, suc, ◌+◌, ◌<◌, ◌≤◌, List, [], ◌∷◌, ◌++◌, length, take, drop, Some, None, Option, sym, refl, ap, ◌∙◌, subst, append_assoc, zero-add, add-one, arith}
use Rattle.std.specs.List.{range_with_len, flat_map}
use Rattle.std.proofs.lemmas.List.FromFn.{map-range_with_len_more, take-map-range_with_len, length-range_with_len, get_or-range_with_len}
use Rattle.std.proofs.lemmas.List.Folds.{length-flat_map-take}
use Rattle.std.proofs.lemmas.List.{map-id, flat_map_more, length-append, length-take-le, take_at, drop_at, drop-drop}
use Rattle.listings.specs.declared.writing.Writer.{Writer}
use Rattle.listings.specs.Placed.{laid, Placed, Continues}

pub stays : (w : Writer) → Continues w w
stays w = record { room = refl; long = refl; lent = refl }

pub goes_on : {u v w : Writer} → Continues u v → Continues v w → Continues u w
goes_on e f = record { room = f.room ∙ e.room; long = f.long ∙ e.long; lent = f.lent ∙ e.lent }

laid_more : (at : ℕ) (t u out : List ℕ) → at + length t ≤ length out → laid (at + length t) u (laid at t out) ≡ laid at (t ++ u) out
laid_more at t u out h =
    let k = at + length t in
    let p = take at out ++ t in
    let low : at ≤ length out = omega arith in
    let long : length p ≡ k = length-append (take at out) t ∙ ap (λ j. j + length t) (length-take-le at out low) in
    let whole : laid at t out ≡ p ++ drop k out = sym (append_assoc (take at out) t (drop k out)) in
    let front : take k (laid at t out) ≡ p = ap (take k) whole ∙ take_at p (drop k out) k long in
    let rest : drop (k + length u) (laid at t out) ≡ drop (k + length u) out =
    sym (drop-drop (length u) k (laid at t out)) ∙ ap (drop (length u)) (ap (drop k) whole ∙ drop_at p (drop k out) k long) ∙ drop-drop (length u) k out in
    let end : k + length u ≡ at + length (t ++ u) = omega (arith, length-append t u) in
    (λ i. front i ++ (u ++ rest i))
    ∙ append_assoc (take at out) t (u ++ drop (k + length u) out)
    ∙ ap (λ x. take at out ++ x) (sym (append_assoc t u (drop (k + length u) out)))
    ∙ ap (λ j. take at out ++ ((t ++ u) ++ drop j out)) end

-- one text and then another
pub placed_more : (u v w : Writer) (s t : List ℕ) (r : Option (Unit {0})) → Continues u v → Placed u s (Some tt) v → Placed v t r w → Placed u (s ++ t) r w
placed_more u v w s t None c p q = omega (arith, length-append s t, p.0, c.room, q)
placed_more u v w s t (Some x) c p q = (
  omega (arith, length-append s t, p.0, q.0),
  λ h.
      let low : v.at ≤ length u.out.now = omega (arith, q.0) in
      q.1 (omega (arith, c.long)) ∙ (λ i. laid (p.0 i) t (p.1 low i)) ∙ laid_more u.at s t u.out.now (omega (arith, p.0, q.0)),
)

-- a piece that ends past the room, and so does a text that goes on from it
pub placed_past : (u v w : Writer) (s t : List ℕ) (r : Option (Unit {0})) (k : ℕ) → r ≡ None → Continues u v → v.at ≡ u.at + k → v.room < v.at + length s → k + length s ≤ length t → Placed u t r w
placed_past u v w s t r k e c p q h = subst (λ o. Placed u t o w) (sym e) (omega (arith, c.room))

-- texts one after another, by number
range_more : (k : ℕ) → range_with_len 0 (k + 1) ≡ range_with_len 0 k ++ (k ∷ [])
range_more k = sym (map-id (range_with_len 0 (k + 1))) ∙ map-range_with_len_more (λ x. x) 0 k k (omega arith) ∙ ap (λ xs. xs ++ (k ∷ [])) (map-id (range_with_len 0 k))

range_front : (k m : ℕ) → k ≤ m → take k (range_with_len 0 m) ≡ range_with_len 0 k
range_front k m h = sym (ap (take k) (map-id (range_with_len 0 m))) ∙ take-map-range_with_len (λ x. x) 0 m k h ∙ map-id (range_with_len 0 k)

joined_push : (f : ℕ → List ℕ) (k : ℕ) → flat_map f (range_with_len 0 (k + 1)) ≡ flat_map f (range_with_len 0 k) ++ f k
joined_push f k = ap (flat_map f) (range_more k) ∙ sym (flat_map_more f [] (range_with_len 0 k) k)

joined_long : (f : ℕ → List ℕ) (k m : ℕ) → k < m → length (flat_map f (range_with_len 0 k)) + length (f k) ≤ length (flat_map f (range_with_len 0 m))
joined_long f k m h =
    let low : k < length (range_with_len 0 m) = omega (arith, length-range_with_len 0 m) in
    omega (arith, length-flat_map-take f (range_with_len 0 m) k 0 low, ap (λ xs. length (flat_map f xs)) (range_front k m (omega arith)), ap (λ j. length (f j)) (get_or-range_with_len 0 m k 0 h ∙ zero-add k))

pub joined_same : (f g : ℕ → List ℕ) (n : ℕ) → ((i : ℕ) → i < n → f i ≡ g i) → flat_map f (range_with_len 0 n) ≡ flat_map g (range_with_len 0 n)
joined_same f g zero e = refl
joined_same f g (suc n) e =
    ap (λ k. flat_map f (range_with_len 0 k)) (sym (add-one n)) ∙ joined_push f n ∙ (λ i. joined_same f g n (λ j h. e j (omega arith)) i ++ e n (omega arith) i)
    ∙ sym (joined_push g n) ∙ ap (λ k. flat_map g (range_with_len 0 k)) (add-one n)

-- the text of k after those before it
pub placed_next : (u v w : Writer) (k : ℕ) (f : ℕ → List ℕ) (t : List ℕ) → Continues u v → t ≡ f k
    → Placed u (flat_map f (range_with_len 0 k)) (Some tt) v → Placed v t (Some tt) w → Placed u (flat_map f (range_with_len 0 (k + 1))) (Some tt) w
placed_next u v w k f t c is p q =
    let more = placed_more u v w (flat_map f (range_with_len 0 k)) (f k) (Some tt) c p (subst (λ x. Placed v x (Some tt) w) is q) in
    subst (λ x. Placed u x (Some tt) w) (sym (joined_push f k)) more

pub placed_over : (u v w : Writer) (k m : ℕ) (f : ℕ → List ℕ) (t : List ℕ) (r : Option (Unit {0})) → k < m → t ≡ f k → r ≡ None → Continues u v
    → Placed u (flat_map f (range_with_len 0 k)) (Some tt) v → v.room < v.at + length t → Placed u (flat_map f (range_with_len 0 m)) r w
placed_over u v w k m f t r h is none c p over =
    placed_past u v w t (flat_map f (range_with_len 0 m)) r (length (flat_map f (range_with_len 0 k))) none c p.0 over (omega (arith, joined_long f k m h, ap length is))
