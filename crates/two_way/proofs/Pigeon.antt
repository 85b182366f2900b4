-- The pigeonhole: n things with different places below K are no more than K.
use Rattle.std.proofs.Common.{◌≡◌, ℕ, zero, suc, ◌<◌, ◌≤◌, refl, subst, arith}
use native.Mathlib.Decide.{ℕ_discrete}

-- every i below n has a place below K
abbrev pub Placed : ℕ → ℕ → (ℕ → ℕ → Type 0) → Type 0
Placed n K R = (i : ℕ) → i < n → (v : ℕ) × (v < K) × R i v

-- no two have the same place
abbrev pub Injective : (ℕ → ℕ → Type 0) → Type 0
Injective R = (i j v : ℕ) → R i v → R j v → i ≡ j

-- the places when thing n is taken away, its place now that of the thing at K
data Moved (R : ℕ → ℕ → Type 0) (K n w : ℕ) (i v : ℕ) : Type 0 where
  same : i < n → R i v → Moved R K n w i v
  moved : i < n → v ≡ w → R i K → Moved R K n w i v

moved_apart : (R : ℕ → ℕ → Type 0) (K n w : ℕ) → Injective R → R n w → Injective (Moved R K n w)
moved_apart R K n w ap' h i j v (same p x) (same q y) = ap' i j v x y
moved_apart R K n w ap' h i j v (same p x) (moved q e y) =
    let z : i ≡ n = ap' i n w (subst (R i) e x) h in absurd (omega arith)
moved_apart R K n w ap' h i j v (moved p e x) (same q y) =
    let z : j ≡ n = ap' j n w (subst (R j) e y) h in absurd (omega arith)
moved_apart R K n w ap' h i j v (moved p e x) (moved q e' y) = ap' i j K x y

moved_placed : (R : ℕ → ℕ → Type 0) (K n w : ℕ) → Placed (suc n) (suc K) R → Injective R → R n w → w < suc K
    → Placed n K (Moved R K n w)
moved_placed R K n w pl ap' h hw i hi = go (pl i (omega arith))
  where
    go : (v : ℕ) × (v < suc K) × R i v → (v : ℕ) × (v < K) × Moved R K n w i v
    go (v, hv, x) = at (ℕ_discrete v K)
      where
        at : Dec (v ≡ K) → (v : ℕ) × (v < K) × Moved R K n w i v
        at (yes e) = (w, low (ℕ_discrete w K), moved hi refl (subst (R i) e x))
          where
            low : Dec (w ≡ K) → w < K
            low (yes e') = let z : i ≡ n = ap' i n K (subst (R i) e x) (subst (R n) e' h) in absurd (omega arith)
            low (no ne) = omega arith
        at (no ne) = (v, omega arith, same hi x)

pub pigeon : (K n : ℕ) (R : ℕ → ℕ → Type 0) → Placed n K R → Injective R → n ≤ K
pigeon K zero R pl ap' = omega arith
pigeon zero (suc n) R pl ap' = let z : (pl n (omega arith)).0 < 0 = (pl n (omega arith)).1 in absurd (omega arith)
pigeon (suc K) (suc n) R pl ap' =
    let p = pl n (omega arith) in
    let ih : n ≤ K = pigeon K n (Moved R K n p.0) (moved_placed R K n p.0 pl ap' p.2 p.1) (moved_apart R K n p.0 ap' p.2) in
    omega arith
