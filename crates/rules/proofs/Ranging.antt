-- What calls at each number below a bound gave: a test of all of them by an iterator's `all`, and an array by `from_fn`.
use Rattle.std.proofs.Common.{◌≡◌, ℕ, zero, suc, ◌+◌, ◌<◌, Bool, true, false, List, length, get_or, Decides, MatchBool, subst, sym, refl, ◌∙◌, le_of_suc-le-suc, not-suc-le-zero, arith}
use denote.Param.Members.{Mut, Called}
use Rattle.std.specs.Array.{IsFromFnResultFrom}
use Rattle.std.specs.List.{range_with_len, AllWithin, HoldsAt}
use Rattle.std.proofs.Math.Nat.{zero-add}
use Rattle.std.proofs.lemmas.Bool.{false≢true}
use Rattle.std.proofs.lemmas.List.FromFn.{length-range_with_len, get_or-range_with_len}

nth : (n q : ℕ) → q < n → get_or (range_with_len 0 n) q 0 ≡ q
nth n q l = get_or-range_with_len 0 n q 0 l ∙ zero-add q

pub decided : (P : ℕ → Type 0) (n : ℕ) (r : Bool)
    → MatchBool r (AllWithin P (range_with_len 0 n) 0 (length (range_with_len 0 n))) ((k : ℕ) × (k < length (range_with_len 0 n)) × HoldsAt (λ q. P q → ⊥) (range_with_len 0 n) k)
    → Decides r ((q : ℕ) → q < n → P q)
decided P n true h = (λ _ q l. subst P (nth n q l) (h q 0 (omega arith) (omega (arith, length-range_with_len 0 n))), λ _. refl)
decided P n false (k, l, h) =
    (λ e. absurd (false≢true e), λ f. let l' : k < n = omega (arith, length-range_with_len 0 n) in absurd (h 0 (subst P (sym (nth n k l')) (f k l'))))

-- a closure that keeps its state, and of a number gives what P holds of
module _ {F B : Type 0} (g : Mut F (ℕ × Unit {0}) B) (P : ℕ → B → Type 0) (f : F) (gives : (k : ℕ) (y : B) (q : F) → Called g f (k, tt) y q → (q ≡ f) × P k y) where
  made_from : (ys : List B) (d : B) (n i : ℕ) (p : F) → p ≡ f → IsFromFnResultFrom g p ys i n → (k j : ℕ) → k < n → i + k ≡ j → P j (get_or ys j d)
  made_from ys d zero i p e h k j l s = absurd (not-suc-le-zero l)
  made_from ys d (suc n) i p e (q, y, at, call, rest) zero j l s =
      let c : Called g f (i, tt) y q = subst (λ (x : F). Called g x (i, tt) y q) e call in
      let same : i ≡ j = omega arith in
      subst (λ (m : ℕ). P m (get_or ys m d)) same (subst (P i) (sym (at.1 d)) (gives i y q c).1)
  made_from ys d (suc n) i p e (q, y, at, call, rest) (suc k) j l s =
      let c : Called g f (i, tt) y q = subst (λ (x : F). Called g x (i, tt) y q) e call in
      made_from ys d n (i + 1) q (gives i y q c).0 rest k j (le_of_suc-le-suc l) (omega arith)

  pub made : (ys : List B) (d : B) (n k : ℕ) → IsFromFnResultFrom g f ys 0 n → k < n → P k (get_or ys k d)
  made ys d n k h l = made_from ys d n 0 f (λ i. f) h k k l (zero-add k)
