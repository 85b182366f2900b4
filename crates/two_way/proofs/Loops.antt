-- Laws of a loop given by its turn: a bounded run of it, what it means that it ends, that its answer and the number of its turns are one, and
-- that with its values coded below K it goes on at most K times if it ends at all.
use Rattle.std.proofs.Common.{◌≡◌, ℕ, zero, suc, ◌<◌, ◌≤◌, Bool, true, false, eqb, List, [], ◌∷◌, Some, None, Option, sym, refl, ap, ◌∙◌, subst, arith, eqb-true}
use native.Mathlib.Decide.{ℕ_discrete}
use Rattle.two_way.specs.Tables.{Turn, on, stop, has, follow}
use Rattle.two_way.proofs.Pigeon.{Placed, Injective, pigeon}

-- two constructors are never equal: `cc` shows it as 0 ≡ 1
pub clash : {X : Type 0} → ◌≡◌ {A = ℕ} 0 1 → X
clash e = absurd (omega arith)

abbrev pub carried : {X Y : Type 0} → Turn X Y → (X → Option Y) → Option Y
carried (on x) k = k x
carried (stop y) k = Some y

-- at most n turns
abbrev pub run : {X Y : Type 0} → (X → Turn X Y) → ℕ → X → Option Y
run f zero x = None
run f (suc n) x = carried (f x) (λ z. run f n z)

abbrev pub or_else : {Y : Type 0} → Y → Option Y → Y
or_else never None = never
or_else never (Some y) = y

-- from x, the loop goes on n times and then stops with y
pub data Ends {X Y : Type 0} (f : X → Turn X Y) (y : Y) : X → ℕ → Type 0 where
  ends : {x : X} → f x ≡ stop y → Ends f y x 0
  goes : {x x' : X} {n : ℕ} → f x ≡ on x' → Ends f y x' n → Ends f y x (suc n)

module _ {X Y : Type 0} (f : X → Turn X Y) where
  pub run_ends : (n : ℕ) (x : X) (y : Y) → run f n x ≡ Some y → (j : ℕ) × (j < n) × Ends f y x j
  run_ends zero x y e = clash cc
  run_ends (suc n) x y e = go (f x) refl (λ z. run_ends n z y) e
    where
      go : (t : Turn X Y) → f x ≡ t → ((z : X) → run f n z ≡ Some y → (j : ℕ) × (j < n) × Ends f y z j)
          → carried t (λ z. run f n z) ≡ Some y → (j : ℕ) × (j < suc n) × Ends f y x j
      go (on z) h ih e' = let p = ih z e' in (suc p.0, omega arith, goes h p.2)
      go (stop v) h ih e' = (0, omega arith, ends (let z : v ≡ y = cc in cc))

  pub ends_run : {y : Y} {x : X} {j : ℕ} → Ends f y x j → (n : ℕ) → j < n → run f n x ≡ Some y
  ends_run (ends e) zero h = absurd (omega arith)
  ends_run (ends e) (suc n) h = ap (λ t. carried t (λ z. run f n z)) e
  ends_run (goes e d) zero h = absurd (omega arith)
  ends_run (goes e d) (suc n) h = ap (λ t. carried t (λ z. run f n z)) e ∙ ends_run d n (omega arith)

  -- one answer, one number of turns
  pub ends_same : {y v : Y} {x : X} {i j : ℕ} → Ends f y x i → Ends f v x j → (i ≡ j) × (y ≡ v)
  ends_same (ends e) (ends e') = (refl, cc)
  ends_same (ends e) (goes e' d) = clash cc
  ends_same (goes e d) (ends e') = clash cc
  ends_same {v = v} (goes {x' = x} e d) (goes {x' = z} {n = m} e' d') =
      let q : z ≡ x = cc in
      let p = ends_same d (subst (λ w. Ends f v w m) q d') in (ap suc p.0, p.1)

  module _ (P : X → Type 0) (keeps : (x x' : X) → P x → f x ≡ on x' → P x') where
    -- each number of turns still to go, down to 1, is met at a value that goes on
    left : {y : Y} {x : X} {n : ℕ} → P x → Ends f y x n → (l : ℕ) → l < n → (z : X) × (z' : X) × P z × (f z ≡ on z') × Ends f y z (suc l)
    left p (ends e) l h = absurd (omega arith)
    left {y = y} {x = x} p (goes {x' = x'} {n = n} e d) l h = go (ℕ_discrete l n) (left (keeps x x' p e) d l)
      where
        go : Dec (l ≡ n) → (l < n → (z : X) × (z' : X) × P z × (f z ≡ on z') × Ends f y z (suc l)) → (z : X) × (z' : X) × P z × (f z ≡ on z') × Ends f y z (suc l)
        go (yes q) ih = (x, x', p, e, rw q (goes e d))
        go (no q) ih = ih (omega arith)

    pub bound : (K : ℕ) (code : X → ℕ)
        → ((x x' : X) → P x → f x ≡ on x' → code x < K)
        → ((x x' z z' : X) → P x → P z → f x ≡ on x' → f z ≡ on z' → code x ≡ code z → x ≡ z)
        → {x : X} {y : Y} {n : ℕ} → P x → Ends f y x n → n ≤ K
    bound K code low one {x} {y} {n} p d = pigeon K n R placed apart
      where
        R : ℕ → ℕ → Type 0
        R l v = (z : X) × (z' : X) × P z × (f z ≡ on z') × Ends f y z (suc l) × (code z ≡ v)

        placed : Placed n K R
        placed l h =
            let w = left p d l h in
            (code w.0, low w.0 w.1 w.2 w.3, (w.0, w.1, w.2, w.3, w.4, refl))

        apart : Injective R
        apart i j v s t =
            let e : s.0 ≡ t.0 = one s.0 s.1 t.0 t.1 s.2 t.2 s.3 t.3 (s.5 ∙ sym t.5) in
            let q = (ends_same s.4 (subst (λ w. Ends f y w (suc j)) (sym e) t.4)).0 in omega arith

-- a loop over the states below k goes on at most k times
pub bound_states : {Y : Type 0} (f : ℕ → Turn ℕ Y) (k : ℕ) → ((x x' : ℕ) → x < k → f x ≡ on x' → x' < k) → {x : ℕ} {y : Y} {n : ℕ} → x < k → Ends f y x n → n ≤ k
bound_states f k keeps h d = bound f (λ x. x < k) keeps k (λ x. x) (λ x _ l _. l) (λ x _ z _ _ _ _ _ e. e) h d

-- two turns that agree where the loop comes run alike
pub run_same : {X Y : Type 0} (f g : X → Turn X Y) (P : X → Type 0) → ((x x' : X) → P x → f x ≡ on x' → P x')
    → ((x : X) → P x → f x ≡ g x) → (n : ℕ) (x : X) → P x → run f n x ≡ run g n x
run_same f g P keeps same zero x p = refl
run_same {X} {Y} f g P keeps same (suc n) x p = go (f x) refl (λ z. run_same f g P keeps same n z)
  where
    go : (t : Turn X Y) → f x ≡ t → ((z : X) → P z → run f n z ≡ run g n z) → run f (suc n) x ≡ run g (suc n) x
    go (on z) e ih = let q = same x p in let v = ih z (keeps x z p e) in cc
    go (stop y) e ih = let q = same x p in cc

-- A loop that stops at a state met before answers what the run with the same number of turns answers.
module _ {Y : Type 0} (never : Y) (f : ℕ → Turn ℕ Y) where
  -- each state met has more turns to go
  Longer : Y → ℕ → List ℕ → Type 0
  Longer y j met = (x : ℕ) → has met x ≡ true → (l : ℕ) × (j < l) × Ends f y x l

  not_met : {y : Y} {p j : ℕ} (met : List ℕ) → Ends f y p j → Longer y j met → has met p ≡ false
  unfolding Longer
  not_met {y} {p} {j} met d g = go (has met p) refl
    where
      go : (b : Bool) → has met p ≡ b → has met p ≡ false
      go true e = let r = g p e in let z = (ends_same f d r.2).0 in absurd (omega arith)
      go false e = e

  longer : {y : Y} {p' j : ℕ} (p : ℕ) (met : List ℕ) → f p ≡ on p' → Ends f y p' j → Longer y (suc j) met → Longer y j (p ∷ met)
  unfolding Longer
  longer {y} {p'} {j} p met e d g x h = go (eqb x p) refl
    where
      go : (b : Bool) → eqb x p ≡ b → (l : ℕ) × (j < l) × Ends f y x l
      go true e' = (suc j, omega arith, subst (λ z. Ends f y z (suc j)) (sym (eqb-true x p e')) (goes e d))
      go false e' = let r = g x cc in (r.0, omega arith, r.2)

  ends_follow : {y : Y} {p j : ℕ} → Ends f y p j → (n : ℕ) → j < n → (met : List ℕ) → Longer y j met → follow never f n met p ≡ y
  ends_follow (ends e) zero h met g = absurd (omega arith)
  ends_follow (goes e d) zero h met g = absurd (omega arith)
  ends_follow (ends e) (suc n) h met g = let z = not_met met (ends e) g in cc
  ends_follow {p = p} (goes {x' = p'} e d) (suc n) h met g =
      let z = not_met met (goes e d) g in
      let v = ends_follow d n (omega arith) (p ∷ met) (longer p met e d g) in cc

  none_follow : (n : ℕ) (met : List ℕ) (p : ℕ) → run f n p ≡ None → follow never f n met p ≡ never
  none_follow zero met p e = refl
  none_follow (suc n) met p e = go (has met p) refl (f p) refl (λ x. none_follow n (p ∷ met) x)
    where
      go : (b : Bool) → has met p ≡ b → (t : Turn ℕ Y) → f p ≡ t → ((x : ℕ) → run f n x ≡ None → follow never f n (p ∷ met) x ≡ never)
          → follow never f (suc n) met p ≡ never
      go true e₁ t e₂ ih = cc
      go false e₁ (on x) e₂ ih = let r = ih x cc in cc
      go false e₁ (stop y) e₂ ih = clash cc

  pub follow_run : (n p : ℕ) → follow never f n [] p ≡ or_else never (run f n p)
  unfolding Longer
  follow_run n p = go (run f n p) refl
    where
      go : (o : Option Y) → run f n p ≡ o → follow never f n [] p ≡ or_else never (run f n p)
      go None e = let z = none_follow n [] p e in cc
      go (Some y) e =
          let r = run_ends f n p y e in
          let z = ends_follow r.2 n r.1 [] (λ x e'. clash cc) in cc
