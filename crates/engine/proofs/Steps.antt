-- Columns, steps and turns of a walk.
use Rattle.std.proofs.Common.{◌≡◌, ℕ, zero, suc, ◌+◌, ◌-◌, ◌<◌, ◌≤◌, cond, eqb, ltb, List, map, length, get_or, Ok, Err, sym, ap, ◌∙◌, subst, add-one, arith, le-ltb, lt-ltb, eq-eqb, ne_eqb}
use native.Mathlib.Decide.{dec_le}
use Rattle.std.proofs.lemmas.List.{get_or-map, get_or_past, length-map}
use Rattle.two_way.specs.declared.Verdict.{Verdict}
use Rattle.two_way.specs.Automaton.{Automaton, Lawful, L, R, right_end, to, way}
use Rattle.two_way.specs.Runs.{Config, column, step, begin, most}
use Rattle.two_way.proofs.Loops.{clash}
use Rattle.two_way.proofs.Sound.{Sound, sound, to_none}
use Rattle.refusals.specs.declared.fault.Fault.TheVariants.{LettersDiffer, TitleTooLong}
use Rattle.refusals.specs.Line.{unplaced}
use Rattle.engine.specs.declared.walking.Walked.{Walked}
use Rattle.engine.specs.Walks.{found, walk_from, walked, walk_answer}

module _ (A : Automaton) {X : Type 0} (letter : X → ℕ) (ms : List X) where
  pub col_in : (p : ℕ) (x : X) → (p ≡ 0 → ⊥) → p ≤ length ms → x ≡ get_or ms (p - 1) x → letter x ≡ column A (map letter ms) p
  col_in p x z l e =
      let i = p - 1 in
      let s : suc i ≡ p = omega arith in
      subst (λ q. letter x ≡ column A (map letter ms) q) s (ap letter e ∙ sym (get_or-map letter ms i x (A.letters + 1) (omega arith)))

  pub col_out : (p : ℕ) → length ms < p → A.letters + 1 ≡ column A (map letter ms) p
  col_out p l =
      let i = p - 1 in
      let s : suc i ≡ p = omega arith in
      subst (λ q. A.letters + 1 ≡ column A (map letter ms) q) s (sym (get_or_past (map letter ms) i (A.letters + 1) (omega (arith, length-map ms letter))))

-- a step leads to a state, whatever the column
pub step_low : (A : Automaton) → Lawful A → (q a s : ℕ) → s ≡ to A q a → q < A.states → s < A.states
step_low A law q a s e h = go (dec_le a (right_end A))
  where
    go : Dec (a ≤ right_end A) → s < A.states
    go (yes l) = subst (λ x. x < A.states) (sym e) ((sound A law).inside q a h l)
    go (no n) = subst (λ x. x < A.states) (sym (e ∙ to_none A q a (law.past_columns q a (omega arith)))) h

-- a step from state q at position p, which shows the column a
module _ (A : Automaton) (law : Sound A) {X : Type 0} (letter : X → ℕ) (ms : List X) (q p a : ℕ) (col : a ≡ column A (map letter ms) p) (low : q < A.states) where
  -- the left end is never left to the left
  pub not_left : way A q a ≡ L → 0 < p
  not_left w = go p col
    where
      go : (p : ℕ) → a ≡ column A (map letter ms) p → 0 < p
      go zero e = let r : way A q a ≡ R = ap (way A q) e ∙ law.left_gives_R q low in clash cc
      go (suc i) e = omega arith

  -- nor the right end to the right
  pub not_right : way A q a ≡ R → p ≤ length ms + 1 → p ≤ length ms
  not_right r k = go (dec_le p (length ms))
    where
      go : Dec (p ≤ length ms) → p ≤ length ms
      go (yes l) = l
      go (no l) =
          let z : a ≡ right_end A = col ∙ sym (col_out A letter ms p (omega arith)) in
          let w : way A q a ≡ L = ap (way A q) z ∙ law.right_gives_L q low in clash cc

module _ (A : Automaton) (c : ℕ → ℕ) (limit n : ℕ) (x : Config) (more : n < limit + 1) where
  left : limit + 1 - n ≡ suc (limit - n)
  left = omega arith

  after_accept : (x.state ≡ A.accept → ⊥) → walk_from A c limit (limit + 1 - n) x n ≡ cond (eqb x.state A.reject) (found Verdict.Rejects n) (walk_from A c limit (limit - n) (step A c x) (suc n))
  after_accept e =
      ap (λ f. walk_from A c limit f x n) left
      ∙ ap (λ b. cond b (found Verdict.Accepts n) (cond (eqb x.state A.reject) (found Verdict.Rejects n) (walk_from A c limit (limit - n) (step A c x) (suc n)))) (ne_eqb x.state A.accept e)

  pub turn_goes : (x.state ≡ A.accept → ⊥) → (x.state ≡ A.reject → ⊥) → (y : Config) → y ≡ step A c x → walk_from A c limit (limit + 1 - n) x n ≡ walk_from A c limit (limit + 1 - (n + 1)) y (n + 1)
  turn_goes a b y e =
      let u : limit - n ≡ limit + 1 - (n + 1) = omega arith in
      after_accept a ∙ (ap (λ t. cond t (found Verdict.Rejects n) (walk_from A c limit (limit - n) (step A c x) (suc n))) (ne_eqb x.state A.reject b)
      ∙ (ap (λ f. walk_from A c limit f (step A c x) (suc n)) u ∙ (ap (λ z. walk_from A c limit (limit + 1 - (n + 1)) z (suc n)) (sym e) ∙ ap (walk_from A c limit (limit + 1 - (n + 1)) y) (sym (add-one n)))))

pub starts : (A : Automaton) (w : List ℕ) (limit s : ℕ) → limit ≡ most A (length w) → s ≡ A.start → walked A w ≡ walk_from A (column A w) limit (limit + 1 - 0) (record { state = s; place = 0 }) 0
starts A w limit s e f =
    let u : suc limit ≡ limit + 1 - 0 = omega arith in
    ap (λ k. walk_from A (column A w) k (suc k) (begin A) 0) (sym e) ∙ (ap (λ j. walk_from A (column A w) limit j (begin A) 0) u
    ∙ ap (λ q. walk_from A (column A w) limit (limit + 1 - 0) (record { state = q; place = 0 }) 0) (sym f))

module _ (A : Automaton) (c : ℕ) (w : List ℕ) (fit : A.letters ≡ c) where
  pub answer_ok : length w ≤ 65536 → (v : Walked) → walked A w ≡ v → Ok v ≡ walk_answer A c w
  answer_ok h v e =
      ap Ok (sym e) ∙ (ap (λ b. cond b (Err (unplaced TitleTooLong)) (Ok (walked A w))) (sym (le-ltb 65536 (length w) h))
      ∙ ap (λ b. cond b (cond (ltb 65536 (length w)) (Err (unplaced TitleTooLong)) (Ok (walked A w))) (Err (unplaced LettersDiffer))) (sym (eq-eqb A.letters c fit)))

  pub answer_long : 65536 < length w → Err (unplaced TitleTooLong) ≡ walk_answer A c w
  answer_long h =
      ap (λ b. cond b (Err (unplaced TitleTooLong)) (Ok (walked A w))) (sym (lt-ltb 65536 (length w) h))
      ∙ ap (λ b. cond b (cond (ltb 65536 (length w)) (Err (unplaced TitleTooLong)) (Ok (walked A w))) (Err (unplaced LettersDiffer))) (sym (eq-eqb A.letters c fit))
