-- Rows in use that are sound, row by row.
use Rattle.std.proofs.Common.{◌≡◌, ℕ, zero, suc, ◌<◌, ◌≤◌, true, ◌&&◌, List, [], ◌++◌, length, get_or, take, is_some, IfOk, Some, None, Ok, Err, Result, MatchResult, sym, refl, ap, ◌∙◌, add-one, arith, length-take-le}
use native.Mathlib.Decide.{ℕ_discrete}
use Rattle.std.specs.List.{list_all}
use Rattle.std.proofs.Math.Seq.{take-length}
use Rattle.std.proofs.lemmas.List.{get_or_default}
use Rattle.std.proofs.lemmas.List.Folds.{list_all_more}
use Rattle.std.proofs.lemmas.Bool.{and_parts}
use Rattle.refusals.specs.declared.refusal.Refusal.{Refusal}
use Rattle.dfa.specs.declared.rows.DfaRow.{DfaRow}
use Rattle.dfa.specs.declared.shelf.Shelf.{Shelf}
use Rattle.dfa.specs.Rows.{row_of, blank_row}
use Rattle.dfa.specs.Shelved.{unshelved}
use Rattle.dfa.specs.Asked.{verdict_in, row_at}
use Rattle.dfa.proofs.Following.{row_taken, shelved}
use Rattle.listings.specs.Listing.{line, head_fields, row_fields, listing}
use Rattle.listings.specs.Listed.{sound, shelf_listing, Shelved}
use Rattle.listings.proofs.Placing.{joined_same}

-- a test of each row
sound_rows : (n m k : ℕ) (ds : List DfaRow) → k ≤ length ds → list_all (λ d. is_some (verdict_in m n d)) (take k ds) ≡ sound n m ds k
sound_rows n m zero ds h = refl
sound_rows n m (suc k) ds h =
    let p = λ (d : DfaRow). is_some (verdict_in m n d) in
    ap (λ j. list_all p (take j ds)) (sym (add-one k)) ∙ list_all_more p ds k blank_row (omega arith) ∙ ap (λ b. b && p (row_at ds k)) (sound_rows n m k ds (omega arith))

pub sound_all : (n m : ℕ) (ds : List DfaRow) → list_all (λ d. is_some (verdict_in m n d)) ds ≡ sound n m ds (length ds)
sound_all n m ds = ap (list_all (λ d. is_some (verdict_in m n d))) (sym (take-length ds)) ∙ sound_rows n m (length ds) ds (omega arith)

pub sound_at : (n m i k : ℕ) (ds : List DfaRow) → i < k → sound n m ds k ≡ true → is_some (verdict_in m n (row_at ds i)) ≡ true
sound_at n m i zero ds h s = absurd (let z : ⊥ = omega arith in z)
sound_at n m i (suc k) ds h s = go (ℕ_discrete i k) (sound_at n m i k ds)
  where
    p : (sound n m ds k ≡ true) × (is_some (verdict_in m n (row_at ds k)) ≡ true)
    p = and_parts (sound n m ds k) (is_some (verdict_in m n (row_at ds k))) s

    go : Dec (i ≡ k) → (i < k → sound n m ds k ≡ true → is_some (verdict_in m n (row_at ds i)) ≡ true) → is_some (verdict_in m n (row_at ds i)) ≡ true
    go (yes z) ih = ap (λ j. is_some (verdict_in m n (row_at ds j))) z ∙ p.1
    go (no z) ih = ih (omega arith) p.0

-- the line of a row that is read from a shelf
pub line_read : (m m' i : ℕ) (ds xs : List DfaRow) → m' ≡ m → xs ≡ ds → i < length xs → (i < length ds) × (line (row_fields m' i (get_or xs i (row_of [] 0))) ≡ line (row_fields m i (row_at ds i)))
line_read m m' i ds xs e f h =
    let low : i < length ds = omega (arith, ap length f) in
    (low, (λ k. line (row_fields (e k) i (get_or (f k) i (row_of [] 0)))) ∙ ap (λ d. line (row_fields m i d)) (get_or_default ds i (row_of [] 0) blank_row low))

-- the rows in use alone
sound_taken : (n m k : ℕ) (ds : List DfaRow) → k ≤ n → sound n m (take n ds) k ≡ sound n m ds k
sound_taken n m zero ds h = refl
sound_taken n m (suc k) ds h = λ i. sound_taken n m k ds (omega arith) i && is_some (verdict_in m n (row_taken n k ds (omega arith) i))

module _ (n m : ℕ) (ds : List DfaRow) (s : Shelf) (u : unshelved n ds ≡ None) (rows : s.rows.now ≡ take n ds) (letters : s.letters ≡ m) where
  low : (0 < n) × (n ≤ length ds)
  low = shelved n ds u

  long : length s.rows.now ≡ n
  long = ap length rows ∙ length-take-le n ds low.1

  pub shelf_sound : sound (length s.rows.now) s.letters s.rows.now (length s.rows.now) ≡ sound n m ds n
  shelf_sound = (λ i. sound (long i) (letters i) (rows i) (long i)) ∙ sound_taken n m n ds (omega arith)

  pub shelf_listed : shelf_listing s ≡ listing n m ds
  unfolding listing
  shelf_listed =
      (λ i. listing (long i) (letters i) (rows i))
      ∙ ap (λ t. line (head_fields n m) ++ t)
      (joined_same (λ i. line (row_fields m i (row_at (take n ds) i))) (λ i. line (row_fields m i (row_at ds i))) n (λ i h. ap (λ d. line (row_fields m i d)) (row_taken n i ds h)))

  pub shelved_as : Shelved n m ds s
  shelved_as = record { some = λ z. omega (arith, low.0); enough = low.1; sounds = shelf_sound; lists = shelf_listed }

-- the same of what a shelf is made of
pub shelved_result : (n m : ℕ) (ds : List DfaRow) (r : Result Shelf Refusal) → MatchResult r (λ _. unshelved n ds ≡ None) (λ e. unshelved n ds ≡ Some e) → IfOk r (λ s. s.rows.now ≡ take n ds) → IfOk r (λ s. s.letters ≡ m)
    → MatchResult r (λ s. Shelved n m ds s) (λ e. unshelved n ds ≡ Some e)
shelved_result n m ds (Ok s) u rows letters = shelved_as n m ds s u rows letters
shelved_result n m ds (Err e) u rows letters = u
