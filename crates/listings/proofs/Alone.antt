-- A listing tells the rows in use, the letters, the verdicts and the cells.
use Rattle.std.proofs.Common.{◌≡◌, ℕ, zero, suc, ◌+◌, ◌^◌, ◌<◌, ◌≤◌, Bool, true, false, cond, not, eqb, ltb, List, [], ◌∷◌, ◌++◌, map, length, get_or, is_some, IfOk, Some, None, Err, codes, decimal, Option, Result, sym, refl, ap, ◌∙◌, subst, arith}
use native.Mathlib.Decide.{ℕ_discrete}
use Rattle.std.specs.List.{range_with_len, join_with_byte, flat_map, AllByRecursion}
use Rattle.std.specs.Option.{ok_or}
use Rattle.std.specs.Str.Iter.{LacksByte}
use Rattle.std.specs.Int.{IsInRange}
use Rattle.std.proofs.lemmas.List.FromFn.{get_or-map-range_with_len}
use Rattle.std.proofs.lemmas.Fmt.{decimal_injective}
use Rattle.std.proofs.lemmas.List.{append_cancel_left}
use Rattle.std.proofs.lemmas.Bool.{eqb-true, or_parts, not-false, both_ways}
use Rattle.text.specs.Output.{room}
use Rattle.text.specs.Parts.{parts, tab, line_feed}
use Rattle.text.specs.Lines.{Line, lines}
use Rattle.text.proofs.Parting.{parts_rejoined, lacks_from_test, lacks_rejoined}
use Rattle.text.proofs.Lining.{lines_cons}
use Rattle.text.proofs.Reading.{lacks_decimal}
use Rattle.refusals.specs.declared.fault.Fault.TheVariants.{NoRows, DamagedTable, ListingTooLong}
use Rattle.refusals.specs.declared.refusal.Refusal.{Refusal}
use Rattle.refusals.specs.Line.{unplaced}
use Rattle.two_way.specs.Verdicts.{named}
use Rattle.dfa.specs.declared.rows.DfaRow.{DfaRow}
use Rattle.dfa.specs.Asked.{leads, verdict_in, row_at}
use Rattle.dfa.proofs.Following.{leads_at}
use Rattle.listings.specs.Listing.{line, cell_of, head_fields, row_fields, listing, Small, ListedAlone}
use Rattle.listings.specs.Listed.{sound, damaged, listed_answer}
use Rattle.listings.proofs.Soundly.{sound_at}

-- fields that are read back from their line
record Clear (fields : List (List ℕ)) : Type 0 where
  some : fields ≡ [] → ⊥
  no_tab : AllByRecursion (LacksByte tab) fields
  no_feed : AllByRecursion (LacksByte line_feed) fields

abbrev first_text : List Line → List ℕ
first_text [] = []
first_text (l ∷ ls) = l.text

feed_apart : tab ≡ line_feed → ⊥
feed_apart e = omega (arith, e)

-- the first of some lines, and what follows it
first_line : (fs gs : List (List ℕ)) (s t : List ℕ) → Clear fs → Clear gs → line fs ++ s ≡ line gs ++ t → (fs ≡ gs) × (s ≡ t)
first_line fs gs s t f g e =
    let p = join_with_byte tab fs in
    let q = join_with_byte tab gs in
    let told : record { text = p; ended = true } ∷ lines s ≡ record { text = q; ended = true } ∷ lines t =
    sym (lines_cons p s (lacks_rejoined line_feed tab fs feed_apart f.no_feed)) ∙ ap lines e ∙ lines_cons q t (lacks_rejoined line_feed tab gs feed_apart g.no_feed) in
    let same : p ≡ q = ap first_text told in (
      sym (parts_rejoined tab fs f.some f.no_tab) ∙ ap (parts tab) same ∙ parts_rejoined tab gs g.some g.no_tab,
      append_cancel_left (q ++ (line_feed ∷ [])) s t (ap (λ x. (x ++ (line_feed ∷ [])) ++ s) (sym same) ∙ e),
    )

-- lines that are alike together are alike one by one
lines_same : (f g : ℕ → List (List ℕ)) (a k : ℕ) → ((i : ℕ) → i < a + k → Clear (f i) × Clear (g i)) → flat_map (λ i. line (f i)) (range_with_len a k) ≡ flat_map (λ i. line (g i)) (range_with_len a k)
    → (i : ℕ) → a ≤ i → i < a + k → f i ≡ g i
lines_same f g a zero h e i low high = absurd (let z : ⊥ = omega arith in z)
lines_same f g a (suc k) h e i low high = go (ℕ_discrete i a) (lines_same f g (a + 1) k (λ j l. h j (omega arith)) first.1 i)
  where
    here : Clear (f a) × Clear (g a)
    here = h a (omega arith)

    first : (f a ≡ g a) × (flat_map (λ j. line (f j)) (range_with_len (a + 1) k) ≡ flat_map (λ j. line (g j)) (range_with_len (a + 1) k))
    first = first_line (f a) (g a) _ _ here.0 here.1 e

    go : Dec (i ≡ a) → (a + 1 ≤ i → i < a + 1 + k → f i ≡ g i) → f i ≡ g i
    go (yes z) later = ap f z ∙ first.0 ∙ ap g (sym z)
    go (no z) later = later (omega arith) (omega arith)

all_counting : (P : List ℕ → Type 0) (f : ℕ → List ℕ) (a k : ℕ) → ((i : ℕ) → i < a + k → P (f i)) → AllByRecursion P (map f (range_with_len a k))
all_counting P f a zero h = tt
all_counting P f a (suc k) h = (h a (omega arith), all_counting P f (a + 1) k (λ i l. h i (omega arith)))

-- neither the tab nor the line feed is a digit
no_tab_digit : IsInRange 48 57 tab → ⊥
no_tab_digit i = omega arith

no_feed_digit : IsInRange 48 57 line_feed → ⊥
no_feed_digit i = omega arith

clear_head : (n m : ℕ) → n < 2 ^ 64 → m < 2 ^ 64 → Clear (head_fields n m)
clear_head n m h k = record {
  some = λ e. let z : ◌≡◌ {A = ℕ} 0 1 = cc in omega arith;
  no_tab = lacks tab (lacks_from_test tab (codes "shelf") refl) no_tab_digit;
  no_feed = lacks line_feed (lacks_from_test line_feed (codes "shelf") refl) no_feed_digit;
}
  where
    lacks : (x : ℕ) → LacksByte x (codes "shelf") → (IsInRange 48 57 x → ⊥) → AllByRecursion (LacksByte x) (head_fields n m)
    lacks x w d = (w, (lacks_decimal x n h d, (lacks_decimal x m k d, tt)))

clear_row : (m i : ℕ) (d : DfaRow) → i < 2 ^ 64 → d.verdict < 2 ^ 64 → ((a : ℕ) → a < m → cell_of d a < 2 ^ 64) → Clear (row_fields m i d)
clear_row m i d h k l = record {
  some = λ e. let z : ◌≡◌ {A = ℕ} 0 1 = cc in omega arith;
  no_tab = lacks tab (lacks_from_test tab (codes "row") refl) no_tab_digit;
  no_feed = lacks line_feed (lacks_from_test line_feed (codes "row") refl) no_feed_digit;
}
  where
    lacks : (x : ℕ) → LacksByte x (codes "row") → (IsInRange 48 57 x → ⊥) → AllByRecursion (LacksByte x) (row_fields m i d)
    lacks x w o = (w, (lacks_decimal x i h o, (lacks_decimal x d.verdict k o, all_counting (LacksByte x) (λ a. decimal (cell_of d a)) 0 m (λ a b. lacks_decimal x (cell_of d a) (l a (omega arith)) o))))

-- what the fields of a row tell
same_verdict : (m i : ℕ) (d d' : DfaRow) → d.verdict < 2 ^ 64 → d'.verdict < 2 ^ 64 → row_fields m i d' ≡ row_fields m i d → d'.verdict ≡ d.verdict
same_verdict m i d d' h k e = let v : decimal d'.verdict ≡ decimal d.verdict = cc in decimal_injective d'.verdict d.verdict k h v

same_cell : (m i a : ℕ) (d d' : DfaRow) → a < m → cell_of d a < 2 ^ 64 → cell_of d' a < 2 ^ 64 → row_fields m i d' ≡ row_fields m i d → cell_of d' a ≡ cell_of d a
same_cell m i a d d' low h k e =
    let cells : map (λ b. decimal (cell_of d' b)) (range_with_len 0 m) ≡ map (λ b. decimal (cell_of d b)) (range_with_len 0 m) = cc in
    let at = λ (f : ℕ → List ℕ). get_or-map-range_with_len f 0 m a a [] low (omega arith) in
    let c : decimal (cell_of d' a) ≡ decimal (cell_of d a) = sym (at (λ b. decimal (cell_of d' b))) ∙ ap (λ xs. get_or xs a []) cells ∙ at (λ b. decimal (cell_of d b)) in
    decimal_injective (cell_of d' a) (cell_of d a) k h c

pub listed_alone : (n m : ℕ) (ds : List DfaRow) → Small n m ds → ListedAlone n m ds
unfolding listing
listed_alone n m ds s n' m' ds' s' e = record {
  rows = rows;
  letters = letters;
  verdicts = λ i h. same_verdict m i (row_at ds i) (row_at ds' i) (s.verdicts i h) (s'.verdicts i (below' i h)) (fields i h);
  cells = λ i a h k. same_cell m i a (row_at ds i) (row_at ds' i) k (s.cells i a h k) (s'.cells i a (below' i h) (omega (arith, letters))) (fields i h);
}
  where
    head : (head_fields n' m' ≡ head_fields n m) × (flat_map (λ i. line (row_fields m' i (row_at ds' i))) (range_with_len 0 n') ≡ flat_map (λ i. line (row_fields m i (row_at ds i))) (range_with_len 0 n))
    head = first_line (head_fields n' m') (head_fields n m) _ _ (clear_head n' m' s'.rows s'.letters) (clear_head n m s.rows s.letters) e

    rows : n' ≡ n
    rows = let f = head.0 in let t : decimal n' ≡ decimal n = cc in decimal_injective n' n s'.rows s.rows t

    letters : m' ≡ m
    letters = let f = head.0 in let t : decimal m' ≡ decimal m = cc in decimal_injective m' m s'.letters s.letters t

    below' : (i : ℕ) → i < n → i < n'
    below' i h = omega (arith, rows)

    clear : (i : ℕ) → i < 0 + n → Clear (row_fields m i (row_at ds' i)) × Clear (row_fields m i (row_at ds i))
    clear i h =
        let low : i < n = omega arith in
        let small : i < 2 ^ 64 = omega (arith, s.rows) in (
          clear_row m i (row_at ds' i) small (s'.verdicts i (below' i low)) (λ a k. s'.cells i a (below' i low) (omega (arith, letters))),
          clear_row m i (row_at ds i) small (s.verdicts i low) (λ a k. s.cells i a low k),
        )

    fields : (i : ℕ) → i < n → row_fields m i (row_at ds' i) ≡ row_fields m i (row_at ds i)
    fields i h =
        lines_same (λ j. row_fields m j (row_at ds' j)) (λ j. row_fields m j (row_at ds j)) 0 n clear
        ((λ k. flat_map (λ j. line (row_fields (sym letters k) j (row_at ds' j))) (range_with_len 0 (sym rows k))) ∙ head.1) i (omega arith) (omega arith)

-- a verdict's number is small, and so is a cell that is a row in use
small_verdict : (v : ℕ) → is_some (named v) ≡ true → v < 2 ^ 64
small_verdict v e = go (eqb v 1) (eqb v 2) (eqb v 3) refl refl refl
  where
    go : (a b c : Bool) → eqb v 1 ≡ a → eqb v 2 ≡ b → eqb v 3 ≡ c → v < 2 ^ 64
    go true b c x y z = omega (arith, eqb-true v 1 x)
    go false true c x y z = omega (arith, eqb-true v 2 y)
    go false false true x y z = omega (arith, eqb-true v 3 z)
    go false false false x y z = absurd (both_ways (is_some (named v)) (rw (x, y, z) refl) e)

sound_parts : (m n : ℕ) (d : DfaRow) → is_some (verdict_in m n d) ≡ true → (leads m n d ≡ true) × (is_some (named d.verdict) ≡ true)
sound_parts m n d e = go (leads m n d) refl
  where
    go : (b : Bool) → leads m n d ≡ b → (leads m n d ≡ true) × (is_some (named d.verdict) ≡ true)
    go true x = (x, sym (ap (λ b. is_some (cond b (named d.verdict) None)) x) ∙ e)
    go false x = absurd (both_ways (is_some (verdict_in m n d)) (ap (λ b. is_some (cond b (named d.verdict) None)) x) e)

pub small_from_sound : (n m : ℕ) (ds : List DfaRow) → n < 2 ^ 64 → m < 2 ^ 64 → sound n m ds n ≡ true → Small n m ds
small_from_sound n m ds h k s = record {
  rows = h;
  letters = k;
  verdicts = λ i l. small_verdict (row_at ds i).verdict (parts_of i l).1;
  cells = λ i a l b. omega (arith, leads_at m a n (row_at ds i) b (parts_of i l).0);
}
  where
    parts_of : (i : ℕ) → i < n → (leads m n (row_at ds i) ≡ true) × (is_some (named (row_at ds i).verdict) ≡ true)
    parts_of i l = sound_parts m n (row_at ds i) (sound_at n m i n ds l s)

-- a listing that is answered is such
pub answered_alone : (n m : ℕ) (ds : List DfaRow) (out : List ℕ) (r : Result ℕ Refusal) → n < 2 ^ 64 → m < 2 ^ 64 → r ≡ listed_answer n m ds out → IfOk r (λ _. ListedAlone n m ds)
answered_alone n m ds out r h k e = subst (λ x. IfOk x (λ _. ListedAlone n m ds)) (sym e) (go (eqb n 0) (damaged n m ds) refl (room (listing n m ds) out))
  where
    go : (a b : Bool) → damaged n m ds ≡ b → (o : Option ℕ) → IfOk (cond a (Err (unplaced NoRows)) (cond b (Err (unplaced DamagedTable)) (ok_or o (unplaced ListingTooLong)))) (λ _. ListedAlone n m ds)
    go true b x o = tt
    go false true x o = tt
    go false false x None = tt
    go false false x (Some l) = listed_alone n m ds (small_from_sound n m ds h k (not-false _ (or_parts (ltb (length ds) n) (not (sound n m ds n)) x).1))
