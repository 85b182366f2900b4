-- Each row is the table of a word, no two are the same, and they are closed under the letters.
use Rattle.std.proofs.Common.{◌≡◌, ℕ, zero, suc, ◌+◌, ◌<◌, ◌≤◌, cond, List, [], ◌∷◌, ◌++◌, length, get_or, sym, refl, ap, ◌∙◌, subst, arith, lt-ltb}
use native.Mathlib.Decide.{dec_lt}
use Rattle.std.proofs.lemmas.List.FromFn.{get_or-map-range_with_len}
use Rattle.std.proofs.lemmas.List.{length_push, get_or_push, get_or_append_left, get_or-map}
use Rattle.two_way.specs.Automaton.{Automaton, Lawful}
use Rattle.two_way.specs.Runs.{Word}
use Rattle.two_way.specs.Tables.{Table, table, extended, Same, Inside}
use Rattle.two_way.specs.Rows.{row_of, of_row}
use Rattle.two_way.specs.Crossings.{Closed, Apart}
use Rattle.two_way.proofs.Sound.{Sound, sound}
use Rattle.two_way.proofs.Sames.{same_sym, same_trans, inside_same, inside_extended, table_in}
use Rattle.two_way.proofs.RowLaws.{row_same, same_rows, extended_row_of}
use Rattle.two_way.proofs.Words.{table_one_more}
use Rattle.register.specs.declared.tables.CrossingTable.{CrossingTable}
use Rattle.register.specs.Keys.{with_key}
use Rattle.register.specs.Tables.{blank_table, alike_tables}
use Rattle.crossing.specs.Computed.{empty_of, extended_of}
use Rattle.dfa.specs.declared.rows.DfaRow.{DfaRow}
use Rattle.dfa.specs.Rows.{blank_row}
use Rattle.dfa.specs.Known.{place, row, lettered, taken, known, cell, dfa_row, dfa_of}
use Rattle.dfa.proofs.Placing.{place_at, place_first, with_old, with_next}
use Rattle.dfa.proofs.Growth.{taken_more, taken_none, row_there, known_later}

abbrev pub of_word : Automaton → List ℕ → CrossingTable
of_word A w = record { answers = row_of A (table A w) }

pub record Good (A : Automaton) (xs : List CrossingTable) : Type 0 where
  pub distinct : (i j : ℕ) → i < length xs → j < length xs → row xs i ≡ row xs j → i ≡ j
  pub made : (i : ℕ) → i < length xs → (w : List ℕ) × Word A w × (row xs i ≡ of_word A w)

word_push : (A : Automaton) (w : List ℕ) (a : ℕ) → Word A w → a < A.letters → Word A (w ++ a ∷ [])
word_push A [] a h l = (l, tt)
word_push A (b ∷ w) a h l = (h.0, word_push A w a h.1 l)

good_push : (A : Automaton) (xs : List CrossingTable) (t : CrossingTable) (w : List ℕ) → Good A xs → length xs ≤ place xs t → Word A w → t ≡ of_word A w → Good A (xs ++ t ∷ [])
good_push A xs t w g new ww e = record { distinct = λ i j h k q. apart i j h k q (dec_lt i (length xs)) (dec_lt j (length xs)); made = λ i h. from i h (dec_lt i (length xs)) }
  where
    len : length (xs ++ t ∷ []) ≡ length xs + 1
    len = length_push xs t

    old : (i : ℕ) → i < length xs → row (xs ++ t ∷ []) i ≡ row xs i
    old i h = get_or_append_left xs (t ∷ []) blank_table i h

    last : (i : ℕ) → i ≡ length xs → row (xs ++ t ∷ []) i ≡ t
    last i h = get_or_push xs t blank_table i (sym h)

    absent : (i : ℕ) → i < length xs → row xs i ≡ t → ⊥
    absent i h q = omega (arith, place_first xs t i h q)

    apart : (i j : ℕ) → i < length (xs ++ t ∷ []) → j < length (xs ++ t ∷ []) → row (xs ++ t ∷ []) i ≡ row (xs ++ t ∷ []) j → Dec (i < length xs) → Dec (j < length xs) → i ≡ j
    apart i j h k q (yes a) (yes b) = g.distinct i j a b (sym (old i a) ∙ (q ∙ old j b))
    apart i j h k q (yes a) (no b) = absurd (absent i a (sym (old i a) ∙ (q ∙ last j (omega (arith, len)))))
    apart i j h k q (no a) (yes b) = absurd (absent j b (sym (old j b) ∙ (sym q ∙ last i (omega (arith, len)))))
    apart i j h k q (no a) (no b) = omega (arith, len)

    from : (i : ℕ) → i < length (xs ++ t ∷ []) → Dec (i < length xs) → (w : List ℕ) × Word A w × (row (xs ++ t ∷ []) i ≡ of_word A w)
    from i h (yes a) = let m = g.made i a in (m.0, m.1, old i a ∙ m.2)
    from i h (no a) = (w, ww, last i (omega (arith, len)) ∙ e)

good_new : (A : Automaton) (xs : List CrossingTable) (t : CrossingTable) (w : List ℕ) → Good A xs → Word A w → t ≡ of_word A w → Good A (with_key alike_tables xs t)
good_new A xs t w g ww e = go (dec_lt (place xs t) (length xs))
  where
    go : Dec (place xs t < length xs) → Good A (with_key alike_tables xs t)
    go (yes h) = subst (Good A) (sym (with_old xs t h)) g
    go (no h) = let l : length xs ≤ place xs t = omega arith in subst (Good A) (sym (with_next xs t l)) (good_push A xs t w g l ww e)

module _ (A : Automaton) (law : Lawful A) where
  s : Sound A
  s = sound A law

  abbrev wrap : List ℕ → CrossingTable
  wrap xs = record { answers = xs }

  after_word : (t : CrossingTable) (w : List ℕ) (a : ℕ) → Word A w → a < A.letters → t ≡ of_word A w → extended_of A t a ≡ of_word A (w ++ a ∷ [])
  unfolding extended_of
  after_word t w a ww l e =
      ap (λ (u : CrossingTable). extended_of A u a) e
      ∙ ap wrap (extended_row_of A s (table A w) (table_in A s w ww) a l ∙ ap (row_of A) (sym (table_one_more A w a)))

  good_lettered : (t : CrossingTable) (w : List ℕ) → Word A w → t ≡ of_word A w → (xs : List CrossingTable) → Good A xs → (a : ℕ) → a ≤ A.letters → Good A (lettered A t xs a)
  good_lettered t w ww e xs g zero l = g
  good_lettered t w ww e xs g (suc a) l =
      good_new A (lettered A t xs a) (extended_of A t a) (w ++ a ∷ []) (good_lettered t w ww e xs g a (omega arith)) (word_push A w a ww l) (after_word t w a ww l e)

  good_taken : (i : ℕ) (xs : List CrossingTable) → Good A xs → Good A (taken A i xs)
  good_taken i xs g = go (dec_lt i (length xs))
    where
      go : Dec (i < length xs) → Good A (taken A i xs)
      go (yes h) = let m = g.made i h in subst (Good A) (sym (taken_more A i xs h)) (good_lettered (row xs i) m.0 m.1 m.2 xs g A.letters (omega arith))
      go (no h) = subst (Good A) (sym (taken_none A i xs (omega arith))) g

  pub good_known : (n : ℕ) → Good A (known A n)
  unfolding empty_of
  good_known zero = record { distinct = λ i j h k q. omega arith; made = λ i h. ([], tt, one i (omega arith)) }
    where
      one : (i : ℕ) → i ≡ 0 → row (empty_of A ∷ []) i ≡ of_word A []
      one i e = rw e refl
  good_known (suc n) = good_taken n (known A n) (good_known n)

  abbrev pub tables_at : List CrossingTable → ℕ → Table
  tables_at xs i = of_row (row xs i).answers

  module _ (xs : List CrossingTable) (g : Good A xs) where
    pick : (i : ℕ) → Dec (i < length xs) → List ℕ
    pick i (yes h) = (g.made i h).0
    pick i (no h) = []

    picked : (i : ℕ) → i < length xs → (d : Dec (i < length xs)) → Word A (pick i d) × (row xs i ≡ of_word A (pick i d))
    unfolding pick
    picked i h (yes k) = ((g.made i k).1, (g.made i k).2)
    picked i h (no k) = absurd (k h)

    pub same_as : (i : ℕ) (w : List ℕ) → Word A w → row xs i ≡ of_word A w → Same A (tables_at xs i) (table A w)
    same_as i w ww e = subst (λ (t : CrossingTable). Same A (of_row t.answers) (table A w)) (sym e) (row_same A s (table A w) (table_in A s w ww))

    -- the rows are the tables of words, and no two are the same
    pub apart : Apart A (length xs) (tables_at xs)
    unfolding pick
    apart = record {
      word = λ i. pick i (dec_lt i (length xs));
      are = λ i h. (picked i h (dec_lt i (length xs))).0;
      made = λ i h. let p = picked i h (dec_lt i (length xs)) in same_sym (same_as i (pick i (dec_lt i (length xs))) p.0 p.1);
      one = λ i j h k e.
          let p = g.made i h in
          let q = g.made j k in
          let st = same_trans (same_sym (same_as i p.0 p.1 p.2)) (same_trans e (same_as j q.0 q.1 q.2)) in
          g.distinct i j h k (p.2 ∙ (ap wrap (same_rows A s (table A p.0) (table A q.0) st) ∙ sym q.2));
    }

    pub inside_at : (i : ℕ) → i < length xs → Inside A (tables_at xs i)
    inside_at i h = let p = g.made i h in inside_same (same_sym (same_as i p.0 p.1 p.2)) (table_in A s p.0 p.1)

  -- what the cells of a dfa row say
  pub cell_is : (xs : List CrossingTable) (t : CrossingTable) (a : ℕ) → a < A.letters → get_or (dfa_row A xs t).cells a 0 ≡ place xs (extended_of A t a)
  cell_is xs t a h =
      let f = law.letters_high in
      get_or-map-range_with_len (cell A xs t) 0 16 a a 0 (omega arith) (omega arith) ∙ ap (λ b. cond b (place xs (extended_of A t a)) 0) (lt-ltb a A.letters h)

  abbrev pub cells_in : List DfaRow → ℕ → ℕ → ℕ
  cells_in ds i a = get_or (get_or ds i blank_row).cells a 0

  pub dfa_cell : (xs : List CrossingTable) (i a : ℕ) → i < length xs → a < A.letters → cells_in (dfa_of A xs) i a ≡ place xs (extended_of A (row xs i) a)
  dfa_cell xs i a h k = ap (λ (d : DfaRow). get_or d.cells a 0) (get_or-map (dfa_row A xs) xs i blank_table blank_row h) ∙ cell_is xs (row xs i) a k

  -- the rows, once all are taken, are closed under the letters
  module _ (n : ℕ) (few : length (known A n) ≤ n) where
    abbrev ks : List CrossingTable
    ks = known A n

    pub some_rows : 0 < length (known A n)
    some_rows = omega (arith, (known_later A 0 n (omega arith)).longer)

    pub closed : Closed A (length (known A n)) (tables_at (known A n)) (cells_in (dfa_of A (known A n)))
    unfolding extended_of empty_of
    closed = record {
      any = some_rows;
      origin = let e = (known_later A 0 n (omega arith)).same 0 (omega arith) in same_as (known A n) (good_known n) 0 [] tt e;
      cells = λ i a h k. let r = row_there A i n a (omega arith) h k in subst (λ c. c < length (known A n)) (sym (dfa_cell (known A n) i a h k)) r;
      steps = λ i a h k.
          let r = row_there A i n a (omega arith) h k in
          let at = place_at (known A n) (extended_of A (row (known A n) i) a) r in
          let e : row (known A n) (cells_in (dfa_of A (known A n)) i a) ≡ extended_of A (row (known A n) i) a = ap (row (known A n)) (dfa_cell (known A n) i a h k) ∙ at in
          subst (λ (t : CrossingTable). Same A (of_row t.answers) (extended A (tables_at (known A n) i) a)) (sym e)
          (row_same A s (extended A (tables_at (known A n) i) a) (inside_extended A s (tables_at (known A n) i) (inside_at (known A n) (good_known n) i h) a (omega arith)));
    }
