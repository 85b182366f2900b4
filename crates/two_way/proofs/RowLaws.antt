-- Rows are equal exactly when their tables are the same, and the row after a letter is that of the table after it.
use Rattle.std.proofs.Common.{◌≡◌, ℕ, ◌<◌, List, [], ◌∷◌, map, get_or, Some, None, Option, refl, ap, ◌∙◌, subst, arith, le-ltb, lt-ltb, eq-eqb, ne_eqb}
use mathlib.Core.Path.{fun_ext}
use native.Mathlib.Decide.{ℕ_discrete, dec_lt}
use Rattle.std.specs.List.{range_with_len}
use Rattle.std.proofs.lemmas.List.FromFn.{get_or-map-range_with_len}
use Rattle.two_way.specs.Automaton.{Automaton}
use Rattle.two_way.specs.Runs.{Word}
use Rattle.two_way.specs.Tables.{Table, empty_table, extended, table_from, table, Same, Inside}
use Rattle.two_way.specs.Rows.{byte_of, of_byte, answer, row_of, of_row, empty_row, extended_row, row_from}
use Rattle.two_way.proofs.Sound.{Sound}
use Rattle.two_way.proofs.Sames.{same_refl, same_sym, same_trans, inside_same, inside_empty, inside_extended, extended_same}

-- an answer below 32 is a byte, and read back
byte_back : (o : Option ℕ) → ((p : ℕ) → o ≡ Some p → p < 32) → of_byte (byte_of o) ≡ o
byte_back None h = refl
byte_back (Some p) h = let l = h p refl in let z = ne_eqb p 255 (λ e. omega arith) in cc

byte_low : (o : Option ℕ) → ((p : ℕ) → o ≡ Some p → p < 32) → byte_of o < 256
byte_low None h = omega arith
byte_low (Some p) h = let l = h p refl in omega arith

module _ (A : Automaton) (law : Sound A) where
  module _ (T : Table) (i : Inside A T) where
    first_low : (p : ℕ) → T.first ≡ Some p → p < 32
    first_low p e = let l = i.first_in p e in let k = law.few_states in omega arith

    at_low : (q p : ℕ) → q < A.states → T.at q ≡ Some p → p < 32
    at_low q p h e = let l = i.at_in q p h e in let k = law.few_states in omega arith

    answer_at : (q : ℕ) → q < A.states → answer A T q ≡ byte_of (T.at q)
    answer_at q h = let k = law.few_states in let z = ne_eqb q 32 (λ e. omega arith) in let y = lt-ltb q A.states h in cc

    pub row_same : Same A (of_row (row_of A T)) T
    row_same = record {
      firsts = byte_back T.first first_low;
      ats = λ q h.
          let k = law.few_states in
          ap of_byte (get_or-map-range_with_len (answer A T) 0 33 q q 255 (omega arith) (omega arith) ∙ answer_at q h)
          ∙ byte_back (T.at q) (λ p. at_low q p h);
    }

    answer_low : (j : ℕ) → answer A T j < 256
    answer_low j = go (ℕ_discrete j 32) (dec_lt j A.states)
      where
        go : Dec (j ≡ 32) → Dec (j < A.states) → answer A T j < 256
        go (yes e) d = rw e (byte_low T.first first_low)
        go (no n) (yes l) = rw (answer_at j l) (byte_low (T.at j) (λ p. at_low j p l))
        go (no n) (no l) =
            let z = ne_eqb j 32 n in
            let y = le-ltb j A.states (omega arith) in
            let e : answer A T j ≡ 255 = cc in omega arith

    -- the row is of bytes
    pub row_bytes : (j : ℕ) → j < 33 → get_or (row_of A T) j 255 < 256
    row_bytes j h = rw (get_or-map-range_with_len (answer A T) 0 33 j j 255 h (omega arith)) (answer_low j)

  answers_same : (T U : Table) → Same A T U → (j : ℕ) → answer A T j ≡ answer A U j
  answers_same T U s j = go (ℕ_discrete j 32) (dec_lt j A.states)
    where
      go : Dec (j ≡ 32) → Dec (j < A.states) → answer A T j ≡ answer A U j
      go (yes e) d = let z = eq-eqb j 32 e in let y = s.firsts in cc
      go (no n) (yes l) = let z = s.ats j l in cc
      go (no n) (no l) = let z = le-ltb j A.states (omega arith) in cc

  pub same_rows : (T U : Table) → Same A T U → row_of A T ≡ row_of A U
  same_rows T U s = ap (λ f. map f (range_with_len 0 33)) (fun_ext (answers_same T U s))

  pub rows_same : (T U : Table) → Inside A T → Inside A U → row_of A T ≡ row_of A U → Same A T U
  rows_same T U i j e =
      same_trans (same_sym (row_same T i)) (same_trans (subst (λ r. Same A (of_row (row_of A T)) (of_row r)) e (same_refl A (of_row (row_of A T)))) (row_same U j))

  pub extended_row_of : (T : Table) → Inside A T → (a : ℕ) → a < A.letters → extended_row A (row_of A T) a ≡ row_of A (extended A T a)
  extended_row_of T i a h =
      let s = row_same T i in
      same_rows (extended A (of_row (row_of A T)) a) (extended A T a)
      (extended_same A law (of_row (row_of A T)) (inside_same (same_sym s) i) a (omega arith) T s)

  row_from_of : (w : List ℕ) → Word A w → (T : Table) → Inside A T → row_from A (row_of A T) w ≡ row_of A (table_from A T w)
  row_from_of [] h T i = refl
  row_from_of (a ∷ w) h T i =
      ap (λ r. row_from A r w) (extended_row_of T i a h.0) ∙ row_from_of w h.1 (extended A T a) (inside_extended A law T i a (omega arith))

  -- the row of a word, made letter by letter from rows alone
  pub row_right : (w : List ℕ) → Word A w → row_from A (empty_row A) w ≡ row_of A (table A w)
  row_right w h = row_from_of w h (empty_table A) (inside_empty A law)
