-- Rows closed under the letters hold every word's table, and words with pairwise different tables are no more than they.
use Rattle.std.proofs.Common.{ℕ, ◌<◌, ◌≤◌, List, [], ◌∷◌, subst, arith}
use Rattle.two_way.specs.Automaton.{Automaton}
use Rattle.two_way.specs.Runs.{Word, Reads}
use Rattle.two_way.specs.Tables.{Table, empty_table, extended, table_from, table, verdict, Same, Inside}
use Rattle.two_way.specs.Crossings.{Closed, reached, Apart, Different}
use Rattle.two_way.proofs.Pigeon.{pigeon}
use Rattle.two_way.proofs.Sound.{Sound}
use Rattle.two_way.proofs.Words.{reads_verdict}
use Rattle.two_way.proofs.Sames.{same_sym, same_trans, inside_empty, inside_extended, extended_same, verdict_same, table_in}

module _ (A : Automaton) (law : Sound A) where
  module _ (n : ℕ) (row : ℕ → Table) (cell : ℕ → ℕ → ℕ) (cl : Closed A n row cell) where
    -- each row reached is the table of the letters read so far
    reach : (w : List ℕ) → Word A w → (i : ℕ) (T : Table) → i < n → Inside A T → Same A T (row i)
        → (reached cell i w < n) × Same A (table_from A T w) (row (reached cell i w))
    reach [] h i T l inn s = (l, s)
    reach (a ∷ w) h i T l inn s =
        reach w h.1 (cell i a) (extended A T a) (cl.cells i a l h.0) (inside_extended A law T inn a (omega arith))
        (same_trans (extended_same A law T inn a (omega arith) (row i) s) (same_sym (cl.steps i a l h.0)))

    -- every word's table stands in the rows, where the letters lead from number 0
    pub every : (w : List ℕ) → Word A w → (reached cell 0 w < n) × Same A (table A w) (row (reached cell 0 w))
    every w h = reach w h 0 (empty_table A) cl.any (inside_empty A law) (same_sym cl.origin)

    -- and so its verdict is the verdict of the two-way run
    pub ask_right : (w : List ℕ) → Word A w → Reads A w (verdict A (row (reached cell 0 w)))
    ask_right w h = subst (Reads A w) (verdict_same A law (table A w) (row (reached cell 0 w)) (table_in A law w h) (every w h).1) (reads_verdict A law w h)

    pub no_more : (l : ℕ) → Different A l → l ≤ n
    no_more l d =
        pigeon n l (λ i v. (i < l) × Same A (table A (d.word i)) (row v))
        (λ i h. let e = every (d.word i) (d.are i h) in (reached cell 0 (d.word i), e.0, (h, e.1)))
        (λ i j v x y. d.differ i j x.0 y.0 (same_trans x.1 (same_sym y.1)))

pub apart_different : (A : Automaton) (n : ℕ) (row : ℕ → Table) → Apart A n row → Different A n
apart_different A n row a = record {
  word = a.word;
  are = a.are;
  differ = λ i j l l' s. a.one i j l l' (same_trans (same_sym (a.made i l)) (same_trans s (a.made j l')));
}
