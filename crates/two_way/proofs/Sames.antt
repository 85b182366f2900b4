-- Tables that are the same stay so with a letter more, and have one verdict; so words that have them share what follows.
use Rattle.std.proofs.Common.{◌≡◌, ℕ, suc, ◌<◌, ◌≤◌, List, [], ◌∷◌, ◌++◌, Some, None, Option, sym, refl, ap, ◌∙◌, subst, arith}
use Rattle.two_way.specs.declared.Verdict.{Verdict}
use Rattle.two_way.specs.Automaton.{Automaton, left_end, right_end, to, way}
use Rattle.two_way.specs.Runs.{Word, Reads}
use Rattle.two_way.specs.Tables.{Table, Turn, on, stop, arriving, turn_by, crossing, cross, empty_table, extended, table_from, table, sieve, ending, verdict, Same, Inside}
use Rattle.two_way.proofs.Loops.{clash, run, or_else, Ends, ends, goes, run_same}
use Rattle.two_way.proofs.Sound.{Sound}
use Rattle.two_way.proofs.Crossing.{crossing_on, crossing_stop, cross_run, cross_ends}
use Rattle.two_way.proofs.Endings.{verdict_run, ending_on}
use Rattle.two_way.proofs.Words.{reads_verdict, reads_one, from_append, word_parts}

pub same_refl : (A : Automaton) (T : Table) → Same A T T
same_refl A T = record { firsts = refl; ats = λ q _. refl }

pub same_sym : {A : Automaton} {T U : Table} → Same A T U → Same A U T
same_sym s = record { firsts = sym s.firsts; ats = λ q h. sym (s.ats q h) }

pub same_trans : {A : Automaton} {T U V : Table} → Same A T U → Same A U V → Same A T V
same_trans s t = record { firsts = s.firsts ∙ t.firsts; ats = λ q h. s.ats q h ∙ t.ats q h }

pub inside_same : {A : Automaton} {T U : Table} → Same A T U → Inside A T → Inside A U
inside_same s i = record { first_in = λ p e. i.first_in p (s.firsts ∙ e); at_in = λ q p h e. i.at_in q p h (s.ats q h ∙ e) }

module _ (A : Automaton) (law : Sound A) where
  pub inside_empty : Inside A (empty_table A)
  inside_empty = record {
    first_in = λ p e. let z : to A A.start (left_end A) ≡ p = cc in subst (λ x. x < A.states) z (law.inside A.start (left_end A) law.start_in (omega arith));
    at_in = λ q p h e. let z : to A q (left_end A) ≡ p = cc in subst (λ x. x < A.states) z (law.inside q (left_end A) h (omega arith));
  }

  module _ (T : Table) (i : Inside A T) (a : ℕ) (ha : a ≤ right_end A) where
    cross_keeps : (p b : ℕ) → p < A.states → crossing A T.at a p ≡ on b → b < A.states
    cross_keeps p b h e = i.at_in (to A p a) b (law.inside p a h ha) (crossing_on A T.at a p b e).1

    ends_in : {p q n : ℕ} → q < A.states → Ends (crossing A T.at a) (Some p) q n → p < A.states
    ends_in {p} {q} h (ends e) = subst (λ x. x < A.states) (crossing_stop A T.at a q p e).1 (law.inside q a h ha)
    ends_in {p} {q} h (goes {x' = b} e d) = ends_in (cross_keeps q b h e) d

    cross_in : (q p : ℕ) → q < A.states → cross A T.at a q ≡ Some p → p < A.states
    cross_in q p h e = ends_in h (cross_ends A T.at a q p e).1

    pub inside_extended : Inside A (extended A T a)
    inside_extended = record { first_in = λ p e. go T.first refl p e; at_in = cross_in }
      where
        go : (o : Option ℕ) → T.first ≡ o → (p : ℕ) → (extended A T a).first ≡ Some p → p < A.states
        go None e p e' = clash cc
        go (Some q) e p e' = cross_in q p (i.first_in q e) cc

    module _ (U : Table) (s : Same A T U) where
      cross_same : (q : ℕ) → q < A.states → cross A T.at a q ≡ cross A U.at a q
      cross_same q h =
          cross_run A T.at a q ∙ ap (or_else None) (run_same (crossing A T.at a) (crossing A U.at a) (λ x. x < A.states) cross_keeps
          (λ p l. ap (λ o. turn p o) (s.ats (to A p a) (law.inside p a l ha))) (suc A.states) q h) ∙ sym (cross_run A U.at a q)
        where
          turn : ℕ → Option ℕ → Turn ℕ (Option ℕ)
          turn p o = turn_by (λ _. o) (to A p a) (way A p a)

      pub extended_same : Same A (extended A T a) (extended A U a)
      extended_same = record { firsts = go T.first refl; ats = cross_same }
        where
          go : (o : Option ℕ) → T.first ≡ o → (extended A T a).first ≡ (extended A U a).first
          go None e = let z = s.firsts in cc
          go (Some q) e = let z = s.firsts in let y = cross_same q (i.first_in q e) in cc

  pub verdict_same : (T U : Table) → Inside A T → Same A T U → verdict A T ≡ verdict A U
  verdict_same T U i s = verdict_run A T ∙ go T.first refl ∙ sym (verdict_run A U)
    where
      keeps : (p b : ℕ) → p < A.states → ending A T.at p ≡ on b → b < A.states
      keeps p b h e = i.at_in (to A p (right_end A)) b (law.inside p (right_end A) h (omega arith)) (ending_on A law T.at p b e)

      last : Table → ℕ → Verdict
      last V p = or_else Verdict.Loops (run (ending A V.at) (suc A.states) p)

      runs : (q : ℕ) → q < A.states → last T q ≡ last U q
      runs q h = ap (or_else Verdict.Loops) (run_same (ending A T.at) (ending A U.at) (λ x. x < A.states) keeps
          (λ p l. ap (λ o. sieve A p (arriving (stop Verdict.Loops) o on)) (s.ats (to A p (right_end A)) (law.inside p (right_end A) l (omega arith)))) (suc A.states) q h)

      go : (o : Option ℕ) → T.first ≡ o → arriving Verdict.Loops T.first (last T) ≡ arriving Verdict.Loops U.first (last U)
      go None e = let z = s.firsts in cc
      go (Some q) e = let z = s.firsts in let y = runs q (i.first_in q e) in cc

  -- the answers of a word's table are states
  from_in : (w : List ℕ) → Word A w → (T : Table) → Inside A T → Inside A (table_from A T w)
  from_in [] h T i = i
  from_in (a ∷ w) h T i = from_in w h.1 (extended A T a) (inside_extended T i a (omega arith))

  pub table_in : (w : List ℕ) → Word A w → Inside A (table A w)
  table_in w h = from_in w h (empty_table A) inside_empty

  -- words with the same table have the same table and the same verdict whatever follows them
  from_same : (z : List ℕ) → Word A z → (T U : Table) → Inside A T → Same A T U → Same A (table_from A T z) (table_from A U z)
  from_same [] h T U i s = s
  from_same (a ∷ z) h T U i s =
      from_same z h.1 (extended A T a) (extended A U a) (inside_extended T i a (omega arith)) (extended_same T i a (omega arith) U s)

  pub words_same : (x y z : List ℕ) → Word A (x ++ z) → Same A (table A x) (table A y) → Same A (table A (x ++ z)) (table A (y ++ z))
  words_same x y z h s =
      let w = word_parts A x z h in
      rw (from_append A (empty_table A) x z, from_append A (empty_table A) y z) (from_same z w.1 (table A x) (table A y) (table_in x w.0) s)

  pub reads_same : (x y z : List ℕ) → Word A (x ++ z) → Word A (y ++ z) → Same A (table A x) (table A y) → (v : Verdict) → Reads A (x ++ z) v → Reads A (y ++ z) v
  reads_same x y z h k s v r =
      let e = reads_one A law (x ++ z) h v r ∙ verdict_same (table A (x ++ z)) (table A (y ++ z)) (table_in (x ++ z) h) (words_same x y z h s) in
      subst (Reads A (y ++ z)) (sym e) (reads_verdict A law (y ++ z) k)
