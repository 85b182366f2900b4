-- From columns to words: the table of a word is the table at its last position, whatever follows it.
use Rattle.std.proofs.Common.{◌≡◌, ℕ, zero, suc, ◌+◌, ◌<◌, ◌≤◌, ◌⊎◌, ◌↔◌, List, [], ◌∷◌, ◌++◌, length, get_or, sym, refl, ap, ◌∙◌, inl, inr, append-nil, add-zero, zero-add, arith}
use lib.ListN.{get_or-append}
use Rattle.two_way.specs.declared.Verdict.{Verdict}
use Rattle.two_way.specs.Automaton.{Automaton, right_end}
use Rattle.two_way.specs.Runs.{Word, column, begin, Enters, Accepts, Rejects, Reads}
use Rattle.two_way.specs.Tables.{Table, empty_table, extended, table_from, table, verdict}
use Rattle.two_way.proofs.Loops.{clash}
use Rattle.two_way.proofs.Sound.{Sound}
use Rattle.two_way.proofs.Crossing.{table_at}
use Rattle.two_way.proofs.Halting.{Final, Tape}
use Rattle.two_way.proofs.Endings.{verdict_of, of_verdict}

-- a fold over the word goes through the tables at its positions
fold_at : (A : Automaton) (c : ℕ → ℕ) (d : ℕ) (w : List ℕ) (i : ℕ) → ((j : ℕ) → j < length w → c (suc (i + j)) ≡ get_or w j d)
    → table_from A (table_at A c i) w ≡ table_at A c (i + length w)
fold_at A c d [] i h = rw add-zero
fold_at A c d (a ∷ w) i h =
    let e : c (suc i) ≡ a = ap (λ x. c (suc x)) (sym (add-zero i)) ∙ h 0 (omega arith) in
    let z : suc i + length w ≡ i + length (a ∷ w) = omega arith in
    let ih = fold_at A c d w (suc i) (λ j l. ap c (omega arith) ∙ h (suc j) (omega arith)) in
    ap (λ x. table_from A (extended A (table_at A c i) x) w) (sym e) ∙ ih ∙ ap (table_at A c) z

pub table_here : (A : Automaton) (x z : List ℕ) → table A x ≡ table_at A (column A (x ++ z)) (length x)
table_here A x z =
    fold_at A (column A (x ++ z)) (right_end A) x 0 (λ j l. ap (λ y. column A (x ++ z) (suc y)) (zero-add j) ∙ get_or-append x z (right_end A) j l)
    ∙ ap (table_at A (column A (x ++ z))) (zero-add (length x))

-- after the left end a position shows a letter or, past the word, the right end
shows : (A : Automaton) (w : List ℕ) → Word A w → (d j : ℕ) → ((j < length w) × (get_or w j d < A.letters)) ⊎ ((length w ≤ j) × (get_or w j d ≡ d))
shows A [] h d j = inr (omega arith, refl)
shows A (a ∷ w) h d zero = inl (omega arith, h.0)
shows A (a ∷ w) h d (suc j) = go (shows A w h.1 d j)
  where
    go : ((j < length w) × (get_or w j d < A.letters)) ⊎ ((length w ≤ j) × (get_or w j d ≡ d))
        → ((suc j < length (a ∷ w)) × (get_or w j d < A.letters)) ⊎ ((length (a ∷ w) ≤ suc j) × (get_or w j d ≡ d))
    go (inl s) = inl (omega arith, s.1)
    go (inr s) = inr (omega arith, s.1)

pub tape_of : (A : Automaton) (w : List ℕ) → Word A w → Tape A (length w) (column A w)
tape_of A w h = record {
  left = refl;
  inner = λ j e. let s = show j in omega arith;
  marks = marks;
  right = let s = show (length w) in omega arith;
  inside = inside;
}
  where
    show : (j : ℕ) → ((j < length w) × (get_or w j (right_end A) < A.letters)) ⊎ ((length w ≤ j) × (get_or w j (right_end A) ≡ right_end A))
    show j = shows A w h (right_end A) j

    marks : (j : ℕ) → j ≤ length w → column A w j < right_end A
    marks zero l = omega arith
    marks (suc j) l = let s = show j in omega arith

    inside : (j : ℕ) → column A w j ≤ right_end A
    inside zero = omega arith
    inside (suc j) = let s = show j in omega arith

table_end : (A : Automaton) (w : List ℕ) → table A w ≡ table_at A (column A w) (length w)
table_end A w = table_here A w [] ∙ ap (λ u. table_at A (column A u) (length w)) (append-nil w)

-- the verdict of a word's table is that of the run
module _ (A : Automaton) (law : Sound A) (w : List ℕ) (h : Word A w) where
  told : {g : ℕ} {v : Verdict} → Final A g v → (verdict A (table A w) ≡ v) ↔ Enters A (column A w) g (begin A)
  told f = rw (table_end A w) (of_verdict A law (length w) (column A w) (tape_of A w h) f, verdict_of A law (length w) (column A w) (tape_of A w h) f)

  reads_iff : (v : Verdict) → (verdict A (table A w) ≡ v) ↔ Reads A w v
  reads_iff Verdict.Accepts = told {v = Verdict.Accepts} refl
  reads_iff Verdict.Rejects = told {v = Verdict.Rejects} refl
  reads_iff Verdict.Loops = (
    λ e. (
      λ a. let z = (told {v = Verdict.Accepts} refl).1 a in clash cc,
      λ a. let z = (told {v = Verdict.Rejects} refl).1 a in clash cc,
    ),
    λ n. go n (verdict A (table A w)) refl,
  )
    where
      go : (Accepts A w → ⊥) × (Rejects A w → ⊥) → (v : Verdict) → verdict A (table A w) ≡ v → verdict A (table A w) ≡ Verdict.Loops
      go n Verdict.Accepts e = absurd (n.0 ((told {v = Verdict.Accepts} refl).0 e))
      go n Verdict.Rejects e = absurd (n.1 ((told {v = Verdict.Rejects} refl).0 e))
      go n Verdict.Loops e = e

  pub reads_verdict : Reads A w (verdict A (table A w))
  reads_verdict = (reads_iff (verdict A (table A w))).0 refl

  pub reads_one : (v : Verdict) → Reads A w v → v ≡ verdict A (table A w)
  reads_one v r = sym ((reads_iff v).1 r)

-- a word and what follows it
pub from_append : (A : Automaton) (T : Table) (x z : List ℕ) → table_from A T (x ++ z) ≡ table_from A (table_from A T x) z
from_append A T [] z = refl
from_append A T (a ∷ x) z = from_append A (extended A T a) x z

pub table_one_more : (A : Automaton) (w : List ℕ) (a : ℕ) → table A (w ++ a ∷ []) ≡ extended A (table A w) a
table_one_more A w a = from_append A (empty_table A) w (a ∷ [])

pub word_parts : (A : Automaton) (x z : List ℕ) → Word A (x ++ z) → Word A x × Word A z
word_parts A [] z h = (tt, h)
word_parts A (a ∷ x) z h = let r = word_parts A x z h.1 in ((h.0, r.0), r.1)
