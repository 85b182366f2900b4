-- Over the dfa of a rule an ask gives the verdict of the two-way run.
use Rattle.std.proofs.Common.{◌≡◌, ℕ, zero, suc, ◌<◌, ◌≤◌, true, cond, ltb, List, [], ◌∷◌, length, get_or, take, is_some, Some, None, Ok, sym, refl, ap, ◌∙◌, subst, arith, lt-ltb}
use Rattle.std.specs.Option.{ok_or}
use Rattle.std.proofs.lemmas.List.{get_or-take, get_or-map, length-map, length-take}
use Rattle.std.proofs.lemmas.Bool.{and_from}
use Rattle.two_way.specs.declared.Verdict.{Verdict}
use Rattle.two_way.specs.Verdicts.{number_of, named}
use Rattle.two_way.specs.Automaton.{Automaton, Lawful}
use Rattle.two_way.specs.Runs.{Word, Reads}
use Rattle.two_way.specs.Tables.{verdict}
use Rattle.two_way.specs.Crossings.{reached}
use Rattle.two_way.proofs.Sound.{sound}
use Rattle.two_way.proofs.Counting.{every, ask_right, no_more, apart_different}
use Rattle.refusals.specs.declared.fault.Fault.TheVariants.{DamagedTable}
use Rattle.refusals.specs.Line.{unplaced}
use Rattle.register.specs.Tables.{blank_table}
use Rattle.dfa.specs.declared.rows.DfaRow.{DfaRow}
use Rattle.dfa.specs.Rows.{blank_row}
use Rattle.dfa.specs.Known.{row, known, dfa_row, dfa_of}
use Rattle.dfa.specs.Asked.{leads, verdict_in, row_at, followed, asked}
use Rattle.dfa.proofs.Growth.{row_there}
use Rattle.dfa.proofs.Rightly.{good_known, tables_at, cells_in, cell_is, closed, some_rows, apart}
use Rattle.dfa.proofs.Following.{asked_is}
use Rattle.engine.specs.Runs.{Most, row_met}

named_number : (v : Verdict) → named (number_of v) ≡ Some v
named_number Verdict.Accepts = refl
named_number Verdict.Rejects = refl
named_number Verdict.Loops = refl

leads_from : (m n : ℕ) (d : DfaRow) → ((a : ℕ) → a < m → get_or d.cells a 0 < n) → leads m n d ≡ true
leads_from zero n d h = refl
leads_from (suc m) n d h =
    and_from (leads m n d) (ltb (get_or d.cells m 0) n) (leads_from m n d (λ a l. h a (omega arith))) (lt-ltb (get_or d.cells m 0) n (h m (omega arith)))

module _ (A : Automaton) (law : Lawful A) (p : ℕ) (few : length (known A p) ≤ p) where
  abbrev N : ℕ
  N = length (known A p)

  abbrev cells : ℕ → ℕ → ℕ
  cells = cells_in A law (dfa_of A (known A p))

  pub most_rows : Most A (length (known A p))
  most_rows = record {
    some = apart_different A (length (known A p)) (tables_at A law (known A p)) (apart A law (known A p) (good_known A law p));
    none_longer = no_more A (sound A law) (length (known A p)) (tables_at A law (known A p)) (cells_in A law (dfa_of A (known A p))) (closed A law p few);
  }

  -- a row of the rule is sound, and has its table's verdict
  cells_low : (i a : ℕ) → i < N → a < A.letters → get_or (dfa_row A (known A p) (row (known A p) i)).cells a 0 < N
  cells_low i a h k = subst (λ c. c < N) (sym (cell_is A law (known A p) (row (known A p) i) a k)) (row_there A i p a (omega arith) h k)

  verdict_there : (i : ℕ) → i < N → verdict_in A.letters N (dfa_row A (known A p) (row (known A p) i)) ≡ Some (verdict A (tables_at A law (known A p) i))
  verdict_there i h =
      let d = dfa_row A (known A p) (row (known A p) i) in
      ap (λ b. cond b (named d.verdict) None) (leads_from A.letters N d (λ a l. cells_low i a h l)) ∙ named_number (verdict A (tables_at A law (known A p) i))

  module _ (ds : List DfaRow) (holds : take (length (known A p)) ds ≡ dfa_of A (known A p)) where
    row_in : (i : ℕ) → i < N → row_at ds i ≡ dfa_row A (known A p) (row (known A p) i)
    row_in i h = sym (get_or-take N ds i blank_row h) ∙ (ap (λ xs. get_or xs i blank_row) holds ∙ get_or-map (dfa_row A (known A p)) (known A p) i blank_table blank_row h)

    verdict_here : (i : ℕ) → i < N → verdict_in A.letters N (row_at ds i) ≡ Some (verdict A (tables_at A law (known A p) i))
    verdict_here i h = ap (verdict_in A.letters N) (row_in i h) ∙ verdict_there i h

    cell_here : (i a : ℕ) → i < N → get_or (row_at ds i).cells a 0 ≡ cells i a
    cell_here i a h =
        ap (λ (d : DfaRow). get_or d.cells a 0) (row_in i h ∙ sym (get_or-map (dfa_row A (known A p)) (known A p) i blank_table blank_row h))

    -- the letters lead through the same rows in the dfa handed
    reached_here : (w : List ℕ) → Word A w → (i : ℕ) → i < N → reached (λ j a. get_or (row_at ds j).cells a 0) i w ≡ reached cells i w
    reached_here [] ww i h = refl
    reached_here (a ∷ w) ww i h =
        ap (λ j. reached (λ j a. get_or (row_at ds j).cells a 0) j w) (cell_here i a h) ∙ reached_here w ww.1 (cells i a) ((closed A law p few).cells i a h ww.0)

    follows : (w : List ℕ) → Word A w → (i : ℕ) → i < N → followed A.letters N ds i w ≡ Some (verdict A (tables_at A law (known A p) (reached cells i w)))
    follows [] ww i h = verdict_here i h
    follows (a ∷ w) ww i h =
        ap (λ o. cond (is_some o) (followed A.letters N ds (get_or (row_at ds i).cells a 0) w) None) (verdict_here i h)
        ∙ (ap (λ j. followed A.letters N ds j w) (cell_here i a h) ∙ follows w ww.1 (cells i a) ((closed A law p few).cells i a h ww.0))

    long_enough : N ≤ length ds
    long_enough = omega (arith, length-take N ds, ap length holds, length-map (known A p) (dfa_row A (known A p)))

    pub ask_told : (w : List ℕ) → Word A w → (v : Verdict) × (asked A.letters (length (known A p)) ds w ≡ Ok v) × ((row_met ds w).verdict ≡ number_of v) × Reads A w v
    ask_told w ww =
        let s = some_rows A law p few in
        let at = reached cells 0 w in
        let v = verdict A (tables_at A law (known A p) at) in
        let low = (every A (sound A law) N (tables_at A law (known A p)) cells (closed A law p few) w ww).0 in (
          v,
          asked_is A.letters N ds w s long_enough ∙ ap (λ o. ok_or o (unplaced DamagedTable)) (follows w ww 0 s),
          ap (λ j. (row_at ds j).verdict) (reached_here w ww 0 s) ∙ ap (λ (d : DfaRow). d.verdict) (row_in at low),
          ask_right A (sound A law) N (tables_at A law (known A p)) cells (closed A law p few) w ww,
        )
