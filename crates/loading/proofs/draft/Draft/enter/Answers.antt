use Rattle.std.proofs.Common.{◌≡◌, ℕ, ◌<◌, false, List, ◌∷◌, map, is_some, Some, Option, unwrap_or, sym, refl, ap, ◌∙◌}
use Rattle.std.proofs.lemmas.Result.{err_from_is_err_and}
use Rattle.text.specs.Lines.{Line}
use Rattle.text.specs.Left.{line_of}
use Rattle.register.specs.Names.{as_name, alike_names}
use Rattle.register.specs.Held.{held}
use Rattle.rules.specs.Steps.{direction_number}
use Rattle.spelling.specs.Said.{field, names, letters, halts, with_name, found}
use Rattle.spelling.specs.Conditions.{one_too_many, wrong_way, entry_column, entry_direction}
use Rattle.spelling.proofs.LoadNames.{place}
use Rattle.spelling.proofs.LoadSeats.{seat_low, seated, unseated}
use Rattle.spelling.proofs.LoadEntries.{none_is}
use Rattle.spelling.proofs.LoadTests.{step_halts, step_state, step_next, step_end, step_twice, step_good}
use Rattle.loading.specs.Fields.{Says}
use Rattle.loading.specs.Cells.{cell}
use Rattle.loading.specs.Drawn.{Drawn}
use Rattle.loading.proofs.Entering.{telling, halting, err_is}
use Rattle.loading.proofs.Growing.{found_cell, drawn_more}
use Rattle.loading.proofs.draft.Draft.enter.Goals as goal
use Rattle.loading.proofs.draft.Draft.enter.Goals.{After-halts, In_ok-state, In_ok-to, After-leads_out}

-- the tests, one after another
halts_is : (c : After-halts) (h : Line) (es : List Line) → Drawn h es c.args.self.now → Says (letters (h ∷ es)) (line_of c.args.row.line) c.args.entry → c.halts.result ≡ halts (h ∷ es) (field 2 (line_of c.args.row.line))
halts_is c h es D S = c.halts.ensures ∙ halting h es c.args.self.now.header c.args.entry.state (field 2 (line_of c.args.row.line)) D.heads S.state

low : (c : In_ok-state) → c.in_ok-state.state < 32
low c = seat_low alike_names 32 (held c.args.self.now.states.names) c.args.entry.state c.in_ok-state.state (sym c.in_ok-state.ensures.ok_part ∙ c.named.ensures.place)

state_in : (c : In_ok-state) (ns : List (List ℕ)) (f : List ℕ) → held c.args.self.now.states.names ≡ map as_name ns → c.args.entry.state ≡ as_name f → (one_too_many ns f ≡ false) × (place (with_name ns f) f ≡ Some c.in_ok-state.state) × (held c.named.new.self.names ≡ map as_name (with_name ns f))
state_in c ns f N e =
    let w = c.named.ensures in
    seated ns f (held c.args.self.now.states.names) (held c.named.new.self.names) c.args.entry.state N e w.keys c.in_ok-state.state (sym c.in_ok-state.ensures.ok_part ∙ w.place)

next_in : (c : In_ok-to) (ns : List (List ℕ)) (f : List ℕ) → held c.named.new.self.names ≡ map as_name ns → c.args.entry.next ≡ as_name f → (one_too_many ns f ≡ false) × (place (with_name ns f) f ≡ Some c.in_ok-to.to) × (held c.named-2.new.self.names ≡ map as_name (with_name ns f))
next_in c ns f N e =
    let w = c.named-2.ensures in
    seated ns f (held c.named.new.self.names) (held c.named-2.new.self.names) c.args.entry.next N e w.keys c.in_ok-to.to (sym c.in_ok-to.ensures.ok_part ∙ w.place)

leads_is : (c : After-leads_out) (h : Line) (es : List Line) → Drawn h es c.args.self.now → Says (letters (h ∷ es)) (line_of c.args.row.line) c.args.entry → wrong_way (letters (h ∷ es)) (entry_column (h ∷ es) (line_of c.args.row.line)) (entry_direction (line_of c.args.row.line)) ≡ c.leads_out.result
leads_is c h es D S =
    (λ i. wrong_way (ap (λ (o : Option ℕ). unwrap_or o 0) D.heads.letters i) (ap (λ (o : Option ℕ). unwrap_or o 0) S.column i) (ap (λ (o : Option ℕ). unwrap_or o 0) S.direction i)) ∙ sym c.leads_out.ensures

pub returns-then-halts : goal.returns-then-halts
returns-then-halts c h es D S =
    telling _ _ _ _ _ c.refused.ensures (step_halts (h ∷ es) (line_of c.args.row.line) (sym (halts_is (goal.at.returns-then-halts c).After-halts h es D S) ∙ c.if-halts.true))

pub returns-in_err-state : goal.returns-in_err-state
returns-in_err-state c h es D S =
    let p = err_from_is_err_and c.from_residual.result c.from_residual.ensures.1 in
    let f = field 2 (line_of c.args.row.line) in
    let w = c.in_err-state.ensures in
    let s = sym (halts_is (goal.at.returns-in_err-state c).After-halts h es D S) ∙ c.if-halts.false in
    rw (p.1, p.2)
    (telling _ _ _ _ _ (err_is _ _ _ w.ok_part w.value ∙ c.refused-2.ensures)
    (step_state (h ∷ es) (line_of c.args.row.line) s
    (unseated (names (h ∷ es)) f (held c.args.self.now.states.names) (held c.named.new.self.names) c.args.entry.state D.named S.state c.named.ensures.keys (sym w.ok_part ∙ c.named.ensures.place))))

pub returns-in_err-to : goal.returns-in_err-to
returns-in_err-to c h es D S =
    let p = err_from_is_err_and c.from_residual-in_err-to.result c.from_residual-in_err-to.ensures.1 in
    let l = line_of c.args.row.line in
    let w = c.in_err-to.ensures in
    let s = state_in (goal.at.returns-in_err-to c).In_ok-state (names (h ∷ es)) (field 2 l) D.named S.state in
    rw (p.1, p.2)
    (telling _ _ _ _ _ (err_is _ _ _ w.ok_part w.value ∙ c.refused-3.ensures)
    (step_next (h ∷ es) l (sym (halts_is (goal.at.returns-in_err-to c).After-halts h es D S) ∙ c.if-halts.false) s.0
    (unseated (with_name (names (h ∷ es)) (field 2 l)) (field 4 l) (held c.named.new.self.names) (held c.named-2.new.self.names) c.args.entry.next s.2 S.next c.named-2.ensures.keys (sym w.ok_part ∙ c.named-2.ensures.place))))

pub returns-then-leads_out : goal.returns-then-leads_out
returns-then-leads_out c h es D S =
    let l = line_of c.args.row.line in
    let s = state_in (goal.at.returns-then-leads_out c).In_ok-state (names (h ∷ es)) (field 2 l) D.named S.state in
    let t = next_in (goal.at.returns-then-leads_out c).In_ok-to (with_name (names (h ∷ es)) (field 2 l)) (field 4 l) s.2 S.next in
    telling _ _ _ _ _ c.refused-then-leads_out.ensures
    (step_end (h ∷ es) l (sym (halts_is (goal.at.returns-then-leads_out c).After-halts h es D S) ∙ c.if-halts.false) s.0 t.0
    (leads_is (goal.at.returns-then-leads_out c).After-leads_out h es D S ∙ c.if-leads_out.true))

pub at-requires : goal.at-requires
at-requires c = (low (goal.at.at-requires c).In_ok-state, c.args.entry.low)

pub put-requires : goal.put-requires
put-requires c = (low (goal.at.put-requires c).In_ok-state, c.args.entry.low)

-- whether the step was given before
twice_is : (c : In_ok-state) (h : Line) (es : List Line) → Drawn h es c.args.self.now → Says (letters (h ∷ es)) (line_of c.args.row.line) c.args.entry
    → is_some (cell c.args.self.now.steps.cells c.in_ok-state.state c.args.entry.column) ≡ is_some (found (letters (h ∷ es)) (field 2 (line_of c.args.row.line)) c.args.entry.column es)
twice_is c h es D S =
    let l = line_of c.args.row.line in
    found_cell h es l c.args.self.now D c.in_ok-state.state c.args.entry.column (state_in c (names (h ∷ es)) (field 2 l) D.named S.state).1 (low c) c.args.entry.low

pub returns-then-is_some : goal.returns-then-is_some
returns-then-is_some c h es D S =
    let l = line_of c.args.row.line in
    let s = state_in (goal.at.returns-then-is_some c).In_ok-state (names (h ∷ es)) (field 2 l) D.named S.state in
    let t = next_in (goal.at.returns-then-is_some c).In_ok-to (with_name (names (h ∷ es)) (field 2 l)) (field 4 l) s.2 S.next in
    let col : entry_column (h ∷ es) l ≡ c.args.entry.column = ap (λ (o : Option ℕ). unwrap_or o 0) S.column in
    let f = twice_is (goal.at.returns-then-is_some c).In_ok-state h es D S in
    telling _ _ _ _ _ c.refused-then-is_some.ensures
    (step_twice (h ∷ es) l (sym (halts_is (goal.at.returns-then-is_some c).After-halts h es D S) ∙ c.if-halts.false) s.0 t.0
    (leads_is (goal.at.returns-then-is_some c).After-leads_out h es D S ∙ c.if-leads_out.false)
    (ap (λ (n : ℕ). is_some (found (letters (h ∷ es)) (field 2 l) n es)) col ∙ sym f ∙ sym (ap is_some c.at.ensures) ∙ sym c.is_some.ensures ∙ c.if-is_some.true))

pub returns : goal.returns
returns c h es D S =
    let l = line_of c.args.row.line in
    let s = state_in (goal.at.returns c).In_ok-state (names (h ∷ es)) (field 2 l) D.named S.state in
    let t = next_in (goal.at.returns c).In_ok-to (with_name (names (h ∷ es)) (field 2 l)) (field 4 l) s.2 S.next in
    let col : entry_column (h ∷ es) l ≡ c.args.entry.column = ap (λ (o : Option ℕ). unwrap_or o 0) S.column in
    let way : entry_direction l ≡ direction_number c.args.entry.direction = ap (λ (o : Option ℕ). unwrap_or o 0) S.direction in
    let f : is_some (found (letters (h ∷ es)) (field 2 l) c.args.entry.column es) ≡ false = sym (twice_is (goal.at.returns c).In_ok-state h es D S) ∙ sym (ap is_some c.at.ensures) ∙ sym c.is_some.ensures ∙ c.if-is_some.false in (
      step_good (h ∷ es) l (sym (halts_is (goal.at.returns c).After-halts h es D S) ∙ c.if-halts.false) s.0 t.0
          (leads_is (goal.at.returns c).After-leads_out h es D S ∙ c.if-leads_out.false)
          (ap (λ (n : ℕ). is_some (found (letters (h ∷ es)) (field 2 l) n es)) col ∙ f),
      drawn_more h es l c.args.self.now D c.named-2.new.self c.in_ok-state.state c.args.entry.column c.args.row.number (record { to = c.in_ok-to.to; direction = c.args.entry.direction }) t.2 s.1 t.1 col way (low (goal.at.returns c).In_ok-state) c.args.entry.low (none_is (found (letters (h ∷ es)) (field 2 l) c.args.entry.column es) f) c.put.new.self c.put.ensures,
      refl,
    )
