-- The rule of a draft that lacks no column is the rule that the lines give.
use Rattle.std.proofs.Common.{◌≡◌, ℕ, ◌+◌, ◌<◌, ◌≤◌, true, false, cond, ◌||◌, eqb, List, [], ◌∷◌, length, get_or, Some, None, Option, unwrap_or, sym, refl, ap, ◌∙◌, inl, inr, arith}
use mathlib.Core.Path.{fun_ext}
use Rattle.std.specs.List.{slice_get}
use Rattle.std.specs.Str.{bytes_eq}
use Rattle.std.proofs.lemmas.Slice.Eq.{bytes_eq-Decides}
use Rattle.std.proofs.lemmas.Option.{slice_get-get_or, slice_get_past}
use Rattle.std.proofs.lemmas.Bool.{cases_Bool, cases_lt, or_parts, or_from, eqb-false, ne_eqb}
use Rattle.std.proofs.lemmas.Bool.Decides.{nat_tests, same_from_decides, Decides-eqb}
use Rattle.text.specs.Lines.{Line}
use Rattle.rules.specs.Steps.{automaton, at, stored, told, onward}
use Rattle.rules.specs.declared.rule.Move.{Move}
use Rattle.spelling.specs.Said.{field, names, letters, found, halts}
use Rattle.spelling.specs.Conditions.{lacks}
use Rattle.spelling.specs.Reading.{step_of, step_in, rule_of}
use Rattle.spelling.proofs.Wording.{letters_read}
use Rattle.spelling.proofs.Order.{placed_nth}
use Rattle.spelling.proofs.LoadNames.{none_some, place, state_is, apart_names}
use Rattle.spelling.proofs.LoadEntries.{step_none, any_true, any_lacking}
use Rattle.loading.specs.Cells.{cell}
use Rattle.loading.specs.Drawn.{given_for, settled, Gap, Drawn}
use Rattle.loading.specs.declared.draft.Draft.{Draft}

none_told : (o : Option Move) → told o ≡ None → o ≡ None
none_told None e = refl
none_told (Some m) e = absurd (none_some _ (sym e))

-- two automata with the same numbers and the same steps in range are one
same_automaton : (k m s t r : ℕ) (f g : ℕ → ℕ → ℕ × ℕ) → ((q c : ℕ) → q < k → c < m + 2 → f q c ≡ g q c) → automaton k m s t r f ≡ automaton k m s t r g
same_automaton k m s t r f g e =
    ap (λ (n : ℕ → ℕ → Option (ℕ × ℕ)). record { states = k; letters = m; start = s; accept = t; reject = r; next = n })
    (fun_ext (λ q. fun_ext (λ c. grind (arith, nat_tests, e q c))))

module _ (h : Line) (es : List Line) (x : Draft) (D : Drawn h es x) where
  letters_are : letters (h ∷ es) ≡ x.header.letters
  letters_are = ap (λ (o : Option ℕ). unwrap_or o 0) D.heads.letters

  pub few_letters : x.header.letters ≤ 16
  few_letters = (letters_read (field 2 h) x.header.letters D.heads.letters).1

  -- the q-th name is f exactly where q is the place of f
  test_is : (q i : ℕ) (y f : List ℕ) → slice_get (names (h ∷ es)) q ≡ Some y → place (names (h ∷ es)) f ≡ Some i → bytes_eq f y ≡ eqb q i
  test_is q i y f e p =
      same_from_decides (bytes_eq f y) (eqb q i) (
        (λ t.
            let o : ◌≡◌ {A = Option ℕ} (Some q) (Some i) = sym (apart_names (h ∷ es) q y e) ∙ ap (place (names (h ∷ es))) (sym ((bytes_eq-Decides f y).0 t)) ∙ p in
            let s : q ≡ i = cc in s),
        (λ w.
            let o : ◌≡◌ {A = Option (List ℕ)} (Some f) (Some y) = sym (placed_nth (names (h ∷ es)) f i p) ∙ ap (slice_get (names (h ∷ es))) (sym w) ∙ e in
            let s : f ≡ y = cc in (bytes_eq-Decides f y).1 s),
      )
      (Decides-eqb q i)

  halts_is : (q : ℕ) (y : List ℕ) → slice_get (names (h ∷ es)) q ≡ Some y → halts (h ∷ es) y ≡ (eqb q x.accept || eqb q x.reject)
  halts_is q y e = (λ i. test_is q x.accept y (field 4 h) e D.accept i || test_is q x.reject y (field 5 h) e D.reject i)

  cell_at : (q c : ℕ) (y : List ℕ) → q < 32 → c < 18 → slice_get (names (h ∷ es)) q ≡ Some y → told (cell x.steps.cells q c) ≡ step_of (names (h ∷ es)) (found (letters (h ∷ es)) y c es)
  cell_at q c y hq hc e = D.cells q c hq hc ∙ ap (given_for (names (h ∷ es)) (letters (h ∷ es)) es c) e

  module _ (k : ℕ) (count : k ≡ length (names (h ∷ es))) (few : k ≤ 32) where
    name_at : (q : ℕ) → q < k → slice_get (names (h ∷ es)) q ≡ Some (get_or (names (h ∷ es)) q [])
    name_at q l = slice_get-get_or (names (h ∷ es)) q [] (omega arith)

    pub gap_lacks : (q c : ℕ) → Gap x k q c → lacks (h ∷ es) ≡ true
    gap_lacks q c g =
        let y = get_or (names (h ∷ es)) q [] in
        let e = name_at q g.state in
        let z : halts (h ∷ es) y ≡ false = halts_is q y e ∙ or_from _ _ (ne_eqb q x.accept g.goes_on.0) (ne_eqb q x.reject g.goes_on.1) in
        let n : found (letters (h ∷ es)) y c es ≡ None = step_none (names (h ∷ es)) (found (letters (h ∷ es)) y c es) (sym (cell_at q c y (omega (arith, g.state)) (omega (arith, g.column, few_letters)) e) ∙ ap told g.none) in
        any_true (h ∷ es) (names (h ∷ es)) q y c e z (omega (arith, letters_are, g.column)) n

    some_low : (q : ℕ) (y : List ℕ) → slice_get (names (h ∷ es)) q ≡ Some y → q < k
    some_low q y e = elim (cases_lt q k) [
      | inl l ↦ l
      | inr l ↦ absurd (none_some y (sym (slice_get_past (names (h ∷ es)) q (omega arith)) ∙ e))
    ]

    -- where no column lacks
    module _ (full : (q c : ℕ) → Gap x k q c → ⊥) where
      pub none_lacks : lacks (h ∷ es) ≡ false
      none_lacks = elim (cases_Bool (lacks (h ∷ es))) [
        | inl t ↦
            let w = any_lacking (h ∷ es) (names (h ∷ es)) t in
            let l : w.state < k = some_low w.state w.name w.named in
            let z : (eqb w.state x.accept ≡ false) × (eqb w.state x.reject ≡ false) = or_parts _ _ (sym (halts_is w.state w.name w.named) ∙ w.goes_on) in
            let lc : w.column < x.header.letters + 2 = omega (arith, letters_are, w.low) in
            absurd (full w.state w.column (record {
              state = l;
              goes_on = (eqb-false w.state x.accept z.0, eqb-false w.state x.reject z.1);
              column = lc;
              none = none_told _ (cell_at w.state w.column w.name (omega arith) (omega (arith, few_letters)) w.named ∙ ap (step_of (names (h ∷ es))) w.none);
            }))
        | inr z ↦ z
      ]

    module _ (T : List (List (ℕ × ℕ))) (table : (q c : ℕ) → q < 32 → c < 18 → at T q c ≡ settled x q c) where
      step_is : (q c : ℕ) → q < k → c < x.header.letters + 2 → at T q c ≡ step_in (h ∷ es) q c
      step_is q c lq lc =
          let e = name_at q lq in
          table q c (omega arith) (omega (arith, few_letters))
          ∙ sym (λ i. cond (halts_is q (get_or (names (h ∷ es)) q []) e i) (q, onward (letters_are i) c) (unwrap_or (sym (cell_at q c (get_or (names (h ∷ es)) q []) (omega arith) (omega (arith, few_letters)) e) i) (0, 0)))

      pub rule_is : stored k x.header.letters x.start x.accept x.reject T ≡ rule_of (h ∷ es)
      rule_is =
          same_automaton k x.header.letters x.start x.accept x.reject (at T) (step_in (h ∷ es)) step_is
          ∙ (λ i. automaton (count i) (sym letters_are i) (sym (state_is (names (h ∷ es)) (field 3 h) x.start D.start) i) (sym (state_is (names (h ∷ es)) (field 4 h) x.accept D.accept) i) (sym (state_is (names (h ∷ es)) (field 5 h) x.reject D.reject) i) (step_in (h ∷ es)))
