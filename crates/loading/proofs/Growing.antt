-- The draft of line 1, and the draft after one more entry.
use Rattle.std.proofs.Common.{◌≡◌, ℕ, ◌<◌, Bool, true, false, cond, ◌&&◌, eqb, List, [], ◌∷◌, ◌++◌, map, get_or, replicate, is_some, Some, None, Option, unwrap_or, sym, refl, ap, ◌∙◌, subst, inl, inr}
use Rattle.std.specs.List.{slice_get}
use Rattle.std.specs.Str.{bytes_eq}
use Rattle.std.proofs.lemmas.Slice.Eq.{bytes_eq-Decides}
use Rattle.std.proofs.lemmas.List.{get_or-replicate}
use Rattle.std.proofs.lemmas.Bool.{cases_Bool, cases_eq, and_parts, and_from, eqb-true, eq-eqb, ne_eqb}
use Rattle.text.specs.Lines.{Line}
use Rattle.register.specs.Names.{as_name}
use Rattle.register.specs.Held.{held}
use Rattle.rules.specs.Steps.{direction_number, told}
use Rattle.rules.specs.declared.rule.Move.{Move}
use Rattle.spelling.specs.Words.{column_of}
use Rattle.spelling.specs.Said.{field, with_name, names, letters, is_for, found}
use Rattle.spelling.specs.Conditions.{entry_direction}
use Rattle.spelling.specs.Reading.{step_of}
use Rattle.spelling.proofs.LoadNames.{place, by_name, place_push, state_is, with_kept, nth_more, Apart, apart_names, names_more, Known, known_names, known_more}
use Rattle.spelling.proofs.Order.{placed_nth}
use Rattle.spelling.proofs.LoadEntries.{found_skip, found_last, step_kept, new_none, isSome_step}
use Rattle.loading.specs.Fields.{Heads}
use Rattle.loading.specs.Cells.{cell}
use Rattle.loading.specs.Drawn.{given, given_for, Drawn, DrawnBy}
use Rattle.loading.specs.declared.draft.Draft.{Draft}
use Rattle.loading.specs.declared.states.States.{States}
use Rattle.loading.specs.declared.steps.Steps.{Steps}

pub isSome_told : (o : Option Move) → is_some (told o) ≡ is_some o
isSome_told None = refl
isSome_told (Some m) = refl

-- one more name gives the same steps
module _ (ns : List (List ℕ)) (f : List ℕ) (m : ℕ) (es : List Line) (K : Known ns es) where
  kept_for : (c : ℕ) (o : Option (List ℕ)) → given_for (ns ++ f ∷ []) m es c o ≡ given_for ns m es c o
  kept_for c None = refl
  kept_for c (Some x) = step_kept ns (ns ++ f ∷ []) m es (λ y i e. place_push ns y f i e) K x c

  given_push : place ns f ≡ None → (q c : ℕ) → given (ns ++ f ∷ []) m es q c ≡ given ns m es q c
  given_push z q c = elim (nth_more ns f q) [
    | inl o ↦ ap (given_for (ns ++ f ∷ []) m es c) o ∙ kept_for c (slice_get ns q)
    | inr w ↦
        ap (given_for (ns ++ f ∷ []) m es c) w.2 ∙ ap (step_of (ns ++ f ∷ [])) (new_none ns f m es K z c)
        ∙ sym (ap (given_for ns m es c) w.1)
  ]

  pub given_with : (q c : ℕ) → given (with_name ns f) m es q c ≡ given ns m es q c
  given_with q c = by_name (λ (ks : List (List ℕ)). given ks m es q c ≡ given ns m es q c) ns f (λ _ _. refl) (λ z. given_push z q c)

-- one more entry gives one more step
module _ (ns : List (List ℕ)) (m : ℕ) (es : List Line) (l : Line) (A : Apart ns) (s c d : ℕ) (here : place ns (field 2 l) ≡ Some s) (col : unwrap_or (column_of m (field 3 l)) 0 ≡ c) where
  is_other : (q b : ℕ) (x : List ℕ) → slice_get ns q ≡ Some x → (q ≡ s → b ≡ c → ⊥) → is_for m x b l ≡ false
  is_other q b x e ne = elim (cases_Bool (is_for m x b l)) [
    | inl t ↦
        let p = and_parts (bytes_eq (field 2 l) x) (eqb (unwrap_or (column_of m (field 3 l)) 0) b) t in
        let y : field 2 l ≡ x = (bytes_eq-Decides (field 2 l) x).0 p.0 in
        let o : ◌≡◌ {A = Option ℕ} (Some q) (Some s) = sym (A q x e) ∙ ap (place ns) (sym y) ∙ here in
        let i : q ≡ s = cc in
        absurd (ne i (sym (eqb-true _ _ p.1) ∙ col))
    | inr z ↦ z
  ]

  other_for : (q b : ℕ) (o : Option (List ℕ)) → slice_get ns q ≡ o → (q ≡ s → b ≡ c → ⊥) → given_for ns m (es ++ l ∷ []) b o ≡ given_for ns m es b o
  other_for q b None e ne = refl
  other_for q b (Some x) e ne = ap (step_of ns) (found_skip m x b es l (is_other q b x e ne))

  pub given_other : (q b : ℕ) → (q ≡ s → b ≡ c → ⊥) → given ns m (es ++ l ∷ []) q b ≡ given ns m es q b
  given_other q b ne = other_for q b (slice_get ns q) refl ne

  pub given_here : found m (field 2 l) c es ≡ None → (p : ℕ) → place ns (field 4 l) ≡ Some p → entry_direction l ≡ d → given ns m (es ++ l ∷ []) s c ≡ Some (p, d)
  given_here n p to way =
      let t : is_for m (field 2 l) c l ≡ true = and_from _ _ ((bytes_eq-Decides (field 2 l) (field 2 l)).1 refl) (eq-eqb _ _ col) in
      ap (given_for ns m (es ++ l ∷ []) c) (placed_nth ns (field 2 l) s here)
      ∙ ap (step_of ns) (found_last m (field 2 l) c es l n t)
      ∙ (λ i. Some (state_is ns (field 4 l) p to i, way i))

-- the names after those of one more entry
abbrev pub with_two : List (List ℕ) → Line → List (List ℕ)
with_two ns l = with_name (with_name ns (field 2 l)) (field 4 l)

module _ (h : Line) (es : List Line) (l : Line) (x : Draft) (ns : List (List ℕ)) (A : Apart (with_two ns l)) (K : Known ns es) (D : DrawnBy ns h es x) where
  -- a step is given exactly where an entry is found
  found_by : (f : List ℕ) (s c : ℕ) → place (with_name ns f) f ≡ Some s → s < 32 → c < 18 → is_some (cell x.steps.cells s c) ≡ is_some (found (letters (h ∷ [])) f c es)
  found_by f s c e hs hc =
      sym (isSome_told (cell x.steps.cells s c))
      ∙ ap is_some (D.cells s c hs hc ∙ sym (given_with ns f (letters (h ∷ [])) es K s c) ∙ ap (given_for (with_name ns f) (letters (h ∷ [])) es c) (placed_nth (with_name ns f) f s e))
      ∙ isSome_step (with_name ns f) (found (letters (h ∷ [])) f c es)

  kept : (f : List ℕ) (i : ℕ) → place ns f ≡ Some i → place (with_two ns l) f ≡ Some i
  kept f i e = with_kept (with_name ns (field 2 l)) (field 4 l) f i (with_kept ns (field 2 l) f i e)

  grown : (q c : ℕ) → given (with_two ns l) (letters (h ∷ [])) es q c ≡ given ns (letters (h ∷ [])) es q c
  grown q c =
      given_with (with_name ns (field 2 l)) (field 4 l) (letters (h ∷ [])) es (known_more ns (field 2 l) es K) q c
      ∙ given_with ns (field 2 l) (letters (h ∷ [])) es K q c

  module _ (s c : ℕ) (m : Move) (from : place (with_name ns (field 2 l)) (field 2 l) ≡ Some s) (to : place (with_two ns l) (field 4 l) ≡ Some m.to) (col : unwrap_or (column_of (letters (h ∷ [])) (field 3 l)) 0 ≡ c) (way : entry_direction l ≡ direction_number m.direction)
      (low : s < 32) (cols : c < 18) (free : found (letters (h ∷ [])) (field 2 l) c es ≡ None)
      (T : Steps) (put : (q b : ℕ) → cell T.cells q b ≡ cond (eqb q s && eqb b c) (Some m) (cell x.steps.cells q b)) where
    here : place (with_two ns l) (field 2 l) ≡ Some s
    here = with_kept (with_name ns (field 2 l)) (field 4 l) (field 2 l) s from

    put_as : (q b : ℕ) (t : Bool) → (eqb q s && eqb b c) ≡ t → told (cell T.cells q b) ≡ told (cond t (Some m) (cell x.steps.cells q b))
    put_as q b t e = ap told (put q b ∙ ap (λ w. cond w (Some m) (cell x.steps.cells q b)) e)

    old_cell : (q b : ℕ) → q < 32 → b < 18 → (eqb q s && eqb b c) ≡ false → (q ≡ s → b ≡ c → ⊥) → told (cell T.cells q b) ≡ given (with_two ns l) (letters (h ∷ [])) (es ++ l ∷ []) q b
    old_cell q b hq hb e ne =
        put_as q b false e
        ∙ D.cells q b hq hb ∙ sym (grown q b)
        ∙ sym (given_other (with_two ns l) (letters (h ∷ [])) es l A s c (direction_number m.direction) here col q b ne)

    cells_are : (q b : ℕ) → q < 32 → b < 18 → told (cell T.cells q b) ≡ given (with_two ns l) (letters (h ∷ [])) (es ++ l ∷ []) q b
    cells_are q b hq hb = elim (cases_eq q s) [
      | inl e ↦ elim (cases_eq b c) [
        | inl f ↦
            put_as q b true (and_from _ _ (eq-eqb q s e) (eq-eqb b c f))
            ∙ sym ((λ i. given (with_two ns l) (letters (h ∷ [])) (es ++ l ∷ []) (e i) (f i)) ∙ given_here (with_two ns l) (letters (h ∷ [])) es l A s c (direction_number m.direction) here col free m.to to way)
        | inr n ↦ old_cell q b hq hb ((λ i. eq-eqb q s e i && eqb b c) ∙ ne_eqb b c n) (λ _ f. n f)
      ]
      | inr n ↦ old_cell q b hq hb (λ i. ne_eqb q s n i && eqb b c) (λ e _. n e)
    ]

    more : (S : States) (n : ℕ) → held S.names ≡ map as_name (with_two ns l)
        → DrawnBy (with_two ns l) h (es ++ l ∷ []) (record { header = x.header; states = S; start = x.start; accept = x.accept; reject = x.reject; steps = T; lines = n })
    more S n N = record {
      heads = D.heads;
      named = N;
      start = kept (field 3 h) x.start D.start;
      accept = kept (field 4 h) x.accept D.accept;
      reject = kept (field 5 h) x.reject D.reject;
      cells = cells_are;
    }

-- the same of the names on the lines
module _ (h : Line) (es : List Line) (l : Line) (x : Draft) (D : Drawn h es x) where
  apart : Apart (with_two (names (h ∷ es)) l)
  apart = subst Apart (names_more h es l) (apart_names (h ∷ (es ++ l ∷ [])))

  pub found_cell : (s c : ℕ) → place (with_name (names (h ∷ es)) (field 2 l)) (field 2 l) ≡ Some s → s < 32 → c < 18 → is_some (cell x.steps.cells s c) ≡ is_some (found (letters (h ∷ es)) (field 2 l) c es)
  found_cell = found_by h es l x (names (h ∷ es)) apart (known_names h es) D (field 2 l)

  pub drawn_more : (S : States) (s c n : ℕ) (m : Move) → held S.names ≡ map as_name (with_two (names (h ∷ es)) l)
      → place (with_name (names (h ∷ es)) (field 2 l)) (field 2 l) ≡ Some s → place (with_two (names (h ∷ es)) l) (field 4 l) ≡ Some m.to → unwrap_or (column_of (letters (h ∷ es)) (field 3 l)) 0 ≡ c → entry_direction l ≡ direction_number m.direction
      → s < 32 → c < 18 → found (letters (h ∷ es)) (field 2 l) c es ≡ None
      → (T : Steps) → ((q b : ℕ) → cell T.cells q b ≡ cond (eqb q s && eqb b c) (Some m) (cell x.steps.cells q b))
      → Drawn h (es ++ l ∷ []) (record { header = x.header; states = S; start = x.start; accept = x.accept; reject = x.reject; steps = T; lines = n })
  drawn_more S s c n m N from to col way low cols free T put =
      subst (λ (ks : List (List ℕ)). DrawnBy ks h (es ++ l ∷ []) (record { header = x.header; states = S; start = x.start; accept = x.accept; reject = x.reject; steps = T; lines = n })) (sym (names_more h es l))
      (more h es l x (names (h ∷ es)) apart (known_names h es) D s c m from to col way low cols free T put S n N)

none_given : (ns : List (List ℕ)) (m c : ℕ) (o : Option (List ℕ)) → given_for ns m [] c o ≡ None
none_given ns m c None = refl
none_given ns m c (Some x) = refl

-- the draft of line 1
pub drawn_first : (h : Line) (x : Draft) → Heads h x.header → held x.states.names ≡ map as_name (names (h ∷ []))
    → place (with_name [] (field 3 h)) (field 3 h) ≡ Some x.start
    → place (with_name (with_name [] (field 3 h)) (field 4 h)) (field 4 h) ≡ Some x.accept
    → place (names (h ∷ [])) (field 5 h) ≡ Some x.reject
    → x.steps.cells ≡ replicate 32 (replicate 18 None) → Drawn h [] x
drawn_first h x H N s t r e =
    let first = with_name [] (field 3 h) in
    let second = with_name first (field 4 h) in
    record {
      heads = H;
      named = N;
      start = with_kept second (field 5 h) (field 3 h) x.start (with_kept first (field 4 h) (field 3 h) x.start s);
      accept = with_kept second (field 5 h) (field 4 h) x.accept t;
      reject = r;
      cells = λ q c hq hc.
          ap (λ (xs : List (List (Option Move))). told (cell xs q c)) e
          ∙ ap (λ (r : List (Option Move)). told (get_or r c None)) (get_or-replicate 32 q (replicate 18 None) [] hq)
          ∙ ap told (get_or-replicate 18 c None None hc)
          ∙ sym (none_given (names (h ∷ [])) (letters (h ∷ [])) c (slice_get (names (h ∷ [])) q));
    }
