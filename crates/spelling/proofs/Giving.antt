-- The rule of the lines is the one rule that the sheet gives, and it is lawful. Assumes nothing.
use Rattle.std.proofs.Common.{◌≡◌, ℕ, zero, suc, ◌+◌, ◌<◌, false, ◌⊎◌, List, [], ◌∷◌, length, get_or, Some, Option, unwrap_or, sym, refl, ap, ◌∙◌, subst, inl, inr, arith}
use Rattle.std.specs.List.{AllByRecursion, slice_get}
use Rattle.std.specs.Str.{bytes_eq}
use Rattle.std.proofs.lemmas.Slice.Eq.{bytes_eq-Decides}
use Rattle.std.proofs.lemmas.Option.{slice_get-get_or}
use Rattle.std.proofs.lemmas.Bool.{cases_Bool, cases_lt, both_ways, and_from, and_left, and_right, lt-ltb, le-ltb, cond-true, cond-false}
use Rattle.text.specs.Lines.{Line}
use Rattle.two_way.specs.Automaton.{Automaton, Lawful, Keeps, right_end as right_column, Way, L, R}
use Rattle.rules.specs.Steps.{onward}
use Rattle.register.specs.Keys.{Differ}
use Rattle.spelling.specs.Said.{field, names, state_of, letters, halts, entry_for}
use Rattle.spelling.specs.Conditions.{entry_direction}
use Rattle.spelling.specs.Reading.{step_of, step_in, rule_of}
use Rattle.spelling.specs.Spells.{Column, left_end, right_end, letter, Entry, Sheet, said, all_names, order, column_number, way_number, Halting, Turning, Allowed, EntryAt, Proper, Numbered, Gives}
use Rattle.spelling.proofs.Order.{In, nth_in, nth_one, state_is, getD_is, one_place, has_order, order_differ}
use Rattle.spelling.proofs.Wording.{column_below, right_way}
use Rattle.spelling.proofs.Linewise.{Heads, some_is}
use Rattle.spelling.proofs.Sheetwise.{AllSay, found_some}
use Rattle.spelling.proofs.Properly.{letters_is, halts_so, going, entry_at, found_is, found_at, order_is}

all_at : {X : Type 0} (Q : X → Type 0) (xs : List X) → AllByRecursion Q xs → (i : ℕ) (x : X) → slice_get xs i ≡ Some x → Q x
all_at Q [] a i x e = absurd (let z : ◌≡◌ {A = ℕ} 0 1 = cc in omega arith)
all_at Q (y ∷ xs) a zero x e = let same : y ≡ x = cc in subst Q same a.0
all_at Q (y ∷ xs) a (suc i) x e = all_at Q xs a.1 i x e

next_said : (es : List Entry) (i : ℕ) (e : Entry) → slice_get es i ≡ Some e → In e.next (said es)
next_said [] i e n = absurd (let z : ◌≡◌ {A = ℕ} 0 1 = cc in omega arith)
next_said (d ∷ es) zero e n = let same : d ≡ e = cc in (1, ap (λ (x : Entry). Some x.next) same)
next_said (d ∷ es) (suc i) e n = let w = next_said es i e n in (suc (suc w.0), w.1)

module _ (S : Sheet) where
  distinct : Differ (order S)
  distinct = order_differ (all_names S)

  start_in : In S.start (order S)
  start_in = has_order [] (all_names S) S.start 0 refl

  accept_in : In S.accept (order S)
  accept_in = has_order [] (all_names S) S.accept 1 refl

  reject_in : In S.reject (order S)
  reject_in = has_order [] (all_names S) S.reject 2 refl

  next_in : (x : List ℕ) (c i : ℕ) (e : EntryAt S x c i) → In e.entry.next (order S)
  next_in x c i e =
      let w = next_said S.entries i e.entry e.at in
      has_order [] (all_names S) e.entry.next (suc (suc (suc w.0))) w.1

  -- whose name a state has
  abbrev Named : List ℕ → Type 0
  Named x = (x ≡ S.accept) ⊎ ((x ≡ S.reject) ⊎ (Halting S x → ⊥))

  named : (x : List ℕ) → Named x
  named x = elim (cases_Bool (bytes_eq x S.accept)) [
    | inl t ↦ inl ((bytes_eq-Decides x S.accept).0 t)
    | inr y ↦ elim (cases_Bool (bytes_eq x S.reject)) [
      | inl t ↦ inr (inl ((bytes_eq-Decides x S.reject).0 t))
      | inr z ↦ inr (inr (neither y z))
    ]
  ]
    where
      neither : bytes_eq x S.accept ≡ false → bytes_eq x S.reject ≡ false → Halting S x → ⊥
      neither y z (inl e) = both_ways _ y ((bytes_eq-Decides x S.accept).1 e)
      neither y z (inr e) = both_ways _ z ((bytes_eq-Decides x S.reject).1 e)

  name_at : (q : ℕ) → q < length (order S) → (x : List ℕ) × Numbered S x q
  name_at q l = (get_or (order S) q [], slice_get-get_or (order S) q [] l)

  -- the direction of an entry: some way, the ends' own at the ends
  pub record Directed (m c d : ℕ) : Type 0 where
    pub two : d < 2
    pub at_left : c ≡ m → d ≡ 1
    pub at_right : c ≡ m + 1 → d ≡ 0

  way_two : (w : Way) → way_number w < 2
  way_two L = omega arith
  way_two R = omega arith

  directed : (m : ℕ) (k : Column) (w : Way) → Turning m k w → Directed m (column_number m k) (way_number w)
  directed m left_end w t = record { two = way_two w; at_left = λ e. ap way_number t; at_right = λ e. let no : ⊥ = omega arith in absurd no }
  directed m right_end w t = record { two = way_two w; at_left = λ e. let no : ⊥ = omega arith in absurd no; at_right = λ e. ap way_number t }
  directed m (letter n) w t = record { two = way_two w; at_left = λ e. let no : ⊥ = omega arith in absurd no; at_right = λ e. let no : ⊥ = omega arith in absurd no }

  -- what the step of a state at a column is
  pub record Cell (A : Automaton) (q c : ℕ) : Type 0 where
    pub to : ℕ
    pub direction : ℕ
    pub next : A.next q c ≡ Some (to, direction)
    pub to_in : to < A.states
    pub directed_so : Directed A.letters c direction

  module _ (P : Proper S) where
    numbered_in : (A : Automaton) (G : Gives S A) (x : List ℕ) (q : ℕ) → Numbered S x q → q < A.states
    numbered_in A G x q n = omega (arith, nth_in (order S) q x n, G.states)

    keeps_cell : (A : Automaton) (t : ℕ) → Keeps A t → t < A.states → (c : ℕ) → c < A.letters + 2 → Cell A t c
    keeps_cell A t K l c h = elim (cases_lt c (right_column A)) [
      | inl k ↦ record {
        to = t;
        direction = 1;
        next = K.on c k;
        to_in = l;
        directed_so = record { two = omega arith; at_left = λ e. refl; at_right = λ e. let no : ⊥ = omega arith in absurd no };
      }
      | inr g ↦
          let same : right_column A ≡ c = omega arith in
          record {
            to = t;
            direction = 0;
            next = subst (λ (d : ℕ). A.next t d ≡ Some (t, 0)) same K.at_right;
            to_in = l;
            directed_so = record { two = omega arith; at_left = λ e. let no : ⊥ = omega arith in absurd no; at_right = λ e. refl };
          }
    ]

    -- the step that an entry gives
    entry_cell : (A : Automaton) (G : Gives S A) (x : List ℕ) (q c i : ℕ) → Numbered S x q → EntryAt S x c i → Cell A q c
    entry_cell A G x q c i n e =
        let p = next_in x c i e in
        let ok = all_at (Allowed S) S.entries P.allowed i e.entry e.at in
        record {
          to = p.0;
          direction = way_number e.entry.way;
          next = G.step x c i q p.0 e n p.1;
          to_in = numbered_in A G e.entry.next p.0 p.1;
          directed_so = subst (λ (m : ℕ). Directed m c (way_number e.entry.way)) (sym G.letters)
              (subst (λ (d : ℕ). Directed S.letters d (way_number e.entry.way)) e.column (directed S.letters e.entry.column e.entry.way ok.turns));
        }

    halt_cell : (A : Automaton) (x : List ℕ) (q t c : ℕ) → Numbered S x q → Numbered S x t → Keeps A t → t < A.states → c < A.letters + 2 → Cell A q c
    halt_cell A x q t c n k K l h = subst (λ (p : ℕ). Cell A p c) (one_place (order S) x t q distinct k n) (keeps_cell A t K l c h)

    cell : (A : Automaton) (G : Gives S A) (q c : ℕ) → q < A.states → c < A.letters + 2 → Cell A q c
    cell A G q c l h =
        let w = name_at q (omega (arith, G.states)) in
        elim (named w.0) [
          | inl e ↦ halt_cell A S.accept q A.accept c (w.1 ∙ ap Some e) G.accept G.accepts (numbered_in A G S.accept A.accept G.accept) h
          | inr (inl e) ↦ halt_cell A S.reject q A.reject c (w.1 ∙ ap Some e) G.reject G.rejects (numbered_in A G S.reject A.reject G.reject) h
          | inr (inr k) ↦
              let r = P.each w.0 q c w.1 k (omega (arith, G.letters)) in
              entry_cell A G w.0 q c r.0 w.1 r.1
        ]

    some_step : (o : Option (ℕ × ℕ)) (a b c d : ℕ) → o ≡ Some (a, b) → o ≡ Some (c, d) → (a ≡ c) × (b ≡ d)
    some_step o a b c d e f =
        let same : ◌≡◌ {A = ℕ × ℕ} (a, b) (c, d) = cc in
        (ap (λ (v : ℕ × ℕ). v.0) same, ap (λ (v : ℕ × ℕ). v.1) same)

    -- a step is one within the states and the columns
    inside : (A : Automaton) (G : Gives S A) (q c p d : ℕ) → A.next q c ≡ Some (p, d) → (q < A.states) × (c < A.letters + 2)
    inside A G q c p d e = (
      elim (cases_lt q A.states) [
        | inl l ↦ l
        | inr g ↦ absurd (let n = G.past_states q c g in let z : ◌≡◌ {A = ℕ} 0 1 = cc in omega arith)
      ],
      elim (cases_lt c (A.letters + 2)) [
        | inl l ↦ l
        | inr g ↦ absurd (let n = G.past_columns q c g in let z : ◌≡◌ {A = ℕ} 0 1 = cc in omega arith)
      ],
    )

    stepped : (A : Automaton) (G : Gives S A) (q c p d : ℕ) → A.next q c ≡ Some (p, d) → (p < A.states) × Directed A.letters c d
    stepped A G q c p d e =
        let w = inside A G q c p d e in
        let r = cell A G q c w.0 w.1 in
        let same = some_step (A.next q c) r.to r.direction p d r.next e in
        (omega (arith, r.to_in, same.0), subst (Directed A.letters c) same.1 r.directed_so)

    two_states : (A : Automaton) (G : Gives S A) → A.accept ≡ A.reject → ⊥
    two_states A G e = P.apart (nth_one (slice_get (order S) A.accept) S.accept S.reject G.accept (ap (slice_get (order S)) e ∙ G.reject))

    pub gives_lawful : (A : Automaton) → Gives S A → Lawful A
    gives_lawful A G =
        let t = numbered_in A G S.accept A.accept G.accept in
        let r = numbered_in A G S.reject A.reject G.reject in
        record {
          states_low = elim (cases_lt A.states 2) [
            | inl l ↦ absurd (two_states A G (omega arith))
            | inr g ↦ g
          ];
          states_high = omega (arith, G.states, P.few);
          letters_low = omega (arith, G.letters, P.letters_low);
          letters_high = omega (arith, G.letters, P.letters_high);
          start_in = numbered_in A G S.start A.start G.start;
          accept_in = t;
          reject_in = r;
          apart = two_states A G;
          inside = λ q c l h n. let w = cell A G q c l h in let e = w.next in let z : ◌≡◌ {A = ℕ} 0 1 = cc in omega arith;
          past_states = G.past_states;
          past_columns = G.past_columns;
          state_in = λ q c p d e. (stepped A G q c p d e).0;
          direction_in = λ q c p d e. (stepped A G q c p d e).1.two;
          at_left = λ q p d e. (stepped A G q A.letters p d e).1.at_left refl;
          at_right = λ q p d e. (stepped A G q (A.letters + 1) p d e).1.at_right refl;
          accept_keeps = G.accepts;
          reject_keeps = G.rejects;
        }

    -- two rules that the sheet gives are one
    keeps_same : (A B : Automaton) (q : ℕ) → A.letters ≡ B.letters → Keeps A q → Keeps B q → (c : ℕ) → c < A.letters + 2 → A.next q c ≡ B.next q c
    keeps_same A B q m K J c h = elim (cases_lt c (right_column A)) [
      | inl k ↦ K.on c k ∙ sym (J.on c (omega arith))
      | inr g ↦
          let a : right_column A ≡ c = omega arith in
          let b : right_column B ≡ c = omega arith in
          subst (λ (d : ℕ). A.next q d ≡ Some (q, 0)) a K.at_right ∙ sym (subst (λ (d : ℕ). B.next q d ≡ Some (q, 0)) b J.at_right)
    ]

    module _ (A B : Automaton) (G : Gives S A) (J : Gives S B) where
      same_states : A.states ≡ B.states
      same_states = G.states ∙ sym J.states

      same_letters : A.letters ≡ B.letters
      same_letters = G.letters ∙ sym J.letters

      halt_same : (x : List ℕ) (q t r : ℕ) → Numbered S x q → Numbered S x t → Numbered S x r → Keeps A t → Keeps B r → (c : ℕ) → c < A.letters + 2 → A.next q c ≡ B.next q c
      halt_same x q t r n k j K M c h =
          keeps_same A B q same_letters (subst (Keeps A) (one_place (order S) x t q distinct k n) K) (subst (Keeps B) (one_place (order S) x r q distinct j n) M) c h

      inner_same : (q c : ℕ) → q < A.states → c < A.letters + 2 → A.next q c ≡ B.next q c
      inner_same q c l h =
          let w = name_at q (omega (arith, G.states)) in
          elim (named w.0) [
            | inl e ↦ halt_same S.accept q A.accept B.accept (w.1 ∙ ap Some e) G.accept J.accept G.accepts J.accepts c h
            | inr (inl e) ↦ halt_same S.reject q A.reject B.reject (w.1 ∙ ap Some e) G.reject J.reject G.rejects J.rejects c h
            | inr (inr k) ↦
                let r = P.each w.0 q c w.1 k (omega (arith, G.letters)) in
                let p = next_in w.0 c r.0 r.1 in
                G.step w.0 c r.0 q p.0 r.1 w.1 p.1 ∙ sym (J.step w.0 c r.0 q p.0 r.1 w.1 p.1)
          ]

      same_next : (q c : ℕ) → A.next q c ≡ B.next q c
      same_next q c = elim (cases_lt q A.states) [
        | inl l ↦ elim (cases_lt c (A.letters + 2)) [
          | inl h ↦ inner_same q c l h
          | inr g ↦ G.past_columns q c g ∙ sym (J.past_columns q c (omega (arith, same_letters)))
        ]
        | inr g ↦ G.past_states q c g ∙ sym (J.past_states q c (omega (arith, same_states)))
      ]

      pub gives_one : A ≡ B
      gives_one =
          let start = one_place (order S) S.start A.start B.start distinct G.start J.start in
          let accept = one_place (order S) S.accept A.accept B.accept distinct G.accept J.accept in
          let reject = one_place (order S) S.reject A.reject B.reject distinct G.reject J.reject in
          λ i. record {
            states = same_states i;
            letters = same_letters i;
            start = start i;
            accept = accept i;
            reject = reject i;
            next = λ q c. same_next q c i;
          }

-- the rule of the lines that say a proper sheet
module _ (h : Line) (S : Sheet) (H : Heads h S) (ls : List Line) (a : AllSay S.letters ls S.entries) (P : Proper S) where
  state_in : (x : List ℕ) (q : ℕ) → Numbered S x q → state_of (names (h ∷ ls)) x ≡ q
  state_in x q n = ap (λ (ns : List (List ℕ)). state_of ns x) (order_is h S H ls a) ∙ state_is (order S) x q (distinct S) n

  numbered : (x y : List ℕ) → y ≡ x → In x (order S) → Numbered S x (state_of (names (h ∷ ls)) y)
  numbered x y e w = subst (Numbered S x) (sym (ap (state_of (names (h ∷ ls))) e ∙ state_in x w.0 w.1)) w.1

  name_is : (x : List ℕ) (q : ℕ) → Numbered S x q → get_or (names (h ∷ ls)) q [] ≡ x
  name_is x q n = ap (λ (ns : List (List ℕ)). get_or ns q []) (order_is h S H ls a) ∙ getD_is (order S) x q n

  next_is : (x : List ℕ) (q c : ℕ) → Numbered S x q → c < S.letters + 2 → (rule_of (h ∷ ls)).next q c ≡ Some (step_in (h ∷ ls) q c)
  next_is x q c n l =
      cond-true _ _ _ (and_from _ _
      (lt-ltb q _ (omega (arith, nth_in (order S) q x n, ap length (order_is h S H ls a))))
      (lt-ltb c _ (omega (arith, letters_is h S H ls))))

  keep_is : (x : List ℕ) (q c : ℕ) → Numbered S x q → Halting S x → step_in (h ∷ ls) q c ≡ (q, onward (letters (h ∷ ls)) c)
  keep_is x q c n k = cond-true _ _ _ (ap (halts (h ∷ ls)) (name_is x q n) ∙ halts_so h S H ls x k)

  step_is : (x : List ℕ) (q c : ℕ) (l : Line) → Numbered S x q → (Halting S x → ⊥) → entry_for (h ∷ ls) x c ≡ Some l → step_in (h ∷ ls) q c ≡ (state_of (names (h ∷ ls)) (field 4 l), entry_direction l)
  step_is x q c l n k e =
      cond-false _ _ _ (ap (halts (h ∷ ls)) (name_is x q n) ∙ going h S H ls x k)
      ∙ ap (λ (o : Option Line). unwrap_or (step_of (names (h ∷ ls)) o) (0, 0)) (ap (λ (y : List ℕ). entry_for (h ∷ ls) y c) (name_is x q n) ∙ e)

  given_step : (x : List ℕ) (c i q p : ℕ) (e : EntryAt S x c i) → Numbered S x q → Numbered S e.entry.next p → (rule_of (h ∷ ls)).next q c ≡ Some (p, way_number e.entry.way)
  given_step x c i q p e n k =
      let ok = all_at (Allowed S) S.entries P.allowed i e.entry e.at in
      let range = (right_way S.letters e.entry.column e.entry.way ok.turns).0 in
      let some = some_is (entry_for (h ∷ ls) x c) (found_at h S H ls a x c i e) in
      let f = found_some S.letters ls S.entries x c some.0 a (sym (found_is h S H ls x c) ∙ some.1) in
      let same : f.place ≡ i = P.once x c f.place i (entry_at h S H x c some.0 f) e in
      let this : f.entry ≡ e.entry = nth_one (slice_get S.entries i) f.entry e.entry (ap (slice_get S.entries) (sym same) ∙ f.at) e.at in
      let to : state_of (names (h ∷ ls)) (field 4 some.0) ≡ p = ap (state_of (names (h ∷ ls))) (f.says.next ∙ ap (λ (d : Entry). d.next) this) ∙ state_in e.entry.next p k in
      let way : entry_direction some.0 ≡ way_number e.entry.way = ap (λ (o : Option ℕ). unwrap_or o 0) f.says.way ∙ ap (λ (d : Entry). way_number d.way) this in
      next_is x q c n (omega (arith, e.column, column_below S.letters e.entry.column range))
      ∙ (ap Some (step_is x q c some.0 n (λ t. ok.goes_on (subst (Halting S) (sym e.state) t)) some.1)
      ∙ λ j. Some (to j, way j))

  keeps : (x : List ℕ) (t : ℕ) → Numbered S x t → Halting S x → Keeps (rule_of (h ∷ ls)) t
  keeps x t n k =
      let m = letters_is h S H ls in
      record {
        on = λ c l. next_is x t c n (omega arith) ∙ ap Some (keep_is x t c n k ∙ ap (λ (d : ℕ). (t, d)) (cond-true _ _ _ (lt-ltb c _ l)));
        at_right = next_is x t (letters (h ∷ ls) + 1) n (omega arith) ∙ ap Some (keep_is x t (letters (h ∷ ls) + 1) n k ∙ ap (λ (d : ℕ). (t, d)) (cond-false _ _ _ (le-ltb (letters (h ∷ ls) + 1) (letters (h ∷ ls) + 1) (omega arith))));
      }

  pub lines_give : Gives S (rule_of (h ∷ ls))
  lines_give =
      let accept = numbered S.accept (field 4 h) H.accept (accept_in S) in
      let reject = numbered S.reject (field 5 h) H.reject (reject_in S) in
      record {
        states = ap length (order_is h S H ls a);
        letters = letters_is h S H ls;
        start = numbered S.start (field 3 h) H.start (start_in S);
        accept = accept;
        reject = reject;
        step = given_step;
        accepts = keeps S.accept _ accept (inl refl);
        rejects = keeps S.reject _ reject (inr refl);
        past_states = λ q c l. cond-false _ _ _ (and_left _ _ (le-ltb q _ l));
        past_columns = λ q c l. cond-false _ _ _ (and_right _ _ (le-ltb c _ l));
      }
