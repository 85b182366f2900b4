-- A sheet keeps its rules exactly when the lines that say it meet no condition. Assumes nothing.
use Rattle.std.proofs.Common.{◌≡◌, ℕ, zero, suc, ◌+◌, ◌<◌, ◌≤◌, true, false, not, ◌&&◌, ◌||◌, List, [], ◌∷◌, ◌++◌, length, is_some, Some, None, Option, unwrap_or, sym, refl, ap, ◌∙◌, subst, inl, inr, append_assoc, le_of_suc-le-suc, not-suc-le-zero, arith}
use Rattle.std.specs.List.{AllByRecursion, slice_get}
use Rattle.std.specs.Str.{bytes_eq}
use Rattle.std.proofs.lemmas.Slice.Eq.{bytes_eq-Decides}
use Rattle.std.proofs.lemmas.List.{append-nil, length_push}
use Rattle.std.proofs.lemmas.Bool.{cases_Bool, cases_lt, cases_order, both_ways, or_cases, or_parts, or_from, or_left, or_right, and_cases, and_left, and_right, not-false, not_from_true, false≢true, le-ltb}
use Rattle.text.specs.Lines.{Line}
use Rattle.spelling.specs.Words.{is_name, column_of}
use Rattle.spelling.specs.Said.{field, with_name, in_order, names, letters, halts, found, entry_for}
use Rattle.spelling.specs.Conditions.{wrong_way, entry_column, entry_direction, one_too_many, lacks_below, any_lacks, lacks}
use Rattle.spelling.specs.Spells.{Entry, Sheet, Name, said, order, column_number, way_number, Halting, Allowed, EntryAt, Proper, Numbered}
use Rattle.spelling.proofs.First.{option}
use Rattle.spelling.proofs.Order.{nth_in, order_more, more_order, more_with}
use Rattle.spelling.proofs.Wording.{turns, right_way}
use Rattle.spelling.proofs.Linewise.{Says, Heads, some_is, name_is}
use Rattle.spelling.proofs.Sheetwise.{AllSay, say_more, say_names, said_more, Found, For, found_some, found_none, column_said, Fine, FineFrom}

none_is : {X : Type 0} (o : Option X) → is_some o ≡ false → o ≡ None
none_is None e = refl
none_is (Some x) e = absurd (false≢true (sym e))

none_test : {X : Type 0} (o : Option X) → o ≡ None → is_some o ≡ false
none_test o e = ap is_some e

nth_left : {X : Type 0} (xs ys : List X) (i : ℕ) → i < length xs → slice_get (xs ++ ys) i ≡ slice_get xs i
nth_left [] ys i l = absurd (not-suc-le-zero l)
nth_left (x ∷ xs) ys zero l = refl
nth_left (x ∷ xs) ys (suc i) l = nth_left xs ys i (le_of_suc-le-suc l)

nth_here : {X : Type 0} (xs : List X) (y : X) (ys : List X) → slice_get (xs ++ (y ∷ ys)) (length xs) ≡ Some y
nth_here [] y ys = refl
nth_here (x ∷ xs) y ys = nth_here xs y ys

-- no column below a number lacks, by the entries found
filled_below : (ls : List Line) (x : List ℕ) (n : ℕ) → lacks_below ls x n ≡ false → (c : ℕ) → c < n → is_some (entry_for ls x c) ≡ true
filled_below ls x zero e c l = absurd (not-suc-le-zero l)
filled_below ls x (suc n) e c l =
    let p = or_parts (not (is_some (entry_for ls x n))) (lacks_below ls x n) e in
    elim (cases_lt c n) [
      | inl k ↦ filled_below ls x n p.1 c k
      | inr g ↦ let same : c ≡ n = omega arith in subst (λ (d : ℕ). is_some (entry_for ls x d) ≡ true) (sym same) (not-false _ p.0)
    ]

below_filled : (ls : List Line) (x : List ℕ) (n : ℕ) → ((c : ℕ) → c < n → is_some (entry_for ls x c) ≡ true) → lacks_below ls x n ≡ false
below_filled ls x zero f = refl
below_filled ls x (suc n) f =
    or_from _ _ (not_from_true _ (f n (omega arith))) (below_filled ls x n (λ c l. f c (omega arith)))

none_any : (ls : List Line) (xs : List (List ℕ)) → any_lacks ls xs ≡ false → (q : ℕ) (x : List ℕ) → slice_get xs q ≡ Some x → halts ls x ≡ false → lacks_below ls x (letters ls + 2) ≡ false
none_any ls [] e q x n g = absurd (let z : ◌≡◌ {A = ℕ} 0 1 = cc in omega arith)
none_any ls (y ∷ xs) e zero x n g =
    let same : y ≡ x = cc in
    let p = or_parts _ _ e in
    elim (and_cases _ _ (subst (λ (v : List ℕ). (not (halts ls v) && lacks_below ls v (letters ls + 2)) ≡ false) same p.0)) [
      | inl k ↦ absurd (both_ways _ g (not-false _ k))
      | inr k ↦ k
    ]
none_any ls (y ∷ xs) e (suc q) x n g = none_any ls xs (or_parts _ _ e).1 q x n g

any_none : (ls : List Line) (xs : List (List ℕ)) → ((q : ℕ) (x : List ℕ) → slice_get xs q ≡ Some x → halts ls x ≡ false → lacks_below ls x (letters ls + 2) ≡ false) → any_lacks ls xs ≡ false
any_none ls [] f = refl
any_none ls (y ∷ xs) f =
    or_from _ _
    (elim (cases_Bool (halts ls y)) [
      | inl t ↦ and_left _ _ (not_from_true _ t)
      | inr z ↦ and_right _ _ (f 0 y refl z)
    ])
    (any_none ls xs (λ q x n. f (suc q) x n))

module _ (h : Line) (S : Sheet) (H : Heads h S) where
  pub letters_is : (ls : List Line) → letters (h ∷ ls) ≡ S.letters
  letters_is ls = ap (λ (o : Option ℕ). unwrap_or o 0) H.letters

  pub names_are : (ls : List Line) (es : List Entry) → AllSay S.letters ls es → names (h ∷ ls) ≡ in_order [] (S.start ∷ S.accept ∷ S.reject ∷ said es)
  names_are ls es a = λ i. in_order [] (H.start i ∷ H.accept i ∷ H.reject i ∷ say_names S.letters ls es a i)

  halts_is : (ls : List Line) (x : List ℕ) → halts (h ∷ ls) x ≡ (bytes_eq S.accept x || bytes_eq S.reject x)
  halts_is ls x = λ i. bytes_eq (H.accept i) x || bytes_eq (H.reject i) x

  pub halting : (ls : List Line) (x : List ℕ) → halts (h ∷ ls) x ≡ true → Halting S x
  halting ls x t = elim (or_cases _ _ (sym (halts_is ls x) ∙ t)) [
    | inl a ↦ inl (sym ((bytes_eq-Decides S.accept x).0 a))
    | inr b ↦ inr (sym ((bytes_eq-Decides S.reject x).0 b))
  ]

  pub halts_so : (ls : List Line) (x : List ℕ) → Halting S x → halts (h ∷ ls) x ≡ true
  halts_so ls x (inl e) = halts_is ls x ∙ or_left _ _ ((bytes_eq-Decides S.accept x).1 (sym e))
  halts_so ls x (inr e) = halts_is ls x ∙ or_right _ _ ((bytes_eq-Decides S.reject x).1 (sym e))

  pub going : (ls : List Line) (x : List ℕ) → (Halting S x → ⊥) → halts (h ∷ ls) x ≡ false
  going ls x n = elim (cases_Bool (halts (h ∷ ls) x)) [
    | inl t ↦ absurd (n (halting ls x t))
    | inr z ↦ z
  ]

  -- what the words of a line come to
  module _ (done : List Line) (l : Line) (e : Entry) (s : Says S.letters l e) where
    column_is : entry_column (h ∷ done) l ≡ column_number S.letters e.column
    column_is = ap (λ (m : ℕ). unwrap_or (column_of m (field 3 l)) 0) (letters_is done) ∙ column_said S.letters l e s

    direction_is : entry_direction l ≡ way_number e.way
    direction_is = ap (λ (o : Option ℕ). unwrap_or o 0) s.way

    way_is : wrong_way (letters (h ∷ done)) (entry_column (h ∷ done) l) (entry_direction l) ≡ wrong_way S.letters (column_number S.letters e.column) (way_number e.way)
    way_is = λ i. wrong_way (letters_is done i) (column_is i) (direction_is i)

    before_is : entry_for (h ∷ done) (field 2 l) (entry_column (h ∷ done) l) ≡ found S.letters e.state (column_number S.letters e.column) done
    before_is = λ i. found (letters_is done i) (s.state i) (column_is i) done

    allowed_of : Fine (h ∷ done) l → Allowed S e
    allowed_of f = record {
      goes_on = λ k. both_ways _ f.goes_on (halts_so done (field 2 l) (subst (Halting S) (sym s.state) k));
      turns = turns S.letters e.column e.way s.range (sym way_is ∙ f.turns_back);
    }

  pub all_allowed : (done ls : List Line) (es : List Entry) → AllSay S.letters ls es → FineFrom h done ls → AllByRecursion (Allowed S) es
  all_allowed done [] [] a f = tt
  all_allowed done [] (e ∷ es) a f = absurd a
  all_allowed done (l ∷ ls) [] a f = absurd a
  all_allowed done (l ∷ ls) (e ∷ es) a f = (allowed_of done l e a.0 f.0, all_allowed (done ++ (l ∷ [])) ls es a.1 f.1)

  -- each entry is for another name or column than those before it
  abbrev ApartFrom : List Entry → List Entry → Type 0
  ApartFrom ds [] = Unit {0}
  ApartFrom ds (e ∷ es) =
      ((i : ℕ) (d : Entry) → slice_get ds i ≡ Some d → For S.letters e.state (column_number S.letters e.column) d → ⊥) × ApartFrom (ds ++ (e ∷ [])) es

  all_apart : (done ls : List Line) (ds es : List Entry) → AllSay S.letters done ds → AllSay S.letters ls es → FineFrom h done ls → ApartFrom ds es
  all_apart done [] ds [] b a f = tt
  all_apart done [] ds (e ∷ es) b a f = absurd a
  all_apart done (l ∷ ls) ds [] b a f = absurd a
  all_apart done (l ∷ ls) ds (e ∷ es) b a f = (
    found_none S.letters done ds e.state (column_number S.letters e.column) b (sym (before_is done l e a.0) ∙ none_is _ f.0.new),
    all_apart (done ++ (l ∷ [])) ls (ds ++ (e ∷ [])) es (say_more S.letters done ds l e b a.0) a.1 f.1,
  )

  apart_once : (ds es : List Entry) → ApartFrom ds es → (i j : ℕ) (d e : Entry) → slice_get es j ≡ Some e → slice_get (ds ++ es) i ≡ Some d → i < length ds + j → For S.letters e.state (column_number S.letters e.column) d → ⊥
  apart_once ds [] a i j d e n g l f = let z : ◌≡◌ {A = ℕ} 0 1 = cc in omega arith
  apart_once ds (x ∷ es) a i zero d e n g l f =
      let same : x ≡ e = cc in
      let k : i < length ds = omega arith in
      a.0 i d (sym (nth_left ds (x ∷ es) i k) ∙ g) (subst (λ (y : Entry). For S.letters y.state (column_number S.letters y.column) d) (sym same) f)
  apart_once ds (x ∷ es) a i (suc j) d e n g l f =
      apart_once (ds ++ (x ∷ [])) es a.1 i j d e n (ap (λ (ys : List Entry). slice_get ys i) (append_assoc ds (x ∷ []) es) ∙ g) (omega (arith, length_push ds x)) f

  other_for : (x : List ℕ) (c : ℕ) (d e : Entry) → For S.letters x c d → For S.letters x c e → For S.letters e.state (column_number S.letters e.column) d
  other_for x c d e a b = (a.0 ∙ sym b.0, a.1 ∙ sym b.1)

  for_at : (x : List ℕ) (c i : ℕ) (r : EntryAt S x c i) → For S.letters x c r.entry
  for_at x c i r = (r.state, r.column)

  pub once_of : (ls : List Line) → AllSay S.letters ls S.entries → FineFrom h [] ls → (x : List ℕ) (c i j : ℕ) → EntryAt S x c i → EntryAt S x c j → i ≡ j
  once_of ls a f x c i j p q =
      let apart = all_apart [] ls [] S.entries tt a f in
      elim (cases_order i j) [
        | inl e ↦ e
        | inr (inl l) ↦ absurd (apart_once [] S.entries apart i j p.entry q.entry q.at p.at (omega arith) (other_for x c p.entry q.entry (for_at x c i p) (for_at x c j q)))
        | inr (inr g) ↦ absurd (apart_once [] S.entries apart j i q.entry p.entry p.at q.at (omega arith) (other_for x c q.entry p.entry (for_at x c j q) (for_at x c i p)))
      ]

  pub entry_at : (x : List ℕ) (c : ℕ) (l : Line) (f : Found S.letters S.entries x c l) → EntryAt S x c f.place
  entry_at x c l f = record { entry = f.entry; at = f.at; state = f.state; column = f.column }

  -- the entry that the lines have for a name and a column
  pub found_is : (ls : List Line) (x : List ℕ) (c : ℕ) → entry_for (h ∷ ls) x c ≡ found S.letters x c ls
  found_is ls x c = ap (λ (m : ℕ). found m x c ls) (letters_is ls)

  pub order_is : (ls : List Line) → AllSay S.letters ls S.entries → names (h ∷ ls) ≡ order S
  order_is ls a = names_are ls S.entries a

  pub each_of : (ls : List Line) → AllSay S.letters ls S.entries → lacks (h ∷ ls) ≡ false → (x : List ℕ) (q c : ℕ) → Numbered S x q → (Halting S x → ⊥) → c < S.letters + 2 → (i : ℕ) × EntryAt S x c i
  each_of ls a f x q c n k l =
      let at : slice_get (names (h ∷ ls)) q ≡ Some x = ap (λ (ns : List (List ℕ)). slice_get ns q) (order_is ls a) ∙ n in
      let below = none_any (h ∷ ls) (names (h ∷ ls)) f q x at (going ls x k) in
      let some = some_is (entry_for (h ∷ ls) x c) (filled_below (h ∷ ls) x (letters (h ∷ ls) + 2) below c (omega (arith, letters_is ls))) in
      let w = found_some S.letters ls S.entries x c some.0 a (sym (found_is ls x c) ∙ some.1) in
      (w.place, entry_at x c some.0 w)

  pub found_at : (ls : List Line) → AllSay S.letters ls S.entries → (x : List ℕ) (c i : ℕ) → EntryAt S x c i → is_some (entry_for (h ∷ ls) x c) ≡ true
  found_at ls a x c i r = elim (option (entry_for (h ∷ ls) x c)) [
    | inl e ↦ absurd (found_none S.letters ls S.entries x c a (sym (found_is ls x c) ∙ e) i r.entry r.at (for_at x c i r))
    | inr w ↦ ap is_some w.1
  ]

  lacks_of : (ls : List Line) → AllSay S.letters ls S.entries → Proper S → lacks (h ∷ ls) ≡ false
  lacks_of ls a P =
      any_none (h ∷ ls) (names (h ∷ ls)) (λ q x n z.
      below_filled (h ∷ ls) x (letters (h ∷ ls) + 2) (λ c l.
      let at : Numbered S x q = sym (ap (λ (ns : List (List ℕ)). slice_get ns q) (order_is ls a)) ∙ n in
      let w = P.each x q c at (λ k. both_ways _ z (halts_so ls x k)) (omega (arith, letters_is ls)) in
      found_at ls a x c w.0 w.1))

  -- a proper sheet: the lines that follow meet no condition
  module _ (P : Proper S) where
    order_on : (done : List Line) (ds es : List Entry) (e : Entry) → AllSay S.letters done ds → S.entries ≡ ds ++ (e ∷ es) → order S ≡ in_order (with_name (with_name (names (h ∷ done)) e.state) e.next) (said es)
    order_on done ds es e b w =
        ap (λ (xs : List Entry). in_order [] (S.start ∷ S.accept ∷ S.reject ∷ said xs)) w
        ∙ (ap (λ (ns : List (List ℕ)). in_order [] (S.start ∷ S.accept ∷ S.reject ∷ ns)) (said_more ds (e ∷ es))
        ∙ (order_more [] (S.start ∷ S.accept ∷ S.reject ∷ said ds) (said (e ∷ es))
        ∙ ap (λ (ns : List (List ℕ)). in_order ns (said (e ∷ es))) (sym (names_are done ds b))))

    new_of : (done : List Line) (ds es : List Entry) (l : Line) (e : Entry) → AllSay S.letters done ds → Says S.letters l e → S.entries ≡ ds ++ (e ∷ es) → is_some (entry_for (h ∷ done) (field 2 l) (entry_column (h ∷ done) l)) ≡ false
    new_of done ds es l e b s w = none_test _ (before_is done l e s ∙ elim (option (found S.letters e.state (column_number S.letters e.column) done)) [
      | inl n ↦ n
      | inr k ↦
          let f = found_some S.letters done ds e.state (column_number S.letters e.column) k.0 b k.1 in
          let low = nth_in ds f.place f.entry f.at in
          let old : EntryAt S e.state (column_number S.letters e.column) f.place = record {
            entry = f.entry;
            at = ap (λ (xs : List Entry). slice_get xs f.place) w ∙ (nth_left ds (e ∷ es) f.place low ∙ f.at);
            state = f.state;
            column = f.column;
          } in
          let this : EntryAt S e.state (column_number S.letters e.column) (length ds) = record {
            entry = e;
            at = ap (λ (xs : List Entry). slice_get xs (length ds)) w ∙ nth_here ds e es;
            state = refl;
            column = refl;
          } in
          let same = P.once e.state (column_number S.letters e.column) f.place (length ds) old this in
          let no : ⊥ = omega arith in absurd no
    ])

    fine_entry : (done : List Line) (ds es : List Entry) (l : Line) (e : Entry) → AllSay S.letters done ds → Says S.letters l e → S.entries ≡ ds ++ (e ∷ es) → Name e.state → Name e.next → Allowed S e → Fine (h ∷ done) l
    fine_entry done ds es l e b s w state next ok =
        let all = order_on done ds es e b w in
        let long = P.few in
        let more = more_order (with_name (with_name (names (h ∷ done)) e.state) e.next) (said es) in
        let one = more_with (with_name (names (h ∷ done)) e.state) e.next in
        let second : length (with_name (with_name (names (h ∷ done)) e.state) e.next) ≤ 32 = omega (arith, ap length all) in
        let first : length (with_name (names (h ∷ done)) e.state) ≤ 32 = omega arith in
        record {
          formed_so = s.formed_so;
          state_name = ap is_name s.state ∙ name_is e.state state;
          next_name = ap is_name s.next ∙ name_is e.next next;
          column = ap (λ (m : ℕ). is_some (column_of m (field 3 l))) (letters_is done) ∙ ap is_some s.column;
          direction = ap is_some s.way;
          goes_on = going done (field 2 l) (λ k. ok.goes_on (subst (Halting S) s.state k));
          few_first = ap (one_too_many (names (h ∷ done))) s.state ∙ le-ltb 32 _ first;
          few_second = (λ i. one_too_many (with_name (names (h ∷ done)) (s.state i)) (s.next i)) ∙ le-ltb 32 _ second;
          turns_back = way_is done l e s ∙ (right_way S.letters e.column e.way ok.turns).1;
          new = new_of done ds es l e b s w;
        }

    pub fine_lines : (done ls : List Line) (ds es : List Entry) → AllSay S.letters done ds → AllSay S.letters ls es → S.entries ≡ ds ++ es → AllByRecursion Name (said es) → AllByRecursion (Allowed S) es → FineFrom h done ls
    fine_lines done [] ds [] b a w n k = lacks_of done (subst (AllSay S.letters done) (sym (w ∙ append-nil ds)) b) P
    fine_lines done [] ds (e ∷ es) b a w n k = absurd a
    fine_lines done (l ∷ ls) ds [] b a w n k = absurd a
    fine_lines done (l ∷ ls) ds (e ∷ es) b a w n k = (
      fine_entry done ds es l e b a.0 w n.0 n.1.0 k.0,
      fine_lines (done ++ (l ∷ [])) ls (ds ++ (e ∷ [])) es (say_more S.letters done ds l e b a.0) a.1 (w ∙ sym (append_assoc ds (e ∷ []) es)) n.1.1 k.1,
    )
