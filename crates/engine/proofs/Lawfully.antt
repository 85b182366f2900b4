-- The law, over every run.
use Rattle.std.proofs.Common.{◌≡◌, ℕ, ◌<◌, ◌≤◌, Bool, true, false, cond, eqb, ltb, List, [], ◌∷◌, ◌++◌, map, length, take, drop, replicate, Ok, Err, Option, sym, refl, ap, ◌∙◌, subst, arith, lt-ltb, eq-eqb, ne_eqb}
use native.Mathlib.Decide.{dec_le}
use Rattle.std.specs.Option.{ok_or}
use Rattle.std.proofs.lemmas.Bool.{eqb-true, ltb-true}
use Rattle.std.proofs.lemmas.List.{take_at, length-map}
use Rattle.two_way.specs.Automaton.{Automaton, Lawful}
use Rattle.two_way.specs.Runs.{Word}
use Rattle.two_way.specs.Crossings.{Different}
use Rattle.two_way.proofs.Sound.{sound}
use Rattle.two_way.proofs.Walk.{walk_within, walk_reads}
use Rattle.two_way.proofs.Counting.{apart_different}
use Rattle.refusals.specs.declared.fault.Fault.TheVariants.{LettersDiffer, NoRows, TooFewPlaces, TitleTooLong, DamagedTable}
use Rattle.refusals.specs.Line.{unplaced}
use Rattle.register.specs.declared.tables.CrossingTable.{CrossingTable}
use Rattle.dfa.specs.declared.rows.DfaRow.{DfaRow}
use Rattle.dfa.specs.Rows.{blank_row}
use Rattle.dfa.specs.Known.{known, dfa_of, dfa_row}
use Rattle.dfa.specs.Filled.{capacity, too_few}
use Rattle.dfa.specs.Asked.{followed, asked}
use Rattle.dfa.proofs.Rightly.{good_known, tables_at, apart}
use Rattle.engine.specs.Walks.{walked, walk_answer}
use Rattle.engine.specs.declared.calls.Engine.{Engine}
use Rattle.engine.specs.declared.calls.Call.{Call}
use Rattle.engine.specs.declared.calls.Call.TheVariants.{Change, Build, Ask, Walk}
use Rattle.engine.specs.declared.calls.Answer.{Answer}
use Rattle.engine.specs.Calls.{Meaning, performed, build_answer, build_rows, build_dfa}
use Rattle.engine.specs.Runs.{Event, rule_of, force_built, in_force, Led, new, next, Most, AskRight, BuildRight, WalkRight, InUse, Right, Law}
use Rattle.engine.proofs.Steps.{answer_ok, answer_long}
use Rattle.engine.proofs.Counts.{walked_right}
use Rattle.engine.proofs.Follows.{most_rows, ask_told}

module _ (A : Automaton) (law : Lawful A) where
  -- the case of a build by its two tests
  abbrev by : {X : Type 0} → Bool → Bool → X → X → X → X
  by b f unfit few taken = cond b (cond f few taken) unfit

  module _ (c p : ℕ) (ds : List DfaRow) where
    abbrev N : ℕ
    N = length (known A p)

    abbrev D : Bool → List DfaRow
    D f = cond f (replicate p blank_row ++ drop p ds) (dfa_of A (known A p) ++ drop N ds)

    enough_places : too_few A p ≡ false → N ≤ p
    enough_places e = go (dec_le N p)
      where
        go : Dec (length (known A p) ≤ p) → length (known A p) ≤ p
        go (yes h) = h
        go (no h) = let z : false ≡ true = sym e ∙ lt-ltb p (length (known A p)) (omega arith) in absurd (let w : ◌≡◌ {A = ℕ} 0 1 = cc in omega arith)

    rows_left : take N (D false) ≡ dfa_of A (known A p)
    rows_left = take_at (dfa_of A (known A p)) (drop N ds) N (length-map (known A p) (dfa_row A (known A p)))

    different : Different A N
    different = apart_different A N (tables_at A law (known A p)) (apart A law (known A p) (good_known A law p))

    -- the rows in use after a build
    module _ (o : Option (List DfaRow)) (n : ℕ) (before : InUse A c o n) where
      use_after : (b f : Bool) → eqb A.letters c ≡ b → too_few A p ≡ f
          → InUse A c (force_built (by b f (Err (unplaced LettersDiffer)) (Err (unplaced TooFewPlaces)) (Ok N)) (cond b (D f) ds) o) (by b f n 0 N)
      use_after false f e g = before
      use_after true true e g = record { none = λ z. refl; some = λ xs z. absurd (let w : ◌≡◌ {A = ℕ} 0 1 = cc in omega arith) }
      use_after true false e g = record {
        none = λ z. absurd (let w : ◌≡◌ {A = ℕ} 0 1 = cc in omega arith);
        some = λ xs z.
            let same : D false ≡ xs = cc in
            let k = enough_places g in (
              eqb-true A.letters c e,
              most_rows A law p k,
              (p, k, refl, subst (λ ys. take N ys ≡ dfa_of A (known A p)) same rows_left),
            );
      }

      pub used : InUse A c (force_built (build_answer A c p) (build_dfa A c p ds) o) (build_rows A c p n)
      used = use_after (eqb A.letters c) (too_few A p) refl refl

    right_by : (b f : Bool) → eqb A.letters c ≡ b → too_few A p ≡ f → BuildRight A c p (by b f (Err (unplaced LettersDiffer)) (Err (unplaced TooFewPlaces)) (Ok N)) (cond b (D f) ds)
    right_by false f e g =
        let ne : A.letters ≡ c → ⊥ = λ z. let q : true ≡ false = sym (eq-eqb A.letters c z) ∙ e in let w : ◌≡◌ {A = ℕ} 0 1 = cc in omega arith in
        record {
          unfit = λ z. refl;
          taken = λ z. absurd (ne z);
          few = λ z. absurd (ne z);
          too_many = λ z. absurd (ne z);
          enough = λ z. absurd (ne z);
        }
    right_by true true e g =
        let more : p < N = ltb-true p N g in
        record {
          unfit = λ z. absurd (z (eqb-true A.letters c e));
          taken = λ z n q. absurd (let w : ◌≡◌ {A = ℕ} 0 1 = cc in omega arith);
          few = λ z q. (N, more, different);
          too_many = λ z j k d. refl;
          enough = λ z h. absurd (let k : ⊥ = omega (arith, h N different, more) in k);
        }
    right_by true false e g =
        let k = enough_places g in
        let most_n = most_rows A law p k in
        record {
          unfit = λ z. absurd (z (eqb-true A.letters c e));
          taken = λ z n q.
              let same : N ≡ n = cc in
              subst (λ m. (m ≤ p) × Most A m × (take m (D false) ≡ dfa_of A (known A p))) same (k, most_n, rows_left);
          few = λ z q. absurd (let w : ◌≡◌ {A = ℕ} 0 1 = cc in omega arith);
          too_many = λ z j h d. absurd (let x : ⊥ = omega (arith, most_n.none_longer j d, k, h) in x);
          enough = λ z h. (N, refl);
        }

    pub build_right : BuildRight A c p (build_answer A c p) (build_dfa A c p ds)
    build_right = right_by (eqb A.letters c) (too_few A p) refl refl

  -- an ask
  pub ask_right_by : (c : ℕ) (o : Option (List DfaRow)) (n : ℕ) → InUse A c o n → (ds : List DfaRow) (w : List ℕ) → (A.letters ≡ c → Word A w) → AskRight A o ds w (asked c n ds w)
  ask_right_by c o n u ds w ww = record {
    refused = λ z. ap (λ b. cond b (Err (unplaced NoRows)) (cond (ltb (length ds) n) (Err (unplaced DamagedTable)) (ok_or (followed c n ds 0 w) (unplaced DamagedTable)))) (eq-eqb n 0 (u.none z));
    told = λ z.
        let s = u.some ds z in
        let p = s.2.0 in
        let is = s.2.2 in
        let few : length (known A p) ≤ p = omega (arith, s.2.1, is) in
        let holds : take (length (known A p)) ds ≡ dfa_of A (known A p) = subst (λ m. take m ds ≡ dfa_of A (known A p)) is s.2.3 in
        let t = ask_told A law p few ds holds w (ww s.0) in
        (t.0, ap (λ m. asked m n ds w) (sym s.0) ∙ (ap (λ m. asked A.letters m ds w) is ∙ t.1), t.2, t.3);
  }

  pub walk_right_by : (c : ℕ) (w : List ℕ) → (A.letters ≡ c → Word A w) → WalkRight A c w (walk_answer A c w)
  walk_right_by c w ww = record {
    unfit = λ z. ap (λ b. cond b (cond (ltb 65536 (length w)) (Err (unplaced TitleTooLong)) (Ok (walked A w))) (Err (unplaced LettersDiffer))) (ne_eqb A.letters c z);
    long = λ z h. sym (answer_long A c w z h);
    walks = λ z h.
        let r = walked_right A (sound A law) w (ww z) in (
          (walked A w).verdict,
          (walked A w).steps,
          sym (answer_ok A c w z h (walked A w) refl),
          r,
          walk_reads A (sound A law) w (ww z) _ _ r,
          walk_within A (sound A law) w (ww z) _ _ r,
        );
  }

word_by : {K : Type 0} (A : Automaton) (c : ℕ) (letter : K → ℕ) → ((k : K) → letter k < c) → A.letters ≡ c → (ms : List K) → Word A (map letter ms)
word_by A c letter h e [] = tt
word_by A c letter h e (k ∷ ms) = (omega (arith, h k), word_by A c letter h e ms)

module _ {R L K : Type 0} (W : Meaning R L K) (laws : (r : R) → Lawful (W.rule r)) (low : (l : L) (k : K) → W.letter l k < W.count l) where
  record Stands (r : R) (l : L) (past : List (Event R K)) (e : Engine R L) : Type 0 where
    rule_is : e.rule ≡ rule_of r past
    alphabet_is : e.alphabet ≡ l
    uses : InUse (W.rule e.rule) (W.count e.alphabet) (in_force past) e.rows

  stands_next : (r : R) (l : L) (past : List (Event R K)) (e : Engine R L) → Stands r l past e → (k : Call R) (ts : List CrossingTable) (ds : List DfaRow) (ms : List K)
      → Stands r l (record { call = k; tables = ts; dfa = ds; marks = ms; answer = (performed W e k ts ds ms).answer; left = (performed W e k ts ds ms).dfa } ∷ past) (performed W e k ts ds ms).engine
  stands_next r l past e s (Change q) ts ds ms = record { rule_is = refl; alphabet_is = s.alphabet_is; uses = record { none = λ z. refl; some = λ xs z. absurd (let w : ◌≡◌ {A = ℕ} 0 1 = cc in omega arith) } }
  stands_next r l past e s Build ts ds ms = record {
    rule_is = s.rule_is;
    alphabet_is = s.alphabet_is;
    uses = used (W.rule e.rule) (laws e.rule) (W.count e.alphabet) (capacity ts ds) ds (in_force past) e.rows s.uses;
  }
  stands_next r l past e s Ask ts ds ms = record { rule_is = s.rule_is; alphabet_is = s.alphabet_is; uses = s.uses }
  stands_next r l past e s Walk ts ds ms = record { rule_is = s.rule_is; alphabet_is = s.alphabet_is; uses = s.uses }

  stands : (r : R) (l : L) (past : List (Event R K)) (e : Engine R L) → Led W r l past e → Stands r l past e
  stands r l past e new = record { rule_is = refl; alphabet_is = refl; uses = record { none = λ z. refl; some = λ xs z. absurd (let w : ◌≡◌ {A = ℕ} 0 1 = cc in omega arith) } }
  stands r l past e (next {past = before} {e = d} h k ts ds ms) = stands_next r l before d (stands r l before d h) k ts ds ms

  right_at : (e : Engine R L) (o : Option (List DfaRow)) → InUse (W.rule e.rule) (W.count e.alphabet) o e.rows → (k : Call R) (ts : List CrossingTable) (ds : List DfaRow) (ms : List K)
      → Right (W.rule e.rule) (W.count e.alphabet) (map (W.letter e.alphabet) ms) o ts ds k (performed W e k ts ds ms).answer (performed W e k ts ds ms).dfa
  right_at e o u (Change q) ts ds ms = refl
  right_at e o u Build ts ds ms = (_, refl, build_right (W.rule e.rule) (laws e.rule) (W.count e.alphabet) (capacity ts ds) ds)
  right_at e o u Ask ts ds ms = (
    _,
    refl,
    ask_right_by (W.rule e.rule) (laws e.rule) (W.count e.alphabet) o e.rows u ds (map (W.letter e.alphabet) ms)
        (λ z. word_by (W.rule e.rule) (W.count e.alphabet) (W.letter e.alphabet) (low e.alphabet) z ms),
  )
  right_at e o u Walk ts ds ms = (
    _,
    refl,
    walk_right_by (W.rule e.rule) (laws e.rule) (W.count e.alphabet) (map (W.letter e.alphabet) ms)
        (λ z. word_by (W.rule e.rule) (W.count e.alphabet) (W.letter e.alphabet) (low e.alphabet) z ms),
  )

  pub law_of : (e : Engine R L) (k : Call R) (ts : List CrossingTable) (ds : List DfaRow) (ms : List K)
      → Law W e k ts ds ms (performed W e k ts ds ms).answer (performed W e k ts ds ms).dfa (performed W e k ts ds ms).engine
  law_of e k ts ds ms = record {
    right = λ r l past h.
        let s = stands r l past e h in
        let a = (performed W e k ts ds ms).answer in
        let d = (performed W e k ts ds ms).dfa in
        subst (λ q. Right (W.rule q) (W.count l) (map (W.letter l) ms) (in_force past) ts ds k a d) s.rule_is
        (subst (λ b. Right (W.rule e.rule) (W.count b) (map (W.letter b) ms) (in_force past) ts ds k a d) s.alphabet_is (right_at e (in_force past) s.uses k ts ds ms));
    leads = λ r l past h. next h k ts ds ms;
    in_use = λ r l past h.
        let s = stands_next r l past e (stands r l past e h) k ts ds ms in
        let e' = (performed W e k ts ds ms).engine in
        let o = in_force (record { call = k; tables = ts; dfa = ds; marks = ms; answer = (performed W e k ts ds ms).answer; left = (performed W e k ts ds ms).dfa } ∷ past) in
        subst (λ q. InUse (W.rule q) (W.count l) o e'.rows) s.rule_is
        (subst (λ b. InUse (W.rule e'.rule) (W.count b) o e'.rows) s.alphabet_is s.uses);
  }

  -- and so for a call that answers and leaves what is defined
  pub law_from : (e : Engine R L) (k : Call R) (ts : List CrossingTable) (ds : List DfaRow) (ms : List K) (a : Answer) (d : List DfaRow) (e' : Engine R L)
      → a ≡ (performed W e k ts ds ms).answer → d ≡ (performed W e k ts ds ms).dfa → e' ≡ (performed W e k ts ds ms).engine → Law W e k ts ds ms a d e'
  law_from e k ts ds ms a d e' p q s =
      subst (λ x. Law W e k ts ds ms x d e') (sym p) (subst (λ x. Law W e k ts ds ms (performed W e k ts ds ms).answer x e') (sym q)
      (subst (λ x. Law W e k ts ds ms (performed W e k ts ds ms).answer (performed W e k ts ds ms).dfa x) (sym s) (law_of e k ts ds ms)))
