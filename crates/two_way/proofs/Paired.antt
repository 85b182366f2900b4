-- A pair that fits accepts exactly what both accept, and rejects exactly what A rejects, and what A accepts and B rejects.
use Rattle.std.proofs.Common.{◌≡◌, ℕ, zero, suc, ◌+◌, ◌<◌, ◌⊎◌, ◌↔◌, List, [], ◌∷◌, length, get_or, sym, refl, ap, ◌∙◌, subst, inl, inr, arith}
use mathlib.Core.Path.{fun_ext}
use Rattle.two_way.specs.declared.Verdict.{Verdict}
use Rattle.two_way.specs.Automaton.{Automaton, Lawful, to, way}
use Rattle.two_way.specs.Runs.{Word, column, Config, moved, step, begin, Enters, now, later, Accepts, Rejects, Reads, Going}
use Rattle.two_way.specs.Pairs.{composed, both}
use Rattle.two_way.specs.Theorems.{PairDecides}
use Rattle.two_way.proofs.Loops.{clash}
use Rattle.two_way.proofs.Sound.{Halts, Sound, sound}
use Rattle.two_way.proofs.Halting.{Kind, halting, going, kind, final_halts, Tape, held}
use Rattle.two_way.proofs.Words.{tape_of, reads_one}
use Rattle.two_way.proofs.Composed.{in_B, in_A, goes_back, hands_over, gives_up}

-- a configuration of B, its state renumbered
abbrev raised : Automaton → Config → Config
raised A y = record { state = A.states + y.state; place = y.place }

-- the two ways in which the pair enters B's state h, renumbered
abbrev Split : Automaton → Automaton → (ℕ → ℕ) → ℕ → Config → Type 0
Split A B c h x = (Enters A c A.accept x × Enters B c h (begin B)) ⊎ (Enters A c A.reject x × (h ≡ B.reject))

module _ (A B : Automaton) (la : Lawful A) (lb : Lawful B) (N : ℕ) (c : ℕ → ℕ) (ta : Tape A N c) (tb : Tape B N c) where
  abbrev P : Automaton
  P = composed A B

  sa : Sound A
  sa = sound A la

  sb : Sound B
  sb = sound B lb

  -- the five kinds of step
  step_B : (y : Config) → step P c (raised A y) ≡ raised A (step B c y)
  step_B y i =
      let e = in_B A B la lb y.state (c y.place) (ta.inside y.place) in
      record { state = e.0 i; place = moved (e.1 i) y.place }

  step_A : (x : Config) → x.state < A.states → Going A x.state → step P c x ≡ step A c x
  step_A x h g i =
      let e = in_A A B la lb x.state (c x.place) (ta.inside x.place) h g in
      record { state = e.0 i; place = moved (e.1 i) x.place }

  step_back : (x : Config) (j : ℕ) → x.state ≡ A.accept → x.place ≡ suc j → step P c x ≡ record { state = x.state; place = j }
  step_back x j e z i =
      let r = goes_back A B la lb x.state (c x.place) (ta.inside x.place) e (λ y. ta.inner j (ap c (sym z) ∙ y)) in
      let p : moved (way P x.state (c x.place)) x.place ≡ j = rw (r.1, z) (omega arith) in
      record { state = r.0 i; place = p i }

  step_over : (x : Config) → x.state ≡ A.accept → x.place ≡ 0 → step P c x ≡ raised A (step B c (begin B))
  step_over x e z =
      let r = hands_over A B la lb x.state (c 0) e ta.left tb.left in
      ap (λ j. step P c (record { state = x.state; place = j })) z ∙ λ i. record { state = r.0 i; place = moved (r.1 i) 0 }

  step_reject : (x : Config) → x.state ≡ A.reject → (step P c x).state ≡ A.states + B.reject
  step_reject x e = gives_up A B la lb x.state (c x.place) (ta.inside x.place) e

  -- B's states run as B
  up : {h : ℕ} {y : Config} → Enters B c h y → Enters P c (A.states + h) (raised A y)
  up (now e) = now (ap (λ q. A.states + q) e)
  up {h} {y} (later d) = later (subst (λ z. Enters P c (A.states + h) z) (sym (step_B y)) (up d))

  down : {h : ℕ} {x : Config} → Enters P c (A.states + h) x → (y : Config) → x ≡ raised A y → Enters B c h y
  down (now e) y e' = let z = ap (λ u. u.state) e' in now (omega arith)
  down (later d) y e' = later (down d (step B c y) (ap (step P c) e' ∙ step_B y))

  -- a run that enters a halting state enters it from its next step on
  past : {h : ℕ} {y : Config} → Halts B h → Enters B c h y → Enters B c h (step B c y)
  past {y = y} k (now e) = now (ap (λ q. to B q (c y.place)) e ∙ k.stays (c y.place) (tb.inside y.place))
  past k (later d) = d

  -- accepted by A: back to the left end, and on as B
  home : {h : ℕ} → Halts B h → Enters B c h (begin B) → (j : ℕ) (x : Config) → x.state ≡ A.accept → x.place ≡ j → Enters P c (A.states + h) x
  home {h} k d zero x e z = later (subst (λ y. Enters P c (A.states + h) y) (sym (step_over x e z)) (up (past k d)))
  home {h} k d (suc j) x e z =
      later (subst (λ y. Enters P c (A.states + h) y) (sym (step_back x j e z)) (home k d j (record { state = x.state; place = j }) e refl))

  -- the pair runs as A until A enters g, accept or reject
  as_A : {g h : ℕ} {x : Config} → ((y : Config) → y.state ≡ g → Enters P c h y) → x.state < A.states → Enters A c g x → Enters P c h x
  as_A {x = x} base l (now e) = base x e
  as_A {g} {h} {x} base l (later a) = go (kind A x.state) (as_A base (sa.inside x.state (c x.place) l (ta.inside x.place)) a)
    where
      go : Kind A x.state → Enters P c h (step A c x) → Enters P c h x
      go (halting v f) ih = base x (sym (held A sa N c ta (final_halts A sa x.state v f) refl (later a)))
      go (going i) ih = later (subst (λ y. Enters P c h y) (sym (step_A x l i)) ih)

  accepted : {h : ℕ} {x : Config} → Halts B h → Enters B c h (begin B) → x.state < A.states → Enters A c A.accept x → Enters P c (A.states + h) x
  accepted k d l a = as_A (λ y e. home k d y.place y e refl) l a

  rejected : {x : Config} → x.state < A.states → Enters A c A.reject x → Enters P c (A.states + B.reject) x
  rejected l a = as_A (λ y e. later (now (step_reject y e))) l a

  parts : (h : ℕ) {x : Config} → x.state < A.states → Enters P c (A.states + h) x → Split A B c h x
  parts h l (now e) = absurd (omega arith)
  parts h {x} l (later d) = go (kind A x.state) (λ l'. parts h l' d)
    where
      go : Kind A x.state → ((step P c x).state < A.states → Split A B c h (step P c x)) → Split A B c h x
      go (halting Verdict.Rejects e) ih =
          let y : Config = record { state = B.reject; place = (step P c x).place } in
          inr (now e, held B sb N c tb sb.reject_halts refl (down d y (λ i. record { state = step_reject x e i; place = (step P c x).place })))
      go (halting Verdict.Accepts e) ih = at x.place refl
        where
          at : (j : ℕ) → x.place ≡ j → Split A B c h x
          at zero z = inl (now e, later (down d (step B c (begin B)) (step_over x e z)))
          at (suc j) z = rest (ih (subst (λ y. y.state < A.states) (sym s) l))
            where
              s : step P c x ≡ record { state = x.state; place = j }
              s = step_back x j e z

              rest : Split A B c h (step P c x) → Split A B c h x
              rest (inl (_, b)) = inl (now e, b)
              rest (inr (r, _)) = absurd (la.apart (sym (held A sa N c ta sa.accept_halts (ap (λ y. y.state) s ∙ e) r)))
      go (halting Verdict.Loops f) ih = absurd f
      go (going g) ih = rest (ih (subst (λ y. y.state < A.states) (sym s) (sa.inside x.state (c x.place) l (ta.inside x.place))))
        where
          s : step P c x ≡ step A c x
          s = step_A x l g

          rest : Split A B c h (step P c x) → Split A B c h x
          rest (inl (a, b)) = inl (later (subst (λ y. Enters A c A.accept y) s a), b)
          rest (inr (r, b)) = inr (later (subst (λ y. Enters A c A.reject y) s r), b)

module _ (A B : Automaton) (la : Lawful A) (lb : Lawful B) (same : A.letters ≡ B.letters) (w : List ℕ) (h : Word A w) where
  -- over the same letters the columns are the same
  columns : column B w ≡ column A w
  columns = fun_ext at
    where
      at : (i : ℕ) → column B w i ≡ column A w i
      at zero = sym same
      at (suc i) = ap (λ m. get_or w i (m + 1)) (sym same)

  columns_P : column (composed A B) w ≡ column A w
  columns_P = fun_ext at
    where
      at : (i : ℕ) → column (composed A B) w i ≡ column A w i
      at zero = refl
      at (suc i) = refl

  word_B : (w : List ℕ) → Word A w → Word B w
  word_B [] h = tt
  word_B (a ∷ w) h = (omega arith, word_B w h.1)

  ta : Tape A (length w) (column A w)
  ta = tape_of A w h

  tb : Tape B (length w) (column A w)
  tb = subst (λ c. Tape B (length w) c) columns (tape_of B w (word_B w h))

  run_B : (q : ℕ) → Enters B (column B w) q (begin B) ↔ Enters B (column A w) q (begin B)
  run_B q = (subst (λ c. Enters B c q (begin B)) columns, subst (λ c. Enters B c q (begin B)) (sym columns))

  run_P : (q : ℕ) → Enters (composed A B) (column (composed A B) w) q (begin A) ↔ Enters (composed A B) (column A w) q (begin A)
  run_P q = (subst (λ c. Enters (composed A B) c q (begin A)) columns_P, subst (λ c. Enters (composed A B) c q (begin A)) (sym columns_P))

  -- the pair in B's state q, from its parts and back
  split : (q : ℕ) → Enters (composed A B) (column (composed A B) w) (A.states + q) (begin A) → Split A B (column A w) q (begin A)
  split q d = parts A B la lb (length w) (column A w) ta tb q la.start_in ((run_P (A.states + q)).0 d)

  after_accept : {q : ℕ} → Halts B q → Accepts A w → Enters B (column B w) q (begin B) → Enters (composed A B) (column (composed A B) w) (A.states + q) (begin A)
  after_accept {q} k a b =
      (run_P (A.states + q)).1 (accepted A B la lb (length w) (column A w) ta tb k ((run_B q).0 b) la.start_in a)

  pair_accepts : Accepts (composed A B) w ↔ (Accepts A w × Accepts B w)
  pair_accepts = (λ p. there (split B.accept p), λ r. after_accept (sound B lb).accept_halts r.0 r.1)
    where
      there : Split A B (column A w) B.accept (begin A) → Accepts A w × Accepts B w
      there (inl (a, b)) = (a, (run_B B.accept).1 b)
      there (inr (_, e)) = absurd (lb.apart e)

  pair_rejects : Rejects (composed A B) w ↔ (Rejects A w ⊎ (Accepts A w × Rejects B w))
  pair_rejects = (λ p. there (split B.reject p), back)
    where
      there : Split A B (column A w) B.reject (begin A) → Rejects A w ⊎ (Accepts A w × Rejects B w)
      there (inl (a, b)) = inr (a, (run_B B.reject).1 b)
      there (inr (a, e)) = inl a

      back : Rejects A w ⊎ (Accepts A w × Rejects B w) → Rejects (composed A B) w
      back (inl a) = (run_P (A.states + B.reject)).1 (rejected A B la lb (length w) (column A w) ta tb la.start_in a)
      back (inr (a, b)) = after_accept (sound B lb).reject_halts a b

  pair_reads : (u v : Verdict) → Reads A w u → Reads B w v → Reads (composed A B) w (both u v)
  pair_reads Verdict.Accepts Verdict.Accepts a b = pair_accepts.1 (a, b)
  pair_reads Verdict.Accepts Verdict.Rejects a b = pair_rejects.1 (inr (a, b))
  pair_reads Verdict.Accepts Verdict.Loops a b = (λ p. b.0 (pair_accepts.0 p).1, λ p. none (pair_rejects.0 p))
    where
      none : Rejects A w ⊎ (Accepts A w × Rejects B w) → ⊥
      none (inl r) =
          let e = reads_one A (sound A la) w h Verdict.Accepts a in
          let e' = reads_one A (sound A la) w h Verdict.Rejects r in
          clash cc
      none (inr (_, r)) = b.1 r
  pair_reads Verdict.Rejects v a b = pair_rejects.1 (inl a)
  pair_reads Verdict.Loops v a b = (λ p. a.0 (pair_accepts.0 p).0, λ p. none (pair_rejects.0 p))
    where
      none : Rejects A w ⊎ (Accepts A w × Rejects B w) → ⊥
      none (inl r) = a.1 r
      none (inr (r, _)) = a.0 r

  pub decides : PairDecides (composed A B) A B w
  decides = record { accepts = pair_accepts; rejects = pair_rejects; reads = pair_reads }
