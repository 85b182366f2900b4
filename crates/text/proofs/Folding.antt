-- What a fold over bytes that may break off comes to.
use Rattle.std.proofs.Common.{◌≡◌, ℕ, List, [], ◌∷◌, Some, None, Option, MatchOption, ControlFlow, Continue, Break, sym, refl, ap, ◌∙◌, subst}
use denote.Param.Members.{Mut, Called}
use Rattle.std.specs.Iterator.{AlwaysYields, Yields, YieldsThen, TryFoldTurn}
use Rattle.std.specs.List.{FoldsTo}
use Rattle.std.proofs.lemmas.Iterator.{YieldsList}
use Rattle.text.proofs.Reading.{added, then_read, read_on}

module _ {S A F E : Type 0} (steps : S → Option A → S → Type 0) (v : A → ℕ) (g : Mut F (ℕ × (A × Unit {0})) (Option ℕ)) (branches : Option ℕ → ControlFlow E ℕ → Type 0) (resumes : E → Option ℕ → Type 0) (most : ℕ) (f : F)
    (on : (o : Option ℕ) (a : ℕ) → branches o (Continue a) → o ≡ Some a) (off : (o : Option ℕ) (e : E) → branches o (Break e) → o ≡ None) (back : (e : E) (o : Option ℕ) → resumes e o → o ≡ None)
    (gives : (a : ℕ) (x : A) (o : Option ℕ) (q : F) → Called g f (a, (x, tt)) o q → (q ≡ f) × (o ≡ added most a (v x))) where
  abbrev Turn : F × ℕ → A → F × ℕ → Type 0
  Turn = TryFoldTurn g branches

  abbrev Ends : Option A → F → ℕ → Option ℕ → Type 0
  Ends o p a r = MatchOption o (branches r (Continue a)) (λ x. (w : Option ℕ) × (h : F) × (e : E) × Called g p (a, (x, tt)) w h × branches w (Break e) × resumes e r)

  folded : (all : List ℕ) (s t u : S) (xs : List A) (o : Option A) (p q : F) (i a : ℕ) (r : Option ℕ) → AlwaysYields steps v s all → Yields steps s xs t → steps t o u → p ≡ f → FoldsTo {P = F × ℕ} Turn (p, i) xs (q, a) → Ends o q a r → r ≡ read_on most all i
  folded [] s t u [] None p q i a r al ys st same fs en = on r a en ∙ ap Some (sym (ap (λ (z : F × ℕ). z.1) fs))
  folded [] s t u [] (Some x) p q i a r al ys st same fs en = absurd (al x u (subst (λ (z : S). steps z (Some x) u) (sym ys) st))
  folded [] s t u (x ∷ xs) o p q i a r al (j, step, ys) st same fs en = absurd (al x j step)
  folded (y ∷ all) s t u [] None p q i a r al ys st same fs en = absurd (al.0 u (subst (λ (z : S). steps z None u) (sym ys) st))
  folded (y ∷ all) s t u [] (Some x) p q i a r al ys st same fs (w, h, e, call, brk, res) =
      let k = al.1 x u (subst (λ (z : S). steps z (Some x) u) (sym ys) st) in
      let c : Called g f (i, (x, tt)) w h = subst (λ (z : F × ℕ). Called g z.0 (z.1, (x, tt)) w h) (sym fs ∙ (λ n. (same n, i))) call in
      let z : added most i y ≡ None = sym (ap (added most i) k.0) ∙ sym (gives i x w h c).1 ∙ off w e brk in
      back e r res ∙ sym (ap (then_read (read_on most all)) z)
  folded (y ∷ all) s t u (x ∷ xs) o p q i a r al (j, step, ys) st same (m, (w, call, go), fs) en =
      let k = al.1 x j step in
      let c : Called g f (i, (x, tt)) w m.0 = subst (λ (z : F). Called g z (i, (x, tt)) w m.0) same call in
      let d = gives i x w m.0 c in
      let z : added most i y ≡ Some m.1 = sym (ap (added most i) k.0) ∙ sym d.1 ∙ on w m.1 go in
      folded all j t u xs o m.0 q m.1 a r k.1 ys st d.0 fs en ∙ sym (ap (then_read (read_on most all)) z)

pub try_folded : {S A F E : Type 0} {steps : S → Option A → S → Type 0} {v : A → ℕ} {g : Mut F (ℕ × (A × Unit {0})) (Option ℕ)} {s : S} (branches : Option ℕ → ControlFlow E ℕ → Type 0) (resumes : E → Option ℕ → Type 0) (most first : ℕ) (all : List ℕ) (u : S) (f : F) (r : Option ℕ)
    → (xs : List A) × (o : Option A) × (q : F) × (a : ℕ) × YieldsThen steps s xs o u × FoldsTo {P = F × ℕ} (TryFoldTurn g branches) (f, first) xs (q, a)
    × MatchOption o (branches r (Continue a)) (λ x. (w : Option ℕ) × (h : F) × (e : E) × Called g q (a, (x, tt)) w h × branches w (Break e) × resumes e r)
    → YieldsList steps v s all
    → ((o : Option ℕ) (a : ℕ) → branches o (Continue a) → o ≡ Some a) → ((o : Option ℕ) (e : E) → branches o (Break e) → o ≡ None) → ((e : E) (o : Option ℕ) → resumes e o → o ≡ None)
    → ((a : ℕ) (x : A) (o : Option ℕ) (q : F) → Called g f (a, (x, tt)) o q → (q ≡ f) × (o ≡ added most a (v x)))
    → r ≡ read_on most all first
try_folded {S} {A} {F} {E} {steps} {v} {g} {s} branches resumes most first all u f r d y on off back gives =
    folded steps v g branches resumes most f on off back gives all s d.4.0 u d.0 d.1 f d.2 first d.3 r y.runs d.4.1 d.4.2 refl d.5 d.6
