-- What is told of a line, and the names that it brings.
use Rattle.std.proofs.Common.{◌≡◌, ℕ, ◌<◌, true, ◌||◌, List, ◌∷◌, map, length, is_some, Some, None, Err, Option, Result, sym, refl, ap, ◌∙◌, arith}
use Rattle.std.proofs.lemmas.Bool.{ltb-true}
use Rattle.std.specs.Option.{ok_or}
use Rattle.std.specs.Str.{bytes_eq}
use Rattle.text.specs.Lines.{Line}
use Rattle.refusals.specs.declared.fault.Fault.{Fault}
use Rattle.refusals.specs.declared.refusal.Refusal.{Refusal}
use Rattle.register.specs.Keys.{seat_of, keys_after}
use Rattle.register.specs.Names.{as_name, alike_names}
use Rattle.register.specs.declared.names.Name.{Name}
use Rattle.register.proofs.Naming.{alike_as_names}
use Rattle.spelling.specs.Said.{field, halts, with_name}
use Rattle.sheets.specs.Form.{refusal_at}
use Rattle.spelling.specs.Conditions.{one_too_many}
use Rattle.spelling.proofs.Order.{few_with}
use Rattle.spelling.proofs.LoadSeats.{unseated}
use Rattle.loading.specs.Fields.{Heads}
use Rattle.loading.specs.Telling.{told_on}
use Rattle.loading.specs.declared.words.Header.{Header}

pub telling : (e : Refusal) (fault : Fault) (n f : ℕ) (o : Option (Fault × ℕ)) → e ≡ refusal_at fault n f → o ≡ Some (fault, f) → told_on n e o
telling e fault n f o h m = (ap (λ (x : Refusal). x.line) h, m ∙ sym (ap (λ (x : Refusal). Some (x.fault, x.field)) h))

pub alike_is : (a b : Name) (f g : List ℕ) → a ≡ as_name f → b ≡ as_name g → alike_names a b ≡ bytes_eq f g
alike_is a b f g p q = (λ i. alike_names (p i) (q i)) ∙ alike_as_names f g

pub halting : (h : Line) (es : List Line) (x : Header) (k : Name) (f : List ℕ) → Heads h x → k ≡ as_name f → (alike_names x.accept k || alike_names x.reject k) ≡ halts (h ∷ es) f
halting h es x k f H e = (λ i. alike_is x.accept k (field 4 h) f H.accept e i || alike_is x.reject k (field 5 h) f H.reject e i)

-- there is room for a name
pub roomy : (ns : List (List ℕ)) (f : List ℕ) → length ns < 32 → one_too_many ns f ≡ true → ⊥
roomy ns f l t = omega (arith, ltb-true 32 (length (with_name ns f)) t, few_with ns f)

pub is_seated : (ns : List (List ℕ)) (f : List ℕ) (xs ys : List Name) (k : Name) → xs ≡ map as_name ns → k ≡ as_name f → ys ≡ keys_after alike_names 32 xs k → length ns < 32 → (o : Option ℕ) → o ≡ seat_of alike_names 32 xs k → is_some o ≡ true
is_seated ns f xs ys k names name after l None e = absurd (roomy ns f l (unseated ns f xs ys k names name after e))
is_seated ns f xs ys k names name after l (Some i) e = refl

-- the refusal that stands for a missing value
pub err_is : {A : Type 0} (o : Option A) (x e : Refusal) → o ≡ None → ◌≡◌ {A = Result A Refusal} (Err e) (ok_or o x) → e ≡ x
err_is {A} o x e n h = let g : ◌≡◌ {A = Result A Refusal} (Err e) (Err x) = h ∙ ap (λ (p : Option A). ok_or p x) n in cc
