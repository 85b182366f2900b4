-- A refusal's line tells its fault, its line and its field.
use Rattle.std.proofs.Common.{◌≡◌, ℕ, ◌^◌, ◌<◌, [], ◌∷◌, codes, decimal, sym, refl, ap, ◌∙◌, arith, rules}
use Rattle.std.specs.Str.Iter.{LacksByte}
use Rattle.std.specs.Int.{IsInRange}
use Rattle.std.specs.List.{AllByRecursion}
use Rattle.std.proofs.lemmas.List.{append_cancel_right}
use Rattle.std.proofs.lemmas.Fmt.{decimal_injective}
use Rattle.text.specs.Parts.{parts, tab, line_feed}
use Rattle.text.proofs.Parting.{parts_rejoined, lacks_from_test}
use Rattle.text.proofs.Reading.{lacks_decimal}
use Rattle.refusals.specs.declared.fault.Fault.{Fault}
use Rattle.refusals.specs.declared.refusal.Refusal.{Refusal}
use Rattle.refusals.specs.Numbers.{number_of, layer_of, layer_number}
use Rattle.refusals.specs.Line.{told_fields, told_as, InRange, ToldAlone}

same_fault : (f g : Fault) → number_of f ≡ number_of g → f ≡ g
same_fault f g e = search rules

few : (f : Fault) → number_of f < 2 ^ 64
few f = search rules

few_layers : (f : Fault) → layer_number (layer_of f) < 2 ^ 64
few_layers f = search rules

no_digit : IsInRange 48 57 tab → ⊥
no_digit i = omega arith

word : LacksByte tab (codes "refused")
word = lacks_from_test tab (codes "refused") refl

-- no field has a tab
fields_clear : (r : Refusal) → InRange r → AllByRecursion (LacksByte tab) (told_fields r)
fields_clear r h = (
  word,
  (
    lacks_decimal tab (number_of r.fault) (few r.fault) no_digit,
    (
      lacks_decimal tab r.line (omega arith) no_digit,
      (
        lacks_decimal tab r.field (omega arith) no_digit,
        (lacks_decimal tab (layer_number (layer_of r.fault)) (few_layers r.fault) no_digit, tt),
      ),
    ),
  ),
)

told_back : (r : Refusal) → InRange r → parts tab (told_as r) ≡ told_fields r
told_back r h = parts_rejoined tab (told_fields r) (λ e. let z : ◌≡◌ {A = ℕ} 0 1 = cc in omega arith) (fields_clear r h)

pub told_alone : (r : Refusal) → InRange r → ToldAlone r
told_alone r h other k e =
    let t : told_as other ≡ told_as r = append_cancel_right (told_as other) (told_as r) (line_feed ∷ []) e in
    let f : told_fields other ≡ told_fields r = sym (told_back other k) ∙ ap (parts tab) t ∙ told_back r h in
    let n : decimal (number_of other.fault) ≡ decimal (number_of r.fault) = cc in
    let l : decimal other.line ≡ decimal r.line = cc in
    let d : decimal other.field ≡ decimal r.field = cc in
    (λ i. record {
      fault = same_fault other.fault r.fault (decimal_injective _ _ (few other.fault) (few r.fault) n) i;
      line = decimal_injective other.line r.line (omega arith) (omega arith) l i;
      field = decimal_injective other.field r.field (omega arith) (omega arith) d i;
    })
