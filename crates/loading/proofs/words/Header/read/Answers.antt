use Rattle.std.proofs.Common.{◌≡◌, Bool, cond, is_some, Some, None, codes, sym, ap, ◌∙◌}
use Rattle.std.specs.Str.{bytes_eq}
use Rattle.text.specs.Left.{line_of}
use Rattle.refusals.specs.declared.fault.Fault.TheVariants.{SameHalts}
use Rattle.register.specs.Names.{alike_names, as_name}
use Rattle.register.proofs.Naming.{alike_as_names}
use Rattle.spelling.specs.Words.{is_name, letters_of}
use Rattle.spelling.specs.Said.{field}
use Rattle.spelling.proofs.LoadTests.{rule_tests}
use Rattle.loading.proofs.Entering.{telling}
use Rattle.loading.proofs.Formed.{fielded}
use Rattle.loading.proofs.words.Header.read.Goals as goal

pub returns-then-eq : goal.returns-then-eq
returns-then-eq c =
    let l = line_of c.args.row.line in
    let w = c.in_ok-fields.ensures in
    let f = fielded (codes "rule") l c.in_ok-fields.fields w.1 in
    let a = c.in_ok-accept.ensures in
    let r = c.in_ok-reject.ensures in
    let accept : c.in_ok-accept.accept ≡ as_name (field 4 l) = a.1 ∙ ap as_name (sym f.fourth) in
    let reject : c.in_ok-reject.reject ≡ as_name (field 5 l) = r.1 ∙ ap as_name (sym f.fifth) in
    let letters : letters_of (field 2 l) ≡ Some c.in_ok-letters.letters = ap letters_of f.second ∙ sym c.read_letters.ensures ∙ c.in_ok-letters.ensures.ok_part in
    let alike : bytes_eq (field 4 l) (field 5 l) ≡ c.eq.result =
    sym (alike_as_names (field 4 l) (field 5 l)) ∙ sym (λ i. alike_names (accept i) (reject i)) ∙ sym c.eq.ensures in
    telling _ _ _ _ _ c.refused-then-eq.ensures
    (rule_tests _ _ _ _ _ _ w.0 (ap is_name f.third ∙ c.in_ok-start.ensures.0) (ap is_name f.fourth ∙ a.0) (ap is_name f.fifth ∙ r.0) (ap is_some letters)
    ∙ ap (λ (b : Bool). cond b (Some (SameHalts, 5)) None) (alike ∙ c.if-eq.true))
