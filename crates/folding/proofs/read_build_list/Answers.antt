use Rattle.std.proofs.Common.{◌≡◌, ap, ◌∙◌}
use Rattle.alphabets.specs.Plain.{letter_count}
use Rattle.rules.specs.Kinds.{of_stored}
use Rattle.folding.proofs.Foldings.{plain_count, fold_done}
use Rattle.folding.proofs.read_build_list.Goals as goal

pub returns : goal.returns
returns c =
    let rule = c.in_ok-rule.rule in
    let letters : c.new.result.count ≡ (of_stored rule).letters =
    c.new.ensures ∙ (ap letter_count c.letters.ensures ∙ plain_count rule.numbers.letters rule.sizes.0.2 rule.sizes.0.3) in
    fold_done c.args.sheet.now rule c.new.result c.new-engine.result c.build.new.self
    (record { tables = c.args.tables.now; dfa = c.args.dfa.now; out = c.args.out.now })
    c.in_ok-build.field-0 c.build.new.tables c.build.new.dfa c.write_listing.result c.write_listing.new.out
    c.in_ok-rule.ensures.answer letters c.new-engine.ensures c.in_ok-build.ensures.answer
    c.build.ensures.engine c.build.ensures.tables c.build.ensures.dfa c.write_listing.ensures.answer c.write_listing.ensures.out
