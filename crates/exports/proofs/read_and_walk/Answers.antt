use Rattle.std.proofs.Common.{◌≡◌, map, Result, ap, ◌∙◌}
use Rattle.two_way.specs.Automaton.{Automaton}
use Rattle.refusals.specs.declared.refusal.Refusal.{Refusal}
use Rattle.alphabets.specs.Plain.{letter_count, plain_letter}
use Rattle.rules.specs.Kinds.{of_stored}
use Rattle.engine.specs.Walks.{walk_answer}
use Rattle.folding.proofs.Foldings.{plain_count}
use Rattle.exports.specs.Codes.{walked_read}
use Rattle.exports.proofs.read_and_walk.Goals as goal

pub returns : goal.returns
returns c =
    let rule = c.in_ok-rule.rule in
    let marks = c.args.marks.now in
    let letters : c.new.result.count ≡ (of_stored rule).letters =
    c.new.ensures ∙ (ap letter_count c.letters.ensures ∙ plain_count rule.numbers.letters rule.sizes.0.2 rule.sizes.0.3) in
    c.walk.ensures ∙ ((λ i. walk_answer (of_stored rule) (letters i) (map (plain_letter (letters i)) marks))
    ∙ ap (λ (t : Result Automaton Refusal). walked_read t marks) c.in_ok-rule.ensures.answer)
