use Rattle.std.proofs.Common.{◌≡◌, true, List, ◌∷◌, length, is_some, Some, None, Option, sym, refl, ap, ◌∙◌, subst}
use Rattle.std.proofs.lemmas.List.{length-map}
use Rattle.text.specs.Lines.{Line}
use Rattle.two_way.specs.Automaton.{Automaton, Lawful}
use Rattle.register.specs.Names.{as_name}
use Rattle.rules.specs.Kinds.{Loaded}
use Rattle.rules.specs.declared.stored.StoredRule.{StoredRule}
use Rattle.spelling.specs.Said.{names}
use Rattle.loading.specs.Drawn.{Drawn}
use Rattle.loading.proofs.Finishing.{gap_lacks, none_lacks, rule_is}
use Rattle.loading.proofs.draft.Draft.finish.Goals as goal
use Rattle.loading.proofs.draft.Draft.finish.Goals.{After-count-states}

states_are : (c : After-count-states) (h : Line) (es : List Line) → Drawn h es c.args.self.now → c.count-states.result ≡ length (names (h ∷ es))
states_are c h es D = c.count-states.ensures.count ∙ ap length D.named ∙ length-map (names (h ∷ es)) as_name

is_loaded : (A : Automaton) (o : Option StoredRule) → Loaded A o → Lawful A → is_some o ≡ true
is_loaded A None h l = absurd (h l)
is_loaded A (Some x) h l = refl

pub returns-then-lacks : goal.returns-then-lacks
returns-then-lacks c h es D =
    let g = c.lacks.ensures.gap c.if-lacks.true in
    (gap_lacks h es c.args.self.now D c.count-states.result (states_are (goal.at.returns-then-lacks c).After-count-states h es D) c.count-states.ensures.few g.0 g.1 g.2, refl)

pub unwrap-rule-requires : goal.unwrap-rule-requires
unwrap-rule-requires c =
    let R = c.requires in
    let x = c.args.self.now in
    let k = c.count-states.result in
    let e = states_are (goal.at.unwrap-rule-requires c).After-count-states R.head R.rest R.drawn in
    let few = c.count-states.ensures.few in
    let full = c.lacks.ensures.full c.if-lacks.false in
    is_loaded _ c.from_steps.result c.from_steps.ensures
    (subst Lawful (sym (rule_is R.head R.rest x R.drawn k e few c.table.result c.table.ensures))
    (R.lawful (none_lacks R.head R.rest x R.drawn k e few full)))

pub returns : goal.returns
returns c h es D =
    let x = c.args.self.now in
    let k = c.count-states.result in
    let e = states_are (goal.at.returns c).After-count-states h es D in
    let few = c.count-states.ensures.few in
    let full = c.lacks.ensures.full c.if-lacks.false in
    (none_lacks h es x D k e few full, (rw c.unwrap-rule.ensures at c.from_steps.ensures).1 ∙ rule_is h es x D k e few c.table.result c.table.ensures)
