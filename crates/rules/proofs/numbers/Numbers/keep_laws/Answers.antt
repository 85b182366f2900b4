use Rattle.std.proofs.Common.{Bool, true, false, Decides, MatchBool, refl, rules}
use Rattle.std.proofs.lemmas.Bool.{false≢true}
use Rattle.rules.specs.Steps.{at, Sizes}
use Rattle.rules.proofs.Laws.{kept_lawful, lawful_kept}
use Rattle.rules.proofs.numbers.Numbers.keep_laws.Goals as goal

when_kept : {Z K L : Type 0} (b : Bool) → Decides b K → Z → (K → L) → (L → K) → MatchBool b (Z × K × L) (L → ⊥)
when_kept true d z f g = (z, d.0 refl, f (d.0 refl))
when_kept false d z f g = λ l. false≢true (d.1 (g l))

pub returns-then-self-4 : goal.returns-then-self-4
returns-then-self-4 c =
    let k = c.args.self.states in
    let m = c.args.self.letters in
    let s = c.args.self.start in
    let t = c.args.self.accept in
    let r = c.args.self.reject in
    let steps = at c.args.steps.now in
    let z : Sizes k m s t r = search rules in
    when_kept c.allow_all.result c.allow_all.ensures z (kept_lawful k m s t r steps z) (lawful_kept k m s t r steps)
