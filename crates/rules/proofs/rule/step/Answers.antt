use Rattle.std.proofs.Common.{◌≡◌, ℕ, cond, eqb, Some, None, Option, unwrap_or, sym, refl, ap, ◌∙◌}
use Rattle.two_way.specs.Automaton.{Automaton, to, way, L, R}
use Rattle.two_way.proofs.Sound.{to_is, way_is, to_none, way_none}
use Rattle.rules.specs.declared.rule.Direction.{Direction}
use Rattle.rules.specs.declared.rule.Direction.TheVariants.{Left, Right}
use Rattle.rules.specs.declared.rule.Move.{Move}
use Rattle.rules.specs.Steps.{direction_number, told, way_of, stay}
use Rattle.rules.proofs.rule.step.Goals as goal

-- a step, or none, in the two views
to_by : (A : Automaton) (q c : ℕ) (o : Option Move) → told o ≡ A.next q c → (unwrap_or o (stay q)).to ≡ to A q c
to_by A q c (Some x) e = sym (to_is A q c x.to (direction_number x.direction) (sym e))
to_by A q c None e = sym (to_none A q c (sym e))

way_by : (A : Automaton) (q c : ℕ) (o : Option Move) → told o ≡ A.next q c → way A q c ≡ way_of (unwrap_or o (stay q)).direction
way_by A q c (Some x) e = way_is A q c x.to (direction_number x.direction) (sym e) ∙ same x.direction
  where
    same : (d : Direction) → cond (eqb (direction_number d) 1) R L ≡ way_of d
    same Left = refl
    same Right = refl
way_by A q c None e = way_none A q c (sym e)

pub returns : goal.returns
returns g c =
    let A = g.R.Rule.meaning c.args.rule.now in
    let q = c.args.state in
    let o = c.next.result in
    let p = c.unwrap_or.ensures ∙ ap (unwrap_or o) c.stay.ensures in
    record {
      to = ap (λ (s : Move). s.to) p ∙ to_by A q c.args.column o c.next.ensures;
      way = way_by A q c.args.column o c.next.ensures ∙ sym (ap (λ (s : Move). way_of s.direction) p);
    }
