use Rattle.std.proofs.Common.{◌*◌, ◌%◌, ◌^◌, Bool, true, false, ltb, MatchBool, arith}
use Rattle.std.proofs.lemmas.Nat.{one_shl}
use Rattle.std.proofs.lemmas.Bool.Decides.{nat_tests}
use Rattle.rules.specs.Distance.{Ranged}
use Rattle.rules.proofs.Counting.{distance_decides}
use Rattle.rules.proofs.distance.answers.ranged.Goals as goal

when_so : {P Q : Type 0} (b : Bool) → MatchBool b P (P → ⊥) → (P → Q) → MatchBool b Q (Unit {0})
when_so true p f = f p
when_so false n f = tt

pub returns : goal.returns
returns c =
    let d = c.args.distance in
    let m = c.args.letters in
    let set = c.args.set in
    let e = one_shl m 32 (omega arith) in
    let t = ltb set ((1 * 2 ^ m) % 2 ^ 32) in
    let a : MatchBool t (Ranged d m set) (Ranged d m set → ⊥) = grind (arith, nat_tests) in
    record { answer = a; decides = when_so t a (distance_decides d m set) }
