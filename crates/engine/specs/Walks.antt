-- What a walk answers. Assumes nothing.
use Rattle.std.specs.Prelude.{ℕ, zero, suc, cond, List, length, Ok, Err, Result, ◌==◌, nat_lt}
use Rattle.two_way.specs.declared.Verdict.{Verdict}
use Rattle.two_way.specs.Automaton.{Automaton}
use Rattle.two_way.specs.Runs.{Config, column, step, begin, most}
use Rattle.refusals.specs.declared.fault.Fault.TheVariants.{LettersDiffer, TitleTooLong}
use Rattle.refusals.specs.declared.refusal.Refusal.{Refusal}
use Rattle.refusals.specs.Line.{unplaced}
use Rattle.engine.specs.declared.walking.Walked.{Walked}

abbrev pub found : Verdict → ℕ → Walked
found v n = record { verdict = v; steps = n }

-- at most f turns from x, n steps made; where they are used up it loops, and the count is the limit
abbrev pub walk_from : Automaton → (ℕ → ℕ) → ℕ → ℕ → Config → ℕ → Walked
walk_from A c limit zero x n = found Verdict.Loops limit
walk_from A c limit (suc f) x n =
    cond (x.state == A.accept) (found Verdict.Accepts n)
    (cond (x.state == A.reject) (found Verdict.Rejects n) (walk_from A c limit f (step A c x) (suc n)))

abbrev pub walked : Automaton → List ℕ → Walked
walked A w = walk_from A (column A w) (most A (length w)) (suc (most A (length w))) (begin A) 0

-- with an alphabet of m letters
abbrev pub walk_answer : Automaton → ℕ → List ℕ → Result Walked Refusal
walk_answer A m w =
    cond (A.letters == m) (cond (nat_lt 65536 (length w)) (Err (unplaced TitleTooLong)) (Ok (walked A w))) (Err (unplaced LettersDiffer))
