-- Answers as numbers, for callers in other languages. Assumes nothing.
use Rattle.std.specs.Prelude.{ℕ, List, map, Ok, Err, Result}
use Rattle.two_way.specs.declared.Verdict.{Verdict}
use Rattle.two_way.specs.Verdicts.{number_of as verdict_number}
use Rattle.two_way.specs.Automaton.{Automaton}
use Rattle.refusals.specs.Numbers.{number_of}
use Rattle.refusals.specs.declared.refusal.Refusal.{Refusal}
use Rattle.alphabets.specs.Plain.{plain_letter}
use Rattle.engine.specs.Walks.{walk_answer}
use Rattle.engine.specs.declared.walking.Walked.{Walked}
use Rattle.exports.specs.declared.Place.{Place}
use Rattle.exports.specs.declared.Walk.{Walk}

-- 0 where the call is taken, else the refusal's number
abbrev pub code : {X : Type 0} → Result X Refusal → ℕ
code (Ok x) = 0
code (Err e) = number_of e.fault

-- where it is refused; as before where it is taken
abbrev pub place_after : {X : Type 0} → Result X Refusal → Place → Place
place_after (Ok x) p = p
place_after (Err e) p = record { line = e.line; field = e.field }

-- the number answered; as before where it is refused
abbrev pub number_after : Result ℕ Refusal → ℕ → ℕ
number_after (Ok n) old = n
number_after (Err e) old = old

abbrev pub verdict_after : Result Verdict Refusal → ℕ → ℕ
verdict_after (Ok v) old = verdict_number v
verdict_after (Err e) old = old

abbrev pub walk_after : Result Walked Refusal → Walk → Walk
walk_after (Ok x) old = record { verdict = verdict_number x.verdict; steps = x.steps }
walk_after (Err e) old = old

-- a walk of the rule that was read, over plain letters
abbrev pub walked_read : Result Automaton Refusal → List ℕ → Result Walked Refusal
walked_read (Ok A) marks = walk_answer A A.letters (map (plain_letter A.letters) marks)
walked_read (Err e) marks = Err e
