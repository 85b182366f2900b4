-- Nine worked cases: what a build, a listing or a walk gives for small rules. Assumes nothing.
use Rattle.std.specs.Prelude.{ℕ, List, [], ◌∷◌, ◌++◌, map, take, replicate, Ok, Err, codes, Result}
use Rattle.two_way.specs.declared.Verdict.{Verdict}
use Rattle.two_way.specs.Automaton.{Automaton}
use Rattle.two_way.specs.Pairs.{pair}
use Rattle.refusals.specs.declared.fault.Fault.{Fault}
use Rattle.refusals.specs.declared.fault.Fault.TheVariants.{TooFewPlaces}
use Rattle.refusals.specs.declared.refusal.Refusal.{Refusal}
use Rattle.rules.specs.Distance.{distance_rule}
use Rattle.dfa.specs.declared.rows.DfaRow.{DfaRow}
use Rattle.dfa.specs.Rows.{blank_row}
use Rattle.engine.specs.declared.walking.Walked.{Walked}
use Rattle.engine.specs.Walks.{walk_answer}
use Rattle.engine.specs.Calls.{build_answer, build_dfa}
use Rattle.listings.specs.Listing.{listing, line}
use Rattle.spelling.specs.Reading.{sheet_read}

-- where the rule comes from
pub data Source : Type 0 where
  rule : Automaton → Source
  sheet : List ℕ → Source

-- what is done with it: a build with so many places, the listing of that, or a walk over letters
pub data Question : Type 0 where
  build : ℕ → Question
  list : ℕ → Question
  walk : List ℕ → Question

-- what that gives; a row is its cells, as many as there are letters, and its verdict's number
pub data Given : Type 0 where
  rows : List (List ℕ × ℕ) → Given
  text : List ℕ → Given
  walked : Verdict → ℕ → Given
  refused : Fault → Given

abbrev row_of : ℕ → DfaRow → List ℕ × ℕ
row_of m d = (take m d.cells, d.verdict)

-- a build into blank places
abbrev pub built : Automaton → ℕ → Result ℕ Refusal → Given
built A p (Ok n) = rows (map (row_of A.letters) (take n (build_dfa A A.letters p (replicate p blank_row))))
built A p (Err e) = refused e.fault

abbrev pub listed : Automaton → ℕ → Result ℕ Refusal → Given
listed A p (Ok n) = text (listing n A.letters (build_dfa A A.letters p (replicate p blank_row)))
listed A p (Err e) = refused e.fault

abbrev pub walked_as : Result Walked Refusal → Given
walked_as (Ok f) = walked f.verdict f.steps
walked_as (Err e) = refused e.fault

abbrev pub asked_of : Automaton → Question → Given
asked_of A (build p) = built A p (build_answer A A.letters p)
asked_of A (list p) = listed A p (build_answer A A.letters p)
asked_of A (walk w) = walked_as (walk_answer A A.letters w)

abbrev pub asked_read : Result Automaton Refusal → Question → Given
asked_read (Ok A) q = asked_of A q
asked_read (Err e) q = refused e.fault

abbrev pub given : Source → Question → Given
given (rule A) q = asked_of A q
given (sheet b) q = asked_read (sheet_read b) q

pub record Case : Type 0 where
  pub source : Source
  pub question : Question
  pub gives : Given

abbrev pub case : Source → Question → Given → Case
case s q g = record { source = s; question = q; gives = g }

-- the mark at a distance from the end is letter 0, of 2 letters
abbrev pub back : ℕ → Automaton
back d = distance_rule d 2 1

-- a rule that goes back and forth for ever
abbrev pub restless : List ℕ
restless =
    line (codes "rule" ∷ codes "1" ∷ codes "w" ∷ codes "yes" ∷ codes "no" ∷ [])
    ++ line (codes "at" ∷ codes "w" ∷ codes "<" ∷ codes "w" ∷ codes "R" ∷ [])
    ++ line (codes "at" ∷ codes "w" ∷ codes "0" ∷ codes "w" ∷ codes "L" ∷ [])
    ++ line (codes "at" ∷ codes "w" ∷ codes ">" ∷ codes "w" ∷ codes "L" ∷ [])

-- a rule that accepts at once
abbrev pub content : List ℕ
content = line (codes "rule" ∷ codes "1" ∷ codes "w" ∷ codes "w" ∷ codes "no" ∷ [])

abbrev pub cases : List Case
cases =
    case (rule (back 1)) (build 4) (rows ((1 ∷ 0 ∷ [], 2) ∷ (1 ∷ 0 ∷ [], 1) ∷ []))
    ∷ case (rule (back 2)) (build 4) (rows ((1 ∷ 0 ∷ [], 2) ∷ (2 ∷ 3 ∷ [], 2) ∷ (2 ∷ 3 ∷ [], 1) ∷ (1 ∷ 0 ∷ [], 1) ∷ []))
    ∷ case (sheet restless) (list 256) (text (line (codes "shelf" ∷ codes "2" ∷ codes "1" ∷ []) ++ line (codes "row" ∷ codes "0" ∷ codes "3" ∷ codes "1" ∷ []) ++ line (codes "row" ∷ codes "1" ∷ codes "3" ∷ codes "1" ∷ [])))
    ∷ case (rule (back 1)) (walk (0 ∷ [])) (walked Verdict.Accepts 4)
    ∷ case (rule (back 1)) (walk []) (walked Verdict.Rejects 3)
    ∷ case (sheet restless) (walk []) (walked Verdict.Loops 2)
    ∷ case (sheet restless) (walk (0 ∷ [])) (walked Verdict.Loops 3)
    ∷ case (rule (pair (back 1) (back 1))) (walk (0 ∷ [])) (walked Verdict.Accepts 10)
    ∷ case (rule (back 2)) (build 3) (refused TooFewPlaces)
    ∷ case (sheet content) (build 4) (rows ((0 ∷ [], 1) ∷ []))
    ∷ case (sheet content) (walk []) (walked Verdict.Accepts 0)
    ∷ []
