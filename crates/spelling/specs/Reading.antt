-- The rule that a sheet's lines give, and what is read of a sheet. Assumes nothing.
use Rattle.std.specs.Prelude.{ℕ, cond, List, [], length, Some, None, Ok, Err, Option, Result, slice_index_or}
use Rattle.std.specs.Option.{unwrap_or}
use Rattle.text.specs.Lines.{Line, lines}
use Rattle.refusals.specs.declared.refusal.Refusal.{Refusal}
use Rattle.two_way.specs.Automaton.{Automaton}
use Rattle.rules.specs.Steps.{automaton, onward}
use Rattle.spelling.specs.Said.{field, names, state_of, letters, start_name, accept_name, reject_name, halts, entry_for}
use Rattle.spelling.specs.Conditions.{entry_direction, refused}

-- what an entry says: the next state and the direction
abbrev pub step_of : List (List ℕ) → Option Line → Option (ℕ × ℕ)
step_of ns None = None
step_of ns (Some e) = Some (state_of ns (field 4 e), entry_direction e)

-- the step of state q at column c: accept and reject keep themselves, the others have entries
abbrev pub step_in : List Line → ℕ → ℕ → ℕ × ℕ
step_in ls q c =
    cond (halts ls (slice_index_or (names ls) q [])) (q, onward (letters ls) c)
    (unwrap_or (step_of (names ls) (entry_for ls (slice_index_or (names ls) q []) c)) (0, 0))

abbrev pub rule_of : List Line → Automaton
rule_of ls =
    automaton (length (names ls)) (letters ls)
    (state_of (names ls) (start_name ls)) (state_of (names ls) (accept_name ls)) (state_of (names ls) (reject_name ls))
    (step_in ls)

abbrev pub read_as : Option Refusal → Automaton → Result Automaton Refusal
read_as None A = Ok A
read_as (Some e) A = Err e

-- the refusal, or the rule of the lines
abbrev pub sheet_read : List ℕ → Result Automaton Refusal
sheet_read b = read_as (refused b) (rule_of (lines b))
