-- What the answer to a sheet says: the rule that it spells, or the first condition met. Assumes nothing.
use Rattle.std.specs.Prelude.{◌≡◌, ℕ, ◌+◌, ◌<◌, ◌≤◌, true, ◌⊎◌, List, [], ◌∷◌, ◌++◌, length, Some, Ok, Err, Result, ◌≢◌}
use Rattle.std.specs.List.{slice_get}
use Rattle.text.specs.Lines.{Line, lines}
use Rattle.refusals.specs.declared.fault.Fault.{Fault}
use Rattle.refusals.specs.declared.fault.Fault.TheVariants.{SheetTooLong, LineForm, StepMissing}
use Rattle.refusals.specs.declared.refusal.Refusal.{Refusal}
use Rattle.refusals.specs.Numbers.{number_of}
use Rattle.two_way.specs.Automaton.{Automaton}
use Rattle.sheets.specs.Form.{longest, refusal_at}
use Rattle.spelling.specs.Conditions.{conditions, lacks}
use Rattle.spelling.specs.Spells.{Spells}

-- the condition is met at this line and field
pub data Meets (b : List ℕ) : Refusal → Type 0 where
  too_long : longest < length b → Meets b (refusal_at SheetTooLong 0 0)
  empty : b ≡ [] → Meets b (refusal_at LineForm 1 0)
  on_line : (before after : List Line) (l : Line) (fault : Fault) (field i : ℕ) → lines b ≡ before ++ (l ∷ after)
      → slice_get (conditions before l) i ≡ Some (fault, Some field) → Meets b (refusal_at fault (length before + 1) field)
  missing : (b ≢ []) → lacks (lines b) ≡ true → Meets b (refusal_at StepMissing (length (lines b) + 1) 0)

-- by line, then by number, then by field
abbrev pub Before : Refusal → Refusal → Type 0
Before e u = (e.line < u.line) ⊎ ((e.line ≡ u.line) × ((number_of e.fault < number_of u.fault) ⊎ ((e.fault ≡ u.fault) × (e.field ≤ u.field))))

-- taken: no condition is met; refused: by the first condition met
abbrev pub FirstMet : List ℕ → Result Automaton Refusal → Type 0
FirstMet b (Ok A) = (u : Refusal) → Meets b u → ⊥
FirstMet b (Err e) = Meets b e × ((u : Refusal) → Meets b u → Before e u)

-- taken: the sheet spells this rule and no other; refused: it spells none
abbrev pub Spelled : List ℕ → Result Automaton Refusal → Type 0
Spelled b (Ok A) = Spells b A × ((B : Automaton) → Spells b B → B ≡ A)
Spelled b (Err e) = (A : Automaton) → Spells b A → ⊥
