-- The whole sheet, line by line.
use Rattle.std.proofs.Common.{◌≡◌, ℕ, ◌+◌, ◌≤◌, Bool, cond, List, [], ◌∷◌, ◌++◌, length, Some, None, Err, Option, sym, refl, ap, ◌∙◌}
use Rattle.std.proofs.lemmas.Bool.{le-ltb}
use Rattle.text.specs.Lines.{Line, lines}
use Rattle.refusals.specs.declared.fault.Fault.{Fault}
use Rattle.refusals.specs.declared.fault.Fault.TheVariants.{SheetTooLong, StepMissing}
use Rattle.refusals.specs.declared.refusal.Refusal.{Refusal}
use Rattle.spelling.specs.Said.{letters}
use Rattle.sheets.specs.Form.{longest, refusal_at}
use Rattle.spelling.specs.Conditions.{Condition, first_met, conditions, word_conditions, step_conditions, lacks, or_else, refused_from, refused_lines, refused}
use Rattle.spelling.specs.Reading.{sheet_read, read_as, rule_of}
use Rattle.spelling.proofs.LoadNames.{none_some}

split_none : (xs ys : List Condition) → first_met xs ≡ None → first_met (xs ++ ys) ≡ first_met ys
split_none [] ys e = refl
split_none ((n, None) ∷ xs) ys e = split_none xs ys e
split_none ((n, Some f) ∷ xs) ys e = absurd (none_some (n, f) (sym e))

split_some : (xs ys : List Condition) (v : Fault × ℕ) → first_met xs ≡ Some v → first_met (xs ++ ys) ≡ Some v
split_some [] ys v e = absurd (none_some v e)
split_some ((n, None) ∷ xs) ys v e = split_some xs ys v e
split_some ((n, Some f) ∷ xs) ys v e = e

-- a later line: its words, and then its step
module _ (h : Line) (es : List Line) (l : Line) where
  pub later_words : (v : Fault × ℕ) → first_met (word_conditions (letters (h ∷ es)) l) ≡ Some v → first_met (conditions (h ∷ es) l) ≡ Some v
  later_words v e = split_some (word_conditions (letters (h ∷ es)) l) (step_conditions (h ∷ es) l) v e

  pub later_step : first_met (word_conditions (letters (h ∷ es)) l) ≡ None → first_met (conditions (h ∷ es) l) ≡ first_met (step_conditions (h ∷ es) l)
  later_step e = split_none (word_conditions (letters (h ∷ es)) l) (step_conditions (h ∷ es) l) e

pub read_err : (b : List ℕ) (e : Refusal) → refused b ≡ Some e → Err e ≡ sheet_read b
read_err b e h = sym (ap (λ (o : Option Refusal). read_as o (rule_of (lines b))) h)

pub begun : (b : List ℕ) (h : Line) (ls : List Line) → length b ≤ longest → lines b ≡ h ∷ ls → refused b ≡ refused_from [] (h ∷ ls)
begun b h ls short e =
    ap (λ (t : Bool). cond t (Some (refusal_at SheetTooLong 0 0)) (refused_lines (lines b))) (le-ltb longest (length b) short)
    ∙ ap refused_lines e

-- a line that is passed, and one by which the sheet is refused
pub line_passed : (before ls : List Line) (l : Line) → first_met (conditions before l) ≡ None → refused_from before (l ∷ ls) ≡ refused_from (before ++ l ∷ []) ls
line_passed before ls l e = ap (λ (o : Option (Fault × ℕ)). or_else o (length before + 1) (refused_from (before ++ l ∷ []) ls)) e

pub line_refused : (b : List ℕ) (before ls : List Line) (l : Line) (e : Refusal) → refused b ≡ refused_from before (l ∷ ls) → e.line ≡ length before + 1 → first_met (conditions before l) ≡ Some (e.fault, e.field) → Err e ≡ sheet_read b
line_refused b before ls l e s n h =
    read_err b e
    (s ∙ ap (λ (o : Option (Fault × ℕ)). or_else o (length before + 1) (refused_from (before ++ l ∷ []) ls)) h
    ∙ ap (λ (k : ℕ). Some (refusal_at e.fault k e.field)) (sym n))

-- after the last line
pub ended : (ls : List Line) (t : Bool) → lacks ls ≡ t → refused_from ls [] ≡ cond t (Some (refusal_at StepMissing (length ls + 1) 0)) None
ended ls t e = ap (λ (s : Bool). cond s (Some (refusal_at StepMissing (length ls + 1) 0)) None) e
