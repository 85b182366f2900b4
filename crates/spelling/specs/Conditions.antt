-- The conditions by which a sheet is refused, and the first of them that is met. Assumes nothing.
use Rattle.std.specs.Prelude.{ℕ, zero, suc, ◌+◌, Bool, false, cond, not, ◌&&◌, ◌||◌, List, [], ◌∷◌, ◌++◌, length, is_some, Some, None, codes, Option, ◌==◌, nat_lt}
use Rattle.std.specs.Option.{unwrap_or}
use Rattle.std.specs.Str.{bytes_eq}
use Rattle.text.specs.Lines.{Line, lines}
use Rattle.refusals.specs.declared.fault.Fault.{Fault}
use Rattle.refusals.specs.declared.fault.Fault.TheVariants.{SheetTooLong, LineForm, NameLength, LetterOrColumn, Direction, SameHalts, HaltLine, TooManyNames, EndDirection, StepTwice, StepMissing}
use Rattle.refusals.specs.declared.refusal.Refusal.{Refusal}
use Rattle.sheets.specs.Form.{longest, formed, refusal_at}
use Rattle.spelling.specs.Words.{is_name, letters_of, column_of, direction_of}
use Rattle.spelling.specs.Said.{field, with_name, names, letters, halts, entry_for}

-- a condition, and the field that meets it, if one does: 0 for the whole line
abbrev pub Condition : Type 0
Condition = Fault × Option ℕ

abbrev pub if_met : ℕ → Bool → Option ℕ
if_met f b = cond b (Some f) None

-- the first of the fields
abbrev pub earliest : List (Option ℕ) → Option ℕ
earliest [] = None
earliest (None ∷ os) = earliest os
earliest (Some f ∷ os) = Some f

-- the first of the conditions that is met, with its field
abbrev pub first_met : List Condition → Option (Fault × ℕ)
first_met [] = None
first_met ((n, None) ∷ rs) = first_met rs
first_met ((n, Some f) ∷ rs) = Some (n, f)

abbrev pub bad_name : Line → ℕ → Option ℕ
bad_name l f = if_met f (not (is_name (field f l)))

-- line 1
abbrev pub rule_conditions : Line → List Condition
rule_conditions l =
    (LineForm, if_met 0 (not (formed (codes "rule") l)))
    ∷ (NameLength, earliest (bad_name l 3 ∷ bad_name l 4 ∷ bad_name l 5 ∷ []))
    ∷ (LetterOrColumn, if_met 2 (not (is_some (letters_of (field 2 l)))))
    ∷ (SameHalts, if_met 5 (bytes_eq (field 4 l) (field 5 l)))
    ∷ []

-- at the left end, column m, the direction is R (1), and at the right end, column m + 1, it is L (0)
abbrev pub wrong_way : ℕ → ℕ → ℕ → Bool
wrong_way m c d = (c == m && d == 0) || (c == m + 1 && d == 1)

abbrev pub entry_column : List Line → Line → ℕ
entry_column before l = unwrap_or (column_of (letters before) (field 3 l)) 0

abbrev pub entry_direction : Line → ℕ
entry_direction l = unwrap_or (direction_of (field 5 l)) 0

-- with this name there are more than 32
abbrev pub one_too_many : List (List ℕ) → List ℕ → Bool
one_too_many ns x = nat_lt 32 (length (with_name ns x))

-- a later line, among m letters: its form and its words
abbrev pub word_conditions : ℕ → Line → List Condition
word_conditions m l =
    (LineForm, if_met 0 (not (formed (codes "at") l)))
    ∷ (NameLength, earliest (bad_name l 2 ∷ bad_name l 4 ∷ []))
    ∷ (LetterOrColumn, if_met 3 (not (is_some (column_of m (field 3 l)))))
    ∷ (Direction, if_met 5 (not (is_some (direction_of (field 5 l)))))
    ∷ []

-- a later line, after those before it: its step
abbrev pub step_conditions : List Line → Line → List Condition
step_conditions before l =
    (HaltLine, if_met 2 (halts before (field 2 l)))
    ∷ (TooManyNames, earliest (if_met 2 (one_too_many (names before) (field 2 l)) ∷ if_met 4 (one_too_many (with_name (names before) (field 2 l)) (field 4 l)) ∷ []))
    ∷ (EndDirection, if_met 5 (wrong_way (letters before) (entry_column before l) (entry_direction l)))
    ∷ (StepTwice, if_met 3 (is_some (entry_for before (field 2 l) (entry_column before l))))
    ∷ []

-- a line, after those before it
abbrev pub conditions : List Line → Line → List Condition
conditions [] l = rule_conditions l
conditions (h ∷ es) l = word_conditions (letters (h ∷ es)) l ++ step_conditions (h ∷ es) l

-- some column below n has no entry for the name
abbrev pub lacks_below : List Line → List ℕ → ℕ → Bool
lacks_below ls x zero = false
lacks_below ls x (suc c) = not (is_some (entry_for ls x c)) || lacks_below ls x c

abbrev pub any_lacks : List Line → List (List ℕ) → Bool
any_lacks ls [] = false
any_lacks ls (x ∷ xs) = (not (halts ls x) && lacks_below ls x (letters ls + 2)) || any_lacks ls xs

-- a state other than the accept and the reject state lacks a column
abbrev pub lacks : List Line → Bool
lacks ls = any_lacks ls (names ls)

abbrev pub or_else : Option (Fault × ℕ) → ℕ → Option Refusal → Option Refusal
or_else None n s = s
or_else (Some p) n s = Some (refusal_at p.0 n p.1)

-- the lines in their order, each after those before it; at last the missing columns
abbrev pub refused_from : List Line → List Line → Option Refusal
refused_from before [] = cond (lacks before) (Some (refusal_at StepMissing (length before + 1) 0)) None
refused_from before (l ∷ ls) = or_else (first_met (conditions before l)) (length before + 1) (refused_from (before ++ (l ∷ [])) ls)

abbrev pub refused_lines : List Line → Option Refusal
refused_lines [] = Some (refusal_at LineForm 1 0)
refused_lines (l ∷ ls) = refused_from [] (l ∷ ls)

-- why a sheet is refused, if it is
abbrev pub refused : List ℕ → Option Refusal
refused b = cond (nat_lt longest (length b)) (Some (refusal_at SheetTooLong 0 0)) (refused_lines (lines b))
