-- What is answered of a sheet's form. Assumes nothing.
use Rattle.std.specs.Prelude.{ℕ, ◌+◌, Bool, cond, ◌&&◌, List, [], ◌∷◌, length, Ok, Err, codes, Result, ◌==◌, nat_lt, slice_index_or}
use Rattle.std.specs.Str.{bytes_eq}
use Rattle.text.specs.Parts.{parts, tab}
use Rattle.text.specs.Lines.{Line, lines}
use Rattle.refusals.specs.declared.fault.Fault.{Fault}
use Rattle.refusals.specs.declared.fault.Fault.TheVariants.{SheetTooLong, LineForm}
use Rattle.refusals.specs.declared.refusal.Refusal.{Refusal}

-- the most bytes that a sheet has
abbrev pub longest : ℕ
longest = 32768

-- a line that is ended and has five fields, the first of them the word
abbrev pub formed : List ℕ → Line → Bool
formed word l = l.ended && (length (parts tab l.text) == 5 && bytes_eq (slice_index_or (parts tab l.text) 0 []) word)

abbrev pub refusal_at : Fault → ℕ → ℕ → Refusal
refusal_at fault line field = record { fault = fault; line = line; field = field }

abbrev pub too_long : Refusal
too_long = refusal_at SheetTooLong 0 0

abbrev pub misformed_at : ℕ → Refusal
misformed_at n = refusal_at LineForm n 0

-- lines that begin with the word, the first of them number n
abbrev pub checked : List ℕ → ℕ → List Line → Result (Unit {0}) Refusal
checked word n [] = Ok tt
checked word n (l ∷ ls) = cond (formed word l) (checked (codes "at") (n + 1) ls) (Err (misformed_at n))

-- an empty sheet lacks its first line
abbrev pub checked_lines : List Line → Result (Unit {0}) Refusal
checked_lines [] = Err (misformed_at 1)
checked_lines (l ∷ ls) = checked (codes "rule") 1 (l ∷ ls)

abbrev pub form_of : List ℕ → Result (Unit {0}) Refusal
form_of sheet = cond (nat_lt longest (length sheet)) (Err too_long) (checked_lines (lines sheet))
