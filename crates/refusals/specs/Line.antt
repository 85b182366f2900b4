-- The line of text that tells a refusal: five fields parted by tabs, and a line feed. Assumes nothing.
use Rattle.std.specs.Prelude.{◌≡◌, ℕ, ◌^◌, ◌<◌, List, [], ◌∷◌, ◌++◌, codes, decimal}
use Rattle.std.specs.List.{join_with_byte}
use Rattle.text.specs.Parts.{tab, line_feed}
use Rattle.refusals.specs.Numbers.{number_of, layer_of, layer_number}
use Rattle.refusals.specs.declared.fault.Fault.{Fault}
use Rattle.refusals.specs.declared.refusal.Refusal.{Refusal}

-- a refusal that has no place in a text
abbrev pub unplaced : Fault → Refusal
unplaced f = record { fault = f; line = 0; field = 0 }

abbrev pub told_fields : Refusal → List (List ℕ)
told_fields r =
    codes "refused" ∷ decimal (number_of r.fault) ∷ decimal r.line ∷ decimal r.field
    ∷ decimal (layer_number (layer_of r.fault)) ∷ []

abbrev pub told_as : Refusal → List ℕ
told_as r = join_with_byte tab (told_fields r)

abbrev pub refusal_line : Refusal → List ℕ
refusal_line r = told_as r ++ (line_feed ∷ [])

-- its numbers fit their types
abbrev pub InRange : Refusal → Type 0
InRange r = (r.line < 2 ^ 32) × (r.field < 2 ^ 8)

-- no other refusal is told by the same line
abbrev pub ToldAlone : Refusal → Type 0
ToldAlone r = (other : Refusal) → InRange other → refusal_line other ≡ refusal_line r → other ≡ r
