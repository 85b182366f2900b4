-- The letter of a byte of a title, by ranges. Assumes nothing.
use Rattle.std.specs.Prelude.{ℕ, suc, Bool, true, cond, ◌&&◌, ◌||◌, List, [], ◌∷◌, ◌==◌, nat_le}

-- whether x is from a to b
abbrev pub from_to : ℕ → ℕ → ℕ → Bool
from_to a b x = nat_le a x && nat_le x b

-- 0 digits; 1 ASCII letters; 2 the space; 3 the marks , - . / : ; 4 opening and 5 closing brackets; 6 bytes past ASCII; 7 all others
abbrev pub title_letter : ℕ → ℕ
title_letter b =
    cond (from_to 0x30 0x39 b) 0
    (cond (from_to 0x41 0x5A b || from_to 0x61 0x7A b) 1
    (cond (b == 0x20) 2
    (cond (from_to 0x2C 0x2F b || from_to 0x3A 0x3B b) 3
    (cond (b == 0x28 || b == 0x5B) 4
    (cond (b == 0x29 || b == 0x5D) 5
    (cond (nat_le 0x80 b) 6 7))))))

-- whether each entry of a table is what the rule gives for its place, counted from i
abbrev pub follows : (ℕ → ℕ) → ℕ → List ℕ → Bool
follows rule i [] = true
follows rule i (x ∷ xs) = x == rule i && follows rule (suc i) xs
