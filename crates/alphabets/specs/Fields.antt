-- The letter of a field of a catalogue's record, by its tag and first indicator. Assumes nothing.
use Rattle.std.specs.Prelude.{ℕ, cond, ◌||◌, ◌==◌}
use Rattle.alphabets.specs.declared.catalogue.Field.{Field}

-- 0 the title; 1 a series statement that is not traced, and 2 one that is; 3 a series added entry; 4 a standard number; 5 all others
abbrev pub field_letter : Field → ℕ
field_letter f =
    cond (f.tag == 245) 0
    (cond (f.tag == 490) (cond (f.indicator == 0x31) 2 1)
    (cond (f.tag == 800 || (f.tag == 810 || (f.tag == 811 || f.tag == 830))) 3
    (cond (f.tag == 20) 4 5)))
