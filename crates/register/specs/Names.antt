-- State names: which bytes make one, and how it holds them. Assumes nothing.
use Rattle.std.specs.Prelude.{ℕ, ◌-◌, Bool, cond, ◌&&◌, List, ◌++◌, length, take, replicate, Some, None, Option, ◌==◌, nat_le}
use Rattle.std.specs.Str.{bytes_eq}
use Rattle.register.specs.declared.names.Name.{Name}

-- the name with these bytes: 0 after the last, and their number
abbrev pub as_name : List ℕ → Name
as_name bs = record { bytes = bs ++ replicate (16 - length bs) 0; len = length bs }

-- 1 to 16 bytes make a name
abbrev pub name_of : List ℕ → Option Name
name_of bs = cond (nat_le 1 (length bs) && nat_le (length bs) 16) (Some (as_name bs)) None

-- the bytes of a name
abbrev pub bytes_of : Name → List ℕ
bytes_of n = take n.len n.bytes

abbrev pub alike_names : Name → Name → Bool
alike_names a b = a.len == b.len && bytes_eq a.bytes b.bytes
