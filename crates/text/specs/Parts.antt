-- The parts of a text between separator bytes. Assumes nothing.
use Rattle.std.specs.Prelude.{◌≡◌, ℕ, cond, List, [], ◌∷◌, ◌==◌}
use Rattle.std.specs.Str.Iter.{LacksByte}
use Rattle.std.specs.List.{join_with_byte, AllByRecursion}

abbrev pub tab : ℕ
tab = 9

abbrev pub line_feed : ℕ
line_feed = 10

-- b before the first of the parts
abbrev pub onto : ℕ → List (List ℕ) → List (List ℕ)
onto b [] = (b ∷ []) ∷ []
onto b (p ∷ ps) = (b ∷ p) ∷ ps

-- the parts of a text between the bytes x
abbrev pub parts : ℕ → List ℕ → List (List ℕ)
parts x [] = [] ∷ []
parts x (b ∷ bs) = cond (b == x) ([] ∷ parts x bs) (onto b (parts x bs))

-- one part or more, none with an x in it, which joined by x are the text
pub record Parted (x : ℕ) (text : List ℕ) (ps : List (List ℕ)) : Type 0 where
  pub some : ps ≡ [] → ⊥
  pub clear : AllByRecursion (LacksByte x) ps
  pub whole : join_with_byte x ps ≡ text

-- and no other parts are such
abbrev pub PartedOnly : ℕ → List ℕ → List (List ℕ) → Type 0
PartedOnly x text ps = Parted x text ps × ((qs : List (List ℕ)) → Parted x text qs → qs ≡ ps)
