-- The conditions of a line, by the tests that they make in their order.
use Rattle.std.proofs.Common.{◌≡◌, Bool, true, false, cond, not, List, [], ◌∷◌, is_some, Some, None, refl}
use Rattle.text.specs.Lines.{Line}
use Rattle.refusals.specs.declared.fault.Fault.TheVariants.{LineForm, NameLength, LetterOrColumn, SameHalts, HaltLine, TooManyNames, EndDirection, StepTwice}
use Rattle.spelling.specs.Said.{field, names, letters, halts, with_name, entry_for}
use Rattle.spelling.specs.Conditions.{if_met, earliest, first_met, step_conditions, one_too_many, wrong_way, entry_column, entry_direction}

-- of line 1 whose words are good
pub rule_tests : (a b c d e f : Bool) → a ≡ true → b ≡ true → c ≡ true → d ≡ true → e ≡ true →
    first_met ((LineForm, if_met 0 (not a)) ∷ (NameLength, earliest (if_met 3 (not b) ∷ if_met 4 (not c) ∷ if_met 5 (not d) ∷ [])) ∷ (LetterOrColumn, if_met 2 (not e)) ∷ (SameHalts, if_met 5 f) ∷ [])
    ≡ cond f (Some (SameHalts, 5)) None
rule_tests a b c d e true p q r s t = rw (p, q, r, s, t) refl
rule_tests a b c d e false p q r s t = rw (p, q, r, s, t) refl

-- of a later line whose words are good: the tests up to the first that holds
module _ (before : List Line) (l : Line) where
  abbrev halting : Bool
  halting = halts before (field 2 l)

  abbrev no_state : Bool
  no_state = one_too_many (names before) (field 2 l)

  abbrev no_next : Bool
  no_next = one_too_many (with_name (names before) (field 2 l)) (field 4 l)

  abbrev off_end : Bool
  off_end = wrong_way (letters before) (entry_column before l) (entry_direction l)

  abbrev twice : Bool
  twice = is_some (entry_for before (field 2 l) (entry_column before l))

  by_tests : (a b c d e : Bool) → halting ≡ a → no_state ≡ b → no_next ≡ c → off_end ≡ d → twice ≡ e
      → first_met (step_conditions before l) ≡ first_met ((HaltLine, if_met 2 a) ∷ (TooManyNames, earliest (if_met 2 b ∷ if_met 4 c ∷ [])) ∷ (EndDirection, if_met 5 d) ∷ (StepTwice, if_met 3 e) ∷ [])
  by_tests a b c d e p q r s t =
      (λ i. first_met ((HaltLine, if_met 2 (p i)) ∷ (TooManyNames, earliest (if_met 2 (q i) ∷ if_met 4 (r i) ∷ [])) ∷ (EndDirection, if_met 5 (s i)) ∷ (StepTwice, if_met 3 (t i)) ∷ []))

  pub step_halts : halting ≡ true → first_met (step_conditions before l) ≡ Some (HaltLine, 2)
  step_halts p = by_tests true no_state no_next off_end twice p refl refl refl refl

  pub step_state : halting ≡ false → no_state ≡ true → first_met (step_conditions before l) ≡ Some (TooManyNames, 2)
  step_state p q = by_tests false true no_next off_end twice p q refl refl refl

  pub step_next : halting ≡ false → no_state ≡ false → no_next ≡ true → first_met (step_conditions before l) ≡ Some (TooManyNames, 4)
  step_next p q r = by_tests false false true off_end twice p q r refl refl

  pub step_end : halting ≡ false → no_state ≡ false → no_next ≡ false → off_end ≡ true → first_met (step_conditions before l) ≡ Some (EndDirection, 5)
  step_end p q r s = by_tests false false false true twice p q r s refl

  pub step_twice : halting ≡ false → no_state ≡ false → no_next ≡ false → off_end ≡ false → twice ≡ true → first_met (step_conditions before l) ≡ Some (StepTwice, 3)
  step_twice p q r s t = by_tests false false false false true p q r s t

  pub step_good : halting ≡ false → no_state ≡ false → no_next ≡ false → off_end ≡ false → twice ≡ false → first_met (step_conditions before l) ≡ None
  step_good p q r s t = by_tests false false false false false p q r s t
