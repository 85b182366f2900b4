-- A text is read as a number exactly where it is the number's digits.
use Rattle.std.proofs.Common.{◌≡◌, ℕ, ◌+◌, ◌-◌, ◌*◌, ◌^◌, ◌<◌, ◌≤◌, Bool, true, false, cond, ◌&&◌, leb, ◌⊎◌, List, [], ◌∷◌, length, get_or, Some, None, decimal, Option, sym, refl, ap, subst, inl, inr, le_refl, not-suc-le-zero, zero-lt-suc, arith, rules}
use Rattle.std.specs.Str.Iter.{LacksByte}
use Rattle.std.specs.Char.{is_ascii_digit}
use Rattle.std.specs.Int.{IsInRange}
use Rattle.std.specs.Str.{all_ascii_digits}
use Rattle.std.proofs.lemmas.Bool.{cases_eq, and_parts, and_right, leb-true, le-leb, lt-leb, leb-false, eqb-false, ne_eqb, not-true, not_from_false, cond-false}
use Rattle.std.proofs.lemmas.Str.Parse.{IsNumeralModel, numerals_by_fold, not_in_digits}
use Rattle.std.proofs.lemmas.Fmt.{decimal_digit, decimal_nonempty, decimal-digits_value, digits_decimal, digits_value-decimal, first_decimal}
use Rattle.text.specs.Numbers.{plain, value_after, number, WrittenAs}

-- one digit more, and all the digits of a text, up to a bound
abbrev pub added : ℕ → ℕ → ℕ → Option ℕ
added most n b = cond (is_ascii_digit b && leb (n * 10 + (b - 48)) most) (Some (n * 10 + (b - 48))) None

abbrev pub then_read : (ℕ → Option ℕ) → Option ℕ → Option ℕ
then_read f None = None
then_read f (Some n) = f n

abbrev pub read_on : ℕ → List ℕ → ℕ → Option ℕ
read_on most [] n = Some n
read_on most (b ∷ bs) n = then_read (read_on most bs) (added most n b)

-- the number only grows
value_grows : (bs : List ℕ) (n : ℕ) → n ≤ value_after n bs
value_grows [] n = le_refl n
value_grows (b ∷ bs) n = let h = value_grows bs (n * 10 + (b - 48)) in omega arith

abbrev told : ℕ → List ℕ → ℕ → Option ℕ
told most bs n = cond (all_ascii_digits bs && leb (value_after n bs) most) (Some (value_after n bs)) None

pub read_on_is : (most : ℕ) (bs : List ℕ) (n : ℕ) → n ≤ most → read_on most bs n ≡ told most bs n
read_on_is most [] n h = rw (le-leb n most h) refl
read_on_is most (b ∷ bs) n h = digit (is_ascii_digit b) (leb (n * 10 + (b - 48)) most) refl refl (λ l. read_on_is most bs (n * 10 + (b - 48)) l)
  where
    digit : (d w : Bool) → is_ascii_digit b ≡ d → leb (n * 10 + (b - 48)) most ≡ w
        → (n * 10 + (b - 48) ≤ most → read_on most bs (n * 10 + (b - 48)) ≡ told most bs (n * 10 + (b - 48)))
        → read_on most (b ∷ bs) n ≡ told most (b ∷ bs) n
    digit false w e f rest = rw e refl
    digit true true e f rest = rw (e, f) (rest (leb-true _ _ f))
    digit true false e f rest =
        let g = value_grows bs (n * 10 + (b - 48)) in
        let k = leb-false _ _ f in
        let z : leb (value_after (n * 10 + (b - 48)) bs) most ≡ false = lt-leb _ _ (omega arith) in
        rw (e, f, z, and_right (all_ascii_digits bs) false refl) refl

own : IsNumeralModel (λ ds. all_ascii_digits ds ≡ true) (value_after 0)
own = numerals_by_fold _ (search rules) value_after (search rules)

plain_parts : (bs : List ℕ) → plain bs ≡ true → (0 < length bs) × (get_or bs 0 0 ≡ 48 → length bs ≡ 1)
plain_parts [] h = absurd (let z : ◌≡◌ {A = ℕ} 0 1 = cc in omega arith)
plain_parts (b ∷ []) h = (zero-lt-suc 0, λ _. refl)
plain_parts (b ∷ c ∷ bs) h = (zero-lt-suc _, λ e. absurd (eqb-false b 48 (not-true _ h) e))

plain_from : (bs : List ℕ) → 0 < length bs → ((length bs ≡ 1) ⊎ (48 < get_or bs 0 0)) → plain bs ≡ true
plain_from [] h e = absurd (not-suc-le-zero h)
plain_from (b ∷ []) h e = refl
plain_from (b ∷ c ∷ bs) h (inl e) = absurd (omega arith)
plain_from (b ∷ c ∷ bs) h (inr l) = not_from_false _ (ne_eqb b 48 (λ e. omega arith))

pub plain_decimal : (n : ℕ) → n < 2 ^ 64 → plain (decimal n) ≡ true
plain_decimal n h = elim (cases_eq n 0) [
  | inl e ↦ rw e (plain_from (decimal 0) (decimal_nonempty 0 (omega arith)) (inl (ap length (decimal_digit 0 (omega arith)))))
  | inr e ↦ plain_from (decimal n) (decimal_nonempty n h) (inr (first_decimal n (omega arith) h))
]

-- a number written is read back
pub read_back : (most n : ℕ) → n < 2 ^ 64 → n ≤ most → number most (decimal n) ≡ Some n
read_back most n h l =
    let v = digits_value-decimal own n h in
    rw (plain_decimal n h, digits_decimal own n h, v, le-leb n most l) refl

pub written_as : (most : ℕ) (text : List ℕ) → most < 2 ^ 64 → WrittenAs most text (number most text)
written_as most text small = go (plain text && (all_ascii_digits text && leb (value_after 0 text) most)) refl
  where
    go : (t : Bool) → (plain text && (all_ascii_digits text && leb (value_after 0 text) most)) ≡ t → WrittenAs most text (cond t (Some (value_after 0 text)) None)
    go true e =
        let p = and_parts _ _ e in
        let q = and_parts _ _ p.1 in
        let l = leb-true _ _ q.1 in
        let s = plain_parts text p.0 in
        (l, decimal-digits_value own text q.0 s.0 s.1 (omega arith))
    go false e = λ n l d.
        let r : number most text ≡ Some n = subst (λ (t : List ℕ). number most t ≡ Some n) d (read_back most n (omega arith) l) in
        let s : number most text ≡ None = cond-false _ _ _ e in
        let z : ◌≡◌ {A = ℕ} 0 1 = cc in omega arith

-- what both clauses say of an answer
pub lawful : (most : ℕ) (text : List ℕ) (r : Option ℕ) → most < 2 ^ 64 → r ≡ number most text → (r ≡ number most text) × WrittenAs most text r
lawful most text r small e = (e, subst (λ (o : Option ℕ). WrittenAs most text o) (sym e) (written_as most text small))

-- digits have no byte that is not one
pub lacks_decimal : (x n : ℕ) → n < 2 ^ 64 → (IsInRange 48 57 x → ⊥) → LacksByte x (decimal n)
lacks_decimal x n h out = not_in_digits own (decimal n) x (digits_decimal own n h) out
