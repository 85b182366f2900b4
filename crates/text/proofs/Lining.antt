-- A text is its lines one after another, and has these lines only.
use Rattle.std.proofs.Common.{◌≡◌, ℕ, ◌<◌, ◌≤◌, Bool, true, false, cond, List, [], ◌∷◌, ◌++◌, length, sym, refl, ap, ◌∙◌, append_assoc, suc-le-suc, zero-le, not-suc-le-zero, zero-lt-suc, arith}
use Rattle.std.specs.Str.Iter.{LacksByte}
use Rattle.std.specs.List.{join_with_byte, flat_map, AllByRecursion}
use Rattle.std.proofs.lemmas.List.{append-nil, length-append, nil_from_length}
use Rattle.text.specs.Parts.{parts, line_feed, Parted}
use Rattle.text.specs.Lines.{Line, lines, as_lines, line_bytes, Ended, LinedAs, Lined}
use Rattle.text.proofs.Parting.{parted, parts_cons, parts_one}

-- a part that others follow is an ended line
pub line_cons : (p : List ℕ) (ps : List (List ℕ)) → (ps ≡ [] → ⊥) → as_lines (p ∷ ps) ≡ record { text = p; ended = true } ∷ as_lines ps
line_cons p [] n = absurd (n refl)
line_cons p (q ∷ ps) n = refl

-- the last part is a line where it has a byte
pub line_last : (p : List ℕ) → 0 < length p → as_lines (p ∷ []) ≡ record { text = p; ended = false } ∷ []
line_last [] h = absurd (not-suc-le-zero h)
line_last (b ∷ p) h = refl

ended_cons : (p : List ℕ) (ls : List Line) → Ended ls → Ended (record { text = p; ended = true } ∷ ls)
ended_cons p [] h = λ e. absurd (let z : ◌≡◌ {A = ℕ} 0 1 = cc in omega arith)
ended_cons p (l ∷ ls) h = (refl, h)

lined_parts : (ps : List (List ℕ)) (text : List ℕ) → Parted line_feed text ps → LinedAs text (as_lines ps)
lined_parts [] text h = absurd (h.some refl)
lined_parts ([] ∷ []) text h = record { whole = h.whole; clear = tt; ended = tt }
lined_parts ((b ∷ bs) ∷ []) text h = record {
  whole = append-nil ((b ∷ bs) ++ []) ∙ append-nil (b ∷ bs) ∙ h.whole;
  clear = (h.clear.0, tt);
  ended = λ _. zero-lt-suc (length bs);
}
lined_parts (p ∷ q ∷ ps) text h =
    let rest = lined_parts (q ∷ ps) (join_with_byte line_feed (q ∷ ps)) (record { some = λ e. (let z : ◌≡◌ {A = ℕ} 0 1 = cc in omega arith); clear = h.clear.1; whole = refl }) in
    record {
      whole = append_assoc p (line_feed ∷ []) (flat_map line_bytes (as_lines (q ∷ ps))) ∙ ap (λ (t : List ℕ). p ++ (line_feed ∷ t)) rest.whole ∙ h.whole;
      clear = (h.clear.0, rest.clear);
      ended = ended_cons p (as_lines (q ∷ ps)) rest.ended;
    }

-- an ended line before others
pub lines_cons : (p rest : List ℕ) → LacksByte line_feed p → lines ((p ++ (line_feed ∷ [])) ++ rest) ≡ record { text = p; ended = true } ∷ lines rest
lines_cons p rest f =
    ap lines (append_assoc p (line_feed ∷ []) rest) ∙ ap as_lines (parts_cons line_feed p rest f)
    ∙ line_cons p (parts line_feed rest) (parted line_feed rest).some

lines_last : (p : List ℕ) (e : Bool) → LacksByte line_feed p → (e ≡ false → 0 < length p) → lines (line_bytes (record { text = p; ended = e }) ++ []) ≡ record { text = p; ended = e } ∷ []
lines_last p true f h = lines_cons p [] f
lines_last p false f h =
    ap lines (append-nil (p ++ []) ∙ append-nil p) ∙ ap as_lines (parts_one line_feed p f) ∙ line_last p (h refl)

pub lines_joined : (ls : List Line) → AllByRecursion (λ l. LacksByte line_feed l.text) ls → Ended ls → lines (flat_map line_bytes ls) ≡ ls
lines_joined [] f h = refl
lines_joined (l ∷ []) f h = lines_last l.text l.ended f.0 h
lines_joined (l ∷ k ∷ ls) f h =
    ap (λ (e : Bool). lines ((l.text ++ cond e (line_feed ∷ []) []) ++ flat_map line_bytes (k ∷ ls))) h.0
    ∙ lines_cons l.text (flat_map line_bytes (k ∷ ls)) f.0
    ∙ (λ i. record { text = l.text; ended = sym h.0 i } ∷ lines_joined (k ∷ ls) f.1 h.1 i)

pub lined : (text : List ℕ) → Lined text (lines text)
lined text = (lined_parts (parts line_feed text) text (parted line_feed text), λ ks h. sym (lines_joined ks h.clear h.ended) ∙ ap lines h.whole)

-- an empty last part is no line
pub no_line : (ps qs : List (List ℕ)) (p : List ℕ) → ps ≡ p ∷ qs → length p ≡ 0 → length qs ≡ 0 → (as_lines ps ≡ []) × (as_lines qs ≡ [])
no_line ps qs p e z y =
    let n = nil_from_length qs y in
    (ap as_lines (e ∙ λ i. nil_from_length p z i ∷ n i), ap as_lines n)

few_of_parts : (ps : List (List ℕ)) → length (as_lines ps) ≤ length (join_with_byte line_feed ps)
few_of_parts [] = zero-le
few_of_parts ([] ∷ []) = zero-le
few_of_parts ((b ∷ bs) ∷ []) = suc-le-suc zero-le
few_of_parts (p ∷ q ∷ ps) =
    let h = few_of_parts (q ∷ ps) in
    simp length-append (omega arith)

-- a line has a byte, or a line feed
pub few_lines : (text : List ℕ) → length (lines text) ≤ length text
few_lines text = let h = few_of_parts (parts line_feed text) in omega (arith, ap length (parted line_feed text).whole)
