-- The pieces of which a line is put together.
use Rattle.std.proofs.Common.{◌≡◌, ℕ, ◌+◌, ◌^◌, ◌<◌, true, leb, List, [], ◌∷◌, ◌++◌, map, length, codes, decimal, sym, refl, ap, ◌∙◌, append_assoc, arith}
use Rattle.std.specs.List.{range_with_len, join_with_byte, flat_map}
use Rattle.std.proofs.lemmas.Fmt.{length-decimal-le}
use Rattle.std.proofs.lemmas.List.{append-nil, length-append}
use Rattle.std.proofs.lemmas.Bool.{le-leb}
use Rattle.text.specs.Parts.{tab, line_feed}
use Rattle.dfa.specs.declared.rows.DfaRow.{DfaRow}
use Rattle.listings.specs.Listing.{line, cell_of, head_fields, row_fields}

pub few_digits : (n : ℕ) → n < 2 ^ 64 → leb (length (decimal n)) 20 ≡ true
few_digits n h = le-leb (length (decimal n)) 20 (length-decimal-le 20 n (omega arith) (omega arith) h)

-- fields after the first are each a tab and the field
after_tabs : (f : List ℕ) (fs : List (List ℕ)) → join_with_byte tab (f ∷ fs) ≡ f ++ flat_map (λ g. tab ∷ g) fs
after_tabs f [] = sym (append-nil f)
after_tabs f (g ∷ fs) = ap (λ t. f ++ (tab ∷ t)) (after_tabs g fs)

joined_map : {X Y Z : Type 0} (f : Y → List Z) (g : X → Y) (xs : List X) → flat_map f (map g xs) ≡ flat_map (λ x. f (g x)) xs
joined_map f g [] = refl
joined_map f g (x ∷ xs) = ap (λ t. f (g x) ++ t) (joined_map f g xs)

pub head_text : (n m : ℕ) → ((codes "shelf" ++ (tab ∷ decimal n)) ++ (tab ∷ decimal m)) ++ (line_feed ∷ []) ≡ line (head_fields n m)
head_text n m = ap (λ t. t ++ (line_feed ∷ [])) (append_assoc (codes "shelf") (tab ∷ decimal n) (tab ∷ decimal m))

-- the cells of a row, each after a tab
abbrev pub cells_text : ℕ → DfaRow → List ℕ
cells_text m d = flat_map (λ a. tab ∷ decimal (cell_of d a)) (range_with_len 0 m)

pub row_text : (m i : ℕ) (d : DfaRow) → (((codes "row" ++ (tab ∷ decimal i)) ++ (tab ∷ decimal d.verdict)) ++ cells_text m d) ++ (line_feed ∷ []) ≡ line (row_fields m i d)
row_text m i d =
    let cells = map (λ a. decimal (cell_of d a)) (range_with_len 0 m) in
    let v = decimal d.verdict in
    let fields : join_with_byte tab (v ∷ cells) ≡ v ++ cells_text m d = after_tabs v cells ∙ ap (λ t. v ++ t) (joined_map (λ g. tab ∷ g) (λ a. decimal (cell_of d a)) (range_with_len 0 m)) in
    let whole : ((codes "row" ++ (tab ∷ decimal i)) ++ (tab ∷ v)) ++ cells_text m d ≡ codes "row" ++ (tab ∷ (decimal i ++ (tab ∷ (v ++ cells_text m d)))) = simp append_assoc in
    ap (λ t. t ++ (line_feed ∷ [])) (whole ∙ ap (λ t. codes "row" ++ (tab ∷ (decimal i ++ (tab ∷ t)))) (sym fields))

pub row_long : (m i : ℕ) (d : DfaRow) → length (line (row_fields m i d)) ≡ 3 + (1 + length (decimal i)) + (1 + length (decimal d.verdict)) + length (cells_text m d) + 1
row_long m i d = ap length (sym (row_text m i d)) ∙ simp length-append (omega arith)
