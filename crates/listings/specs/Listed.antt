-- What a listing call answers and leaves. Assumes nothing.
use Rattle.std.specs.Prelude.{◌≡◌, ℕ, zero, suc, ◌≤◌, Bool, true, cond, not, ◌&&◌, ◌||◌, List, length, is_some, Err, Result, ◌==◌, ◌≢◌, nat_lt}
use Rattle.std.specs.Option.{ok_or}
use Rattle.std.specs.List.{range_with_len, flat_map}
use Rattle.refusals.specs.declared.fault.Fault.TheVariants.{NoRows, DamagedTable, ListingTooLong}
use Rattle.refusals.specs.declared.refusal.Refusal.{Refusal}
use Rattle.refusals.specs.Line.{unplaced}
use Rattle.text.specs.Output.{room, put}
use Rattle.dfa.specs.declared.rows.DfaRow.{DfaRow}
use Rattle.dfa.specs.declared.shelf.Shelf.{Shelf}
use Rattle.dfa.specs.Asked.{verdict_in, row_at}
use Rattle.listings.specs.Listing.{line, row_fields, listing}

-- each of the first k rows has a verdict, and its first m cells are rows in use
abbrev pub sound : ℕ → ℕ → List DfaRow → ℕ → Bool
sound n m ds zero = true
sound n m ds (suc k) = sound n m ds k && is_some (verdict_in m n (row_at ds k))

-- the rows are fewer than those in use, or one in use is not sound
abbrev pub damaged : ℕ → ℕ → List DfaRow → Bool
damaged n m ds = nat_lt (length ds) n || not (sound n m ds n)

-- the lines of a shelf's rows, and its whole listing
abbrev pub shelf_rows : Shelf → List ℕ
shelf_rows s = flat_map (λ i. line (row_fields s.letters i (row_at s.rows.now i))) (range_with_len 0 (length s.rows.now))

abbrev pub shelf_listing : Shelf → List ℕ
shelf_listing s = listing (length s.rows.now) s.letters s.rows.now

-- a shelf whose rows are sound, and are listed, as the first n of these
pub record Shelved (n m : ℕ) (ds : List DfaRow) (s : Shelf) : Type 0 where
  pub some : n ≢ 0
  pub enough : n ≤ length ds
  pub sounds : sound (length s.rows.now) s.letters s.rows.now (length s.rows.now) ≡ sound n m ds n
  pub lists : shelf_listing s ≡ listing n m ds

-- refused by 13, 16 and 19 in this order, or how many bytes are written
abbrev pub listed_answer : ℕ → ℕ → List DfaRow → List ℕ → Result ℕ Refusal
listed_answer n m ds out =
    cond (n == 0) (Err (unplaced NoRows))
    (cond (damaged n m ds) (Err (unplaced DamagedTable))
    (ok_or (room (listing n m ds) out) (unplaced ListingTooLong)))

-- the listing in front, where it is not refused, and the other bytes as they were
abbrev pub listed_bytes : ℕ → ℕ → List DfaRow → List ℕ → List ℕ
listed_bytes n m ds out = cond (n == 0) out (cond (damaged n m ds) out (put (listing n m ds) out))
