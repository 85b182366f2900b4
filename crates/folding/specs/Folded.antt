-- A sheet folded: read, built and listed. Assumes nothing.
use Rattle.std.specs.Prelude.{◌≡◌, ℕ, ◌<◌, List, Ok, Err, Result}
use Rattle.two_way.specs.declared.Verdict.{Verdict}
use Rattle.two_way.specs.Verdicts.{number_of}
use Rattle.two_way.specs.Automaton.{Automaton}
use Rattle.two_way.specs.Runs.{Word, Reads}
use Rattle.two_way.specs.Crossings.{reached}
use Rattle.refusals.specs.declared.refusal.Refusal.{Refusal}
use Rattle.register.specs.declared.tables.CrossingTable.{CrossingTable}
use Rattle.dfa.specs.declared.rows.DfaRow.{DfaRow}
use Rattle.dfa.specs.Filled.{capacity}
use Rattle.dfa.specs.Asked.{row_at}
use Rattle.engine.specs.Calls.{build_answer, build_tables, build_dfa}
use Rattle.listings.specs.Listing.{listing, cell_of}
use Rattle.listings.specs.Listed.{listed_answer, listed_bytes}
use Rattle.spelling.specs.Spells.{Spells}

-- the memory that is lent
pub record Lent : Type 0 where
  pub tables : List CrossingTable
  pub dfa : List DfaRow
  pub out : List ℕ

-- the answer, and the memory after
pub record Folded : Type 0 where
  pub answer : Result ℕ Refusal
  pub left : Lent

-- the listing of rows that were built, written into the bytes
abbrev pub listed : ℕ → ℕ → Lent → Folded
listed n m x = record {
  answer = listed_answer n m x.dfa x.out;
  left = record { tables = x.tables; dfa = x.dfa; out = listed_bytes n m x.dfa x.out };
}

abbrev pub after_build : ℕ → Result ℕ Refusal → Lent → Folded
after_build m (Ok n) x = listed n m x
after_build m (Err e) x = record { answer = Err e; left = x }

-- what a build of the rule A leaves
abbrev pub built : Automaton → Lent → Lent
built A x = record {
  tables = build_tables A A.letters (capacity x.tables x.dfa) x.tables;
  dfa = build_dfa A A.letters (capacity x.tables x.dfa) x.dfa;
  out = x.out;
}

-- the rule that was read, built over its own letters and listed
abbrev pub folded : Result Automaton Refusal → Lent → Folded
folded (Ok A) x = after_build A.letters (build_answer A A.letters (capacity x.tables x.dfa)) (built A x)
folded (Err e) x = record { answer = Err e; left = x }

-- the row that letters lead to from row 0
abbrev pub row_reached : List DfaRow → List ℕ → ℕ
row_reached ds w = reached (λ i a. cell_of (row_at ds i) a) 0 w

-- The text lists a one-way table that decides as the rule that the sheet spells: every word leads to a row that is listed, whose verdict is
-- that of the two-way run.
pub record ListsRule (sheet text : List ℕ) : Type 0 where
  pub rule : Automaton
  pub spells : Spells sheet rule
  pub rows : ℕ
  pub dfa : List DfaRow
  pub lists : text ≡ listing rows rule.letters dfa
  pub within : (w : List ℕ) → Word rule w → row_reached dfa w < rows
  pub decides : (w : List ℕ) → Word rule w → (v : Verdict) × ((row_at dfa (row_reached dfa w)).verdict ≡ number_of v) × Reads rule w v
