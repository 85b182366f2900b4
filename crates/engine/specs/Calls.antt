-- What each call answers and leaves. Assumes nothing.
use Rattle.std.specs.Prelude.{ℕ, cond, List, map, length, Ok, Err, Result, ◌==◌}
use Rattle.two_way.specs.Automaton.{Automaton}
use Rattle.refusals.specs.declared.fault.Fault.TheVariants.{LettersDiffer, TooFewPlaces}
use Rattle.refusals.specs.declared.refusal.Refusal.{Refusal}
use Rattle.refusals.specs.Line.{unplaced}
use Rattle.register.specs.declared.tables.CrossingTable.{CrossingTable}
use Rattle.dfa.specs.declared.rows.DfaRow.{DfaRow}
use Rattle.dfa.specs.Known.{known}
use Rattle.dfa.specs.Filled.{capacity, too_few, tables_left, dfa_left}
use Rattle.dfa.specs.Asked.{asked}
use Rattle.engine.specs.Walks.{walk_answer}
use Rattle.engine.specs.declared.calls.Engine.{Engine}
use Rattle.engine.specs.declared.calls.Call.{Call}
use Rattle.engine.specs.declared.calls.Call.TheVariants.{Change, Build, Ask, Walk}
use Rattle.engine.specs.declared.calls.Answer.{Answer}
use Rattle.engine.specs.declared.calls.Answer.TheVariants.{Changed, Built, Asked, Walked}

-- what rules and alphabets of two kinds mean
pub record Meaning (R L K : Type 0) : Type 0 where
  pub rule : R → Automaton
  pub count : L → ℕ
  pub letter : L → K → ℕ

abbrev pub fresh : {R L : Type 0} → R → L → Engine R L
fresh r l = record { rule = r; alphabet = l; rows = 0 }

abbrev pub changed : {R L : Type 0} → Engine R L → R → Engine R L
changed e r = record { rule = r; alphabet = e.alphabet; rows = 0 }

abbrev pub with_rows : {R L : Type 0} → Engine R L → ℕ → Engine R L
with_rows e n = record { rule = e.rule; alphabet = e.alphabet; rows = n }

-- a build for the rule A, where the alphabet has c letters: what becomes of it if the letters differ, is refused for want of places, or is taken
abbrev pub build_case : {X : Type 0} → Automaton → ℕ → ℕ → X → X → X → X
build_case A c p unfit few taken = cond (A.letters == c) (cond (too_few A p) few taken) unfit

abbrev pub build_answer : Automaton → ℕ → ℕ → Result ℕ Refusal
build_answer A c p = build_case A c p (Err (unplaced LettersDiffer)) (Err (unplaced TooFewPlaces)) (Ok (length (known A p)))

abbrev pub build_rows : Automaton → ℕ → ℕ → ℕ → ℕ
build_rows A c p n = build_case A c p n 0 (length (known A p))

abbrev pub build_tables : Automaton → ℕ → ℕ → List CrossingTable → List CrossingTable
build_tables A c p ts = cond (A.letters == c) (tables_left A p ts) ts

abbrev pub build_dfa : Automaton → ℕ → ℕ → List DfaRow → List DfaRow
build_dfa A c p ds = cond (A.letters == c) (dfa_left A p ds) ds

pub record Outcome (R L : Type 0) : Type 0 where
  pub engine : Engine R L
  pub answer : Answer
  pub tables : List CrossingTable
  pub dfa : List DfaRow

-- any of the four calls, handed tables, a dfa and marks
abbrev pub performed : {R L K : Type 0} → Meaning R L K → Engine R L → Call R → List CrossingTable → List DfaRow → List K → Outcome R L
performed W e (Change r) ts ds ms = record { engine = changed e r; answer = Changed; tables = ts; dfa = ds }
performed W e Build ts ds ms = record {
  engine = with_rows e (build_rows (W.rule e.rule) (W.count e.alphabet) (capacity ts ds) e.rows);
  answer = Built (build_answer (W.rule e.rule) (W.count e.alphabet) (capacity ts ds));
  tables = build_tables (W.rule e.rule) (W.count e.alphabet) (capacity ts ds) ts;
  dfa = build_dfa (W.rule e.rule) (W.count e.alphabet) (capacity ts ds) ds;
}
performed W e Ask ts ds ms = record {
  engine = e;
  answer = Asked (asked (W.count e.alphabet) e.rows ds (map (W.letter e.alphabet) ms));
  tables = ts;
  dfa = ds;
}
performed W e Walk ts ds ms = record {
  engine = e;
  answer = Walked (walk_answer (W.rule e.rule) (W.count e.alphabet) (map (W.letter e.alphabet) ms));
  tables = ts;
  dfa = ds;
}
