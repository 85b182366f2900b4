-- Runs of an engine: the calls made, newest first, with what each was handed and answered, and the law over them. Assumes nothing.
use Rattle.std.specs.Prelude.{◌≡◌, ℕ, ◌<◌, ◌≤◌, cond, List, [], ◌∷◌, map, length, take, Some, None, Ok, Err, Option, Result, ◌==◌, ◌≢◌, slice_index}
use Rattle.two_way.specs.declared.Verdict.{Verdict}
use Rattle.two_way.specs.Verdicts.{number_of}
use Rattle.two_way.specs.Automaton.{Automaton}
use Rattle.two_way.specs.Runs.{Reads, Walks, most}
use Rattle.two_way.specs.Crossings.{Different, reached}
use Rattle.refusals.specs.declared.fault.Fault.TheVariants.{LettersDiffer, NoRows, TooFewPlaces, TitleTooLong}
use Rattle.refusals.specs.declared.refusal.Refusal.{Refusal}
use Rattle.refusals.specs.Numbers.{number_of as fault_number}
use Rattle.refusals.specs.Line.{unplaced}
use Rattle.register.specs.declared.tables.CrossingTable.{CrossingTable}
use Rattle.dfa.specs.declared.rows.DfaRow.{DfaRow}
use Rattle.dfa.specs.Known.{known, dfa_of}
use Rattle.dfa.specs.Filled.{capacity}
use Rattle.dfa.specs.Asked.{row_at}
use Rattle.engine.specs.declared.walking.Walked.{Walked as Found}
use Rattle.engine.specs.declared.calls.Engine.{Engine}
use Rattle.engine.specs.declared.calls.Call.{Call}
use Rattle.engine.specs.declared.calls.Call.TheVariants.{Change, Build, Ask, Walk}
use Rattle.engine.specs.declared.calls.Answer.{Answer}
use Rattle.engine.specs.declared.calls.Answer.TheVariants.{Changed, Built, Asked, Walked}
use Rattle.engine.specs.Walks.{found}
use Rattle.engine.specs.Calls.{Meaning, fresh, performed}

-- a call that was made: what it was, what it was handed, what it answered and the dfa that it left
pub record Event (R K : Type 0) : Type 0 where
  pub call : Call R
  pub tables : List CrossingTable
  pub dfa : List DfaRow
  pub marks : List K
  pub answer : Answer
  pub left : List DfaRow

-- the rule that the engine was made with, later the latest change's
abbrev pub rule_by : {R : Type 0} → Call R → R → R
rule_by (Change q) r = q
rule_by Build r = r
rule_by Ask r = r
rule_by Walk r = r

abbrev pub rule_of : {R K : Type 0} → R → List (Event R K) → R
rule_of r [] = r
rule_of r (x ∷ past) = rule_by x.call (rule_of r past)

-- the dfa of the build in force: from when a build is taken to the next change, taken build or refusal by number 14
abbrev pub force_built : Result ℕ Refusal → List DfaRow → Option (List DfaRow) → Option (List DfaRow)
force_built (Ok n) ds o = Some ds
force_built (Err x) ds o = cond (fault_number x.fault == 14) None o

abbrev pub force_by : Answer → List DfaRow → Option (List DfaRow) → Option (List DfaRow)
force_by Changed ds o = None
force_by (Built a) ds o = force_built a ds o
force_by (Asked a) ds o = o
force_by (Walked a) ds o = o

abbrev pub in_force : {R K : Type 0} → List (Event R K) → Option (List DfaRow)
in_force [] = None
in_force (x ∷ past) = force_by x.answer x.left (in_force past)

-- the calls of the past, made on a new engine with the rule r and the alphabet l, led to the engine e
pub data Led {R L K : Type 0} (W : Meaning R L K) (r : R) (l : L) : List (Event R K) → Engine R L → Type 0 where
  new : Led W r l [] (fresh r l)
  next : {past : List (Event R K)} {e : Engine R L} → Led W r l past e → (k : Call R) (ts : List CrossingTable) (ds : List DfaRow) (ms : List K)
      → Led W r l (record { call = k; tables = ts; dfa = ds; marks = ms; answer = (performed W e k ts ds ms).answer; left = (performed W e k ts ds ms).dfa } ∷ past) (performed W e k ts ds ms).engine

-- n is the number of words in some list of words whose tables all differ, and no such list is longer
pub record Most (A : Automaton) (n : ℕ) : Type 0 where
  pub some : Different A n
  pub none_longer : (l : ℕ) → Different A l → l ≤ n

-- the row that letters lead to from row 0 of a dfa
abbrev pub row_met : List DfaRow → List ℕ → DfaRow
row_met ds w = row_at ds (reached (λ i a. slice_index (row_at ds i).cells a) 0 w)

-- An ask of the letters w, where o is the dfa in force and ds the one handed: refused where no build is in force; else, handed the dfa in
-- force, it answers the verdict of the row reached, and that is the verdict of the two-way run.
pub record AskRight (A : Automaton) (o : Option (List DfaRow)) (ds : List DfaRow) (w : List ℕ) (a : Result Verdict Refusal) : Type 0 where
  pub refused : o ≡ None → a ≡ Err (unplaced NoRows)
  pub told : o ≡ Some ds → (v : Verdict) × (a ≡ Ok v) × ((row_met ds w).verdict ≡ number_of v) × Reads A w v

-- A build with p places, where the alphabet has c letters; left is the dfa that it leaves. Where the letters fit, it is refused exactly when
-- some list of words with different tables is longer than the places.
pub record BuildRight (A : Automaton) (c p : ℕ) (a : Result ℕ Refusal) (left : List DfaRow) : Type 0 where
  pub unfit : (A.letters ≢ c) → a ≡ Err (unplaced LettersDiffer)
  pub taken : A.letters ≡ c → (n : ℕ) → a ≡ Ok n → (n ≤ p) × Most A n × (take n left ≡ dfa_of A (known A p))
  pub few : A.letters ≡ c → a ≡ Err (unplaced TooFewPlaces) → (l : ℕ) × (p < l) × Different A l
  pub too_many : A.letters ≡ c → (l : ℕ) → p < l → Different A l → a ≡ Err (unplaced TooFewPlaces)
  pub enough : A.letters ≡ c → ((l : ℕ) → Different A l → l ≤ p) → (n : ℕ) × (a ≡ Ok n)

-- a walk over the letters w: the run's verdict and the steps made, never more than the most
pub record WalkRight (A : Automaton) (c : ℕ) (w : List ℕ) (a : Result Found Refusal) : Type 0 where
  pub unfit : (A.letters ≢ c) → a ≡ Err (unplaced LettersDiffer)
  pub long : A.letters ≡ c → 65536 < length w → a ≡ Err (unplaced TitleTooLong)
  pub walks : A.letters ≡ c → length w ≤ 65536 → (v : Verdict) × (n : ℕ) × (a ≡ Ok (found v n)) × Walks A w v n × Reads A w v × (n ≤ most A (length w))

-- the rows in use: none with no build in force, else as many as the most words with different tables, their rows in the dfa
pub record InUse (A : Automaton) (c : ℕ) (o : Option (List DfaRow)) (n : ℕ) : Type 0 where
  pub none : o ≡ None → n ≡ 0
  pub some : (ds : List DfaRow) → o ≡ Some ds → (A.letters ≡ c) × Most A n × ((p : ℕ) × (n ≤ p) × (n ≡ length (known A p)) × (take n ds ≡ dfa_of A (known A p)))

-- what a call's answer is to be: A is the engine's rule, w the letters of the marks handed, o the dfa in force
abbrev pub Right : {R : Type 0} → Automaton → ℕ → List ℕ → Option (List DfaRow) → List CrossingTable → List DfaRow → Call R → Answer → List DfaRow → Type 0
Right A c w o ts ds (Change q) a left = a ≡ Changed
Right A c w o ts ds Build a left = (x : Result ℕ Refusal) × (a ≡ Built x) × BuildRight A c (capacity ts ds) x left
Right A c w o ts ds Ask a left = (x : Result Verdict Refusal) × (a ≡ Asked x) × AskRight A o ds w x
Right A c w o ts ds Walk a left = (x : Result Found Refusal) × (a ≡ Walked x) × WalkRight A c w x

-- After every list of calls on a new engine: the answer of the call made now is right, and so are the rows in use after it.
pub record Law {R L K : Type 0} (W : Meaning R L K) (e : Engine R L) (k : Call R) (ts : List CrossingTable) (ds : List DfaRow) (ms : List K) (a : Answer) (left : List DfaRow) (e' : Engine R L) : Type 0 where
  pub right : (r : R) (l : L) (past : List (Event R K)) → Led W r l past e
      → Right (W.rule (rule_of r past)) (W.count l) (map (W.letter l) ms) (in_force past) ts ds k a left
  pub leads : (r : R) (l : L) (past : List (Event R K)) → Led W r l past e
      → Led W r l (record { call = k; tables = ts; dfa = ds; marks = ms; answer = a; left = left } ∷ past) e'
  pub in_use : (r : R) (l : L) (past : List (Event R K)) → Led W r l past e
      → InUse ((W.rule (rule_of r (record { call = k; tables = ts; dfa = ds; marks = ms; answer = a; left = left } ∷ past)))) (W.count l) (in_force (record { call = k; tables = ts; dfa = ds; marks = ms; answer = a; left = left } ∷ past)) e'.rows
