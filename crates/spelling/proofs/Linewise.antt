-- Lines and what they say: an entry, or the rule's first line. Assumes nothing.
use Rattle.std.proofs.Common.{◌≡◌, ℕ, ◌≤◌, true, cond, eqb, List, [], ◌∷◌, ◌++◌, length, get_or, is_some, Some, None, codes, decimal, Option, sym, refl, ap, ◌∙◌, subst, arith}
use Rattle.std.specs.Str.Iter.{LacksByte}
use Rattle.std.specs.List.{join_with_byte, AllByRecursion}
use Rattle.std.proofs.lemmas.Slice.Eq.{bytes_eq-Decides}
use Rattle.std.proofs.lemmas.Bool.{and_parts, and_from, false≢true, eqb-true, leb-true, le-leb}
use Rattle.text.specs.Parts.{parts, tab, line_feed}
use Rattle.text.specs.Lines.{Line, lines, line_bytes}
use Rattle.text.proofs.Parting.{parted, parts_rejoined, lacks_parts, lacks_rejoined, lacks_from_test}
use Rattle.text.proofs.Lining.{lines_cons}
use Rattle.spelling.specs.Words.{is_name, letters_of, column_of, direction_of}
use Rattle.spelling.specs.Said.{field}
use Rattle.sheets.specs.Form.{formed}
use Rattle.spelling.specs.Spells.{Entry, Sheet, Name, line_text, column_text, column_number, way_text, way_number, entry_fields, entry_text, rule_fields}
use Rattle.spelling.proofs.Wording.{letters_read, letters_written, plain_decimal, InRange, column_read, column_written, column_plain, way_read, way_written, way_plain}

-- the five fields of a line
abbrev pub five : List ℕ → Line → List (List ℕ)
five word l = word ∷ field 2 l ∷ field 3 l ∷ field 4 l ∷ field 5 l ∷ []

split_five : (fs : List (List ℕ)) → eqb (length fs) 5 ≡ true → fs ≡ get_or ([] ∷ fs) 1 [] ∷ get_or ([] ∷ fs) 2 [] ∷ get_or ([] ∷ fs) 3 [] ∷ get_or ([] ∷ fs) 4 [] ∷ get_or ([] ∷ fs) 5 [] ∷ []
split_five (a ∷ b ∷ c ∷ d ∷ e ∷ []) h = refl
split_five [] h = absurd (false≢true h)
split_five (a ∷ []) h = absurd (false≢true h)
split_five (a ∷ b ∷ []) h = absurd (false≢true h)
split_five (a ∷ b ∷ c ∷ []) h = absurd (false≢true h)
split_five (a ∷ b ∷ c ∷ d ∷ []) h = absurd (false≢true h)
split_five (a ∷ b ∷ c ∷ d ∷ e ∷ f ∷ fs) h = absurd (let n = eqb-true (length (a ∷ b ∷ c ∷ d ∷ e ∷ f ∷ fs)) 5 h in omega arith)

pub record Five (word : List ℕ) (l : Line) : Type 0 where
  pub fields : parts tab l.text ≡ five word l
  pub text : line_bytes l ≡ line_text (five word l)
  pub no_tab : AllByRecursion (LacksByte tab) (five word l)

pub five_of : (word : List ℕ) (l : Line) → formed word l ≡ true → Five word l
five_of word l f =
    let p = and_parts _ _ f in
    let q = and_parts _ _ p.1 in
    let first : field 1 l ≡ word = (bytes_eq-Decides (field 1 l) word).0 q.1 in
    let fields : parts tab l.text ≡ five word l = split_five (parts tab l.text) q.0 ∙ ap (λ (w : List ℕ). five w l) first in
    let so = parted tab l.text in
    record {
      fields = fields;
      text = λ i. (sym so.whole ∙ ap (join_with_byte tab) fields) i ++ cond (p.0 i) (line_feed ∷ []) [];
      no_tab = subst (AllByRecursion (LacksByte tab)) fields so.clear;
    }

pub no_feed : (word : List ℕ) (l : Line) → Five word l → LacksByte line_feed l.text → AllByRecursion (LacksByte line_feed) (five word l)
no_feed word l v clear =
    let whole : join_with_byte tab (five word l) ≡ l.text = ap (join_with_byte tab) (sym v.fields) ∙ (parted tab l.text).whole in
    lacks_parts line_feed tab (five word l) (subst (LacksByte line_feed) (sym whole) clear)

-- the line that has these fields
abbrev pub line_with : List (List ℕ) → Line
line_with fs = record { text = join_with_byte tab fs; ended = true }

module _ (a b c d e : List ℕ) (clean : AllByRecursion (LacksByte tab) (a ∷ b ∷ c ∷ d ∷ e ∷ [])) where
  with_parts : parts tab (join_with_byte tab (a ∷ b ∷ c ∷ d ∷ e ∷ [])) ≡ a ∷ b ∷ c ∷ d ∷ e ∷ []
  with_parts = parts_rejoined tab (a ∷ b ∷ c ∷ d ∷ e ∷ []) (λ n. let z : ◌≡◌ {A = ℕ} 0 1 = cc in omega arith) clean

  pub with_field : (n : ℕ) → field n (line_with (a ∷ b ∷ c ∷ d ∷ e ∷ [])) ≡ get_or ([] ∷ a ∷ b ∷ c ∷ d ∷ e ∷ []) n []
  with_field n = ap (λ (fs : List (List ℕ)). get_or ([] ∷ fs) n []) with_parts

  pub with_formed : formed a (line_with (a ∷ b ∷ c ∷ d ∷ e ∷ [])) ≡ true
  with_formed = rw with_parts ((bytes_eq-Decides a a).1 refl)

-- the name of a field
pub name_of_field : (f : List ℕ) → is_name f ≡ true → LacksByte tab f → LacksByte line_feed f → Name f
name_of_field f n t l =
    let p = and_parts _ _ n in
    record { some = leb-true 1 (length f) p.0; few = leb-true (length f) 16 p.1; no_tab = t; no_feed = l }

pub name_is : (f : List ℕ) → Name f → is_name f ≡ true
name_is f n = and_from _ _ (le-leb 1 (length f) n.some) (le-leb (length f) 16 n.few)

-- a line says an entry, among m letters
pub record Says (m : ℕ) (l : Line) (e : Entry) : Type 0 where
  pub formed_so : formed (codes "at") l ≡ true
  pub state : field 2 l ≡ e.state
  pub column : column_of m (field 3 l) ≡ Some (column_number m e.column)
  pub range : InRange m e.column
  pub next : field 4 l ≡ e.next
  pub way : direction_of (field 5 l) ≡ Some (way_number e.way)

-- line 1 says the numbers and names of a sheet
pub record Heads (h : Line) (S : Sheet) : Type 0 where
  pub formed_so : formed (codes "rule") h ≡ true
  pub letters : letters_of (field 2 h) ≡ Some S.letters
  pub start : field 3 h ≡ S.start
  pub accept : field 4 h ≡ S.accept
  pub reject : field 5 h ≡ S.reject

pub some_is : {X : Type 0} (o : Option X) → is_some o ≡ true → (x : X) × (o ≡ Some x)
some_is None e = absurd (false≢true e)
some_is (Some x) e = (x, refl)

-- read: the entry that a line says
pub record EntryRead (m : ℕ) (l : Line) : Type 0 where
  pub entry : Entry
  pub says : Says m l entry
  pub text : line_bytes l ≡ entry_text entry
  pub state_name : Name entry.state
  pub next_name : Name entry.next

pub entry_read : (m : ℕ) (l : Line) → LacksByte line_feed l.text → formed (codes "at") l ≡ true → is_name (field 2 l) ≡ true → is_name (field 4 l) ≡ true → is_some (column_of m (field 3 l)) ≡ true → is_some (direction_of (field 5 l)) ≡ true → EntryRead m l
entry_read m l clear f n2 n4 c d =
    let v = five_of (codes "at") l f in
    let feeds = no_feed (codes "at") l v clear in
    let tabs = v.no_tab in
    let column = some_is (column_of m (field 3 l)) c in
    let way = some_is (direction_of (field 5 l)) d in
    let k = column_read m (field 3 l) column.0 column.1 in
    let w = way_read (field 5 l) way.0 way.1 in
    record {
      entry = record { state = field 2 l; column = k.column; next = field 4 l; way = w.way };
      says = record { formed_so = f; state = refl; column = column.1 ∙ ap Some (sym k.number); range = k.range; next = refl; way = way.1 ∙ ap Some (sym w.number) };
      text = v.text ∙ λ i. line_text (codes "at" ∷ field 2 l ∷ sym k.text i ∷ field 4 l ∷ sym w.text i ∷ []);
      state_name = name_of_field (field 2 l) n2 tabs.1.0 feeds.1.0;
      next_name = name_of_field (field 4 l) n4 tabs.1.1.1.0 feeds.1.1.1.0;
    }

-- written: the line that says an entry
module _ (m : ℕ) (e : Entry) (few : m ≤ 16) (range : InRange m e.column) (state : Name e.state) (next : Name e.next) where
  entry_tabs : AllByRecursion (LacksByte tab) (entry_fields e)
  entry_tabs = (lacks_from_test tab (codes "at") refl, (state.no_tab, ((column_plain m e.column few range).0, (next.no_tab, ((way_plain e.way).0, tt)))))

  entry_feeds : AllByRecursion (LacksByte line_feed) (entry_fields e)
  entry_feeds = (lacks_from_test line_feed (codes "at") refl, (state.no_feed, ((column_plain m e.column few range).1, (next.no_feed, ((way_plain e.way).1, tt)))))

  at_field : (n : ℕ) → field n (line_with (entry_fields e)) ≡ get_or ([] ∷ entry_fields e) n []
  at_field n = with_field (codes "at") e.state (column_text e.column) e.next (way_text e.way) entry_tabs n

  pub entry_says : Says m (line_with (entry_fields e)) e
  entry_says = record {
    formed_so = with_formed (codes "at") e.state (column_text e.column) e.next (way_text e.way) entry_tabs;
    state = at_field 2;
    column = ap (column_of m) (at_field 3) ∙ column_written m e.column few range;
    range = range;
    next = at_field 4;
    way = ap direction_of (at_field 5) ∙ way_written e.way;
  }

  pub entry_line : (rest : List ℕ) → lines (entry_text e ++ rest) ≡ line_with (entry_fields e) ∷ lines rest
  entry_line rest = lines_cons (join_with_byte tab (entry_fields e)) rest (lacks_rejoined line_feed tab (entry_fields e) (λ q. omega arith) entry_feeds)

-- the same for line 1
pub record RuleRead (h : Line) : Type 0 where
  pub letters : ℕ
  pub low : 1 ≤ letters
  pub high : letters ≤ 16
  pub number : letters_of (field 2 h) ≡ Some letters
  pub text : line_bytes h ≡ line_text (codes "rule" ∷ decimal letters ∷ field 3 h ∷ field 4 h ∷ field 5 h ∷ [])
  pub start_name : Name (field 3 h)
  pub accept_name : Name (field 4 h)
  pub reject_name : Name (field 5 h)

pub rule_read : (h : Line) → LacksByte line_feed h.text → formed (codes "rule") h ≡ true → is_name (field 3 h) ≡ true → is_name (field 4 h) ≡ true → is_name (field 5 h) ≡ true → is_some (letters_of (field 2 h)) ≡ true → RuleRead h
rule_read h clear f n3 n4 n5 m =
    let v = five_of (codes "rule") h f in
    let feeds = no_feed (codes "rule") h v clear in
    let tabs = v.no_tab in
    let some = some_is (letters_of (field 2 h)) m in
    let r = letters_read (field 2 h) some.0 some.1 in
    record {
      letters = some.0;
      low = r.0;
      high = r.1;
      number = some.1;
      text = v.text ∙ λ i. line_text (codes "rule" ∷ sym r.2 i ∷ field 3 h ∷ field 4 h ∷ field 5 h ∷ []);
      start_name = name_of_field (field 3 h) n3 tabs.1.1.0 feeds.1.1.0;
      accept_name = name_of_field (field 4 h) n4 tabs.1.1.1.0 feeds.1.1.1.0;
      reject_name = name_of_field (field 5 h) n5 tabs.1.1.1.1.0 feeds.1.1.1.1.0;
    }

module _ (S : Sheet) (low : 1 ≤ S.letters) (high : S.letters ≤ 16) (start : Name S.start) (accept : Name S.accept) (reject : Name S.reject) where
  rule_tabs : AllByRecursion (LacksByte tab) (rule_fields S)
  rule_tabs = (lacks_from_test tab (codes "rule") refl, ((plain_decimal S.letters high).0, (start.no_tab, (accept.no_tab, (reject.no_tab, tt)))))

  rule_feeds : AllByRecursion (LacksByte line_feed) (rule_fields S)
  rule_feeds = (lacks_from_test line_feed (codes "rule") refl, ((plain_decimal S.letters high).1, (start.no_feed, (accept.no_feed, (reject.no_feed, tt)))))

  head_field : (n : ℕ) → field n (line_with (rule_fields S)) ≡ get_or ([] ∷ rule_fields S) n []
  head_field n = with_field (codes "rule") (decimal S.letters) S.start S.accept S.reject rule_tabs n

  pub rule_heads : Heads (line_with (rule_fields S)) S
  rule_heads = record {
    formed_so = with_formed (codes "rule") (decimal S.letters) S.start S.accept S.reject rule_tabs;
    letters = ap letters_of (head_field 2) ∙ letters_written S.letters low high;
    start = head_field 3;
    accept = head_field 4;
    reject = head_field 5;
  }

  pub rule_line : (rest : List ℕ) → lines (line_text (rule_fields S) ++ rest) ≡ line_with (rule_fields S) ∷ lines rest
  rule_line rest = lines_cons (join_with_byte tab (rule_fields S)) rest (lacks_rejoined line_feed tab (rule_fields S) (λ q. omega arith) rule_feeds)
