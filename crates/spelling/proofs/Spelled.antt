-- A sheet is read as the rule that it spells, and as no other. Assumes nothing.
use Rattle.std.proofs.Common.{◌≡◌, ℕ, ◌≤◌, true, ltb, List, [], ◌∷◌, ◌++◌, length, is_some, Some, None, Option, unwrap_or, sym, refl, ap, ◌∙◌, subst, inl, inr, arith}
use Rattle.std.specs.Str.Iter.{LacksByte}
use Rattle.std.specs.List.{flat_map, AllByRecursion}
use Rattle.std.specs.Str.{bytes_eq}
use Rattle.std.proofs.lemmas.Slice.Eq.{bytes_eq-Decides}
use Rattle.std.proofs.lemmas.Bool.{cases_Bool, both_ways, ltb-false, le-ltb}
use Rattle.text.specs.Parts.{line_feed}
use Rattle.text.specs.Lines.{Line, lines, line_bytes, LinedAs}
use Rattle.text.proofs.Lining.{lined}
use Rattle.refusals.specs.declared.fault.Fault.{Fault}
use Rattle.refusals.specs.declared.refusal.Refusal.{Refusal}
use Rattle.two_way.specs.Automaton.{Automaton, Lawful}
use Rattle.spelling.specs.Words.{is_name, column_of}
use Rattle.spelling.specs.Said.{field, with_name, in_order, letters}
use Rattle.sheets.specs.Form.{longest}
use Rattle.spelling.specs.Conditions.{or_else, refused_from, refused_lines, refused}
use Rattle.spelling.specs.Reading.{rule_of, read_as, sheet_read}
use Rattle.spelling.specs.Spells.{Entry, Sheet, Name, entry_fields, entry_text, rule_fields, sheet_text, said, Allowed, Proper, Spells}
use Rattle.spelling.specs.Judged.{Spelled}
use Rattle.spelling.proofs.First.{is_long, is_short}
use Rattle.spelling.proofs.Order.{few_with}
use Rattle.spelling.proofs.Wording.{right_way}
use Rattle.spelling.proofs.Linewise.{Heads, line_with, entry_read, entry_says, entry_line, rule_read, rule_heads, rule_line, name_is}
use Rattle.spelling.proofs.Sheetwise.{AllSay, FineRule, FineFrom, fine_rule_of, of_fine_rule, fine_from, from_fine, none_lacks, few_names, none_else}
use Rattle.spelling.proofs.Properly.{order_is, all_allowed, once_of, each_of, fine_lines}
use Rattle.spelling.proofs.Giving.{lines_give, gives_one, gives_lawful}

-- no line has a line feed inside
abbrev Clear : List Line → Type 0
Clear ls = AllByRecursion (λ l. LacksByte line_feed l.text) ls

-- the entries that lines say, and their text
pub record EntriesRead (m : ℕ) (ls : List Line) : Type 0 where
  pub entries : List Entry
  pub say : AllSay m ls entries
  pub text : flat_map line_bytes ls ≡ flat_map entry_text entries
  pub named : AllByRecursion Name (said entries)

module _ (h : Line) (m : ℕ) (m_is : (done : List Line) → letters (h ∷ done) ≡ m) where
  entries_read : (done ls : List Line) → Clear ls → FineFrom h done ls → EntriesRead m ls
  entries_read done [] clear f = record { entries = []; say = tt; text = refl; named = tt }
  entries_read done (l ∷ ls) clear f =
      let v = f.0 in
      let column : is_some (column_of m (field 3 l)) ≡ true = ap (λ (n : ℕ). is_some (column_of n (field 3 l))) (sym (m_is done)) ∙ v.column in
      let e = entry_read m l clear.0 v.formed_so v.state_name v.next_name column v.direction in
      let r = entries_read (done ++ (l ∷ [])) ls clear.1 f.1 in
      record {
        entries = e.entry ∷ r.entries;
        say = (e.says, r.say);
        text = λ i. e.text i ++ r.text i;
        named = (e.state_name, (e.next_name, r.named));
      }

-- lines that meet no condition say a proper sheet
pub record SheetRead (h : Line) (ls : List Line) : Type 0 where
  pub sheet : Sheet
  pub heads : Heads h sheet
  pub say : AllSay sheet.letters ls sheet.entries
  pub proper : Proper sheet
  pub text : sheet_text sheet ≡ flat_map line_bytes (h ∷ ls)

three_names : (x y z : List ℕ) → length (in_order [] (x ∷ y ∷ z ∷ [])) ≤ 32
three_names x y z =
    omega (arith, few_with [] x, few_with (with_name [] x) y, few_with (with_name (with_name [] x) y) z)

sheet_as_read : (h : Line) (ls : List Line) → Clear (h ∷ ls) → length (flat_map line_bytes (h ∷ ls)) ≤ longest → refused_from [] (h ∷ ls) ≡ None → SheetRead h ls
sheet_as_read h ls clear short e =
    let p = none_else _ _ _ e in
    let v = fine_rule_of h p.0 in
    let f = fine_from h [] ls p.1 in
    let r = rule_read h clear.0 v.formed_so v.start_name v.accept_name v.reject_name v.number in
    let w = entries_read h r.letters (λ done. ap (λ (o : Option ℕ). unwrap_or o 0) r.number) [] ls clear.1 f in
    let S : Sheet = record { letters = r.letters; start = field 3 h; accept = field 4 h; reject = field 5 h; entries = w.entries } in
    let H : Heads h S = record { formed_so = v.formed_so; letters = r.number; start = refl; accept = refl; reject = refl } in
    let text : sheet_text S ≡ flat_map line_bytes (h ∷ ls) = λ i. sym r.text i ++ sym w.text i in
    record {
      sheet = S;
      heads = H;
      say = w.say;
      proper = record {
        letters_low = r.low;
        letters_high = r.high;
        named = (r.start_name, (r.accept_name, (r.reject_name, w.named)));
        few = omega (arith, few_names h [] ls (three_names (field 3 h) (field 4 h) (field 5 h)) f, ap length (order_is h S H ls w.say));
        apart = λ q. both_ways _ v.apart ((bytes_eq-Decides (field 4 h) (field 5 h)).1 q);
        allowed = all_allowed h S H [] ls w.entries w.say f;
        each = each_of h S H ls w.say (none_lacks h [] ls f);
        once = once_of h S H ls w.say f;
        short = omega (arith, ap length text);
      };
      text = text;
    }

-- the rule of a sheet that is not refused is lawful
pub lawful_lines : (b : List ℕ) (h : Line) (ls : List Line) → lines b ≡ h ∷ ls → length b ≤ longest → refused_from [] (h ∷ ls) ≡ None → Lawful (rule_of (h ∷ ls))
lawful_lines b h ls e short r =
    let so : LinedAs b (h ∷ ls) = subst (LinedAs b) e (lined b).0 in
    let s = sheet_as_read h ls so.clear (omega (arith, ap length so.whole)) r in
    gives_lawful s.sheet s.proper (rule_of (h ∷ ls)) (lines_give h s.sheet s.heads ls s.say s.proper)

module _ (b : List ℕ) where
  taken : (ls : List Line) → lines b ≡ ls → length b ≤ longest → refused_lines ls ≡ None → Spells b (rule_of ls)
  taken [] e short r = absurd (let z : ◌≡◌ {A = ℕ} 0 1 = cc in omega arith)
  taken (h ∷ ls) e short r =
      let so : LinedAs b (h ∷ ls) = subst (LinedAs b) e (lined b).0 in
      let s = sheet_as_read h ls so.clear (omega (arith, ap length so.whole)) r in
      record {
        sheet = s.sheet;
        proper = s.proper;
        text = s.text ∙ so.whole;
        gives = lines_give h s.sheet s.heads ls s.say s.proper;
      }

  -- read: a sheet that is not refused spells the rule of its lines
  spells : refused b ≡ None → Spells b (rule_of (lines b))
  spells e = elim (cases_Bool (ltb longest (length b))) [
    | inl t ↦ absurd (let q = is_long b t in let z : ◌≡◌ {A = ℕ} 0 1 = cc in omega arith)
    | inr z ↦ taken (lines b) refl (ltb-false longest (length b) z) (sym (is_short b z) ∙ e)
  ]

-- the lines of entries, as they are written
abbrev entry_lines : List Entry → List Line
entry_lines [] = []
entry_lines (e ∷ es) = line_with (entry_fields e) ∷ entry_lines es

module _ (S : Sheet) (P : Proper S) where
  written : (es : List Entry) → AllByRecursion Name (said es) → AllByRecursion (Allowed S) es → AllSay S.letters (entry_lines es) es × (lines (flat_map entry_text es) ≡ entry_lines es)
  written [] n k = (tt, refl)
  written (e ∷ es) n k =
      let range = (right_way S.letters e.column e.way k.0.turns).0 in
      let r = written es n.1.1 k.1 in (
        (entry_says S.letters e P.letters_high range n.0 n.1.0, r.0),
        entry_line S.letters e P.letters_high range n.0 n.1.0 (flat_map entry_text es) ∙ ap (λ (ls : List Line). line_with (entry_fields e) ∷ ls) r.1,
      )

  first : Line
  first = line_with (rule_fields S)

  heads : Heads first S
  unfolding first
  heads = rule_heads S P.letters_low P.letters_high P.named.0 P.named.1.0 P.named.1.1.0

  all : AllSay S.letters (entry_lines S.entries) S.entries
  all = (written S.entries P.named.1.1.1 P.allowed).0

  sheet_lines : lines (sheet_text S) ≡ first ∷ entry_lines S.entries
  unfolding first
  sheet_lines =
      rule_line S P.letters_low P.letters_high P.named.0 P.named.1.0 P.named.1.1.0 (flat_map entry_text S.entries)
      ∙ ap (λ (ls : List Line). first ∷ ls) (written S.entries P.named.1.1.1 P.allowed).1

  fine_first : FineRule first
  fine_first =
      let H = heads in
      record {
        formed_so = H.formed_so;
        start_name = ap is_name H.start ∙ name_is S.start P.named.0;
        accept_name = ap is_name H.accept ∙ name_is S.accept P.named.1.0;
        reject_name = ap is_name H.reject ∙ name_is S.reject P.named.1.1.0;
        number = ap is_some H.letters;
        apart = elim (cases_Bool (bytes_eq (field 4 first) (field 5 first))) [
          | inl t ↦ absurd (P.apart (sym H.accept ∙ ((bytes_eq-Decides (field 4 first) (field 5 first)).0 t ∙ H.reject)))
          | inr z ↦ z
        ];
      }

  no_condition : refused_from [] (first ∷ entry_lines S.entries) ≡ None
  no_condition =
      ap (λ (o : Option (Fault × ℕ)). or_else o 1 (refused_from (first ∷ []) (entry_lines S.entries))) (of_fine_rule first fine_first)
      ∙ from_fine first [] (entry_lines S.entries) (fine_lines first S heads P [] (entry_lines S.entries) [] S.entries tt all refl P.named.1.1.1 P.allowed)

-- written: a sheet that spells a rule is not refused, and the rule is that of its lines
read : (b : List ℕ) (A : Automaton) → Spells b A → (refused b ≡ None) × (A ≡ rule_of (lines b))
read b A s =
    let S = s.sheet in
    let P = s.proper in
    let e : lines b ≡ first S P ∷ entry_lines S.entries = ap lines (sym s.text) ∙ sheet_lines S P in (
      is_short b (le-ltb longest (length b) (omega (arith, P.short, ap length s.text))) ∙ (ap refused_lines e ∙ no_condition S P),
      gives_one S P A (rule_of (first S P ∷ entry_lines S.entries)) s.gives (lines_give (first S P) S (heads S P) (entry_lines S.entries) (all S P) P) ∙ ap rule_of (sym e),
    )

by_answer : (b : List ℕ) (o : Option Refusal) → refused b ≡ o → Spelled b (read_as o (rule_of (lines b)))
by_answer b None e = (spells b e, λ B s. (read b B s).1)
by_answer b (Some x) e = λ A s. let n = (read b A s).0 in let z : ◌≡◌ {A = ℕ} 0 1 = cc in omega arith

pub read_is_spelled : (b : List ℕ) → Spelled b (sheet_read b)
read_is_spelled b = by_answer b (refused b) refl

-- every rule that is spelled is lawful
pub spelled_lawful : (b : List ℕ) (A : Automaton) → Spells b A → Lawful A
spelled_lawful b A s = gives_lawful s.sheet s.proper A s.gives
