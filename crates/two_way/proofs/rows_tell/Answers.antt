use Rattle.std.proofs.Common.{sym, refl, ap, ◌∙◌}
use Rattle.two_way.specs.Tables.{table}
use Rattle.two_way.specs.Rows.{row_of}
use Rattle.two_way.proofs.Sound.{sound}
use Rattle.two_way.proofs.Words.{table_one_more}
use Rattle.two_way.proofs.Sames.{table_in}
use Rattle.two_way.proofs.RowLaws.{row_bytes, row_same, rows_same, same_rows, extended_row_of, row_right}
use Rattle.two_way.proofs.rows_tell.Goals as goal

pub returns : goal.returns
returns c A law =
    let s = sound A law in
    record {
      size = λ x. refl;
      bytes = λ x h. row_bytes A s (table A x) (table_in A s x h);
      equal = λ x y h k. (rows_same A s (table A x) (table A y) (table_in A s x h) (table_in A s y k), same_rows A s (table A x) (table A y));
      read_back = λ x h. row_same A s (table A x) (table_in A s x h);
      one_more = λ x h a l. extended_row_of A s (table A x) (table_in A s x h) a l ∙ sym (ap (row_of A) (table_one_more A x a));
      from_rows = row_right A s;
    }
