use Rattle.std.proofs.Common.{length, is_some, ◌∙◌, rules, tests}
use Rattle.std.proofs.lemmas.Iterator.{YieldsList-from_slice}
use Rattle.std.proofs.lemmas.Iterator.Search.{all_from_yields_List}
use Rattle.dfa.specs.declared.rows.DfaRow.{DfaRow}
use Rattle.dfa.specs.Asked.{verdict_in}
use Rattle.listings.proofs.Soundly.{sound_all}
use Rattle.listings.proofs.is_sound.Goals as goal

pub returns : goal.returns
returns c =
    let s = c.args.shelf.now in
    let n = length s.rows.now in
    all_from_yields_List (λ (d : DfaRow). is_some (verdict_in s.letters n d)) _ _ c.all.result c.all.ensures.ran (YieldsList-from_slice s.rows.now cc) (λ x b q k. search (rules, tests))
    ∙ sound_all n s.letters s.rows.now
