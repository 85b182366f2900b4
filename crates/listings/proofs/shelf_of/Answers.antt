use Rattle.listings.proofs.Soundly.{shelved_result}
use Rattle.listings.proofs.shelf_of.Goals as goal

pub returns : goal.returns
returns c =
    let e = c.new.ensures in
    shelved_result c.args.rows c.args.letters c.args.dfa.now c.new.result e.refused e.rows e.letters
