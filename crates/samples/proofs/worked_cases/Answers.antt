use Rattle.std.proofs.Common.{refl, lit<}
use Rattle.std.proofs.lemmas.Fmt.{decimal_digit}
use Rattle.two_way.specs.Automaton.{to, way}
use Rattle.two_way.specs.Tables.{cross, verdict}
use Rattle.crossing.specs.Computed.{empty_of, extended_of}
use Rattle.listings.specs.Listing.{listing}
use Rattle.samples.proofs.worked_cases.Goals as goal

pub returns : goal.returns
unfolding to way cross verdict empty_of extended_of listing
returns c = rw (decimal_digit 0 (lit< tt), decimal_digit 1 (lit< tt), decimal_digit 2 (lit< tt), decimal_digit 3 (lit< tt)) refl
