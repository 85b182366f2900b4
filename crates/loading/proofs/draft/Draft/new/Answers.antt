use Rattle.std.proofs.Common.{◌≡◌, [], map, Some, sym, ◌∙◌, arith}
use Rattle.text.specs.Lines.{Line}
use Rattle.register.specs.Names.{as_name}
use Rattle.register.specs.Held.{held}
use Rattle.spelling.specs.Said.{field, with_name}
use Rattle.spelling.proofs.LoadNames.{place}
use Rattle.spelling.proofs.Order.{few_with}
use Rattle.spelling.proofs.LoadSeats.{seated}
use Rattle.loading.specs.Fields.{Heads}
use Rattle.loading.proofs.Entering.{is_seated}
use Rattle.loading.proofs.Growing.{drawn_first}
use Rattle.loading.proofs.draft.Draft.new.Goals as goal
use Rattle.loading.proofs.draft.Draft.new.Goals.{After-unwrap-start, After-unwrap-accept}

-- the first name, and the second
start_in : (c : After-unwrap-start) (h : Line) → Heads h c.args.header → (place (with_name [] (field 3 h)) (field 3 h) ≡ Some c.unwrap-start.result) × (held c.named.new.self.names ≡ map as_name (with_name [] (field 3 h)))
start_in c h H =
    let w = c.named.ensures in
    let s = seated [] (field 3 h) (held c.args.states.names) (held c.named.new.self.names) c.args.header.start c.requires.none H.start w.keys c.unwrap-start.result (sym c.unwrap-start.ensures ∙ w.place) in
    (s.1, s.2)

accept_in : (c : After-unwrap-accept) (h : Line) → Heads h c.args.header → (held c.named.new.self.names ≡ map as_name (with_name [] (field 3 h)))
    → (place (with_name (with_name [] (field 3 h)) (field 4 h)) (field 4 h) ≡ Some c.unwrap-accept.result) × (held c.named-2.new.self.names ≡ map as_name (with_name (with_name [] (field 3 h)) (field 4 h)))
accept_in c h H N =
    let w = c.named-2.ensures in
    let s = seated (with_name [] (field 3 h)) (field 4 h) (held c.named.new.self.names) (held c.named-2.new.self.names) c.args.header.accept N H.accept w.keys c.unwrap-accept.result (sym c.unwrap-accept.ensures ∙ w.place) in
    (s.1, s.2)

pub unwrap-start-requires : goal.unwrap-start-requires
unwrap-start-requires c =
    let h = c.requires.heads.0 in
    let w = c.named.ensures in
    is_seated [] (field 3 h) (held c.args.states.names) (held c.named.new.self.names) c.args.header.start c.requires.none c.requires.heads.1.start w.keys (omega arith) c.named.result w.place

pub unwrap-accept-requires : goal.unwrap-accept-requires
unwrap-accept-requires c =
    let h = c.requires.heads.0 in
    let H = c.requires.heads.1 in
    let s = start_in (goal.at.unwrap-accept-requires c).After-unwrap-start h H in
    let w = c.named-2.ensures in
    is_seated (with_name [] (field 3 h)) (field 4 h) (held c.named.new.self.names) (held c.named-2.new.self.names) c.args.header.accept s.1 H.accept w.keys (omega (arith, few_with [] (field 3 h))) c.named-2.result w.place

pub unwrap-reject-requires : goal.unwrap-reject-requires
unwrap-reject-requires c =
    let h = c.requires.heads.0 in
    let H = c.requires.heads.1 in
    let s = start_in (goal.at.unwrap-reject-requires c).After-unwrap-start h H in
    let a = accept_in (goal.at.unwrap-reject-requires c).After-unwrap-accept h H s.1 in
    let w = c.named-3.ensures in
    is_seated (with_name (with_name [] (field 3 h)) (field 4 h)) (field 5 h) (held c.named-2.new.self.names) (held c.named-3.new.self.names) c.args.header.reject a.1 H.reject w.keys (omega (arith, few_with [] (field 3 h), few_with (with_name [] (field 3 h)) (field 4 h))) c.named-3.result w.place

pub returns-clause-drawn : goal.returns-clause-drawn
returns-clause-drawn c h H =
    let s = start_in (goal.at.returns-clause-drawn c).After-unwrap-start h H in
    let a = accept_in (goal.at.returns-clause-drawn c).After-unwrap-accept h H s.1 in
    let w = c.named-3.ensures in
    let r = seated (with_name (with_name [] (field 3 h)) (field 4 h)) (field 5 h) (held c.named-2.new.self.names) (held c.named-3.new.self.names) c.args.header.reject a.1 H.reject w.keys c.unwrap-reject.result (sym c.unwrap-reject.ensures ∙ w.place) in
    drawn_first h _ H r.2 s.0 a.0 r.1 c.none.ensures
