use Rattle.std.proofs.Common.{◌≡◌, ◌∙◌, [], sym}
use Rattle.std.proofs.lemmas.Bool.{eqb-true}
use Rattle.std.proofs.lemmas.List.{nil_from_length}
use Rattle.mv_meets.proofs.Visiting.{search_sought}
use Rattle.mv_meets.proofs.search.better_meet.Goals as goal

pub returns : goal.returns
returns c =
    let s = c.in_ok-found.field-0 in
    let first = c.in_ok-node in
    let none : s.waiting.items ≡ [] = nil_from_length s.waiting.items (sym s.waiting.ok.0 ∙ eqb-true s.waiting.len 0 (sym c.if-not-is_empty.ensures)) in
    search_sought c.args.cubes.now s none first.node c.args.symbol.now c.args.given.now first.ensures.cube first.ensures.low c.in_ok-found.ensures
