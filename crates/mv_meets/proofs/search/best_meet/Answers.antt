use Rattle.std.proofs.Common.{◌≡◌, ◌∙◌, Some, None, [], sym, arith}
use Rattle.std.proofs.lemmas.Bool.{eqb-true}
use Rattle.std.proofs.lemmas.List.{nil_from_length}
use Rattle.mv_meets.proofs.Visiting.{search_best, search_none}
use Rattle.mv_meets.proofs.search.best_meet.Goals as goal

pub returns-in-Some : goal.returns-in-Some
returns-in-Some c =
    let s = c.in_ok-found.field-0 in
    let root = c.in_ok-node in
    let none : s.waiting.items ≡ [] = nil_from_length s.waiting.items (sym s.waiting.ok.0 ∙ eqb-true s.waiting.len 0 (sym c.if-not-is_empty.ensures)) in
    let is : s.found ≡ Some c.in-Some.found = grind (arith, c.in-Some.is, c.in_ok-found.found-is) in
    search_best c.args.cubes.now s none root.node root.ensures.none root.ensures.low c.in_ok-found.ensures c.in-Some.found is

pub returns : goal.returns
returns c =
    let s = c.in_ok-found.field-0 in
    let root = c.in_ok-node in
    let none : s.waiting.items ≡ [] = nil_from_length s.waiting.items (sym s.waiting.ok.0 ∙ eqb-true s.waiting.len 0 (sym c.if-not-is_empty.ensures)) in
    let is : s.found ≡ None = grind (arith, c.in-None.is, c.in_ok-found.found-is) in
    search_none c.args.cubes.now s none root.node root.ensures.none root.ensures.low c.in_ok-found.ensures is
