use Rattle.std.proofs.Common.{◌≡◌, ◌∙◌, false, arith}
use Rattle.mv_pool.specs.Walks.{mark}
use Rattle.mv_pool.proofs.Walking.{read_any, count-less}
use Rattle.mv_diagram.proofs.Gathering.{added_new}
use Rattle.mv_diagram.proofs.roots.add.Goals as goal

pub push_reserved-requires : goal.push_reserved-requires
push_reserved-requires c =
    let within = c.requires.within c.in-Some.id c.in-Some.is in
    let unmarked : mark c.args.marks.now.items c.in-Some.id.0 ≡ false = read_any c.args.marks.now.items c.in-Some.id.0 c.index.result.now false within c.index.ensures ∙ c.if-not-index.true in
    omega (arith, count-less c.args.marks.now.items c.in-Some.id.0 within unmarked, c.requires.marked.count, c.requires.room, c.args.ids.now.ok)

pub returns-then-not-index-clause-added : goal.returns-then-not-index-clause-added
returns-then-not-index-clause-added c =
    let within = c.requires.within c.in-Some.id c.in-Some.is in
    let unmarked : mark c.args.marks.now.items c.in-Some.id.0 ≡ false = read_any c.args.marks.now.items c.in-Some.id.0 c.index.result.now false within c.index.ensures ∙ c.if-not-index.true in
    rw c.push_reserved.ensures.items (added_new c.args.place c.in-Some.id c.args.marks.now.items c.args.ids.now.items c.requires.marked within unmarked c.in-Some.is)
