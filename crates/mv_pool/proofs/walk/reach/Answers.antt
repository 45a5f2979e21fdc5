use Rattle.std.proofs.Common.{◌≡◌, ◌∙◌, false, arith}
use Rattle.mv_pool.specs.Walks.{mark}
use Rattle.mv_pool.proofs.Walking.{reached_new, read_any, count-less}
use Rattle.mv_pool.proofs.walk.reach.Goals as goal

pub push_reserved-requires : goal.push_reserved-requires
push_reserved-requires c =
    let within = c.requires.within c.in-Some.id c.in-Some.is in
    let unmarked : mark c.args.marks.now.items c.in-Some.id.0 ≡ false = read_any c.args.marks.now.items c.in-Some.id.0 c.index.result.now false within c.index.ensures ∙ c.if-not-index.true in
    omega (arith, count-less c.args.marks.now.items c.in-Some.id.0 within unmarked, c.requires.walk.count, c.requires.room)

pub returns-then-not-index-clause-reached : goal.returns-then-not-index-clause-reached
returns-then-not-index-clause-reached c =
    let within = c.requires.within c.in-Some.id c.in-Some.is in
    let unmarked : mark c.args.marks.now.items c.in-Some.id.0 ≡ false = read_any c.args.marks.now.items c.in-Some.id.0 c.index.result.now false within c.index.ensures ∙ c.if-not-index.true in
    rw c.push_reserved.ensures.items (reached_new c.args.marks.now.items c.args.queue.now.items c.args.link c.in-Some.id c.requires.walk within unmarked c.in-Some.is)
