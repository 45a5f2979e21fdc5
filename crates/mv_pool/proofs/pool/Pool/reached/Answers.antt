use Rattle.mv_pool.proofs.Walking.{listed}
use Rattle.mv_pool.proofs.pool.Pool.reached.Goals as goal

pub returns-clause-listed : goal.returns-clause-listed
returns-clause-listed g c =
    let w = rw c.as_slice-2.ensures.value at c.follow_all.ensures.walking in
    rw (← c.self.view_is) (listed g.T.Linked.link_of c.self.inside.places.items c.args.roots.now c.follow_all.new.marks.items c.follow_all.new.queue.items w c.follow_all.ensures.rooted)
