use Rattle.std.proofs.Common.{◌<◌, ◌^◌, length, refl, arith}
use Rattle.mv_diagram.proofs.Growing.{IsReduced-fewer}
use Rattle.mv_diagram.proofs.Tables.{remembers_none}
use Rattle.mv_diagram.proofs.Reclaiming.{links_held, roots_held, fewer_reclaimed, reclaimed_kept, reclaimed_only}
use Rattle.mv_diagram.proofs.Showing.{Loses-fewer, all_held}
use Rattle.mv_diagram.proofs.diagrams.Diagrams.reclaim.Goals as goal

pub reclaim-requires-clause-roots : goal.reclaim-requires-clause-roots
reclaim-requires-clause-roots c =
    let held = all_held c.args.self.now c.args.roots.now c.requires in
    rw c.as_slice.ensures.value
    (roots_held c.self.inside.table.counts.items c.self.inside.table.pool.places c.self.invariant.sound c.args.roots.now c.gather.new.ids.items c.gather.ensures.gathered (rw (← c.self.view_is) at held))

pub reclaim-requires-clause-links : goal.reclaim-requires-clause-links
reclaim-requires-clause-links c = links_held c.self.inside.table.counts.items c.self.inside.table.pool.places c.self.invariant.sound

pub invariant_of-self : goal.invariant_of-self
invariant_of-self c =
    let counts = c.self.inside.table.counts.items in
    let ns = c.self.inside.table.pool.places in
    let new = c.reclaim.new.self.places in
    let s = c.self.invariant.sound in
    let held = rw (← c.self.view_is) at (all_held c.args.self.now c.args.roots.now c.requires) in
    let r = rw c.as_slice.ensures.value at c.reclaim.ensures.places in
    let small : length new < 2 ^ 32 = omega (arith, r.long, c.len-places.ensures.len, c.len-places.type_inv) in
    rw c.clear.ensures
    (record {
      sound = IsReduced-fewer counts ns new s (fewer_reclaimed counts ns s c.args.roots.now c.gather.new.ids.items c.gather.ensures.gathered held new r small);
      remembers = remembers_none counts new;
      ascends = λ none. absurd (omega (arith, c.saturating_add-self-inside.ensures));
      marked = omega (arith, c.reclaim.ensures.cap, c.self.invariant.marked, c.gather.ensures.marks);
      gathered = omega (arith, c.reclaim.ensures.cap, c.self.invariant.gathered, c.gather.ensures.ids);
      room = c.self.invariant.room;
      listed = omega (arith, c.reclaim.ensures.cap, c.self.invariant.listed);
    })

pub returns-clause-loses : goal.returns-clause-loses
returns-clause-loses c =
    let old = c.self.inside.table in
    let counts = old.counts.items in
    let ns = old.pool.places in
    let new = c.reclaim.new.self.places in
    let s = c.self.invariant.sound in
    let held = rw (← c.self.view_is) at (all_held c.args.self.now c.args.roots.now c.requires) in
    let r = rw c.as_slice.ensures.value at c.reclaim.ensures.places in
    let small : length new < 2 ^ 32 = omega (arith, r.long, c.len-places.ensures.len, c.len-places.type_inv) in
    rw (← c.self.view_is)
    (Loses-fewer old (record old { pool = c.reclaim.new.self }) c.self.inside.reclaims c.saturating_add-self-inside.result s (fewer_reclaimed counts ns s c.args.roots.now c.gather.new.ids.items c.gather.ensures.gathered held new r small) refl c.reclaim.ensures.cap)

pub returns-clause-kept : goal.returns-clause-kept
returns-clause-kept c =
    let counts = c.self.inside.table.counts.items in
    let ns = c.self.inside.table.pool.places in
    let new = c.reclaim.new.self.places in
    let s = c.self.invariant.sound in
    let held = rw (← c.self.view_is) at (all_held c.args.self.now c.args.roots.now c.requires) in
    let r = rw c.as_slice.ensures.value at c.reclaim.ensures.places in
    let small : length new < 2 ^ 32 = omega (arith, r.long, c.len-places.ensures.len, c.len-places.type_inv) in
    rw (← c.self.view_is)
    (λ d reaches. record { is = reclaimed_kept counts ns s c.args.roots.now c.gather.new.ids.items c.gather.ensures.gathered held new r small d.0 reaches })

pub returns-clause-only : goal.returns-clause-only
returns-clause-only c =
    let counts = c.self.inside.table.counts.items in
    let ns = c.self.inside.table.pool.places in
    let new = c.reclaim.new.self.places in
    let s = c.self.invariant.sound in
    let held = rw (← c.self.view_is) at (all_held c.args.self.now c.args.roots.now c.requires) in
    let r = rw c.as_slice.ensures.value at c.reclaim.ensures.places in
    let small : length new < 2 ^ 32 = omega (arith, r.long, c.len-places.ensures.len, c.len-places.type_inv) in
    rw (← c.self.view_is)
    (λ d there. reclaimed_only counts ns s c.args.roots.now c.gather.new.ids.items c.gather.ensures.gathered held new r small d.0 there.is)
