use Rattle.std.proofs.Common.{refl, take}
use Rattle.mv_diagram.specs.declared.table.Table.{Table}
use Rattle.mv_diagram.proofs.Growing.{IsReduced-fewer}
use Rattle.mv_diagram.proofs.Tables.{remembers_none}
use Rattle.mv_diagram.proofs.Reclaiming.{fewer_take, ascends_take}
use Rattle.mv_diagram.proofs.Showing.{Loses-fewer}
use Rattle.mv_diagram.proofs.diagrams.Diagrams.release.Goals as goal

pub invariant_of-self : goal.invariant_of-self
invariant_of-self c =
    let counts = c.self.inside.table.counts.items in
    let ns = c.self.inside.table.pool.places in
    let s = c.self.invariant.sound in
    let up = c.self.invariant.ascends (rw (← c.self.view_is) at c.requires.none) in
    rw (c.release.ensures, c.clear.ensures)
    (record {
      sound = IsReduced-fewer counts ns (take c.args.mark.0 ns) s (fewer_take counts ns s up c.args.mark.0);
      remembers = remembers_none counts (take c.args.mark.0 ns);
      ascends = λ none. ascends_take counts ns s up c.args.mark.0;
      marked = c.self.invariant.marked;
      gathered = c.self.invariant.gathered;
      room = c.self.invariant.room;
      listed = c.self.invariant.listed;
    })

pub returns-clause-loses : goal.returns-clause-loses
returns-clause-loses c =
    let old = c.self.inside.table in
    let ns = old.pool.places in
    let s = c.self.invariant.sound in
    let up = c.self.invariant.ascends (rw (← c.self.view_is) at c.requires.none) in
    let new : Table = record old { pool = record { places = take c.args.mark.0 ns; cap = old.pool.cap } } in
    rw (← c.self.view_is, c.release.ensures)
    (Loses-fewer old new c.self.inside.reclaims c.self.inside.reclaims s (fewer_take old.counts.items ns s up c.args.mark.0) refl refl)
