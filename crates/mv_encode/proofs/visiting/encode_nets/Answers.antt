-- What came is a course, by which the network may take the place of the old one.
use Rattle.mv_encode.proofs.Visited.{passes_refines}
use Rattle.mv_encode.proofs.visiting.encode_nets.Goals as goal

pub returns-in-Ok-clause-refines : goal.returns-in-Ok-clause-refines
returns-in-Ok-clause-refines g c = passes_refines c.args.terms.free c.args.net.now c.visit_each.new.net _ _ _ c.well_formed-2.ensures c.in-Ok.ensures

pub returns-in-Err-clause-refines : goal.returns-in-Err-clause-refines
returns-in-Err-clause-refines g c = passes_refines c.args.terms.free c.args.net.now c.visit_each.new.net _ _ _ c.well_formed-2.ensures c.in-Err.ensures
