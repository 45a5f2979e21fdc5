use Rattle.mv_diagram.proofs.diagrams.Diagrams.meets.Goals as goal

pub meets_in-requires-clause-held : goal.meets_in-requires-clause-held
meets_in-requires-clause-held c = (rw (← c.self.view_is) at c.requires.held).is

pub meets_in-requires-clause-choices : goal.meets_in-requires-clause-choices
meets_in-requires-clause-choices c = rw (← c.self.view_is) at c.requires.sets
