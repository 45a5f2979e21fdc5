-- What holds where nothing is told, and what is told.
use Rattle.mv_design.specs.Nets.{root_of}
use Rattle.mv_unfold.specs.Whole.{whole_faults}
use Rattle.mv_unfold.proofs.Checked.{good_nets, short_names}
use Rattle.mv_unfold.proofs.Wholes.{told_none, told_fault}
use Rattle.mv_unfold.proofs.model.whole.Goals as goal

pub returns-clause-good : goal.returns-clause-good
returns-clause-good c = λ h.
    let root = root_of c.args.design in
    told_none c.built.result (whole_faults root h.tree) (c.built.ensures.faults h) (good_nets root h.tree)

pub returns-clause-short : goal.returns-clause-short
returns-clause-short c = λ h.
    let root = root_of c.args.design in
    told_none c.built.result (whole_faults root h.tree) (c.built.ensures.faults h) (short_names root h.tree)

pub returns-clause-fault : goal.returns-clause-fault
returns-clause-fault c = told_fault c.built.result c.args.design c.args.opened.now c.requires.opened (c.built.ensures.faults c.requires.opened)
