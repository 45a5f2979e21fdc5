-- From one class on.
use Rattle.std.proofs.Common.{arith, subst, sym}
use Rattle.mv_net.proofs.Known.{values_few}
use Rattle.mv_alike.specs.Classes.{AreNumbered}
use Rattle.mv_alike.proofs.Refining.{one_class, classes_are}
use Rattle.mv_alike.proofs.classes.classes_of.Goals as goal

pub refine_by_readers-requires-clause-few : goal.refine_by_readers-requires-clause-few
refine_by_readers-requires-clause-few c =
    let few = values_few c.args.net.now c.args.n.0 c.well_formed-2.ensures in
    let long = c.in_ok-classes.ensures.len in
    omega (arith, few, c.values.ensures, long, c.in_ok-classes.classes.ok.0)

pub refine_by_readers-requires-clause-numbered : goal.refine_by_readers-requires-clause-numbered
refine_by_readers-requires-clause-numbered c =
    subst AreNumbered (sym (c.in_ok-classes.ensures.items_if_clones_equal (λ y h. h))) (one_class c.values.result)

pub returns-clause-classes : goal.returns-clause-classes
returns-clause-classes c =
    classes_are c.args.net.now.nets c.args.n.0 c.values.result c.readers.result.now c.in_ok-classes.classes.items c.refine_by_readers.new.classes.items c.values.ensures
    c.readers.ensures (c.in_ok-classes.ensures.items_if_clones_equal (λ y h. h)) c.in_ok-refine_by_readers.ensures

pub returns-clause-few : goal.returns-clause-few
returns-clause-few c =
    let few = values_few c.args.net.now c.args.n.0 c.well_formed-2.ensures in
    let long = c.in_ok-classes.ensures.len in
    let same = c.in_ok-refine_by_readers.ensures.long in
    omega (arith, few, c.values.ensures, long, same, c.in_ok-classes.classes.ok.0)
