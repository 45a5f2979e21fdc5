-- The instance is new, so its name is added.
use Rattle.std.proofs.Common.{◌≡◌, false, refl, ◌∙◌}
use Rattle.mv_base.specs.Names.{among}
use Rattle.mv_instances.specs.Line.{instance_name}
use Rattle.mv_instances.proofs.Lawful.{instance-new}
use Rattle.mv_instances.proofs.line.add_instance.Goals as goal

pub returns-clause-ok : goal.returns-clause-ok
returns-clause-ok c =
    let new : among (instance_name c.args.words.now) c.args.known.now ≡ false = instance-new c.args.number c.args.word.now c.args.known.now c.args.words.now c.in_ok-check_instance.ensures in
    c.in_ok-_new.ensures.ok ∙ rw (c.in_ok-copy_at.ensures, new) refl
