use Rattle.std.proofs.Common.{List, subst}
use Rattle.std.proofs.lemmas.List.{take_all}
use Rattle.mv_cover.specs.Literal.{Lit}
use Rattle.mv_divide.specs.declared.part.Part.{Part}
use Rattle.mv_gains.specs.Grown.{IsOneOf}
use Rattle.mv_gains.specs.Known.{IsMarked, IsOn}
use Rattle.mv_gains.proofs.Marking.{marked_none, marked_more}
use Rattle.mv_gains.proofs.marks.mark_parts.Goals as goal

pub loop-part-init : goal.loop-part-init
loop-part-init c = marked_none c.args.now (λ (p : Part). IsOn p.cover) c.args.changed.now.items

pub loop-part-preserved : goal.loop-part-preserved
loop-part-preserved c =
    marked_more c.args.now (λ (p : Part). IsOn p.cover) c.args.parts.now c.loop-part.part-index c.part-item.result c.args.changed.now.items c.loop-part.changed.items c.mark_cubes.new.changed.items c.loop-part-test.true c.part-item.is c.loop-part.invariant
    (subst (λ (cs : List (List Lit)). IsMarked c.args.now (IsOn cs) c.loop-part.changed.items c.mark_cubes.new.changed.items) c.cubes.ensures.cubes c.mark_cubes.ensures)

pub returns : goal.returns
returns c =
    subst (λ (xs : List Part). IsMarked c.args.now (IsOneOf (λ (p : Part). IsOn p.cover) xs) c.args.changed.now.items c.loop-part.changed.items) (take_all c.loop-part.part-index c.args.parts.now c.loop-part-test.false)
    c.loop-part.invariant
