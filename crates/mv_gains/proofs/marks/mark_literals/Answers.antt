use Rattle.std.proofs.Common.{◌≡◌, List, subst}
use Rattle.std.proofs.lemmas.List.{take_all}
use Rattle.mv_base.specs.declared.number.NetId.{NetId}
use Rattle.mv_cover.specs.Literal.{Lit}
use Rattle.mv_gains.specs.Grown.{IsOneOf}
use Rattle.mv_gains.specs.Known.{IsLiteralOn, IsMarked}
use Rattle.mv_gains.proofs.Marking.{marked_none, marked_more}
use Rattle.mv_gains.proofs.marks.mark_literals.Goals as goal

pub loop-literal-init : goal.loop-literal-init
loop-literal-init c = marked_none c.args.now (IsLiteralOn) c.args.changed.now.items

pub loop-literal-preserved : goal.loop-literal-preserved
loop-literal-preserved c =
    marked_more c.args.now (IsLiteralOn) c.args.literals.now c.loop-literal.literal-index c.literal-item.result c.args.changed.now.items c.loop-literal.changed.items c.mark.new.changed.items c.loop-literal-test.true c.literal-item.is c.loop-literal.invariant
    (subst (λ (n : NetId). IsMarked c.args.now (λ m. n.0 ≡ m) c.loop-literal.changed.items c.mark.new.changed.items) c.net.ensures.value c.mark.ensures)

pub returns : goal.returns
returns c =
    subst (λ (xs : List Lit). IsMarked c.args.now (IsOneOf (IsLiteralOn) xs) c.args.changed.now.items c.loop-literal.changed.items) (take_all c.loop-literal.literal-index c.args.literals.now c.loop-literal-test.false)
    c.loop-literal.invariant
