use Rattle.std.proofs.Common.{◌≡◌, ◌∙◌, true, false, sym, ap, subst}
use Rattle.mv_cover.specs.Cubes.{IsCube, nets_ascend}
use Rattle.mv_body.specs.Bodies.{AreLiterals}
use Rattle.mv_body.proofs.Tidying.{sorted-cube, sorted-tidy, sorted-said, sorted-untidy}
use Rattle.mv_body.proofs.line.tidy_cube.Goals as goal

pub returns-then-not-ascend : goal.returns-then-not-ascend
returns-then-not-ascend c =
    let nets = c.args.net.now.nets in
    let lits = c.args.lits.now in
    let are : AreLiterals nets lits c.in-Some.said.items = rw c.in-Some.is at c.in_ok-said.ensures in
    let down : nets_ascend c.by_net-sorted.result.items ≡ false = ap nets_ascend (sym c.as_slice.ensures.value) ∙ (sym c.ascend.ensures ∙ c.if-not-ascend.true) in
    sorted-untidy nets lits c.in-Some.said.items c.by_net-sorted.result.items are c.by_net-sorted.ensures down

pub new-requires : goal.new-requires
new-requires c =
    let nets = c.args.net.now.nets in
    let lits = c.args.lits.now in
    let are : AreLiterals nets lits c.in-Some.said.items = rw c.in-Some.is at c.in_ok-said.ensures in
    let up : nets_ascend c.by_net-sorted.result.items ≡ true = ap nets_ascend (sym c.as_slice.ensures.value) ∙ (sym c.ascend.ensures ∙ c.if-not-ascend.false) in
    subst IsCube (sym c.as_slice-2.ensures.value) (sorted-cube nets lits c.in-Some.said.items c.by_net-sorted.result.items are c.by_net-sorted.ensures up)

pub returns : goal.returns
returns c =
    let nets = c.args.net.now.nets in
    let lits = c.args.lits.now in
    let are : AreLiterals nets lits c.in-Some.said.items = rw c.in-Some.is at c.in_ok-said.ensures in
    let sorted = c.by_net-sorted.result.items in
    let up : nets_ascend sorted ≡ true = ap nets_ascend (sym c.as_slice.ensures.value) ∙ (sym c.ascend.ensures ∙ c.if-not-ascend.false) in
    (sorted-tidy nets lits c.in-Some.said.items sorted are c.by_net-sorted.ensures up, c.in_ok-new.ensures ∙ (c.as_slice-2.ensures.value ∙ sorted-said nets lits c.in-Some.said.items sorted are c.by_net-sorted.ensures up))
