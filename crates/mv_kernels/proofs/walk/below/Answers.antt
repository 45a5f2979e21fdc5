-- Symbols that no cube has lead to no kernel, so those of the cubes are enough.
use Rattle.std.proofs.Common.{subst, sym, List, All, Contains}
use Rattle.std.proofs.lemmas.Result.{IfOk-weaker}
use Rattle.mv_cover.specs.Literal.{Lit}
use Rattle.mv_kernels.specs.Below.{AreBelowBy, AreBelow}
use Rattle.mv_kernels.proofs.Walks.{below_all}
use Rattle.mv_kernels.proofs.walk.below.Goals as goal

pub returns : goal.returns
returns c =
    IfOk-weaker c.below_by.result (λ below. AreBelowBy c.args.cubes.now c.as_slice.result.now below.items) (λ below. AreBelow c.args.cubes.now below.items)
    (λ below by. below_all c.args.cubes.now c.as_slice.result.now below.items (subst (λ (x : List Lit). All (λ (q : List Lit). All (Contains x) q) c.args.cubes.now) (sym c.as_slice.ensures.keys) c.in_ok-symbols.ensures) by) c.below_by.ensures
