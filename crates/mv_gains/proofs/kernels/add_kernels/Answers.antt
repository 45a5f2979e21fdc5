use Rattle.std.proofs.lemmas.Result.{IfOk-weaker}
use Rattle.std.proofs.Common.{◌≡◌, ◌++◌, List, map, subst}
use Rattle.mv_kernels.specs.declared.kernel.Kernel.{Kernel}
use Rattle.mv_gains.specs.Grown.{Grew, IsOneOf}
use Rattle.mv_gains.specs.Kernels.{IsKernelOfPart, IsWithKernels, new_candidate}
use Rattle.mv_gains.proofs.Symbolic.{kernels_added}
use Rattle.mv_gains.proofs.kernels.add_kernels.Goals as goal

pub returns : goal.returns
returns c =
    let found = subst (λ (ks : List Kernel). Grew (IsOneOf IsKernelOfPart c.args.parts.now) ks c.add_table.new.found.keys) c.new-found.ensures.empty c.in_ok-add_table.ensures in
    let old = c.args.list.now.items in
    let new = c.add_all.new.list.items in
    let listed = c.in_ok-listed.field-0.items in
    IfOk-weaker c.add_all.result (λ _. new ≡ old ++ map (new_candidate c.args.table) listed) (λ _. IsWithKernels c.args.table c.args.parts.now old new)
    (λ _ are. kernels_added c.args.table c.args.parts.now c.add_table.new.found.keys listed old new found c.in_ok-listed.ensures are) c.add_all.ensures
