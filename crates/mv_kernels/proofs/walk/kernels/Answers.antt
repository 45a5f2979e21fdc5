-- Each turn puts the kernels below the next one to those found; behind the last one none is missed.
use Rattle.std.proofs.Common.{◌≡◌, ◌∙◌, List, Contains, Some, None, slice_get, subst, sym, ap, arith}
use Rattle.std.specs.Option.{option_copied}
use Rattle.mv_cover.specs.Literal.{Lit}
use Rattle.mv_kernels.specs.declared.kernel.Kernel.{Kernel}
use Rattle.mv_kernels.specs.Kernels.{AreKernels}
use Rattle.mv_kernels.specs.Below.{AreBelow}
use Rattle.mv_kernels.proofs.Walks.{walked_more, walked_kernels, walked_to_end, few_found}
use Rattle.mv_kernels.proofs.walk.kernels.Goals as goal

pub returns-then-len-gt-MAX_KERNELS-clause-many : goal.returns-then-len-gt-MAX_KERNELS-clause-many
returns-then-len-gt-MAX_KERNELS-clause-many c _ =
    let at : slice_get c.loop-kernel.found.keys c.loop-kernel.next ≡ Some c.in-Some.kernel.now = sym c.get_index.ensures.key ∙ ap option_copied c.in-Some.is in
    let w = walked_more c.args.cubes.now c.loop-kernel.found.keys c.loop-kernel.next c.in-Some.kernel.now c.in_ok-below.below.items c.put_all.new.found.keys at (subst (λ (x : List (List Lit)). AreBelow x c.in_ok-below.below.items) c.as_slice.ensures c.in_ok-below.ensures) c.in_ok-put_all.ensures c.loop-kernel.invariant.walked in
    record { kernels = c.put_all.new.found.keys; are = walked_kernels c.args.cubes.now c.put_all.new.found.keys _ c.len.ensures.unique w; many = omega (arith, c.len.ensures.len) }

pub loop-kernel-preserved : goal.loop-kernel-preserved
loop-kernel-preserved c =
    let at : slice_get c.loop-kernel.found.keys c.loop-kernel.next ≡ Some c.in-Some.kernel.now = sym c.get_index.ensures.key ∙ ap option_copied c.in-Some.is in
    record {
      walked =
          walked_more c.args.cubes.now c.loop-kernel.found.keys c.loop-kernel.next c.in-Some.kernel.now c.in_ok-below.below.items c.put_all.new.found.keys at
          (subst (λ (x : List (List Lit)). AreBelow x c.in_ok-below.below.items) c.as_slice.ensures c.in_ok-below.ensures) c.in_ok-put_all.ensures c.loop-kernel.invariant.walked;
      few = omega (arith, c.len.ensures.len);
    }

pub returns-clause-are : goal.returns-clause-are
returns-clause-are c =
    subst (λ (x : List Kernel). AreKernels c.args.cubes.now x) (sym c.in_ok-listed.ensures.same)
    (walked_kernels c.args.cubes.now c.loop-kernel.found.keys c.loop-kernel.next c.listed.ensures.distinct c.loop-kernel.invariant.walked)

pub returns-clause-all : goal.returns-clause-all
returns-clause-all c k is =
    let none : slice_get c.loop-kernel.found.keys c.loop-kernel.next ≡ None = sym c.get_index.ensures.key ∙ ap option_copied c.in_default.is in
    subst (λ (x : List Kernel). Contains x k) (sym c.in_ok-listed.ensures.same)
    (walked_to_end c.args.cubes.now c.loop-kernel.found.keys c.loop-kernel.next c.in_ok-found.ensures.formed none c.loop-kernel.invariant.walked k is)

pub returns-clause-few : goal.returns-clause-few
returns-clause-few c =
    let none : slice_get c.loop-kernel.found.keys c.loop-kernel.next ≡ None = sym c.get_index.ensures.key ∙ ap option_copied c.in_default.is in
    few_found c.args.cubes.now c.loop-kernel.found.keys c.loop-kernel.invariant.few
    (walked_to_end c.args.cubes.now c.loop-kernel.found.keys c.loop-kernel.next c.in_ok-found.ensures.formed none c.loop-kernel.invariant.walked)
