-- What the quotient becomes without the symbols that all of its cubes have is the kernel below, unless no two of its cubes
-- differ.
use Rattle.std.proofs.Common.{◌≡◌, ◌∙◌, List, ap, sym, subst, arith}
use Rattle.mv_cover.specs.Literal.{Lit}
use Rattle.mv_kernels.specs.Symbols as spec
use Rattle.mv_kernels.specs.Symbols.{SameCubes}
use Rattle.mv_kernels.specs.Below.{HasOneCube, IsBelow, common_of}
use Rattle.mv_kernels.proofs.Steps.{one_behind, below_from}
use Rattle.mv_kernels.proofs.quotient.kernel_by.Goals as goal

-- the quotient of the part by what its cubes have in common, as the calls say it
free_is : (part first second : List (List Lit)) (common third : List Lit) (free : List (List Lit)) → first ≡ part → common ≡ common_of first → second ≡ part → third ≡ common → free ≡ spec.quotient second third → free ≡ spec.quotient part (common_of part)
free_is part first second common third free a b c d e =
    e ∙ (λ i. spec.quotient (c i) ((d ∙ (b ∙ ap common_of a)) i))

pub returns-then-len-lt2-2-clause-none : goal.returns-then-len-lt2-2-clause-none
returns-then-len-lt2-2-clause-none c =
    let part = c.in_ok-part.part.items in
    let is = free_is part c.as_slice.result.now c.as_slice-2.result.now c.in_ok-common.common.items c.as_slice-3.result.now c.in_ok-quotient.field-0.items c.as_slice.ensures.value c.in_ok-common.ensures c.as_slice-2.ensures.value c.as_slice-3.ensures.value c.in_ok-quotient.ensures.part in
    let same = subst (λ (x : List (List Lit)). SameCubes c.in_order-free.result.items x) is c.in_order-free.ensures.same in
    subst (λ (x : List (List Lit)). HasOneCube x) c.in_ok-part.ensures.part (one_behind part c.in_order-free.result.items c.args.cubes.now c.args.symbols.now c.in_ok-part.ensures.formed c.in_ok-part.ensures.part same (omega arith))

pub returns-clause-some : goal.returns-clause-some
returns-clause-some c =
    let part = c.in_ok-part.part.items in
    let is = free_is part c.as_slice.result.now c.as_slice-2.result.now c.in_ok-common.common.items c.as_slice-3.result.now c.in_ok-quotient.field-0.items c.as_slice.ensures.value c.in_ok-common.ensures c.as_slice-2.ensures.value c.as_slice-3.ensures.value c.in_ok-quotient.ensures.part in
    let same = subst (λ (x : List (List Lit)). SameCubes c.in_order-free.result.items x) is c.in_order-free.ensures.same in
    subst (λ (x : List (List Lit)). IsBelow c.args.cubes.now c.args.symbols.now x) (sym c.of.ensures)
    (below_from c.args.cubes.now c.args.symbols.now part c.in_order-free.result.items c.in_ok-part.ensures.part same c.in_order-free.ensures.ascending (omega arith))
