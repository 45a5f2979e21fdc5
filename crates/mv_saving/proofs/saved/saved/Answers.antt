-- The joins have no more literals than the cover, and at least those of what comes in their place.
use Rattle.std.proofs.Common.{arith}
use Rattle.mv_saving.proofs.Counting.{counts}
use Rattle.mv_saving.proofs.saved.saved.Goals as goal

pub overflow_mul-joined : goal.overflow_mul-joined
overflow_mul-joined c =
    let k = counts c.args.cover.now c.args.divisor.now c.args.quotient.now c.literals-now.result c.literals-own.result c.literals-left.result c.literals-now.ensures.value c.literals-own.ensures.value c.literals-left.ensures.value (record { formed = c.literals-now.ensures.formed; distinct = c.requires.cover }) (record { formed = c.literals-own.ensures.formed; distinct = c.requires.divisor }) c.requires.quotient c.requires.some in
    omega (arith, k.within, c.literals-now.ensures.few)

pub overflow_mul-joined-2 : goal.overflow_mul-joined-2
overflow_mul-joined-2 c =
    let k = counts c.args.cover.now c.args.divisor.now c.args.quotient.now c.literals-now.result c.literals-own.result c.literals-left.result c.literals-now.ensures.value c.literals-own.ensures.value c.literals-left.ensures.value (record { formed = c.literals-now.ensures.formed; distinct = c.requires.cover }) (record { formed = c.literals-own.ensures.formed; distinct = c.requires.divisor }) c.requires.quotient c.requires.some in
    omega (arith, k.within, c.literals-now.ensures.few)

pub overflow_add-joined : goal.overflow_add-joined
overflow_add-joined c =
    let k = counts c.args.cover.now c.args.divisor.now c.args.quotient.now c.literals-now.result c.literals-own.result c.literals-left.result c.literals-now.ensures.value c.literals-own.ensures.value c.literals-left.ensures.value (record { formed = c.literals-now.ensures.formed; distinct = c.requires.cover }) (record { formed = c.literals-own.ensures.formed; distinct = c.requires.divisor }) c.requires.quotient c.requires.some in
    omega (arith, k.within, c.literals-now.ensures.few)

pub overflow_sub-after : goal.overflow_sub-after
overflow_sub-after c =
    let k = counts c.args.cover.now c.args.divisor.now c.args.quotient.now c.literals-now.result c.literals-own.result c.literals-left.result c.literals-now.ensures.value c.literals-own.ensures.value c.literals-left.ensures.value (record { formed = c.literals-now.ensures.formed; distinct = c.requires.cover }) (record { formed = c.literals-own.ensures.formed; distinct = c.requires.divisor }) c.requires.quotient c.requires.some in
    k.within

pub overflow_sub-result : goal.overflow_sub-result
overflow_sub-result c =
    let k = counts c.args.cover.now c.args.divisor.now c.args.quotient.now c.literals-now.result c.literals-own.result c.literals-left.result c.literals-now.ensures.value c.literals-own.ensures.value c.literals-left.ensures.value (record { formed = c.literals-now.ensures.formed; distinct = c.requires.cover }) (record { formed = c.literals-own.ensures.formed; distinct = c.requires.divisor }) c.requires.quotient c.requires.some in
    omega (arith, k.within, k.enough)

pub returns-clause-saved : goal.returns-clause-saved
returns-clause-saved c =
    let k = counts c.args.cover.now c.args.divisor.now c.args.quotient.now c.literals-now.result c.literals-own.result c.literals-left.result c.literals-now.ensures.value c.literals-own.ensures.value c.literals-left.ensures.value (record { formed = c.literals-now.ensures.formed; distinct = c.requires.cover }) (record { formed = c.literals-own.ensures.formed; distinct = c.requires.divisor }) c.requires.quotient c.requires.some in
    omega (arith, k.is, k.within, k.enough, c.literals-left.ensures.value)
