-- The numbers of bound formals in order, and the spans between them.
use Rattle.std.proofs.Common.{sym, subst}
use Rattle.std.specs.List.Sorted.{IsPermutation, IsNonDecreasing}
use Rattle.std.proofs.lemmas.List.Sorted.{IsNonDecreasingBy-from_sort}
use Rattle.std.proofs.lemmas.Result.{IfOk-weaker}
use Rattle.mv_unfold.specs.Locals.{AreBetween, AreOwn}
use Rattle.mv_unfold.proofs.Owned.{owned, sorted_below}
use Rattle.mv_unfold.proofs.spans.own_spans.Goals as goal

pub spans_between-requires-clause-ascending : goal.spans_between-requires-clause-ascending
spans_between-requires-clause-ascending c =
    subst IsNonDecreasing (sym c.as_slice.ensures.value) (IsNonDecreasingBy-from_sort (λ n. n) c.sort_unstable.new.self.items c.sort_unstable.ensures.sorted)

pub spans_between-requires-clause-below : goal.spans_between-requires-clause-below
spans_between-requires-clause-below c =
    sorted_below c.args.nets.now c.args.binds.now c.as_slice.result.now c.len.result
    (subst (λ ns. IsPermutation ns c.as_slice.result.now) c.in_ok-stops.ensures
    (subst (IsPermutation c.in_ok-stops.stops.items) (sym c.as_slice.ensures.value) c.sort_unstable.ensures.permutation))
    c.len.ensures

pub returns : goal.returns
returns c =
    let nets = c.args.nets.now in
    let binds = c.args.binds.now in
    let sorted = c.as_slice.result.now in
    IfOk-weaker c.spans_between.result (AreBetween sorted c.len.result) (AreOwn nets binds)
    (λ spans h.
    owned nets binds sorted c.len.result spans c.distinct.ensures
    (subst (λ ns. IsPermutation ns sorted) c.in_ok-stops.ensures
    (subst (IsPermutation c.in_ok-stops.stops.items) (sym c.as_slice.ensures.value) c.sort_unstable.ensures.permutation))
    c.len.ensures h)
    c.spans_between.ensures
