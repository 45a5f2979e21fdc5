-- Span by span.
use Rattle.std.proofs.Common.{◌+◌, subst, drop, get_or}
use Rattle.std.specs.List.{flat_map}
use Rattle.std.proofs.lemmas.Result.{err_from_is_err_and}
use Rattle.mv_base.specs.declared.limits.TheConstants.{MAX_FLAT_NETS}
use Rattle.mv_fault.proofs.Firsts.{told_of}
use Rattle.mv_fault.specs.declared.flat.FlatFault.TheVariants.{Memory}
use Rattle.mv_unfold.specs.Locals.{cut}
use Rattle.mv_unfold.specs.Named.{rest_faults, under}
use Rattle.mv_unfold.proofs.Named.{IsGathered, gathered_fault, gathered_more, spans_more}
use Rattle.mv_unfold.proofs.naming.add_spans.Goals as goal

pub loop-span-preserved : goal.loop-span-preserved
loop-span-preserved c =
    let path = c.args.path.now in
    let nets = c.args.nets.now in
    let spans = c.args.spans.now in
    let i = c.loop-span.span-index in
    let here = under path (cut nets (get_or spans i (record { start = 0; end = 0 }))) in
    let all = under path (flat_map (cut nets) spans) in
    let rest = under path (flat_map (cut nets) (drop (i + 1) spans)) in
    gathered_more c.args.homes.now all c.loop-span.homes here rest c.add_names.new.homes
    (subst (IsGathered c.args.homes.now all c.loop-span.homes) (spans_more path nets spans i (record { start = 0; end = 0 }) c.loop-span-test.true)
    c.loop-span.invariant)
    c.in_ok-add_names.ensures.faults c.in_ok-add_names.ensures.added

pub returns-in_err-add_names-clause-faults : goal.returns-in_err-add_names-clause-faults
returns-in_err-add_names-clause-faults c =
    let path = c.args.path.now in
    let nets = c.args.nets.now in
    let spans = c.args.spans.now in
    let i = c.loop-span.span-index in
    let here = under path (cut nets (get_or spans i (record { start = 0; end = 0 }))) in
    let all = under path (flat_map (cut nets) spans) in
    let rest = under path (flat_map (cut nets) (drop (i + 1) spans)) in
    let e = err_from_is_err_and c.from_residual.result c.from_residual.ensures.1 in
    rw (e.1, e.2)
    (told_of Memory _ (rest_faults MAX_FLAT_NETS c.loop-span.homes here) (rest_faults MAX_FLAT_NETS c.args.homes.now all)
    (λ f.
    gathered_fault c.args.homes.now all c.loop-span.homes here rest f
    (subst (IsGathered c.args.homes.now all c.loop-span.homes) (spans_more path nets spans i (record { start = 0; end = 0 }) c.loop-span-test.true)
    c.loop-span.invariant))
    c.in_err-add_names.ensures.faults)
