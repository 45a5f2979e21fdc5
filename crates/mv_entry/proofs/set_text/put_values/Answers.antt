use Rattle.std.proofs.Common.{◌∙◌, ◌++◌, decimal, refl, ap}
use Rattle.std.specs.List.{flat_map}
use Rattle.mv_base.specs.Set.{one, minus}
use Rattle.mv_base.proofs.Gains.{start, next, stop, finish}
use Rattle.mv_page.proofs.Adding.{adds}
use Rattle.mv_entry.specs.Entries.{members, with_comma}
use Rattle.mv_entry.proofs.Members.{fewer-left, parted, values-more, values-none}
use Rattle.mv_entry.proofs.set_text.put_values.Goals as goal

pub values-init : goal.values-init
values-init g c = start adds _ _

pub one-requires : goal.one-requires
one-requires g c = c.members_are_small.ensures.below c.in-Some.value.0 c.in-Some.ensures.some

pub returns-in_err-put : goal.returns-in_err-put
returns-in_err-put g c =
    let v = c.in-Some.value.0 in
    let p = parted c.values.left v (minus c.values.left (one v)) c.members_are_small.ensures c.in-Some.ensures.some c.in-Some.ensures.least refl in
    let rest = flat_map with_comma (members (minus c.values.left (one v))) in
    stop adds (decimal v ++ rest) _ _ c.values.invariant (values-more _ _ _ p) c.in_err-put.ensures c.from_residual.ensures.1

pub returns-in_err-put_value : goal.returns-in_err-put_value
returns-in_err-put_value g c =
    let v = c.in-Some.value.0 in
    let p = parted c.values.left v (minus c.values.left (one v)) c.members_are_small.ensures c.in-Some.ensures.some c.in-Some.ensures.least refl in
    let rest = flat_map with_comma (members (minus c.values.left (one v))) in
    stop adds rest _ _ (next adds c.values.invariant (values-more _ _ _ p) c.in_ok-put.ensures) refl c.in_err-put_value.ensures c.from_residual-in_err-put_value.ensures.1

pub values-preserved : goal.values-preserved
values-preserved g c =
    let rest = c.minus-left.ensures ∙ ap (minus c.values.left) c.one.ensures in
    let p = parted c.values.left c.in-Some.value.0 c.minus-left.result c.members_are_small.ensures c.in-Some.ensures.some c.in-Some.ensures.least rest in
    let at = next adds c.values.invariant (values-more _ _ _ p) c.in_ok-put.ensures in
    next adds at refl c.in_ok-put_value.ensures

pub values-smaller : goal.values-smaller
values-smaller g c =
    let rest = c.minus-left.ensures ∙ ap (minus c.values.left) c.one.ensures in
    rw rest (fewer-left c.values.left c.in-Some.value.0 c.in-Some.ensures.some)

pub returns : goal.returns
returns g c =
    finish adds c.values.invariant (values-none c.values.left (c.in_default.ensures.none.0 refl))
