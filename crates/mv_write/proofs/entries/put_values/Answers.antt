use Rattle.std.proofs.Common.{◌∙◌, ◌++◌, refl, ap}
use Rattle.std.specs.List.{flat_map}
use Rattle.mv_base.specs.Set.{one, minus}
use Rattle.mv_base.proofs.Gains.{start, next, stop, finish}
use Rattle.mv_page.proofs.Adding.{adds}
use Rattle.mv_net.specs.Nets.{spelled_values}
use Rattle.mv_text.specs.Text.{names_in_set, with_comma}
use Rattle.mv_write.specs.Walk.{named}
use Rattle.mv_write.proofs.Members.{fewer-left}
use Rattle.mv_write.proofs.Spelling.{parted, least-small, least-named, others-within, values-more, values-none}
use Rattle.mv_write.proofs.entries.put_values.Goals as goal

pub values-init : goal.values-init
values-init g c = record { going = start adds _ _; within = c.requires.within }

pub put_value-requires : goal.put_value-requires
put_value-requires g c =
    least-named _ _ _ _ _ (parted c.args.count c.args.names.now c.values.left c.in-Some.value.0 _ c.requires.values c.values.invariant.within c.in-Some.ensures.some c.in-Some.ensures.least refl)

pub one-requires : goal.one-requires
one-requires g c =
    least-small _ _ _ _ _ (parted c.args.count c.args.names.now c.values.left c.in-Some.value.0 _ c.requires.values c.values.invariant.within c.in-Some.ensures.some c.in-Some.ensures.least refl)

pub returns-in_err-put : goal.returns-in_err-put
returns-in_err-put g c =
    let names = c.args.names.now in
    let v = c.in-Some.value.0 in
    let p = parted c.args.count names c.values.left v (minus c.values.left (one v)) c.requires.values c.values.invariant.within c.in-Some.ensures.some c.in-Some.ensures.least refl in
    let rest = flat_map with_comma (names_in_set (spelled_values c.args.count names) (minus c.values.left (one v))) in
    stop adds (named names v ++ rest) _ _ c.values.invariant.going (values-more _ _ _ _ _ p) c.in_err-put.ensures c.from_residual.ensures.1

pub returns-in_err-put_value : goal.returns-in_err-put_value
returns-in_err-put_value g c =
    let names = c.args.names.now in
    let v = c.in-Some.value.0 in
    let p = parted c.args.count names c.values.left v (minus c.values.left (one v)) c.requires.values c.values.invariant.within c.in-Some.ensures.some c.in-Some.ensures.least refl in
    let rest = flat_map with_comma (names_in_set (spelled_values c.args.count names) (minus c.values.left (one v))) in
    stop adds rest _ _ (next adds c.values.invariant.going (values-more _ _ _ _ _ p) c.in_ok-put.ensures) refl c.in_err-put_value.ensures c.from_residual-in_err-put_value.ensures.1

pub values-preserved : goal.values-preserved
values-preserved g c =
    let rest = c.minus-left.ensures ∙ ap (minus c.values.left) c.one.ensures in
    let p = parted c.args.count c.args.names.now c.values.left c.in-Some.value.0 c.minus-left.result c.requires.values c.values.invariant.within c.in-Some.ensures.some c.in-Some.ensures.least rest in
    let at = next adds c.values.invariant.going (values-more _ _ _ _ _ p) c.in_ok-put.ensures in
    record { going = next adds at refl c.in_ok-put_value.ensures; within = others-within _ _ _ _ _ p }

pub values-smaller : goal.values-smaller
values-smaller g c =
    let rest = c.minus-left.ensures ∙ ap (minus c.values.left) c.one.ensures in
    rw rest (fewer-left c.values.left c.in-Some.value.0 c.in-Some.ensures.some)

pub returns : goal.returns
returns g c =
    finish adds c.values.invariant.going (values-none c.args.count c.args.names.now c.values.left (c.in_default.ensures.none.0 refl))
