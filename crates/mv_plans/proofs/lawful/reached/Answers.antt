-- A table below isn't total, or all are, and the window is too wide or not.
use Rattle.std.proofs.Common.{inl, inr, refl}
use Rattle.mv_net.specs.Nets.{slot}
use Rattle.mv_plans.proofs.Narrowed.{table_held, wide_fails}
use Rattle.mv_plans.proofs.lawful.reached.Goals as goal

pub is_below-requires-clause-held : goal.is_below-requires-clause-held
is_below-requires-clause-held c = table_held (slot c.args.net.now.nets c.args.n.0) c.requires.table

pub returns-then-is_below : goal.returns-then-is_below
returns-then-is_below c = inr (λ new. inl (rw c.if-is_below.true at c.is_below.ensures, refl))

pub returns-then-is_too_wide : goal.returns-then-is_too_wide
returns-then-is_too_wide c =
    let below = rw c.if-is_below.false at c.is_below.ensures in
    let wide = rw c.if-is_too_wide.true at c.is_too_wide.ensures in
    inr (λ new. wide_fails c.args.net.now c.args.n.0 c.args.d c.args.u new below (record { window = c.in_ok-window.window; is = c.in_ok-window.ensures; holds = wide }))

pub returns : goal.returns
returns c = record {
  below = rw c.if-is_below.false at c.is_below.ensures;
  narrow = record { window = c.in_ok-window.window; is = c.in_ok-window.ensures; holds = rw c.if-is_too_wide.false at c.is_too_wide.ensures };
}
