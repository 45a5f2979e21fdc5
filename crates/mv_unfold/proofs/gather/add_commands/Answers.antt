-- One more instance, behind the commands that stand before its line.
use Rattle.std.proofs.Common.{◌≡◌, ◌∙◌, ◌+◌, ap, sym, arith, drop, length}
use Rattle.std.proofs.lemmas.List.{length-drop, take_rest}
use Rattle.mv_design.specs.ByLine.{before_line}
use Rattle.mv_design.specs.Nets.{Naming}
use Rattle.mv_acyclic.specs.Driving.{with_names}
use Rattle.mv_design.proofs.ByLine.{few_before}
use Rattle.mv_unfold.specs.Locals.{actuals_of, with_commands}
use Rattle.mv_unfold.proofs.Gathered.{command_more}
use Rattle.mv_unfold.proofs.gather.add_commands.Goals as goal

pub loop-instance-preserved : goal.loop-instance-preserved
loop-instance-preserved c =
    let p = c.instance-item.result in
    let ns = c.args.namings.now in
    let rest = drop c.loop-instance.done ns in
    let before = before_line (λ (n : Naming). n.line) p.line rest in
    let front : c.front_before-front.result.now ≡ before =
    c.front_before-front.ensures ∙ ap (before_line (λ (n : Naming). n.line) p.line) (take_rest ns c.loop-instance.done) in
    let binds : c.as_slice.result.now ≡ p.binds = c.as_slice.ensures in
    record {
      within =
          let l = few_before (λ (n : Naming). n.line) p.line rest in
          let s = length-drop c.loop-instance.done ns in
          let e = ap length front in
          let w = c.loop-instance.invariant.within in
          omega (arith, l, s, e, w);
      gathered =
          ap (λ names. with_commands names (drop (c.loop-instance.instance-index + 1) c.args.instances.now) (drop (c.loop-instance.done + length c.front_before-front.result.now) ns))
          (c.in_ok-add_actuals.ensures ∙ (ap (λ bs. with_names c.add_named.new.nets (actuals_of bs)) binds ∙ ap (λ us. with_names us (actuals_of p.binds)) c.in_ok-add_named.ensures))
          ∙ (sym (command_more c.loop-instance.nets c.args.instances.now ns c.loop-instance.instance-index c.loop-instance.done p c.front_before-front.result.now
          c.loop-instance-test.true c.instance-item.is front)
          ∙ c.loop-instance.invariant.gathered);
    }
