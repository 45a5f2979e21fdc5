-- The path round the instance, and its own step.
use Rattle.std.proofs.Common.{arith, ◌∙◌, ap}
use Rattle.mv_design.specs.declared.design.Instance.{Instance}
use Rattle.mv_unfold.proofs.Laid.{instance_placed, path_more}
use Rattle.mv_unfold.proofs.layout.Layout.+add_path.Goals as goal

pub add_path-requires : goal.add_path-requires
add_path-requires t c =
    let p = instance_placed c.args.self.now c.args.number c.requires.laid (omega arith) c.requires.number in
    let low = p.round in
    (omega arith, (c.requires.laid, omega arith))

pub returns : goal.returns
returns t c =
    let l = c.args.self.now in
    let p = instance_placed l c.args.number c.requires.laid (omega arith) c.requires.number in
    path_more l c.args.number c.args.path.now.items c.add_path.new.path.items c.extend_from_slice.new.self.items c.push.new.self.items c.bytes.result.now p
    c.in_ok-add_path.ensures (c.bytes.ensures ∙ ap (λ (x : Instance). x.name) c.instance.ensures) c.in_ok-extend_from_slice.ensures.items c.in_ok-push.ensures.items
