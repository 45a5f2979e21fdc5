use Rattle.std.proofs.Common.{◌∙◌, List, Option, ap, subst, map}
use Rattle.mv_base.specs.declared.number.NetId.{NetId}
use Rattle.mv_net.specs.declared.parts.FlatLatch.{FlatLatch}
use Rattle.mv_net.specs.declared.parts.FlatNet.{FlatNet}
use Rattle.mv_graph.specs.Nets.{has_id}
use Rattle.mv_net.specs.Index.{is_latch_input, is_reset, kind_in}
use Rattle.mv_net.specs.Seen.{AlsoMarked}
use Rattle.mv_net.proofs.Marks.{AreSeen-from_marks}
use Rattle.mv_net.proofs.seen.seen_of.Goals as goal

pub returns : goal.returns
returns c =
    let net = c.args.parts.now in
    let P : List NetId → Type 0 = λ ns. AlsoMarked c.in_ok-marks.marks (has_id ns) c.mark_nets.new.marks in
    let Q : List FlatLatch → Type 0 = λ ls. AlsoMarked c.mark_nets.new.marks (is_latch_input ls) c.mark_inputs.new.marks in
    AreSeen-from_marks net c.in_ok-marks.marks c.mark_nets.new.marks c.mark_inputs.new.marks (c.in_ok-marks.ensures ∙ ap (map (λ (f : Option FlatNet). is_reset (kind_in f))) c.as_slice.ensures) (subst P c.as_slice-2.ensures c.mark_nets.ensures) (subst Q c.as_slice-3.ensures c.mark_inputs.ensures)
