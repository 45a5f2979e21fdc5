use Rattle.std.proofs.Common.{◌∙◌, ◌+◌, ◌-◌, refl}
use Rattle.std.specs.Prelude.{codes, min}
use Rattle.std.specs.List.{range_with_len}
use Rattle.mv_work.specs.Work.{names_text, head_text}
use Rattle.mv_work.proofs.NameSteps.{five-pieces}
use Rattle.mv_work.proofs.work.add_head.Goals as goal

pub returns : goal.returns
unfolding head_text
returns c =
    five-pieces c.args.text.now.items (codes ".model work\n.inputs") (names_text (range_with_len 0 16)) (codes "\n.outputs") (names_text (range_with_len (16 + (c.args.size - 8)) (min c.args.size 8))) (codes "\n") c.extend_from_slice.new.self.items c.add_range.new.text.items c.extend_from_slice-2.new.self.items c.add_range-2.new.text.items c.extend_from_slice-3.new.self.items c.in_ok-extend_from_slice.ensures.items c.in_ok-add_range.ensures c.in_ok-extend_from_slice-2.ensures.items (c.in_ok-add_range-2.ensures ∙ rw (c.saturating_sub.ensures, c.min.ensures) refl) c.in_ok-extend_from_slice-3.ensures.items
