use Rattle.std.specs.List.{flat_map}
use Rattle.std.specs.Prelude.{count_ones}
use Rattle.mv_base.proofs.Gains.{Going}
use Rattle.mv_page.specs.Page.{AddsPiece, paged}
use Rattle.mv_entry.specs.Entries.{members, with_comma}
use Rattle.mv_entry.proofs.set_text.put_values.Given as goal

abbrev pub invariant-values : goal.invariant-values
invariant-values g l =
    Going AddsPiece (paged (g.E.Sink.state l.fn.sink) l.fn.page) (paged (g.E.Sink.state l.sink) l.page) (flat_map with_comma (members l.left)) (flat_map with_comma (members l.fn.set))

abbrev pub decreases-values : goal.decreases-values
decreases-values g l = count_ones l.left
