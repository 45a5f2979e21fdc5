use Rattle.std.specs.List.{flat_map}
use Rattle.std.specs.Prelude.{count_ones}
use Rattle.mv_base.specs.Set.{Within, full}
use Rattle.mv_base.proofs.Gains.{Going}
use Rattle.mv_page.specs.Page.{AddsPiece, paged}
use Rattle.mv_net.specs.Nets.{spelled_values}
use Rattle.mv_text.specs.Text.{names_in_set, with_comma}
use Rattle.mv_write.proofs.entries.put_values.Given as goal

abbrev pub invariant-values : goal.invariant-values
invariant-values g l = record {
  going : Going AddsPiece (paged (g.K.Sink.state l.fn.out) l.fn.page) (paged (g.K.Sink.state l.out) l.page) (flat_map with_comma (names_in_set (spelled_values l.count l.names) l.left)) (flat_map with_comma (names_in_set (spelled_values l.count l.names) l.fn.set));
  within : Within l.left (full l.count);
}

abbrev pub decreases-values : goal.decreases-values
decreases-values g l = count_ones l.left
