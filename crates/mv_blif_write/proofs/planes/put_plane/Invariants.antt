use Rattle.std.proofs.Common.{◌≡◌, true, drop, map}
use Rattle.mv_base.proofs.Gains.{Going}
use Rattle.mv_page.specs.Page.{AddsPiece, paged}
use Rattle.mv_cover.specs.Cubes.{nets_ascend}
use Rattle.mv_graph.specs.Nets.{ids_ascend}
use Rattle.mv_text.specs.Text.{numbers}
use Rattle.mv_blif_text.specs.BlifText.{plane_byte}
use Rattle.mv_blif_write.proofs.planes.put_plane.Given as goal

abbrev pub invariant-loop-n : goal.invariant-loop-n
invariant-loop-n g l = record {
  going : Going AddsPiece (paged (g.K.Sink.state l.fn.out) l.fn.page) (paged (g.K.Sink.state l.out) l.page) (map (plane_byte l.left) (numbers (drop l.n-index l.fanins))) (map (plane_byte l.lits) (numbers l.fanins));
  literals : nets_ascend l.left ≡ true;
  nets : ids_ascend (drop l.n-index l.fanins) ≡ true;
}
