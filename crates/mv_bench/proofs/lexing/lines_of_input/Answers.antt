-- A piece more was fed, and nothing behind the last one.
use Rattle.mv_parse_laws.proofs.Fed.{fed_nothing, fed_more}
use Rattle.mv_bench.proofs.lexing.lines_of_input.Goals as goal

pub loop-piece-init : goal.loop-piece-init
loop-piece-init c = fed_nothing _ _ c.new-lexer.ensures.start c.new-lines.ensures

pub loop-piece-preserved : goal.loop-piece-preserved
loop-piece-preserved c = fed_more _ _ _ _ _ c.loop-piece.invariant c.in_ok-feed.ensures.ok c.in_ok-feed.ensures.lines
