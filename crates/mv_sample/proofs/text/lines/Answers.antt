-- A piece of the text and a line feed more were fed.
use Rattle.mv_parse_laws.proofs.Fed.{fed_nothing, fed_more}
use Rattle.mv_sample.proofs.text.lines.Goals as goal

pub loop-line-init : goal.loop-line-init
loop-line-init c = fed_nothing _ _ c.new-lexer.ensures.start c.new-lines.ensures

pub loop-line-preserved : goal.loop-line-preserved
loop-line-preserved c =
    let piece = fed_more _ _ _ _ _ c.loop-line.invariant c.in_ok-feed.ensures.ok c.in_ok-feed.ensures.lines in
    fed_more _ _ _ _ _ piece c.in_ok-feed-2.ensures.ok c.in_ok-feed-2.ensures.lines
