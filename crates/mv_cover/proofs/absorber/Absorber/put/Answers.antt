use Rattle.mv_cover.proofs.Putting.{put-more}
use Rattle.mv_cover.proofs.absorber.Absorber.put.Goals as goal

pub returns-clause-ok : goal.returns-clause-ok
returns-clause-ok c =
    put-more c.put_line.result c.self.inside.lines.items c.args.self.now c.put_line.new.lines.items c.args.line c.put_line.ensures.formed c.self.view_is c.put_line.ensures.ok
