use Rattle.std.proofs.Common.{◌∙◌, None, cond, ap}
use Rattle.mv_base.specs.Names.{same_word}
use Rattle.mv_net.specs.Names.{number_of}
use Rattle.mv_net.proofs.Named.{number_of-removed}
use Rattle.mv_net.proofs.names.NameIndex.remove.Goals as goal

pub returns : goal.returns
returns c = λ w.
    number_of-removed c.self.inside.numbers.entries c.swap_remove.new.self.entries c.args.name.now (λ q. c.swap_remove.ensures.updates.0 q) w
    ∙ ap (λ es. cond (same_word c.args.name.now w) None (number_of es w)) c.self.view_is
