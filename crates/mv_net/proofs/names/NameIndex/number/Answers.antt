use Rattle.std.proofs.Common.{◌∙◌, ap}
use Rattle.mv_net.specs.Names.{number_of}
use Rattle.mv_net.proofs.Named.{lookup-number}
use Rattle.mv_net.proofs.names.NameIndex.number.Goals as goal

pub returns : goal.returns
returns c =
    c.copied.ensures ∙ (c.get.ensures.value ∙ (lookup-number c.self.inside.numbers.entries c.args.name.now ∙ ap (λ es. number_of es c.args.name.now) c.self.view_is))
