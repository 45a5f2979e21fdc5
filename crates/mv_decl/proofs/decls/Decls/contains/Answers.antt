use Rattle.std.proofs.Common.{◌∙◌, ap, is_some}
use Rattle.mv_base.proofs.NameLemmas.{is_some-place_of}
use Rattle.mv_design.specs.Values.{declared_of}
use Rattle.mv_decl.proofs.decls.Decls.contains.Goals as goal

pub returns : goal.returns
returns c = c.is_some.ensures ∙ (ap is_some c.place.ensures ∙ is_some-place_of c.args.net.now (declared_of c.args.self.now))
