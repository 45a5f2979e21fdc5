use Rattle.mv_instances.proofs.Cuts.{cut_at_first, none_before, nothing_behind}
use Rattle.mv_instances.proofs.laws.binding_laws.Goals as goal

pub returns : goal.returns
returns c = record { cut = cut_at_first; first = none_before; none = nothing_behind }
