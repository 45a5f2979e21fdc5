-- The lemmas say it.
use Rattle.mv_default.proofs.Taken.{fewer_literals, none_bare, same_relation}
use Rattle.mv_default.proofs.laws.default_laws.Goals as goal

pub returns-clause-relation : goal.returns-clause-relation
returns-clause-relation c = λ counts old new plain none covers takes. same_relation counts old new plain none covers takes

pub returns-clause-literals : goal.returns-clause-literals
returns-clause-literals c = λ old new takes. fewer_literals old new takes

pub returns-clause-counts : goal.returns-clause-counts
returns-clause-counts c = λ old new cubes plain takes. none_bare old new cubes plain takes
