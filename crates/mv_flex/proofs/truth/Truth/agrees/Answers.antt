-- The marks, where there are some, tell it.
use Rattle.std.proofs.Common.{IfSome, List, Option, Bool, sym, subst}
use Rattle.mv_flex.specs.Truths.{Tells}
use Rattle.mv_flex.proofs.truth.Truth.agrees.Goals as goal

pub told-requires-clause-told : goal.told-requires-clause-told
told-requires-clause-told c =
    let Told : List Bool → Type 0 = Tells c.args.net.now.nets c.args.self.now.net.0 c.args.self.now.space c.args.self.now.space.size in
    let told : Told c.in-Some.marks = subst (λ (o : Option (List Bool)). IfSome o Told) c.in-Some.is c.requires.truth.marks in
    subst Told (sym c.as_slice.ensures) told
