-- First the steps down from the net alone, then those up from all that were found.
use Rattle.std.proofs.Common.{◌≡◌, ◌∙◌, [], ◌∷◌, List, ap, subst}
use Rattle.indexmap.specs.IndexSet.{insert_key}
use Rattle.mv_base.specs.declared.number.NetId.{NetId}
use Rattle.mv_net.specs.declared.search.Way.TheVariants.{Down}
use Rattle.mv_net.specs.Searching.{same_id, Reached, HasExactly}
use Rattle.mv_net.proofs.Paths.{around_exactly}
use Rattle.mv_net.proofs.network.Network.around.Goals as goal

pub returns-clause-members : goal.returns-clause-members
returns-clause-members c =
    let nets = c.args.self.now.nets in
    let first : c.insert.new.self.keys ≡ c.args.n ∷ [] = c.in_ok-insert.ensures.keys ∙ ap (λ ks. insert_key same_id ks c.args.n) c.new-found.ensures.empty in
    let P : List NetId → Type 0 = λ keys. HasExactly (Reached nets Down keys c.args.d) c.grow.new.found.keys in
    around_exactly nets c.args.n c.args.d c.args.u c.grow.new.found.keys c.grow-2.new.found.keys (subst P first c.in_ok-grow.ensures.members) c.in_ok-grow-2.ensures.members
