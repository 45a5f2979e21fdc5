use Rattle.std.proofs.Common.{ℕ, sym, ◌∙◌, subst}
use Rattle.std.proofs.Common.{◌≡◌, Some, None}
use Rattle.mv_net.specs.declared.parts.NetParts.{NetParts}
use Rattle.mv_net.specs.Index.{HasName}
use Rattle.mv_net.proofs.network.Network.find.Goals as goal

pub returns-in-Some-clause-some : goal.returns-in-Some-clause-some
returns-in-Some-clause-some c =
    let P : NetParts → Type 0 = λ (p : NetParts). HasName p.nets c.in-Some.number c.args.name.now in
    subst P c.self.view_is (c.self.invariant.known.names.some c.args.name.now c.in-Some.number (sym c.in-Some.ensures))

pub returns-in-None-clause-none : goal.returns-in-None-clause-none
returns-in-None-clause-none c none =
    let P : NetParts → Type 0 = λ (p : NetParts). (n : ℕ) → HasName p.nets n c.args.name.now → ⊥ in
    subst P c.self.view_is (λ n h. let bad : None ≡ Some n = c.in-None.ensures ∙ c.self.invariant.known.names.found c.args.name.now n h in cc)
