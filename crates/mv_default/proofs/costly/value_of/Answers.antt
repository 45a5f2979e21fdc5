-- A set of one value has a least one, and no other.
use Rattle.std.proofs.Common.{◌≡◌, ◌∙◌, sym, ap, subst, true}
use Rattle.std.specs.Prelude.{count_ones}
use Rattle.mv_base.specs.Set.{has}
use Rattle.mv_base.proofs.Sets.{one_from_count}
use Rattle.mv_default.proofs.Summed.{lone_found}
use Rattle.mv_default.proofs.costly.value_of.Goals as goal

pub unwrap-requires : goal.unwrap-requires
unwrap-requires c = lone_found c.least.result c.get.result c.least.ensures.none (ap count_ones c.get.ensures ∙ c.requires)

pub returns : goal.returns
returns c =
    let member : has c.get.result c.unwrap.result.0 ≡ true = rw c.unwrap.ensures at c.least.ensures.some in
    one_from_count c.args.line.now.out c.unwrap.result.0 (subst (λ s. has s c.unwrap.result.0 ≡ true) c.get.ensures member) c.requires
