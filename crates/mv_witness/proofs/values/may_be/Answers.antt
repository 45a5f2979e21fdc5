use Rattle.std.proofs.Common.{◌≡◌, ℕ, Bool, Result, Ok, Err, IfOk, MatchBool, List, [], ◌∷◌, sym, subst}
use Rattle.mv_base.specs.Set.{one}
use Rattle.mv_diagram.specs.declared.cube.Literal.{Literal}
use Rattle.mv_factors.specs.Families.{Family}
use Rattle.mv_witness.specs.Commons.{CanBe, HasCommon}
use Rattle.mv_witness.proofs.Finding.{answered}
use Rattle.mv_witness.proofs.Fixing.{can_common, common_can, value_literal}
use Rattle.mv_witness.proofs.values.may_be.Goals as goal

asked : {E : Type 0} (f : Family) (from var value set : ℕ) (r : Result Bool E) → set ≡ one value
    → IfOk r (λ found. let ls : List Literal = record { var = var; set = set } ∷ [] in MatchBool found (HasCommon f from ls) (HasCommon f from ls → ⊥))
    → IfOk r (λ found. MatchBool found (CanBe f from var value) (CanBe f from var value → ⊥))
asked f from var value set (Err e) is h = tt
asked f from var value set (Ok found) is h =
    let Q : ℕ → Type 0 = λ s. let ls : List Literal = record { var = var; set = s } ∷ [] in MatchBool found (HasCommon f from ls) (HasCommon f from ls → ⊥) in
    answered found (HasCommon f from (value_literal var value)) (CanBe f from var value) (common_can f from var value)
    (λ none can. none (can_common f from var value can)) (subst Q is h)

pub returns-clause-found : goal.returns-clause-found
returns-clause-found c = asked c.args.factors.now c.args.from c.args.var c.args.value _ c.have_common.result c.one-set.ensures c.have_common.ensures.found
