use Rattle.std.proofs.Common.{List, refl, sym, subst, arith}
use Rattle.mv_cover.specs.Literal.{Lit}
use Rattle.mv_cover.specs.Equal.{cube_eq}
use Rattle.mv_cover.specs.Keys.{cube_eq-Decides}
use Rattle.mv_gains.specs.Cubes.{IsTwo}
use Rattle.mv_gains.specs.Grown.{Grew}
use Rattle.mv_gains.proofs.Growing.{grew_key}
use Rattle.mv_gains.proofs.cubes.put.Goals as goal

pub returns : goal.returns
returns c =
    subst (λ (ks : List (List Lit)). Grew (IsTwo c.args.cube) c.args.found.now.keys ks) (sym c.in_ok-insert.ensures.keys)
    (grew_key (IsTwo c.args.cube) cube_eq cube_eq-Decides c.args.found.now.keys c.args.cube (record { is = refl; two = omega (arith, c.len.ensures.value, c.if-len-lt2.false) }) (λ k h. h.is))
