use Rattle.std.proofs.Common.{◌≡◌, ◌∙◌, ◌+◌, false, nat_eq, List, Option, subst, sym}
use Rattle.std.specs.Option.{IfSome}
use Rattle.mv_base.specs.Set.{empty}
use Rattle.mv_cover.specs.Literal.{Lit}
use Rattle.mv_cover.proofs.Building.{Built, built_skip, built_more}
use Rattle.mv_bench.proofs.symbols.drawn_cube.Goals as goal
use Rattle.mv_bench.proofs.symbols.drawn_cube.Goals.{in-Some+in_ok-push, in_default}

pub loop-net-preserved : goal.loop-net-preserved
loop-net-preserved c =
    elim c.match-drawn.branch [
      | in-Some+in_ok-push w ↦
          let net = subst (λ (d : Option Lit). IfSome d (λ (l : Lit). l.net.0 ≡ c.loop-net.net)) w.in-Some.is c.in_ok-drawn.ensures.net in
          let some = subst (λ (d : Option Lit). IfSome d (λ (l : Lit). nat_eq l.set empty ≡ false)) w.in-Some.is c.in_ok-drawn.ensures.some in
          subst (λ (x : List Lit). Built x (c.loop-net.net + 1)) (sym (w.lits-is ∙ w.in_ok-push.ensures.ok))
          (built_more c.loop-net.lits c.loop-net.net w.in-Some.l net some c.loop-net.invariant)
      | in_default w ↦ subst (λ (x : List Lit). Built x (c.loop-net.net + 1)) (sym w.lits-is) (built_skip c.loop-net.lits c.loop-net.net c.loop-net.invariant)
    ]
