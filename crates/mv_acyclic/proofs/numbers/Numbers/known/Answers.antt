-- A net more that has a number.
use Rattle.std.proofs.Common.{[], ◌∷◌, ◌++◌, take, ◌∙◌, ap, sym, arith}
use Rattle.mv_base.proofs.NameLemmas.{IsPlace-from_place}
use Rattle.mv_acyclic.specs.Numbers.{numbers_in}
use Rattle.mv_acyclic.proofs.Apart.{known_more, numbered_more}
use Rattle.mv_acyclic.proofs.numbers.Numbers.known.Goals as goal

pub numbered-requires : goal.numbered-requires
numbered-requires c =
    let p = IsPlace-from_place c.net-item.result c.args.self.now c.in-Some.place (sym c.in-Some.ensures) in
    omega (arith, p.within, c.requires)

pub loop-net-preserved : goal.loop-net-preserved
loop-net-preserved c =
    let names = c.args.self.now in
    let nets = c.args.nets.now in
    let i = c.loop-net.net-index in (
      c.in_ok-push.ensures.ok
          ∙ (ap (λ ns. ns ++ c.numbered.result ∷ []) c.loop-net.invariant.0
          ∙ (ap (λ n. numbers_in names (take i nets) ++ n ∷ []) c.numbered.ensures ∙ numbered_more names nets i c.in-Some.place c.net-item.result c.loop-net-test.true c.net-item.is (sym c.in-Some.ensures))),
      known_more names nets i c.in-Some.place c.net-item.result c.loop-net.invariant.1 c.loop-net-test.true c.net-item.is (sym c.in-Some.ensures),
    )
