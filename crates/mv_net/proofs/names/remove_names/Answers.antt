use Rattle.std.proofs.Common.{◌≡◌, ℕ, ◌+◌, ◌-◌, take, subst, arith}
use Rattle.mv_net.specs.Names.{AreNames}
use Rattle.mv_net.proofs.Named.{names_fewer}
use Rattle.mv_net.proofs.names.remove_names.Goals as goal

pub loop-count-preserved : goal.loop-count-preserved
loop-count-preserved c =
    let nets = c.args.nets.now in
    let e : c.loop-count.count ≡ (c.loop-count.count - 1) + 1 = omega arith in
    let P : ℕ → Type 0 = λ k. AreNames (take k nets) c.loop-count.names in
    record {
      least = omega arith;
      most = omega arith;
      names = names_fewer nets (c.loop-count.count - 1) c.index-nets-count.result c.loop-count.names c.remove_net.new.names (omega arith) c.index-nets-count.is (subst P e c.loop-count.invariant.names) c.remove_net.ensures;
    }
