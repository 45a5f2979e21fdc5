-- Each turn takes the steps of one length more.
use Rattle.std.proofs.Common.{◌≡◌, ◌+◌, ℕ, suc, arith, sym, subst}
use Rattle.mv_net.specs.Searching.{Reached, HasExactly, IsSearch}
use Rattle.mv_net.proofs.Reaching.{search_first, search_next}
use Rattle.mv_net.proofs.network.Network.grow.Goals as goal

pub loop-step-init : goal.loop-step-init
loop-step-init c = search_first c.args.self.now.nets c.args.way c.args.found.now.keys c.requires

pub spread-requires : goal.spread-requires
spread-requires c = c.loop-step.invariant.held

pub loop-step-preserved : goal.loop-step-preserved
loop-step-preserved c =
    let old = c.loop-step.found.keys in
    let more : suc c.loop-step._step ≡ c.loop-step._step + 1 = omega arith in
    let P : ℕ → ℕ → Type 0 = λ k start. IsSearch c.args.self.now.nets c.args.way c.args.found.now.keys k start c.spread.new.found.keys in
    subst (λ k. P k c.len-end.result) more
    (subst (P (suc c.loop-step._step)) (sym c.len-end.ensures.len) (search_next c.args.self.now.nets c.args.way c.args.found.now.keys c.loop-step._step c.loop-step.start old c.spread.new.found.keys c.loop-step.invariant c.in_ok-spread.ensures))

pub returns : goal.returns
returns c =
    let i = c.loop-step.invariant in
    let all : c.loop-step._step ≡ c.args.steps = omega arith in
    record { held = i.held; members = subst (λ k. HasExactly (Reached c.args.self.now.nets c.args.way c.args.found.now.keys k) c.loop-step.found.keys) all i.members }
