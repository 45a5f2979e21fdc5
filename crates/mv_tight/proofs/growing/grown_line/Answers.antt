-- Net by net.
use Rattle.std.proofs.Common.{◌≡◌, ◌<◌, ◌≤◌, ℕ, true, IsTrue, List, length, get_or, sym, subst}
use Rattle.mv_cover.specs.Literal.{Lit}
use Rattle.mv_net.specs.Index.{is_held}
use Rattle.mv_net.specs.Nets.{reads_in}
use Rattle.mv_tight.specs.Growing.{IsGrownAt}
use Rattle.mv_tight.proofs.Growth.{growth_begun, growth_more, growth_done, literal_held}
use Rattle.mv_tight.proofs.growing.grown_line.Goals as goal

pub loop-literal-init : goal.loop-literal-init
loop-literal-init c =
    λ w n budget flex over inside. growth_begun c.args.net.now.nets w n c.args.line.now c.in_ok-grown.grown c.in_ok-grown.ensures.copy inside c.requires.literals

pub grown_at-requires : goal.grown_at-requires
grown_at-requires c =
    let low = subst (λ (ls : List Lit). c.loop-literal.literal-index < length ls) c.lits-literal-items.ensures.lits c.loop-literal-test.true in
    let is = subst (λ (ls : List Lit). c.literal-item.result ≡ get_or ls c.loop-literal.literal-index c.literal-item.result) c.lits-literal-items.ensures.lits c.literal-item.is in
    record {
      held =
          subst (λ (k : ℕ). IsTrue (is_held c.args.net.now.nets k)) (sym c.net.ensures.number)
          (literal_held c.args.net.now.nets c.args.line.now.cube c.loop-literal.literal-index c.literal-item.result low is c.requires.literals);
    }

pub loop-literal-preserved : goal.loop-literal-preserved
loop-literal-preserved c =
    λ w n budget flex over inside.
    let low = subst (λ (ls : List Lit). c.loop-literal.literal-index < length ls) c.lits-literal-items.ensures.lits c.loop-literal-test.true in
    let is = subst (λ (ls : List Lit). c.literal-item.result ≡ get_or ls c.loop-literal.literal-index c.literal-item.result) c.lits-literal-items.ensures.lits c.literal-item.is in
    growth_more c.args.net.now.nets w n c.args.line.now c.loop-literal.grown c.in_ok-grown-2.grown c.loop-literal.literal-index c.literal-item.result low is over
    (c.loop-literal.invariant w n budget flex over inside)
    (λ reads within.
    subst (λ (k : ℕ). IsGrownAt c.args.net.now.nets w n k c.loop-literal.grown c.in_ok-grown-2.grown) c.net.ensures.number
    (c.in_ok-grown-2.ensures.ok w n budget flex (subst (λ (k : ℕ). reads_in c.args.net.now.nets n k ≡ true) (sym c.net.ensures.number) reads) within))

pub returns-clause-ok : goal.returns-clause-ok
returns-clause-ok c =
    λ w n budget flex over inside.
    growth_done c.args.net.now.nets w n c.args.line.now c.loop-literal.grown c.loop-literal.literal-index
    (subst (λ (ls : List Lit). length ls ≤ c.loop-literal.literal-index) c.lits-literal-items.ensures.lits c.loop-literal-test.false) c.lits.ensures.formed
    (c.loop-literal.invariant w n budget flex over inside)
