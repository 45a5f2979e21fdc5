-- A value of a pair is one that a net may have.
use Rattle.std.proofs.Common.{◌≡◌, ◌∙◌, ◌++◌, ◌<◌, ℕ, List, sym, ap, subst}
use Rattle.mv_base.specs.declared.limits.TheConstants.{MAX_VALUES}
use Rattle.mv_flex.specs.Spaces.{value_at, digits}
use Rattle.mv_flex.proofs.Blocking.{pair_value_few}
use Rattle.mv_flex.proofs.flexibility.Flexibility.blocked_at.Goals as goal

pub one-requires : goal.one-requires
one-requires c =
    let values : c.as_slice-3.result.now ≡ digits c.args.self.now.pairs.counts c.args.pair =
    c.as_slice-3.ensures.value ∙ c.in_ok-put.ensures ∙ ap (λ l. l ++ digits c.args.self.now.pairs.counts c.args.pair) c.clear.ensures.items in
    subst (λ (k : ℕ). k < MAX_VALUES) (sym (c.value_at.ensures ∙ ap (λ (l : List ℕ). value_at c.nets-nets.result.now l c.args.fanin.0) values))
    (pair_value_few c.nets-nets.result.now c.args.self.now.pairs.counts c.args.self.now.pairs.size c.args.pair c.args.fanin.0 c.counted.ensures)
