use Rattle.std.proofs.Common.{◌≡◌, ◌<◌, ◌∙◌, ℕ, length, arith}
use Rattle.std.proofs.lemmas.Bool.{lt-ltb}
use Rattle.mv_witness.proofs.values.give_values.Goals as goal

pub fix_value-requires-clause-first : goal.fix_value-requires-clause-first
fix_value-requires-clause-first c = λ p.
    c.loop-place.invariant.keeps.sets 0 p (lt-ltb 0 (length c.args.factors.now.list) (omega (arith, c.requires.after, c.requires.from))) ∙ c.requires.first p
