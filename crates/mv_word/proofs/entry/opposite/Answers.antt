-- All turns are made.
use Rattle.std.proofs.Common.{◌≡◌, ℕ, Ok, subst, arith}
use Rattle.mv_word.specs.Entries.{opposites}
use Rattle.mv_word.proofs.entry.opposite.Goals as goal

pub returns : goal.returns
returns c =
    let all : c.loop-turn._turn ≡ c.args.times = omega arith in
    let P : ℕ → Type 0 = λ n. opposites c.args.count n (Ok c.args.set) ≡ Ok c.loop-turn.left in
    subst P all c.loop-turn.invariant
