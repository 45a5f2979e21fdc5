-- Each number is taken or free, and fewer are taken than there are nets.
use Rattle.std.proofs.Common.{◌≡◌, ◌+◌, ◌-◌, ◌<◌, ℕ, false, not, count_by, sym, subst, arith}
use Rattle.std.specs.List.{range_with_len}
use Rattle.std.proofs.lemmas.Option.{MatchOption-at_some}
use Rattle.mv_net.specs.Fresh.{is_taken, IsFreeName, AreMade}
use Rattle.mv_net.proofs.FreshNames.{passed_free, passed_taken, none_free, never_ends, at_none}
use Rattle.mv_net.proofs.LawfulMade.{made_lawful, made_short}
use Rattle.mv_net.proofs.network.Network.fresh_name.Goals.{in-Some+else-left-eq0+in-Shared-1, in-Some+else-left-eq0+in-Beside-1, in-Some+else-left-eq0+in-Inline-1, in_default}
use Rattle.mv_net.proofs.network.Network.fresh_name.Goals as goal

pub loop-number-init : goal.loop-number-init
loop-number-init c = none_free c.args.self.now.nets c.from-number.result c.args.skip (subst (AreMade c.args.self.now.nets) (sym c.from-number.ensures) c.made.ensures)

pub loop-number-preserved : goal.loop-number-preserved
loop-number-preserved c =
    let nets = c.args.self.now.nets in
    let number = c.loop-number.number in
    let left = c.loop-number.left in
    let P : ℕ → Type 0 = λ l. count_by (λ k. not (is_taken nets k)) (range_with_len 1 (number + 1 - 1)) + l ≡ c.args.skip in
    let free : 0 < left → is_taken nets number ≡ false → P (left - 1) = λ some f. passed_free nets c.args.skip left number (omega (arith, c.loop-number.auto.number)) some f c.loop-number.invariant in
    elim c.match-branch-2.branch [
      | in-Some+else-left-eq0+in-Shared-1 w ↦ subst P (sym w.left-is) (free (omega (arith, w.if-left-eq0.false)) (MatchOption-at_some _ (IsFreeName nets number) w.in-Some.name w.in-Some.is c.in_ok-name.ensures).free)
      | in-Some+else-left-eq0+in-Beside-1 w ↦ subst P (sym w.left-is) (free (omega (arith, w.if-left-eq0.false)) (MatchOption-at_some _ (IsFreeName nets number) w.in-Some.name w.in-Some.is c.in_ok-name.ensures).free)
      | in-Some+else-left-eq0+in-Inline-1 w ↦ subst P (sym w.left-is) (free (omega (arith, w.if-left-eq0.false)) (MatchOption-at_some _ (IsFreeName nets number) w.in-Some.name w.in-Some.is c.in_ok-name.ensures).free)
      | in_default w ↦
          subst P (sym w.left-is) (passed_taken nets c.args.skip left number (omega (arith, c.loop-number.auto.number)) (at_none c.in_ok-name.field-0 _ _ c.in_ok-name.ensures w.in_default.not-Some) c.loop-number.invariant)
    ]

pub unreachable-requires : goal.unreachable-requires
unreachable-requires c =
    never_ends c.args.self.now.nets c.args.skip c.loop-number.left c.loop-number.number c.few.ensures (omega (arith, c.ranges.skip.fits)) (omega (arith, c.loop-number.auto.number-end)) c.loop-number-test.false c.loop-number.invariant

pub returns-then-left-eq0-clause-lawful : goal.returns-then-left-eq0-clause-lawful
returns-then-left-eq0-clause-lawful c =
    let number = c.loop-number.number in
    let free = MatchOption-at_some _ (IsFreeName c.args.self.now.nets number) c.in-Some.name c.in-Some.is c.in_ok-name.ensures in
    rw free.is (made_lawful number (omega (arith, c.loop-number.auto.number-end, c.loop-number-test.true)))

pub returns-then-left-eq0-clause-short : goal.returns-then-left-eq0-clause-short
returns-then-left-eq0-clause-short c =
    let number = c.loop-number.number in
    let free = MatchOption-at_some _ (IsFreeName c.args.self.now.nets number) c.in-Some.name c.in-Some.is c.in_ok-name.ensures in
    rw free.is (made_short number (omega (arith, c.loop-number.auto.number-end, c.loop-number-test.true)))
