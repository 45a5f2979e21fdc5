use Rattle.std.proofs.Common.{◌<◌, ◌∙◌, All, false, length, refl, sym, ap, subst, arith}
use Rattle.std.proofs.Math.ListN.{length-set}
use Rattle.mv_factors.specs.declared.inner.Inner.{Inner}
use Rattle.mv_factors.specs.Families.{before}
use Rattle.mv_factors.proofs.Joining.{rows_along}
use Rattle.mv_factors.proofs.Keeping.{Keeps-self, Keeps-then}
use Rattle.mv_factors.proofs.Proceeding.{mark_inside, marks_fall, room_more, under_done, under_more, under_some, under_start}
use Rattle.mv_factors.proofs.elimination.eliminate_left.Goals as goal

pub loop-one-init : goal.loop-one-init
loop-one-init c = record {
  under = under_start c.args.factors.now c.args.from c.args.inner.now c.args.work.now.left.items c.requires.marked;
  keeps = Keeps-self c.args.factors.now (before c.args.from);
  long = refl;
  left = c.requires.long;
  seen = c.requires.seen;
  room = λ places vars room. room;
  rows = λ places vars has. has;
}

pub next-requires : goal.next-requires
next-requires c = subst (λ n. All (λ (i : Inner). i.var < n) c.args.inner.now) (sym c.loop-one.invariant.left) c.requires.inner

pub eliminate_one-requires-clause-var : goal.eliminate_one-requires-clause-var
eliminate_one-requires-clause-var c =
    let inside = mark_inside c.loop-one.work.left.items c.in-Some.one.var c.in-Some.ensures.some.marked in
    omega (arith, inside, c.loop-one.invariant.left, ap length c.loop-one.invariant.keeps.counts)

pub eliminate_one-requires-clause-rows : goal.eliminate_one-requires-clause-rows
eliminate_one-requires-clause-rows c =
    rows_along c.loop-one.work.rows.items _ _ _ _ (sym c.loop-one.invariant.long) (sym (ap length c.loop-one.invariant.keeps.counts))
    (c.loop-one.invariant.rows (length c.args.factors.now.list) (length c.args.factors.now.contents.counts) c.requires.rows)

pub eliminate_one-requires-clause-seen : goal.eliminate_one-requires-clause-seen
eliminate_one-requires-clause-seen c = c.loop-one.invariant.seen

pub unmark-requires : goal.unmark-requires
unmark-requires c =
    rw c.eliminate_one.ensures.work.left (mark_inside c.loop-one.work.left.items c.in-Some.one.var c.in-Some.ensures.some.marked)

pub loop-one-preserved : goal.loop-one-preserved
loop-one-preserved c =
    let goes = c.in-Ok.ensures.ok in
    record {
      under = under_more _ _ c.args.from _ _ c.loop-one.invariant.under _ _ c.in-Some.one c.loop-one.invariant.keeps.counts
          c.in-Some.ensures.some goes.is (rw c.eliminate_one.ensures.work.left at c.unmark.ensures.marks);
      keeps = Keeps-then _ _ _ (before c.args.from) c.loop-one.invariant.keeps goes.earlier;
      long = goes.sees.long ∙ c.loop-one.invariant.long;
      left = ap length (rw c.eliminate_one.ensures.work.left at c.unmark.ensures.marks)
          ∙ length-set c.loop-one.work.left.items c.in-Some.one.var false
          ∙ c.loop-one.invariant.left;
      seen = rw c.unmark.ensures.rows (goes.sees.seen c.args.from c.loop-one.invariant.seen);
      room = λ places vars room.
          room_more c.loop-one.work c.eliminate_one.new.work c.unmark.new.work places vars (goes.sees.has places vars)
          c.eliminate_one.ensures.work c.unmark.ensures.rows c.unmark.ensures.sizes c.unmark.ensures.costs c.unmark.ensures.left
          (c.loop-one.invariant.room places vars room);
      rows = λ places vars has. rw c.unmark.ensures.rows (goes.sees.has places vars (c.loop-one.invariant.rows places vars has));
    }

pub loop-one-smaller : goal.loop-one-smaller
loop-one-smaller c =
    rw (c.unmark.ensures.marks, c.eliminate_one.ensures.work.left)
    (marks_fall c.loop-one.work.left.items c.in-Some.one.var c.in-Some.ensures.some.marked)

pub returns-in-Err-clause-keeps : goal.returns-in-Err-clause-keeps
returns-in-Err-clause-keeps c = Keeps-then _ _ _ (before c.args.from) c.loop-one.invariant.keeps c.in-Err.ensures.err.earlier

pub returns-in-Err-clause-err : goal.returns-in-Err-clause-err
returns-in-Err-clause-err c =
    under_some _ _ c.args.from _ _ c.loop-one.invariant.under _ c.loop-one.invariant.keeps.counts c.in-Err.ensures.err.is

pub returns-in-Err-clause-room : goal.returns-in-Err-clause-room
returns-in-Err-clause-room c places vars room =
    room_more c.loop-one.work c.eliminate_one.new.work c.eliminate_one.new.work places vars
    (c.in-Err.ensures.err.sees.has places vars) c.eliminate_one.ensures.work refl (omega arith) (omega arith) (omega arith)
    (c.loop-one.invariant.room places vars room)

pub returns-clause-ok : goal.returns-clause-ok
returns-clause-ok c = under_done _ _ c.args.from _ _ c.loop-one.invariant.under c.in_default.ensures.none
