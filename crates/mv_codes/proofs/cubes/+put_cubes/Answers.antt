-- The halves are half as long, and their cubes are those of the whole behind the bit.
use Rattle.std.proofs.Common.{◌+◌, ◌-◌, sym, refl, arith}
use Rattle.std.proofs.lemmas.Result.{on_ok_weaker}
use Rattle.mv_codes.proofs.Building.{below_next, low_long, high_long, are_halves, put_alike, put_both}
use Rattle.mv_codes.proofs.cubes.+put_cubes.Goals as goal

pub put_cubes-requires : goal.put_cubes-requires
put_cubes-requires t c =
    let less = c.decreases in
    let room = c.requires.room in (
      omega arith,
      (low_long c.args.bits (c.args.bits - 1) c.args.marks.now c.split_at.result.0.now (omega arith) refl c.requires.whole c.split_at.ensures.front, (omega arith, below_next c.args.net.0 c.args.so_far.now c.requires.below)),
    )

pub returns-then-eq : goal.returns-then-eq
returns-then-eq t c =
    let halves = are_halves c.args.bits (c.args.bits - 1) c.args.marks.now c.split_at.result.0.now c.split_at.result.1.now (omega arith) refl c.requires.whole (sym c.if-all_marked.ensures) (sym c.if-not-some_marked.ensures) c.split_at.ensures.front c.split_at.ensures.back in
    on_ok_weaker c.put_cubes.result
    (put_alike c.args.bits (c.args.bits - 1) c.args.net.0 (c.args.net.0 + 1) c.args.marks.now c.split_at.result.0.now c.split_at.result.1.now c.args.so_far.now c.args.cubes.now.items c.put_cubes.new.cubes.items halves (sym c.if-eq.ensures) refl) c.put_cubes.ensures

pub put_cubes-requires-2 : goal.put_cubes-requires-2
put_cubes-requires-2 t c =
    let less = c.decreases in
    let room = c.requires.room in (
      omega arith,
      (low_long c.args.bits (c.args.bits - 1) c.args.marks.now c.split_at.result.0.now (omega arith) refl c.requires.whole c.split_at.ensures.front, (omega arith, c.in_ok-zero.ensures.below)),
    )

pub put_cubes-requires-3 : goal.put_cubes-requires-3
put_cubes-requires-3 t c =
    let less = c.decreases in
    let room = c.requires.room in (
      omega arith,
      (high_long c.args.bits (c.args.bits - 1) c.args.marks.now c.split_at.result.1.now (omega arith) refl c.requires.whole c.split_at.ensures.back, (omega arith, c.in_ok-one.ensures.below)),
    )

pub returns : goal.returns
returns t c =
    let halves = are_halves c.args.bits (c.args.bits - 1) c.args.marks.now c.split_at.result.0.now c.split_at.result.1.now (omega arith) refl c.requires.whole (sym c.if-all_marked.ensures) (sym c.if-not-some_marked.ensures) c.split_at.ensures.front c.split_at.ensures.back in
    on_ok_weaker c.put_cubes-3.result
    (put_both c.args.bits (c.args.bits - 1) c.args.net.0 (c.args.net.0 + 1) c.args.marks.now c.split_at.result.0.now c.split_at.result.1.now c.args.so_far.now c.in_ok-zero.zero c.in_ok-one.one c.args.cubes.now.items c.put_cubes-2.new.cubes.items c.put_cubes-3.new.cubes.items halves (sym c.if-eq.ensures) refl
    c.in_ok-zero.ensures.more c.in_ok-one.ensures.more c.in_ok-put_cubes.ensures) c.put_cubes-3.ensures
