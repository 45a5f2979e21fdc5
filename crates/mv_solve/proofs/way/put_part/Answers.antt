use Rattle.std.proofs.Common.{◌≡◌, ◌∙◌, ◌<◌, true, length, sym, arith}
use Rattle.std.proofs.lemmas.List.{length-set}
use Rattle.mv_net.specs.Index.{is_held}
use Rattle.mv_solve.proofs.Putting.{fanin_stands, put_more, part_more}
use Rattle.mv_solve.proofs.way.put_part.Goals as goal

pub loop-end-preserved : goal.loop-end-preserved
loop-end-preserved c =
    let nets = c.args.net.now.nets in
    let known = c.args.known.now in
    let way = c.loop-end.way in
    let starts = c.loop-end.starts in
    let places = c.loop-end.places in
    let start = c.args.start in
    let end = c.loop-end.end in
    let n = c.in-Some.n in
    let before = c.loop-end.invariant in
    let held : is_held nets n.0 ≡ true = sym c.holds.ensures ∙ c.if-not-holds.false in
    let low = c.requires.room.each n.0 held in
    let room : n.0 < length places = omega (arith, low, before.places) in
    record {
      above = omega (arith, before.above);
      way = length-set way end n ∙ before.way;
      starts = length-set starts end start ∙ before.starts;
      places = length-set places n.0 end ∙ before.places;
      put = put_more nets known way starts places start end n before.put before.above c.loop-end-test.true room before.part held (sym c.stands.ensures ∙ c.if-stands.false) (λ m r e. fanin_stands known way places start end c.fanins.result.now m (sym c.all_stand.ensures ∙ c.if-not-all_stand.false) (c.fanins.ensures.members m ∙ r) e);
      part = λ q from less. part_more starts start end q (omega (arith, c.loop-end-test.true, before.put.long)) before.part from less;
    }
