-- One place of the row has this now.
use Rattle.std.proofs.Common.{◌∙◌, refl, sym}
use Rattle.mv_gain.proofs.Right.{has_at, row_right, row_small, put_right, no_pair_past}
use Rattle.mv_gain.proofs.Rows.{writes_row, row_at, summed_at, row_more, row_has}
use Rattle.mv_gain.proofs.kept.KeptComposites.put.Goals as goal

pub put-requires-clause-summed : goal.put-requires-clause-summed
put-requires-clause-summed c =
    let i = c.in-Some.ensures.item in
    summed_at c.args.self.now _ c.args.n.0 c.in-Some.row.now refl i.3.0 i.1 c.requires.right.summed

pub put-requires-clause-absent : goal.put-requires-clause-absent
put-requires-clause-absent c =
    let i = c.in-Some.ensures.item in
    sym (has_at c.args.self.now c.args.n.0 c.args.reader.0 c.in-Some.row.now (row_at c.args.self.now _ c.args.n.0 c.in-Some.row.now refl i.3.0 i.1)) ∙ c.requires.absent

pub put-requires-clause-few : goal.put-requires-clause-few
put-requires-clause-few c =
    let i = c.in-Some.ensures.item in
    let at = row_at c.args.self.now _ c.args.n.0 c.in-Some.row.now refl i.3.0 i.1 in
    row_small c.args.net.now.nets c.args.n.0 c.in-Some.row.now (row_right _ c.args.self.now _ _ at c.requires.right) c.few.ensures

pub returns-in_ok-put-in-Some-clause-right : goal.returns-in_ok-put-in-Some-clause-right
returns-in_ok-put-in-Some-clause-right c =
    let i = c.in-Some.ensures.item in
    put_right _ c.args.self.now _ c.args.n.0 c.args.reader.0 c.args.pair _ _ (writes_row _ _ c.args.n.0 c.in-Some.row.now c.put.new.self i.3.0 i.1 refl)
    c.in_ok-put-in-Some.ensures.updates c.in_ok-put-in-Some.ensures.summed c.requires.pair c.requires.right

pub returns-in_ok-put-in-Some-clause-more : goal.returns-in_ok-put-in-Some-clause-more
returns-in_ok-put-in-Some-clause-more c =
    let i = c.in-Some.ensures.item in
    row_more _ _ _ _ _ (writes_row _ _ c.args.n.0 c.in-Some.row.now c.put.new.self i.3.0 i.1 refl) _ _ c.in_ok-put-in-Some.ensures.updates c.requires.absent

pub returns-in_ok-put-in-Some-clause-here : goal.returns-in_ok-put-in-Some-clause-here
returns-in_ok-put-in-Some-clause-here c =
    let i = c.in-Some.ensures.item in
    row_has c.args.self.now _ _ _ _ (writes_row _ _ c.args.n.0 c.in-Some.row.now c.put.new.self i.3.0 i.1 refl) _ c.args.pair c.in_ok-put-in-Some.ensures.updates

pub returns-in-None-clause-here : goal.returns-in-None-clause-here
returns-in-None-clause-here c = absurd (no_pair_past _ c.args.self.now _ _ _ c.requires.right c.in-None.ensures.item.3 c.requires.pair)
