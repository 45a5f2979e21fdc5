use Rattle.mv_division.proofs.Adding.{fresh_is_new, standing_literals, reads_before, add_applies, added_leaves, divisor_stands, slot_before}
use Rattle.mv_division.proofs.Covers.{divisor_is_cover}
use Rattle.mv_division.proofs.law.add_law.Goals as goal

pub returns : goal.returns
returns c = record {
  fresh = fresh_is_new;
  stands = standing_literals;
  covers = divisor_is_cover;
  applies = λ net name divisor formed is fresh room. add_applies net name divisor formed is fresh room;
  leaves = added_leaves;
  comes = divisor_stands;
  stays = slot_before;
  behind = reads_before;
}
