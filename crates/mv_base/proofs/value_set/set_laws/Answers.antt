-- Each law of sets is a lemma.
use Rattle.mv_base.proofs.Sets.{has-empty, has-one, has-full, has-meet, has-join, has-minus, count-empty, count-more, same_set}
use Rattle.mv_base.proofs.value_set.set_laws.Goals as goal

pub returns : goal.returns
returns c = record {
  empty = has-empty;
  one = has-one;
  full = has-full;
  meet = has-meet;
  join = has-join;
  minus = has-minus;
  count_none = count-empty;
  count_more = count-more;
  same = same_set;
}
