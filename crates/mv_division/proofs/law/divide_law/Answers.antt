use Rattle.mv_division.proofs.Applying.{lines_before, divided_covers, divide_applies, divided_leaves, others_kept}
use Rattle.mv_division.proofs.law.divide_law.Goals as goal

pub returns : goal.returns
returns c = record {
  below = lines_before;
  covers = λ net n d by divisor old lines formed is. divided_covers net n d by divisor old lines formed is;
  applies = λ net n d by divisor old lines formed is. divide_applies net n d by divisor old lines formed is;
  leaves = divided_leaves;
  others = others_kept;
}
