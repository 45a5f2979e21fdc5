-- Each law is a lemma.
use Rattle.mv_meaning.proofs.OneTable.{alone_row, one_table_formed, one_table_means}
use Rattle.mv_meaning.proofs.laws.one_table_laws.Goals as goal

pub returns : goal.returns
returns c = record {
  alone = λ net n old c formed table loop. alone_row net.nets n old c table formed.acyclic formed.alone loop;
  formed = one_table_formed;
  means = λ net n old c table same. one_table_means net n old c table (λ x a point. same x a.each point);
}
