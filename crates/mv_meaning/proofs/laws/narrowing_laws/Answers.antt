-- Each law is a lemma.
use Rattle.mv_meaning.proofs.Narrowing.{narrowed_formed, narrowed_refines}
use Rattle.mv_meaning.proofs.laws.narrowing_laws.Goals as goal

pub returns : goal.returns
returns c = record {
  formed = narrowed_formed;
  refines = λ free net n old new inside input output formed table is reads keeps total region within stays.
      narrowed_refines net n old new formed table is reads inside input output keeps total region within stays free;
}
