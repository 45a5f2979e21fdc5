-- Each law is a lemma, for the network whose readers have their tables and whose number of the net isn't held.
use Rattle.std.proofs.Common.{None, set}
use Rattle.mv_net.proofs.Patches.{IsWritten-gone}
use Rattle.mv_meaning.specs.Rewriting.{rewritten}
use Rattle.mv_meaning.proofs.Collapsing.{collapsed_formed, collapsed_means}
use Rattle.mv_meaning.proofs.laws.collapsing_laws.Goals as goal

pub returns : goal.returns
returns c = record {
  formed = λ net n inner new formed table unseen made.
      collapsed_formed net n inner new (set (rewritten new n net.nets) n None) formed table unseen made (IsWritten-gone (rewritten new n net.nets) n);
  means = λ net n inner new formed table unseen joins m reads one.
      collapsed_means net n inner new (set (rewritten new n net.nets) n None) formed table unseen joins m reads one (IsWritten-gone (rewritten new n net.nets) n);
}
