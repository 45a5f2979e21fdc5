-- Each law is a lemma.
use Rattle.mv_locality.proofs.Counts.{complement_of-same, IsWide-same, spelled_of-same, spelled-same, composed-same, IsTooWide-same}
use Rattle.mv_locality.proofs.laws.count_laws.Goals as goal

pub returns : goal.returns
returns c = record {
  complement = complement_of-same;
  wide = IsWide-same;
  default = spelled_of-same;
  spelled = spelled-same;
  composed = composed-same;
  too_wide = IsTooWide-same;
}
