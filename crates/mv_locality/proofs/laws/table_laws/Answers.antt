-- Each law is a lemma, from the old network to the new and back.
use Rattle.std.proofs.Common.{sym}
use Rattle.mv_locality.proofs.Tables.{both_ways, IsTotalNet-same, IsPlainNet-same, IsPlainConstant-same, IsPlainBuffer-same, IsBuffer-same, IsTabled-same, IsInnerOf-both}
use Rattle.mv_locality.proofs.laws.table_laws.Goals as goal

pub returns : goal.returns
returns c = record {
  total = both_ways _ IsTotalNet-same;
  plain = λ old new n same. (IsPlainNet-same new.nets old.nets n (sym same), IsPlainNet-same old.nets new.nets n same);
  constant = λ old new n v same. (IsPlainConstant-same new.nets old.nets n v (sym same), IsPlainConstant-same old.nets new.nets n v same);
  copies = λ old new n m. both_ways _ (λ a b k keeps. IsPlainBuffer-same a b k m keeps) old new n;
  buffer = both_ways _ IsBuffer-same;
  named = λ old new name n same. (IsTabled-same new.nets old.nets name n (sym same), IsTabled-same old.nets new.nets name n same);
  inner = IsInnerOf-both;
}
