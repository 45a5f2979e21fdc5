-- Each law is a lemma, from the old network to the new and back.
use Rattle.mv_locality.proofs.Places.{both_ways, IsUnseen-same, IsUnread-same, IsRead-same, IsUnshared-same, HasComposites-same, IsRemovable-same, CanCollapse-same}
use Rattle.mv_locality.proofs.laws.check_laws.Goals as goal

pub returns : goal.returns
returns c = record {
  unseen = both_ways _ IsUnseen-same;
  unread = both_ways _ (λ old new n keeps. IsUnread-same old.nets new.nets n keeps.around);
  read = both_ways _ (λ old new n keeps. IsRead-same old.nets new.nets n keeps.around);
  unshared = both_ways _ (λ old new n keeps. IsUnshared-same old.nets new.nets n keeps.around);
  composites = both_ways _ (λ old new n keeps. HasComposites-same old.nets new.nets n keeps.around);
  removable = both_ways _ IsRemovable-same;
  can_collapse = both_ways _ CanCollapse-same;
}
