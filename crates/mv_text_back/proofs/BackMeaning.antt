-- The model of a well-formed network means what the network means.
use Rattle.mv_base.specs.Meaning.{SameMeaning}
use Rattle.mv_design.specs.declared.design.FileModel.{FileModel}
use Rattle.mv_design.specs.Meaning.{of_model}
use Rattle.mv_net.specs.declared.parts.NetParts.{NetParts}
use Rattle.mv_net.specs.Formed.{WellFormed}
use Rattle.mv_net.specs.Allowed.{of_net}
use Rattle.mv_text_back.proofs.TextModel.{IsModelOf}
use Rattle.mv_text_back.proofs.BackPorts.{same_interface}
use Rattle.mv_text_back.proofs.Assigned.{assigned}
use Rattle.mv_text_back.proofs.Valued.{valued}

-- the model of the network and the network mean the same
pub means-back : (net : NetParts) (m : FileModel) → WellFormed net → IsModelOf net m → SameMeaning (of_model m) (of_net net)
unfolding of_model of_net
means-back net m formed model = record {
  same = same_interface net m formed model;
  only = assigned net formed m model;
  all = valued net formed m model;
}
