-- A design of one model, in which each net has the values 0 and 1.
use Rattle.std.specs.Prelude.{◌≡◌, [], ◌∷◌, length}
use Rattle.mv_design.specs.declared.design.FileModel.{FileModel}
use Rattle.mv_blif.specs.declared.design.BlifDesign.{BlifDesign}

-- one model without declarations and instances, and something said of each of its latches
pub record IsFlat (d : BlifDesign) : Type 0 where
  pub model : FileModel
  pub single : d.design.models ≡ model ∷ []
  pub decls : model.decls ≡ []
  pub instances : model.instances ≡ []
  pub said : length d.latches ≡ length model.latches
