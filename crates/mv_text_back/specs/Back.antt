-- What the text of a network reads as.
use Rattle.std.specs.Prelude.{◌≡◌, ℕ, true, List}
use Rattle.mv_base.specs.Meaning.{SameMeaning}
use Rattle.mv_lex.specs.Lines.{lines_of, is_clean}
use Rattle.mv_design.specs.declared.design.Design.{Design}
use Rattle.mv_parse.specs.Grammar.{IsDesign}
use Rattle.mv_unfold.specs.Sound.{IsSound, of_sound}
use Rattle.mv_net.specs.declared.parts.NetParts.{NetParts}
use Rattle.mv_net.specs.Allowed.{of_net}
use Rattle.mv_text.specs.Text.{text_of}

-- the bytes read as this design: they have no fault, the grammar relates their lines to the design,
-- and it is sound. No limit of the program is asked for
pub record ReadsAs (bytes : List ℕ) (d : Design) : Type 0 where
  pub clean : is_clean bytes ≡ true
  pub design : IsDesign (lines_of bytes) d
  pub sound : IsSound d

-- the text of the network reads as a design that means the same
pub record ReadsBack (net : NetParts) : Type 0 where
  pub design : Design
  pub reads : ReadsAs (text_of net) design
  pub means : SameMeaning (of_sound design reads.sound) (of_net net)
