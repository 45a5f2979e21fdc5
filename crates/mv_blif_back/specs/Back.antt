-- What the text of a network as BLIF reads as.
use Rattle.std.specs.Prelude.{◌≡◌, ℕ, true, List}
use Rattle.mv_base.specs.Meaning.{SameMeaning}
use Rattle.mv_lex.specs.Lines.{lines_of, is_clean}
use Rattle.mv_unfold.specs.Sound.{IsSound, of_sound}
use Rattle.mv_latch.specs.declared.latch.BlifLatch.{BlifLatch}
use Rattle.mv_blif.specs.declared.design.BlifDesign.{BlifDesign}
use Rattle.mv_blif.specs.Grammar.{IsBlif, AreWithinLimits}
use Rattle.mv_net.specs.declared.parts.NetParts.{NetParts}
use Rattle.mv_net.specs.Allowed.{of_net}
use Rattle.mv_net.specs.Changes.{with_nets}
use Rattle.mv_chosen.specs.Written.{written_nets}
use Rattle.mv_blif_text.specs.BlifText.{blif_text}
use Rattle.mv_blif_back.specs.Said.{inits, HasSmallTables}

-- the bytes read as this design: they have no fault, limits aside, BLIF's grammar relates their
-- lines to the design, and it is sound
pub record ReadsAs (bytes : List ℕ) (d : BlifDesign) : Type 0 where
  pub clean : is_clean bytes ≡ true
  pub design : IsBlif (lines_of bytes) d
  pub sound : IsSound d.design

-- the text of the network reads as a design with the same said of its latches, which means what the
-- network with its written tables means; and where its tables are small its lines are within the
-- limits
pub record ReadsBack (net : NetParts) (bs : List BlifLatch) : Type 0 where
  pub design : BlifDesign
  pub reads : ReadsAs (blif_text net bs) design
  pub latches : design.latches ≡ bs
  pub means : SameMeaning (of_sound design.design reads.sound)
      (of_net (with_nets net (written_nets net (inits bs))))
  pub limits : HasSmallTables net → AreWithinLimits (lines_of (blif_text net bs))
