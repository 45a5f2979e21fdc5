-- The rule `encode`: a net of many values goes, and a net of two values comes for each bit of the
-- codes of its values.
use Rattle.std.specs.Prelude.{◌≡◌, ℕ, List, length}
use Rattle.mv_codes.specs.Codes.{AreCodes}
use Rattle.mv_coding.specs.Nets.{HasNarrowReaders, net_coded}
use Rattle.mv_entry.specs.declared.fault.RuleFault.{RuleFault}
use Rattle.mv_entry.specs.declared.fault.RuleFault.TheVariants.{Visible, Varied, Form, NotFresh, Wide, Nets}
use Rattle.mv_entry.specs.declared.rule.Code.{Code}
use Rattle.mv_net.specs.declared.parts.NetParts.{NetParts}
use Rattle.mv_net.specs.Nets.{slot, values_in}
use Rattle.mv_net.specs.Plain.{IsPlainNet}
use Rattle.mv_plans.specs.Checks.{AreNewNames, HasRoomFor, IsTabled, IsUnseen, Passed, Unless, With}

-- the checks hold but for those of sizes
pub record CanEncode (net : NetParts) (n : ℕ) (names : List (List ℕ)) (codes : List Code)
    : Type 0 where
  pub unseen : IsUnseen net n
  pub plain : IsPlainNet net.nets n
  pub form : AreCodes (values_in (slot net.nets n)) (length names) codes
  pub fresh : AreNewNames net.nets names

-- the net with this name goes, and nets with these names, one for each bit, have the bits of the
-- codes of its values
pub record Encodes (old : NetParts) (name : List ℕ) (names : List (List ℕ)) (codes : List Code)
    (new : NetParts) : Type 0 where
  pub number : ℕ
  pub net : IsTabled old.nets name number
  pub can : CanEncode old number names codes
  pub narrow : HasNarrowReaders old.nets number codes
  pub room : HasRoomFor old.nets (length names)
  pub new_is : new ≡ net_coded old number names codes

-- the first check that fails, of the net with the name and of all
abbrev pub EncodeRow : List (List ℕ) → List Code → NetParts → ℕ → RuleFault → Type 0
EncodeRow names codes net n =
    Unless (IsUnseen net n) Visible (
    Unless (IsPlainNet net.nets n) Varied (
    Unless (AreCodes (values_in (slot net.nets n)) (length names) codes) Form (
    Unless (AreNewNames net.nets names) NotFresh (
    Unless (HasNarrowReaders net.nets n codes) Wide (
    Unless (HasRoomFor net.nets (length names)) Nets
    Passed)))))

abbrev pub FailsEncode : NetParts → List ℕ → List (List ℕ) → List Code → RuleFault → Type 0
FailsEncode net name names codes = With (IsTabled net.nets name) (EncodeRow names codes net)
