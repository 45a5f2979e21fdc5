-- Facts of each net that a list holds.
use Rattle.std.proofs.Common.{◌≡◌, ℕ, suc, false, List, [], ◌∷◌, refl}
use Rattle.std.specs.Prelude.{Option, Some, None}
use Rattle.mv_net.specs.declared.parts.FlatNet.{FlatNet}
use Rattle.mv_net.specs.declared.parts.NetParts.{NetParts}
use Rattle.mv_net.specs.Nets.{slot}
use Rattle.mv_net.specs.Formed.{WellFormed}
use Rattle.mv_text_back.proofs.TextModel.{is_reset_net}
use Rattle.mv_text_back.proofs.Resets.{readable}
use Rattle.mv_text_back.proofs.Declared.{IsSaid}

abbrev pub EachNet : (FlatNet → Type 0) → List (Option FlatNet) → Type 0
EachNet P [] = Unit {0}
EachNet P (None ∷ fs) = EachNet P fs
EachNet P (Some f ∷ fs) = P f × EachNet P fs

pub EachNet-from : (P : FlatNet → Type 0) (fs : List (Option FlatNet)) → ((n : ℕ) (f : FlatNet) → slot fs n ≡ Some f → P f) → EachNet P fs
EachNet-from P [] h = tt
EachNet-from P (None ∷ fs) h = EachNet-from P fs (λ n f e. h (suc n) f e)
EachNet-from P (Some f ∷ fs) h = (h 0 f refl, EachNet-from P fs (λ n g e. h (suc n) g e))

-- each can be declared, but for the reset nets
abbrev pub CanBeSaid : FlatNet → Type 0
CanBeSaid f = is_reset_net f ≡ false → IsSaid f.name f.values f.value_names

pub held-said : (net : NetParts) → WellFormed net → (n : ℕ) (f : FlatNet) → slot net.nets n ≡ Some f → CanBeSaid f
held-said net formed n f held other =
    let is = formed.nets n f held in
    record {
      net = is.name (readable net.nets n f held other).plain;
      some = is.some;
      few = is.few;
      named = is.named;
    }
