-- Lines that are refused, and those that have a network.
use Rattle.std.proofs.Common.{◌≡◌, ◌⊎◌, true, List, [], inl, inr, refl, sym, ap, subst, ◌∙◌}
use Rattle.std.specs.Prelude.{Some, None}
use Rattle.mv_lex.specs.declared.lines.LexLine.{LexLine}
use Rattle.mv_design.specs.Proper.{numbers_ascend}
use Rattle.mv_parse_laws.specs.Lines.{numbers_of}
use Rattle.mv_parse_laws.proofs.Nothing.{filters-nothing}
use Rattle.mv_fault.specs.Tells.{first}
use Rattle.mv_fault.specs.declared.flat.FlatFault.{FlatFault}
use Rattle.mv_fault.specs.declared.flat.FlatFault.TheVariants.{Memory as NoFlatMemory}
use Rattle.mv_blif_line.specs.declared.fault.BlifFault.{BlifFault}
use Rattle.mv_blif_line.specs.declared.fault.BlifFault.TheVariants.{Memory as NoBlifMemory}
use Rattle.mv_blif.specs.declared.design.BlifDesign.{BlifDesign}
use Rattle.mv_blif.specs.Grammar.{faults_of, is_limit, IsBlif, AreWithinLimits, FirstFault}
use Rattle.mv_blif_laws.proofs.Proper.{proper}
use Rattle.mv_net.specs.declared.parts.NetParts.{NetParts}
use Rattle.mv_flat.specs.Flat.{IsFlat, IsRefusedDesign}
use Rattle.mv_flat.proofs.Refusals.{refused_excludes}
use Rattle.mv_blif_read.specs.declared.network.BlifNetFault.{BlifNetFault}
use Rattle.mv_blif_read.specs.declared.network.BlifNetFault.TheVariants.{Parse, Flat, Memory}
use Rattle.mv_blif_read.specs.Reads.{IsBlifNetOf, SaySoundDesign, IsUnsound, IsFaultOf, parse_refused, flat_refused}

-- ---- what is told

pub parse-told : (lines : List LexLine) (f : BlifFault) → (f ≡ NoBlifMemory) ⊎ FirstFault lines f → IsFaultOf lines (parse_refused f)
parse-told lines NoBlifMemory told = tt
parse-told lines _ (inl e) = cc
parse-told lines _ (inr told) = told

pub flat-told : (lines : List LexLine) (d : BlifDesign) (f : FlatFault) → IsBlif lines d → AreWithinLimits lines → IsRefusedDesign d.design f → IsFaultOf lines (flat_refused f)
flat-told lines d NoFlatMemory is within fault = tt
flat-told lines d _ is within fault = record { design = d; is = is; within = within; fault = fault; cause = λ e. cc }

pub net-told : (lines : List LexLine) (d : BlifDesign) (net : NetParts) → IsBlif lines d → AreWithinLimits lines → IsFlat net d.design
    → IsBlifNetOf lines (record { net = net; latches = d.latches })
net-told lines d net is within flat = record { design = d; is = is; within = within; flat = flat; said = refl }

pub ruleset networks = (parse-told, flat-told, net-told)

-- ---- refused lines have no network

-- lines that say a design within the limits have no fault
pub no-faults : (lines : List LexLine) (d : BlifDesign) → IsBlif lines d → AreWithinLimits lines → faults_of lines ≡ []
no-faults lines d is within = filters-nothing is_limit (faults_of lines) is.accepted within.within

parse-excludes : (lines : List LexLine) (f : BlifFault) → FirstFault lines f → SaySoundDesign lines → ⊥
parse-excludes lines f told h =
    let none : faults_of lines ≡ [] = no-faults lines h.design h.is h.within in
    let e : None ≡ Some f = ap first (sym none) ∙ told.first in
    cc

flat-excludes : (lines : List LexLine) (f : FlatFault) → numbers_ascend (numbers_of lines) ≡ true → IsUnsound lines f → SaySoundDesign lines → ⊥
flat-excludes lines f up u h =
    let same : u.design ≡ h.design = u.is.is ∙ sym h.is.is in
    let P : BlifDesign → Type 0 = λ d. IsRefusedDesign d.design f in
    refused_excludes h.design.design f (proper lines h.design up h.is h.within) (subst P same u.fault) u.cause h.sound h.limits h.fits

pub refused-excludes : (lines : List LexLine) (f : BlifNetFault) → numbers_ascend (numbers_of lines) ≡ true → IsFaultOf lines f → (f ≡ Memory → ⊥) → SaySoundDesign lines → ⊥
refused-excludes lines (Parse f) up told some h = parse-excludes lines f told h
refused-excludes lines (Flat f) up told some h = flat-excludes lines f up told h
refused-excludes lines Memory up told some h = some refl
