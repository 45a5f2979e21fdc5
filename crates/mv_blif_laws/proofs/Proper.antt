-- Lines without a fault, whose numbers ascend, say a proper design.
use Rattle.std.proofs.Common.{◌≡◌, true, List, [], ◌∷◌, refl, sym, subst, arith}
use Rattle.std.proofs.lemmas.List.Elements.{All-nil, All-cons}
use Rattle.mv_lex.specs.declared.lines.LexLine.{LexLine}
use Rattle.mv_design.specs.Proper.{numbers_ascend, IsFileDecl, IsFileInstance, IsProperModel, IsProper}
use Rattle.mv_parse_laws.specs.Lines.{numbers_of}
use Rattle.mv_parse_laws.proofs.Nothing.{filters-nothing}
use Rattle.mv_blif.specs.declared.design.BlifDesign.{BlifDesign}
use Rattle.mv_blif.specs.Known.{known}
use Rattle.mv_blif.specs.Grammar.{faults_of, is_limit, IsBlif, AreWithinLimits}
use Rattle.mv_blif.specs.Meaning.{blif_model, blif_of}
use Rattle.mv_blif_laws.specs.Flat.{IsFlat}
use Rattle.mv_blif_laws.proofs.Tables.{tables-fit}
use Rattle.mv_blif_laws.proofs.Latches.{latches-fit, resets-fit, settings-long}
use Rattle.mv_blif_laws.proofs.Ports.{HasPorts, no-ports, ports-fit, begins}
use Rattle.mv_blif_laws.proofs.Order.{stands}

model-proper : (lines : List LexLine) → numbers_ascend (numbers_of lines) ≡ true → faults_of lines ≡ [] → IsProperModel (blif_model lines)
unfolding faults_of known
model-proper [] up none = cc
model-proper (l ∷ ls) up none =
    let first = begins l ls none in
    let ports : HasPorts (known (l ∷ ls)) = ports-fit [] (l ∷ ls) no-ports none in
    record {
      lawful = record {
        name = first.name;
        inputs = ports.inputs.lawful;
        inputs_differ = ports.inputs.differ;
        outputs = ports.outputs.lawful;
        outputs_differ = ports.outputs.differ;
        decls = All-nil IsFileDecl;
        tables = tables-fit [] (l ∷ ls) none;
        latches = latches-fit [] (l ∷ ls) none;
        resets = resets-fit [] (l ∷ ls) none;
        instances = All-nil IsFileInstance;
      };
      order = stands l ls first.model up;
    }

said-proper : (lines : List LexLine) → numbers_ascend (numbers_of lines) ≡ true → faults_of lines ≡ [] → IsProper (blif_of lines).design
unfolding blif_of
said-proper lines up none = record {
  models = All-cons IsProperModel (blif_model lines) [] (model-proper lines up none) (All-nil IsProperModel);
  differ = refl;
  root = omega arith;
}

pub proper : (lines : List LexLine) (d : BlifDesign) → numbers_ascend (numbers_of lines) ≡ true → IsBlif lines d → AreWithinLimits lines → IsProper d.design
proper lines d up is within =
    let none : faults_of lines ≡ [] = filters-nothing is_limit (faults_of lines) is.accepted within.within in
    subst (λ (x : BlifDesign). IsProper x.design) (sym is.is) (said-proper lines up none)

said-flat : (lines : List LexLine) → IsFlat (blif_of lines)
unfolding blif_of
said-flat lines = record { model = blif_model lines; single = refl; decls = refl; instances = refl; said = settings-long lines }

pub flat : (lines : List LexLine) (d : BlifDesign) → IsBlif lines d → IsFlat d
flat lines d is = subst IsFlat (sym is.is) (said-flat lines)
