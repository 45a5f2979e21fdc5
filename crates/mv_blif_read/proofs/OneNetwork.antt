-- Lines whose numbers ascend say at most one network: they say one design, and that has one network.
use Rattle.std.proofs.Common.{◌≡◌, true, List, sym, ap, ◌∙◌, subst}
use Rattle.mv_lex.specs.declared.lines.LexLine.{LexLine}
use Rattle.mv_design.specs.Proper.{numbers_ascend}
use Rattle.mv_parse_laws.specs.Lines.{numbers_of}
use Rattle.mv_blif.specs.declared.design.BlifDesign.{BlifDesign}
use Rattle.mv_blif_laws.proofs.Proper.{proper}
use Rattle.mv_flat.specs.Flat.{IsFlat}
use Rattle.mv_flat.proofs.OneNetwork as flat
use Rattle.mv_blif_read.specs.declared.network.FileNetwork.{FileNetwork}
use Rattle.mv_blif_read.specs.Reads.{IsBlifNetOf}

pub one_network : (lines : List LexLine) (one other : FileNetwork) → numbers_ascend (numbers_of lines) ≡ true → IsBlifNetOf lines one → IsBlifNetOf lines other
    → one ≡ other
one_network lines one other up p q =
    let same : q.design ≡ p.design = q.is.is ∙ sym p.is.is in
    let P : BlifDesign → Type 0 = λ d. IsFlat other.net d.design in
    let net : one.net ≡ other.net = flat.one_network p.design.design one.net other.net (proper lines p.design up p.is p.within) p.flat (subst P same q.flat) in
    let latches : one.latches ≡ other.latches = p.said ∙ (ap (λ (d : BlifDesign). d.latches) (sym same) ∙ sym q.said) in
    λ i. record { net = net i; latches = latches i }
