-- Lines whose numbers ascend say at most one network: they say one design, and that has one network.
use Rattle.std.proofs.Common.{◌≡◌, true, List, sym, ◌∙◌, subst}
use Rattle.mv_lex.specs.declared.lines.LexLine.{LexLine}
use Rattle.mv_design.specs.declared.design.Design.{Design}
use Rattle.mv_design.specs.Proper.{numbers_ascend}
use Rattle.mv_parse_laws.specs.Lines.{numbers_of}
use Rattle.mv_parse_laws.proofs.Proper.{proper}
use Rattle.mv_net.specs.declared.parts.NetParts.{NetParts}
use Rattle.mv_flat.specs.Flat.{IsFlat}
use Rattle.mv_flat.proofs.OneNetwork as flat
use Rattle.mv_read.specs.Reads.{IsNetOf}

pub one_network : (lines : List LexLine) (one other : NetParts) → numbers_ascend (numbers_of lines) ≡ true → IsNetOf lines one → IsNetOf lines other → one ≡ other
one_network lines one other up p q =
    let same : q.design ≡ p.design = q.is.is ∙ sym p.is.is in
    let P : Design → Type 0 = λ d. IsFlat other d in
    flat.one_network p.design one other (proper lines p.design up p.is p.within) p.flat (subst P same q.flat)
