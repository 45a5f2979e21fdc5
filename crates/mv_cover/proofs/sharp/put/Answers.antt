-- The place found is that of the net, or the one where it would stand.
use Rattle.std.proofs.Common.{◌≡◌, ◌∙◌, sym, ap, arith}
use Rattle.std.proofs.lemmas.Bool.{false≢true, eq-eqb}
use Rattle.mv_cover.specs.Sharp.{literals_below}
use Rattle.mv_cover.specs.Literal.{Lit}
use Rattle.mv_cover.proofs.Covering.{same_number}
use Rattle.mv_cover.proofs.Sharps.{with_literal-at, with_literal-before}
use Rattle.mv_cover.proofs.sharp.put.Goals as goal
use Rattle.mv_cover.proofs.sharp.put.Goals.{else-place-len-via-then-place-len+else-is_on, else-place-len-via-else-place-len}

pub returns-then-is_on : goal.returns-then-is_on
returns-then-is_on c =
    let net : c.net-net.result.0 ≡ c.args.l.net.0 = c.net-net.ensures.number in
    let at = c.place_of-place.ensures.value ∙ λ i. literals_below (net i) (c.as_slice.ensures.value i) in
    let same = ap (λ (m : Lit). m.net.0) (sym c.index.ensures) ∙ (same_number c.index.result.now.net.0 c.net-net.result.0 (sym c.is_on.ensures ∙ c.if-is_on.true) ∙ net) in
    sym (with_literal-at c.args.l c.args.lits.now.items c.place_of-place.result c.index.result.now at (omega arith) same)

pub returns : goal.returns
returns c =
    let net : c.net-net.result.0 ≡ c.args.l.net.0 = c.net-net.ensures.number in
    let at = c.place_of-place.ensures.value ∙ λ i. literals_below (net i) (c.as_slice.ensures.value i) in
    elim c.else-place-len.branch [
      | else-place-len-via-then-place-len+else-is_on w ↦
          c.in_ok-insert.ensures.items ∙ sym (with_literal-before c.args.l c.args.lits.now.items c.place_of-place.result w.index.result.now at
          (λ low same. false≢true (sym w.if-is_on.false ∙ (w.is_on.ensures ∙ eq-eqb w.index.result.now.net.0 c.net-net.result.0 (ap (λ (m : Lit). m.net.0) w.index.ensures ∙ (same ∙ sym net))))))
      | else-place-len-via-else-place-len w ↦
          c.in_ok-insert.ensures.items ∙ sym (with_literal-before c.args.l c.args.lits.now.items c.place_of-place.result c.args.l at (λ low same. absurd (omega arith)))
    ]
