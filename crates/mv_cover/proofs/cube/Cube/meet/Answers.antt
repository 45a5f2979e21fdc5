-- The merged list is the cube where no set is empty, and holds nowhere else.
use Rattle.std.proofs.Common.{◌≡◌, ◌∙◌, sym, ap, true, not, nat_eq}
use Rattle.std.specs.List.{list_all}
use Rattle.std.proofs.lemmas.Bool.{false≢true}
use Rattle.mv_base.specs.Set.{empty}
use Rattle.mv_cover.specs.Cubes.{matches}
use Rattle.mv_cover.specs.Meets.{merged, IsMet}
use Rattle.mv_cover.proofs.Meets.{IsMet-merged, Rises-cube, apart, matches-merged, met_some, met_none}
use Rattle.mv_cover.proofs.Members.{point_of}
use Rattle.mv_cover.proofs.cube.Cube.meet.Goals as goal

pub returns-then-not-possible-clause-list : goal.returns-then-not-possible-clause-list
returns-then-not-possible-clause-list c =
    let same : c.as_slice.result.now ≡ merged c.args.self.now c.args.other.now = c.as_slice.ensures ∙ (c.in_ok-lits.ensures ∙ λ i. merged (c.lits.ensures.lits i) (c.lits-2.ensures.lits i)) in
    met_none c.args.self.now c.args.other.now c.as_slice.result.now same (sym c.if-not-possible.ensures)

pub returns-then-not-possible-clause-none : goal.returns-then-not-possible-clause-none
returns-then-not-possible-clause-none c e at =
    let same : c.as_slice.result.now ≡ merged c.args.self.now c.args.other.now = c.as_slice.ensures ∙ (c.in_ok-lits.ensures ∙ λ i. merged (c.lits.ensures.lits i) (c.lits-2.ensures.lits i)) in
    apart c.args.self.now c.args.other.now c.as_slice.result.now same (sym c.if-not-possible.ensures) at

pub of-requires : goal.of-requires
of-requires c =
    let same : c.in_ok-lits.lits.items ≡ merged c.args.self.now c.args.other.now = c.in_ok-lits.ensures ∙ λ i. merged (c.lits.ensures.lits i) (c.lits-2.ensures.lits i) in
    let some : list_all (λ l. not (nat_eq l.set empty)) c.in_ok-lits.lits.items ≡ true = ap (list_all (λ l. not (nat_eq l.set empty))) (sym c.as_slice.ensures) ∙ sym c.if-not-possible.ensures in
    (IsMet-merged c.args.self.now c.args.other.now c.in_ok-lits.lits.items same c.lits.ensures.formed c.lits-2.ensures.formed some).cube

pub returns : goal.returns
returns c =
    let same : c.of.result ≡ merged c.args.self.now c.args.other.now = c.of.ensures ∙ (c.in_ok-lits.ensures ∙ λ i. merged (c.lits.ensures.lits i) (c.lits-2.ensures.lits i)) in
    let some : list_all (λ l. not (nat_eq l.set empty)) c.of.result ≡ true = ap (list_all (λ l. not (nat_eq l.set empty))) (c.of.ensures ∙ sym c.as_slice.ensures) ∙ sym c.if-not-possible.ensures in
    let met : IsMet c.args.self.now c.args.other.now c.of.result = IsMet-merged c.args.self.now c.args.other.now c.of.result same c.lits.ensures.formed c.lits-2.ensures.formed some in
    let point = point_of 0 c.of.result (Rises-cube c.of.result met.cube.ascending) some in
    record {
      list = met_some c.args.self.now c.args.other.now c.of.result same some;
      some = met;
      points = λ at. ap (matches at) same ∙ matches-merged at c.args.self.now c.args.other.now;
      point = (point.at, point.there);
      none = λ h. absurd (false≢true (sym h));
    }
