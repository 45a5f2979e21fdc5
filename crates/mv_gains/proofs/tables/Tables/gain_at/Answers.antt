use Rattle.std.proofs.Common.{◌≡◌, ◌∙◌, ℕ, ◌+◌, List, [], length, take, get_or, sym, ap, subst, arith}
use Rattle.std.proofs.lemmas.List.{get_or_default}
use Rattle.std.proofs.lemmas.List.Elements.{All-get_or}
use Rattle.mv_divide.specs.declared.part.Part.{Part}
use Rattle.mv_gains.specs.Tables.{IsReady, IsGainAt, IsSavingAt, IsPartsSaving}
use Rattle.mv_gains.proofs.Noting.{take_more}
use Rattle.mv_gains.proofs.Sums.{ascends_at, ascends_few, sum_push}
use Rattle.mv_gains.proofs.tables.Tables.gain_at.Goals as goal

pub index-requires : goal.index-requires
index-requires c =
    let low = ascends_at 0 (length c.args.self.now) c.args.places.now c.loop-place.place-index 0 c.requires.places c.loop-place-test.true in
    let long : length c.self.inside.covers.items ≡ length c.args.self.now = ap length c.self.view_is in
    omega (arith, low, long)

pub saving_of-requires-clause-ready : goal.saving_of-requires-clause-ready
saving_of-requires-clause-ready c =
    let at = get_or c.args.places.now c.loop-place.place-index 0 in
    let low = ascends_at 0 (length c.args.self.now) c.args.places.now c.loop-place.place-index 0 c.requires.places c.loop-place-test.true in
    let long : length c.self.inside.covers.items ≡ length c.args.self.now = ap length c.self.view_is in
    subst IsReady (sym (c.as_slice.ensures ∙ c.index.ensures)) (All-get_or IsReady c.self.inside.covers.items at c.index.result.now (omega (arith, low, long)) c.self.invariant.ready)

pub overflow_add-total : goal.overflow_add-total
overflow_add-total c =
    let few = ascends_few 0 (length c.args.self.now) c.args.places.now c.requires.places in
    let long : length c.self.inside.covers.items ≡ length c.args.self.now = ap length c.self.view_is in
    omega (arith, few, long, c.self.invariant.few, c.loop-place-test.true, c.loop-place.invariant.few, c.in_ok-total.ensures.few)

pub loop-place-preserved : goal.loop-place-preserved
loop-place-preserved c =
    let i = c.loop-place.place-index in
    let places = c.args.places.now in
    let at : ℕ = get_or places i 0 in
    let low = ascends_at 0 (length c.args.self.now) places i 0 c.requires.places c.loop-place-test.true in
    let long : length c.self.inside.covers.items ≡ length c.args.self.now = ap length c.self.view_is in
    let read : get_or c.self.inside.covers.items at c.index.result.now ≡ get_or c.args.self.now at [] =
    get_or_default c.self.inside.covers.items at c.index.result.now [] (omega (arith, low, long)) ∙ ap (λ (ts : List (List Part)). get_or ts at []) c.self.view_is in
    let here : IsSavingAt c.args.self.now c.args.divisor.now at c.in_ok-total.field-0 =
    subst (λ (ps : List Part). IsPartsSaving c.args.divisor.now ps c.in_ok-total.field-0) (c.as_slice.ensures ∙ (c.index.ensures ∙ read)) c.in_ok-total.ensures.saved in
    let more = take_more places i at c.loop-place-test.true (get_or_default places i 0 at c.loop-place-test.true) in
    record {
      sum =
          subst (λ (ps : List ℕ). IsGainAt c.args.self.now ps c.args.divisor.now (c.loop-place.total + c.in_ok-total.field-0)) (sym more)
          (sum_push (IsSavingAt c.args.self.now c.args.divisor.now) (take i places) at c.loop-place.total c.in_ok-total.field-0 c.loop-place.invariant.sum here);
      few = omega (arith, c.loop-place.invariant.few, c.in_ok-total.ensures.few);
    }
