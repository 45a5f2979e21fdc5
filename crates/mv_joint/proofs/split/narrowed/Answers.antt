use Rattle.std.proofs.Common.{◌≡◌, ◌++◌, ◌∷◌, [], ℕ, List, ◌<◌, true, false, not, length, slice_set, sym, ◌∙◌, ap, arith, rules}
use Rattle.std.specs.Prelude.{slice_index}
use Rattle.std.proofs.lemmas.List.{get_or_read}
use Rattle.mv_base.specs.Set.{has, one}
use Rattle.mv_rows.specs.Marked.{matches_none}
use Rattle.mv_rows.proofs.Orders.{fit_length}
use Rattle.mv_joint.proofs.Splits.{fit_one, narrowing_none, narrowing_kept}
use Rattle.mv_joint.proofs.split.narrowed.Goals as goal

pub offset_bounds-as_slice-place : goal.offset_bounds-as_slice-place
offset_bounds-as_slice-place c =
    let low : c.args.place < length c.as_slice.result.now = rw c.as_slice.ensures (omega (arith, fit_length c.args.frame.now.columns c.args.row.now.ins c.requires.fit.sets)) in
    search (rules, low)

pub bounds-as_slice-place : goal.bounds-as_slice-place
bounds-as_slice-place c = rw c.as_slice.ensures (omega (arith, fit_length c.args.frame.now.columns c.args.row.now.ins c.requires.fit.sets))

pub returns-then-not-has : goal.returns-then-not-has
returns-then-not-has c =
    let sets = c.args.row.now.ins in
    let low : c.args.place < length c.as_slice.result.now = rw c.as_slice.ensures (omega (arith, fit_length c.args.frame.now.columns sets c.requires.fit.sets)) in
    let item : c.index-as_slice-place.result ≡ slice_index sets c.args.place =
    get_or_read c.as_slice.result.now _ _ low c.index-as_slice-place.is 0 ∙ ap (λ (xs : List ℕ). slice_index xs c.args.place) c.as_slice.ensures in
    let gone : has (slice_index c.args.row.now.ins c.args.place) c.args.value.0 ≡ false = ap (λ s. has s c.args.value.0) (sym item) ∙ (sym c.has.ensures ∙ c.if-not-has.true) in
    narrowing_none c.args.frame.now.columns c.args.place c.args.row.now c.args.value.0 gone

pub replace-requires : goal.replace-requires
replace-requires c = rw (c.in_ok-ins.ensures ∙ c.as_slice-2.ensures) (omega (arith, fit_length c.args.frame.now.columns c.args.row.now.ins c.requires.fit.sets))

pub is_possible-requires-clause-sets : goal.is_possible-requires-clause-sets
is_possible-requires-clause-sets c =
    let sets = c.args.row.now.ins in
    let low : c.args.place < length c.as_slice.result.now = rw c.as_slice.ensures (omega (arith, fit_length c.args.frame.now.columns sets c.requires.fit.sets)) in
    let item : c.index-as_slice-place.result ≡ slice_index sets c.args.place =
    get_or_read c.as_slice.result.now _ _ low c.index-as_slice-place.is 0 ∙ ap (λ (xs : List ℕ). slice_index xs c.args.place) c.as_slice.ensures in
    let there : has (slice_index c.args.row.now.ins c.args.place) c.args.value.0 ≡ true = ap (λ s. has s c.args.value.0) (sym item) ∙ (sym c.has.ensures ∙ c.if-not-has.false) in
    let ins : c.replace.new.self ≡ slice_set sets c.args.place (one c.args.value.0) =
    c.replace.ensures.items ∙ (λ i. slice_set ((c.in_ok-ins.ensures ∙ c.as_slice-2.ensures) i) c.args.place ((c.in_ok-alone.ensures ∙ c.one.ensures) i)) in
    rw (c.as_slice-3.ensures ∙ ins) (fit_one c.args.frame.now.columns c.args.row.now.ins c.args.place c.args.value.0 c.requires.fit.sets there)

pub returns : goal.returns
returns c =
    let sets = c.args.row.now.ins in
    let low : c.args.place < length c.as_slice.result.now = rw c.as_slice.ensures (omega (arith, fit_length c.args.frame.now.columns sets c.requires.fit.sets)) in
    let item : c.index-as_slice-place.result ≡ slice_index sets c.args.place =
    get_or_read c.as_slice.result.now _ _ low c.index-as_slice-place.is 0 ∙ ap (λ (xs : List ℕ). slice_index xs c.args.place) c.as_slice.ensures in
    let there : has (slice_index c.args.row.now.ins c.args.place) c.args.value.0 ≡ true = ap (λ s. has s c.args.value.0) (sym item) ∙ (sym c.has.ensures ∙ c.if-not-has.false) in
    let ins : c.replace.new.self ≡ slice_set sets c.args.place (one c.args.value.0) =
    c.replace.ensures.items ∙ (λ i. slice_set ((c.in_ok-ins.ensures ∙ c.as_slice-2.ensures) i) c.args.place ((c.in_ok-alone.ensures ∙ c.one.ensures) i)) in
    let outs : c.push.new.self ≡ c.args.row.now.outs ++ one c.args.value.0 ∷ [] =
    c.in_ok-push.ensures.ok ∙ (λ i. c.in_ok-outs.ensures i ++ (c.in_ok-said.ensures ∙ (c.in_ok-alone.ensures ∙ c.one.ensures)) i ∷ []) in
    let possible : not (matches_none c.args.frame.now.columns c.replace.new.self) ≡ true =
    ap (λ s. not (matches_none c.args.frame.now.columns s)) (sym c.as_slice-3.ensures) ∙ (sym c.in_ok-is_possible.ensures ∙ c.if-not-branch.false) in
    narrowing_kept c.args.frame.now.columns c.args.place c.args.row.now c.args.value.0 c.replace.new.self c.push.new.self there ins outs possible
