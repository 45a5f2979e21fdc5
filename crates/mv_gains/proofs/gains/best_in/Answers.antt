use Rattle.std.proofs.Common.{◌≡◌, ◌∙◌, ℕ, None, Option, List, [], length, map, All, refl, sym, ap, subst, arith}
use Rattle.std.proofs.lemmas.List.{length-map, with_items_is}
use Rattle.std.specs.List.{fold}
use Rattle.std.specs.Option.{MatchOption, option_map}
use Rattle.std.specs.Vec.{with_items}
use Rattle.mv_cover.specs.Literal.{Lit}
use Rattle.mv_divide.specs.declared.part.Part.{Part}
use Rattle.mv_gains.specs.declared.kernels.Candidate.{Candidate}
use Rattle.mv_gains.specs.declared.leader.Offer.{Offer}
use Rattle.mv_gains.specs.Candidates.{IsBest, IsDivisorFor, IsKernelCandidate, NoneSaves}
use Rattle.mv_gains.specs.Known.{IsKnown, IsRight, standing}
use Rattle.mv_gains.specs.Leading.{leader, offer}
use Rattle.mv_gains.proofs.Ending.{found_is, kernels_all, kernels_divide}
use Rattle.mv_gains.proofs.Kept.{all_lines_formed}
use Rattle.mv_gains.proofs.Offers.{leader_chosen}
use Rattle.mv_gains.proofs.Renewal.{candidates_stand, gains_refreshed}
use Rattle.mv_gains.proofs.gains.best_in.Goals as goal

pub refresh_all-requires-clause-divisors : goal.refresh_all-requires-clause-divisors
refresh_all-requires-clause-divisors c =
    let nets = c.args.net.now.nets in
    subst (λ (cs : List Candidate). All (λ (x : Candidate). IsDivisorFor nets x.kernel.cubes) cs) (sym c.as_mut_slice.ensures.value)
    (kernels_divide nets c.args.kept.now.covers.items c.args.kept.now.candidates.items c.requires.covers (all_lines_formed c.args.net.now c.well_formed-2.ensures) c.requires.gains.all)

pub returns-in_err-refresh_all-clause-gains : goal.returns-in_err-refresh_all-clause-gains
returns-in_err-refresh_all-clause-gains c =
    let now = c.saturating_add-kept.result in
    let old = c.args.kept.now.candidates in
    let list = c.refresh_all.new.candidates in
    let long : length list ≡ old.len =
    omega (arith, ap length c.refresh_all.ensures.same, length-map list standing, length-map c.as_mut_slice.result.now standing, c.as_mut_slice.ensures.len) in
    let items : (with_items old list).items ≡ list = with_items_is old list long in
    let right =
    subst (λ (xs : List ℕ). All (IsRight c.args.kept.now.covers.items xs now) list) c.as_slice-2.ensures.value
    (subst (λ (ts : List (List Part)). All (IsRight ts c.as_slice-2.result.now now) list) c.as_slice.ensures.value c.refresh_all.ensures.right) in
    gains_refreshed c.args.kept.now _ c.requires.gains refl (ap (map standing) items ∙ (c.refresh_all.ensures.same ∙ ap (map standing) c.as_mut_slice.ensures.value))
    (subst (λ (cs : List Candidate). All (IsRight c.args.kept.now.covers.items c.args.kept.now.changed.items now) cs) (sym items) right)

pub returns-in_err-best-clause-gains : goal.returns-in_err-best-clause-gains
returns-in_err-best-clause-gains c =
    let now = c.saturating_add-kept.result in
    let old = c.args.kept.now.candidates in
    let list = c.refresh_all.new.candidates in
    let long : length list ≡ old.len =
    omega (arith, ap length c.refresh_all.ensures.same, length-map list standing, length-map c.as_mut_slice.result.now standing, c.as_mut_slice.ensures.len) in
    let items : (with_items old list).items ≡ list = with_items_is old list long in
    let right =
    subst (λ (xs : List ℕ). All (IsRight c.args.kept.now.covers.items xs now) list) c.as_slice-2.ensures.value
    (subst (λ (ts : List (List Part)). All (IsRight ts c.as_slice-2.result.now now) list) c.as_slice.ensures.value c.refresh_all.ensures.right) in
    gains_refreshed c.args.kept.now _ c.requires.gains refl (ap (map standing) items ∙ (c.refresh_all.ensures.same ∙ ap (map standing) c.as_mut_slice.ensures.value))
    (subst (λ (cs : List Candidate). All (IsRight c.args.kept.now.covers.items c.args.kept.now.changed.items now) cs) (sym items) right)

pub returns-clause-gains : goal.returns-clause-gains
returns-clause-gains c =
    let now = c.saturating_add-kept.result in
    let old = c.args.kept.now.candidates in
    let list = c.refresh_all.new.candidates in
    let long : length list ≡ old.len =
    omega (arith, ap length c.refresh_all.ensures.same, length-map list standing, length-map c.as_mut_slice.result.now standing, c.as_mut_slice.ensures.len) in
    let items : (with_items old list).items ≡ list = with_items_is old list long in
    let right =
    subst (λ (xs : List ℕ). All (IsRight c.args.kept.now.covers.items xs now) list) c.as_slice-2.ensures.value
    (subst (λ (ts : List (List Part)). All (IsRight ts c.as_slice-2.result.now now) list) c.as_slice.ensures.value c.refresh_all.ensures.right) in
    gains_refreshed c.args.kept.now _ c.requires.gains refl (ap (map standing) items ∙ (c.refresh_all.ensures.same ∙ ap (map standing) c.as_mut_slice.ensures.value))
    (subst (λ (cs : List Candidate). All (IsRight c.args.kept.now.covers.items c.args.kept.now.changed.items now) cs) (sym items) right)

pub returns-clause-best : goal.returns-clause-best
returns-clause-best c =
    let nets = c.args.net.now.nets in
    let tables = c.args.kept.now.covers.items in
    let list = c.refresh_all.new.candidates in
    let same : map standing list ≡ map standing c.args.kept.now.candidates.items = c.refresh_all.ensures.same ∙ ap (map standing) c.as_mut_slice.ensures.value in
    let old = c.args.kept.now.candidates in
    let long : length list ≡ old.len =
    omega (arith, ap length c.refresh_all.ensures.same, length-map list standing, length-map c.as_mut_slice.result.now standing, c.as_mut_slice.ensures.len) in
    let items : (with_items old list).items ≡ list = with_items_is old list long in
    let known = subst (λ (ts : List (List Part)). All (IsKnown ts) list) c.as_slice.ensures.value c.in_ok-refresh_all.ensures.known in
    let all = kernels_all nets tables list c.requires.covers (candidates_stand tables [] c.args.kept.now.candidates.items list same c.requires.gains.all) in
    let led = c.divisor_of.ensures ∙ ap (option_map (λ (o : Offer). o.divisor)) (c.in_ok-best.ensures ∙ ap (λ (cs : List Candidate). fold leader None (map offer cs)) (c.as_slice-3.ensures.value ∙ items)) in
    subst (λ (b : Option (List (List Lit))). MatchOption b (NoneSaves IsKernelCandidate nets) (IsBest IsKernelCandidate nets)) (sym led)
    (found_is IsKernelCandidate nets tables (map (λ (o : Offer). o.divisor) (map offer list)) c.requires.covers all (option_map (λ (o : Offer). o.divisor) (fold leader None (map offer list)))
    (leader_chosen tables list c.requires.gains.ready known))
