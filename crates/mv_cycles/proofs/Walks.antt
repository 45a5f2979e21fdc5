-- The nets above a net, as a walk marks them.
use Rattle.std.proofs.Common.{◌≡◌, ◌⊎◌, ℕ, ◌+◌, ◌<◌, ◌≤◌, Bool, true, false, List, [], ◌∷◌, ◌++◌, length, get_or, Some, refl, sym, ◌∙◌, ap, subst, arith, ⊎_elim, inl, inr, All}
use Rattle.std.specs.Prelude.{nat_eq, MatchBool}
use Rattle.std.specs.List.{slice_get}
use Rattle.std.proofs.lemmas.Bool.{false≢true, or_cases, or_left, or_right, cases_lt, cases_Bool, eq-eqb, eqb-true}
use Rattle.std.proofs.lemmas.Option.{same_Some, slice_get_within, slice_get_read}
use Rattle.std.proofs.lemmas.Map.Keys.{any_passes_from_place}
use Rattle.mv_base.specs.declared.number.NetId.{NetId}
use Rattle.mv_graph.specs.Nets.{has_id, row, AllBelow}
use Rattle.mv_graph.specs.Marks.{is_marked, AreAbove}
use Rattle.mv_graph.specs.Above.{GoesOn, IsAbove, reads_by}
use Rattle.mv_cycles.specs.Walking.{HasMarked, IsWalk}
use Rattle.mv_graph.proofs.Nets.{has_id-append}
use Rattle.mv_graph.proofs.Columns.{row_below, column_below}
use Rattle.mv_graph.proofs.Paths.{above_more}
use Rattle.mv_graph.proofs.Clear.{goes_inside}
use Rattle.mv_cycles.specs.declared.walk.Walk.{Walk}
use Rattle.mv_base.proofs.Lists.{found, get_front}

-- ---- one step more

in_either : (ms ns : List NetId) (n : ℕ) → has_id (ms ++ ns) n ≡ true → (has_id ms n ≡ true) ⊎ (has_id ns n ≡ true)
in_either ms ns n e = or_cases _ _ (sym (has_id-append ms ns n) ∙ e)

behind_more : (columns : List (List NetId)) (n done : ℕ) (old new : Walk) (c : NetId) → IsWalk columns n old done → slice_get old.listed.items done ≡ Some c → HasMarked old new (row columns c.0)
    → (place m : ℕ) (d : NetId) → place < done + 1 → slice_get new.listed.items place ≡ Some d → has_id (row columns d.0) m ≡ true → is_marked new.marks.items m ≡ true
behind_more columns n done old new c w at h place m d lt there e =
    let inside = slice_get_within old.listed.items done c at in
    let front : slice_get old.listed.items place ≡ Some d = sym (get_front old.listed.items h.added place (omega arith)) ∙ (ap (λ ns. slice_get ns place) (sym h.listed) ∙ there) in
    ⊎_elim (λ (l : place < done). h.marks m ∙ or_left _ _ (w.behind place m d l front e))
    (λ (r : done ≤ place).
    let p : place ≡ done = omega arith in
    let same : d ≡ c = same_Some d c (sym front ∙ (ap (slice_get old.listed.items) p ∙ at)) in
    h.marks m ∙ or_right (is_marked old.marks.items m) _ (ap (λ (x : NetId). has_id (row columns x.0) m) (sym same) ∙ e))
    (cases_lt place done)

listed_more : (columns : List (List NetId)) (n done : ℕ) (old new : Walk) (nets : List NetId) → IsWalk columns n old done → HasMarked old new nets → (k : ℕ) → is_marked new.marks.items k ≡ true → has_id new.listed.items k ≡ true
listed_more columns n done old new nets w h k e =
    ap (λ ns. has_id ns k) h.listed
    ∙ (has_id-append old.listed.items h.added k
    ∙ ⊎_elim (λ (y : is_marked old.marks.items k ≡ true). or_left _ _ (w.listed k y))
    (λ (no : is_marked old.marks.items k ≡ false). or_right (has_id old.listed.items k) _ (h.fresh k e no))
    (cases_Bool (is_marked old.marks.items k)))

-- what is listed was so, or is a column of the net
listed_was : (columns : List (List NetId)) (old new : Walk) (nets : List NetId) → HasMarked old new nets → (k : ℕ) → has_id new.listed.items k ≡ true → (has_id old.listed.items k ≡ true) ⊎ (has_id nets k ≡ true)
listed_was columns old new nets h k e =
    ⊎_elim (λ (y : has_id old.listed.items k ≡ true). inl y) (λ (y : has_id h.added k ≡ true). inr (h.only k y))
    (in_either old.listed.items h.added k (ap (λ ns. has_id ns k) (sym h.listed) ∙ e))

pub walk_next : (columns : List (List NetId)) (n done : ℕ) (old new : Walk) (c : NetId) → AllBelow columns → IsWalk columns n old done → slice_get old.listed.items done ≡ Some c → HasMarked old new (row columns c.0) → IsWalk columns n new (done + 1)
walk_next columns n done old new c below w at h =
    let here : IsAbove (reads_by columns) c.0 n = w.above c.0 (any_passes_from_place (λ (x : NetId). nat_eq x.0 c.0) old.listed.items done c at (eq-eqb c.0 c.0 refl)) in
    record {
      long = h.long ∙ w.long;
      below = λ k e. ⊎_elim (λ y. w.below k y) (λ y. column_below columns c.0 k below y) (listed_was columns old new (row columns c.0) h k e);
      first = λ m e. h.marks m ∙ or_left _ _ (w.first m e);
      behind = behind_more columns n done old new c w at h;
      listed = listed_more columns n done old new (row columns c.0) w h;
      above = λ k e. ⊎_elim (λ y. w.above k y) (λ y. above_more (reads_by columns) n c.0 k here y) (listed_was columns old new (row columns c.0) h k e);
    }

-- ---- the end

pub walk_all : (columns : List (List NetId)) (n done : ℕ) (walk : Walk) → IsWalk columns n walk done → length walk.listed.items ≤ done → AreAbove columns n walk.marks.items
walk_all columns n done walk w high = record {
  long = w.long;
  first = w.first;
  closed = λ k m e r.
      let f = found (λ (c : NetId). nat_eq c.0 k) walk.listed.items (w.listed k e) in
      let l = slice_get_within walk.listed.items f.place f.item f.at in
      w.behind f.place m f.item (omega arith) f.at (ap (λ x. has_id (row columns x) m) (eqb-true f.item.0 k f.passes) ∙ r);
  above = λ k e. w.above k (w.listed k e);
}

-- ---- the net at a place of the list, as it is read

pub listed_below : (columns : List (List NetId)) (n done : ℕ) (walk : Walk) (c : NetId) → IsWalk columns n walk done → done < length walk.listed.items → c ≡ get_or walk.listed.items done c → c.0 < length columns
listed_below columns n done walk c w inside is =
    w.below c.0 (any_passes_from_place (λ (x : NetId). nat_eq x.0 c.0) walk.listed.items done c (slice_get_read walk.listed.items (length walk.listed.items) done c refl inside is) (eq-eqb c.0 c.0 refl))

pub columns_within : (columns : List (List NetId)) (n size : ℕ) (nets : List NetId) → AllBelow columns → n < length columns → nets ≡ row columns n → size ≡ length columns → All (λ (c : NetId). c.0 < size) nets
columns_within columns n size nets below low is s =
    let P : ℕ → Type 0 = λ k. All (λ (c : NetId). c.0 < k) nets in
    let Q : List NetId → Type 0 = λ ns. All (λ (c : NetId). c.0 < length columns) ns in
    subst P (sym s) (subst Q (sym is) (row_below columns n below low))

-- ---- whether a net is above itself, by the marks of the nets above it

above_marked : (columns : List (List NetId)) (n k : ℕ) (marks : List Bool) → AreAbove columns n marks → (path : List ℕ) → GoesOn (reads_by columns) k n path → is_marked marks k ≡ true
above_marked columns n k marks a [] g = a.first k g
above_marked columns n k marks a (m ∷ path) g = goes_inside columns n marks a path m k (a.first m g.0) g.1

pub marks_tell : (columns : List (List NetId)) (n : ℕ) (marks : List Bool) (b : Bool) → AreAbove columns n marks → b ≡ is_marked marks n → MatchBool b (IsAbove (reads_by columns) n n) (IsAbove (reads_by columns) n n → ⊥)
marks_tell columns n marks true a e = a.above n (sym e)
marks_tell columns n marks false a e = λ t. false≢true (e ∙ above_marked columns n n marks a t.path t.goes)
