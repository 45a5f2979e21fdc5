-- Values that are asked of a solver, one after the other.
use Rattle.std.proofs.Common.{◌≡◌, ◌∙◌, ℕ, zero, suc, ◌+◌, ◌<◌, ◌≤◌, List, [], ◌∷◌, ◌++◌, Some, length, map, get_or, drop, refl, sym, ap, subst, arith, append_assoc}
use Rattle.std.specs.Prelude.{◌↔◌, slice_get}
use Rattle.std.specs.List.{All, AllByRecursion, zip}
use Rattle.std.proofs.lemmas.List.{append-nil, at_drop_more, at_drop_all, get_or-map, length-map}
use Rattle.std.proofs.lemmas.List.Elements.{recursion_from_All}
use Rattle.std.proofs.lemmas.Slice.Zip.{AllZip-long}
use Rattle.mv_base.specs.declared.number.NetId.{NetId}
use Rattle.mv_base.specs.declared.number.Value.{Value}
use Rattle.mv_net.specs.declared.parts.FlatLatch.{FlatLatch}
use Rattle.mv_net.specs.declared.parts.NetParts.{NetParts}
use Rattle.mv_net.specs.Formed.{WellFormed, latch_outputs}
use Rattle.mv_net.specs.Order.{IsOrder}
use Rattle.mv_solve.specs.Asked.{HasAsked}
use Rattle.mv_solve.specs.Search.{Search}
use Rattle.mv_trace.specs.declared.run.RunStep.{RunStep}
use Rattle.mv_trace.specs.Given.{IsGiven, IsStepOf, IsValueOf, column_values, first_values, given_values, next_values, own_values, reset_value, reset_values}
use Rattle.mv_trace.proofs.Lawful.{given_lawful}
use Rattle.mv_tracing.specs.Giving.{AreOrdered, AsksFor, Gives, HasValues}

-- ---- lists of values

values_both : (at : ℕ → ℕ) (a b : List (ℕ × ℕ)) → HasValues at a → HasValues at b → HasValues at (a ++ b)
values_both at [] b p q = q
values_both at (x ∷ a) b p q = (p.0, values_both at a b p.1 q)

values_left : (at : ℕ → ℕ) (a b : List (ℕ × ℕ)) → HasValues at (a ++ b) → HasValues at a
values_left at [] b p = tt
values_left at (x ∷ a) b p = (p.0, values_left at a b p.1)

values_right : (at : ℕ → ℕ) (a b : List (ℕ × ℕ)) → HasValues at (a ++ b) → HasValues at b
values_right at [] b p = p
values_right at (x ∷ a) b p = values_right at a b p.1

pub ordered_left : (order : List NetId) (a b : List (ℕ × ℕ)) → AreOrdered order (a ++ b) → AreOrdered order a
ordered_left order [] b p = tt
ordered_left order (x ∷ a) b p = (p.0, ordered_left order a b p.1)

pub ordered_right : (order : List NetId) (a b : List (ℕ × ℕ)) → AreOrdered order (a ++ b) → AreOrdered order b
ordered_right order [] b p = p
ordered_right order (x ∷ a) b p = ordered_right order a b p.1

-- ---- what is asked

pub gives_none : (a : Search) → Gives a a []
gives_none a = record { order = refl; asked = λ at. (λ h. (h, tt), λ h. h.0) }

pub gives_one : (a b : Search) (n v : ℕ) → b.order ≡ a.order → ((at : ℕ → ℕ) → HasAsked b.order b.asked at ↔ (HasAsked a.order a.asked at × (at n ≡ v))) → Gives a b ((n, v) ∷ [])
gives_one a b n v same asked = record {
  order = same;
  asked = λ at. (λ h. let p = (asked at).0 h in (p.0, (p.1, tt)), λ h. (asked at).1 (h.0, h.1.0));
}

pub gives_then : (a b c : Search) (ps qs : List (ℕ × ℕ)) → Gives a b ps → Gives b c qs → Gives a c (ps ++ qs)
gives_then a b c ps qs g h = record {
  order = h.order ∙ g.order;
  asked = λ at. (
    λ k. let q = (h.asked at).0 k in let p = (g.asked at).0 q.0 in (p.0, values_both at ps qs p.1 q.1),
    λ k. (h.asked at).1 ((g.asked at).1 (k.0, values_left at ps qs k.1), values_right at ps qs k.1),
  );
}

-- the same where nothing was asked before
asks_for : (a b c : Search) (ps : List (ℕ × ℕ)) → b.order ≡ a.order → ((at : ℕ → ℕ) → HasAsked b.order b.asked at) → Gives b c ps → AsksFor a c ps
asks_for a b c ps same nothing g = record {
  order = g.order ∙ same;
  asked = λ at. (λ k. ((g.asked at).0 k).1, λ k. (g.asked at).1 (nothing at, k));
}

-- ---- values that are asked in a loop

-- some values were asked, and these are left, of all of them
pub record Left (first now : Search) (rest whole : List (ℕ × ℕ)) : Type 0 where
  pub done : List (ℕ × ℕ)
  pub all : done ++ rest ≡ whole
  pub gives : Gives first now done
  pub held : AreOrdered now.order rest

pub left_none : (a : Search) (ps : List (ℕ × ℕ)) → AreOrdered a.order ps → Left a a ps ps
left_none a ps held = record { done = []; all = refl; gives = gives_none a; held = held }

pub left_more : (a b c : Search) (ps qs rest whole : List (ℕ × ℕ)) → Left a b rest whole → rest ≡ ps ++ qs → Gives b c ps → Left a c qs whole
left_more a b c ps qs rest whole l is g = record {
  done = l.done ++ ps;
  all = append_assoc l.done ps qs ∙ (ap (λ r. l.done ++ r) (sym is) ∙ l.all);
  gives = gives_then a b c l.done ps l.gives g;
  held = subst (λ o. AreOrdered o qs) (sym g.order) (ordered_right b.order ps qs (subst (AreOrdered b.order) is l.held));
}

pub left_held : (a b : Search) (ps qs rest whole : List (ℕ × ℕ)) → Left a b rest whole → rest ≡ ps ++ qs → AreOrdered b.order ps
left_held a b ps qs rest whole l is = ordered_left b.order ps qs (subst (AreOrdered b.order) is l.held)

pub left_all : (a b : Search) (rest whole : List (ℕ × ℕ)) → Left a b rest whole → rest ≡ [] → Gives a b whole
left_all a b rest whole l none =
    subst (Gives a b) (sym (append-nil l.done) ∙ (ap (λ r. l.done ++ r) (sym none) ∙ l.all)) l.gives

-- ---- the values that are left

-- the numbers of values
abbrev pub places : List Value → List ℕ
places values = map (λ (v : Value). v.0) values

place_at : (values : List Value) (i : ℕ) (e : Value) → i < length values → get_or (places values) i 0 ≡ (get_or values i e).0
place_at values i e low = get_or-map (λ (v : Value). v.0) values i e 0 low

places_long : (values : List Value) → length (places values) ≡ length values
places_long values = length-map values (λ (v : Value). v.0)

module _ {X : Type 0} (number : X → ℕ) (xs : List X) (values : List Value) (i : ℕ) where
  pub pairs_more : (d : X) (e : Value) → length values ≡ length xs → i < length xs
      → zip (map number (drop i xs)) (drop i (places values)) ≡ (number (get_or xs i d), (get_or values i e).0) ∷ zip (map number (drop (i + 1) xs)) (drop (i + 1) (places values))
  pairs_more d e long low =
      let same = places_long values in
      at_drop_more (λ ys. zip (map number ys) (drop i (places values))) xs i d low
      ∙ (at_drop_more (λ ws. zip (number (get_or xs i d) ∷ map number (drop (i + 1) xs)) ws) (places values) i 0 (omega arith)
      ∙ ap (λ v. (number (get_or xs i d), v) ∷ zip (map number (drop (i + 1) xs)) (drop (i + 1) (places values))) (place_at values i e (omega arith)))

  pub pairs_none : length xs ≤ i → zip (map number (drop i xs)) (drop i (places values)) ≡ []
  pairs_none high = at_drop_all (λ ys. zip (map number ys) (drop i (places values))) xs i high

module _ (ls : List FlatLatch) (values : List Value) (i : ℕ) where
  pub resets_more : (d : FlatLatch) (e : Value) → length values ≡ length ls → i < length ls
      → reset_values (drop i ls) (drop i (places values)) ≡ reset_value (get_or ls i d).reset (get_or values i e).0 ++ reset_values (drop (i + 1) ls) (drop (i + 1) (places values))
  resets_more d e long low =
      let same = places_long values in
      at_drop_more (λ ms. reset_values ms (drop i (places values))) ls i d low
      ∙ (at_drop_more (λ ws. reset_values (get_or ls i d ∷ drop (i + 1) ls) ws) (places values) i 0 (omega arith)
      ∙ ap (λ v. reset_value (get_or ls i d).reset v ++ reset_values (drop (i + 1) ls) (drop (i + 1) (places values))) (place_at values i e (omega arith)))

  pub resets_none : length ls ≤ i → reset_values (drop i ls) (drop i (places values)) ≡ []
  resets_none high = at_drop_all (λ ms. reset_values ms (drop i (places values))) ls i high

-- ---- the parts of a step

-- values that are as many as the nets that they are asked of
pub as_many : {X : Type 0} (xs ys : List X) (values : List Value) (vs : List ℕ) → xs ≡ ys → places values ≡ vs → length vs ≡ length ys → length values ≡ length xs
as_many xs ys values vs nets same long = sym (places_long values) ∙ (ap length same ∙ (long ∙ ap length (sym nets)))

module _ (net : NetParts) (s : RunStep) (fits : IsStepOf net s) where
  pub inputs_long : length s.inputs ≡ length net.inputs
  inputs_long = AllZip-long (IsValueOf net.nets) net.inputs s.inputs fits.inputs

  pub latches_long : length s.latches ≡ length net.latches
  latches_long = AllZip-long (IsValueOf net.nets) (latch_outputs net.latches) s.latches fits.latches ∙ length-map net.latches (λ (l : FlatLatch). l.output)

  pub outputs_long : length s.outputs ≡ length net.outputs
  outputs_long = AllZip-long (IsValueOf net.nets) net.outputs s.outputs fits.outputs

-- values of inputs, of latches and of outputs
abbrev pub input_values : NetParts → RunStep → List (ℕ × ℕ)
input_values net s = zip (map (λ (n : NetId). n.0) net.inputs) s.inputs

abbrev pub latch_values : NetParts → RunStep → List (ℕ × ℕ)
latch_values net s = zip (map (λ (l : FlatLatch). l.output.0) net.latches) s.latches

abbrev pub output_values : NetParts → RunStep → List (ℕ × ℕ)
output_values net s = zip (map (λ (n : NetId). n.0) net.outputs) s.outputs

-- no reset values are asked at a step behind the first
pub none_first : (net : NetParts) (k : ℕ) (s : RunStep) → (k ≡ 0 → ⊥) → first_values net k s ≡ []
none_first net zero s behind = absurd (behind refl)
none_first net (suc k) s behind = refl

-- ---- what a step gives is held, and so asked

-- a run's values are given to nets that are held
step_ordered : (net : NetParts) (run : List RunStep) (k : ℕ) (order : List NetId) → WellFormed net → IsOrder net.nets order → All (IsStepOf net) run → AreOrdered order (given_values net run k)
step_ordered net run k order formed is fits =
    all_held (given_values net run k) (recursion_from_All (IsGiven net.nets) (given_values net run k) (given_lawful net run k formed fits))
  where
    all_held : (pairs : List (ℕ × ℕ)) → AllByRecursion (IsGiven net.nets) pairs → AreOrdered order pairs
    all_held [] h = tt
    all_held (p ∷ pairs) h = (is.members p.0 ∙ h.0.held, all_held pairs h.1)

-- what a step gives, in its parts
given_parts : (net : NetParts) (run : List RunStep) (k : ℕ) (s : RunStep) → slice_get run k ≡ Some s → given_values net run k ≡ (column_values net s ++ first_values net k s) ++ next_values net (slice_get run (k + 1))
unfolding given_values
given_parts net run k s there = ap (λ o. own_values net k o ++ next_values net (slice_get run (k + 1))) there

-- each part is given to nets that are held
pub record PartsOrdered (order : List NetId) (net : NetParts) (run : List RunStep) (k : ℕ) (s : RunStep) : Type 0 where
  pub columns : AreOrdered order (column_values net s)
  pub first : AreOrdered order (first_values net k s)
  pub next : AreOrdered order (next_values net (slice_get run (k + 1)))

module _ (net : NetParts) (run : List RunStep) (k : ℕ) (s : RunStep) (there : slice_get run k ≡ Some s) where
  pub parts_ordered : (order : List NetId) → WellFormed net → IsOrder net.nets order → All (IsStepOf net) run → PartsOrdered order net run k s
  parts_ordered order formed is fits =
      let own = column_values net s ++ first_values net k s in
      let next = next_values net (slice_get run (k + 1)) in
      let all : AreOrdered order (own ++ next) = subst (AreOrdered order) (given_parts net run k s there) (step_ordered net run k order formed is fits) in
      let mine : AreOrdered order own = ordered_left order own next all in
      record {
        columns = ordered_left order (column_values net s) (first_values net k s) mine;
        first = ordered_right order (column_values net s) (first_values net k s) mine;
        next = ordered_right order own next all;
      }

  -- they are asked one after the other
  pub parts_asked : (a b c d e : Search) → b.order ≡ a.order → ((at : ℕ → ℕ) → HasAsked b.order b.asked at) → Gives b c (column_values net s) → Gives c d (first_values net k s) → Gives d e (next_values net (slice_get run (k + 1)))
      → AsksFor a e (given_values net run k)
  parts_asked a b c d e same nothing columns first next =
      let own = column_values net s ++ first_values net k s in
      let rest = next_values net (slice_get run (k + 1)) in
      let all : Gives b e (own ++ rest) = gives_then b d e own rest (gives_then b c d (column_values net s) (first_values net k s) columns first) next in
      subst (AsksFor a e) (sym (given_parts net run k s there)) (asks_for a b e (own ++ rest) same nothing all)
