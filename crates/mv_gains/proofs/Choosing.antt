-- The best candidate so far.
use Rattle.std.proofs.Common.{◌≡◌, ◌∙◌, ℕ, ◌+◌, ◌<◌, ◌&&◌, true, false, nat_lt, nat_eq, Option, Some, None, List, [], length, take, get_or, All, inl, inr, refl, sym, ap, subst, arith}
use Rattle.std.proofs.lemmas.Bool.{cases_Bool, false≢true, ltb-true, ltb-false, eqb-true, eq-eqb, and_parts, and_from, false_from_ne_true}
use Rattle.std.proofs.lemmas.Cmp.{tied_itself}
use Rattle.std.proofs.lemmas.List.{get_or_default}
use Rattle.std.proofs.lemmas.List.Elements.{All-more, All-weaker}
use Rattle.std.proofs.lemmas.Option.{slice_get_read, get_or_from_slice_get}
use Rattle.std.specs.Option.{MatchOption}
use Rattle.std.specs.Ordering.{is_lt, ordering_reverse}
use Rattle.std.specs.declared.cmp.Ordering.{Ordering}
use Rattle.std.specs.declared.cmp.Ordering.TheVariants.{Less, Equal, Greater}
use Rattle.mv_cover.specs.Literal.{Lit}
use Rattle.mv_kernels.specs.Order.{cubes_cmp}
use Rattle.mv_kernels.proofs.Orders.{cubes_total}
use Rattle.mv_divide.specs.declared.part.Part.{Part}
use Rattle.mv_gains.specs.declared.best.Best.{Best}
use Rattle.mv_gains.specs.Best.{IsSaved, IsOnlySaved, IsNoBetter, IsBestOf, SavesNothing, better, comes_before}

pub less_is : (r : Ordering) → is_lt r ≡ true → r ≡ Less
less_is Less h = refl
less_is Equal h = absurd (false≢true h)
less_is Greater h = absurd (false≢true h)

-- what comes before another has it behind
behind : (a b : List (List Lit)) → cubes_cmp a b ≡ Less → cubes_cmp b a ≡ Greater
behind a b l = cubes_total.antisymm b a ∙ ap ordering_reverse l

before : (a b : List (List Lit)) → cubes_cmp a b ≡ Greater → cubes_cmp b a ≡ Less
before a b g = cubes_total.antisymm b a ∙ ap ordering_reverse g

-- nothing is behind itself
not_behind_itself : (a : List (List Lit)) → cubes_cmp a a ≡ Greater → ⊥
not_behind_itself a g = let e : Equal ≡ Greater = sym (tied_itself cubes_total a) ∙ g in absurd (cc)

module _ (tables : List (List Part)) where
  pub itself : (x : List (List Lit)) (saved : ℕ) → IsOnlySaved tables x saved → IsNoBetter tables x saved x
  itself x saved o = record { most = λ s h. omega (arith, o.only s h); least = λ h g. not_behind_itself x g }

  pub over_nothing : (x d : List (List Lit)) (saved : ℕ) → 0 < saved → SavesNothing tables d → IsNoBetter tables x saved d
  over_nothing x d saved some n = record { most = λ s h. omega (arith, n.none s h); least = λ h g. absurd (omega (arith, n.none saved h, some)) }

  -- what saves more is no worse than what the old one is no worse than
  pub over_more : (old x d : List (List Lit)) (was saved : ℕ) → was < saved → IsNoBetter tables old was d → IsNoBetter tables x saved d
  over_more old x d was saved more n = record {
    most = λ s h. omega (arith, n.most s h, more);
    least = λ h g. absurd (omega (arith, n.most saved h, more));
  }

  -- nor is what saves as much and comes before the old one
  pub over_before : (old x d : List (List Lit)) (was saved : ℕ) → saved ≡ was → cubes_cmp x old ≡ Less → IsNoBetter tables old was d → IsNoBetter tables x saved d
  over_before old x d was saved same less n = record {
    most = λ s h. omega (arith, n.most s h, same);
    least = λ h g. n.least (subst (IsSaved tables d) same h) (behind d old (cubes_total.trans d x old (before x d g) less));
  }

  -- a candidate by which the old one stays is no better than it
  pub old_stays : (old x : List (List Lit)) (was saved : ℕ) → IsOnlySaved tables x saved → nat_lt was saved ≡ false → (saved ≡ was → is_lt (cubes_cmp x old) ≡ false) → IsNoBetter tables old was x
  old_stays old x was saved o low no_before = record {
    most = λ s h. let at_most = ltb-false was saved low in omega (arith, o.only s h, at_most);
    least = λ h g. false≢true (sym (no_before (sym (o.only was h))) ∙ ap is_lt (before old x g));
  }

  module _ (list : List (List (List Lit))) (i : ℕ) (x : List (List Lit)) (saved : ℕ) (low : i < length list) (at : x ≡ get_or list i x) (o : IsOnlySaved tables x saved) where
    abbrev Seen : ℕ → Option Best → Type 0
    Seen n best = MatchOption best (All (SavesNothing tables) (take n list)) (IsBestOf tables list (take n list))

    one_more : (P : List (List Lit) → Type 0) → All P (take i list) → P x → All P (take (i + 1) list)
    one_more P all p = All-more P list i x low all (subst P at p)

    chosen : 0 < saved → All (IsNoBetter tables x saved) (take i list) → IsBestOf tables list (take (i + 1) list) (record { place = i; saved = saved })
    chosen some all = record {
      divisor = x;
      at = slice_get_read list (length list) i x refl low at;
      saved = o.is;
      some = some;
      each = one_more (IsNoBetter tables x saved) all (itself x saved o);
    }

    after_none : All (SavesNothing tables) (take i list) → Seen (i + 1) (better list None (record { place = i; saved = saved }))
    after_none all =
        elim (cases_Bool (nat_lt 0 saved)) [
          | inl t ↦
              let some = ltb-true 0 saved t in
              rw t (chosen some (All-weaker (SavesNothing tables) (IsNoBetter tables x saved) (λ d n. over_nothing x d saved some n) (take i list) all))
          | inr f ↦
              let none = ltb-false 0 saved f in
              rw f (one_more (SavesNothing tables) all (record { none = λ s h. omega (arith, o.only s h, none) }))
        ]

    after_some : (old : Best) → IsBestOf tables list (take i list) old → Seen (i + 1) (better list (Some old) (record { place = i; saved = saved }))
    after_some old b =
        let first : comes_before list i old.place ≡ is_lt (cubes_cmp x b.divisor) =
        λ j. is_lt (cubes_cmp ((get_or_default list i [] x low ∙ sym at) j) (get_or_from_slice_get list old.place b.divisor [] b.at j)) in
        elim (cases_Bool (nat_lt old.saved saved)) [
          | inl t ↦
              let more = ltb-true old.saved saved t in
              rw t
              (chosen (omega (arith, more, b.some))
              (All-weaker (IsNoBetter tables b.divisor old.saved) (IsNoBetter tables x saved) (λ d n. over_more b.divisor x d old.saved saved more n) (take i list) b.each))
          | inr f ↦
              elim (cases_Bool (nat_eq saved old.saved && comes_before list i old.place)) [
                | inl u ↦
                    let both = and_parts (nat_eq saved old.saved) (comes_before list i old.place) u in
                    let same = eqb-true saved old.saved both.0 in
                    let less = less_is (cubes_cmp x b.divisor) (sym first ∙ both.1) in
                    rw (f, u)
                    (chosen (omega (arith, same, b.some))
                    (All-weaker (IsNoBetter tables b.divisor old.saved) (IsNoBetter tables x saved) (λ d n. over_before b.divisor x d old.saved saved same less n) (take i list) b.each))
                | inr v ↦
                    rw (f, v)
                    (record {
                      divisor = b.divisor;
                      at = b.at;
                      saved = b.saved;
                      some = b.some;
                      each =
                          one_more (IsNoBetter tables b.divisor old.saved) b.each
                          (old_stays b.divisor x old.saved saved o f (λ same.
                          false_from_ne_true (is_lt (cubes_cmp x b.divisor)) (λ t.
                          false≢true (sym v ∙ and_from (nat_eq saved old.saved) (comes_before list i old.place) (eq-eqb saved old.saved same) (first ∙ t)))));
                    })
              ]
        ]

    pub best_more : (best : Option Best) → Seen i best → Seen (i + 1) (better list best (record { place = i; saved = saved }))
    best_more None h = after_none h
    best_more (Some old) h = after_some old h
