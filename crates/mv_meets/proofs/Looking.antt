-- The best common part so far, and one that is looked at.
use Rattle.std.proofs.Common.{◌≡◌, ◌∙◌, ℕ, ◌-◌, ◌*◌, ◌<◌, ◌≤◌, ◌&&◌, true, false, nat_lt, nat_eq, Option, Some, None, List, length, inl, inr, refl, sym, ap, subst, arith}
use Rattle.std.proofs.lemmas.Bool.{cases_lt, false≢true, and_parts, not-false, not-true, or_cases, or_parts, ltb-false, ltb-true, eq-eqb, eqb-true}
use Rattle.std.specs.Ordering.{is_lt, ordering_reverse}
use Rattle.std.specs.declared.cmp.Ordering.{Ordering}
use Rattle.std.specs.declared.cmp.Ordering.TheVariants.{Less, Equal, Greater}
use Rattle.mv_cover.specs.Literal.{Lit}
use Rattle.mv_kernels.specs.Order.{cube_cmp}
use Rattle.mv_kernels.proofs.Orders.{cube_total}
use Rattle.mv_meets.specs.Meets.{saving, IsMeet}
use Rattle.mv_meets.specs.Search.{can_win, is_ahead, leading, saved_by, AreHolding, HasPair, Improves, IsBehind, IsFound, IsNoBetter, Looked, Saves}
use Rattle.mv_meets.specs.declared.found.Found.{Found}
use Rattle.mv_meets.proofs.Pairs.{meets_pair, pair_meets}
use Rattle.mv_meets.proofs.Places.{holding_below, holding_count}

lt_is : (r : Ordering) → is_lt r ≡ true → r ≡ Less
lt_is Less e = refl
lt_is Equal e = absurd (false≢true e)
lt_is Greater e = absurd (false≢true e)

flips : (a b : List Lit) → cube_cmp a b ≡ Greater → cube_cmp b a ≡ Less
flips a b e = cube_total.antisymm b a ∙ ap ordering_reverse e

flips_back : (a b : List Lit) → cube_cmp a b ≡ Less → cube_cmp b a ≡ Greater
flips_back a b e = cube_total.antisymm b a ∙ ap ordering_reverse e

-- what wasn't better before is no better than what is ahead
pub ahead_keeps : (cubes : List (List Lit)) (d : List Lit) (saved : ℕ) (best : Option Found) (e : List Lit) (new : Found) → new.cube ≡ d → new.saved ≡ saved → 0 < saved → is_ahead best saved d ≡ true → IsNoBetter cubes best e → IsBehind cubes new e
ahead_keeps cubes d saved None e new cube_is saved_is some t h = record { most = omega (arith, h); least = λ same g. omega (arith, h, same, saved_is, some) }
ahead_keeps cubes d saved (Some f) e new cube_is saved_is some t h =
    elim (or_cases (nat_lt f.saved saved) (nat_eq saved f.saved && is_lt (cube_cmp d f.cube)) t) [
      | inl more ↦
          let high = ltb-true f.saved saved more in
          let most = h.most in
          record { most = omega (arith, most, high, saved_is); least = λ same g. omega (arith, most, high, same, saved_is) }
      | inr as_much ↦
          let parts = and_parts (nat_eq saved f.saved) (is_lt (cube_cmp d f.cube)) as_much in
          let tied : saved ≡ f.saved = eqb-true saved f.saved parts.0 in
          let less = lt_is (cube_cmp d f.cube) parts.1 in
          let most = h.most in
          record {
            most = omega (arith, most, tied, saved_is);
            least = λ same g.
                let first : cube_cmp e d ≡ Less = flips d e (subst (λ c. cube_cmp c e ≡ Greater) cube_is g) in
                h.least (same ∙ (saved_is ∙ tied)) (flips_back e f.cube (cube_total.trans e d f.cube first less));
          }
    ]

module _ (cubes : List (List Lit)) where
  -- ---- what isn't better

  -- what saves no more than what can't win
  pub no_win : (best : Option Found) (n x : ℕ) (e : List Lit) → can_win best n x ≡ false → saving e cubes ≤ saved_by n x → IsNoBetter cubes best e
  no_win None n x e t less = let high = ltb-false 0 (saved_by n x) t in omega (arith, less, high)
  no_win (Some f) n x e t less =
      let low = ltb-true (saved_by n x) f.saved (not-false (nat_lt (saved_by n x) f.saved) t) in
      record { most = omega (arith, less, low); least = λ same g. omega (arith, less, low, same) }

  no_cubes : (n x : ℕ) → (0 < n → ⊥) → saved_by n x ≡ 0
  no_cubes n x none =
      let zeroed : n ≡ 0 = omega (arith, none) in
      let nothing : n * (x - 1) ≡ 0 = ap (λ k. k * (x - 1)) zeroed ∙ omega arith in
      omega (arith, nothing)

  -- what may win is part of a cube
  pub wins_some : (best : Option Found) (n x : ℕ) → Saves best → can_win best n x ≡ true → 0 < n
  wins_some best n x f t =
      elim (cases_lt 0 n) [
        | inl some ↦ some
        | inr none ↦ absurd (loses best f t (no_cubes n x (λ some. omega (arith, none, some))))
      ]
    where
      loses : (best : Option Found) → Saves best → can_win best n x ≡ true → saved_by n x ≡ 0 → ⊥
      loses None s t nothing = let high = ltb-true 0 (saved_by n x) t in omega (arith, nothing, high)
      loses (Some f) some t nothing =
          let most = ltb-false (saved_by n x) f.saved (not-true (nat_lt (saved_by n x) f.saved) t) in
          omega (arith, nothing, most, some)

  -- what leads saves something
  pub leading_saves : (given found : Option Found) → Saves given → IsFound cubes found → Saves (leading given found)
  leading_saves given None s f = s
  leading_saves given (Some g) s f = f.some

  module _ (d : List Lit) (saved : ℕ) (is : saving d cubes ≡ saved) where
    -- what isn't ahead
    not_ahead : (best : Option Found) → is_ahead best saved d ≡ false → IsNoBetter cubes best d
    not_ahead None t = let high = ltb-false 0 saved t in omega (arith, is, high)
    not_ahead (Some f) t =
        let parts = or_parts (nat_lt f.saved saved) (nat_eq saved f.saved && is_lt (cube_cmp d f.cube)) t in
        let high = ltb-false f.saved saved parts.0 in
        record {
          most = omega (arith, is, high);
          least = λ same g.
              let tied : nat_eq saved f.saved ≡ true = eq-eqb saved f.saved (sym is ∙ same) in
              let less : is_lt (cube_cmp d f.cube) ≡ true = ap is_lt (flips f.cube d g) in
              false≢true (sym parts.1 ∙ (ap (λ b. b && is_lt (cube_cmp d f.cube)) tied ∙ less));
        }

    ahead_some : (best : Option Found) → Saves best → is_ahead best saved d ≡ true → 0 < saved
    ahead_some None s t = ltb-true 0 saved t
    ahead_some (Some f) some t =
        elim (or_cases (nat_lt f.saved saved) (nat_eq saved f.saved && is_lt (cube_cmp d f.cube)) t) [
          | inl more ↦ let high = ltb-true f.saved saved more in omega (arith, high)
          | inr as_much ↦
              let same = eqb-true saved f.saved (and_parts (nat_eq saved f.saved) (is_lt (cube_cmp d f.cube)) as_much).0 in
              omega (arith, same, some)
        ]

  -- ---- a look

  same_improves : (best : Option Found) → Improves best best
  same_improves best = record { keeps = λ ks e h. h }

  module _ (d : List Lit) (given old : Option Found) (f : IsFound cubes old) where
    pub look_short : length d < 2 → Looked cubes d given old old
    look_short short = record { found = f; improves = same_improves (leading given old); here = λ m. let two = m.two in absurd (omega (arith, two, short)) }

    module _ (places : List ℕ) (a : AreHolding cubes d places) where
      pub look_none : (HasPair cubes places places d → ⊥) → Looked cubes d given old old
      look_none none = record { found = f; improves = same_improves (leading given old); here = λ m. absurd (none (meets_pair cubes d places a m)) }

      module _ (saved : ℕ) (e : saved ≡ saved_by (length places) (length d)) where
        saved_is : saving d cubes ≡ saved
        saved_is = sym (e ∙ ap (λ n. saved_by n (length d)) (holding_count cubes d places a))

        pub look_less : is_ahead (leading given old) saved d ≡ false → Looked cubes d given old old
        look_less t = record { found = f; improves = same_improves (leading given old); here = λ m. not_ahead d saved saved_is (leading given old) t }

        pub look_new : (new : Found) → Saves given → is_ahead (leading given old) saved d ≡ true → 2 ≤ length d → HasPair cubes places places d → new.cube ≡ d → new.saved ≡ saved → Looked cubes d given old (Some new)
        look_new new s t two pair cube_is now_is =
            let some = ahead_some d saved saved_is (leading given old) (leading_saves given old s f) t in
            let same : saving new.cube cubes ≡ new.saved = ap (λ c. saving c cubes) cube_is ∙ (saved_is ∙ sym now_is) in
            record {
              found = record {
                meet = subst (IsMeet cubes) (sym cube_is) (pair_meets cubes d places (holding_below cubes d places a) two pair);
                saved_is = same;
                some = omega (arith, some, now_is);
              };
              improves = record { keeps = λ ks c h. ahead_keeps ks d saved (leading given old) c new cube_is now_is some t h };
              here = λ m. record {
                most = omega (arith, saved_is, now_is);
                least = λ tied g. absurd (itself d (subst (λ c. cube_cmp c d ≡ Greater) cube_is g));
              };
            }
          where
            itself : (c : List Lit) → cube_cmp c c ≡ Greater → ⊥
            itself c g = differs (sym (flips c c g) ∙ g)
              where
                differs : Less ≡ Greater → ⊥
                differs e = false≢true (sym (ap is_lt e))
