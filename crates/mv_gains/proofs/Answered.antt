-- What is known of the parts that begin with each symbol: while tables are put anew, and while symbols are searched.
use Rattle.std.proofs.Common.{◌≡◌, ◌∙◌, ℕ, ◌+◌, ◌<◌, ◌≤◌, ◌&&◌, ◌||◌, ◌⊎◌, Bool, true, false, nat_lt, nat_eq, Option, Some, None, List, [], ◌∷◌, ◌++◌, length, set, get_or, All, Contains, inl, inr, refl, sym, ap, subst, arith}
use Rattle.std.proofs.lemmas.Bool.{cases_Bool, cases_lt, false≢true, or_cases, or_parts, ltb-false, eq-eqb, cond-true, cond-false}
use Rattle.std.proofs.lemmas.List.Elements.{All-nil, All-cons, All-head, All-tail, All-push, All-set, All-append, All-contains, Contains-get_or}
use Rattle.std.proofs.lemmas.Map.Views.{Contains-keys_from_lookup}
use Rattle.std.proofs.lemmas.Option.{slice_get-get_or}
use Rattle.std.specs.Option.{unwrap_or}
use Rattle.std.specs.Prelude.{IsSome, slice_get}
use Rattle.std.specs.Ordering.{is_lt, ordering_reverse}
use Rattle.std.specs.declared.cmp.Ordering.{Ordering}
use Rattle.std.specs.declared.cmp.Ordering.TheVariants.{Less, Equal, Greater}
use Rattle.std.specs.Map.{lookup}
use Rattle.indexmap.specs.IndexMap.{keys, IsUnchanged, Updates}
use Rattle.mv_cover.specs.Literal.{Lit}
use Rattle.mv_cover.specs.Cubes.{IsCube}
use Rattle.mv_cover.specs.Equal.{lit_eq}
use Rattle.mv_cover.specs.Keys.{lit_eq-Decides}
use Rattle.mv_kernels.specs.Symbols.{has_symbol}
use Rattle.mv_kernels.specs.Order.{cube_cmp}
use Rattle.mv_kernels.proofs.Lists.{Contains-none, Contains-first, Contains-cons_cases}
use Rattle.mv_kernels.proofs.Orders.{cube_total}
use Rattle.mv_kernels.proofs.Quotients.{each_at, has_symbol-append, in_symbol, symbol_in}
use Rattle.mv_meets.specs.Meets.{at, saving, IsMeet, IsBestMeet, NoMeetSaves}
use Rattle.mv_meets.specs.Search.{is_ahead, leading, Begins, Improves, IsBehind, IsFound, IsNoBetter, IsSaver, IsSought, Saves}
use Rattle.mv_meets.specs.declared.found.Found.{Found}
use Rattle.mv_meets.specs.declared.search.Sought.TheVariants.{Ended}
use Rattle.mv_meets.proofs.Covering.{later}
use Rattle.mv_meets.proofs.Looking.{ahead_keeps}
use Rattle.mv_meets.proofs.Pairs.{meet_formed, meet_left}
use Rattle.mv_gains.specs.declared.answers.Answers.{Answers}
use Rattle.mv_gains.specs.declared.answers.Searched.{Searched}
use Rattle.mv_gains.specs.Answers.{all_cubes, answer_for, better_of, known_of, with_symbol, AreAnswers, Forgets, IsAnswered, IsBestIn, IsDone, IsFoundWith, IsLed, IsSettled, Notes, Settles}
use Rattle.mv_gains.proofs.Filtered.{all_grown, meet_with, meet_without, no_better_by, put_cases, saver_with, saver_without, saving_with, with_has, with_none, with_put}
use Rattle.mv_gains.proofs.Growing.{last_cases}

-- ---- all cubes, and those with the symbol

found_with : (l : Lit) (cs : List (List Lit)) (best : Option Found) → IsFoundWith l cs best → IsFoundWith l (with_symbol l cs) best
found_with l cs None f = tt
found_with l cs (Some g) f = (saver_with l cs g f.1 f.0, f.1)

found_without : (l : Lit) (cs : List (List Lit)) (best : Option Found) → IsFoundWith l (with_symbol l cs) best → IsFoundWith l cs best
found_without l cs None f = tt
found_without l cs (Some g) f = (saver_without l cs g f.0, f.1)

answered_with : (l : Lit) (cs : List (List Lit)) (s : Searched) → IsAnswered cs l s → IsAnswered (with_symbol l cs) l s
answered_with l cs s a = record {
  each = λ e m b. no_better_by cs (with_symbol l cs) s.best e (sym (saving_with l cs e b.has)) (a.each e (meet_without l cs e m) b);
  here = λ t. found_with l cs s.best (a.here t);
}

answered_without : (l : Lit) (cs : List (List Lit)) (s : Searched) → IsAnswered (with_symbol l cs) l s → IsAnswered cs l s
answered_without l cs s a = record {
  each = λ e m b. no_better_by (with_symbol l cs) cs s.best e (saving_with l cs e b.has) (a.each e (meet_with l cs e b.has m) b);
  here = λ t. found_without l cs s.best (a.here t);
}

-- what is known stays so while the cubes with the symbol do
answered_stays : (l : Lit) (old new : List (List Lit)) (s : Searched) → with_symbol l new ≡ with_symbol l old → IsAnswered old l s → IsAnswered new l s
answered_stays l old new s same a =
    answered_without l new s (subst (λ (cs : List (List Lit)). IsAnswered cs l s) (sym same) (answered_with l old s a))

-- ---- tables put anew

pub answers_none : (tables : List (List (List Lit))) (a : Answers) → tables ≡ [] → ((l : Lit) → known_of a l ≡ None) → AreAnswers tables a
answers_none tables a none nothing =
    subst (λ (ts : List (List (List Lit))). AreAnswers ts a) (sym none)
    (record {
      formed = All-nil (All IsCube);
      listed = λ c l i t. absurd (Contains-none c i);
      known = λ l s k. absurd (differ (known_of a l) s (nothing l) k);
    })
  where
    differ : (o : Option (Option Searched)) (s : Searched) → o ≡ None → o ≡ Some (Some s) → ⊥
    differ None s e k = false≢true (ap (λ (x : Option (Option Searched)). some x) k)
      where
        some : Option (Option Searched) → Bool
        some None = false
        some (Some x) = true
    differ (Some x) s e k = false≢true (sym (ap (λ (x : Option (Option Searched)). some x) e))
      where
        some : Option (Option Searched) → Bool
        some None = false
        some (Some x) = true

pub answers_grown : (tables new : List (List (List Lit))) (a : Answers) → new ≡ tables ++ [] ∷ [] → AreAnswers tables a → AreAnswers new a
answers_grown tables new a are w =
    let same : all_cubes new ≡ all_cubes tables = ap all_cubes are ∙ all_grown tables in
    record {
      formed = subst (All (All IsCube)) (sym are) (All-push (All IsCube) tables [] w.formed (All-nil IsCube));
      listed = λ c l i t. w.listed c l (subst (λ (cs : List (List Lit)). Contains cs c) same i) t;
      known = λ l s k. subst (λ (cs : List (List Lit)). IsAnswered cs l s) (sym same) (w.known l s k);
    }

-- the cubes of a table are put anew, and what was known of its symbols, before and now, is forgotten
pub answers_put : (tables : List (List (List Lit))) (n : ℕ) (new : List (List Lit)) (a b c : Answers) → n < length tables → All IsCube new → Forgets (get_or tables n []) a b → Forgets new b c → AreAnswers tables a → AreAnswers (set tables n new) c
answers_put tables n new a b c low formed one two w = record {
  formed = All-set (All IsCube) tables n new formed w.formed;
  listed = λ k l i t.
      elim (put_cases tables n new k i) [
        | inl here ↦ two.listed k l here t
        | inr was ↦ two.keeps l (one.keeps l (w.listed k l was t))
      ];
  known = λ l s k.
      let second = two.known l s k in
      let first = one.known l s second.0 in
      answered_stays l (all_cubes tables) (all_cubes (set tables n new)) s
      (with_put l tables n new low (with_none l (get_or tables n []) first.1) (with_none l new second.1)) (w.known l s first.0);
}

-- ---- forgetting

pub forgets_none : (a : Answers) → Forgets [] a a
forgets_none a = record { known = λ l s k. (k, All-nil (λ (c : List Lit). has_symbol c l ≡ false)); keeps = λ l h. h; listed = λ c l i t. absurd (Contains-none c i) }

pub forgets_push : (cubes : List (List Lit)) (cube : List Lit) (a b c : Answers) → Forgets cubes a b → Forgets (cube ∷ []) b c → Forgets (cubes ++ cube ∷ []) a c
forgets_push cubes cube a b c one two = record {
  known = λ l s k.
      let Is : List Lit → Type 0 = λ d. has_symbol d l ≡ false in
      let second = two.known l s k in
      let first = one.known l s second.0 in
      (first.0, All-push Is cubes cube first.1 (All-head Is cube [] second.1));
  keeps = λ l h. two.keeps l (one.keeps l h);
  listed = λ d l i t.
      elim (last_cases cubes cube d i) [
        | inl e ↦ two.listed d l (subst (Contains (cube ∷ [])) e (Contains-first cube [])) t
        | inr was ↦ two.keeps l (one.listed d l was t)
      ];
}

pub forgets_begin : (a : Answers) → Forgets ([] ∷ []) a a
forgets_begin a = record {
  known = λ l s k. (k, All-cons (λ (c : List Lit). has_symbol c l ≡ false) [] [] refl (All-nil (λ (c : List Lit). has_symbol c l ≡ false)));
  keeps = λ l h. h;
  listed = λ c l i t.
      elim (Contains-cons_cases c [] [] i) [
        | inl e ↦ absurd (false≢true (subst (λ (d : List Lit). has_symbol d l ≡ true) (sym e) t))
        | inr none ↦ absurd (Contains-none c none)
      ];
}

-- one symbol of a cube more
pub forgets_symbol : (ls : List Lit) (x : Lit) (a b c : Answers) → Forgets (ls ∷ []) a b → Forgets ((x ∷ []) ∷ []) b c → Forgets ((ls ++ x ∷ []) ∷ []) a c
forgets_symbol ls x a b c one two = record {
  known = λ l s k.
      let Is : List Lit → Type 0 = λ d. has_symbol d l ≡ false in
      let second = two.known l s k in
      let first = one.known l s second.0 in
      let both : has_symbol (ls ++ x ∷ []) l ≡ false = has_symbol-append ls (x ∷ []) l ∙ neither (has_symbol ls l) (has_symbol (x ∷ []) l) (All-head Is ls [] first.1) (All-head Is (x ∷ []) [] second.1) in
      (first.0, All-cons Is (ls ++ x ∷ []) [] both (All-nil Is));
  keeps = λ l h. two.keeps l (one.keeps l h);
  listed = λ d l i t.
      elim (Contains-cons_cases d (ls ++ x ∷ []) [] i) [
        | inr none ↦ absurd (Contains-none d none)
        | inl e ↦
            let has : (has_symbol ls l || has_symbol (x ∷ []) l) ≡ true = sym (has_symbol-append ls (x ∷ []) l) ∙ (ap (λ (k : List Lit). has_symbol k l) e ∙ t) in
            elim (or_cases (has_symbol ls l) (has_symbol (x ∷ []) l) has) [
              | inl before ↦ two.keeps l (one.listed ls l (Contains-first ls []) before)
              | inr here ↦ two.listed (x ∷ []) l (Contains-first (x ∷ []) []) here
            ]
      ];
}
  where
    neither : (p q : Bool) → p ≡ false → q ≡ false → (p || q) ≡ false
    neither p q e f = (λ j. e j || f j)

some_is : (o : Option (Option Searched)) (v : Option Searched) → o ≡ Some v → IsSome o
some_is o v e = subst IsSome (sym e) refl

-- the symbol is listed, with nothing known
pub forgets_one : (x : Lit) (a b : Answers) → Updates lit_eq a.known b.known x (Some None) → Forgets ((x ∷ []) ∷ []) a b
forgets_one x a b u = record {
  known = λ l s k.
      elim (cases_Bool (lit_eq x l)) [
        | inl t ↦ absurd (nothing s (sym (u.0 l ∙ cond-true (lit_eq x l) (Some None) (known_of a l) t) ∙ k))
        | inr f ↦
            let Is : List Lit → Type 0 = λ d. has_symbol d l ≡ false in
            let apart : has_symbol (x ∷ []) l ≡ false = ap (λ (p : Bool). p || false) f in
            (sym (u.0 l ∙ cond-false (lit_eq x l) (Some None) (known_of a l) f) ∙ k, All-cons Is (x ∷ []) [] apart (All-nil Is))
      ];
  keeps = λ l h. kept l (known_of a l) refl h;
  listed = λ c l i t.
      elim (Contains-cons_cases c (x ∷ []) [] i) [
        | inr none ↦ absurd (Contains-none c none)
        | inl e ↦
            let has : (lit_eq x l || false) ≡ true = ap (λ (k : List Lit). has_symbol k l) e ∙ t in
            elim (or_cases (lit_eq x l) false has) [
              | inl same ↦ some_is (known_of b l) None (u.0 l ∙ cond-true (lit_eq x l) (Some None) (known_of a l) same)
              | inr never ↦ absurd (false≢true never)
            ]
      ];
}
  where
    nothing : (s : Searched) → Some None ≡ Some (Some s) → ⊥
    nothing s e = false≢true (ap (λ (o : Option (Option Searched)). deep o) e)
      where
        deep : Option (Option Searched) → Bool
        deep None = false
        deep (Some None) = false
        deep (Some (Some s)) = true

    kept : (l : Lit) (o : Option (Option Searched)) → known_of a l ≡ o → IsSome o → IsSome (known_of b l)
    kept l None e h = absurd (false≢true h)
    kept l (Some v) e h =
        elim (cases_Bool (lit_eq x l)) [
          | inl t ↦ some_is (known_of b l) None (u.0 l ∙ cond-true (lit_eq x l) (Some None) (known_of a l) t)
          | inr f ↦ some_is (known_of b l) v (u.0 l ∙ (cond-false (lit_eq x l) (Some None) (known_of a l) f ∙ e))
        ]

-- ---- notes

pub notes_one : (x : Lit) (s : Searched) (a b : Answers) → Updates lit_eq a.known b.known x (Some (Some s)) → (IsSome (known_of a x) → keys b.known ≡ keys a.known) → Notes x s a b
notes_one x s a b u same = record {
  here = u.0 x ∙ cond-true (lit_eq x x) (Some (Some s)) (known_of a x) ((lit_eq-Decides x x).1 refl);
  others = λ m t k.
      elim (cases_Bool (lit_eq x m)) [
        | inl e ↦ inl ((lit_eq-Decides x m).0 e, inner s t (sym (u.0 m ∙ cond-true (lit_eq x m) (Some (Some s)) (known_of a m) e) ∙ k))
        | inr f ↦ inr (sym (u.0 m ∙ cond-false (lit_eq x m) (Some (Some s)) (known_of a m) f) ∙ k)
      ];
  keeps = λ m h. kept m (known_of a m) refl h;
  keys = same;
}
  where
    inner : (s t : Searched) → Some (Some s) ≡ Some (Some t) → s ≡ t
    inner s t e = ap (λ (o : Option (Option Searched)). deep o) e
      where
        deep : Option (Option Searched) → Searched
        deep None = s
        deep (Some None) = s
        deep (Some (Some u)) = u

    kept : (m : Lit) (o : Option (Option Searched)) → known_of a m ≡ o → IsSome o → IsSome (known_of b m)
    kept m None e h = absurd (false≢true h)
    kept m (Some v) e h =
        elim (cases_Bool (lit_eq x m)) [
          | inl t ↦ some_is (known_of b m) (Some s) (u.0 m ∙ cond-true (lit_eq x m) (Some (Some s)) (known_of a m) t)
          | inr f ↦ some_is (known_of b m) v (u.0 m ∙ (cond-false (lit_eq x m) (Some (Some s)) (known_of a m) f ∙ e))
        ]

pub answers_noted : (tables : List (List (List Lit))) (l : Lit) (s : Searched) (a b : Answers) → Notes l s a b → IsAnswered (all_cubes tables) l s → AreAnswers tables a → AreAnswers tables b
answers_noted tables l s a b note here w = record {
  formed = w.formed;
  listed = λ c m i t. note.keeps m (w.listed c m i t);
  known = λ m t k.
      elim (note.others m t k) [
        | inl same ↦ subst (λ (x : Lit). IsAnswered (all_cubes tables) x t) same.0 (subst (IsAnswered (all_cubes tables) l) same.1 here)
        | inr was ↦ w.known m t was
      ];
}

-- a map with the same entries knows the same
pub answers_unchanged : (tables : List (List (List Lit))) (a b : Answers) → IsUnchanged a.known b.known → AreAnswers tables a → AreAnswers tables b
answers_unchanged tables a b same w =
    let at : (l : Lit) → known_of b l ≡ known_of a l = λ l. ap (lookup (lit_eq l)) same in
    record {
      formed = w.formed;
      listed = λ c l i t. subst IsSome (sym (at l)) (w.listed c l i t);
      known = λ l s k. w.known l s (sym (at l) ∙ k);
    }

-- ---- the best so far

pub led_none : (a : Answers) (best : Option Found) → IsLed a best best
led_none a best = record { found = λ cubes h f. f }

pub led_then : (a : Answers) (x y z : Option Found) → IsLed a x y → IsLed a y z → IsLed a x z
led_then a x y z one two = record { found = λ cubes h f. two.found cubes h (one.found cubes h f) }

-- what is known to be here leads
pub led_here : (a : Answers) (l : Lit) (s : Searched) (old : Option Found) (new : Found) → known_of a l ≡ Some (Some s) → s.is_here ≡ true → s.best ≡ Some new → IsLed a old (Some new)
led_here a l s old new k t is = record { found = λ cubes h f. subst (IsFound cubes) is (h l s k t) }

without_symbol : (l : Lit) (cs : List (List Lit)) (best : Option Found) → IsFoundWith l cs best → IsFound cs best
without_symbol l cs None f = tt
without_symbol l cs (Some g) f = f.0

pub leader_found : (tables : List (List (List Lit))) (a : Answers) (best : Option Found) → AreAnswers tables a → IsLed a None best → IsFound (all_cubes tables) best
leader_found tables a best w led = led.found (all_cubes tables) (λ l s k t. without_symbol l (all_cubes tables) s.best ((w.known l s k).here t)) tt

pub found_saves : (cubes : List (List Lit)) (best : Option Found) → IsFound cubes best → Saves best
found_saves cubes None f = tt
found_saves cubes (Some g) f = f.some

-- ---- what isn't better

-- none is no better than what saves something
pub none_improves : (best : Option Found) → Saves best → Improves None best
none_improves best some = record { keeps = λ ks e h. by ks e h best some }
  where
    by : (ks : List (List Lit)) (e : List Lit) → saving e ks ≡ 0 → (best : Option Found) → Saves best → IsNoBetter ks best e
    by ks e h None some = h
    by ks e h (Some g) some = record { most = omega (arith, h); least = λ same q. omega (arith, h, same, some) }

flips : (a b : List Lit) → cube_cmp a b ≡ Greater → cube_cmp b a ≡ Less
flips a b e = cube_total.antisymm b a ∙ ap ordering_reverse e

-- what isn't ahead of the best is no better, nor is what is no better than that
pub behind_improves : (one : Found) (best : Option Found) → is_ahead best one.saved one.cube ≡ false → Improves (Some one) best
behind_improves one best t = record { keeps = λ ks e h. by ks e h best t }
  where
    by : (ks : List (List Lit)) (e : List Lit) → IsBehind ks one e → (best : Option Found) → is_ahead best one.saved one.cube ≡ false → IsNoBetter ks best e
    by ks e h None t = let low = ltb-false 0 one.saved t in let most = h.most in omega (arith, low, most)
    by ks e h (Some g) t =
        let parts = or_parts (nat_lt g.saved one.saved) (nat_eq one.saved g.saved && is_lt (cube_cmp one.cube g.cube)) t in
        let low = ltb-false g.saved one.saved parts.0 in
        let most = h.most in
        record {
          most = omega (arith, low, most);
          least = λ same q.
              let tied : one.saved ≡ g.saved = omega (arith, low, most, same) in
              let less : is_lt (cube_cmp one.cube g.cube) ≡ true = ap is_lt (before ks e h g (same ∙ sym tied) q (cube_cmp one.cube e) refl) in
              false≢true (sym parts.1 ∙ (ap (λ b. b && is_lt (cube_cmp one.cube g.cube)) (eq-eqb one.saved g.saved tied) ∙ less));
        }
      where
        before : (ks : List (List Lit)) (e : List Lit) → IsBehind ks one e → (g : Found) → saving e ks ≡ one.saved → cube_cmp g.cube e ≡ Greater → (r : Ordering) → cube_cmp one.cube e ≡ r → cube_cmp one.cube g.cube ≡ Less
        before ks e h g same q Less r = cube_total.trans one.cube e g.cube r (flips g.cube e q)
        before ks e h g same q Equal r = cube_total.congr one.cube e g.cube r ∙ flips g.cube e q
        before ks e h g same q Greater r = absurd (h.least same r)

-- ---- a search

-- what a search among the cubes with the symbol found is known of it
pub sought_answer : (l : Lit) (cs : List (List Lit)) (given found : Option Found) → IsSought (with_symbol l cs) l given found → IsAnswered cs l (answer_for given found)
sought_answer l cs given None s = answered_without l cs (answer_for given None) (record { each = s.each; here = λ t. absurd (false≢true t) })
sought_answer l cs given (Some f) s =
    answered_without l cs (answer_for given (Some f)) (record { each = s.each; here = λ t. (s.is, with_has l cs f.cube s.is.meet) })

sought_found : (l : Lit) (cs : List (List Lit)) (given found : Option Found) → IsSought (with_symbol l cs) l given found → IsFound cs found
sought_found l cs given None s = tt
sought_found l cs given (Some g) s = saver_without l cs g s.is

-- ---- the better of the best so far and what was found

better_found : (cs : List (List Lit)) (best found : Option Found) → IsFound cs best → IsFound cs found → IsFound cs (better_of best found)
better_found cs best None f g = f
better_found cs best (Some new) f g =
    elim (cases_Bool (is_ahead best new.saved new.cube)) [
      | inl t ↦ subst (IsFound cs) (sym (cond-true (is_ahead best new.saved new.cube) (Some new) best t)) g
      | inr t ↦ subst (IsFound cs) (sym (cond-false (is_ahead best new.saved new.cube) (Some new) best t)) f
    ]

better_improves : (cs : List (List Lit)) (best found : Option Found) → IsFound cs best → IsFound cs found → Improves best (better_of best found)
better_improves cs best None f g = record { keeps = λ ks e h. h }
better_improves cs best (Some new) f g =
    elim (cases_Bool (is_ahead best new.saved new.cube)) [
      | inl t ↦ subst (Improves best) (sym (cond-true (is_ahead best new.saved new.cube) (Some new) best t)) (record { keeps = λ ks e h. ahead_keeps ks new.cube new.saved best e new refl refl g.some t h })
      | inr t ↦ subst (Improves best) (sym (cond-false (is_ahead best new.saved new.cube) (Some new) best t)) (record { keeps = λ ks e h. h })
    ]

better_takes : (given best found : Option Found) → (given ≡ best) ⊎ (given ≡ None) → Saves best → Improves (leading given found) (better_of best found)
better_takes given best None (inl is) some = subst (λ (o : Option Found). Improves o best) (sym is) (record { keeps = λ ks e h. h })
better_takes given best None (inr is) some = subst (λ (o : Option Found). Improves o best) (sym is) (none_improves best some)
better_takes given best (Some new) which some =
    elim (cases_Bool (is_ahead best new.saved new.cube)) [
      | inl t ↦ subst (Improves (Some new)) (sym (cond-true (is_ahead best new.saved new.cube) (Some new) best t)) (record { keeps = λ ks e h. h })
      | inr t ↦ subst (Improves (Some new)) (sym (cond-false (is_ahead best new.saved new.cube) (Some new) best t)) (behind_improves new best t)
    ]

same_some : (m l : Lit) → Some m ≡ Some l → m ≡ l
same_some m l e = ap (λ (o : Option Lit). unwrap_or o m) e

-- a search is held against the best so far or against nothing: the better of the best so far and what it found is the best then
pub settles_sought : (cs : List (List Lit)) (symbols : List Lit) (place : ℕ) (l : Lit) (given best found new : Option Found) → slice_get symbols place ≡ Some l → new ≡ better_of best found → (given ≡ best) ⊎ (given ≡ None) → IsFound cs best → IsSought (with_symbol l cs) l given found → Settles cs symbols place best new
settles_sought cs symbols place l given best found new only is which f s =
    let here = sought_found l cs given found s in
    let some = found_saves cs best f in
    subst (Settles cs symbols place best) (sym is)
    (record {
      found = better_found cs best found f here;
      improves = better_improves cs best found f here;
      done = record {
        each = λ m e at_m meet b.
            let b_l = subst (λ (x : Lit). Begins x e) (same_some m l (sym at_m ∙ only)) b in
            (better_takes given best found which some).keeps cs e
            (no_better_by (with_symbol l cs) cs (leading given found) e (saving_with l cs e b_l.has) (s.each e (meet_with l cs e b_l.has meet) b_l));
      };
    })

-- it was known that none is better
pub settles_known : (tables : List (List (List Lit))) (a : Answers) (place : ℕ) (best : Option Found) → IsFound (all_cubes tables) best → IsSettled a place best → AreAnswers tables a → Settles (all_cubes tables) (keys a.known) place best best
settles_known tables a place best f s w = record {
  found = f;
  improves = record { keeps = λ ks e h. h };
  done = record {
    each = λ m e at_m meet b.
        let b_s = subst (λ (x : Lit). Begins x e) (same_some m s.symbol (sym at_m ∙ s.at)) b in
        s.improves.keeps (all_cubes tables) e ((w.known s.symbol s.searched s.known).each e meet b_s);
  };
}

-- ---- one place after another

-- the parts that begin with the symbols at the first places are no better
pub record AreDone (cubes : List (List Lit)) (symbols : List Lit) (best : Option Found) (count : ℕ) : Type 0 where
  pub each : (q : ℕ) → q < count → IsDone cubes symbols best q

pub done_none : (cubes : List (List Lit)) (symbols : List Lit) (best : Option Found) → AreDone cubes symbols best 0
done_none cubes symbols best = record { each = λ q low. absurd (omega arith) }

pub done_more : (cubes : List (List Lit)) (symbols : List Lit) (old new : Option Found) (place : ℕ) → AreDone cubes symbols old place → Settles cubes symbols place old new → AreDone cubes symbols new (place + 1)
done_more cubes symbols old new place a s = record {
  each = λ q low.
      elim (cases_lt q place) [
        | inl before ↦ record { each = λ l e at_l meet b. s.improves.keeps cubes e ((a.each q before).each l e at_l meet b) }
        | inr past ↦ subst (IsDone cubes symbols new) (omega (arith, low, past)) s.done
      ];
}

-- ---- the first symbol of a part

record First (e : List Lit) : Type 0 where
  symbol : Lit
  has : has_symbol e symbol ≡ true
  begins : Begins symbol e

first_of : (e : List Lit) → IsCube e → 2 ≤ length e → First e
first_of [] f two = absurd (omega arith)
first_of (l ∷ ls) f two =
    let here = in_symbol (l ∷ ls) l (Contains-first l ls) in
    record {
      symbol = l;
      has = here;
      begins = record {
        has = here;
        rest = λ m t.
            elim (Contains-cons_cases m l ls (symbol_in (l ∷ ls) m t)) [
              | inl e ↦ inl (sym e)
              | inr i ↦ inr (All-contains (λ (o : Lit). l.net.0 < o.net.0) ls m (later l ls f.ascending) i)
            ];
      };
    }

pub all_formed : (tables : List (List (List Lit))) → All (All IsCube) tables → All IsCube (all_cubes tables)
all_formed [] a = All-nil IsCube
all_formed (t ∷ ts) a = All-append IsCube t (all_cubes ts) (All-head (All IsCube) t ts a) (all_formed ts (All-tail (All IsCube) t ts a))

module _ (tables : List (List (List Lit))) (a : Answers) (w : AreAnswers tables a) (best : Option Found) (done : AreDone (all_cubes tables) (keys a.known) best (length (keys a.known))) where
  abbrev cubes : List (List Lit)
  cubes = all_cubes tables

  no_better : (e : List Lit) → IsMeet cubes e → IsNoBetter cubes best e
  no_better e m =
      let first = first_of e (meet_formed cubes e (all_formed tables w.formed) m) m.two in
      let cube = at cubes m.one in
      let has : has_symbol cube first.symbol ≡ true = each_at e cube first.symbol (meet_left cubes e m) first.has in
      let listed = w.listed cube first.symbol (Contains-get_or cubes m.one [] m.one_in) has in
      let key = Contains-keys_from_lookup {eq = lit_eq} (λ x y t. (lit_eq-Decides x y).0 t) first.symbol a.known.entries listed in
      (done.each key.0 key.1).each first.symbol e (slice_get-get_or (keys a.known) key.0 first.symbol key.1 ∙ ap Some key.2) m first.begins

  pub best_settled : (f : Found) → best ≡ Some f → IsFound cubes best → IsBestMeet cubes f.cube
  best_settled f is found =
      let saver : IsSaver cubes f = subst (IsFound cubes) is found in
      let saved = saver.saved_is in
      let some = saver.some in
      let behind : (e : List Lit) → IsMeet cubes e → IsBehind cubes f e = λ e m. subst (λ (b : Option Found). IsNoBetter cubes b e) is (no_better e m) in
      record {
        meet = saver.meet;
        some = omega (arith, saved, some);
        most = λ e m. let h = behind e m in let most = h.most in omega (arith, saved, most);
        least = λ e m same g. let h = behind e m in h.least (same ∙ saved) g;
      }

  pub none_settled : best ≡ None → NoMeetSaves cubes
  none_settled is = record { none = λ e m. subst (λ (b : Option Found). IsNoBetter cubes b e) is (no_better e m) }

-- what came of it
pub settled_best : (tables : List (List (List Lit))) (a : Answers) → AreAnswers tables a → (best : Option Found) → IsFound (all_cubes tables) best → AreDone (all_cubes tables) (keys a.known) best (length (keys a.known)) → IsBestIn (all_cubes tables) (Ended best)
settled_best tables a w None f done = none_settled tables a w None done refl
settled_best tables a w (Some g) f done = best_settled tables a w (Some g) done g refl f
