-- Marks for bad pairs, point by point.
use Rattle.std.proofs.Common.{◌≡◌, ◌∙◌, ℕ, ◌+◌, ◌<◌, ◌≤◌, Bool, true, false, List, length, get_or, set, length-set, Option, refl, sym, ap, subst, inl, inr, ⊎_elim, arith}
use Rattle.std.proofs.lemmas.Bool.{false≢true, cases_eq, cases_lt}
use Rattle.std.proofs.lemmas.List.{get_or-set_same, get_or-set_other}
use Rattle.mv_net.specs.declared.parts.FlatNet.{FlatNet}
use Rattle.mv_flex.specs.declared.plan.Plan.{Plan}
use Rattle.mv_flex.specs.Spaces.{digits}
use Rattle.mv_flex.specs.Plans.{all_agree, point_at, pair_at, IsPairAt, IsPairBelow, IsStuck, IsBadPair, Adds, MarksBelow}

pair_later : (nets : List (Option FlatNet)) (p : Plan) (start : List ℕ) (h q : ℕ) → IsPairBelow nets p start h q → IsPairBelow nets p start (h + 1) q
pair_later nets p start h q b = record { h = b.h; low = omega (arith, b.low); agrees = b.agrees; pair = b.pair }

-- where nothing is claimed nothing is added
pub adds_nothing : (nets : List (Option FlatNet)) (p : Plan) (vs : List ℕ) (marks : List Bool) → all_agree nets p.others p.nets vs ≡ false → Adds (IsPairAt nets p vs) marks marks
adds_nothing nets p vs marks f = record { long = refl; only = λ q y. inl y; kept = λ q y. y; all = λ q b. absurd (false≢true (sym f ∙ b.agrees)) }

-- a point at which the other tables agree adds its pair
pub adds_pair : (nets : List (Option FlatNet)) (p : Plan) (vs : List ℕ) (marks new : List Bool) (pair : ℕ) → all_agree nets p.others p.nets vs ≡ true → pair ≡ pair_at p vs → pair < length marks → new ≡ set marks pair true → Adds (IsPairAt nets p vs) marks new
adds_pair nets p vs marks new pair y is low n = record {
  long = ap length n ∙ length-set marks pair true;
  only = λ q m.
      ⊎_elim
      (λ (here : q ≡ pair). inr (record { agrees = y; pair = sym is ∙ sym here }))
      (λ (other : q ≡ pair → ⊥). inl (sym (elsewhere q other) ∙ m))
      (cases_eq q pair);
  kept = λ q m.
      ⊎_elim
      (λ (here : q ≡ pair). ap (λ k. get_or new k false) here ∙ marked)
      (λ (other : q ≡ pair → ⊥). elsewhere q other ∙ m)
      (cases_eq q pair);
  all = λ q b. ap (λ k. get_or new k false) (sym b.pair ∙ sym is) ∙ marked;
}
  where
    marked : get_or new pair false ≡ true
    marked = ap (λ l. get_or l pair false) n ∙ get_or-set_same marks pair true false low

    elsewhere : (q : ℕ) → (q ≡ pair → ⊥) → get_or new q false ≡ get_or marks q false
    elsewhere q ne = ap (λ l. get_or l q false) n ∙ get_or-set_other marks pair q true false ne

-- one point more
pub adds_point : (nets : List (Option FlatNet)) (p : Plan) (start : List ℕ) (h : ℕ) (vs : List ℕ) (old marks new : List Bool) → vs ≡ point_at p start h → Adds (IsPairBelow nets p start h) old marks → Adds (IsPairAt nets p vs) marks new → Adds (IsPairBelow nets p start (h + 1)) old new
adds_point nets p start h vs old marks new e before here = record {
  long = here.long ∙ before.long;
  only = λ q y.
      ⊎_elim
      (λ (m : get_or marks q false ≡ true).
      ⊎_elim (λ (o : get_or old q false ≡ true). inl o) (λ (b : IsPairBelow nets p start h q). inr (pair_later nets p start h q b)) (before.only q m))
      (λ (b : IsPairAt nets p vs q). inr (record { h = h; low = omega arith; agrees = ap (all_agree nets p.others p.nets) (sym e) ∙ b.agrees; pair = ap (pair_at p) (sym e) ∙ b.pair }))
      (here.only q y);
  kept = λ q y. here.kept q (before.kept q y);
  all = λ q b.
      ⊎_elim
      (λ (less : b.h < h). here.kept q (before.all q (record { h = b.h; low = less; agrees = b.agrees; pair = b.pair })))
      (λ (last : h ≤ b.h).
      let same : b.h ≡ h = omega (arith, last, b.low) in
      let there : point_at p start b.h ≡ vs = ap (point_at p start) same ∙ sym e in
      here.all q (record { agrees = ap (all_agree nets p.others p.nets) (sym there) ∙ b.agrees; pair = ap (pair_at p) (sym there) ∙ b.pair }))
      (cases_lt b.h h);
}

-- after the last point
pub adds_bad : (nets : List (Option FlatNet)) (p : Plan) (start : List ℕ) (k : ℕ) (old new : List Bool) → k ≡ p.hidden.size → IsStuck nets p start → Adds (IsPairBelow nets p start k) old new → Adds (IsBadPair nets p start) old new
adds_bad nets p start k old new e stuck a = record {
  long = a.long;
  only = λ q y.
      ⊎_elim
      (λ (o : get_or old q false ≡ true). inl o)
      (λ (b : IsPairBelow nets p start k q). inr (record { h = b.h; bad = record { low = subst (λ j. b.h < j) e b.low; stuck = stuck; agrees = b.agrees }; pair = b.pair }))
      (a.only q y);
  kept = a.kept;
  all = λ q b. a.all q (record { h = b.h; low = subst (λ j. b.h < j) (sym e) b.bad.low; agrees = b.bad.agrees; pair = b.pair });
}

-- marks at one more number of inputs and outputs
pub marks_more : (nets : List (Option FlatNet)) (p : Plan) (k : ℕ) (start : List ℕ) (marks new : List Bool) → start ≡ digits p.shown.counts k → MarksBelow nets p k marks → Adds (IsBadPair nets p start) marks new → MarksBelow nets p (k + 1) new
marks_more nets p k start marks new e m a = record {
  long = a.long ∙ m.long;
  only = λ q y.
      ⊎_elim
      (λ (o : get_or marks q false ≡ true). let b = m.only q o in record { c = b.c; low = omega (arith, b.low); bad = b.bad })
      (λ (b : IsBadPair nets p start q). record { c = k; low = omega arith; bad = subst (λ l. IsBadPair nets p l q) e b })
      (a.only q y);
  all = λ q b.
      ⊎_elim
      (λ (less : b.c < k). a.kept q (m.all q (record { c = b.c; low = less; bad = b.bad })))
      (λ (last : k ≤ b.c).
      let same : b.c ≡ k = omega (arith, last, b.low) in
      a.all q (subst (λ l. IsBadPair nets p l q) (ap (digits p.shown.counts) same ∙ sym e) b.bad))
      (cases_lt b.c k);
}
