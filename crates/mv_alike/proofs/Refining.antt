-- Classes are refined by one test after another, until all that is told is told.
use Rattle.std.proofs.Common.{◌≡◌, ◌∙◌, ℕ, ◌+◌, ◌<◌, ◌≤◌, Bool, true, false, ◌&&◌, ◌||◌, not, nat_eq, List, [], Option, MatchBool, Result, Ok, Err, OnOk, length, take, get_or, replicate, refl, sym, ap, subst, arith, eq-eqb}
use Rattle.std.specs.List.{list_any}
use Rattle.std.proofs.lemmas.Bool.{and_left, ne_eqb}
use Rattle.std.proofs.lemmas.List.{take_all, get_or-replicate, length-replicate}
use Rattle.std.proofs.lemmas.List.Folds.{list_any_more}
use Rattle.mv_base.specs.declared.number.NetId.{NetId}
use Rattle.mv_cover.specs.Literal.{Lit}
use Rattle.mv_cover.specs.declared.line.Line.{Line}
use Rattle.mv_graph.specs.Nets.{IsAscending}
use Rattle.mv_net.specs.declared.parts.FlatNet.{FlatNet}
use Rattle.mv_net.specs.Nets.{slot, values_in, table_in, net_reads}
use Rattle.mv_merging.specs.Verdicts.{AreAlike, splits, literal_splits, table_splits}
use Rattle.mv_merging.proofs.Looking.{alike_answer}
use Rattle.mv_alike.specs.Classes.{same, AreNumbered, AreRefined, AreClasses}

-- ---- one test after another

-- tests that tell the same refine the same
pub refined_alike : (p q : ℕ → ℕ → Bool) (old new : List ℕ) → ((u v : ℕ) → p u v ≡ q u v) → AreRefined p old new → AreRefined q old new
refined_alike p q old new e r = record {
  long = r.long;
  numbered = r.numbered;
  told = λ u v lu lv. r.told u v lu lv ∙ ap (λ b. same old u v && not b) (e u v);
}

pub refined_ok : {E : Type 0} (p q : ℕ → ℕ → Bool) (old new : List ℕ) (result : Result (Unit {0}) E) → ((u v : ℕ) → p u v ≡ q u v)
    → OnOk result (AreRefined p old new) → OnOk result (AreRefined q old new)
refined_ok p q old new (Ok done) e r = refined_alike p q old new e r
refined_ok p q old new (Err stop) e r = tt

-- a test that tells nothing
pub refined_nothing : (p : ℕ → ℕ → Bool) (cs : List ℕ) → AreNumbered cs → ((u v : ℕ) → p u v ≡ false) → AreRefined p cs cs
refined_nothing p cs numbered e = record {
  long = refl;
  numbered = numbered;
  told = λ u v lu lv. and-true (same cs u v) ∙ ap (λ b. same cs u v && not b) (sym (e u v));
}
  where
    and-true : (b : Bool) → b ≡ (b && true)
    and-true true = refl
    and-true false = refl

-- one test behind another
pub refined_twice : (p q : ℕ → ℕ → Bool) (old mid new : List ℕ) → AreRefined p old mid → AreRefined q mid new → AreRefined (λ u v. p u v || q u v) old new
refined_twice p q old mid new r s = record {
  long = s.long ∙ r.long;
  numbered = s.numbered;
  told = λ u v lu lv.
      s.told u v (rw r.long lu) (rw r.long lv) ∙ (ap (λ b. b && not (q u v)) (r.told u v lu lv) ∙ both (same old u v) (p u v) (q u v));
}
  where
    both : (a b c : Bool) → ((a && not b) && not c) ≡ (a && not (b || c))
    both true true c = refl
    both true false c = refl
    both false b c = refl

-- ---- what the items of a list tell

pub refined_begin : {X : Type 0} (p : ℕ → ℕ → X → Bool) (xs : List X) (cs : List ℕ) → AreNumbered cs → AreRefined (λ u v. list_any (p u v) (take 0 xs)) cs cs
refined_begin p xs cs numbered = refined_nothing (λ u v. list_any (p u v) (take 0 xs)) cs numbered (λ u v. refl)

pub refined_more : {X : Type 0} (p : ℕ → ℕ → X → Bool) (xs : List X) (i : ℕ) (d : X) (old mid new : List ℕ) → i < length xs
    → AreRefined (λ u v. list_any (p u v) (take i xs)) old mid → AreRefined (λ u v. p u v (get_or xs i d)) mid new
    → AreRefined (λ u v. list_any (p u v) (take (i + 1) xs)) old new
refined_more p xs i d old mid new lt r s =
    refined_alike (λ u v. list_any (p u v) (take i xs) || p u v (get_or xs i d)) (λ u v. list_any (p u v) (take (i + 1) xs)) old new
    (λ u v. sym (list_any_more (p u v) xs i d lt))
    (refined_twice (λ u v. list_any (p u v) (take i xs)) (λ u v. p u v (get_or xs i d)) old mid new r s)

pub refined_item : {X : Type 0} (p : ℕ → ℕ → X → Bool) (xs : List X) (i : ℕ) (x : X) (old mid new : List ℕ) → i < length xs → x ≡ get_or xs i x
    → AreRefined (λ u v. list_any (p u v) (take i xs)) old mid → AreRefined (λ u v. p u v x) mid new
    → AreRefined (λ u v. list_any (p u v) (take (i + 1) xs)) old new
refined_item p xs i x old mid new lt is r s =
    refined_more p xs i x old mid new lt r (refined_alike (λ u v. p u v x) (λ u v. p u v (get_or xs i x)) mid new (λ u v. ap (p u v) is) s)

pub refined_whole : {X : Type 0} (p : ℕ → ℕ → X → Bool) (xs : List X) (i : ℕ) (old new : List ℕ) → length xs ≤ i
    → AreRefined (λ u v. list_any (p u v) (take i xs)) old new → AreRefined (λ u v. list_any (p u v) xs) old new
refined_whole p xs i old new le r =
    refined_alike (λ u v. list_any (p u v) (take i xs)) (λ u v. list_any (p u v) xs) old new (λ u v. ap (list_any (p u v)) (take_all i xs le)) r

-- whether some literal of a line, or some literal of a net's table, tells two values of the net n apart
abbrev pub lines_tell : ℕ → ℕ → ℕ → Line → Bool
lines_tell n u v l = list_any (literal_splits n u v) l.cube

abbrev pub nets_tell : List (Option FlatNet) → ℕ → ℕ → ℕ → NetId → Bool
nets_tell nets n u v m = table_splits n u v (table_in (slot nets m.0))

-- ---- one literal

-- on another net
pub refined_off : (n k : ℕ) (l : Lit) (cs : List ℕ) → k ≡ l.net.0 → (k ≡ n → ⊥) → AreNumbered cs → AreRefined (λ u v. literal_splits n u v l) cs cs
refined_off n k l cs is other numbered =
    refined_nothing (λ u v. literal_splits n u v l) cs numbered
    (λ u v. and_left (nat_eq l.net.0 n) (splits u v l.set) (ne_eqb l.net.0 n (λ e. other (is ∙ e))))

-- on the net
pub refined_on : (n k s : ℕ) (l : Lit) (old new : List ℕ) → k ≡ l.net.0 → k ≡ n → s ≡ l.set → AreRefined (λ u v. splits u v s) old new
    → AreRefined (λ u v. literal_splits n u v l) old new
refined_on n k s l old new is here e r =
    refined_alike (λ u v. splits u v s) (λ u v. literal_splits n u v l) old new
    (λ u v. ap (splits u v) e ∙ sym (ap (λ b. b && splits u v l.set) (eq-eqb l.net.0 n (sym is ∙ here))))
    r

-- ---- from one class on

pub one_class : (k : ℕ) → AreNumbered (replicate k 0)
one_class k = record {
  least = λ v lt. rw (get_or-replicate {A = ℕ} k v 0 0 (rw (length-replicate {A = ℕ} k 0) at lt)) (omega arith);
  own = λ v lt.
      let e = get_or-replicate {A = ℕ} k v 0 0 (rw (length-replicate {A = ℕ} k 0) at lt) in
      ap (λ i. get_or (replicate k 0) i 0) e ∙ (get_or-replicate {A = ℕ} k 0 0 0 (let l = rw (length-replicate {A = ℕ} k 0) at lt in omega (arith, l)) ∙ sym e);
}

pub classes_are : (nets : List (Option FlatNet)) (n k : ℕ) (readers : List NetId) (old new : List ℕ) → k ≡ values_in (slot nets n)
    → IsAscending (λ m. net_reads (slot nets m) n) readers → old ≡ replicate k 0
    → AreRefined (λ u v. list_any (λ (m : NetId). table_splits n u v (table_in (slot nets m.0))) readers) old new → AreClasses nets n new
classes_are nets n k readers old new is ascending begun r = record {
  long = r.long ∙ (long ∙ is);
  numbered = r.numbered;
  alike = λ u v lu lv.
      let some = list_any (λ (m : NetId). table_splits n u v (table_in (slot nets m.0))) readers in
      let lu : u < length old = rw r.long at lu in
      let lv : v < length old = rw r.long at lv in
      let together : same old u v ≡ true = eq-eqb (get_or old u 0) (get_or old v 0) (zero_at u lu ∙ sym (zero_at v lv)) in
      subst (λ b. MatchBool b (AreAlike nets n u v) (AreAlike nets n u v → ⊥)) (sym (r.told u v lu lv ∙ ap (λ b. b && not some) together))
      (alike_answer some nets n u v readers ascending refl);
}
  where
    long : length old ≡ k
    long = ap length begun ∙ length-replicate {A = ℕ} k 0

    zero_at : (u : ℕ) → u < length old → get_or old u 0 ≡ 0
    zero_at u lt = ap (λ l. get_or l u 0) begun ∙ get_or-replicate {A = ℕ} k u 0 0 (rw long at lt)
