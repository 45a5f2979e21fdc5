-- Lists of readers that get readers and lose them, one after another.
use Rattle.std.proofs.Common.{◌≡◌, ◌∙◌, ℕ, ◌<◌, Bool, true, false, ◌&&◌, ◌||◌, not, nat_eq, List, [], length, set, Some, refl, sym, ap, subst, ⊎_elim, eq-eqb, eqb-true}
use Rattle.std.specs.Prelude.{Result, Ok, Err, OnOk, OnErr}
use Rattle.std.proofs.lemmas.Bool.{cases_eq, or_cases, or_left, or_right, and_parts, ne_eqb, false≢true}
use Rattle.std.specs.List.{slice_get}
use Rattle.std.proofs.lemmas.List.{get_or-set_same, get_or-set_other, length-set, set-set, set-get_or}
use Rattle.std.proofs.lemmas.Option.{slice_get-get_or}
use Rattle.std.proofs.lemmas.Result.{on_ok_weaker}
use Rattle.mv_base.specs.declared.number.NetId.{NetId}
use Rattle.mv_graph.specs.Nets.{has_id, ids_ascend, row, IsAscending}
use Rattle.mv_dag.specs.Readers.{AllAscend, HasAll, IsGrown, IsShrunk, is_edge}

-- what holds after a call, whatever it answered
pub either_way : {T E A B C : Type 0} (r : Result T E) → OnOk r A → OnErr r B → (A → C) → (B → C) → C
either_way (Ok x) a b f g = f a
either_way (Err e) a b f g = g b

pub on_err_from : {T E P : Type 0} (r : Result T E) → P → OnErr r P
on_err_from (Ok x) p = tt
on_err_from (Err e) p = p

-- ---- one list

-- the other lists stay
row-set : (rows : List (List NetId)) (at : ℕ) (list : List NetId) → at < length rows → (P : ℕ → List NetId → Type 0) → P at list → ((m : ℕ) → (m ≡ at → ⊥) → P m (row rows m)) → (m : ℕ) → P m (row (set rows at list) m)
row-set rows at list low P here there m =
    ⊎_elim
    (λ (e : m ≡ at).
    let Q : ℕ → Type 0 = λ j. P j (row (set rows at list) j) in
    let R : List NetId → Type 0 = P at in
    subst Q (sym e) (subst R (sym (get_or-set_same rows at list [] low)) here))
    (λ (ne : m ≡ at → ⊥). let R : List NetId → Type 0 = P m in subst R (sym (get_or-set_other rows at m list [] ne)) (there m ne))
    (cases_eq m at)

ascend-set : (old new : List (List NetId)) (at : ℕ) (list : List NetId) → at < length old → AllAscend old → ids_ascend list ≡ true → new ≡ set old at list → AllAscend new
ascend-set old new at list low up here e =
    record { each = λ m. ap (λ rows. ids_ascend (row rows m)) e ∙ row-set old at list low (λ k l. ids_ascend l ≡ true) here (λ k ne. up.each k) m }

edge_is : (n at m : ℕ) → nat_eq n m ≡ is_edge n at m at
edge_is n at m = rw (eq-eqb at at refl) (kept (nat_eq n m))
  where
    kept : (b : Bool) → b ≡ (b && true)
    kept true = refl
    kept false = refl

edge_not : (n at m k : ℕ) → (k ≡ at → ⊥) → is_edge n at m k ≡ false
edge_not n at m k ne = rw (ne_eqb at k (λ e. ne (sym e))) (none (nat_eq n m))
  where
    none : (b : Bool) → (b && false) ≡ false
    none true = refl
    none false = refl

pub grown-at : (old new : List (List NetId)) (at n : ℕ) (list : List NetId) → at < length old → AllAscend old → new ≡ set old at list → IsAscending (λ m. has_id (row old at) m || nat_eq n m) list → IsGrown old new (is_edge n at)
grown-at old new at n list low up e put = record {
  long = ap length e ∙ length-set old at list;
  ascend = ascend-set old new at list low up put.ascending e;
  kept = λ m k h.
      ap (λ rows. has_id (row rows k) m) e
      ∙ row-set old at list low (λ j l. has_id (row old j) m ≡ true → has_id l m ≡ true)
      (λ g. put.members m ∙ or_left (has_id (row old at) m) (nat_eq n m) g) (λ j ne g. g) k h;
  only = λ m k h.
      row-set old at list low (λ j l. has_id l m ≡ true → (has_id (row old j) m || is_edge n at m j) ≡ true)
      (λ g. ap (λ b. has_id (row old at) m || b) (sym (edge_is n at m)) ∙ (sym (put.members m) ∙ g))
      (λ j ne g. or_left (has_id (row old j) m) (is_edge n at m j) g) k
      (ap (λ rows. has_id (row rows k) m) (sym e) ∙ h);
}

pub given-at : (old new : List (List NetId)) (at n : ℕ) (list : List NetId) → at < length old → new ≡ set old at list → IsAscending (λ m. has_id (row old at) m || nat_eq n m) list → HasAll new (is_edge n at)
given-at old new at n list low e put = record {
  each = λ m k h.
      let p = and_parts (nat_eq n m) (nat_eq at k) h in
      let there : has_id (row new at) n ≡ true =
      ap (λ rows. has_id (row rows at) n) e ∙ (ap (λ l. has_id l n) (get_or-set_same old at list [] low) ∙ (put.members n ∙ or_right (has_id (row old at) n) (nat_eq n n) (eq-eqb n n refl))) in
      let P : ℕ → Type 0 = λ j. has_id (row new j) m ≡ true in
      let Q : ℕ → Type 0 = λ i. has_id (row new at) i ≡ true in
      subst P (eqb-true at k p.1) (subst Q (eqb-true n m p.0) there);
}

pub shrunk-at : (old new : List (List NetId)) (at n : ℕ) (list : List NetId) → at < length old → AllAscend old → new ≡ set old at list → IsAscending (λ m. has_id (row old at) m && not (nat_eq n m)) list → IsShrunk old new (is_edge n at)
shrunk-at old new at n list low up e taken = record {
  long = ap length e ∙ length-set old at list;
  ascend = ascend-set old new at list low up taken.ascending e;
  left = λ m k.
      ap (λ rows. has_id (row rows k) m) e
      ∙ row-set old at list low (λ j l. has_id l m ≡ (has_id (row old j) m && not (is_edge n at m j)))
      (taken.members m ∙ ap (λ b. has_id (row old at) m && not b) (edge_is n at m))
      (λ j ne. stays (has_id (row old j) m) ∙ ap (λ b. has_id (row old j) m && not b) (sym (edge_not n at m j ne))) k;
}
  where
    stays : (b : Bool) → b ≡ (b && not false)
    stays true = refl
    stays false = refl

pub grown-none : (old : List (List NetId)) (given : ℕ → ℕ → Bool) → AllAscend old → IsGrown old old given
grown-none old given up = record { long = refl; ascend = up; kept = λ n m h. h; only = λ n m h. or_left (has_id (row old m) n) (given n m) h }

-- ---- a list taken out of its place, changed, and put back

-- the list that stood there, and the lists behind
taken_and_put : (rows out back : List (List NetId)) (at : ℕ) (none taken list : List NetId) → at < length rows → slice_get rows at ≡ Some taken → out ≡ set rows at none → back ≡ set out at list → (taken ≡ row rows at) × (back ≡ set rows at list)
taken_and_put rows out back at none taken list low was e f =
    let g : slice_get rows at ≡ Some (row rows at) = slice_get-get_or rows at [] low in
    let s : taken ≡ row rows at = cc in
    (s, f ∙ (ap (λ r. set r at list) e ∙ set-set rows at none list))

pub reader-put : {T E : Type 0} (r : Result T E) (old out new : List (List NetId)) (at n : ℕ) (none taken list : List NetId) → at < length old → AllAscend old
    → slice_get old at ≡ Some taken → out ≡ set old at none → new ≡ set out at list
    → OnOk r (IsAscending (λ m. has_id taken m || nat_eq n m) list) → OnErr r (list ≡ taken) → IsGrown old new (is_edge n at)
reader-put r old out new at n none taken list low up was e f ok err =
    let b = taken_and_put old out new at none taken list low was e f in
    either_way r ok err
    (λ a. let P : List NetId → Type 0 = λ l. IsAscending (λ m. has_id l m || nat_eq n m) list in grown-at old new at n list low up b.1 (subst P b.0 a))
    (λ g.
    let same : new ≡ old = b.1 ∙ (ap (set old at) (g ∙ b.0) ∙ set-get_or old at []) in
    let P : List (List NetId) → Type 0 = λ l. IsGrown old l (is_edge n at) in
    subst P (sym same) (grown-none old (is_edge n at) up))

pub reader-has : {T E : Type 0} (r : Result T E) (old out new : List (List NetId)) (at n : ℕ) (none taken list : List NetId) → at < length old
    → slice_get old at ≡ Some taken → out ≡ set old at none → new ≡ set out at list
    → OnOk r (IsAscending (λ m. has_id taken m || nat_eq n m) list) → OnOk r (HasAll new (is_edge n at))
reader-has r old out new at n none taken list low was e f ok =
    let b = taken_and_put old out new at none taken list low was e f in
    let P : List NetId → Type 0 = λ l. IsAscending (λ m. has_id l m || nat_eq n m) list in
    on_ok_weaker {P = P taken} {Q = HasAll new (is_edge n at)} r (λ a. given-at old new at n list low b.1 (subst P b.0 a)) ok

pub reader-taken : (old out new : List (List NetId)) (at n : ℕ) (none taken list : List NetId) → at < length old → AllAscend old
    → slice_get old at ≡ Some taken → out ≡ set old at none → new ≡ set out at list
    → IsAscending (λ m. has_id taken m && not (nat_eq n m)) list → IsShrunk old new (is_edge n at)
reader-taken old out new at n none taken list low up was e f a =
    let b = taken_and_put old out new at none taken list low was e f in
    let P : List NetId → Type 0 = λ l. IsAscending (λ m. has_id l m && not (nat_eq n m)) list in
    shrunk-at old new at n list low up b.1 (subst P b.0 a)

-- ---- one after another

pub grown-more : (a b c : List (List NetId)) (g h k : ℕ → ℕ → Bool) → IsGrown a b g → IsGrown b c h → ((n m : ℕ) → g n m ≡ true → k n m ≡ true) → ((n m : ℕ) → h n m ≡ true → k n m ≡ true) → IsGrown a c k
grown-more a b c g h k first second in_g in_h = record {
  long = second.long ∙ first.long;
  ascend = second.ascend;
  kept = λ n m y. second.kept n m (first.kept n m y);
  only = λ n m y.
      ⊎_elim
      (λ (z : has_id (row b m) n ≡ true).
      ⊎_elim
      (λ (w : has_id (row a m) n ≡ true). or_left (has_id (row a m) n) (k n m) w)
      (λ (w : g n m ≡ true). or_right (has_id (row a m) n) (k n m) (in_g n m w))
      (or_cases (has_id (row a m) n) (g n m) (first.only n m z)))
      (λ (z : h n m ≡ true). or_right (has_id (row a m) n) (k n m) (in_h n m z))
      (or_cases (has_id (row b m) n) (h n m) (second.only n m y));
}

pub has_all-none : (readers : List (List NetId)) (k : ℕ → ℕ → Bool) → ((n m : ℕ) → k n m ≡ false) → HasAll readers k
has_all-none readers k none = record { each = λ n m h. absurd (false≢true (sym (none n m) ∙ h)) }

pub has_all-more : (b c : List (List NetId)) (g h k : ℕ → ℕ → Bool) → HasAll b g → IsGrown b c h → HasAll c h → ((n m : ℕ) → k n m ≡ (g n m || h n m)) → HasAll c k
has_all-more b c g h k first grown second is = record {
  each = λ n m y.
      ⊎_elim
      (λ (z : g n m ≡ true). grown.kept n m (first.each n m z))
      (λ (z : h n m ≡ true). second.each n m z)
      (or_cases (g n m) (h n m) (sym (is n m) ∙ y));
}

pub shrunk-none : (old : List (List NetId)) (gone : ℕ → ℕ → Bool) → AllAscend old → ((n m : ℕ) → gone n m ≡ false) → IsShrunk old old gone
shrunk-none old gone up none = record { long = refl; ascend = up; left = λ n m. stays (has_id (row old m) n) ∙ ap (λ b. has_id (row old m) n && not b) (sym (none n m)) }
  where
    stays : (b : Bool) → b ≡ (b && not false)
    stays true = refl
    stays false = refl

pub shrunk-more : (a b c : List (List NetId)) (g h k : ℕ → ℕ → Bool) → IsShrunk a b g → IsShrunk b c h → ((n m : ℕ) → k n m ≡ (g n m || h n m)) → IsShrunk a c k
shrunk-more a b c g h k first second is = record {
  long = second.long ∙ first.long;
  ascend = second.ascend;
  left = λ n m. second.left n m ∙ (ap (λ b. b && not (h n m)) (first.left n m) ∙ (both (has_id (row a m) n) (g n m) (h n m) ∙ ap (λ b. has_id (row a m) n && not b) (sym (is n m))));
}
  where
    both : (x y z : Bool) → ((x && not y) && not z) ≡ (x && not (y || z))
    both false y z = refl
    both true true z = refl
    both true false z = refl

pub shrunk-same : (a b : List (List NetId)) (g k : ℕ → ℕ → Bool) → IsShrunk a b g → ((n m : ℕ) → k n m ≡ g n m) → IsShrunk a b k
shrunk-same a b g k s is = record {
  long = s.long;
  ascend = s.ascend;
  left = λ n m. s.left n m ∙ ap (λ b. has_id (row a m) n && not b) (sym (is n m));
}
