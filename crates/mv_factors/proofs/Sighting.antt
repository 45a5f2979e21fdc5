-- On which variables sets may depend, after a change.
use Rattle.std.proofs.Common.{◌≡◌, ◌≤◌, ◌<◌, ◌+◌, ℕ, zero, suc, Bool, false, List, [], ◌∷◌, Option, Some, length, slice_get, vec_capacity, refl, sym, ap, subst, ◌∙◌, inl, inr, arith}
use Rattle.std.proofs.lemmas.Bool.{cases_eq}
use Rattle.std.proofs.Math.ListN.{set, length-set}
use Rattle.std.specs.Option.{option_map_or}
use Rattle.mv_pool.specs.Walks.{mark}
use Rattle.mv_diagram.specs.Found.{AreTested}
use Rattle.std.specs.declared.vec.Vec.{Vec}
use Rattle.std.specs.declared.alloc.Global.{Global}
use Rattle.mv_factors.specs.Families.{Family, Keeps, diagram_at, everywhere, set_at}
use Rattle.mv_factors.specs.Leaving.{IsFreeOf}
use Rattle.mv_factors.specs.Seen.{AreSeenBefore, HasRows, IsSeen, KeepsWork, Sees, may}
use Rattle.mv_factors.specs.declared.seen.Work.{Work}
use Rattle.mv_factors.proofs.Agreeing.{free_ignored, free_same}

-- what stands in a list where one element was replaced
get_same : {X : Type 0} (xs : List X) (k : ℕ) (x : X) → k < length xs → slice_get (set xs k x) k ≡ Some x
get_same [] k x less = absurd (omega arith)
get_same (y ∷ ys) zero x less = refl
get_same (y ∷ ys) (suc k) x less = get_same ys k x (omega arith)

get_other : {X : Type 0} (xs : List X) (k j : ℕ) (x : X) → (j ≡ k → ⊥) → slice_get (set xs k x) j ≡ slice_get xs j
get_other [] k j x ne = refl
get_other (y ∷ ys) zero zero x ne = absurd (ne refl)
get_other (y ∷ ys) zero (suc j) x ne = refl
get_other (y ∷ ys) (suc k) zero x ne = refl
get_other (y ∷ ys) (suc k) (suc j) x ne = get_other ys k j x (λ e. ne (omega arith))

-- whether a row, where there is one, has a mark
abbrev marked : ℕ → Option (Vec Bool Global) → Bool
marked v row = option_map_or (λ (r : Vec Bool Global). mark r.items v) row false

-- a row is replaced by that of the set at its place
pub seen_row : (f : Family) (place : ℕ) (rows : List (Vec Bool Global)) (old new : Vec Bool Global) → place < length rows
    → slice_get rows place ≡ Some old → vec_capacity old ≤ vec_capacity new
    → AreTested f.contents (diagram_at f place) new.items → IsSeen f place rows (set rows place new)
seen_row f place rows old new inside there more tested = record {
  others = λ k v ne. ap (marked v) (get_other rows place k new ne);
  here = λ v out.
      free_ignored f.contents.counts (λ p. set_at f place p) v
      (tested.ignores v (sym (ap (marked v) (get_same rows place new inside)) ∙ out));
  has = λ places vars has. record {
    long = subst (λ n. places ≤ n) (sym (length-set rows place new)) has.long;
    room = λ k row less at. elim (cases_eq k place) [
      | inl same ↦
          let is : Some new ≡ Some row = sym (get_same rows place new inside) ∙ ap (slice_get (set rows place new)) (sym same) ∙ at in
          let e : new ≡ row = cc in
          let first = has.room place old (omega arith) there in
          subst (λ (r : Vec Bool Global). vars ≤ vec_capacity r) e (omega arith)
      | inr ne ↦ has.room k row less (sym (get_other rows place k new ne) ∙ at)
    ];
  };
}

-- all sets are the same
pub sees_same : (f g : Family) (rows : List (Vec Bool Global)) → Keeps f g everywhere → length g.list ≡ length f.list → Sees f g rows rows
sees_same f g rows keeps long = record {
  counts = keeps.counts;
  cap = keeps.cap;
  room = keeps.room;
  long = long;
  has = λ places vars has. has;
  seen = λ from old. record {
    each = λ k v low inside out.
        free_same g.contents.counts v (set_at g k) (set_at f k) (λ p. keeps.sets k p refl)
        (subst (λ (cs : List ℕ). IsFreeOf cs (λ p. set_at f k p) v) (sym keeps.counts) (old.each k v low (omega arith) out));
  };
}

-- so many rows are there, and fewer
pub rows_fewer : (rows : List (Vec Bool Global)) (places vars fewer few : ℕ) → fewer ≤ places → few ≤ vars → HasRows rows places vars
    → HasRows rows fewer few
rows_fewer rows places vars fewer few first second has = record {
  long = let long = has.long in omega arith;
  room = λ k row less at. let room = has.room k row (omega arith) at in omega arith;
}

-- two steps
pub sees_then : (f g h : Family) (rows rows' rows'' : List (Vec Bool Global)) → Sees f g rows rows' → Sees g h rows' rows''
    → Sees f h rows rows''
sees_then f g h rows rows' rows'' first second = record {
  counts = second.counts ∙ first.counts;
  cap = second.cap ∙ first.cap;
  room = let a = first.room in let b = second.room in omega arith;
  long = second.long ∙ first.long;
  has = λ places vars has. second.has places vars (first.has places vars has);
  seen = λ from old. second.seen from (first.seen from old);
}

-- one place more was looked at
pub seen_more : (f : Family) (from place : ℕ) (rows rows' : List (Vec Bool Global)) → AreSeenBefore f from place rows
    → IsSeen f place rows rows' → AreSeenBefore f from (place + 1) rows'
seen_more f from place rows rows' before here = record {
  each = λ k v low less out. elim (cases_eq k place) [
    | inl same ↦
        subst (λ n. IsFreeOf f.contents.counts (λ p. set_at f n p) v) (sym same) (here.here v (ap (λ n. may rows' n v) (sym same) ∙ out))
    | inr ne ↦ before.each k v low (omega arith) (sym (here.others k v ne) ∙ out)
  ];
}

-- what is left of the work
pub work_self : (w : Work) → KeepsWork w w
work_self w = record { left = refl; sizes = omega arith; costs = omega arith }

pub work_then : (a b c : Work) → KeepsWork a b → KeepsWork b c → KeepsWork a c
work_then a b c first second = record {
  left = second.left ∙ first.left;
  sizes = let x = first.sizes in let y = second.sizes in omega arith;
  costs = let x = first.costs in let y = second.costs in omega arith;
}
