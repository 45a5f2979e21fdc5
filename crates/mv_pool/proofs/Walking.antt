-- A walk along links, as it goes on.
use Rattle.std.proofs.Common.{◌≡◌, ℕ, zero, suc, ◌+◌, ◌<◌, ◌≤◌, ◌≢◌, ◌⊎◌, Bool, true, false, cond, List, [], ◌∷◌, ◌++◌, Option, None, Some, All, length, get_or, is_some, count_by, refl, sym, ap, ◌∙◌, inl, inr, true≢false, arith}
use Rattle.std.proofs.Math.ListN.{set}
use Rattle.std.proofs.lemmas.Bool.{cases_lt, cases_order}
use Rattle.std.proofs.lemmas.List.{get_or-set_same, get_or-set_other, length-set, get_or_past, get_or_append_left, length-append}
use Rattle.std.proofs.lemmas.List.Sums.{sum_by-set, count_by-le-length}
use Rattle.std.proofs.lemmas.Option.{same_Some}
use Rattle.mv_pool.specs.declared.pool.Id.{Id}
use Rattle.mv_pool.specs.Places.{item_at}
use Rattle.mv_pool.specs.Reached.{IsClosed, LinksAreHeld, IsReached, IsReclaimed, AreListed}
use Rattle.mv_pool.proofs.Positions.{passes_within}
use Rattle.mv_pool.proofs.Finding.{Loses}
use Rattle.mv_pool.specs.Walks.{mark, IsQueued, HasReached, IsWalking, AreRooted, AreFreed}

-- a marked place has a mark
pub marked_within : (m : List Bool) (n : ℕ) → mark m n ≡ true → n < length m
marked_within [] n h = absurd (true≢false (sym h))
marked_within (b ∷ m) zero h = omega arith
marked_within (b ∷ m) (suc n) h = let rest = marked_within m n h in omega arith

-- one place more is marked
pub count-set : (m : List Bool) (n : ℕ) → n < length m → mark m n ≡ false → count_by (λ b. b) (set m n true) ≡ count_by (λ b. b) m + 1
count-set m n h e = let s = sum_by-set (λ (b : Bool). cond b 1 0) m n true false h in let zeroes = ap {A = Bool} {B = ℕ} (λ b. cond b 1 0) e in omega (arith, s, zeroes)

-- not all places are marked
pub count-less : (m : List Bool) (n : ℕ) → n < length m → mark m n ≡ false → count_by (λ b. b) m < length m
count-less m n h e =
    let more = count-set m n h e in
    let most = count_by-le-length (λ (b : Bool). b) (set m n true) in
    let same = length-set m n true in
    omega arith

-- the last element
at_end : (q : List ℕ) (x : ℕ) → get_or (q ++ x ∷ []) (length q) 0 ≡ x
at_end [] x = refl
at_end (y ∷ q) x = at_end q x

-- an element that is read, whatever stands for none
pub read_any : {X : Type 0} (xs : List X) (i : ℕ) (x d : X) → i < length xs → x ≡ get_or xs i x → get_or xs i d ≡ x
read_any [] i x d h e = absurd (omega arith)
read_any (y ∷ xs) zero x d h e = sym e
read_any (y ∷ xs) (suc i) x d h e = read_any xs i x d (omega arith) e

-- what stands for none doesn't matter within
pub same_read : {X : Type 0} (xs : List X) (i : ℕ) (d e : X) → i < length xs → get_or xs i d ≡ get_or xs i e
same_read [] i d e h = absurd (omega arith)
same_read (y ∷ xs) zero d e h = refl
same_read (y ∷ xs) (suc i) d e h = same_read xs i d e (omega arith)

module _ (m : List Bool) (q : List ℕ) (at : ℕ) (walk : IsQueued m q) (within : at < length m) (unmarked : mark m at ≡ false) where
  -- the marks of a place more
  marks_new : (n : ℕ) → ((n ≡ at) × (mark (set m at true) n ≡ true)) ⊎ ((n ≢ at) × (mark (set m at true) n ≡ mark m n))
  marks_new n = elim (cases_order n at) [
    | inl same ↦ inl (same, rw same (get_or-set_same m at true false within))
    | inr apart ↦ inr (other apart, get_or-set_other m at n true false (other apart))
  ]
    where
      other : (n < at) ⊎ (at < n) → n ≢ at
      other apart same = elim apart [ inl l ↦ absurd (omega arith) | inr l ↦ absurd (omega arith) ]

  marks_keep : (n : ℕ) → mark m n ≡ true → mark (set m at true) n ≡ true
  marks_keep n h = elim (marks_new n) [ inl p ↦ p.1 | inr p ↦ p.1 ∙ h ]

  longer_new : length (q ++ at ∷ []) ≡ length q + 1
  longer_new = omega (arith, length-append q (at ∷ []))

  -- the walk with a place more
  walk_new : IsQueued (set m at true) (q ++ at ∷ [])
  walk_new = record {
    count = omega (arith, longer_new, count-set m at within unmarked, walk.count);
    marked = λ k h. elim (cases_lt k (length q)) [ inl less ↦ low k less | inr more ↦ high k more (omega (arith, longer_new)) ];
    queued = λ n h. elim (marks_new n) [
      | inl p ↦ (length q, omega (arith, longer_new), at_end q at ∙ sym p.0)
      | inr p ↦ old n (walk.queued n (sym p.1 ∙ h))
    ];
  }
    where
      low : (k : ℕ) → k < length q → mark (set m at true) (get_or (q ++ at ∷ []) k 0) ≡ true
      low k less = rw (get_or_append_left q (at ∷ []) 0 k less) (marks_keep (get_or q k 0) (walk.marked k less))

      high : (k : ℕ) → length q ≤ k → k < length q + 1 → mark (set m at true) (get_or (q ++ at ∷ []) k 0) ≡ true
      high k more less =
          let same : k ≡ length q = omega arith in
          rw (same, at_end q at) (get_or-set_same m at true false within)

      old : (n : ℕ) → (k : ℕ) × (k < length q) × (get_or q k 0 ≡ n) → (k : ℕ) × (k < length (q ++ at ∷ [])) × (get_or (q ++ at ∷ []) k 0 ≡ n)
      old n p = (p.0, omega (arith, longer_new, p.1), get_or_append_left q (at ∷ []) 0 p.0 p.1 ∙ p.2)

  reached_at : (link : Option Id) (id : Id) → link ≡ Some id → id.0 ≡ at → HasReached m q link (set m at true) (q ++ at ∷ [])
  reached_at link id is here = record {
    walk = walk_new;
    size = length-set m at true;
    there = λ other e. rw (same other e) (get_or-set_same m at true false within);
    stays = marks_keep;
    only = λ set old new n h. elim (marks_new n) [ inl p ↦ rw (p.0, ← here) (new id is) | inr p ↦ old n (sym p.1 ∙ h) ];
    first = λ k h. get_or_append_left q (at ∷ []) 0 k h;
    longer = omega (arith, longer_new);
  }
    where
      same : (other : Id) → link ≡ Some other → other.0 ≡ at
      same other e = ap (λ (i : Id). i.0) (same_Some other id (sym e ∙ is)) ∙ here

-- a place that wasn't marked
pub reached_new : (m : List Bool) (q : List ℕ) (link : Option Id) (id : Id) → IsQueued m q → id.0 < length m → mark m id.0 ≡ false → link ≡ Some id → HasReached m q link (set m id.0 true) (q ++ id.0 ∷ [])
reached_new m q link id walk within unmarked is = reached_at m q id.0 walk within unmarked link id is refl

-- a root more is marked
pub rooted_next : (roots : List Id) (m : List Bool) (q : List ℕ) (root : Id) (m' : List Bool) (q' : List ℕ) (i : ℕ) → AreRooted m roots i → HasReached m q (Some root) m' q' → i < length roots → root ≡ get_or roots i root → AreRooted m' roots (i + 1)
rooted_next roots m q root m' q' i are r less is = record { each = λ k d h. elim (cases_lt k i) [ inl low ↦ r.stays (get_or roots k d).0 (are.each k d low) | inr high ↦ here k d (omega arith) ] }
  where
    here : (k : ℕ) (d : Id) → k ≡ i → mark m' (get_or roots k d).0 ≡ true
    here k d same = rw (same, read_any roots i root d less is) (r.there root refl)

module _ {T : Type 0} (link : T → ℕ → Option Id) (ps : List (Option T)) (roots : List Id) where
  -- a walk that reaches a place more
  pub walking_reached : (m : List Bool) (q : List ℕ) (l : Option Id) (m' : List Bool) (q' : List ℕ) (done : ℕ) → IsWalking link ps roots m q done → HasReached m q l m' q' → done ≤ length q
      → ((id : Id) → l ≡ Some id → is_some (item_at ps id.0) ≡ true)
      → ((set : ℕ → Bool) → All (λ (id : Id). set id.0 ≡ true) roots → IsClosed link ps set → (id : Id) → l ≡ Some id → set id.0 ≡ true)
      → IsWalking link ps roots m' q' done
  walking_reached m q l m' q' done w r inside held sound = record {
    walk = r.walk;
    size = r.size ∙ w.size;
    held = r.only (λ n. is_some (item_at ps n)) w.held held;
    sound = λ set rooted closed. r.only set (w.sound set rooted closed) (sound set rooted closed);
    followed = λ j k item id less there low is. r.stays id.0 (w.followed j k item id less (ap (item_at ps) (sym (r.first j (omega arith))) ∙ there) low is);
  }

  -- a root more
  pub walking_root : (m : List Bool) (q : List ℕ) (root : Id) (m' : List Bool) (q' : List ℕ) (i : ℕ) → IsWalking link ps roots m q 0 → HasReached m q (Some root) m' q'
      → All (λ (id : Id). is_some (item_at ps id.0) ≡ true) roots → i < length roots → root ≡ get_or roots i root → IsWalking link ps roots m' q' 0
  walking_root m q root m' q' i w r held less is = walking_reached m q (Some root) m' q' 0 w r (omega arith)
      (λ id e. at (λ n. is_some (item_at ps n)) held id e)
      (λ set rooted closed id e. at set rooted id e)
    where
      at : (set : ℕ → Bool) → All (λ (id : Id). set id.0 ≡ true) roots → (id : Id) → Some root ≡ Some id → set id.0 ≡ true
      at set all id e = rw (← same_Some root id e) (rw is (all i root less))

  -- a place that is read from the queue is one of the places
  pub queue_within : (m : List Bool) (q : List ℕ) (done at place : ℕ) → IsWalking link ps roots m q done → at < length q → place ≡ get_or q at place → place < length ps
  queue_within m q done at place w inside is =
      let here = read_any q at place 0 inside is in
      let within = passes_within is_some refl ps (get_or q at 0) (w.held (get_or q at 0) (w.walk.marked at inside)) in
      omega (arith, here, within)

  -- what is read there is its item
  pub queue_item : (m : List Bool) (q : List ℕ) (done at place : ℕ) (o : Option T) → IsWalking link ps roots m q done → at < length q → place ≡ get_or q at place → o ≡ get_or ps place o → item_at ps (get_or q at 0) ≡ o
  queue_item m q done at place o w inside is read = ap (item_at ps) (read_any q at place 0 inside is) ∙ read_any ps place o None (queue_within m q done at place w inside is) read

  module _ (links : LinksAreHeld link ps) (at : ℕ) (item : T) where
    -- a link of the place in the queue that is next
    pub walking_link : (m0 : List Bool) (q0 : List ℕ) → IsWalking link ps roots m0 q0 at → at < length q0 → item_at ps (get_or q0 at 0) ≡ Some item → (k : ℕ) → k < 2
        → (m : List Bool) (q : List ℕ) (l : Option Id) (m' : List Bool) (q' : List ℕ) → l ≡ link item k → IsWalking link ps roots m q at → at ≤ length q → HasReached m q l m' q' → IsWalking link ps roots m' q' at
    walking_link m0 q0 w0 inside there k low m q l m' q' is w longer r = walking_reached m q l m' q' at w r longer
        (λ id e. links.each (get_or q0 at 0) k item id there low (sym is ∙ e))
        (λ set rooted closed id e. closed.each (get_or q0 at 0) k item id (w0.sound set rooted closed (get_or q0 at 0) (w0.walk.marked at inside)) there low (sym is ∙ e))

    -- a held item's links are within
    pub link_within : (m0 : List Bool) (q0 : List ℕ) → IsWalking link ps roots m0 q0 at → item_at ps (get_or q0 at 0) ≡ Some item → (k : ℕ) → k < 2 → (l : Option Id) → l ≡ link item k → (id : Id) → l ≡ Some id → id.0 < length m0
    link_within m0 q0 w0 there k low l is id e =
        let within = passes_within is_some refl ps id.0 (links.each (get_or q0 at 0) k item id there low (sym is ∙ e)) in
        omega (arith, w0.size)

    -- both links are followed
    pub walking_both : (m0 : List Bool) (q0 : List ℕ) (l0 : Option Id) (m1 : List Bool) (q1 : List ℕ) (l1 : Option Id) (m2 : List Bool) (q2 : List ℕ)
        → IsWalking link ps roots m0 q0 at → at < length q0 → item_at ps (get_or q0 at 0) ≡ Some item → l0 ≡ link item 0 → l1 ≡ link item 1
        → HasReached m0 q0 l0 m1 q1 → HasReached m1 q1 l1 m2 q2 → IsWalking link ps roots m2 q2 (at + 1)
    walking_both m0 q0 l0 m1 q1 l1 m2 q2 w0 inside there is0 is1 r0 r1 = record {
      walk = w2.walk;
      size = w2.size;
      held = w2.held;
      sound = w2.sound;
      followed = λ j k other id less here low is. elim (cases_lt j at) [
        | inl before ↦ w2.followed j k other id before here low is
        | inr last ↦ by j k other id (omega arith) here low is
      ];
    }
      where
        w1 : IsWalking link ps roots m1 q1 at
        w1 = walking_link m0 q0 w0 inside there 0 (omega arith) m0 q0 l0 m1 q1 is0 w0 (omega arith) r0

        w2 : IsWalking link ps roots m2 q2 at
        w2 = walking_link m0 q0 w0 inside there 1 (omega arith) m1 q1 l1 m2 q2 is1 w1 (omega (arith, r0.longer)) r1

        next : (k : ℕ) (id : Id) → k < 2 → link item k ≡ Some id → mark m2 id.0 ≡ true
        next zero id low is = r1.stays id.0 (r0.there id (is0 ∙ is))
        next (suc zero) id low is = r1.there id (is1 ∙ is)
        next (suc (suc k)) id low is = absurd (omega arith)

        by : (j k : ℕ) (other : T) (id : Id) → j ≡ at → item_at ps (get_or q2 j 0) ≡ Some other → k < 2 → link other k ≡ Some id → mark m2 id.0 ≡ true
        by j k other id same here low is =
            let place : get_or q2 at 0 ≡ get_or q0 at 0 = r1.first at (omega (arith, r0.longer)) ∙ r0.first at inside in
            let found : item_at ps (get_or q0 at 0) ≡ Some other = rw (same, place) at here in
            let alike : other ≡ item = same_Some other item (sym found ∙ there) in
            next k id low (ap (λ x. link x k) (sym alike) ∙ is)

  -- the marks are closed, once all links are followed
  closed_marks : (m : List Bool) (q : List ℕ) → IsWalking link ps roots m q (length q) → IsClosed link ps (mark m)
  closed_marks m q w = record { each = λ n k item id marked there low is. by n k item id (w.walk.queued n marked) there low is }
    where
      by : (n k : ℕ) (item : T) (id : Id) → (j : ℕ) × (j < length q) × (get_or q j 0 ≡ n) → item_at ps n ≡ Some item → k < 2 → link item k ≡ Some id → mark m id.0 ≡ true
      by n k item id p there low is = w.followed p.0 k item id p.1 (ap (item_at ps) p.2 ∙ there) low is

  -- what is left where a walk ended and the places that it didn't mark were freed
  pub reclaimed : (m : List Bool) (q : List ℕ) (qs : List (Option T)) → IsWalking link ps roots m q (length q) → AreRooted m roots (length roots) → AreFreed m ps qs (length m) → IsReclaimed link ps roots qs
  reclaimed m q qs w rooted f = record {
    long = f.long;
    kept = λ n reached. f.kept n (reached (mark m) (λ k d h. rooted.each k d h) (closed_marks m q w));
    freed = λ n some. by n (mark m n) refl some;
  }
    where
      absent : (o : Option T) → o ≡ None → is_some o ≡ true → ⊥
      absent o e h = true≢false (sym h ∙ ap is_some e)

      gone : (n : ℕ) → mark m n ≡ false → item_at qs n ≡ None
      gone n e = elim (cases_lt n (length m)) [ inl less ↦ f.freed n less e | inr more ↦ f.later n more ∙ get_or_past ps n None (omega (arith, w.size)) ]

      by : (n : ℕ) (b : Bool) → mark m n ≡ b → is_some (item_at qs n) ≡ true → IsReached link ps roots n
      by n true e some = λ set all closed. w.sound set all closed n e
      by n false e some = absurd (absent (item_at qs n) (gone n e) some)

  -- what is in the queue where a walk ended
  pub listed : (m : List Bool) (q : List ℕ) → IsWalking link ps roots m q (length q) → AreRooted m roots (length roots) → AreListed link ps roots q
  listed m q w rooted = record {
    reached = λ k less set all closed. w.sound set all closed (get_or q k 0) (w.walk.marked k less);
    all = λ n reached. w.walk.queued n (reached (mark m) (λ k d h. rooted.each k d h) (closed_marks m q w));
    marks = m;
    marked = λ n. (λ h set all closed. w.sound set all closed n h, λ reached. reached (mark m) (λ k d h. rooted.each k d h) (closed_marks m q w));
    count = w.walk.count;
    within = omega (arith, w.walk.count, w.size, count_by-le-length (λ (b : Bool). b) m);
  }

-- places that are freed
pub Loses-freed : {T : Type 0} (m : List Bool) (ps qs : List (Option T)) → AreFreed m ps qs (length m) → Loses ps qs
Loses-freed m ps qs f = record { each = λ k. by k (mark m k) refl }
  where
    by : (k : ℕ) (b : Bool) → mark m k ≡ b → (item_at qs k ≡ item_at ps k) ⊎ (item_at qs k ≡ None)
    by k true e = inl (f.kept k e)
    by k false e = elim (cases_lt k (length m)) [ inl less ↦ inr (f.freed k less e) | inr more ↦ inl (f.later k more) ]
