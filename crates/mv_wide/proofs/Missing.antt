-- The points of which some point is missed: copies and a complement are put behind a list, variables are eliminated, and all
-- that is left is met.
use Rattle.std.proofs.Common.{◌≡◌, ◌∙◌, ℕ, ◌+◌, ◌-◌, ◌<◌, ◌⊎◌, ◌||◌, ◌==◌, Bool, true, false, not, cond, List, length, refl, sym, ap, subst, ⊎_elim, inl, inr, arith}
use Rattle.std.proofs.lemmas.Bool.{cases_eq, cases_Bool, eq-eqb, lt-ltb, ne_eqb, or_left, or_right, true≢false}
use Rattle.mv_diagram.specs.Sets.{Point, InRange}
use Rattle.mv_factors.specs.Families.{Family, Keeps, before, but, set_at}
use Rattle.mv_factors.specs.Leaving.{Eliminates, IsInAll}
use Rattle.mv_factors.proofs.Keeping.{but_true}
use Rattle.mv_wide.specs.Families.{AddsMissed, AreCopies, AreMissed, IsInEach, IsStaged}

not_true : (b : Bool) → not b ≡ true → b ≡ false
not_true true h = sym h
not_true false h = refl

cond_true : (b c : Bool) → c ≡ true → cond b true c ≡ true
cond_true true c h = refl
cond_true false c h = h

or_parts : (a b : Bool) → (a || b) ≡ true → (a ≡ true) ⊎ (b ≡ true)
or_parts true b h = inl refl
or_parts false b h = inr h

pub staged : (f g e h : Family) (tables left_out place last : ℕ) → last ≡ length f.list + tables → place < length f.list
    → AreCopies f g 1 tables left_out (length f.list) → Keeps f g (before (length f.list)) → length g.list ≡ length f.list + tables
    → Keeps g e (before (length g.list)) → length e.list ≡ length g.list + 1
    → ((p : Point) → set_at e (length g.list) p ≡ set_at g place p)
    → Keeps e h (but last) → length h.list ≡ length e.list
    → ((p : Point) → set_at h last p ≡ not (set_at e last p))
    → IsStaged f h tables left_out place
staged f g e h tables left_out place last is inside copies first long second longer copy third same turned =
    let there : last ≡ length g.list = omega arith in
    record {
      counts = third.counts ∙ second.counts ∙ first.counts;
      long = omega arith;
      copies = record {
        each = λ k p low.
            let apart : length f.list + k ≡ last → ⊥ = λ eq. absurd (omega arith) in
            let under : length f.list + k < length g.list = omega arith in
            third.sets (length f.list + k) p (but_true last (length f.list + k) apart)
            ∙ second.sets (length f.list + k) p (lt-ltb (length f.list + k) (length g.list) under)
            ∙ copies.each k p low;
      };
      turned = λ p.
          ap (λ n. set_at h n p) (sym is)
          ∙ turned p
          ∙ ap not
          (ap (λ n. set_at e n p) there ∙ copy p ∙ first.sets place p (lt-ltb place (length f.list) inside));
    }

module _ (f h e g : Family) (tables left_out place : ℕ) (vars : ℕ → Bool) (s : IsStaged f h tables left_out place)
    (gone : Eliminates h e (length f.list) vars) (same : length e.list ≡ length h.list) where
  range_there : (p : Point) → InRange f.contents.counts p → InRange h.contents.counts p
  range_there p range = subst (λ (cs : List ℕ). InRange cs p) (sym s.counts) range

  range_back : (p : Point) → InRange h.contents.counts p → InRange f.contents.counts p
  range_back p range = subst (λ (cs : List ℕ). InRange cs p) s.counts range

  other_in : (q : Point) → IsInAll h (length f.list) q → (k : ℕ) → 0 < k → k < tables + 1 → (k ≡ left_out → ⊥) → set_at f k q ≡ true
  other_in q is k low high apart =
      let back : 1 + (k - 1) ≡ k = omega arith in
      let long = s.long in
      let inside : k - 1 < tables = omega arith in
      let here : set_at h (length f.list + (k - 1)) q ≡ true = is.each (length f.list + (k - 1)) (omega arith) (omega arith) in
      let shown : cond ((1 + (k - 1)) == left_out) true (set_at f (1 + (k - 1)) q) ≡ true = sym (s.copies.each (k - 1) q inside) ∙ here in
      let there : cond (k == left_out) true (set_at f k q) ≡ true =
      subst (λ n. cond (n == left_out) true (set_at f n q) ≡ true) back shown in
      subst (λ (b : Bool). cond b true (set_at f k q) ≡ true) (ne_eqb k left_out apart) there

  missed_in : (q : Point) → IsInAll h (length f.list) q → set_at f place q ≡ false
  missed_in q is =
      let long = s.long in
      not_true (set_at f place q) (sym (s.turned q) ∙ is.each (length f.list + tables) (omega arith) (omega arith))

  copied : (q : Point) → ((k : ℕ) → 0 < k → k < tables + 1 → (k ≡ left_out → ⊥) → set_at f k q ≡ true) → (k : ℕ) → 0 < k → k < tables + 1
      → cond (k == left_out) true (set_at f k q) ≡ true
  copied q others k low high =
      ⊎_elim
      (λ (y : (k == left_out) ≡ true). λ i. cond (y i) true (set_at f k q))
      (λ (o : (k == left_out) ≡ false).
      (λ i. cond (o i) true (set_at f k q))
      ∙ others k low high (λ eq. absurd (true≢false (sym (eq-eqb k left_out eq) ∙ o))))
      (cases_Bool (k == left_out))

  all_in : (q : Point) → ((k : ℕ) → 0 < k → k < tables + 1 → (k ≡ left_out → ⊥) → set_at f k q ≡ true) → set_at f place q ≡ false
      → IsInAll h (length f.list) q
  all_in q others missed = record {
    each = λ k low high.
        let long = s.long in
        ⊎_elim
        (λ (last : k ≡ length f.list + tables). ap (λ n. set_at h n q) last ∙ s.turned q ∙ ap not missed)
        (λ (early : k ≡ length f.list + tables → ⊥).
        let spot : length f.list + (k - length f.list) ≡ k = omega arith in
        let inside : k - length f.list < tables = omega arith in
        ap (λ n. set_at h n q) (sym spot) ∙ s.copies.each (k - length f.list) q inside
        ∙ copied q others (1 + (k - length f.list)) (omega arith) (omega arith))
        (cases_eq k (length f.list + tables));
  }

  pub are_missed : ((p : Point) → set_at g (length f.list) p ≡ true → IsInEach e (length f.list) (length e.list) p)
      → ((p : Point) → IsInEach e (length f.list) (length e.list) p → set_at g (length f.list) p ≡ true)
      → AreMissed f g tables left_out place vars (length f.list)
  are_missed only all = record {
    only = λ p range is.
        let each = only p is in
        let near = gone.some p (range_there p range) (record { each = λ k low high. each.each k low high }) in
        record {
          other = near.other;
          range = range_back near.other near.range;
          agrees = near.agrees;
          others = other_in near.other near.is;
          missed = missed_in near.other near.is;
        };
    all = λ p range m.
        let in_all = gone.all p m.other (range_there p range) (range_there m.other m.range) m.agrees (all_in m.other m.others m.missed) in
        all p (record { each = λ k low high. in_all.each k low high });
  }

-- the points that are missed are put into the first set
pub adds_missed : (f g h : Family) (tables left_out place last : ℕ) (vars : ℕ → Bool) → 0 < length f.list → Keeps f g (before (length f.list))
    → last ≡ length f.list → AreMissed f g tables left_out place vars (length f.list)
    → ((p : Point) → set_at h 0 p ≡ (set_at g 0 p || set_at g last p)) → AddsMissed f h tables left_out place vars
adds_missed f g h tables left_out place last vars some keeps is missed union =
    let first : (p : Point) → set_at g 0 p ≡ set_at f 0 p = λ p. keeps.sets 0 p (lt-ltb 0 (length f.list) some) in
    let set : (p : Point) → set_at h 0 p ≡ (set_at f 0 p || set_at g (length f.list) p) = λ p.
    union p ∙ (λ i. first p i || set_at g (is i) p) in
    record {
      only = λ p range yes.
          ⊎_elim (λ (old : set_at f 0 p ≡ true). inl old) (λ (new : set_at g (length f.list) p ≡ true). inr (missed.only p range new))
          (or_parts (set_at f 0 p) (set_at g (length f.list) p) (sym (set p) ∙ yes));
      kept = λ p old. set p ∙ or_left (set_at f 0 p) (set_at g (length f.list) p) old;
      all = λ p range m. set p ∙ or_right (set_at f 0 p) (set_at g (length f.list) p) (missed.all p range m);
    }

-- the same at a place that is the last
pub are_missed_at : (f h e g : Family) (tables left_out place last : ℕ) (vars : ℕ → Bool) → last ≡ length f.list
    → IsStaged f h tables left_out place → Eliminates h e last vars → length e.list ≡ length h.list
    → ((p : Point) → set_at g last p ≡ true → IsInEach e last (length e.list) p)
    → ((p : Point) → IsInEach e last (length e.list) p → set_at g last p ≡ true)
    → AreMissed f g tables left_out place vars (length f.list)
are_missed_at f h e g tables left_out place last vars is s gone same only all =
    are_missed f h e g tables left_out place vars s (subst (λ n. Eliminates h e n vars) is gone) same
    (λ p. subst (λ n. set_at g n p ≡ true → IsInEach e n (length e.list) p) is (only p))
    (λ p. subst (λ n. IsInEach e n (length e.list) p → set_at g n p ≡ true) is (all p))
