-- Numbers that come to those found.
use Rattle.std.proofs.Common.{◌≡◌, ◌∙◌, ℕ, ◌+◌, ◌<◌, Bool, true, false, ◌&&◌, ◌||◌, nat_eq, List, [], ◌∷◌, ◌++◌, length, get_or, take, refl, sym, ap, append_assoc, append-nil, ⊎_elim, eq-eqb, eqb-true}
use Rattle.std.proofs.Math.Bool.{or-false}
use Rattle.std.proofs.lemmas.Bool.{cases_Bool, or_cases, or_left, or_right, false≢true, ne_eqb, eqb-false}
use Rattle.std.specs.List.{list_any}
use Rattle.indexmap.specs.IndexSet.{insert_key}
use Rattle.mv_base.specs.declared.number.NetId.{NetId}
use Rattle.mv_graph.specs.Nets.{has_id}
use Rattle.mv_graph.proofs.Nets.{has_id-append, has_id-more, id_eq}
use Rattle.mv_dag.specs.Finding.{HasGained}

pub nat_eq-turned : (m n : ℕ) → nat_eq m n ≡ nat_eq n m
nat_eq-turned m n =
    ⊎_elim (λ (y : nat_eq m n ≡ true). y ∙ sym (eq-eqb n m (sym (eqb-true m n y))))
    (λ (f : nat_eq m n ≡ false). f ∙ sym (ne_eqb n m (λ e. eqb-false m n f (sym e))))
    (cases_Bool (nat_eq m n))

-- a net is in the set exactly if its number is in the list
pub id_among : (ns : List NetId) (k : NetId) → list_any (id_eq k) ns ≡ has_id ns k.0
id_among [] k = refl
id_among (n ∷ ns) k = λ i. nat_eq-turned k.0 n.0 i || id_among ns k i

-- those that were found still are
pub gained_keeps : (old new : List NetId) (passes : ℕ → Bool) → HasGained old new passes → (n : ℕ) → has_id old n ≡ true → has_id new n ≡ true
gained_keeps old new passes g n h = ap (λ ns. has_id ns n) g.grown ∙ (has_id-append old g.added n ∙ or_left (has_id old n) (has_id g.added n) h)

pub HasGained-same : (old new : List NetId) (p q : ℕ → Bool) → ((n : ℕ) → p n ≡ q n) → HasGained old new p → HasGained old new q
HasGained-same old new p q e g = record {
  added = g.added;
  grown = g.grown;
  each = λ n h. g.each n (e n ∙ h);
  only = λ n h. sym (e n) ∙ g.only n h;
}

pub HasGained-none : (old : List NetId) (passes : ℕ → Bool) → ((n : ℕ) → passes n ≡ false) → HasGained old old passes
HasGained-none old passes none = record {
  added = [];
  grown = sym (append-nil old);
  each = λ n h. absurd (false≢true (sym (none n) ∙ h));
  only = λ n h. absurd (false≢true h);
}

pub HasGained-then : (old mid new : List NetId) (p q : ℕ → Bool) → HasGained old mid p → HasGained mid new q → HasGained old new (λ n. p n || q n)
HasGained-then old mid new p q g h = record {
  added = g.added ++ h.added;
  grown = h.grown ∙ (ap (λ ns. ns ++ h.added) g.grown ∙ append_assoc old g.added h.added);
  each = λ n e. ⊎_elim (λ (y : p n ≡ true). gained_keeps mid new q h n (g.each n y)) (λ (y : q n ≡ true). h.each n y) (or_cases (p n) (q n) e);
  only = λ n e.
      ⊎_elim (λ (y : has_id g.added n ≡ true). or_left (p n) (q n) (g.only n y)) (λ (y : has_id h.added n ≡ true). or_right (p n) (q n) (h.only n y))
      (or_cases (has_id g.added n) (has_id h.added n) (sym (has_id-append g.added h.added n) ∙ e));
}

-- one net came to the set
pub HasGained-insert : (old : List NetId) (k : NetId) → HasGained old (insert_key id_eq old k) (nat_eq k.0)
HasGained-insert old k =
    ⊎_elim
    (λ (y : list_any (id_eq k) old ≡ true).
    rw y (record {
      added = [];
      grown = sym (append-nil old);
      each = λ n e. ap (has_id old) (sym (eqb-true k.0 n e)) ∙ (sym (id_among old k) ∙ y);
      only = λ n e. absurd (false≢true e);
    }))
    (λ (f : list_any (id_eq k) old ≡ false).
    rw f (record {
      added = k ∷ [];
      grown = refl;
      each = λ n e. has_id-append old (k ∷ []) n ∙ or_right (has_id old n) (has_id (k ∷ []) n) (or_left (nat_eq k.0 n) false e);
      only = λ n e. sym (or-false (nat_eq k.0 n)) ∙ e;
    }))
    (cases_Bool (list_any (id_eq k) old))

-- ---- a loop over nets

pub and_more : (h q e : Bool) → (e ≡ true → q ≡ true) → ((h || e) && q) ≡ ((h && q) || e)
and_more true true true f = refl
and_more true true false f = refl
and_more true false true f = absurd (false≢true (f refl))
and_more true false false f = refl
and_more false q true f = f refl
and_more false q false f = refl

pub and_same : (h q e : Bool) → (e ≡ true → q ≡ false) → ((h || e) && q) ≡ (h && q)
and_same true q e f = refl
and_same false q true f = f refl
and_same false q false f = refl

-- the next net passes, and came to the set
pub gained_more : (old mid new : List NetId) (nets : List NetId) (passes : ℕ → Bool) (i : ℕ) (x d : NetId) → i < length nets → x ≡ get_or nets i d → passes x.0 ≡ true → new ≡ insert_key id_eq mid x → HasGained old mid (λ n. has_id (take i nets) n && passes n) → HasGained old new (λ n. has_id (take (i + 1) nets) n && passes n)
gained_more old mid new nets passes i x d low is here put g =
    let both : HasGained old new (λ n. (has_id (take i nets) n && passes n) || nat_eq x.0 n) = rw put (HasGained-then old mid (insert_key id_eq mid x) (λ n. has_id (take i nets) n && passes n) (nat_eq x.0) g (HasGained-insert mid x)) in
    HasGained-same old new (λ n. (has_id (take i nets) n && passes n) || nat_eq x.0 n) (λ n. has_id (take (i + 1) nets) n && passes n)
    (λ n. sym (ap (λ b. b && passes n) (has_id-more nets i x d n low is) ∙ and_more (has_id (take i nets) n) (passes n) (nat_eq x.0 n) (λ e. ap passes (sym (eqb-true x.0 n e)) ∙ here)))
    both

-- the next net doesn't pass
pub gained_past : (old new : List NetId) (nets : List NetId) (passes : ℕ → Bool) (i : ℕ) (x d : NetId) → i < length nets → x ≡ get_or nets i d → passes x.0 ≡ false → HasGained old new (λ n. has_id (take i nets) n && passes n) → HasGained old new (λ n. has_id (take (i + 1) nets) n && passes n)
gained_past old new nets passes i x d low is past g =
    HasGained-same old new (λ n. has_id (take i nets) n && passes n) (λ n. has_id (take (i + 1) nets) n && passes n)
    (λ n. sym (ap (λ b. b && passes n) (has_id-more nets i x d n low is) ∙ and_same (has_id (take i nets) n) (passes n) (nat_eq x.0 n) (λ e. ap passes (sym (eqb-true x.0 n e)) ∙ past)))
    g
