-- Lists turned round, number by number.
use Rattle.std.proofs.Common.{◌≡◌, ◌∙◌, ℕ, ◌+◌, ◌-◌, ◌<◌, Bool, true, false, ◌&&◌, ◌||◌, cond, nat_eq, nat_lt, List, [], ◌∷◌, ◌++◌, length, get_or, set, take, Option, Some, None, refl, sym, ap, subst, ⊎_elim, eq-eqb, eqb-true, arith}
use Rattle.std.specs.List.{slice_get}
use Rattle.std.proofs.Math.Bool.{or-false}
use Rattle.std.proofs.lemmas.Bool.{cases_Bool, or_left, or_right, le-ltb, eqb-false, false≢true}
use Rattle.std.proofs.lemmas.List.{get_or-set_same, get_or-set_other, length-set}
use Rattle.mv_base.specs.declared.number.NetId.{NetId}
use Rattle.mv_graph.specs.Nets.{has_id, row, IsAscending}
use Rattle.mv_graph.specs.Transposing.{is_last, with_last, IsPutOn}
use Rattle.mv_graph.proofs.Nets.{has_id-more, IsAscending-push, IsAscending-skip}

-- ---- a net that stands last

abbrev pub is_net : Option NetId → NetId → Bool
is_net None k = false
is_net (Some n) k = nat_eq n.0 k.0

last_at : (n : NetId) (ns : List NetId) (k : NetId) → is_last (n ∷ ns) k ≡ is_net (slice_get (n ∷ ns) (length ns)) k
last_at n [] k = refl
last_at n (m ∷ ns) k = last_at m ns k

pub is_last-read : (ns : List NetId) (k : NetId) → is_last ns k ≡ is_net (slice_get ns (length ns - 1)) k
is_last-read [] k = refl
is_last-read (n ∷ ns) k = let e : length (n ∷ ns) - 1 ≡ length ns = omega arith in last_at n ns k ∙ ap (λ i. is_net (slice_get (n ∷ ns) i) k) (sym e)

is_last-push : (ns : List NetId) (k : NetId) → is_last (ns ++ k ∷ []) k ≡ true
is_last-push [] k = eq-eqb k.0 k.0 refl
is_last-push (n ∷ []) k = eq-eqb k.0 k.0 refl
is_last-push (n ∷ m ∷ ns) k = is_last-push (m ∷ ns) k

is_last-has : (ns : List NetId) (k : NetId) → is_last ns k ≡ true → has_id ns k.0 ≡ true
is_last-has [] k e = absurd (false≢true e)
is_last-has (n ∷ []) k e = or_left (nat_eq n.0 k.0) false e
is_last-has (n ∷ m ∷ ns) k e = or_right (nat_eq n.0 k.0) _ (is_last-has (m ∷ ns) k e)

-- put at the end twice is put there once
with_last-twice : (ns : List NetId) (k : NetId) → with_last (with_last ns k) k ≡ with_last ns k
with_last-twice ns k =
    ⊎_elim (λ (y : is_last ns k ≡ true). rw y (rw y refl))
    (λ (f : is_last ns k ≡ false). rw f (rw (is_last-push ns k) refl))
    (cases_Bool (is_last ns k))

-- one that isn't in the list comes to its end
with_last-fresh : (ns : List NetId) (k : NetId) → has_id ns k.0 ≡ false → with_last ns k ≡ ns ++ k ∷ []
with_last-fresh ns k out =
    ⊎_elim (λ (y : is_last ns k ≡ true). absurd (false≢true (sym out ∙ is_last-has ns k y)))
    (λ (f : is_last ns k ≡ false). rw f refl)
    (cases_Bool (is_last ns k))

-- ---- one net on the lists of those that it names

-- the list at one place
pub IsPutOn-more : (old mid new : List (List NetId)) (ns : List NetId) (i : ℕ) (x d k : NetId) → i < length ns → x ≡ get_or ns i d → x.0 < length mid → IsPutOn old (take i ns) k mid → new ≡ set mid x.0 (with_last (row mid x.0) k) → IsPutOn old (take (i + 1) ns) k new
IsPutOn-more old mid new ns i x d k lt is within before e = record {
  long = ap length e ∙ (length-set mid x.0 (with_last (row mid x.0) k) ∙ before.long);
  each = λ m. ap (λ rows. row rows m) e ∙ (at m ∙ ap (λ b. cond b (with_last (row old m) k) (row old m)) (sym (has_id-more ns i x d m lt is)));
}
  where
    again : (b : Bool) (l : List NetId) → with_last (cond b (with_last l k) l) k ≡ with_last l k
    again true l = with_last-twice l k
    again false l = refl

    here : (m : ℕ) → m ≡ x.0 → row (set mid x.0 (with_last (row mid x.0) k)) m ≡ with_last (row old m) k
    here m y =
        let P : ℕ → Type 0 = λ j. row (set mid x.0 (with_last (row mid x.0) k)) j ≡ with_last (row old j) k in
        subst P (sym y) (get_or-set_same mid x.0 (with_last (row mid x.0) k) [] within ∙ (ap (λ l. with_last l k) (before.each x.0) ∙ again (has_id (take i ns) x.0) (row old x.0)))

    at : (m : ℕ) → row (set mid x.0 (with_last (row mid x.0) k)) m ≡ cond (has_id (take i ns) m || nat_eq x.0 m) (with_last (row old m) k) (row old m)
    at m =
        ⊎_elim
        (λ (y : nat_eq x.0 m ≡ true). here m (sym (eqb-true x.0 m y)) ∙ ap (λ b. cond b (with_last (row old m) k) (row old m)) (sym (or_right (has_id (take i ns) m) (nat_eq x.0 m) y)))
        (λ (f : nat_eq x.0 m ≡ false).
        get_or-set_other mid x.0 m (with_last (row mid x.0) k) [] (λ e. eqb-false x.0 m f (sym e)) ∙ (before.each m ∙ ap (λ b. cond b (with_last (row old m) k) (row old m)) (sym (ap (λ b. has_id (take i ns) m || b) f ∙ or-false (has_id (take i ns) m)))))
        (cases_Bool (nat_eq x.0 m))

-- ---- number by number

-- the lists turned round as far as those below i
pub record IsTransposeBelow (i : ℕ) (rows turned : List (List NetId)) : Type 0 where
  pub long : length turned ≡ length rows
  pub each : (m : ℕ) → IsAscending (λ n. nat_lt n i && has_id (row rows n) m) (row turned m)

pub IsTransposeBelow-more : (i : ℕ) (rows mid new : List (List NetId)) (k : NetId) → k.0 ≡ i → IsTransposeBelow i rows mid → IsPutOn mid (row rows i) k new → IsTransposeBelow (i + 1) rows new
IsTransposeBelow-more i rows mid new k is below put = record { long = put.long ∙ below.long; each = each }
  where
    fresh : (m : ℕ) → has_id (row mid m) k.0 ≡ false
    fresh m = (below.each m).members k.0 ∙ ap (λ b. b && has_id (row rows k.0) m) (le-ltb k.0 i (omega arith))

    pushed : (m : ℕ) → has_id (row rows i) m ≡ true → IsAscending (λ n. nat_lt n (i + 1) && has_id (row rows n) m) (row mid m ++ k ∷ [])
    pushed m y =
        let Q : ℕ → Type 0 = λ j. IsAscending (λ n. nat_lt n (j + 1) && has_id (row rows n) m) (row mid m ++ k ∷ []) in
        let R : ℕ → Type 0 = λ j. IsAscending (λ n. nat_lt n j && has_id (row rows n) m) (row mid m) in
        subst Q is (IsAscending-push (λ n. has_id (row rows n) m) k (row mid m) (subst R (sym is) (below.each m)) (ap (λ j. has_id (row rows j) m) is ∙ y))

    each : (m : ℕ) → IsAscending (λ n. nat_lt n (i + 1) && has_id (row rows n) m) (row new m)
    each m =
        let P : List NetId → Type 0 = IsAscending (λ n. nat_lt n (i + 1) && has_id (row rows n) m) in
        ⊎_elim
        (λ (y : has_id (row rows i) m ≡ true).
        subst P (sym (put.each m ∙ (ap (λ b. cond b (with_last (row mid m) k) (row mid m)) y ∙ with_last-fresh (row mid m) k (fresh m)))) (pushed m y))
        (λ (f : has_id (row rows i) m ≡ false).
        subst P (sym (put.each m ∙ ap (λ b. cond b (with_last (row mid m) k) (row mid m)) f)) (IsAscending-skip (λ n. has_id (row rows n) m) i (row mid m) (below.each m) f))
        (cases_Bool (has_id (row rows i) m))
