-- Nets are put into a set, and variables of nets behind a list, one after another.
use Rattle.std.proofs.Common.{◌≡◌, ◌∙◌, ℕ, zero, suc, ◌+◌, ◌<◌, ◌||◌, Bool, true, false, not, cond, nat_eq, List, [], ◌∷◌, ◌++◌, length, map, take, filter, get_or, nat_lt, Option, Some, None, is_some, refl, sym, ap, ⊎_elim, arith}
use Rattle.std.specs.List.{list_any, position, position_or_len}
use Rattle.std.specs.Option.{IsSome}
use Rattle.std.proofs.Math.Bool.{or-false}
use Rattle.std.proofs.lemmas.Bool.{cases_Bool, true≢false, or_left, eqb-true, lt-ltb}
use Rattle.indexmap.specs.IndexSet.{insert_all, insert_key}
use Rattle.mv_base.specs.declared.number.NetId.{NetId}
use Rattle.mv_factors.specs.declared.inner.Inner.{Inner}
use Rattle.mv_graph.specs.Nets.{has_id, IsAscending}
use Rattle.mv_graph.proofs.Nets.{has_id-append}
use Rattle.mv_net.specs.declared.parts.FlatNet.{FlatNet}
use Rattle.mv_net.specs.Nets.{reads_in}
use Rattle.mv_net.specs.Searching.{same_id}
use Rattle.mv_net.proofs.Reaching.{set-has_id}
use Rattle.mv_wide.specs.Inners.{inner_vars, touches, vars_beside}

-- ---- a set of nets

inserted : (ks : List NetId) (x : NetId) (m : ℕ) (b : Bool) → list_any (same_id x) ks ≡ b → has_id (cond b ks (ks ++ x ∷ [])) m ≡ (has_id ks m || nat_eq x.0 m)
inserted ks x m false e = has_id-append ks (x ∷ []) m ∙ ap (λ c. has_id ks m || c) (or-false (nat_eq x.0 m))
inserted ks x m true e =
    ⊎_elim
    (λ (y : nat_eq x.0 m ≡ true).
    let there : has_id ks m ≡ true = ap (has_id ks) (sym (eqb-true x.0 m y)) ∙ (sym (set-has_id x ks) ∙ e) in
    there ∙ sym (or_left (has_id ks m) (nat_eq x.0 m) there))
    (λ (f : nat_eq x.0 m ≡ false). sym (ap (λ c. has_id ks m || c) f ∙ or-false (has_id ks m)))
    (cases_Bool (nat_eq x.0 m))

has_inserted : (ks : List NetId) (x : NetId) (m : ℕ) → has_id (insert_key same_id ks x) m ≡ (has_id ks m || nat_eq x.0 m)
has_inserted ks x m = inserted ks x m (list_any (same_id x) ks) refl

or_assoc : (a b c : Bool) → ((a || b) || c) ≡ (a || (b || c))
or_assoc true b c = refl
or_assoc false b c = refl

pub has_all_inserted : (ks xs : List NetId) (m : ℕ) → has_id (insert_all same_id ks xs) m ≡ (has_id ks m || has_id xs m)
has_all_inserted ks [] m = sym (or-false (has_id ks m))
has_all_inserted ks (x ∷ xs) m =
    has_all_inserted (insert_key same_id ks x) xs m ∙ ap (λ b. b || has_id xs m) (has_inserted ks x m)
    ∙ or_assoc (has_id ks m) (nat_eq x.0 m) (has_id xs m)

-- the fanins of a table, and then the table
pub table_inserted : (reads : ℕ → Bool) (old mid new fanins : List NetId) (t : NetId) → IsAscending reads fanins
    → ((m : ℕ) → has_id mid m ≡ (has_id old m || has_id fanins m)) → new ≡ insert_key same_id mid t
    → (m : ℕ) → has_id new m ≡ (has_id old m || (reads m || nat_eq t.0 m))
table_inserted reads old mid new fanins t are first is m =
    ap (λ l. has_id l m) is ∙ has_inserted mid t m ∙ ap (λ b. b || nat_eq t.0 m) (first m ∙ ap (λ b. has_id old m || b) (are.members m))
    ∙ or_assoc (has_id old m) (reads m) (nat_eq t.0 m)

-- ---- one table more

pub touch_more : (nets : List (Option FlatNet)) (xs : List NetId) (i : ℕ) (x d : NetId) (m : ℕ) → i < length xs → x ≡ get_or xs i d
    → touches nets (take (i + 1) xs) m ≡ (touches nets (take i xs) m || (reads_in nets x.0 m || nat_eq x.0 m))
touch_more nets [] i x d m low is = absurd (omega (arith, low))
touch_more nets (y ∷ ys) zero x d m low is =
    or-false (reads_in nets y.0 m || nat_eq y.0 m) ∙ ap (λ (z : NetId). reads_in nets z.0 m || nat_eq z.0 m) (sym is)
touch_more nets (y ∷ ys) (suc i) x d m low is =
    let e : suc i + 1 ≡ suc (i + 1) = omega arith in
    ap (λ k. touches nets (take k (y ∷ ys)) m) e
    ∙ ap (λ b. (reads_in nets y.0 m || nat_eq y.0 m) || b) (touch_more nets ys i x d m (omega (arith, low)) is)
    ∙ sym (or_assoc (reads_in nets y.0 m || nat_eq y.0 m) (touches nets (take i ys) m) (reads_in nets x.0 m || nat_eq x.0 m))

-- ---- variables of nets

map_cond : (vars : List ℕ) (b : Bool) (n : NetId) (xs : List NetId)
    → map (λ (m : NetId). get_or vars m.0 0) (cond b (n ∷ xs) xs) ≡ cond b (get_or vars n.0 0 ∷ []) [] ++ map (λ (m : NetId). get_or vars m.0 0) xs
map_cond vars true n xs = refl
map_cond vars false n xs = refl

append_assoc' : (xs ys zs : List ℕ) → (xs ++ ys) ++ zs ≡ xs ++ (ys ++ zs)
append_assoc' [] ys zs = refl
append_assoc' (x ∷ xs) ys zs = ap (λ l. x ∷ l) (append_assoc' xs ys zs)

append_none : (xs : List ℕ) → xs ++ [] ≡ xs
append_none [] = refl
append_none (x ∷ xs) = ap (λ l. x ∷ l) (append_none xs)

-- what one net more adds
own_var : List ℕ → List NetId → NetId → List ℕ
own_var vars keep n = cond (not (has_id keep n.0)) (get_or vars n.0 0 ∷ []) []

vars_step : (vars : List ℕ) (keep ns : List NetId) (i : ℕ) (x d : NetId) → i < length ns → x ≡ get_or ns i d
    → vars_beside vars keep (take (i + 1) ns) ≡ vars_beside vars keep (take i ns) ++ cond (not (has_id keep x.0)) (get_or vars x.0 0 ∷ []) []
vars_step vars keep [] i x d low is = absurd (omega (arith, low))
vars_step vars keep (n ∷ ns) zero x d low is =
    map_cond vars (not (has_id keep n.0)) n [] ∙ append_none (cond (not (has_id keep n.0)) (get_or vars n.0 0 ∷ []) [])
    ∙ ap (λ (y : NetId). cond (not (has_id keep y.0)) (get_or vars y.0 0 ∷ []) []) (sym is)
vars_step vars keep (n ∷ ns) (suc i) x d low is =
    let e : suc i + 1 ≡ suc (i + 1) = omega arith in
    ap (λ k. vars_beside vars keep (take k (n ∷ ns))) e
    ∙ map_cond vars (not (has_id keep n.0)) n (filter (λ (m : NetId). not (has_id keep m.0)) (take (i + 1) ns))
    ∙ ap (λ l. cond (not (has_id keep n.0)) (get_or vars n.0 0 ∷ []) [] ++ l) (vars_step vars keep ns i x d (omega (arith, low)) is)
    ∙ sym (append_assoc' (cond (not (has_id keep n.0)) (get_or vars n.0 0 ∷ []) []) (vars_beside vars keep (take i ns)) (cond (not (has_id keep x.0)) (get_or vars x.0 0 ∷ []) []))
    ∙ ap (λ l. l ++ cond (not (has_id keep x.0)) (get_or vars x.0 0 ∷ []) [])
    (sym (map_cond vars (not (has_id keep n.0)) n (filter (λ (m : NetId). not (has_id keep m.0)) (take i ns))))

inner_more : (inner : List Inner) (i : Inner) → inner_vars (inner ++ i ∷ []) ≡ inner_vars inner ++ i.var ∷ []
inner_more [] i = refl
inner_more (j ∷ js) i = ap (λ l. j.var ∷ l) (inner_more js i)

-- a net that isn't kept
pub vars_more : (vars : List ℕ) (keep ns : List NetId) (i : ℕ) (x d : NetId) (start : List ℕ) (inner : List Inner) (one : Inner) → i < length ns → x ≡ get_or ns i d
    → has_id keep x.0 ≡ false → inner_vars inner ≡ start ++ vars_beside vars keep (take i ns) → one.var ≡ get_or vars x.0 0
    → inner_vars (inner ++ one ∷ []) ≡ start ++ vars_beside vars keep (take (i + 1) ns)
vars_more vars keep ns i x d start inner one low is none same own =
    inner_more inner one ∙ (λ k. same k ++ own k ∷ [])
    ∙ append_assoc' start (vars_beside vars keep (take i ns)) (get_or vars x.0 0 ∷ [])
    ∙ ap (λ l. start ++ l)
    (sym (vars_step vars keep ns i x d low is ∙ (λ k. vars_beside vars keep (take i ns) ++ cond (not (none k)) (get_or vars x.0 0 ∷ []) [])))

-- one that is
pub vars_skip : (vars : List ℕ) (keep ns : List NetId) (i : ℕ) (x d : NetId) (start : List ℕ) (inner : List Inner) → i < length ns → x ≡ get_or ns i d
    → has_id keep x.0 ≡ true → inner_vars inner ≡ start ++ vars_beside vars keep (take i ns)
    → inner_vars inner ≡ start ++ vars_beside vars keep (take (i + 1) ns)
vars_skip vars keep ns i x d start inner low is some same =
    same
    ∙ ap (λ l. start ++ l)
    (sym (vars_step vars keep ns i x d low is ∙ (λ k. vars_beside vars keep (take i ns) ++ cond (not (some k)) (get_or vars x.0 0 ∷ []) [])
    ∙ append_none (vars_beside vars keep (take i ns))))

-- ---- places

any_place : {X : Type 0} (p : X → Bool) (xs : List X) → list_any p xs ≡ true → position_or_len p xs < length xs
any_place p [] is = absurd (true≢false (sym is))
any_place p (x ∷ xs) is =
    ⊎_elim
    (λ (here : p x ≡ true). let e : position_or_len p (x ∷ xs) ≡ 0 = λ i. cond (not (here i)) (1 + position_or_len p xs) 0 in omega (arith, e))
    (λ (none : p x ≡ false).
    let e : position_or_len p (x ∷ xs) ≡ 1 + position_or_len p xs = λ i. cond (not (none i)) (1 + position_or_len p xs) 0 in
    let rest = any_place p xs (sym (λ i. none i || list_any p xs) ∙ is) in
    omega (arith, e, rest))
    (cases_Bool (p x))

pub has_place : (ns : List NetId) (n : ℕ) (r : Option ℕ) → has_id ns n ≡ true → r ≡ position (λ (m : NetId). nat_eq m.0 n) ns → IsSome r
has_place ns n r is same =
    let p : NetId → Bool = λ m. nat_eq m.0 n in
    let low : nat_lt (position_or_len p ns) (length ns) ≡ true = lt-ltb (position_or_len p ns) (length ns) (any_place p ns is) in
    ap is_some (same ∙ (λ i. cond (low i) (Some (position_or_len p ns)) None))

-- ---- one net behind others

pub kept_with : (reads : ℕ → Bool) (fanins keep : List NetId) (n : NetId) → IsAscending reads fanins → keep ≡ fanins ++ n ∷ []
    → (m : ℕ) → has_id keep m ≡ (reads m || nat_eq n.0 m)
kept_with reads fanins keep n are is m =
    ap (λ l. has_id l m) is ∙ has_id-append fanins (n ∷ []) m ∙ ap (λ b. b || (nat_eq n.0 m || false)) (are.members m)
    ∙ ap (λ b. reads m || b) (or-false (nat_eq n.0 m))
