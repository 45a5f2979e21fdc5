-- A net's value anew: the greatest of its values that it allows.
use Rattle.std.proofs.Common.{◌≡◌, ◌∙◌, ℕ, zero, suc, ◌<◌, ◌≤◌, Bool, true, false, nat_lt, Option, Some, None, IsTrue, refl, sym, ap, subst, ⊎_elim, arith}
use Rattle.std.specs.Prelude.{if◌then◌else◌}
use Rattle.std.proofs.lemmas.Bool.{cases_Bool, cases_eq, cases_lt, cond-true, cond-false, cond_both, and_parts, false≢true, ltb-true}
use Rattle.mv_net.specs.declared.parts.FlatNet.{FlatNet}
use Rattle.mv_net.specs.Nets.{values_in, net_reads}
use Rattle.mv_net.specs.Allowed.{net_allows, net_table_allows}
use Rattle.mv_net.proofs.Local.{net_allows-local}

-- ---- a number that passes a test

-- the greatest below k that passes it, and 0 where none does
abbrev pub last_below : (ℕ → Bool) → ℕ → ℕ
last_below test zero = zero
last_below test (suc k) = if test k then k else last_below test k

-- it passes, if some number below k does
last_passes : (test : ℕ → Bool) (k v : ℕ) → v < k → test v ≡ true → test (last_below test k) ≡ true
last_passes test zero v low h = absurd (omega arith)
last_passes test (suc k) v low h =
    ⊎_elim
    (λ (y : test k ≡ true). ap test (cond-true (test k) k (last_below test k) y) ∙ y)
    (λ (n : test k ≡ false).
    ap test (cond-false (test k) k (last_below test k) n)
    ∙ last_passes test k v (⊎_elim (λ (e : v ≡ k). absurd (false≢true (sym n ∙ subst (λ w. test w ≡ true) e h))) (λ (ne : v ≡ k → ⊥). ⊎_elim (λ (l : v < k). l) (λ (b : k ≤ v). absurd (ne (omega arith))) (cases_lt v k)) (cases_eq v k)) h)
    (cases_Bool (test k))

last_low : (test : ℕ → Bool) (k : ℕ) → 0 < k → last_below test k < k
last_low test zero some = absurd (omega arith)
last_low test (suc zero) some = cond_both (test zero) zero zero (λ v. v < 1) (λ e. omega arith) (λ e. omega arith)
last_low test (suc (suc k)) some =
    let rest = last_low test (suc k) (omega arith) in
    cond_both (test (suc k)) (suc k) (last_below test (suc k)) (λ v. v < suc (suc k)) (λ e. omega arith) (λ e. omega arith)

last_same : (test other : ℕ → Bool) (k : ℕ) → ((v : ℕ) → test v ≡ other v) → last_below test k ≡ last_below other k
last_same test other zero same = refl
last_same test other (suc k) same = λ i. if same k i then k else last_same test other k same i

-- ---- a net's value

-- where the test holds, a value that the net allows, if there is one; else what it was
abbrev pub anew : Bool → Option FlatNet → (ℕ → ℕ) → ℕ → ℕ
anew test f at was = if test then last_below (net_allows f at) (values_in f) else was

pub anew-was : (test : Bool) (f : Option FlatNet) (at : ℕ → ℕ) (was : ℕ) → test ≡ false → anew test f at was ≡ was
anew-was test f at was e = cond-false test (last_below (net_allows f at) (values_in f)) was e

pub anew_same : (test : Bool) (f : Option FlatNet) (x y : ℕ → ℕ) (was : ℕ) → ((m : ℕ) → net_reads f m ≡ true → x m ≡ y m) → anew test f x was ≡ anew test f y was
anew_same test f x y was same =
    let rest = last_same (net_allows f x) (net_allows f y) (values_in f) (λ v. net_allows-local f x y v same) in
    λ i. if test then rest i else was

-- if it allows some value, it allows this one
pub anew_allowed : (test : Bool) (f : Option FlatNet) (at : ℕ → ℕ) (was v : ℕ) → test ≡ true → IsTrue (net_allows f at v) → IsTrue (net_allows f at (anew test f at was))
anew_allowed test None at was v e h = refl
anew_allowed test (Some f) at was v e h =
    let low : v < f.values = ltb-true v f.values (and_parts (nat_lt v f.values) (net_table_allows f.table at v) h).0 in
    ap (net_allows (Some f) at) (cond-true test (last_below (net_allows (Some f) at) f.values) was e)
    ∙ last_passes (net_allows (Some f) at) f.values v low h

-- it is one of the net's values, if the old one was
pub anew_low : (test : Bool) (f : Option FlatNet) (at : ℕ → ℕ) (was : ℕ) → 0 < values_in f → was < values_in f → anew test f at was < values_in f
anew_low test f at was some low =
    cond_both test (last_below (net_allows f at) (values_in f)) was (λ v. v < values_in f) (λ e. last_low (net_allows f at) (values_in f) some) (λ e. low)
