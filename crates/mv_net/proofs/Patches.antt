-- Assignments with the value of one net changed, and nets with one slot written: when they agree.
use Rattle.std.proofs.Common.{◌≡◌, ◌∙◌, ℕ, ◌<◌, ◌≤◌, Bool, true, false, List, length, set, Option, None, IsTrue, sym, ap, subst, ⊎_elim}
use Rattle.std.proofs.lemmas.Bool.{cases_Bool, cases_eq, cases_lt, false≢true, ne_eqb}
use Rattle.std.proofs.lemmas.List.{get_or-set_same, get_or-set_other, set_past, get_or_past}
use Rattle.mv_cover.proofs.Covering.{changed, changed-agrees}
use Rattle.mv_net.specs.declared.parts.FlatNet.{FlatNet}
use Rattle.mv_net.specs.Nets.{slot, net_reads}
use Rattle.mv_net.specs.Allowed.{net_allows, Agrees}
use Rattle.mv_net.proofs.Local.{net_allows-local}

-- what passes a test that n fails isn't n
pub other_than : (test : ℕ → Bool) (n m : ℕ) → test n ≡ false → test m ≡ true → m ≡ n → ⊥
other_than test n m fails passes e = false≢true (sym fails ∙ (ap test (sym e) ∙ passes))

-- ---- an assignment changed at one net

-- x with the value v at n
abbrev pub put : (n v : ℕ) → (ℕ → ℕ) → ℕ → ℕ
put n v x = changed n v x

pub put_same : (n v : ℕ) (x : ℕ → ℕ) → put n v x n ≡ v
put_same n v x = (changed-agrees n v x).here

pub put_other : (n v : ℕ) (x : ℕ → ℕ) (m : ℕ) → (m ≡ n → ⊥) → put n v x m ≡ x m
put_other n v x m ne = (changed-agrees n v x).others m (ne_eqb m n ne)

-- a table that doesn't read n allows as before
pub net_allows-put : (f : Option FlatNet) (n v : ℕ) (x : ℕ → ℕ) (value : ℕ) → net_reads f n ≡ false → net_allows f (put n v x) value ≡ net_allows f x value
net_allows-put f n v x value unread =
    net_allows-local f (put n v x) x value (λ m r. put_other n v x m (other_than (net_reads f) n m unread r))

-- ---- nets with one slot written

-- new is old with f at n
pub record IsWritten (old : List (Option FlatNet)) (n : ℕ) (f : Option FlatNet) (new : List (Option FlatNet)) : Type 0 where
  pub here : slot new n ≡ f
  pub others : (m : ℕ) → (m ≡ n → ⊥) → slot new m ≡ slot old m

-- a net that is gone isn't held, also past the last
pub IsWritten-gone : (nets : List (Option FlatNet)) (n : ℕ) → IsWritten nets n None (set nets n None)
IsWritten-gone nets n = record {
  here =
      ⊎_elim
      (λ (low : n < length nets). get_or-set_same nets n None None low)
      (λ (past : length nets ≤ n). ap (λ l. slot l n) (set_past nets n None past) ∙ get_or_past nets n None past)
      (cases_lt n (length nets));
  others = λ m ne. get_or-set_other nets n m None None ne;
}

-- the assignment agrees with each net but the one at n
pub record AgreesBut (nets : List (Option FlatNet)) (n : ℕ) (at : ℕ → ℕ) : Type 0 where
  pub each : (m : ℕ) → (m ≡ n → ⊥) → IsTrue (net_allows (slot nets m) at (at m))

pub AgreesBut-from : (nets : List (Option FlatNet)) (n : ℕ) (x : ℕ → ℕ) → Agrees nets x → AgreesBut nets n x
AgreesBut-from nets n x a = record { each = λ m ne. a.each m }

-- with the one at n it agrees with all
pub Agrees-all : (nets : List (Option FlatNet)) (n : ℕ) (x : ℕ → ℕ) → AgreesBut nets n x → IsTrue (net_allows (slot nets n) x (x n)) → Agrees nets x
Agrees-all nets n x others here = record {
  each = λ m.
      ⊎_elim
      (λ (e : m ≡ n). let P : ℕ → Type 0 = λ k. IsTrue (net_allows (slot nets k) x (x k)) in subst P (sym e) here)
      (λ (ne : m ≡ n → ⊥). others.each m ne)
      (cases_eq m n);
}

module _ (old : List (Option FlatNet)) (n : ℕ) (f : Option FlatNet) (new : List (Option FlatNet)) (x : ℕ → ℕ) (written : IsWritten old n f new) where
  -- it agrees with what is written and with the others, and so with all
  pub Agrees-set : AgreesBut old n x → IsTrue (net_allows f x (x n)) → Agrees new x
  Agrees-set others here =
      Agrees-all new n x
      (record { each = λ m ne. ap (λ g. net_allows g x (x m)) (written.others m ne) ∙ others.each m ne })
      (ap (λ g. net_allows g x (x n)) written.here ∙ here)

  -- and the other way round
  pub Agrees-others : Agrees new x → AgreesBut old n x
  Agrees-others a = record { each = λ m ne. ap (λ g. net_allows g x (x m)) (sym (written.others m ne)) ∙ a.each m }

  pub Agrees-here : Agrees new x → IsTrue (net_allows f x (x n))
  Agrees-here a = ap (λ g. net_allows g x (x n)) (sym written.here) ∙ a.each n

-- ---- agreement with one value changed

-- n takes the value v: its table allows that, its readers allow their values with it, and the others allow as before
pub Agrees-put : (nets : List (Option FlatNet)) (n v : ℕ) (x : ℕ → ℕ) → IsTrue (net_allows (slot nets n) (put n v x) v) → ((m : ℕ) → (m ≡ n → ⊥) → net_reads (slot nets m) n ≡ true → IsTrue (net_allows (slot nets m) (put n v x) (x m))) → ((m : ℕ) → (m ≡ n → ⊥) → net_reads (slot nets m) n ≡ false → IsTrue (net_allows (slot nets m) x (x m))) → Agrees nets (put n v x)
Agrees-put nets n v x here readers others =
    Agrees-all nets n (put n v x)
    (record { each = λ m ne. subst (λ value. IsTrue (net_allows (slot nets m) (put n v x) value)) (sym (put_other n v x m ne)) (at m ne) })
    (subst (λ value. IsTrue (net_allows (slot nets n) (put n v x) value)) (sym (put_same n v x)) here)
  where
    at : (m : ℕ) → (m ≡ n → ⊥) → IsTrue (net_allows (slot nets m) (put n v x) (x m))
    at m ne =
        ⊎_elim
        (λ (r : net_reads (slot nets m) n ≡ true). readers m ne r)
        (λ (u : net_reads (slot nets m) n ≡ false). net_allows-put (slot nets m) n v x (x m) u ∙ others m ne u)
        (cases_Bool (net_reads (slot nets m) n))
