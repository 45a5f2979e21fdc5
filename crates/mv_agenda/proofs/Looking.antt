-- What a command that looks at the nets of an agenda keeps: that each net of which something holds waits.
use Rattle.std.proofs.Common.{◌≡◌, ◌∙◌, ℕ, ◌<◌, ◌≤◌, true, false, not, nat_eq, Option, List, sym, ap, ⊎_elim, subst}
use Rattle.std.proofs.lemmas.Bool.{cases_Bool, false≢true, and_from, ne_eqb}
use Rattle.mv_net.specs.declared.parts.FlatNet.{FlatNet}
use Rattle.mv_agenda.specs.Agenda.{waits, AllWait, AllWaitBut, NoneWaits, PutsNear, TakesLeast, WaitBelow}
use Rattle.mv_agenda.specs.Near.{IsNear, Itself}

-- at the beginning all numbers wait
pub all_at_first : (P : ℕ → Type 0) (agenda : List ℕ) (end : ℕ) → WaitBelow agenda end → ((n : ℕ) → P n → n < end) → AllWait P agenda
all_at_first P agenda end h below = record { each = λ n p. h.all n (below n p) }

-- at the end nothing waits, and so P holds of none
pub none_at_end : (P : ℕ → Type 0) (agenda : List ℕ) → AllWait P agenda → NoneWaits agenda → (n : ℕ) → P n → ⊥
none_at_end P agenda h none n p = false≢true (sym (none.none n) ∙ h.each n p)

-- the one that is taken is at or before each of which P holds
pub least_of_all : (P : ℕ → Type 0) (old new : List ℕ) (n : ℕ) → AllWait P old → TakesLeast old new n → (m : ℕ) → P m → n ≤ m
least_of_all P old new n h t m p = t.least m (h.each m p)

-- each but the one that is taken still waits
pub all_but_taken : (P : ℕ → Type 0) (old new : List ℕ) (n : ℕ) → AllWait P old → TakesLeast old new n → AllWaitBut P new n
all_but_taken P old new n h t = record {
  each = λ m p apart. t.rest m ∙ and_from (waits old m) (not (nat_eq n m)) (h.each m p) (ap not (ne_eqb n m apart));
}

-- P doesn't hold of the one that was taken
pub all_without_taken : (P : ℕ → Type 0) (agenda : List ℕ) (n : ℕ) → AllWaitBut P agenda n → (P n → ⊥) → AllWait P agenda
all_without_taken P agenda n h stays =
    record { each = λ m p. h.each m p (λ (same : n ≡ m). stays (subst P (sym same) p)) }

-- something changed around the one that was taken, and what is near it was put: of numbers that aren't near it, Q holds only where P did
pub all_with_near : (P Q : ℕ → Type 0) (nets : List (Option FlatNet)) (old new : List ℕ) (n : ℕ) → AllWaitBut P old n → PutsNear nets n old new
    → ((m : ℕ) → (IsNear nets n m → ⊥) → Q m → P m) → AllWait Q new
all_with_near P Q nets old new n h put from = record {
  each = λ m q.
      ⊎_elim
      (λ (y : waits new m ≡ true). y)
      (λ (no : waits new m ≡ false).
      let far : IsNear nets n m → ⊥ = λ near. false≢true (sym no ∙ put.near m near) in
      put.stay m (h.each m (from m far q) (λ (same : n ≡ m). far (Itself (sym same)))))
      (cases_Bool (waits new m));
}
