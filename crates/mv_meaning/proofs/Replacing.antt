-- Inside a region an assignment is replaced by one with the same values at the inputs and outputs of the region: where that agrees
-- with the tables inside, and the first one with those outside, both together agree with all.
use Rattle.std.proofs.Common.{◌≡◌, ◌∙◌, ℕ, Bool, true, false, sym, ap, ⊎_elim, inl, inr}
use Rattle.std.specs.Prelude.{if◌then◌else◌}
use Rattle.std.proofs.lemmas.Bool.{cases_Bool, cond-true, cond-false, false≢true}
use Rattle.mv_net.specs.declared.parts.NetParts.{NetParts}
use Rattle.mv_net.specs.Nets.{slot, net_reads}
use Rattle.mv_net.specs.Formed.{WellFormed}
use Rattle.mv_net.specs.Allowed.{net_allows, Agrees}
use Rattle.mv_net.specs.Index.{is_seen}
use Rattle.mv_net.proofs.Local.{net_allows-local}
use Rattle.mv_net.proofs.Ports.{is_port, SamePorts, AgreesAtPorts}
use Rattle.mv_net.proofs.Removal.{unseen_no_port}
use Rattle.mv_meaning.specs.Narrowing.{IsRegion, IsReplacedBy}

module _ (net : NetParts) (inside input output : ℕ → Bool) (formed : WellFormed net) (region : IsRegion net inside input output) (x : ℕ → ℕ) (replaced : IsReplacedBy net.nets inside input output x) (outside : (m : ℕ) → inside m ≡ false → net_allows (slot net.nets m) x (x m) ≡ true) where
  -- both together
  abbrev joined : ℕ → ℕ
  joined m = if inside m then replaced.by m else x m

  joined-inside : (m : ℕ) → inside m ≡ true → joined m ≡ replaced.by m
  joined-inside m h = cond-true (inside m) (replaced.by m) (x m) h

  joined-outside : (m : ℕ) → inside m ≡ false → joined m ≡ x m
  joined-outside m h = cond-false (inside m) (replaced.by m) (x m) h

  -- a table inside reads what the replacement has there
  read_inside : (m k : ℕ) → inside m ≡ true → net_reads (slot net.nets m) k ≡ true → joined k ≡ replaced.by k
  read_inside m k h r =
      ⊎_elim
      (λ (i : inside k ≡ true). joined-inside k i)
      (λ (o : inside k ≡ false). joined-outside k o ∙ sym (replaced.inputs k (region.inputs m k h r o)))
      (cases_Bool (inside k))

  -- and one outside what was there
  read_outside : (m k : ℕ) → inside m ≡ false → net_reads (slot net.nets m) k ≡ true → joined k ≡ x k
  read_outside m k h r =
      ⊎_elim
      (λ (i : inside k ≡ true). joined-inside k i ∙ replaced.outputs k (region.outputs k i (inr (record { reader = m; outside = h; reads = r }))))
      (λ (o : inside k ≡ false). joined-outside k o)
      (cases_Bool (inside k))

  agrees : Agrees net.nets joined
  agrees = record { each = λ m. ⊎_elim (λ (i : inside m ≡ true). within m i) (λ (o : inside m ≡ false). beyond m o) (cases_Bool (inside m)) }
    where
      within : (m : ℕ) → inside m ≡ true → net_allows (slot net.nets m) joined (joined m) ≡ true
      within m i =
          net_allows-local (slot net.nets m) joined replaced.by (joined m) (λ k r. read_inside m k i r)
          ∙ (ap (λ v. net_allows (slot net.nets m) replaced.by v) (joined-inside m i) ∙ replaced.agrees m i)

      beyond : (m : ℕ) → inside m ≡ false → net_allows (slot net.nets m) joined (joined m) ≡ true
      beyond m o =
          net_allows-local (slot net.nets m) joined x (joined m) (λ k r. read_outside m k o r)
          ∙ (ap (λ v. net_allows (slot net.nets m) x v) (joined-outside m o) ∙ outside m o)

  same_ports : SamePorts net x joined
  same_ports = record { each = λ m p. ⊎_elim (λ (i : inside m ≡ true). shown m i p) (λ (o : inside m ≡ false). sym (joined-outside m o)) (cases_Bool (inside m)) }
    where
      shown : (m : ℕ) → inside m ≡ true → is_port net m ≡ true → x m ≡ joined m
      shown m i p =
          ⊎_elim
          (λ (s : is_seen net m ≡ true). sym (joined-inside m i ∙ replaced.outputs m (region.outputs m i (inl s))))
          (λ (u : is_seen net m ≡ false). absurd (false≢true (sym (unseen_no_port net m formed u (region.tables m i)) ∙ p)))
          (cases_Bool (is_seen net m))

  pub replaced_at_ports : AgreesAtPorts net net.nets x
  replaced_at_ports = record { at = joined; agrees = agrees; same = same_ports }
