-- Which nets can go into their readers, as far as the composites let them.
use Rattle.std.proofs.Common.{◌≡◌, ℕ, Bool, true, false, Option, Some, None, List, length, is_some, inl, inr, refl, sym, ap, subst}
use Rattle.std.specs.Prelude.{◌==◌, MatchBool}
use Rattle.std.proofs.lemmas.Bool.{false≢true}
use Rattle.mv_base.specs.declared.number.NetId.{NetId}
use Rattle.mv_entry.specs.declared.fault.RuleFault.TheVariants.{Wide}
use Rattle.mv_graph.specs.Nets.{IsAscending}
use Rattle.mv_locality.proofs.Steps.{names_itself}
use Rattle.mv_net.specs.declared.parts.FlatNet.{FlatNet}
use Rattle.mv_net.specs.declared.parts.NetParts.{NetParts}
use Rattle.mv_net.specs.Formed.{WellFormed}
use Rattle.mv_net.specs.Index.{is_seen}
use Rattle.mv_net.specs.Nets.{slot, name_in, table_in, net_reads}
use Rattle.mv_plans.proofs.Named.{listed_reader}
use Rattle.mv_plans.specs.Checks.{IsTabled}
use Rattle.mv_plans.specs.Collapsing.{IsUnshared, HasComposites, CanCollapse, CollapseRow, FailsCollapse}
use Rattle.mv_gain.specs.Judging.{CanGo}
use Rattle.mv_gain.specs.Savings.{IsSaving, IsWideNet}

-- ---- the checks but for the composites

-- where the others hold, the last one decides
pub can_go_unshared : (unshared : Bool) (net : NetParts) (n : ℕ) (list : List NetId) → is_some (table_in (slot net.nets n)) ≡ true → is_seen net n ≡ false
    → IsAscending (λ m. net_reads (slot net.nets m) n) list → (length list == 0) ≡ false → MatchBool unshared (IsUnshared net.nets n) (IsUnshared net.nets n → ⊥)
    → MatchBool unshared (CanGo net n) (CanGo net n → ⊥)
can_go_unshared true net n list tabled unseen is some h =
    record { tabled = tabled; can = record { unseen = record { unseen = unseen }; read = listed_reader net.nets n list is some; unshared = h } }
can_go_unshared false net n list tabled unseen is some h = λ can. h can.can.unshared

-- a net with a table is held, and has its own name
pub named_itself : (nets : List (Option FlatNet)) (n : ℕ) → is_some (table_in (slot nets n)) ≡ true → IsTabled nets (name_in (slot nets n)) n
named_itself nets n tabled = by (slot nets n) refl tabled
  where
    by : (o : Option FlatNet) → slot nets n ≡ o → is_some (table_in o) ≡ true → IsTabled nets (name_in (slot nets n)) n
    by None e t = absurd (false≢true t)
    by (Some f) e t = record { named = record { net = f; held = e; is = sym (ap name_in e) }; table = tabled }

-- ---- the last check fails

-- the row of the checks fails at the composites: those before hold
wide_row : (net : NetParts) (n : ℕ) → CollapseRow net n Wide → CanCollapse net n × (HasComposites net.nets n → ⊥)
wide_row net n (inl p) = let bad = p.1 in cc
wide_row net n (inr (unseen, inl p)) = let bad = p.1 in cc
wide_row net n (inr (unseen, inr (read, inl p))) = let bad = p.1 in cc
wide_row net n (inr (unseen, inr (read, inr (unshared, inl p)))) = (record { unseen = unseen; read = read; unshared = unshared }, p.0)
wide_row net n (inr (unseen, inr (read, inr (unshared, inr p)))) = absurd p.1

-- so they hold of a net that fails by its own name
pub wide_net : (net : NetParts) (n : ℕ) → WellFormed net → IsWideNet net n → CanGo net n × (HasComposites net.nets n → ⊥)
wide_net net n formed wide = by wide.fails
  where
    itself : IsTabled net.nets (name_in (slot net.nets n)) n
    itself = named_itself net.nets n wide.tabled

    by : FailsCollapse net (name_in (slot net.nets n)) Wide → CanGo net n × (HasComposites net.nets n → ⊥)
    by (inl p) = absurd (p.0 n itself)
    by (inr (m, tabled, row)) =
        let same = names_itself net (name_in (slot net.nets n)) n m formed tabled (ap is_some itself.named.held) refl in
        let parts = wide_row net n (subst (λ k. CollapseRow net k Wide) same row) in
        (record { tabled = wide.tabled; can = parts.0 }, parts.1)

-- a net that can't go stays
pub stays_put : (net : NetParts) (n : ℕ) → WellFormed net → (CanGo net n → ⊥) → (IsSaving net n → ⊥) × (IsWideNet net n → ⊥)
stays_put net n formed cannot = (λ saving. cannot (record { tabled = saving.tabled; can = saving.can }), λ wide. cannot (wide_net net n formed wide).0)
