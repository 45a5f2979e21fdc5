-- What a net's table allows is in the net's flexibility: an assignment that agrees with the other tables of the window, and has a
-- pair that the table allows, agrees with all of them, and stands for itself.
use Rattle.std.proofs.Common.{◌≡◌, ◌∙◌, ℕ, ◌<◌, true, List, Option, Some, None, refl, sym, ap, subst, ⊎_elim, nat_lt}
use Rattle.std.proofs.lemmas.Bool.{and_from, cases_eq, lt-ltb}
use Rattle.mv_cover.specs.declared.cover.Cover.{Cover}
use Rattle.mv_cover.specs.Covers.{allowed}
use Rattle.mv_cover.proofs.Local.{allowed-local}
use Rattle.mv_flex.specs.Flex.{AgreesBeside, CoverInFlex, InFlex, IsPair}
use Rattle.mv_narrow.specs.Verdicts.{AllowsLess}
use Rattle.mv_net.specs.declared.parts.FlatNet.{FlatNet}
use Rattle.mv_net.specs.declared.window.Window.{Window}
use Rattle.mv_net.specs.Allowed.{net_allows, net_table_allows}
use Rattle.mv_net.specs.Nets.{slot, table_in, table_reads, values_in, reads_in}

-- a net allows a value that its table allows
net_allows-table : (f : Option FlatNet) (c : Cover) (at : ℕ → ℕ) (v : ℕ) → table_in f ≡ Some c → v < values_in f → allowed c at v ≡ true → net_allows f at v ≡ true
net_allows-table None c at v table low allows = absurd cc
net_allows-table (Some f) c at v table low allows =
    and_from (nat_lt v f.values) (net_table_allows f.table at v) (lt-ltb v f.values low) (ap (λ t. net_table_allows t at v) table ∙ allows)

own_in : (nets : List (Option FlatNet)) (w : Window) (n : ℕ) (old : Cover) (at : ℕ → ℕ) (v : ℕ) → table_in (slot nets n) ≡ Some old → IsPair nets n at v → allowed old at v ≡ true → InFlex nets w n at v
own_in nets w n old at v table pair allows = record {
  pair = pair;
  replaced = λ x beside same here. record {
    given = x;
    agrees = record {
      inputs = beside.inputs;
      tables = λ m h.
          ⊎_elim
          (λ (e : m ≡ n). let P : ℕ → Type 0 = λ k. net_allows (slot nets k) x (x k) ≡ true in subst P (sym e) (own x beside same here))
          (λ (ne : m ≡ n → ⊥). beside.tables m ne h)
          (cases_eq m n);
    };
    inputs = λ m h. refl;
    outputs = λ m h. refl;
  };
}
  where
    own : (x : ℕ → ℕ) → AgreesBeside nets w n x → ((m : ℕ) → reads_in nets n m ≡ true → x m ≡ at m) → x n ≡ v → net_allows (slot nets n) x (x n) ≡ true
    own x beside same here =
        net_allows-table (slot nets n) old x (x n) table beside.here
        (allowed-local old x at (x n) (λ m h. same m (ap (λ t. table_reads t m) table ∙ h)) ∙ (ap (λ k. allowed old at k) here ∙ allows))

pub less_inside : (nets : List (Option FlatNet)) (w : Window) (n : ℕ) (old new : Cover) → table_in (slot nets n) ≡ Some old → AllowsLess nets n old new → CoverInFlex nets w n new
less_inside nets w n old new table less = record { each = λ at v pair allows. own_in nets w n old at v table pair (less.within at v pair allows) }
