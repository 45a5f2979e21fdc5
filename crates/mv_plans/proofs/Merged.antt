-- The rule `merge`: its change, that what it leaves is well formed, and that it means the same.
use Rattle.std.proofs.Common.{◌≡◌, ◌∙◌, ℕ, ◌≤◌, List, [], length, Option, Some, sym, ap, subst, arith}
use Rattle.mv_base.specs.Meaning.{SameMeaning}
use Rattle.mv_base.specs.declared.limits.TheConstants.{MAX_NETS}
use Rattle.mv_base.specs.declared.number.Value.{Value}
use Rattle.mv_cover.specs.declared.cover.Cover.{Cover}
use Rattle.mv_merging.specs.Nets.{net_behind}
use Rattle.mv_merging.specs.Verdicts.{IsMergeVerdict}
use Rattle.mv_merging.specs.declared.verdict.MergeVerdict.TheVariants.{Lawful}
use Rattle.mv_merging.proofs.Merged.{behind_few, behind_formed, behind_means, behind_named, behind_tabled, behind_total}
use Rattle.mv_net.specs.declared.change.Change.{Change}
use Rattle.mv_net.specs.declared.parts.NetParts.{NetParts}
use Rattle.mv_net.specs.Allowed.{of_net}
use Rattle.mv_net.specs.Changes.{changed, Fits}
use Rattle.mv_net.specs.Formed.{WellFormed}
use Rattle.mv_net.specs.Nets.{slot, name_in, values_in, table_in}
use Rattle.mv_net.specs.Total.{IsTotalNet}
use Rattle.mv_plans.specs.Checks.{IsTabled, IsUnseen}
use Rattle.mv_plans.specs.Merging.{Merges}
use Rattle.mv_plans.specs.Plans.{IsPlanned}

pub planned : (net : NetParts) (w : List ℕ) (n : ℕ) (gone : Value) (into : Option Value) (change : Change) → WellFormed net → length net.nets ≤ MAX_NETS
    → IsTabled net.nets w n → IsUnseen net n → IsMergeVerdict net n gone into Lawful → changed net change ≡ net_behind net n gone into → Fits net change → change.add ≡ []
    → IsPlanned net (Merges net w gone into) change
planned net w n gone into change formed few tabled unseen lawful is fits adds = record {
  few = omega (arith, few, ap length adds);
  fits = fits;
  formed = subst WellFormed (sym is) (behind_formed net n gone into tabled.table lawful formed unseen.unseen);
  makes = record { number = n; net = tabled; unseen = unseen; form = lawful.0; lossless = lawful.1; new_is = is };
}

pub merged_formed : (old : NetParts) (w : List ℕ) (gone : Value) (into : Option Value) (new : NetParts) → WellFormed old → Merges old w gone into new → WellFormed new
merged_formed old w gone into new formed r =
    subst WellFormed (sym r.new_is) (behind_formed old r.number gone into r.net.table (r.form, r.lossless) formed r.unseen.unseen)

pub merged_means : (old : NetParts) (w : List ℕ) (gone : Value) (into : Option Value) (new : NetParts) → WellFormed old → Merges old w gone into new → SameMeaning (of_net new) (of_net old)
merged_means old w gone into new formed r =
    let P : NetParts → Type 0 = λ p. SameMeaning (of_net p) (of_net old) in
    subst P (sym r.new_is) (behind_means old r.number gone into r.net.table (r.form, r.lossless) formed r.unseen.unseen)

pub merged_keeps_total : (old : NetParts) (w : List ℕ) (gone : Value) (into : Option Value) (new : NetParts) → WellFormed old → Merges old w gone into new
    → (k : ℕ) → IsTotalNet old.nets k → IsTotalNet new.nets k
merged_keeps_total old w gone into new formed r k total =
    subst (λ (p : NetParts). IsTotalNet p.nets k) (sym r.new_is) (behind_total old r.number gone into r.net.table (r.form, r.lossless) formed k total)

pub merged_few : (old : NetParts) (w : List ℕ) (gone : Value) (into : Option Value) (new : NetParts) → Merges old w gone into new
    → (k : ℕ) → values_in (slot new.nets k) ≤ values_in (slot old.nets k)
merged_few old w gone into new r k =
    subst (λ (p : NetParts). values_in (slot p.nets k) ≤ values_in (slot old.nets k)) (sym r.new_is) (behind_few old r.number gone into r.net.table (r.form, r.lossless) k)

pub merged_tabled : (old : NetParts) (w : List ℕ) (gone : Value) (into : Option Value) (new : NetParts) → Merges old w gone into new
    → (k : ℕ) (c : Cover) → table_in (slot new.nets k) ≡ Some c → (d : Cover) × (table_in (slot old.nets k) ≡ Some d)
merged_tabled old w gone into new r k c e =
    behind_tabled old r.number gone into r.net.table (r.form, r.lossless) k c (ap (λ (p : NetParts). table_in (slot p.nets k)) (sym r.new_is) ∙ e)

pub merged_named : (old : NetParts) (w : List ℕ) (gone : Value) (into : Option Value) (new : NetParts) → Merges old w gone into new
    → (k : ℕ) → name_in (slot new.nets k) ≡ name_in (slot old.nets k)
merged_named old w gone into new r k =
    ap (λ (p : NetParts). name_in (slot p.nets k)) r.new_is ∙ behind_named old r.number gone into r.net.table (r.form, r.lossless) k
