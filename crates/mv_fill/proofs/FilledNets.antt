-- The nets with a default more in a table that had none: who reads whom, which tables are plainly deterministic, and which are total.
use Rattle.std.proofs.Common.{◌≡◌, ◌∙◌, ℕ, ◌+◌, ◌<◌, ◌≤◌, true, List, [], ◌∷◌, length, map, set, Option, Some, None, is_some, refl, sym, ap, subst, ⊎_elim, arith}
use Rattle.std.specs.Prelude.{count_ones}
use Rattle.std.proofs.lemmas.Bool.{cases_eq}
use Rattle.std.proofs.lemmas.List.{length-set}
use Rattle.std.proofs.lemmas.Option.{same_Some}
use Rattle.mv_base.specs.Set.{empty, one, join}
use Rattle.mv_base.proofs.Sets.{has-empty, count-empty, count-more, join_empty}
use Rattle.mv_cover.specs.declared.cover.Cover.{Cover}
use Rattle.mv_cover.specs.Plain.{IsPlainlyDeterministic, IsOneDefault}
use Rattle.mv_graph.specs.Above.{GoesOn, IsAbove}
use Rattle.mv_meaning.specs.Rewriting.{with_net_table}
use Rattle.mv_meaning.proofs.OneTable.{table-here, slot-there, IsReformed-given}
use Rattle.mv_net.specs.declared.parts.FlatNet.{FlatNet}
use Rattle.mv_net.specs.declared.parts.NetParts.{NetParts}
use Rattle.mv_net.specs.Formed.{WellFormed}
use Rattle.mv_net.specs.Index.{is_held, kind_in}
use Rattle.mv_net.specs.Nets.{slot, values_in, table_in, table_reads, reads_in}
use Rattle.mv_net.specs.Plain.{IsPlainNet}
use Rattle.mv_net.specs.Total.{IsTotal, IsTotalNet}
use Rattle.mv_net.proofs.Totals.{default_total, IsTotal-before}
use Rattle.mv_plans.specs.Filling.{IsPartial, ArePlainAbove, with_default}
use Rattle.mv_fill.specs.Fills.{IsUnfilled}
use Rattle.mv_fill.specs.Filling.{KeepsPlain}

-- a set of one value has one
pub count-one : (v : ℕ) → count_ones (one v) ≡ 1
count-one v =
    let e : count_ones (one v) ≡ count_ones empty + 1 = ap count_ones (sym (join_empty (one v))) ∙ count-more empty v (has-empty v) in
    let none : count_ones empty ≡ 0 = count-empty in
    omega arith

-- a table that allows nothing somewhere has no default
pub bare : (net : NetParts) (n : ℕ) (c : Cover) → WellFormed net → table_in (slot net.nets n) ≡ Some c → IsPartial net.nets n → c.default ≡ None
bare net n c formed table partial = by c.default refl
  where
    by : (d : Option ℕ) → c.default ≡ d → d ≡ None
    by None e = refl
    by (Some out) e = absurd (partial.partial (default_total net n c formed table (ap (λ o. is_some o) e)))

-- the same of the cover alone
plain_with : (c : Cover) (out : ℕ) → count_ones out ≡ 1 → IsPlainlyDeterministic c → IsPlainlyDeterministic (with_default c out)
plain_with c out single p = record { single = p.single; default = single; apart = p.apart }

plain_without : (c : Cover) (out : ℕ) → c.default ≡ None → IsPlainlyDeterministic (with_default c out) → IsPlainlyDeterministic c
plain_without c out none p = record { single = p.single; default = subst IsOneDefault (sym none) tt; apart = p.apart }

held_kind : (f : Option FlatNet) → is_some f ≡ is_some (kind_in f)
held_kind None = refl
held_kind (Some f) = refl

module _ (nets : List (Option FlatNet)) (n : ℕ) (c : Cover) (out : ℕ) (table : table_in (slot nets n) ≡ Some c) (none : c.default ≡ None) (single : count_ones out ≡ 1) where
  pub here : table_in (slot (with_net_table nets n (with_default c out)) n) ≡ Some (with_default c out)
  here = table-here nets n c (with_default c out) table

  pub there : (m : ℕ) → (m ≡ n → ⊥) → slot (with_net_table nets n (with_default c out)) m ≡ slot nets m
  there m ne = slot-there nets n c (with_default c out) table m ne

  pub long : length (with_net_table nets n (with_default c out)) ≡ length nets
  unfolding with_net_table
  long = length-set nets n _

  pub values_same : (m : ℕ) → values_in (slot (with_net_table nets n (with_default c out)) m) ≡ values_in (slot nets m)
  values_same m = ((IsReformed-given nets n c (with_default c out) table).each m).values

  tabled_same : (m : ℕ) → is_some (table_in (slot (with_net_table nets n (with_default c out)) m)) ≡ is_some (table_in (slot nets m))
  tabled_same m = ((IsReformed-given nets n c (with_default c out) table).each m).tabled

  held_same : (m : ℕ) → is_held (with_net_table nets n (with_default c out)) m ≡ is_held nets m
  held_same m =
      held_kind (slot (with_net_table nets n (with_default c out)) m)
      ∙ (ap (λ k. is_some k) ((IsReformed-given nets n c (with_default c out) table).each m).kind ∙ sym (held_kind (slot nets m)))

  reads_same : (m k : ℕ) → reads_in (with_net_table nets n (with_default c out)) m k ≡ reads_in nets m k
  reads_same m k =
      ⊎_elim
      (λ (e : m ≡ n).
      let P : ℕ → Type 0 = λ j. reads_in (with_net_table nets n (with_default c out)) j k ≡ reads_in nets j k in
      subst P (sym e) (ap (λ t. table_reads t k) here ∙ ap (λ t. table_reads t k) (sym table)))
      (λ (ne : m ≡ n → ⊥). ap (λ f. table_reads (table_in f) k) (there m ne))
      (cases_eq m n)

  goes_down : (above m : ℕ) (path : List ℕ) → GoesOn (reads_in (with_net_table nets n (with_default c out))) above m path → GoesOn (reads_in nets) above m path
  goes_down above m [] g = sym (reads_same m above) ∙ g
  goes_down above m (k ∷ path) g = (sym (reads_same m k) ∙ g.0, goes_down above k path g.1)

  goes_up : (above m : ℕ) (path : List ℕ) → GoesOn (reads_in nets) above m path → GoesOn (reads_in (with_net_table nets n (with_default c out))) above m path
  goes_up above m [] g = reads_same m above ∙ g
  goes_up above m (k ∷ path) g = (reads_same m k ∙ g.0, goes_up above k path g.1)

  plain_up : (m : ℕ) → IsPlainNet nets m → IsPlainNet (with_net_table nets n (with_default c out)) m
  plain_up m p =
      ⊎_elim
      (λ (e : m ≡ n).
      let same : p.cover ≡ c = same_Some p.cover c (sym p.table ∙ (ap (λ k. table_in (slot nets k)) e ∙ table)) in
      record {
        cover = with_default c out;
        table = ap (λ k. table_in (slot (with_net_table nets n (with_default c out)) k)) e ∙ here;
        plain = plain_with c out single (subst IsPlainlyDeterministic same p.plain);
      })
      (λ (ne : m ≡ n → ⊥). record { cover = p.cover; table = ap table_in (there m ne) ∙ p.table; plain = p.plain })
      (cases_eq m n)

  plain_down : (m : ℕ) → IsPlainNet (with_net_table nets n (with_default c out)) m → IsPlainNet nets m
  plain_down m p =
      ⊎_elim
      (λ (e : m ≡ n).
      let same : p.cover ≡ with_default c out = same_Some p.cover (with_default c out) (sym p.table ∙ (ap (λ k. table_in (slot (with_net_table nets n (with_default c out)) k)) e ∙ here)) in
      record {
        cover = c;
        table = ap (λ k. table_in (slot nets k)) e ∙ table;
        plain = plain_without c out none (subst IsPlainlyDeterministic same p.plain);
      })
      (λ (ne : m ≡ n → ⊥). record { cover = p.cover; table = ap table_in (sym (there m ne)) ∙ p.table; plain = p.plain })
      (cases_eq m n)

  -- each table above a net is plainly deterministic where it was
  pub keeps : KeepsPlain nets (with_net_table nets n (with_default c out))
  keeps = record {
    held = λ m h. sym (held_same m) ∙ h;
    down = λ m plain. record {
      each = λ k above tabled.
          plain_down k (plain.each k (record { path = above.path; goes = goes_up k m above.path above.goes }) (tabled_same k ∙ tabled));
    };
    up = λ m plain. record {
      each = λ k above tabled.
          plain_up k (plain.each k (record { path = above.path; goes = goes_down k m above.path above.goes }) (sym (tabled_same k) ∙ tabled));
    };
  }

  -- another table that was total is total
  total_kept : (m : ℕ) → (m ≡ n → ⊥) → IsTotalNet nets m → IsTotalNet (with_net_table nets n (with_default c out)) m
  total_kept m ne t = record {
    net = t.net;
    held = there m ne ∙ t.held;
    cover = t.cover;
    table = t.table;
    total = IsTotal-before (with_net_table nets n (with_default c out)) nets t.cover (λ k _. sym (values_same k)) t.total;
  }

  -- another table that allows nothing somewhere did so before
  pub unfilled_before : (m : ℕ) → (m ≡ n → ⊥) → IsUnfilled (with_net_table nets n (with_default c out)) m → IsUnfilled nets m
  unfilled_before m ne u = record {
    tabled = sym (tabled_same m) ∙ u.tabled;
    partial = record { partial = λ t. u.partial.partial (total_kept m ne t) };
  }
