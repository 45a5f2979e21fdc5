-- What is asked of a net's table depends on the table, and on the numbers of values of the nets that it reads.
use Rattle.std.proofs.Common.{◌≡◌, ◌↔◌, ◌∙◌, ℕ, ◌<◌, ◌≤◌, Bool, true, false, cond, Option, Some, List, map, get_or, is_some, MatchBool, inl, inr, sym, ap, subst}
use Rattle.std.proofs.lemmas.Bool.{cases_Bool}
use Rattle.mv_cover.specs.declared.cover.Cover.{Cover}
use Rattle.mv_cover.specs.Covers.{cover_reads}
use Rattle.mv_cover.specs.Covering.{IsPoint}
use Rattle.mv_cover.proofs.Local.{allowed-local}
use Rattle.mv_composite.specs.declared.inner.Inner.{Inner}
use Rattle.mv_composite.specs.Composite.{composed}
use Rattle.mv_composite.specs.Wide.{IsTooWide}
use Rattle.mv_meaning.proofs.Wiring.{buffer_reads}
use Rattle.mv_net.specs.declared.parts.FlatNet.{FlatNet}
use Rattle.mv_net.specs.declared.parts.NetParts.{NetParts}
use Rattle.mv_net.specs.Formed.{WellFormed}
use Rattle.mv_net.specs.Nets.{slot, values_in, table_in, table_reads, net_reads}
use Rattle.mv_net.specs.Plain.{IsPlainNet, IsPlainConstant, IsPlainBuffer}
use Rattle.mv_net.specs.Total.{IsTotal, IsTotalNet}
use Rattle.mv_net.proofs.Known.{counts_at, reads_readable}
use Rattle.mv_plans.specs.Checks.{IsTabled}
use Rattle.mv_plans.specs.Collapsing.{IsInnerOf}
use Rattle.mv_plans.specs.Wiring.{IsBuffer}
use Rattle.mv_locality.specs.Local.{KeepsValues}
use Rattle.mv_locality.specs.Same.{SameCounts, KeepsNet}
use Rattle.mv_locality.proofs.Counts.{composed-same, IsTooWide-same}

-- ---- nets that are kept

pub net_kept : (old : List (Option FlatNet)) (new : NetParts) (n : ℕ) → WellFormed new → KeepsValues old new.nets → slot new.nets n ≡ slot old n → KeepsNet old new.nets n
net_kept old new n formed keeps same = record {
  same = same;
  values = λ m r. keeps.values m (ap is_some (reads_readable new n m formed (ap (λ f. net_reads f m) same ∙ r)).held);
}

pub net_back : (old new : List (Option FlatNet)) (n : ℕ) → KeepsNet old new n → KeepsNet new old n
net_back old new n keeps = record {
  same = sym keeps.same;
  values = λ m r. sym (keeps.values m (ap (λ f. net_reads f m) (sym keeps.same) ∙ r));
}

-- the counts are the same where its table reads
pub counts_kept : (old new : List (Option FlatNet)) (n : ℕ) (c : Cover) → KeepsNet old new n → table_in (slot old n) ≡ Some c → SameCounts (map values_in old) (map values_in new) c.lines
counts_kept old new n c keeps table = record {
  each = λ m r. counts_at old m ∙ (sym (keeps.values m (ap (λ t. table_reads t m) table ∙ r)) ∙ sym (counts_at new m));
}

-- ---- its table is total

-- a point over the new counts, with 0 on each net that the cover doesn't read, is one over the old
pub IsTotal-same : (old new : List (Option FlatNet)) (c : Cover) → SameCounts (map values_in old) (map values_in new) c.lines → IsTotal old c → IsTotal new c
IsTotal-same old new c same total = record {
  some = λ at p.
      let some = total.some (read_alone at) (read_point at p) in
      record { value = some.value; is_allowed = allowed-local c at (read_alone at) some.value (λ m r. sym (ap (λ b. cond b (at m) 0) r)) ∙ some.is_allowed };
}
  where
    read_alone : (ℕ → ℕ) → ℕ → ℕ
    read_alone at m = cond (cover_reads c m) (at m) 0

    read_point : (at : ℕ → ℕ) → IsPoint (map values_in new) at → IsPoint (map values_in old) (read_alone at)
    read_point at p = record {
      below = λ m some.
          elim (cases_Bool (cover_reads c m)) [
            | inl t ↦
                let count : get_or (map values_in old) m 0 ≡ get_or (map values_in new) m 0 = same.each m t in
                subst (λ v. v < get_or (map values_in old) m 0) (sym (ap (λ b. cond b (at m) 0) t))
                (subst (λ k. at m < k) (sym count) (p.below m (subst (λ k. 0 < k) count some)))
            | inr f ↦ subst (λ v. v < get_or (map values_in old) m 0) (sym (ap (λ b. cond b (at m) 0) f)) some
          ];
    }

pub IsTotalNet-same : (old new : List (Option FlatNet)) (n : ℕ) → KeepsNet old new n → IsTotalNet old n → IsTotalNet new n
IsTotalNet-same old new n keeps is = record {
  net = is.net;
  held = keeps.same ∙ is.held;
  cover = is.cover;
  table = is.table;
  total = IsTotal-same old new is.cover (counts_kept old new n is.cover keeps (ap table_in is.held ∙ is.table)) is.total;
}

-- ---- its table is of a simple form

pub IsPlainNet-same : (old new : List (Option FlatNet)) (n : ℕ) → slot new n ≡ slot old n → IsPlainNet old n → IsPlainNet new n
IsPlainNet-same old new n same is = record { cover = is.cover; table = ap table_in same ∙ is.table; plain = is.plain }

pub IsPlainConstant-same : (old new : List (Option FlatNet)) (n v : ℕ) → slot new n ≡ slot old n → IsPlainConstant old n v → IsPlainConstant new n v
IsPlainConstant-same old new n v same is = record { cover = is.cover; table = ap table_in same ∙ is.table; gives = is.gives }

pub IsPlainBuffer-same : (old new : List (Option FlatNet)) (n m : ℕ) → KeepsNet old new n → IsPlainBuffer old n m → IsPlainBuffer new n m
IsPlainBuffer-same old new n m keeps is =
    let own : values_in (slot new n) ≡ values_in (slot old n) = ap values_in keeps.same in
    record {
      cover = is.cover;
      table = ap table_in keeps.same ∙ is.table;
      bare = is.bare;
      some = subst (λ k. 2 ≤ k) (sym own) is.some;
      same = keeps.values m (buffer_reads old n m is) ∙ (is.same ∙ sym own);
      only = is.only;
      every = λ v low. is.every v (subst (λ k. v < k) own low);
    }

pub IsBuffer-same : (old new : List (Option FlatNet)) (n : ℕ) → KeepsNet old new n → IsBuffer old n → IsBuffer new n
IsBuffer-same old new n keeps is = record { source = is.source; buffer = IsPlainBuffer-same old new n is.source keeps is.buffer }

pub IsTabled-same : (old new : List (Option FlatNet)) (name : List ℕ) (n : ℕ) → slot new n ≡ slot old n → IsTabled old name n → IsTabled new name n
IsTabled-same old new name n same is = record {
  named = record { net = is.named.net; held = same ∙ is.named.held; is = is.named.is };
  table = ap (λ f. is_some (table_in f)) same ∙ is.table;
}

-- ---- its composites

answer_same : (b : Bool) (A B : Type 0) → (A → B) → (B → A) → MatchBool b A (A → ⊥) → MatchBool b B (B → ⊥)
answer_same true A B to back h = to h
answer_same false A B to back h = λ x. h (back x)

pub IsInnerOf-same : (old new : List (Option FlatNet)) (inner : Inner) → KeepsNet old new inner.net.0 → IsInnerOf old inner → IsInnerOf new inner
IsInnerOf-same old new inner keeps is =
    let n = inner.net.0 in
    record {
      table = ap table_in keeps.same ∙ is.table;
      total =
          answer_same inner.total (IsTotalNet old n) (IsTotalNet new n) (IsTotalNet-same old new n keeps)
          (IsTotalNet-same new old n (net_back old new n keeps)) is.total;
      plain =
          answer_same inner.plain (IsPlainNet old n) (IsPlainNet new n) (IsPlainNet-same old new n keeps.same)
          (IsPlainNet-same new old n (sym keeps.same)) is.plain;
    }

pub composed_kept : (old new : List (Option FlatNet)) (inner : Inner) (m : ℕ) (c : Cover) → IsInnerOf old inner → KeepsNet old new inner.net.0 → KeepsNet old new m → table_in (slot old m) ≡ Some c
    → composed (map values_in old) inner c ≡ composed (map values_in new) inner c
composed_kept old new inner m c is own keeps table =
    composed-same (map values_in old) (map values_in new) inner c (counts_kept old new inner.net.0 inner.cover own is.table) (counts_kept old new m c keeps table)

pub IsTooWide-kept : (old new : List (Option FlatNet)) (inner : Inner) (m : ℕ) (c : Cover) → IsInnerOf old inner → KeepsNet old new inner.net.0 → KeepsNet old new m → table_in (slot old m) ≡ Some c
    → IsTooWide (map values_in old) inner c → IsTooWide (map values_in new) inner c
IsTooWide-kept old new inner m c is own keeps table =
    IsTooWide-same (map values_in old) (map values_in new) inner c (counts_kept old new inner.net.0 inner.cover own is.table) (counts_kept old new m c keeps table)

-- ---- both ways

pub both_ways : (P : List (Option FlatNet) → ℕ → Type 0) → ((old new : List (Option FlatNet)) (n : ℕ) → KeepsNet old new n → P old n → P new n)
    → (old new : NetParts) (n : ℕ) → WellFormed new → KeepsValues old.nets new.nets → slot new.nets n ≡ slot old.nets n → P new.nets n ↔ P old.nets n
both_ways P to old new n formed keeps same =
    let kept = net_kept old.nets new n formed keeps same in
    (to new.nets old.nets n (net_back old.nets new.nets n kept), to old.nets new.nets n kept)

pub IsInnerOf-both : (old new : NetParts) (inner : Inner) → WellFormed new → KeepsValues old.nets new.nets → slot new.nets inner.net.0 ≡ slot old.nets inner.net.0
    → IsInnerOf new.nets inner ↔ IsInnerOf old.nets inner
IsInnerOf-both old new inner formed keeps same =
    let kept = net_kept old.nets new inner.net.0 formed keeps same in
    (IsInnerOf-same new.nets old.nets inner (net_back old.nets new.nets inner.net.0 kept), IsInnerOf-same old.nets new.nets inner kept)

pub composed_both : (old new : NetParts) (inner : Inner) (m : ℕ) (c : Cover) → WellFormed new → KeepsValues old.nets new.nets
    → slot new.nets inner.net.0 ≡ slot old.nets inner.net.0 → slot new.nets m ≡ slot old.nets m → IsInnerOf old.nets inner → table_in (slot old.nets m) ≡ Some c
    → composed (map values_in new.nets) inner c ≡ composed (map values_in old.nets) inner c
composed_both old new inner m c formed keeps own same is table =
    sym (composed_kept old.nets new.nets inner m c is (net_kept old.nets new inner.net.0 formed keeps own) (net_kept old.nets new m formed keeps same) table)

pub IsTooWide-both : (old new : NetParts) (inner : Inner) (m : ℕ) (c : Cover) → WellFormed new → KeepsValues old.nets new.nets
    → slot new.nets inner.net.0 ≡ slot old.nets inner.net.0 → slot new.nets m ≡ slot old.nets m → IsInnerOf old.nets inner → table_in (slot old.nets m) ≡ Some c
    → IsTooWide (map values_in new.nets) inner c ↔ IsTooWide (map values_in old.nets) inner c
IsTooWide-both old new inner m c formed keeps own same is table =
    let inner_kept = net_kept old.nets new inner.net.0 formed keeps own in
    let kept = net_kept old.nets new m formed keeps same in
    let inner_back = net_back old.nets new.nets inner.net.0 inner_kept in
    let back = net_back old.nets new.nets m kept in (
      IsTooWide-kept new.nets old.nets inner m c (IsInnerOf-same old.nets new.nets inner inner_kept is) inner_back back (ap table_in same ∙ table),
      IsTooWide-kept old.nets new.nets inner m c is inner_kept kept table,
    )
