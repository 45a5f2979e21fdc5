-- A table that allows less at each point of all nets does so at each point of its net's fanins.
use Rattle.std.proofs.Common.{◌≡◌, ◌∙◌, ℕ, ◌<◌, true, cond, map, get_or, nat_lt, inl, inr, Some, sym, ap, subst, arith}
use Rattle.std.proofs.lemmas.Bool.{cases_Bool, lt-ltb, ltb-true}
use Rattle.mv_cover.specs.declared.cover.Cover.{Cover}
use Rattle.mv_cover.specs.Covering.{IsPoint}
use Rattle.mv_cover.specs.Covers.{allowed, cover_reads}
use Rattle.mv_cover.proofs.Local.{allowed-local}
use Rattle.mv_flex.specs.Flex.{IsFaninPoint}
use Rattle.mv_meaning.specs.Narrowing.{KeepsSome, ReadsWithin}
use Rattle.mv_narrow.specs.Verdicts.{AllowsLess}
use Rattle.mv_net.specs.declared.parts.NetParts.{NetParts}
use Rattle.mv_net.specs.Nets.{slot, values_in, table_in, table_reads}
use Rattle.mv_net.specs.Total.{AllowsValue}
use Rattle.mv_net.proofs.Known.{counts_at}

-- the assignment, with 0 where a net hasn't the value
abbrev pinned : NetParts → (ℕ → ℕ) → ℕ → ℕ
pinned net at m = cond (nat_lt (at m) (get_or (map values_in net.nets) m 0)) (at m) 0

pinned_point : (net : NetParts) (at : ℕ → ℕ) → IsPoint (map values_in net.nets) (pinned net at)
pinned_point net at = record {
  below = λ m some.
      elim (cases_Bool (nat_lt (at m) (get_or (map values_in net.nets) m 0))) [
        | inl t ↦ rw t (ltb-true (at m) (get_or (map values_in net.nets) m 0) t)
        | inr f ↦ rw f some
      ];
}

module _ (net : NetParts) (n : ℕ) (old new : Cover) (table : table_in (slot net.nets n) ≡ Some old) (reads : ReadsWithin old new) where
  pinned_same : (at : ℕ → ℕ) → IsFaninPoint net.nets n at → (m : ℕ) → cover_reads old m ≡ true → pinned net at m ≡ at m
  pinned_same at point m read =
      let low : at m < values_in (slot net.nets m) = point.fanins m (ap (λ t. table_reads t m) table ∙ read) in
      let t = lt-ltb (at m) (get_or (map values_in net.nets) m 0) (subst (λ k. at m < k) (sym (counts_at net.nets m)) low) in
      ap (λ b. cond b (at m) 0) t

  module _ (at : ℕ → ℕ) (point : IsFaninPoint net.nets n at) (v : ℕ) where
    old_same : allowed old (pinned net at) v ≡ allowed old at v
    old_same = allowed-local old (pinned net at) at v (pinned_same at point)

    new_same : allowed new (pinned net at) v ≡ allowed new at v
    new_same = allowed-local new (pinned net at) at v (λ m read. pinned_same at point m (reads.each m read))

  pub less_at_fanins : ((at : ℕ → ℕ) → IsPoint (map values_in net.nets) at → (v : ℕ) → allowed new at v ≡ true → allowed old at v ≡ true)
      → KeepsSome net.nets old new → AllowsLess net.nets n old new
  less_at_fanins within keeps = record {
    within = λ at v pair allows.
        sym (old_same at pair.point v) ∙ within (pinned net at) (pinned_point net at) v (new_same at pair.point v ∙ allows);
    keeps = record {
      each = λ at point some.
          let there : AllowsValue old (pinned net at) = record { value = some.value; is_allowed = old_same at point some.value ∙ some.is_allowed } in
          let now = keeps.each (pinned net at) (pinned_point net at) there in
          record { value = now.value; is_allowed = sym (new_same at point now.value) ∙ now.is_allowed };
    };
  }
