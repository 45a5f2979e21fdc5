-- Whether values of a net may be merged depends on the net and on the tables that read it.
use Rattle.std.proofs.Common.{◌≡◌, ◌∙◌, ◌⊎◌, ◌||◌, ℕ, ◌&&◌, false, nat_eq, List, [], ◌∷◌, Option, Some, None, is_some, inl, inr, refl, sym, ap, subst}
use Rattle.std.specs.List.{list_any}
use Rattle.std.proofs.lemmas.Bool.{or_parts, or_from}
use Rattle.mv_base.specs.declared.number.Value.{Value}
use Rattle.mv_cover.specs.Covers.{cube_reads, lines_read}
use Rattle.mv_cover.specs.Literal.{Lit}
use Rattle.mv_cover.specs.declared.cover.Cover.{Cover}
use Rattle.mv_cover.specs.declared.line.Line.{Line}
use Rattle.mv_graph.specs.Nets.{has_id}
use Rattle.mv_locality.specs.Local.{IsStill}
use Rattle.mv_merging.specs.Verdicts.{AreAlike, AreMergeable, IsMergeLossless, cover_splits, literal_splits, splits}
use Rattle.mv_net.specs.declared.parts.FlatNet.{FlatNet}
use Rattle.mv_net.specs.declared.parts.NetParts.{NetParts}
use Rattle.mv_net.specs.Changes.{with_nets}
use Rattle.mv_net.specs.Index.{is_latch_input, is_reset, is_seen, kind_in}
use Rattle.mv_net.specs.Nets.{slot, values_in, table_in, table_reads, reads_in}
use Rattle.mv_merge.specs.Merges.{CanMerge}

-- ---- lines without a literal on a net tell no values of it apart

cube_unsplit : (n u v : ℕ) (cube : List Lit) → cube_reads cube n ≡ false → list_any (literal_splits n u v) cube ≡ false
cube_unsplit n u v [] h = refl
cube_unsplit n u v (l ∷ ls) h =
    let p = or_parts (nat_eq l.net.0 n) (cube_reads ls n) h in
    or_from (literal_splits n u v l) (list_any (literal_splits n u v) ls) (ap (λ b. b && splits u v l.set) p.0) (cube_unsplit n u v ls p.1)

lines_unsplit : (n u v : ℕ) (ls : List Line) → lines_read ls n ≡ false → list_any (λ (l : Line). list_any (literal_splits n u v) l.cube) ls ≡ false
lines_unsplit n u v [] h = refl
lines_unsplit n u v (l ∷ ls) h =
    let p = or_parts (cube_reads l.cube n) (lines_read ls n) h in
    or_from (list_any (literal_splits n u v) l.cube) (list_any (λ (k : Line). list_any (literal_splits n u v) k.cube) ls) (cube_unsplit n u v l.cube p.0) (lines_unsplit n u v ls p.1)

-- ---- a net for which nothing changed

module _ (old new : List (Option FlatNet)) (n : ℕ) (still : IsStill old new n) where
  -- values that no table tells apart now none told apart before
  alike_before : (u v : ℕ) → AreAlike new n u v → AreAlike old n u v
  alike_before u v alike = record { each = λ k c table. by k c table (still.readers k) }
    where
      by : (k : ℕ) (c : Cover) → table_in (slot old k) ≡ Some c → (slot new k ≡ slot old k) ⊎ ((reads_in old k n ≡ false) × (reads_in new k n ≡ false)) → cover_splits n u v c ≡ false
      by k c table (inl same) = alike.each k c (ap table_in same ∙ table)
      by k c table (inr unread) = lines_unsplit n u v c.lines (sym (ap (λ t. table_reads t n) table) ∙ unread.0)

  lossless_before : (gone : Value) (into : Option Value) → IsMergeLossless new n gone into → IsMergeLossless old n gone into
  lossless_before gone None never = record { each = λ c table. never.each c (ap table_in still.same ∙ table) }
  lossless_before gone (Some into) alike = alike_before into.0 gone.0 alike

module _ (old new : NetParts) (n : ℕ) (same : new ≡ with_nets old new.nets) (still : IsStill old.nets new.nets n) where
  seen_same : is_seen new n ≡ is_seen old n
  unfolding is_seen with_nets
  seen_same =
      let outputs : new.outputs ≡ old.outputs = ap (λ (p : NetParts). p.outputs) same in
      let latches : new.latches ≡ old.latches = ap (λ (p : NetParts). p.latches) same in
      λ i. has_id (outputs i) n || is_latch_input (latches i) n || is_reset (kind_in (still.same i))

  pub merge_before : CanMerge new n → CanMerge old n
  merge_before can = record {
    unseen = record { unseen = sym seen_same ∙ can.unseen.unseen };
    table = ap (λ f. is_some (table_in f)) (sym still.same) ∙ can.table;
    gone = can.gone;
    into = can.into;
    able = subst (λ (f : Option FlatNet). AreMergeable (values_in f) can.gone can.into) still.same can.able;
    lossless = lossless_before old.nets new.nets n still can.gone can.into can.lossless;
  }
