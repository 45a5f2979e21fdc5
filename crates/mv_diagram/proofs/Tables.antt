-- What stays as nodes are added to a table.
use Rattle.std.proofs.Common.{◌≡◌, ℕ, true, List, [], Option, Some, refl, sym, ap, subst, ◌∙◌, inl, inr, arith}
use Rattle.lru.proofs.Splits.{Contains-nil}
use Rattle.mv_diagram.specs.declared.node.Dd.{Dd}
use Rattle.mv_diagram.specs.declared.node.Node.{Node}
use Rattle.mv_diagram.specs.declared.node.Test.{Test}
use Rattle.mv_diagram.specs.declared.memo.Key.{Key}
use Rattle.mv_diagram.specs.declared.memo.Operation.{Operation}
use Rattle.mv_diagram.specs.declared.table.Table.{Table}
use Rattle.mv_diagram.specs.Sets.{Point, holds, has_diagram, node_at}
use Rattle.mv_diagram.specs.Sound.{first, IsTest, IsReduced}
use Rattle.mv_diagram.specs.Works.{AddsNodes}
use Rattle.mv_diagram.specs.First.{AreParted, IsFirstTest, IsSplit}
use Rattle.mv_diagram.specs.Results.{IsRemembered, IsResult, Remembers, result_of}
use Rattle.mv_diagram.proofs.Following.{if_same}
use Rattle.mv_diagram.proofs.Growing.{Grows-same, Grows-more, held_node, node_stays, held_stays, first_stays, holds_stays}

pub AddsNodes-same : (t : Table) → IsReduced t.counts.items t.pool.places → AddsNodes t t
AddsNodes-same t s = record { counts = refl; cap = refl; grows = Grows-same t.pool.places; sound = s; ascends = λ a. a; longer = omega arith }

pub AddsNodes-more : (a b c : Table) → AddsNodes a b → AddsNodes b c → AddsNodes a c
AddsNodes-more a b c g h = record { counts = h.counts ∙ g.counts; cap = h.cap ∙ g.cap; grows = Grows-more a.pool.places b.pool.places c.pool.places g.grows h.grows; sound = h.sound; ascends = λ x. h.ascends (g.ascends x); longer = let first = g.longer in let second = h.longer in omega arith }

module _ (old new : Table) (s : IsReduced old.counts.items old.pool.places) (adds : AddsNodes old new) where
  pub table_held : (d : ℕ) → has_diagram old.pool.places d ≡ true → has_diagram new.pool.places d ≡ true
  table_held d held = held_stays old.counts.items old.pool.places new.pool.places adds.grows d held

  pub table_first : (d : ℕ) → has_diagram old.pool.places d ≡ true → first new.counts.items new.pool.places d ≡ first old.counts.items old.pool.places d
  table_first d held =
      ap (λ v. first v new.pool.places d) (ap (λ c. c.items) adds.counts) ∙ first_stays old.counts.items old.pool.places new.pool.places adds.grows d held

  pub table_holds : (d : ℕ) (p : Point) → has_diagram old.pool.places d ≡ true → holds new.counts.items new.pool.places d p ≡ holds old.counts.items old.pool.places d p
  table_holds d p held =
      ap (λ v. holds v new.pool.places d p) (ap (λ c. c.items) adds.counts) ∙ holds_stays old.counts.items old.pool.places new.pool.places adds.grows s d p held

  pub table_test : (t : Test) → IsTest old.counts.items t → IsTest new.counts.items t
  table_test t is = subst (λ v. IsTest v t) (sym (ap (λ c. c.items) adds.counts)) is

  table_split : (d : ℕ) (t : Test) (yes no : ℕ) → has_diagram old.pool.places d ≡ true → IsSplit old.counts.items old.pool.places d t yes no → IsSplit new.counts.items new.pool.places d t yes no
  table_split d t y n held is = record {
    yes_held = table_held y is.yes_held;
    no_held = table_held n is.no_held;
    yes_later = rw (table_first y is.yes_held) is.yes_later;
    no_later = rw (table_first n is.no_held) is.no_later;
    set = λ p. table_holds d p held ∙ is.set p ∙ sym (if_same _ _ _ _ _ _ refl (table_holds y p is.yes_held) (table_holds n p is.no_held));
  }

  pub table_result : (operation : Operation) (a b d : ℕ) → IsResult old.counts.items old.pool.places operation a b d → IsResult new.counts.items new.pool.places operation a b d
  table_result operation a b d is = record {
    left = table_held a is.left;
    right = table_held b is.right;
    held = table_held d is.held;
    later = λ from low also. rw (table_first d is.held) (is.later from (rw (table_first a is.left) at low) (rw (table_first b is.right) at also));
    set = λ p. table_holds d p is.held ∙ is.set p
        ∙ ap (λ x. result_of operation x (holds old.counts.items old.pool.places b p)) (sym (table_holds a p is.left))
        ∙ ap (result_of operation (holds new.counts.items new.pool.places a p)) (sym (table_holds b p is.right));
  }

  pub table_remembers : (entries : List (Key × Dd)) → Remembers old.counts.items old.pool.places entries → Remembers new.counts.items new.pool.places entries
  table_remembers entries are = record { each = λ k d there. table_result k.operation k.left.0 k.right.0 d.0 (are.each k d there) }

  table_first_of : (a b : ℕ) (t : Test) → has_diagram old.pool.places a ≡ true → has_diagram old.pool.places b ≡ true → IsFirstTest old.counts.items old.pool.places a b t → IsFirstTest new.counts.items new.pool.places a b t
  table_first_of a b t ha hb is = record {
    test = table_test t is.test;
    left = rw (table_first a ha) is.left;
    right = rw (table_first b hb) is.right;
    one = rw (table_first a ha, table_first b hb) is.one;
  }

  pub table_parted : (a b : ℕ) (t : Test) (ay an by bn : ℕ) → AreParted old.counts.items old.pool.places a b t ay an by bn → AreParted new.counts.items new.pool.places a b t ay an by bn
  table_parted a b t ay an by bn is = record {
    left_held = table_held a is.left_held;
    right_held = table_held b is.right_held;
    test = table_first_of a b t is.left_held is.right_held is.test;
    left = table_split a t ay an is.left_held is.left;
    right = table_split b t by bn is.right_held is.right;
  }

-- with one result more what is remembered is right
pub remembers_more : (counts : List ℕ) (ns : List (Option Node)) (old new : List (Key × Dd)) (key : Key) (d : Dd) → Remembers counts ns old → IsRemembered old new key d → IsResult counts ns key.operation key.left.0 key.right.0 d.0 → Remembers counts ns new
remembers_more counts ns old new key d are kept is = record {
  each = λ k r there. elim (kept.each k r there) [
    | inl was ↦ are.each k r was
    | inr same ↦ let P : Key → Dd → Type 0 = λ k r. IsResult counts ns k.operation k.left.0 k.right.0 r.0 in subst (λ k. P k r) (sym same.0) (subst (λ r. P key r) (sym same.1) is)
  ];
}

-- nothing remembered is right
pub remembers_none : (counts : List ℕ) (ns : List (Option Node)) → Remembers counts ns []
remembers_none counts ns = record { each = λ k d there. absurd (Contains-nil (k, d) there) }

pub table_node : (old new : Table) → AddsNodes old new → (d : ℕ) (n : Node) → node_at old.pool.places d ≡ Some n → node_at new.pool.places d ≡ Some n
table_node old new adds d n e = node_stays old.counts.items old.pool.places new.pool.places adds.grows d (held_node old.pool.places d n e) ∙ e
