-- A result by the results where the first test says yes and where it says no.
use Rattle.std.proofs.Common.{◌≡◌, ℕ, ◌+◌, ◌<◌, ◌≤◌, ◌==◌, true, List, Option, if◌then◌else◌, refl, sym, ◌∙◌, arith}
use Rattle.mv_diagram.specs.declared.node.Node.{Node}
use Rattle.mv_diagram.specs.declared.node.Test.{Test}
use Rattle.mv_diagram.specs.declared.table.Table.{Table}
use Rattle.mv_diagram.specs.declared.memo.Operation.{Operation}
use Rattle.mv_diagram.specs.Sets.{Point, holds, has_diagram}
use Rattle.mv_diagram.specs.Sound.{order, first, IsReduced}
use Rattle.mv_diagram.specs.Works.{AddsNodes}
use Rattle.mv_diagram.specs.Results.{AreSides, IsResult, result_of}
use Rattle.mv_diagram.proofs.Following.{if_same}
use Rattle.mv_diagram.proofs.Applying.{result_whole, result_parted}
use Rattle.mv_diagram.proofs.Tables.{table_holds, table_parted, table_result}

module _ (counts : List ℕ) (ns : List (Option Node)) (operation : Operation) (a b : ℕ) (t : Test) (y n : ℕ) (sides : AreSides counts ns operation a b t y n) where
  -- neither has a test too early
  pub yes_later : order (t.var + 1) 0 ≤ first counts ns y
  yes_later = sides.yes.later (order (t.var + 1) 0) sides.parted.left.yes_later sides.parted.right.yes_later

  pub no_later : order t.var t.value < first counts ns n
  no_later =
      let left = sides.parted.left.no_later in
      let right = sides.parted.right.no_later in
      let most = sides.no.later (order t.var t.value + 1) (omega arith) (omega arith) in
      omega arith

module _ (old new : Table) (s : IsReduced old.counts.items old.pool.places) (adds : AddsNodes old new) (operation : Operation) (a b : ℕ) (t : Test) (y n : ℕ) (sides : AreSides old.counts.items old.pool.places operation a b t y n) where
  -- the test of the two sides is the whole
  pub sides_whole : (p : Point) → (if p t.var == t.value then holds old.counts.items old.pool.places y p else holds old.counts.items old.pool.places n p)
      ≡ result_of operation (holds new.counts.items new.pool.places a p) (holds new.counts.items new.pool.places b p)
  sides_whole p =
      sym (if_same _ _ _ _ _ _ refl (table_holds old new s adds y p sides.yes.held) (table_holds old new s adds n p sides.no.held))
      ∙ result_whole new.counts.items new.pool.places adds.sound operation a b t sides.a_yes sides.a_no sides.b_yes sides.b_no
      (table_parted old new s adds a b t sides.a_yes sides.a_no sides.b_yes sides.b_no sides.parted) y n
      (table_result old new s adds operation sides.a_yes sides.b_yes y sides.yes) (table_result old new s adds operation sides.a_no sides.b_no n sides.no) p

  pub sides_result : (d : ℕ) → has_diagram new.pool.places d ≡ true → order t.var t.value ≤ first new.counts.items new.pool.places d
      → ((p : Point) → holds new.counts.items new.pool.places d p ≡ (if p t.var == t.value then holds old.counts.items old.pool.places y p else holds old.counts.items old.pool.places n p))
      → IsResult new.counts.items new.pool.places operation a b d
  sides_result d held later set = result_parted new.counts.items new.pool.places adds.sound operation a b t sides.a_yes sides.a_no sides.b_yes sides.b_no
      (table_parted old new s adds a b t sides.a_yes sides.a_no sides.b_yes sides.b_no sides.parted) d held later (λ p. set p ∙ sides_whole p)
