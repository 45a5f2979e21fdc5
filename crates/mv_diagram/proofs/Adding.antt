-- What is added, as restrictions of a set.
use Rattle.std.proofs.Common.{◌≡◌, ℕ, zero, suc, add-one, ◌+◌, ◌-◌, ◌<◌, ◌==◌, ◌&&◌, ◌⊎◌, Bool, true, List, length, slice_index, Option, Some, is_some, if◌then◌else◌, refl, sym, ap, subst, ◌∙◌, inl, inr, arith}
use Rattle.mv_pool.specs.Places.{Contents, with_item}
use Rattle.mv_diagram.specs.declared.node.Node.{Node}
use Rattle.mv_diagram.specs.declared.table.Table.{Table}
use Rattle.mv_diagram.specs.Sets.{Point, InRange, node_at, holds, has_diagram}
use Rattle.mv_diagram.specs.Sound.{AreCounts, IsNode, IsReduced, order}
use Rattle.mv_diagram.specs.Works.{AddsNodes, HasPut, IsAbsent}
use Rattle.mv_diagram.specs.Parts.{no_variable, IsRestriction, AddsParts}
use Rattle.mv_diagram.proofs.Following.{holds_node, if_same}
use Rattle.mv_diagram.proofs.Growing.{Grows-with, each_with, held_low, holds_stays, IsReduced-with}
use Rattle.mv_diagram.proofs.Lacking.{Reads, Agree-more}
use Rattle.mv_diagram.proofs.Reclaiming.{held_by, held_from, item_some, node_there}
use Rattle.mv_diagram.proofs.Restricting.{restriction_whole, restriction_same, restriction_no}
use Rattle.mv_base.specs.Set.{has}
use Rattle.mv_diagram.proofs.Points.{beside}
use Rattle.mv_diagram.proofs.Literals.{limited, limited_reads, literal_step, limited_past, seen_all}
use Rattle.mv_diagram.proofs.Tables.{AddsNodes-more, table_holds, table_held, table_parted}
use Rattle.mv_diagram.specs.declared.node.Test.{Test}
use Rattle.mv_diagram.specs.declared.memo.Operation.{Operation}
use Rattle.mv_diagram.specs.First.{AreParted}
use Rattle.mv_diagram.specs.Results.{result_of}
use Rattle.mv_diagram.proofs.Applying.{both_same, parts_yes, parts_no}

-- nothing is added
pub parts_none : (counts : List ℕ) (ns : List (Option Node)) (whole : Point → Bool) → AddsParts counts ns ns whole
parts_none counts ns whole = record { each = λ d held. inl held }

-- the same whole in other words
pub parts_same : (counts : List ℕ) (old new : List (Option Node)) (whole whole' : Point → Bool) → AreCounts counts → ((p : Point) → InRange counts p → whole p ≡ whole' p) → AddsParts counts old new whole → AddsParts counts old new whole'
parts_same counts old new whole whole' are same parts = record {
  each = λ d held. elim (parts.each d held) [
    | inl was ↦ inl was
    | inr r ↦ inr (restriction_same counts are no_variable whole whole' _ _ same (λ p. refl) r)
  ];
}

pub Reads-all : (counts : List ℕ) (from : ℕ) (whole : Point → Bool) → Reads counts from whole → Reads counts 0 whole
Reads-all counts from whole reads = record { each = λ p q agree. reads.each p q (Agree-more counts 0 from p q (omega arith) agree) }

module _ (counts : List ℕ) (ns : List (Option Node)) (n : Node) (from : ℕ) (s : IsReduced counts ns) (is : IsNode counts ns n) (absent : IsAbsent ns n)
    (reads : Reads counts from (λ p. if p n.test.var == n.test.value then holds counts ns n.yes.0 p else holds counts ns n.no.0 p)) where
  abbrev set : Point → Bool
  set p = if p n.test.var == n.test.value then holds counts ns n.yes.0 p else holds counts ns n.no.0 p

  new_set : (d : ℕ) → node_at (with_item ns n) d ≡ Some n → (p : Point) → set p ≡ holds counts (with_item ns n) d p
  new_set d e p = sym (holds_node counts (with_item ns n) (IsReduced-with counts ns n s is absent) d n p e
      ∙ if_same _ _ _ _ _ _ refl (holds_stays counts ns (with_item ns n) (Grows-with ns n) s n.yes.0 p is.yes_held) (holds_stays counts ns (with_item ns n) (Grows-with ns n) s n.no.0 p is.no_held))

  -- a node is added
  parts_with : AddsParts counts ns (with_item ns n) set
  parts_with = record {
    each = λ d held. held_by (with_item ns n) d held (λ low. inl (held_low ns d low)) (λ id at some.
        let have = item_some (with_item ns n) id.0 some in
        elim (each_with counts ns n s is absent id.0 have.0 have.1) [
          | inl here ↦ inr (restriction_same counts s.values no_variable set set set (λ p. holds counts (with_item ns n) d p) (λ p range. refl)
              (new_set d (node_there (with_item ns n) d id at ∙ have.1 ∙ ap (λ x. Some x) (sym here.1)))
              (restriction_whole counts s.values set (Reads-all counts from set reads)))
          | inr old ↦ inl (held_from ns d id at (ap is_some old))
        ]);
  }

-- a node is added, if anything
pub parts_put : (counts : List ℕ) (old new : Contents Node) (n : Node) (d from : ℕ) → IsReduced counts old.places → IsNode counts old.places n → HasPut old new n d
    → Reads counts from (λ p. if p n.test.var == n.test.value then holds counts old.places n.yes.0 p else holds counts old.places n.no.0 p)
    → AddsParts counts old.places new.places (λ p. if p n.test.var == n.test.value then holds counts old.places n.yes.0 p else holds counts old.places n.no.0 p)
parts_put counts old new n d from s is put reads = elim put.change [
  | inl same ↦ rw same (parts_none counts old.places _)
  | inr added ↦ rw added.0 (parts_with counts old.places n from s is added.1 reads)
]

module _ (old new : Table) (s : IsReduced old.counts.items old.pool.places) (adds : AddsNodes old new) where
  -- a restriction stays one
  pub table_part : (d : ℕ) (whole : Point → Bool) → has_diagram old.pool.places d ≡ true → IsRestriction old.counts.items no_variable whole (λ p. holds old.counts.items old.pool.places d p) → IsRestriction new.counts.items no_variable whole (λ p. holds new.counts.items new.pool.places d p)
  table_part d whole held r = restriction_same new.counts.items adds.sound.values no_variable whole whole _ _ (λ p range. refl) (λ p. sym (table_holds old new s adds d p held))
      (subst (λ v. IsRestriction v no_variable whole (λ p. holds old.counts.items old.pool.places d p)) (sym (ap (λ v. v.items) adds.counts)) r)

module _ (operation : Operation) (old new : Table) (s : IsReduced old.counts.items old.pool.places) (adds : AddsNodes old new) (a b : ℕ) (t : Test) (ay an by bn : ℕ) (parted : AreParted old.counts.items old.pool.places a b t ay an by bn) where
  abbrev whole : Point → Bool
  whole p = result_of operation (holds new.counts.items new.pool.places a p) (holds new.counts.items new.pool.places b p)

  -- a restriction of the result of two diagrams stays one
  operands_part : (mid : Table) → IsReduced mid.counts.items mid.pool.places → AddsNodes mid new → (x y d : ℕ) → has_diagram mid.pool.places x ≡ true → has_diagram mid.pool.places y ≡ true → has_diagram mid.pool.places d ≡ true
      → IsRestriction mid.counts.items no_variable (λ p. result_of operation (holds mid.counts.items mid.pool.places x p) (holds mid.counts.items mid.pool.places y p)) (λ p. holds mid.counts.items mid.pool.places d p)
      → IsRestriction new.counts.items no_variable (λ p. result_of operation (holds new.counts.items new.pool.places x p) (holds new.counts.items new.pool.places y p)) (λ p. holds new.counts.items new.pool.places d p)
  operands_part mid sm more x y d hx hy hd r = restriction_same new.counts.items adds.sound.values no_variable _ _ _ _
      (λ p range. both_same operation _ _ _ _ (sym (table_holds mid new sm more x p hx)) (sym (table_holds mid new sm more y p hy))) (λ p. refl)
      (table_part mid new sm more d _ hd r)

  -- what the results of the two sides add
  pub from_yes : (mid : Table) → AddsNodes old mid → AddsNodes mid new → (d : ℕ) → has_diagram mid.pool.places d ≡ true
      → IsRestriction mid.counts.items no_variable (λ p. result_of operation (holds mid.counts.items mid.pool.places ay p) (holds mid.counts.items mid.pool.places by p)) (λ p. holds mid.counts.items mid.pool.places d p)
      → IsRestriction new.counts.items no_variable whole (λ p. holds new.counts.items new.pool.places d p)
  from_yes mid first more d hd r =
      parts_yes new.counts.items new.pool.places adds.sound operation a b t ay an by bn (table_parted old new s adds a b t ay an by bn parted) _
      (operands_part mid first.sound more ay by d (table_held old mid s first ay parted.left.yes_held) (table_held old mid s first by parted.right.yes_held) hd r)

  from_no : (mid : Table) → AddsNodes old mid → AddsNodes mid new → (d : ℕ) → has_diagram mid.pool.places d ≡ true
      → IsRestriction mid.counts.items no_variable (λ p. result_of operation (holds mid.counts.items mid.pool.places an p) (holds mid.counts.items mid.pool.places bn p)) (λ p. holds mid.counts.items mid.pool.places d p)
      → IsRestriction new.counts.items no_variable whole (λ p. holds new.counts.items new.pool.places d p)
  from_no mid first more d hd r =
      parts_no new.counts.items new.pool.places adds.sound operation a b t ay an by bn (table_parted old new s adds a b t ay an by bn parted) _
      (operands_part mid first.sound more an bn d (table_held old mid s first an parted.left.no_held) (table_held old mid s first bn parted.right.no_held) hd r)

  -- what both add, the one for yes first
  pub from_both : (one two : Table) → AddsNodes old one → AddsNodes one two → AddsNodes two new
      → AddsParts one.counts.items old.pool.places one.pool.places (λ p. result_of operation (holds one.counts.items one.pool.places ay p) (holds one.counts.items one.pool.places by p))
      → AddsParts two.counts.items one.pool.places two.pool.places (λ p. result_of operation (holds two.counts.items two.pool.places an p) (holds two.counts.items two.pool.places bn p))
      → (d : ℕ) → has_diagram two.pool.places d ≡ true → (has_diagram old.pool.places d ≡ true) ⊎ IsRestriction new.counts.items no_variable whole (λ p. holds new.counts.items new.pool.places d p)
  from_both one two first second third ones twos d held = elim (twos.each d held) [
    | inr r ↦ inr (from_no two (AddsNodes-more old one two first second) third d held r)
    | inl before ↦ elim (ones.each d before) [
      | inr r ↦ inr (from_yes one first (AddsNodes-more one two new second third) d before r)
      | inl was ↦ inl was
    ]
  ]

-- a test more of a literal, in points of later variables
literal_parts : (base : List (Option Node)) (old new : Table) → IsReduced old.counts.items old.pool.places → AddsNodes old new → (var set low : ℕ) (z whole : Point → Bool) → Reads new.counts.items (order (var + 1) 0) z
    → var < length old.counts.items → low + 1 < slice_index old.counts.items var
    → AddsParts old.counts.items base old.pool.places (limited old.counts.items var set (low + 1) z) → AddsParts new.counts.items old.pool.places new.pool.places whole → ((p : Point) → whole p ≡ limited new.counts.items var set low z p)
    → AddsParts new.counts.items base new.pool.places (limited new.counts.items var set low z)
literal_parts base old new s adds var set low z whole behind variable below before now is =
    let counts = new.counts.items in
    let same = ap (λ v. v.items) adds.counts in
    let t : Test = record { var = var; value = low } in
    let variable' : var < length counts = rw same variable in
    let below' : low + 1 < slice_index counts var = rw same below in
    record {
      each = λ d held. elim (now.each d held) [
        | inr r ↦ inr (restriction_same counts adds.sound.values no_variable whole (limited counts var set low z) _ _ (λ p range. is p) (λ p. refl) r)
        | inl there ↦ elim (before.each d there) [
          | inl was ↦ inl was
          | inr r ↦ inr (restriction_no counts adds.sound.values no_variable t (record { variable = variable'; value = below' }) (limited counts var set low z) (limited_reads counts new.pool.places adds.sound var set variable' z behind low below') _
              (restriction_same counts adds.sound.values no_variable _ (λ p. limited counts var set low z (beside counts t p)) _ _
              (λ p range. ap (λ v. limited v var set (low + 1) z p) (sym same) ∙ limited_past counts new.pool.places adds.sound var set variable' z behind low p)
              (λ p. refl)
              (table_part old new s adds d _ there r)))
        ]
      ];
    }

-- all tests of a literal see its set
pub literal_whole : (counts : List ℕ) (base ns : List (Option Node)) → AreCounts counts → (var set : ℕ) (z : Point → Bool) → var < length counts → AddsParts counts base ns (limited counts var set 0 z) → AddsParts counts base ns (λ p. has set (p var) && z p)
literal_whole counts base ns are var set z within parts = parts_same counts base ns _ (λ p. has set (p var) && z p) are (λ p range. ap (λ v. has set v && z p) (seen_all (slice_index counts var) (p var) (range.below var within))) parts

-- what the later tests see is a restriction of the whole literal
pub literal_down : (counts : List ℕ) (base ns : List (Option Node)) → IsReduced counts ns → (var set low : ℕ) (z : Point → Bool) → Reads counts (order (var + 1) 0) z → var < length counts → low < slice_index counts var → AddsParts counts base ns (limited counts var set low z)
    → AddsParts counts base ns (λ p. has set (p var) && z p)
literal_down counts base ns s var set zero z behind within below parts = literal_whole counts base ns s.values var set z within parts
literal_down counts base ns s var set (suc low) z behind within below parts = literal_down counts base ns s var set low z behind within (omega arith) (record {
  each = λ d held. elim (parts.each d held) [
    | inl was ↦ inl was
    | inr r ↦ inr (restriction_no counts s.values no_variable (record { var = var; value = low }) (record { variable = within; value = omega arith }) (limited counts var set low z) (limited_reads counts ns s var set within z behind low (omega arith)) _
        (restriction_same counts s.values no_variable (limited counts var set (suc low) z) (λ p. limited counts var set low z (beside counts (record { var = var; value = low }) p)) _ _
        (λ p range. ap (λ x. limited counts var set x z p) (sym (add-one low)) ∙ limited_past counts ns s var set within z behind low p) (λ p. refl) r))
  ];
})

-- a test more of a literal, of the value before the last one
module _ (old new : Table) (s : IsReduced old.counts.items old.pool.places) (adds : AddsNodes old new) (var set value : ℕ) (z : Point → Bool) (within : var < length old.counts.items) (below : value < slice_index old.counts.items var) (some : 0 < value)
    (y rest : ℕ) (here : (p : Point) → holds old.counts.items old.pool.places y p ≡ (has set (value - 1) && z p)) (later : (p : Point) → holds old.counts.items old.pool.places rest p ≡ limited old.counts.items var set value z p) where
  next : value - 1 + 1 ≡ value
  next = omega arith

  abbrev made : Point → Bool
  made p = if p var == (value - 1) then holds old.counts.items old.pool.places y p else holds old.counts.items old.pool.places rest p

  pub made_set : (p : Point) → made p ≡ limited new.counts.items var set (value - 1) z p
  made_set p =
      literal_step old.counts.items old.pool.places s var set within (z p) (value - 1) p _ _ (omega arith) (here p) (later p ∙ ap (λ x. limited old.counts.items var set x z p) (sym next))
      ∙ ap (λ v. limited v var set (value - 1) z p) (sym (ap (λ v. v.items) adds.counts))

  pub made_parts : (base : List (Option Node)) → Reads new.counts.items (order (var + 1) 0) z → AddsParts old.counts.items base old.pool.places (limited old.counts.items var set value z) → AddsParts new.counts.items old.pool.places new.pool.places made
      → AddsParts new.counts.items base new.pool.places (limited new.counts.items var set (value - 1) z)
  made_parts base behind before now = literal_parts base old new s adds var set (value - 1) z made behind within (omega arith)
      (subst (λ x. AddsParts old.counts.items base old.pool.places (limited old.counts.items var set x z)) (sym next) before) now made_set
