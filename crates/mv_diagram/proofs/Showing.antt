-- From the table to what callers see.
use Rattle.std.specs.Bool.{OnFalse}
use Rattle.std.proofs.Common.{◌≡◌, ◌≤◌, ℕ, length, ◌&&◌, Bool, true, false, not, List, Option, Result, Ok, Err, IfOk, IfErr, All, refl, sym, ap, subst, ◌∙◌, inl, inr, true≢false, arith}
use Rattle.std.proofs.Math.Path.{fun_ext}
use Rattle.std.proofs.lemmas.List.Elements.{All-weaker}
use Rattle.mv_diagram.specs.declared.node.Dd.{Dd}
use Rattle.mv_diagram.specs.declared.node.Node.{Node}
use Rattle.mv_diagram.specs.declared.table.Table.{Table}
use Rattle.mv_diagram.specs.Sets.{Point, holds, has_diagram}
use Rattle.mv_diagram.specs.Sound.{AreCounts, IsReduced}
use Rattle.mv_diagram.specs.Works.{AddsNodes, IsLacking}
use Rattle.mv_diagram.specs.Diagrams.{Contents, IsHeld, Keeps, AddsRestrictions, Lacks, Loses, has}
use Rattle.mv_diagram.specs.declared.node.Nodes.{Nodes}
use Rattle.mv_diagram.specs.declared.memo.Key.{Key}
use Rattle.mv_diagram.specs.declared.memo.Operation.{Operation}
use Rattle.mv_diagram.specs.declared.memo.Operation.TheVariants.{And}
use Rattle.mv_diagram.specs.Results.{IsResult, Remembers, result_of}
use Rattle.mv_diagram.specs.Quantified.{AddsAnswers, AgreesOutside, IsQuantified, Forall, Spreads, is_one_of, meet_of}
use Rattle.mv_diagram.specs.Whole.{IsWhole}
use Rattle.mv_diagram.specs.Parts.{no_variable, AddsParts, IsCombined, AddsCombined}
use Rattle.mv_diagram.proofs.Restricting.{restriction_same}
use Rattle.mv_diagram.proofs.Combining.{combined_same}
use Rattle.mv_diagram.proofs.Following.{holds_end}
use Rattle.mv_diagram.proofs.Growing.{no_node, held_stays, Fewer, set_fewer}
use Rattle.mv_diagram.proofs.Tables.{table_held, table_holds}

-- what callers see of a table
abbrev pub shown : Table → ℕ → Contents
shown t n = record { counts = t.counts.items; nodes = t.pool.places; cap = t.pool.cap; reclaims = n }

pub zero_empty : (counts : List ℕ) (ns : List (Option Node)) (p : Point) → holds counts ns 0 p ≡ false
zero_empty counts ns p = holds_end counts ns 0 p (no_node ns 0 (omega arith))

pub one_full : (counts : List ℕ) (ns : List (Option Node)) (p : Point) → holds counts ns 1 p ≡ true
one_full counts ns p = holds_end counts ns 1 p (no_node ns 1 (omega arith))

pub Keeps-adds : (old new : Table) (n : ℕ) → IsReduced old.counts.items old.pool.places → AddsNodes old new → Keeps (shown old n) (shown new n)
Keeps-adds old new n s adds = record {
  counts = ap (λ v. v.items) adds.counts;
  cap = adds.cap;
  reclaims = refl;
  places = adds.longer;
  held = λ d h. record { is = table_held old new s adds d.0 h.is };
  sets = λ d p h. table_holds old new s adds d.0 p h.is;
}

-- what is always true of the fields stays so as nodes are added
pub whole_adds : (old new : Table) (entries entries' : List (Key × Dd)) (reclaims marks ids chosen chosen' found : ℕ) → AddsNodes old new → chosen ≤ chosen' → Remembers new.counts.items new.pool.places entries'
    → IsWhole old.counts.items old.pool.places entries old.pool.cap reclaims marks ids chosen found → IsWhole new.counts.items new.pool.places entries' new.pool.cap reclaims marks ids chosen' found
whole_adds old new entries entries' reclaims marks ids chosen chosen' found adds more remembers whole = record {
  sound = adds.sound;
  remembers = remembers;
  ascends = λ none. adds.ascends (whole.ascends none);
  marked = rw adds.cap whole.marked;
  gathered = rw adds.cap whole.gathered;
  room = omega (arith, ap (λ v. length v.items) adds.counts, whole.room);
  listed = rw adds.cap whole.listed;
}

-- the same nodes, with more room for their places
pub whole_same : (old new : Table) (entries : List (Key × Dd)) (reclaims marks ids chosen found found' : ℕ) → new.counts ≡ old.counts → new.pool ≡ old.pool → found ≤ found'
    → IsWhole old.counts.items old.pool.places entries old.pool.cap reclaims marks ids chosen found → IsWhole new.counts.items new.pool.places entries new.pool.cap reclaims marks ids chosen found'
whole_same old new entries reclaims marks ids chosen found found' counts pool more whole = rw (counts, pool) (record {
  sound = whole.sound;
  remembers = whole.remembers;
  ascends = whole.ascends;
  marked = whole.marked;
  gathered = whole.gathered;
  room = whole.room;
  listed = omega (arith, whole.listed);
})

pub shown_same : (old new : Table) (n : ℕ) → new.counts ≡ old.counts → new.pool ≡ old.pool → shown new n ≡ shown old n
shown_same old new n counts pool = rw (counts, pool) refl

module _ (operation : Operation) (old new : Table) (n : ℕ) (a b : Dd) (s : IsReduced old.counts.items old.pool.places) (adds : AddsNodes old new)
    (ha : IsHeld (shown old n) a) (hb : IsHeld (shown old n) b) where
  -- the operands have the sets that they had
  pub same_operands : (p : Point) → result_of operation (holds new.counts.items new.pool.places a.0 p) (holds new.counts.items new.pool.places b.0 p)
      ≡ result_of operation (holds old.counts.items old.pool.places a.0 p) (holds old.counts.items old.pool.places b.0 p)
  same_operands p =
      ap (λ x. result_of operation x (holds new.counts.items new.pool.places b.0 p)) (table_holds old new s adds a.0 p ha.is)
      ∙ ap (result_of operation (holds old.counts.items old.pool.places a.0 p)) (table_holds old new s adds b.0 p hb.is)

  pub result_shown : (r : Result Dd Nodes) → IfOk r (λ d. IsResult new.counts.items new.pool.places operation a.0 b.0 d.0)
      → IfOk r (λ d. (p : Point) → has (shown new n) d p ≡ result_of operation (has (shown old n) a p) (has (shown old n) b p))
  result_shown (Ok d) is = λ p. is.set p ∙ same_operands p
  result_shown (Err e) is = tt

  pub lacks_shown : (r : Result Dd Nodes)
      → IfErr r (λ e. IsLacking new.counts.items new.pool.places (λ p. result_of operation (holds new.counts.items new.pool.places a.0 p) (holds new.counts.items new.pool.places b.0 p)))
      → IfErr r (λ e. Lacks (shown new n) (λ p. result_of operation (has (shown old n) a p) (has (shown old n) b p)))
  lacks_shown (Ok d) is = tt
  lacks_shown (Err e) is = record { none = λ d held same. is.none d.0 held.is (record { each = λ p range. same.each p range ∙ sym (same_operands p) }) }

  pub added_shown : AddsParts new.counts.items old.pool.places new.pool.places (λ p. result_of operation (holds new.counts.items new.pool.places a.0 p) (holds new.counts.items new.pool.places b.0 p))
      → AddsRestrictions (shown old n) (shown new n) (λ p. result_of operation (has (shown old n) a p) (has (shown old n) b p))
  added_shown parts = record {
    each = λ d held. elim (parts.each d.0 held.is) [
      | inl was ↦ inl (record { is = was })
      | inr r ↦ inr (restriction_same new.counts.items adds.sound.values no_variable _ _ _ _ (λ p range. same_operands p) (λ p. refl) r)
    ];
  }

pub added_literal : (old new : Table) (n : ℕ) (set : Point → Bool) → AddsParts new.counts.items old.pool.places new.pool.places set → AddsRestrictions (shown old n) (shown new n) set
added_literal old new n set parts = record { each = λ d held. elim (parts.each d.0 held.is) [ inl was ↦ inl (record { is = was }) | inr r ↦ inr r ] }

twice : (x : Bool) → not (x && x) ≡ not x
twice true = refl
twice false = refl

module _ (old new : Contents) (a : Dd) where
  pub not_shown : (r : Result Dd Nodes) → IfOk r (λ d. (p : Point) → has new d p ≡ not (has old a p && has old a p)) → IfOk r (λ d. (p : Point) → has new d p ≡ not (has old a p))
  not_shown (Ok d) is = λ p. is p ∙ twice (has old a p)
  not_shown (Err e) is = tt

  pub not_added : AreCounts new.counts → AddsRestrictions old new (λ p. not (has old a p && has old a p)) → AddsRestrictions old new (λ p. not (has old a p))
  not_added are parts = record {
    each = λ d held. elim (parts.each d held) [
      | inl was ↦ inl was
      | inr r ↦ inr (restriction_same new.counts are no_variable _ _ _ _ (λ p range. twice (has old a p)) (λ p. refl) r)
    ];
  }

  pub not_lacks : (r : Result Dd Nodes) → IfErr r (λ e. Lacks new (λ p. not (has old a p && has old a p))) → IfErr r (λ e. Lacks new (λ p. not (has old a p)))
  not_lacks (Ok d) is = tt
  not_lacks (Err e) is = record { none = λ d held same. is.none d held (record { each = λ p range. same.each p range ∙ sym (twice (has old a p)) }) }

-- what isn't picked from is empty
pub picked_none : (counts : List ℕ) (ns : List (Option Node)) (d : ℕ) (r : Bool) → OnFalse r (d ≡ 0) → OnFalse r ((p : Point) → holds counts ns d p ≡ false)
picked_none counts ns d true is = tt
picked_none counts ns d false is = λ p. ap (λ c. holds counts ns c p) is ∙ zero_empty counts ns p

pub Loses-fewer : (old new : Table) (n k : ℕ) → IsReduced old.counts.items old.pool.places → Fewer old.pool.places new.pool.places → new.counts ≡ old.counts → new.pool.cap ≡ old.pool.cap → Loses (shown old n) (shown new k)
Loses-fewer old new n k s f counts cap = record {
  counts = ap (λ v. v.items) counts;
  cap = cap;
  held = λ d h. record { is = held_stays old.counts.items new.pool.places old.pool.places f.grows d.0 h.is };
  sets = λ d p h. ap (λ v. holds v new.pool.places d.0 p) (ap (λ v. v.items) counts) ∙ set_fewer old.counts.items old.pool.places new.pool.places s f d.0 p h.is;
}

pub all_held : (c : Contents) (roots : List Dd) → All (IsHeld c) roots → All (λ (root : Dd). has_diagram c.nodes root.0 ≡ true) roots
all_held c roots held = All-weaker (IsHeld c) (λ (root : Dd). has_diagram c.nodes root.0 ≡ true) (λ root h. h.is) roots held

module _ (old new : Table) (n : ℕ) (a b : Dd) (vars : List ℕ) (chosen : ℕ → Bool) (same : (v : ℕ) → chosen v ≡ is_one_of vars v) (s : IsReduced old.counts.items old.pool.places) (adds : AddsNodes old new)
    (ha : IsHeld (shown old n) a) (hb : IsHeld (shown old n) b) where
  agrees_chosen : (p q : Point) → AgreesOutside (is_one_of vars) p q → AgreesOutside chosen p q
  agrees_chosen p q agrees = record { each = λ v out. agrees.each v (sym (same v) ∙ out) }

  agrees_vars : (p q : Point) → AgreesOutside chosen p q → AgreesOutside (is_one_of vars) p q
  agrees_vars p q agrees = record { each = λ v out. agrees.each v (same v ∙ out) }

  abbrev both : Point → Bool
  both p = has (shown old n) a p && has (shown old n) b p

  was : (q : Point) → meet_of new.counts.items new.pool.places a.0 b.0 q ≡ both q
  was q = same_operands And old new n a b s adds ha hb q

  pub spread_shown : (answer : Bool) (r : Result Dd Nodes) → IfOk r (λ d. IsQuantified new.counts.items new.pool.places chosen answer a.0 b.0 d.0) → IfOk r (Spreads (shown new n) vars answer both)
  spread_shown answer (Err e) is = tt
  spread_shown answer (Ok d) is = record {
    some = λ p range there. let at = is.some p range there in record { other = at.other; range = at.range; agrees = agrees_vars p at.other at.agrees; is = sym (was at.other) ∙ at.is };
    all = λ p q range agrees there. is.all p q range (agrees_chosen p q agrees) (was q ∙ there);
  }

  -- with chosen variables in other words
  combined_chosen : (answer : Bool) (whole whole' part : Point → Bool) → ((p : Point) → whole p ≡ whole' p) → IsCombined new.counts.items chosen answer whole part → IsCombined new.counts.items (is_one_of vars) answer whole' part
  combined_chosen answer whole whole' part w m = combined_same new.counts.items adds.sound.values (is_one_of vars) answer whole whole' part part (λ p range. w p) (λ p. refl) (subst (λ x. IsCombined new.counts.items x answer whole part) (fun_ext same) m)

  pub answers_shown : (answer : Bool) → AddsCombined new.counts.items chosen answer old.pool.places new.pool.places (λ p. meet_of new.counts.items new.pool.places a.0 b.0 p) → AddsAnswers (shown old n) (shown new n) vars answer both
  answers_shown answer added = record { each = λ d held. elim (added.each d.0 held.is) [ inl before ↦ inl (record { is = before }) | inr m ↦ inr (combined_chosen answer _ _ _ was m) ] }

-- what is said of a set that meets itself is said of the set
once : (x : Bool) → (x && x) ≡ x
once true = refl
once false = refl

pub spread_once : (old new : Contents) (vars : List ℕ) (answer : Bool) (a : Dd) (r : Result Dd Nodes) → IfOk r (Spreads new vars answer (λ p. has old a p && has old a p)) → IfOk r (Spreads new vars answer (λ p. has old a p))
spread_once old new vars answer a (Err e) is = tt
spread_once old new vars answer a (Ok d) is = record {
  some = λ p range there. let at = is.some p range there in record { other = at.other; range = at.range; agrees = at.agrees; is = sym (once (has old a at.other)) ∙ at.is };
  all = λ p q range agrees there. is.all p q range agrees (once (has old a q) ∙ there);
}

pub answers_once : (old new : Contents) (vars : List ℕ) (answer : Bool) (a : Dd) → AreCounts new.counts → AddsAnswers old new vars answer (λ p. has old a p && has old a p) → AddsAnswers old new vars answer (λ p. has old a p)
answers_once old new vars answer a are added = record {
  each = λ d held. elim (added.each d held) [
    | inl before ↦ inl before
    | inr m ↦ inr (combined_same new.counts are (is_one_of vars) answer _ _ _ _ (λ p range. once (has old a p)) (λ p. refl) m)
  ];
}

true_unless : (b : Bool) → (b ≡ false → ⊥) → b ≡ true
true_unless true never = refl
true_unless false never = absurd (never refl)

-- where the answer no is spread, all points are left that have no other answer beside them
pub forall_of : (old new : Contents) (vars : List ℕ) (a : Dd) (r : Result Dd Nodes) → IfOk r (Spreads new vars false (λ p. has old a p)) → IfOk r (Forall old new vars a)
forall_of old new vars a (Err e) is = tt
forall_of old new vars a (Ok d) is = record {
  every = λ p q there range agrees. true_unless _ (λ out. true≢false (sym there ∙ is.all p q range agrees out));
  all = λ p range every. true_unless _ (λ out. let at = is.some p range out in true≢false (sym (every at.other at.range at.agrees) ∙ at.is));
}
