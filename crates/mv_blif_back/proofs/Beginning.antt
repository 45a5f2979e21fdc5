-- What the model of the lines lets latches begin with.
use Rattle.std.proofs.Common.{◌≡◌, ◌∙◌, ℕ, ◌+◌, zero, suc, Bool, true, false, not, ◌&&◌, ◌||◌, ◌==◌, List, [], ◌∷◌, Some, slice_get, refl, sym, ap}
use Rattle.std.specs.Prelude.{nat_eq, nat_lt, if◌then◌else◌}
use Rattle.std.specs.List.{list_all}
use Rattle.std.proofs.lemmas.Bool.{and_parts, and_from, or_parts, eq-eqb, not-true, false≢true, false_from_ne_true}
use Rattle.std.proofs.lemmas.List.Folds.{list_all-append}
use Rattle.std.proofs.lemmas.Option.{same_Some}
use Rattle.mv_base.specs.Names.{same_word}
use Rattle.mv_base.specs.Set.{has, one}
use Rattle.mv_base.proofs.NameLemmas.{same_word_refl}
use Rattle.mv_base.proofs.Sets.{has-one}
use Rattle.mv_design.specs.declared.design.FileLatch.{FileLatch}
use Rattle.mv_design.specs.Meaning.{lets_begin, may_begin}
use Rattle.mv_design.specs.Tables.{table_allows}
use Rattle.mv_graph.specs.Nets.{has_id, all_differ}
use Rattle.mv_latch.specs.declared.latch.BlifLatch.{BlifLatch}
use Rattle.mv_net.specs.declared.parts.FlatLatch.{FlatLatch}
use Rattle.mv_net.specs.declared.parts.NetParts.{NetParts}
use Rattle.mv_net.specs.Nets.{slot, name_in}
use Rattle.mv_net.specs.Formed.{IsLatch, AllLatches, latch_outputs, WellFormed}
use Rattle.mv_blif_line.specs.Latches.{constant_reset}
use Rattle.mv_blif_back.specs.Model.{reset_said, resets_said, model_said}
use Rattle.mv_blif_back.proofs.Interfaces.{latch_name, one_latch, latch_at, stands_at}

-- the value is the one that the latch begins with, if it begins with 0 or 1
abbrev begins_with : ℕ → ℕ → Bool
begins_with init r = not (nat_lt init 2) || (r == init)

module _ (net : NetParts) (formed : WellFormed net) (value : List ℕ → ℕ) (r : ℕ) where
  -- the reset table of one latch, for a latch that has this name or another
  one_begins : (n : ℕ) (m : FlatLatch) (init : ℕ) (h : FileLatch) → list_all (lets_begin value h r) (reset_said net.nets n m init) ≡ (not (nat_lt init 2 && same_word h.output (latch_name net formed m)) || has (one init) r)
  unfolding table_allows
  one_begins n m init h = by (nat_lt init 2)
    where
      row : (s o : Bool) → ((not (s || false) || (((true && (o && true)) || false) || (not (true || false) && false))) && true) ≡ (not (true && s) || o)
      row true true = refl
      row true false = refl
      row false o = refl

      by : (t : Bool) → list_all (lets_begin value h r) (if t then constant_reset n (latch_name net formed m) init ∷ [] else []) ≡ (not (t && same_word h.output (latch_name net formed m)) || has (one init) r)
      by true = row (same_word h.output (latch_name net formed m)) (has (one init) r)
      by false = refl

  passes : (t o : Bool) → (not (t && false) || o) ≡ true
  passes true o = refl
  passes false o = refl

  other_begins : (n : ℕ) (m : FlatLatch) (init : ℕ) (h : FileLatch) → same_word h.output (latch_name net formed m) ≡ false → list_all (lets_begin value h r) (reset_said net.nets n m init) ≡ true
  other_begins n m init h differs =
      one_begins n m init h ∙ (ap (λ s. not (nat_lt init 2 && s) || has (one init) r) differs ∙ passes (nat_lt init 2) (has (one init) r))

  own_begins : (n : ℕ) (m : FlatLatch) (init : ℕ) (h : FileLatch) → h.output ≡ latch_name net formed m → list_all (lets_begin value h r) (reset_said net.nets n m init) ≡ begins_with init r
  own_begins n m init h e =
      one_begins n m init h
      ∙ (ap (λ s. not (nat_lt init 2 && s) || has (one init) r) (ap (λ w. same_word w (latch_name net formed m)) e ∙ same_word_refl (latch_name net formed m))
      ∙ (alone (nat_lt init 2) (has (one init) r) ∙ ap (λ o. not (nat_lt init 2) || o) (has-one init r)))
    where
      alone : (t o : Bool) → (not (t && true) || o) ≡ (not t || o)
      alone true o = refl
      alone false o = refl

  -- the reset tables of latches let another latch begin with anything
  absent_begins : (n : ℕ) (ls : List FlatLatch) (bs : List BlifLatch) (l : FlatLatch) (h : FileLatch) → h.output ≡ latch_name net formed l → IsLatch net.nets l → AllLatches net.nets ls → has_id (latch_outputs ls) l.output.0 ≡ false
      → list_all (lets_begin value h r) (resets_said net.nets n ls bs) ≡ true
  absent_begins n [] bs l h e is all none = refl
  absent_begins n (m ∷ ls) [] l h e is all none = refl
  absent_begins n (m ∷ ls) (b ∷ bs) l h e is all none =
      let parts = or_parts (nat_eq m.output.0 l.output.0) (has_id (latch_outputs ls) l.output.0) none in
      let differs : same_word (latch_name net formed l) (latch_name net formed m) ≡ false = false_from_ne_true _ (λ y. false≢true (sym parts.0 ∙ eq-eqb m.output.0 l.output.0 (sym (one_latch net formed l m is all.0 y)))) in
      list_all-append (lets_begin value h r) (reset_said net.nets n m b.init) (resets_said net.nets (n + 1) ls bs)
      ∙ and_from (list_all (lets_begin value h r) (reset_said net.nets n m b.init)) _ (other_begins n m b.init h (ap (λ w. same_word w (latch_name net formed m)) e ∙ differs)) (absent_begins (n + 1) ls bs l h e is all.1 parts.1)

  -- and a latch of theirs with its own value
  present_begins : (n : ℕ) (ls : List FlatLatch) (bs : List BlifLatch) (k : ℕ) (l : FlatLatch) (b : BlifLatch) (h : FileLatch) → h.output ≡ latch_name net formed l → AllLatches net.nets ls → all_differ (latch_outputs ls) ≡ true
      → slice_get ls k ≡ Some l → slice_get bs k ≡ Some b → list_all (lets_begin value h r) (resets_said net.nets n ls bs) ≡ begins_with b.init r
  present_begins n [] bs k l b h e all once at said = cc
  present_begins n (m ∷ ls) [] k l b h e all once at said = cc
  present_begins n (m ∷ ls) (c ∷ bs) zero l b h e all once at said =
      let both = and_parts (not (has_id (latch_outputs ls) m.output.0)) (all_differ (latch_outputs ls)) once in
      let here : m ≡ l = same_Some m l at in
      let name : h.output ≡ latch_name net formed m = e ∙ ap (latch_name net formed) (sym here) in
      list_all-append (lets_begin value h r) (reset_said net.nets n m c.init) (resets_said net.nets (n + 1) ls bs)
      ∙ (ap (λ x. list_all (lets_begin value h r) (reset_said net.nets n m c.init) && x) (absent_begins (n + 1) ls bs m h name all.0 all.1 (not-true _ both.0))
      ∙ (alone (list_all (lets_begin value h r) (reset_said net.nets n m c.init)) ∙ (own_begins n m c.init h name ∙ ap (λ (x : BlifLatch). begins_with x.init r) (same_Some c b said))))
    where
      alone : (t : Bool) → (t && true) ≡ t
      alone true = refl
      alone false = refl
  present_begins n (m ∷ ls) (c ∷ bs) (suc k) l b h e all once at said =
      let both = and_parts (not (has_id (latch_outputs ls) m.output.0)) (all_differ (latch_outputs ls)) once in
      let is = latch_at net ls k l all.1 at in
      let differs : same_word (latch_name net formed l) (latch_name net formed m) ≡ false
      = false_from_ne_true _
      (λ y.
      let same : l.output.0 ≡ m.output.0 = one_latch net formed l m is all.0 y in
      false≢true (sym (not-true _ both.0) ∙ (ap (has_id (latch_outputs ls)) (sym same) ∙ stands_at ls k l at))) in
      list_all-append (lets_begin value h r) (reset_said net.nets n m c.init) (resets_said net.nets (n + 1) ls bs)
      ∙ (ap (λ x. x && list_all (lets_begin value h r) (resets_said net.nets (n + 1) ls bs)) (other_begins n m c.init h (ap (λ w. same_word w (latch_name net formed m)) e ∙ differs))
      ∙ present_begins (n + 1) ls bs k l b h e all.1 both.1 at said)

  -- a latch of the model may begin with the values that its line says
  pub latch-begins : (bs : List BlifLatch) (k : ℕ) (l : FlatLatch) (b : BlifLatch) (h : FileLatch) → h.output ≡ name_in (slot net.nets l.output.0) → slice_get net.latches k ≡ Some l → slice_get bs k ≡ Some b
      → may_begin (model_said net bs) value h r ≡ (nat_lt r 2 && (not (nat_lt b.init 2) || (r == b.init)))
  unfolding model_said
  latch-begins bs k l b h e at said = ap (λ x. nat_lt r 2 && x) (present_begins 4 net.latches bs k l b h e formed.latches formed.states.once at said)
