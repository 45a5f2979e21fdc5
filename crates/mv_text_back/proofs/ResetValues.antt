-- The reset values of latches, one for each: the value that they give a reset net, and what holds of each of them.
use Rattle.std.proofs.Common.{◌≡◌, ℕ, suc, zero, Bool, true, false, not, ◌||◌, nat_eq, List, [], ◌∷◌, Option, Some, None, refl, sym, ◌∙◌, ap, subst}
use Rattle.std.specs.Prelude.{if◌then◌else◌}
use Rattle.std.specs.List.{slice_get}
use Rattle.std.proofs.lemmas.Bool.{false≢true, false_from_ne_true, and_parts, and_from, or_parts, or_right, not-true, eq-eqb, eqb-true}
use Rattle.std.proofs.lemmas.Option.{same_Some}
use Rattle.mv_base.specs.declared.number.NetId.{NetId}
use Rattle.mv_design.specs.declared.design.FileLatch.{FileLatch}
use Rattle.mv_design.specs.declared.design.FileModel.{FileModel}
use Rattle.mv_design.specs.Meaning.{may_begin, may_begin_all}
use Rattle.mv_net.specs.declared.parts.FlatNet.{FlatNet}
use Rattle.mv_net.specs.declared.parts.FlatLatch.{FlatLatch}
use Rattle.mv_net.specs.declared.parts.NetParts.{NetParts}
use Rattle.mv_net.specs.Formed.{IsReadable, with_reset, latch_resets, WellFormed}
use Rattle.mv_net.specs.Allowed.{reset_gives, resets_give}
use Rattle.mv_graph.specs.Nets.{all_differ, has_id}
use Rattle.mv_text_back.proofs.TextModel.{IsLatchOf, AreLatchesOf}

-- ---- the value of a reset net

-- the reset net, if there is one, has this number
abbrev pub is_at : Option NetId → ℕ → Bool
is_at None k = false
is_at (Some n) k = nat_eq n.0 k

-- the reset value of the latch with this reset net, or another value where none of the latches has it
abbrev pub reset_or : List FlatLatch → List ℕ → ℕ → ℕ → ℕ
reset_or [] r k other = other
reset_or (l ∷ ls) [] k other = other
reset_or (l ∷ ls) (v ∷ vs) k other = if is_at l.reset k then v else reset_or ls vs k other

has_first : (o : Option NetId) (ns : List NetId) (k : ℕ) → has_id (with_reset o ns) k ≡ (is_at o k || has_id ns k)
has_first None ns k = refl
has_first (Some n) ns k = refl

reset-other : (ls : List FlatLatch) (r : List ℕ) (k other : ℕ) → has_id (latch_resets ls) k ≡ false → reset_or ls r k other ≡ other
reset-other [] r k other none = refl
reset-other (l ∷ ls) [] k other none = refl
reset-other (l ∷ ls) (v ∷ vs) k other none =
    let p = or_parts (is_at l.reset k) (has_id (latch_resets ls) k) (sym (has_first l.reset (latch_resets ls) k) ∙ none) in
    rw p.0 (reset-other ls vs k other p.1)

-- what can be read is no reset net, so it has the other value
pub readable-value : (net : NetParts) → WellFormed net → (r : List ℕ) (k other : ℕ) → IsReadable net.nets k → reset_or net.latches r k other ≡ other
readable-value net formed r k other is =
    reset-other net.latches r k other (false_from_ne_true _ (λ y.
    let kind = formed.resets.only (record { 0 = k }) y in
    is.plain (ap (λ (f : FlatNet). f.kind) (same_Some is.net kind.net (sym is.held ∙ kind.held)) ∙ kind.is)))

-- a reset net is one of theirs
reset-listed : (ls : List FlatLatch) (i : ℕ) (l : FlatLatch) (k : ℕ) → slice_get ls i ≡ Some l → l.reset ≡ Some (record { 0 = k })
    → has_id (latch_resets ls) k ≡ true
reset-listed [] i l k e h = cc
reset-listed (g ∷ ls) zero l k e h =
    let own : is_at g.reset k ≡ true = ap (λ o. is_at o k) (ap (λ (f : FlatLatch). f.reset) (same_Some g l e) ∙ h) ∙ eq-eqb k k refl in
    has_first g.reset (latch_resets ls) k ∙ rw own refl
reset-listed (g ∷ ls) (suc i) l k e h =
    has_first g.reset (latch_resets ls) k ∙ or_right (is_at g.reset k) _ (reset-listed ls i l k e h)

-- it is none of those before it
apart : (o : Option NetId) (ns : List NetId) (k : ℕ) → all_differ (with_reset o ns) ≡ true → has_id ns k ≡ true → (is_at o k ≡ false) × (all_differ ns ≡ true)
apart None ns k e h = (refl, e)
apart (Some n) ns k e h =
    let p = and_parts (not (has_id ns n.0)) (all_differ ns) e in
    (false_from_ne_true _ (λ y. false≢true (sym (not-true _ p.0) ∙ (ap (has_id ns) (eqb-true n.0 k y) ∙ h))), p.1)

pub reset-value : (ls : List FlatLatch) (r : List ℕ) (i : ℕ) (l : FlatLatch) (k v other : ℕ) → all_differ (latch_resets ls) ≡ true → slice_get ls i ≡ Some l
    → l.reset ≡ Some (record { 0 = k }) → slice_get r i ≡ Some v → reset_or ls r k other ≡ v
reset-value [] r i l k v other differ e h at = cc
reset-value (g ∷ ls) [] i l k v other differ e h at = cc
reset-value (g ∷ ls) (u ∷ us) zero l k v other differ e h at =
    let own : is_at g.reset k ≡ true = ap (λ o. is_at o k) (ap (λ (f : FlatLatch). f.reset) (same_Some g l e) ∙ h) ∙ eq-eqb k k refl in
    rw own (same_Some u v at)
reset-value (g ∷ ls) (u ∷ us) (suc i) l k v other differ e h at =
    let p = apart g.reset (latch_resets ls) k differ (reset-listed ls i l k e h) in
    rw p.0 (reset-value ls us i l k v other p.1 e h at)

-- ---- each of them

-- a latch of the model and the value with which it may begin, at the place of a latch of the network
pub record BeginsAt (nets : List (Option FlatNet)) (m : FileModel) (value : List ℕ → ℕ) (r : List ℕ) (i : ℕ) (l : FlatLatch) : Type 0 where
  pub latch : FileLatch
  pub is : IsLatchOf nets l latch
  pub first : ℕ
  pub at : slice_get r i ≡ Some first
  pub begins : may_begin m value latch first ≡ true

module _ (nets : List (Option FlatNet)) (m : FileModel) (value : List ℕ → ℕ) where
  pub begins-at : (ls : List FlatLatch) (hs : List FileLatch) (r : List ℕ) (i : ℕ) (l : FlatLatch) → AreLatchesOf nets ls hs
      → may_begin_all m value hs r ≡ true → slice_get ls i ≡ Some l → BeginsAt nets m value r i l
  begins-at [] hs r i l are all e = cc
  begins-at (g ∷ ls) [] r i l are all e = absurd are
  begins-at (g ∷ ls) (h ∷ hs) [] i l are all e = cc
  begins-at (g ∷ ls) (h ∷ hs) (v ∷ vs) zero l are all e =
      let p = and_parts (may_begin m value h v) (may_begin_all m value hs vs) all in
      let P : FlatLatch → Type 0 = λ f. IsLatchOf nets f h in
      record { latch = h; is = subst P (same_Some g l e) are.0; first = v; at = refl; begins = p.0 }
  begins-at (g ∷ ls) (h ∷ hs) (v ∷ vs) (suc i) l are all e =
      let p = and_parts (may_begin m value h v) (may_begin_all m value hs vs) all in
      let b = begins-at ls hs vs i l are.1 p.1 e in
      record { latch = b.latch; is = b.is; first = b.first; at = b.at; begins = b.begins }

  -- reset values with which the latches of the model may begin are those of the network, where each of them is
  pub give-each : (at : ℕ → ℕ) (ls : List FlatLatch) (hs : List FileLatch) (r : List ℕ) → AreLatchesOf nets ls hs → may_begin_all m value hs r ≡ true
      → ((i : ℕ) (l : FlatLatch) → slice_get ls i ≡ Some l → (b : BeginsAt nets m value r i l) → reset_gives nets at l.output l.reset b.first)
      → resets_give nets at ls r
  give-each at [] [] [] are all each = tt
  give-each at [] [] (v ∷ vs) are all each = cc
  give-each at [] (h ∷ hs) r are all each = absurd are
  give-each at (l ∷ ls) [] r are all each = absurd are
  give-each at (l ∷ ls) (h ∷ hs) [] are all each = cc
  give-each at (l ∷ ls) (h ∷ hs) (v ∷ vs) are all each =
      let p = and_parts (may_begin m value h v) (may_begin_all m value hs vs) all in (
        each 0 l refl (record { latch = h; is = are.0; first = v; at = refl; begins = p.0 }),
        give-each at ls hs vs are.1 p.1 (λ i k e b. each (suc i) k e (record { latch = b.latch; is = b.is; first = b.first; at = b.at; begins = b.begins })),
      )

  -- and the other way round
  pub begin-each : (at : ℕ → ℕ) (ls : List FlatLatch) (hs : List FileLatch) (r : List ℕ) → AreLatchesOf nets ls hs → resets_give nets at ls r
      → ((i : ℕ) (l : FlatLatch) → slice_get ls i ≡ Some l → (h : FileLatch) → IsLatchOf nets l h → (v : ℕ) → reset_gives nets at l.output l.reset v → may_begin m value h v ≡ true)
      → may_begin_all m value hs r ≡ true
  begin-each at [] [] [] are all each = refl
  begin-each at [] [] (v ∷ vs) are all each = absurd all
  begin-each at [] (h ∷ hs) r are all each = absurd are
  begin-each at (l ∷ ls) [] r are all each = absurd are
  begin-each at (l ∷ ls) (h ∷ hs) [] are all each = absurd all
  begin-each at (l ∷ ls) (h ∷ hs) (v ∷ vs) are all each =
      and_from (may_begin m value h v) _ (each 0 l refl h are.0 v all.0) (begin-each at ls hs vs are.1 all.1 (λ i k e g is u gives. each (suc i) k e g is u gives))
