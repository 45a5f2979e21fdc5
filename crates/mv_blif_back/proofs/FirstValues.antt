-- The reset nets of the network: each is that of one latch, has two values, and gets the value that the latch begins with.
use Rattle.std.proofs.Common.{◌≡◌, ◌∙◌, ℕ, zero, suc, true, false, not, ◌||◌, List, [], ◌∷◌, Option, Some, None, ⊎_elim, refl, sym, ap, subst}
use Rattle.std.specs.Prelude.{nat_lt, slice_get}
use Rattle.std.proofs.lemmas.Bool.{cond-true, cond-false, and_parts, or_cases, or_left, or_right, not-true, eq-eqb, eqb-true, false≢true, false_from_ne_true}
use Rattle.std.proofs.lemmas.Option.{same_Some}
use Rattle.mv_base.specs.declared.number.NetId.{NetId}
use Rattle.mv_chosen.specs.Written.{is_reset_of, first_value}
use Rattle.mv_graph.specs.Nets.{has_id, all_differ}
use Rattle.mv_latch.specs.declared.latch.BlifLatch.{BlifLatch}
use Rattle.mv_net.specs.declared.parts.FlatLatch.{FlatLatch}
use Rattle.mv_net.specs.declared.parts.NetParts.{NetParts}
use Rattle.mv_net.specs.Nets.{slot, values_in, has_reset}
use Rattle.mv_net.specs.Formed.{WellFormed, latch_resets, with_reset}
use Rattle.mv_blif_back.specs.Said.{IsSaid, AreSaid, IsBinary, inits}
use Rattle.mv_blif_back.proofs.Interfaces.{latch_at, stands_at}
use Rattle.mv_blif_back.proofs.Values.{two-spelled}

-- ---- what is said of a latch

pub said-at : (net : NetParts) (ls : List FlatLatch) (bs : List BlifLatch) (k : ℕ) (l : FlatLatch) (b : BlifLatch) → AreSaid net ls bs → slice_get ls k ≡ Some l → slice_get bs k ≡ Some b → IsSaid net l b
said-at net [] bs k l b said there given = cc
said-at net (m ∷ ls) [] k l b said there given = cc
said-at net (m ∷ ls) (c ∷ bs) zero l b said there given =
    subst (λ (x : FlatLatch). IsSaid net x b) (same_Some m l there) (subst (λ (x : BlifLatch). IsSaid net m x) (same_Some c b given) said.0)
said-at net (m ∷ ls) (c ∷ bs) (suc k) l b said there given = said-at net ls bs k l b said.1 there given

-- ---- the reset nets of latches

has_first : (o : Option NetId) (ns : List NetId) (n : ℕ) → has_id (with_reset o ns) n ≡ (is_reset_of o n || has_id ns n)
has_first None ns n = refl
has_first (Some m) ns n = refl

own_reset : (o : Option NetId) (n : NetId) → o ≡ Some n → is_reset_of o n.0 ≡ true
own_reset o n e = ap (λ x. is_reset_of x n.0) e ∙ eq-eqb n.0 n.0 refl

reset_is : (o : Option NetId) (n : ℕ) → is_reset_of o n ≡ true → o ≡ Some (record { 0 = n })
reset_is None n h = absurd (false≢true h)
reset_is (Some m) n h = let same = eqb-true m.0 n h in λ i. Some (record { 0 = same i })

reset_listed : (ls : List FlatLatch) (k : ℕ) (l : FlatLatch) (n : NetId) → slice_get ls k ≡ Some l → l.reset ≡ Some n → has_id (latch_resets ls) n.0 ≡ true
reset_listed [] k l n there e = cc
reset_listed (m ∷ ls) zero l n there e =
    has_first m.reset (latch_resets ls) n.0 ∙ or_left _ _ (own_reset m.reset n (ap (λ (x : FlatLatch). x.reset) (same_Some m l there) ∙ e))
reset_listed (m ∷ ls) (suc k) l n there e = has_first m.reset (latch_resets ls) n.0 ∙ or_right (is_reset_of m.reset n.0) _ (reset_listed ls k l n there e)

-- a reset net is none of those before it
apart : (o : Option NetId) (ns : List NetId) (n : ℕ) → all_differ (with_reset o ns) ≡ true → has_id ns n ≡ true → (is_reset_of o n ≡ false) × (all_differ ns ≡ true)
apart None ns n once h = (refl, once)
apart (Some m) ns n once h =
    let p = and_parts (not (has_id ns m.0)) (all_differ ns) once in
    (false_from_ne_true _ (λ y. false≢true (sym (not-true _ p.0) ∙ (ap (has_id ns) (eqb-true m.0 n y) ∙ h))), p.1)

-- its value is what its latch begins with
pub first-value : (ls : List FlatLatch) (bs : List BlifLatch) (k : ℕ) (l : FlatLatch) (b : BlifLatch) (n : NetId) → all_differ (latch_resets ls) ≡ true → slice_get ls k ≡ Some l → slice_get bs k ≡ Some b → l.reset ≡ Some n
    → first_value ls (inits bs) n.0 ≡ b.init
first-value [] bs k l b n once there given e = cc
first-value (m ∷ ls) [] k l b n once there given e = cc
first-value (m ∷ ls) (c ∷ bs) zero l b n once there given e =
    cond-true (is_reset_of m.reset n.0) c.init (first_value ls (inits bs) n.0) (own_reset m.reset n (ap (λ (x : FlatLatch). x.reset) (same_Some m l there) ∙ e))
    ∙ ap (λ (x : BlifLatch). x.init) (same_Some c b given)
first-value (m ∷ ls) (c ∷ bs) (suc k) l b n once there given e =
    let p = apart m.reset (latch_resets ls) n.0 once (reset_listed ls k l n there e) in
    cond-false (is_reset_of m.reset n.0) c.init (first_value ls (inits bs) n.0) p.0 ∙ first-value ls bs k l b n p.1 there given e

-- the latch whose reset net is n, and what is said of it
pub record HasReset (ls : List FlatLatch) (bs : List BlifLatch) (n : ℕ) : Type 0 where
  pub place : ℕ
  pub latch : FlatLatch
  pub said : BlifLatch
  pub there : slice_get ls place ≡ Some latch
  pub given : slice_get bs place ≡ Some said
  pub reset : latch.reset ≡ Some (record { 0 = n })

pub has-reset : (net : NetParts) (ls : List FlatLatch) (bs : List BlifLatch) (n : ℕ) → AreSaid net ls bs → has_id (latch_resets ls) n ≡ true → HasReset ls bs n
has-reset net [] bs n said h = absurd (false≢true h)
has-reset net (l ∷ ls) [] n said h = absurd said
has-reset net (l ∷ ls) (b ∷ bs) n said h =
    ⊎_elim
    (λ (y : is_reset_of l.reset n ≡ true). record { place = zero; latch = l; said = b; there = refl; given = refl; reset = reset_is l.reset n y })
    (λ (later : has_id (latch_resets ls) n ≡ true).
    let r = has-reset net ls bs n said.1 later in
    record { place = suc r.place; latch = r.latch; said = r.said; there = r.there; given = r.given; reset = r.reset })
    (or_cases (is_reset_of l.reset n) (has_id (latch_resets ls) n) (sym (has_first l.reset (latch_resets ls) n) ∙ h))

-- ---- in a network that can be written

module _ (net : NetParts) (formed : WellFormed net) (binary : IsBinary net) where
  -- the output of a latch has two values
  pub two-output : (k : ℕ) (l : FlatLatch) → slice_get net.latches k ≡ Some l → values_in (slot net.nets l.output.0) ≡ 2
  two-output k l there = two-spelled net l.output.0 formed (binary.latches.each l.output (stands_at net.latches k l there))

  -- so has its reset net
  pub two-reset : (k : ℕ) (l : FlatLatch) (n : NetId) → slice_get net.latches k ≡ Some l → l.reset ≡ Some n → values_in (slot net.nets n.0) ≡ 2
  two-reset k l n there e =
      let is = (latch_at net net.latches k l formed.latches there).reset n e in
      ap values_in is.kind.held ∙ (is.values ∙ (sym (ap values_in is.held) ∙ two-output k l there))

-- a latch with a reset net begins with 0 or 1, and one without with any value
pub begins-so : (net : NetParts) (l : FlatLatch) (b : BlifLatch) (o : Option NetId) → IsSaid net l b → l.reset ≡ o → nat_lt b.init 2 ≡ has_reset o
begins-so net l b o said e = sym said.reset ∙ ap has_reset e
