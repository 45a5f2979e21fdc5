-- A net has one window of so many steps, and a table in place of another gets one verdict in it, unless the nodes are too few.
use Rattle.std.proofs.Common.{◌≡◌, ℕ, Bool, true, false, List, refl, sym, subst}
use Rattle.mv_base.specs.declared.number.NetId.{NetId}
use Rattle.mv_cover.specs.declared.cover.Cover.{Cover}
use Rattle.mv_flex.specs.Flex.{TooWide}
use Rattle.mv_graph.specs.Nets.{has_id}
use Rattle.mv_graph.proofs.Nets.{ascending_same}
use Rattle.mv_narrow.specs.declared.verdict.NarrowVerdict.{NarrowVerdict}
use Rattle.mv_narrow.specs.declared.verdict.NarrowVerdict.TheVariants.{Partial, TooWide as IsWide, NoNodes, Outside, Lost, Lawful}
use Rattle.mv_narrow.specs.Verdicts.{HasWindow, IsInside, IsNarrowVerdict, IsOutside}
use Rattle.mv_net.specs.declared.parts.NetParts.{NetParts}
use Rattle.mv_net.specs.declared.window.Window.{Window}
use Rattle.mv_net.specs.Window.{IsWindow, IsWindowInput, IsWindowOutput, Lists}

-- ---- one window

same_test : (a b : Bool) → (a ≡ true → b ≡ true) → (b ≡ true → a ≡ true) → a ≡ b
same_test true b to from = sym (to refl)
same_test false true to from = from refl
same_test false false to from = refl

-- the numbers of which a claim holds stand in one list
one_list : (Claim : ℕ → Type 0) (ms ns : List NetId) → Lists Claim ms → Lists Claim ns → ms ≡ ns
one_list Claim ms ns a b =
    ascending_same ms ns a.ascending b.ascending
    (λ k. same_test (has_id ms k) (has_id ns k) (λ h. (b.members k).1 ((a.members k).0 h)) (λ h. (a.members k).1 ((b.members k).0 h)))

same_window : (one other : Window) → one.tables ≡ other.tables → one.inputs ≡ other.inputs → one.outputs ≡ other.outputs → one ≡ other
same_window one other tables inputs outputs = λ i. record { tables = tables i; inputs = inputs i; outputs = outputs i }

pub one_window : (net : NetParts) (n d u : ℕ) (one other : Window) → IsWindow net n d u one → IsWindow net n d u other → one ≡ other
one_window net n d u one other p q =
    let tables : one.tables ≡ other.tables = one_list _ one.tables other.tables p.tables q.tables in
    let P : List NetId → Type 0 = λ ts. Lists (IsWindowInput net.nets (has_id ts)) other.inputs in
    let Q : List NetId → Type 0 = λ ts. Lists (IsWindowOutput net (has_id ts)) other.outputs in
    same_window one other tables
    (one_list _ one.inputs other.inputs p.inputs (subst P (sym tables) q.inputs))
    (one_list _ one.outputs other.outputs p.outputs (subst Q (sym tables) q.outputs))

-- what can't both hold of a window can't both hold of those of a net
pub never_both : (net : NetParts) (n d u : ℕ) (One Other : Window → Type 0) → HasWindow net n d u One → HasWindow net n d u Other → ((w : Window) → One w → Other w → ⊥) → ⊥
never_both net n d u One Other p q never =
    never p.window p.holds (subst Other (one_window net n d u q.window p.window q.is p.is) q.holds)

-- ---- one verdict

module _ (net : NetParts) (n d u budget : ℕ) (old new : Cover) where
  wide_outside : HasWindow net n d u (TooWide net) → HasWindow net n d u (IsOutside net n new) → ⊥
  wide_outside p q = never_both net n d u _ _ p q (λ w wide out. out.narrow wide)

  wide_inside : HasWindow net n d u (TooWide net) → HasWindow net n d u (IsInside net n new) → ⊥
  wide_inside p q = never_both net n d u _ _ p q (λ w wide in_it. in_it.narrow wide)

  inside_outside : HasWindow net n d u (IsInside net n new) → HasWindow net n d u (IsOutside net n new) → ⊥
  inside_outside p q = never_both net n d u _ _ p q (λ w in_it out. out.outside in_it.inside)

  pub one_verdict : (one other : NarrowVerdict) → IsNarrowVerdict net n d u budget old new one → IsNarrowVerdict net n d u budget old new other → (one ≡ NoNodes → ⊥) → (other ≡ NoNodes → ⊥) → one ≡ other
  one_verdict Partial Partial p q e f = refl
  one_verdict Partial IsWide p q e f = absurd (p q.0)
  one_verdict Partial NoNodes p q e f = absurd (f refl)
  one_verdict Partial Outside p q e f = absurd (p q.0)
  one_verdict Partial Lost p q e f = absurd (p q.0)
  one_verdict Partial Lawful p q e f = absurd (p q.0)
  one_verdict IsWide Partial p q e f = absurd (q p.0)
  one_verdict IsWide IsWide p q e f = refl
  one_verdict IsWide NoNodes p q e f = absurd (f refl)
  one_verdict IsWide Outside p q e f = absurd (wide_outside p.1 q.1)
  one_verdict IsWide Lost p q e f = absurd (wide_inside p.1 q.1.0)
  one_verdict IsWide Lawful p q e f = absurd (wide_inside p.1 q.1.0)
  one_verdict NoNodes other p q e f = absurd (e refl)
  one_verdict Outside Partial p q e f = absurd (q p.0)
  one_verdict Outside IsWide p q e f = absurd (wide_outside q.1 p.1)
  one_verdict Outside NoNodes p q e f = absurd (f refl)
  one_verdict Outside Outside p q e f = refl
  one_verdict Outside Lost p q e f = absurd (inside_outside q.1.0 p.1)
  one_verdict Outside Lawful p q e f = absurd (inside_outside q.1.0 p.1)
  one_verdict Lost Partial p q e f = absurd (q p.0)
  one_verdict Lost IsWide p q e f = absurd (wide_inside q.1 p.1.0)
  one_verdict Lost NoNodes p q e f = absurd (f refl)
  one_verdict Lost Outside p q e f = absurd (inside_outside p.1.0 q.1)
  one_verdict Lost Lost p q e f = refl
  one_verdict Lost Lawful p q e f = absurd (p.1.1 q.1.1)
  one_verdict Lawful Partial p q e f = absurd (q p.0)
  one_verdict Lawful IsWide p q e f = absurd (wide_inside q.1 p.1.0)
  one_verdict Lawful NoNodes p q e f = absurd (f refl)
  one_verdict Lawful Outside p q e f = absurd (inside_outside p.1.0 q.1)
  one_verdict Lawful Lost p q e f = absurd (q.1.1 p.1.1)
  one_verdict Lawful Lawful p q e f = refl
