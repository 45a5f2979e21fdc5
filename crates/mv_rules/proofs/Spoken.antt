-- A rule that applies names nets, or a lawful name for a new one: its names pass each test that lawful names pass, and those of
-- reset nets where those of their latches do. So each of them can be seen.
use Rattle.std.proofs.Common.{◌≡◌, ◌∙◌, ℕ, Bool, true, nat_eq, nat_lt, List, [], ◌∷◌, length, map, All, Option, Some, None, refl, sym, ap, subst, arith, ⊎_elim, eqb-true}
use Rattle.std.specs.List.{flat_map, list_all}
use Rattle.std.proofs.lemmas.Bool.{and_parts, and_from, or_cases, false≢true, lt-ltb}
use Rattle.std.proofs.lemmas.List.Elements.{All-head, All-tail}
use Rattle.std.proofs.lemmas.List.Folds.{list_all-append}
use Rattle.std.proofs.lemmas.Option.{same_Some}
use Rattle.mv_base.specs.Names.{is_visible, is_net_name}
use Rattle.mv_base.specs.declared.number.NetId.{NetId}
use Rattle.mv_graph.specs.Nets.{has_id}
use Rattle.mv_body.specs.Bodies.{IsKnown, IsLineKnown, AreKnown}
use Rattle.mv_entry.specs.Entries.{Applied, body_names, rule_names, is_visible_name, HasVisibleNames}
use Rattle.mv_entry.specs.declared.rule.BodyLit.{BodyLit}
use Rattle.mv_entry.specs.declared.rule.BodyLine.{BodyLine}
use Rattle.mv_entry.specs.declared.rule.Body.{Body}
use Rattle.mv_entry.specs.declared.rule.Rule.{Rule}
use Rattle.mv_entry.specs.declared.rule.Rule.TheVariants.{Remove, Add, Divide, Wire, Collapse, Narrow, Fill, Merge, Encode}
use Rattle.mv_entry.proofs.Visible.{visible-net}
use Rattle.mv_net.specs.declared.parts.FlatNet.{FlatNet}
use Rattle.mv_net.specs.declared.parts.FlatLatch.{FlatLatch}
use Rattle.mv_net.specs.declared.parts.Kind.{Kind}
use Rattle.mv_net.specs.declared.parts.Kind.TheVariants.{Input, Latch, Table, Reset}
use Rattle.mv_net.specs.declared.parts.NetParts.{NetParts}
use Rattle.mv_net.specs.Formed.{IsKind, IsResetNet, AllLatches, with_reset, latch_resets, WellFormed}
use Rattle.mv_net.specs.Index.{HasName}
use Rattle.mv_net.specs.Nets.{slot}
use Rattle.mv_rules.specs.Applies.{Applies}
use Rattle.mv_plans.specs.Checks.{IsNewName}

-- ---- reset nets

-- the net at n is the reset net of some latch
record ResetsSome (nets : List (Option FlatNet)) (n : ℕ) : Type 0 where
  output : ℕ
  latch : IsKind nets output Latch
  reset : IsResetNet nets output n

-- a reset net that one latch may have before those of others is that of a latch
first_reset : (nets : List (Option FlatNet)) (l : FlatLatch) (r : Option NetId) (resets : List NetId) (n : ℕ) → IsKind nets l.output.0 Latch → ((m : NetId) → r ≡ Some m → IsResetNet nets l.output.0 m.0)
    → (has_id resets n ≡ true → ResetsSome nets n) → has_id (with_reset r resets) n ≡ true → ResetsSome nets n
first_reset nets l None resets n kind reset_net others h = others h
first_reset nets l (Some m) resets n kind reset_net others h =
    ⊎_elim
    (λ (e : nat_eq m.0 n ≡ true). record { output = l.output.0; latch = kind; reset = subst (IsResetNet nets l.output.0) (eqb-true m.0 n e) (reset_net m refl) })
    others
    (or_cases (nat_eq m.0 n) (has_id resets n) h)

-- a listed reset net is that of a latch
listed_reset : (nets : List (Option FlatNet)) (ls : List FlatLatch) (n : ℕ) → AllLatches nets ls → has_id (latch_resets ls) n ≡ true → ResetsSome nets n
listed_reset nets [] n all h = absurd (false≢true h)
listed_reset nets (l ∷ ls) n all h =
    first_reset nets l l.reset (latch_resets ls) n all.0.output all.0.reset (λ e. listed_reset nets ls n all.1 e) h

-- ---- a test of names

-- lawful names of nets pass, a net's name with a full stop in front if it does without, and names for new nets
pub record Passes (pass : List ℕ → Bool) (nets : List (Option FlatNet)) : Type 0 where
  pub lawful : (n : ℕ) (w : List ℕ) → HasName nets n w → is_net_name w ≡ true → pass w ≡ true
  pub reset : (n : ℕ) (w : List ℕ) → HasName nets n (46 ∷ w) → pass w ≡ true → pass (46 ∷ w) ≡ true
  pub fresh : (w : List ℕ) → IsNewName nets w → pass w ≡ true

module _ (pass : List ℕ → Bool) (net : NetParts) (formed : WellFormed net) (passes : Passes pass net.nets) where
  held_passes : (n : ℕ) (f : FlatNet) → slot net.nets n ≡ Some f → pass f.name ≡ true
  held_passes n f held = by f.kind refl
    where
      lawful : (m : ℕ) (g : FlatNet) → slot net.nets m ≡ Some g → (g.kind ≡ Reset → ⊥) → pass g.name ≡ true
      lawful m g there other = passes.lawful m g.name (record { net = g; held = there; is = refl }) ((formed.nets m g there).name other)

      by : (k : Kind) → f.kind ≡ k → pass f.name ≡ true
      by Input e = lawful n f held (λ r. let bad : Input ≡ Reset = sym e ∙ r in absurd cc)
      by Latch e = lawful n f held (λ r. let bad : Latch ≡ Reset = sym e ∙ r in absurd cc)
      by Table e = lawful n f held (λ r. let bad : Table ≡ Reset = sym e ∙ r in absurd cc)
      by Reset e =
          let some = listed_reset net.nets net.latches n formed.latches (formed.resets.all (record { 0 = n }) (record { net = f; held = held; is = e })) in
          let latch = some.latch.net in
          let latch_passes = lawful some.output latch some.latch.held (λ r. let bad : Latch ≡ Reset = sym some.latch.is ∙ r in absurd cc) in
          let same_latch = same_Some latch some.reset.latch (sym some.latch.held ∙ some.reset.held) in
          let same_net = same_Some some.reset.kind.net f (sym some.reset.kind.held ∙ held) in
          let named : f.name ≡ 46 ∷ latch.name = ap (λ (g : FlatNet). g.name) (sym same_net) ∙ (some.reset.name ∙ ap (λ (g : FlatNet). 46 ∷ g.name) (sym same_latch)) in
          ap pass named ∙ passes.reset n latch.name (record { net = f; held = held; is = named }) latch_passes

  named_passes : (n : ℕ) (w : List ℕ) → HasName net.nets n w → pass w ≡ true
  named_passes n w named = subst (λ v. pass v ≡ true) named.is (held_passes n named.net named.held)

  -- ---- bodies

  lits_pass : (lits : List BodyLit) → All (IsKnown net.nets) lits → list_all pass (map (λ (m : BodyLit). m.net) lits) ≡ true
  lits_pass [] known = refl
  lits_pass (l ∷ ls) known =
      let here = All-head (IsKnown net.nets) l ls known in
      and_from (pass l.net) _ (named_passes here.number l.net here.named) (lits_pass ls (All-tail (IsKnown net.nets) l ls known))

  lines_pass : (lines : List BodyLine) → All (IsLineKnown net.nets) lines → list_all pass (flat_map (λ (l : BodyLine). map (λ (m : BodyLit). m.net) l.lits) lines) ≡ true
  lines_pass [] known = refl
  lines_pass (l ∷ ls) known =
      let names = map (λ (m : BodyLit). m.net) l.lits in
      list_all-append pass names _
      ∙ and_from (list_all pass names) _ (lits_pass l.lits (All-head (IsLineKnown net.nets) l ls known)) (lines_pass ls (All-tail (IsLineKnown net.nets) l ls known))

  body_passes : (b : Body) → AreKnown net.nets b → list_all pass (body_names b) ≡ true
  body_passes b known = lines_pass b.lines known.each

  new_pass : (names : List (List ℕ)) → All (IsNewName net.nets) names → list_all pass names ≡ true
  new_pass [] new = refl
  new_pass (w ∷ ws) new =
      and_from (pass w) (list_all pass ws) (passes.fresh w (All-head (IsNewName net.nets) w ws new)) (new_pass ws (All-tail (IsNewName net.nets) w ws new))

  -- ---- rules

  pub rule_passes : (free : Bool) (rule : Rule) (new : NetParts) → Applies free rule net new → list_all pass (rule_names rule) ≡ true
  rule_passes free (Remove w) new p = and_from (pass w) true (named_passes p.number w p.net.named) refl
  rule_passes free (Add w body) new p = and_from (pass w) (list_all pass (body_names body)) (passes.fresh w p.fresh) (body_passes body p.known)
  rule_passes free (Divide w by body) new p =
      and_from (pass w) _ (named_passes p.number w p.net.named)
      (and_from (pass by) (list_all pass (body_names body)) (named_passes p.divisor by p.divides) (body_passes body p.known))
  rule_passes free (Wire w) new p = and_from (pass w) true (named_passes p.number w p.net.named) refl
  rule_passes free (Collapse w) new p = and_from (pass w) true (named_passes p.number w p.net.named) refl
  rule_passes free (Narrow w d u body) new p = and_from (pass w) (list_all pass (body_names body)) (named_passes p.number w p.net.named) (body_passes body p.known)
  rule_passes free (Fill w out) new p = and_from (pass w) true (named_passes p.number w p.net.named) refl
  rule_passes free (Merge w gone into) new p = and_from (pass w) true (named_passes p.number w p.net.named) refl
  rule_passes free (Encode w names codes) new p = and_from (pass w) (list_all pass names) (named_passes p.number w p.net.named) (new_pass names p.can.fresh.each)

-- ---- names that can be seen

-- a full stop before a name that can be seen
visible_reset : (w : List ℕ) → is_visible_name w ≡ true → is_visible_name (46 ∷ w) ≡ true
visible_reset w h =
    and_from (nat_lt 0 (length (46 ∷ w))) (list_all is_visible (46 ∷ w)) (lt-ltb 0 (length (46 ∷ w)) (omega arith))
    (and_from (is_visible 46) (list_all is_visible w) refl (and_parts (nat_lt 0 (length w)) (list_all is_visible w) h).1)

visible_passes : (nets : List (Option FlatNet)) → Passes is_visible_name nets
visible_passes nets = record {
  lawful = λ n w named lawful. visible-net w lawful;
  reset = λ n w named h. visible_reset w h;
  fresh = λ w new. visible-net w new.lawful;
}

pub applied_visible : (free : Bool) (rule : Rule) (old new : NetParts) → WellFormed old → Applies free rule old new → HasVisibleNames (Applied rule)
applied_visible free rule old new formed p = record { each = rule_passes is_visible_name old formed (visible_passes old.nets) free rule new p }

-- the name of a held net can be seen
pub held_visible : (net : NetParts) (n : ℕ) (w : List ℕ) → WellFormed net → HasName net.nets n w → is_visible_name w ≡ true
held_visible net n w formed named = named_passes is_visible_name net formed (visible_passes net.nets) n w named
