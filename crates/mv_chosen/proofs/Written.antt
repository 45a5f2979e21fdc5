-- The nets of a network that are written with one value for each point are chosen: each table takes one value, and each reset table
-- is the value that its latch always begins with.
use Rattle.std.proofs.Common.{◌≡◌, ◌∙◌, ◌⊎◌, ℕ, zero, suc, ◌+◌, ◌≤◌, Bool, true, false, nat_eq, List, [], ◌∷◌, length, Option, Some, None, is_some, inl, inr, refl, sym, ap, subst, ⊎_elim, eqb-true, arith}
use Rattle.std.specs.Prelude.{slice_get, if◌then◌else◌}
use Rattle.std.specs.Option.{option_map}
use Rattle.std.proofs.lemmas.Bool.{cases_Bool, cond-true, cond-false, or_cases, false≢true}
use Rattle.std.proofs.lemmas.Option.{same_Some}
use Rattle.mv_base.specs.declared.number.NetId.{NetId}
use Rattle.mv_cover.specs.declared.cover.Cover.{Cover}
use Rattle.mv_cover.specs.Covers.{allowed}
use Rattle.mv_graph.specs.Nets.{has_id}
use Rattle.mv_net.specs.declared.parts.FlatNet.{FlatNet}
use Rattle.mv_net.specs.declared.parts.FlatLatch.{FlatLatch}
use Rattle.mv_net.specs.declared.parts.NetParts.{NetParts}
use Rattle.mv_net.specs.Nets.{slot, values_in, table_in}
use Rattle.mv_net.specs.Formed.{WellFormed, latch_resets, with_reset}
use Rattle.mv_net.specs.Index.{is_reset, kind_in}
use Rattle.mv_net.specs.Total.{IsTotal}
use Rattle.mv_meaning.specs.Rewriting.{IsAlike, IsReformed}
use Rattle.mv_chosen.specs.Binary.{binary_choice}
use Rattle.mv_chosen.specs.Chosen.{TakesOne, IsConstant, IsFixed, AreChosen}
use Rattle.mv_chosen.specs.Written.{constant, is_reset_of, first_value, written_table, written_net, written_from, written_nets, AreFirstValues}
use Rattle.mv_chosen.proofs.Binary.{one_only, binary_takes}
use Rattle.mv_chosen.proofs.Choosing.{IsKind-reset}

-- ---- a value for each latch

-- the latch whose reset net is n, and its value
record HasFirst (ls : List FlatLatch) (vs : List ℕ) (n : ℕ) : Type 0 where
  place : ℕ
  latch : FlatLatch
  there : slice_get ls place ≡ Some latch
  reset : latch.reset ≡ Some (record { 0 = n })
  value : slice_get vs place ≡ Some (first_value ls vs n)

reset_is : (r : Option NetId) (n : ℕ) → is_reset_of r n ≡ true → r ≡ Some (record { 0 = n })
reset_is None n h = absurd (false≢true h)
reset_is (Some m) n h = let same = eqb-true m.0 n h in λ i. Some (record { 0 = same i })

reset_behind : (r : Option NetId) (ns : List NetId) (n : ℕ) → has_id (with_reset r ns) n ≡ true → is_reset_of r n ≡ false → has_id ns n ≡ true
reset_behind None ns n h other = h
reset_behind (Some m) ns n h other =
    ⊎_elim (λ (y : nat_eq m.0 n ≡ true). absurd (false≢true (sym other ∙ y))) (λ (rest : has_id ns n ≡ true). rest) (or_cases (nat_eq m.0 n) (has_id ns n) h)

has_first : (ls : List FlatLatch) (vs : List ℕ) (n : ℕ) → length vs ≡ length ls → has_id (latch_resets ls) n ≡ true → HasFirst ls vs n
has_first [] vs n long h = absurd (false≢true h)
has_first (l ∷ ls) [] n long h = absurd (omega (arith, long))
has_first (l ∷ ls) (v ∷ vs) n long h =
    ⊎_elim
    (λ (y : is_reset_of l.reset n ≡ true).
    record { place = zero; latch = l; there = refl; reset = reset_is l.reset n y; value = ap (λ w. Some w) (sym (cond-true (is_reset_of l.reset n) v (first_value ls vs n) y)) })
    (λ (f : is_reset_of l.reset n ≡ false).
    let rest = has_first ls vs n (omega (arith, long)) (reset_behind l.reset (latch_resets ls) n h f) in
    record { place = suc rest.place; latch = rest.latch; there = rest.there; reset = rest.reset; value = rest.value ∙ ap (λ w. Some w) (sym (cond-false (is_reset_of l.reset n) v (first_value ls vs n) f)) })
    (cases_Bool (is_reset_of l.reset n))

constant_is : (v : ℕ) → IsConstant (constant v) v
unfolding allowed
constant_is v = record { unread = λ m. refl; only = λ at w. one_only v w }

-- ---- the nets

slot-written_from : (ls : List FlatLatch) (vs : List ℕ) (k : ℕ) (nets : List (Option FlatNet)) (m : ℕ) → slot (written_from ls vs k nets) m ≡ written_net ls vs (k + m) (slot nets m)
slot-written_from ls vs k [] m = refl
slot-written_from ls vs k (f ∷ fs) zero = let e : k ≡ k + zero = omega arith in ap (λ n. written_net ls vs n f) e
slot-written_from ls vs k (f ∷ fs) (suc m) =
    let e : (k + 1) + m ≡ k + suc m = omega arith in
    slot-written_from ls vs (k + 1) fs m ∙ ap (λ n. written_net ls vs n (slot fs m)) e

slot-written : (net : NetParts) (vs : List ℕ) (m : ℕ) → slot (written_nets net vs) m ≡ written_net net.latches vs m (slot net.nets m)
unfolding written_nets
slot-written net vs m =
    let e : 0 + m ≡ m = omega arith in
    slot-written_from net.latches vs 0 net.nets m ∙ ap (λ n. written_net net.latches vs n (slot net.nets m)) e

alike_net : (ls : List FlatLatch) (vs : List ℕ) (n : ℕ) (f : Option FlatNet) → IsAlike f (written_net ls vs n f)
alike_net ls vs n None = record { kind = refl; name = refl; values = refl; value_names = refl; tabled = refl }
alike_net ls vs n (Some f) = record { kind = refl; name = refl; values = refl; value_names = refl; tabled = tabled (is_reset (Some f.kind)) f.table }
  where
    tabled : (b : Bool) (t : Option Cover) → is_some (if b then option_map (λ (c : Cover). constant (first_value ls vs n)) t else option_map binary_choice t) ≡ is_some t
    tabled true None = refl
    tabled true (Some c) = refl
    tabled false None = refl
    tabled false (Some c) = refl

module _ (net : NetParts) (vs : List ℕ) (formed : WellFormed net) (total : (n : ℕ) (c : Cover) → table_in (slot net.nets n) ≡ Some c → IsTotal net.nets c) (two : (n : ℕ) → values_in (slot net.nets n) ≤ 2) (first : AreFirstValues net vs) where
  alike : IsReformed net.nets (written_nets net vs)
  alike = record { each = λ n. subst (λ g. IsAlike (slot net.nets n) g) (sym (slot-written net vs n)) (alike_net net.latches vs n (slot net.nets n)) }

  fixed : (n : ℕ) → is_reset (kind_in (slot net.nets n)) ≡ true → IsFixed net n (constant (first_value net.latches vs n))
  fixed n h =
      let has = has_first net.latches vs n first.long (formed.resets.all (record { 0 = n }) (IsKind-reset net.nets n h)) in
      record {
        place = has.place;
        latch = has.latch;
        there = has.there;
        reset = has.reset;
        value = first_value net.latches vs n;
        always = first.always has.place (first_value net.latches vs n) has.latch (record { 0 = n }) has.there has.reset has.value;
        constant = constant_is (first_value net.latches vs n);
      }

  by_net : (n : ℕ) (f : Option FlatNet) (c d : Cover) → slot net.nets n ≡ f → table_in f ≡ Some c → table_in (written_net net.latches vs n f) ≡ Some d → TakesOne net.nets c d ⊎ IsFixed net n d
  by_net n None c d held e g = absurd (false≢true (ap (λ t. is_some t) e))
  by_net n (Some f) c d held e g =
      let there : table_in (slot net.nets n) ≡ Some c = ap table_in held ∙ e in
      let value : Cover = constant (first_value net.latches vs n) in
      ⊎_elim
      (λ (y : is_reset (Some f.kind) ≡ true).
      let now : written_table net.latches vs n f ≡ Some value = cond-true (is_reset (Some f.kind)) (option_map (λ (k : Cover). value) f.table) (option_map binary_choice f.table) y ∙ ap (option_map (λ (k : Cover). value)) e in
      inr (subst (IsFixed net n) (same_Some value d (sym now ∙ g)) (fixed n (ap (λ o. is_reset (kind_in o)) held ∙ y))))
      (λ (p : is_reset (Some f.kind) ≡ false).
      let now : written_table net.latches vs n f ≡ Some (binary_choice c) = cond-false (is_reset (Some f.kind)) (option_map (λ (k : Cover). value) f.table) (option_map binary_choice f.table) p ∙ ap (option_map binary_choice) e in
      inl (subst (TakesOne net.nets c) (same_Some (binary_choice c) d (sym now ∙ g)) (binary_takes net n c formed there (two n) (total n c there))))
      (cases_Bool (is_reset (Some f.kind)))

  pub written_chosen : AreChosen net (written_nets net vs)
  written_chosen = record {
    alike = alike;
    each = λ n c d e g. inr (by_net n (slot net.nets n) c d refl e (ap table_in (sym (slot-written net vs n)) ∙ g));
  }
