-- A network whose tables allow one value at most: assignments that agree with it, with the same values at the inputs and the latch
-- outputs, are the same. So what may take its place means the same.
use Rattle.std.proofs.Common.{◌≡◌, ◌∙◌, ℕ, zero, suc, ◌<◌, true, false, nat_eq, List, [], ◌∷◌, length, map, Option, Some, None, is_some, refl, sym, ap, subst, ⊎_elim, eq-eqb, eqb-true, arith}
use Rattle.std.proofs.lemmas.Bool.{cases_eq, or_cases, or_left, or_right, false≢true}
use Rattle.std.proofs.lemmas.List.{length-map}
use Rattle.std.proofs.lemmas.List.FromFn.{length-range_with_len}
use Rattle.std.specs.List.{range_with_len}
use Rattle.std.specs.Prelude.{decimal}
use Rattle.mv_base.specs.Meaning.{AllowsSome, Interface, LatchPort, Refines, SameMeaning}
use Rattle.mv_base.specs.declared.number.NetId.{NetId}
use Rattle.mv_cover.specs.declared.cover.Cover.{Cover}
use Rattle.mv_cover.specs.Plain.{AllowsOne}
use Rattle.mv_graph.proofs.Ranks.{IsRanked}
use Rattle.mv_net.specs.declared.parts.Kind.{Kind}
use Rattle.mv_net.specs.declared.parts.Kind.TheVariants.{Input, Latch, Table, Reset}
use Rattle.mv_net.specs.declared.parts.FlatNet.{FlatNet}
use Rattle.mv_net.specs.declared.parts.FlatLatch.{FlatLatch}
use Rattle.mv_net.specs.declared.parts.NetParts.{NetParts}
use Rattle.mv_net.specs.Nets.{slot, values_in, table_in, table_reads, reads_in, spelled_in, spelled_values, has_reset, latch_port_of, interface_of}
use Rattle.mv_net.specs.Formed.{IsReadable, IsNamed, AllLatches, WellFormed, has_table}
use Rattle.mv_net.specs.Allowed.{Agrees, Allows, reset_gives, resets_give, of_net}
use Rattle.mv_net.specs.Changes.{with_nets}
use Rattle.mv_net.specs.Index.{is_latch_input}
use Rattle.mv_net.proofs.Known.{reads_readable}
use Rattle.mv_net.proofs.Local.{allowed-local}
use Rattle.mv_net.proofs.Marks.{has_number}
use Rattle.mv_net.proofs.Ports.{outputs_listed}
use Rattle.mv_meaning.specs.Rewriting.{IsReformed}
use Rattle.mv_meaning.proofs.Ranked.{not_without_ranks}
use Rattle.mv_meaning.proofs.Reformed.{net_allows-parts, spelled_alike}

-- ---- lists of values

-- lists of the values at some numbers that are the same have the same value at each, and the other way round
value_same : {X : Type 0} (num : X → ℕ) (x y : ℕ → ℕ) (xs : List X) → map (λ v. x (num v)) xs ≡ map (λ v. y (num v)) xs → (n : ℕ) → has_number num xs n ≡ true → x n ≡ y n
value_same num x y [] e n h = absurd (false≢true h)
value_same num x y (v ∷ vs) e n h =
    let here : x (num v) ≡ y (num v) = cc in
    let rest : map (λ w. x (num w)) vs ≡ map (λ w. y (num w)) vs = cc in
    ⊎_elim
    (λ (is : nat_eq (num v) n ≡ true). subst (λ k. x k ≡ y k) (eqb-true (num v) n is) here)
    (λ (other : has_number num vs n ≡ true). value_same num x y vs rest n other)
    (or_cases (nat_eq (num v) n) (has_number num vs n) h)

values_same : {X : Type 0} (num : X → ℕ) (x y : ℕ → ℕ) (xs : List X) → ((n : ℕ) → has_number num xs n ≡ true → x n ≡ y n) → map (λ v. x (num v)) xs ≡ map (λ v. y (num v)) xs
values_same num x y [] same = refl
values_same num x y (v ∷ vs) same =
    let here : x (num v) ≡ y (num v) = same (num v) (or_left (nat_eq (num v) (num v)) (has_number num vs (num v)) (eq-eqb (num v) (num v) refl)) in
    let rest = values_same num x y vs (λ n h. same n (or_right (nat_eq (num v) n) (has_number num vs n) h)) in
    λ i. here i ∷ rest i

-- a file spells as many values as the net has
spelled_count : (net : NetParts) (n : ℕ) → WellFormed net → length (spelled_in (slot net.nets n)) ≡ values_in (slot net.nets n)
spelled_count net n formed = by_slot (slot net.nets n) refl
  where
    by_names : (values : ℕ) (names : List (List ℕ)) → IsNamed values names → length (spelled_values values names) ≡ values
    by_names values [] is = length-map (range_with_len 0 values) decimal ∙ length-range_with_len 0 values
    by_names values (w ∷ ws) is = is.each (omega arith)

    by_slot : (f : Option FlatNet) → slot net.nets n ≡ f → length (spelled_in f) ≡ values_in f
    by_slot None e = refl
    by_slot (Some f) e = by_names f.values f.value_names (formed.nets n f e).named

-- ---- one choice

module _ (a : NetParts) (formed : WellFormed a) (one : (n : ℕ) (c : Cover) → table_in (slot a.nets n) ≡ Some c → AllowsOne c) where
  module _ (x y : ℕ → ℕ) (first : Agrees a.nets x) (second : Agrees a.nets y) (inputs : map (λ (m : NetId). x m.0) a.inputs ≡ map (λ (m : NetId). y m.0) a.inputs) (states : map (λ (l : FlatLatch). x l.output.0) a.latches ≡ map (λ (l : FlatLatch). y l.output.0) a.latches) where
    same_table : (m : ℕ) (c : Cover) → table_in (slot a.nets m) ≡ Some c → ((k : ℕ) → reads_in a.nets m k ≡ true → x k ≡ y k) → x m ≡ y m
    same_table m c e read =
        let now = (net_allows-parts (slot a.nets m) c x (x m) e (first.each m)).1 in
        let was = (net_allows-parts (slot a.nets m) c y (y m) e (second.each m)).1 in
        (one m c e).one y (x m) (y m) (sym (allowed-local c x y (x m) (λ k h. read k (ap (λ t. table_reads t k) e ∙ h))) ∙ now) was

    same_net : (m : ℕ) (f : FlatNet) → slot a.nets m ≡ Some f → ((k : ℕ) → reads_in a.nets m k ≡ true → x k ≡ y k) → x m ≡ y m
    same_net m f held read = by_kind f.kind refl
      where
        by_table : (t : Option Cover) → f.table ≡ t → is_some t ≡ true → x m ≡ y m
        by_table None e some = absurd (false≢true some)
        by_table (Some c) e some = same_table m c (ap table_in held ∙ e) read

        by_kind : (k : Kind) → f.kind ≡ k → x m ≡ y m
        by_kind Input e = value_same (λ (i : NetId). i.0) x y a.inputs inputs m (formed.inputs.all (record { 0 = m }) (record { net = f; held = held; is = e }))
        by_kind Latch e =
            value_same (λ (l : FlatLatch). l.output.0) x y a.latches states m
            (sym (outputs_listed a.latches m) ∙ formed.states.all (record { 0 = m }) (record { net = f; held = held; is = e }))
        by_kind Table e = by_table f.table refl ((formed.nets m f held).table ∙ ap has_table e)
        by_kind Reset e = by_table f.table refl ((formed.nets m f held).table ∙ ap has_table e)

    same_ranked : (r : IsRanked (reads_in a.nets)) (bound m : ℕ) (f : FlatNet) → r.rank m < bound → slot a.nets m ≡ Some f → x m ≡ y m
    same_ranked r zero m f low held = absurd (omega arith)
    same_ranked r (suc bound) m f low held =
        same_net m f held
        (λ k h. let falls = r.falls m k h in let is = reads_readable a m k formed h in same_ranked r bound k is.net (omega arith) is.held)

    same_held : (m : ℕ) (f : FlatNet) → slot a.nets m ≡ Some f → x m ≡ y m
    same_held m f held =
        ⊎_elim
        (λ (e : x m ≡ y m). e)
        (λ (ne : x m ≡ y m → ⊥). absurd (not_without_ranks a formed (λ r. ne (same_ranked r (suc (r.rank m)) m f (omega arith) held))))
        (cases_eq (x m) (y m))

    same_outputs : map (λ (m : NetId). x m.0) a.outputs ≡ map (λ (m : NetId). y m.0) a.outputs
    same_outputs =
        values_same (λ (m : NetId). m.0) x y a.outputs
        (λ m h. let is = formed.outputs (record { 0 = m }) h in same_held m is.net is.held)

    next_readable : (ls : List FlatLatch) (m : ℕ) → AllLatches a.nets ls → is_latch_input ls m ≡ true → IsReadable a.nets m
    next_readable [] m all h = absurd (false≢true h)
    next_readable (l ∷ ls) m all h =
        ⊎_elim
        (λ (e : nat_eq l.input.0 m ≡ true). subst (IsReadable a.nets) (eqb-true l.input.0 m e) all.0.input)
        (λ (rest : is_latch_input ls m ≡ true). next_readable ls m all.1 rest)
        (or_cases (nat_eq l.input.0 m) (is_latch_input ls m) h)

    same_next : map (λ (l : FlatLatch). x l.input.0) a.latches ≡ map (λ (l : FlatLatch). y l.input.0) a.latches
    same_next =
        values_same (λ (l : FlatLatch). l.input.0) x y a.latches
        (λ m h. let is = next_readable a.latches m formed.latches h in same_held m is.net is.held)

  -- ---- reset values

  module _ (net : NetParts) (nets : List (Option FlatNet)) (other : WellFormed net) (alike : IsReformed net.nets nets) where
    count_kept : (n : ℕ) → length (spelled_in (slot nets n)) ≡ values_in (slot nets n)
    count_kept n =
        ap (λ ws. length ws) (spelled_alike (slot net.nets n) (slot nets n) (alike.each n)) ∙ (spelled_count net n other ∙ sym (alike.each n).values)

    -- the reset values that a latch of a may have, one that looks like it may have too
    module _ (w x z : ℕ → ℕ) (same : (m : ℕ) (f : FlatNet) → slot a.nets m ≡ Some f → x m ≡ z m) where
      reset_moved : (k l : FlatLatch) (p q : Option NetId) (u v : ℕ) → latch_port_of nets k ≡ latch_port_of a.nets l → has_reset p ≡ has_reset q → ((n : NetId) → q ≡ Some n → x n.0 ≡ z n.0)
          → reset_gives nets w k.output p u → reset_gives a.nets z l.output q u → reset_gives a.nets x l.output q v → reset_gives nets w k.output p v
      reset_moved k l None None u v port same_reset at g h i =
          let count : values_in (slot a.nets l.output.0) ≡ values_in (slot nets k.output.0) = sym (spelled_count a l.output.0 formed) ∙ (sym (ap (λ (t : LatchPort). length t.values) port) ∙ count_kept k.output.0) in
          subst (λ n. v < n) count i
      reset_moved k l None (Some n) u v port same_reset at g h i = absurd (false≢true same_reset)
      reset_moved k l (Some m) None u v port same_reset at g h i = absurd (false≢true (sym same_reset))
      reset_moved k l (Some m) (Some n) u v port same_reset at g h i = i ∙ (at n refl ∙ (sym h ∙ g))

      resets_moved : (ks ls : List FlatLatch) (us vs : List ℕ) → map (latch_port_of nets) ks ≡ map (latch_port_of a.nets) ls → AllLatches a.nets ls → resets_give nets w ks us → resets_give a.nets z ls us → resets_give a.nets x ls vs → resets_give nets w ks vs
      resets_moved [] [] us [] e all g h i = tt
      resets_moved [] [] us (v ∷ vs) e all g h i = absurd i
      resets_moved [] (l ∷ ls) us vs e all g h i = cc
      resets_moved (k ∷ ks) [] us vs e all g h i = cc
      resets_moved (k ∷ ks) (l ∷ ls) [] vs e all g h i = absurd g
      resets_moved (k ∷ ks) (l ∷ ls) (u ∷ us) [] e all g h i = absurd i
      resets_moved (k ∷ ks) (l ∷ ls) (u ∷ us) (v ∷ vs) e all g h i =
          let port : latch_port_of nets k ≡ latch_port_of a.nets l = cc in
          let ports : map (latch_port_of nets) ks ≡ map (latch_port_of a.nets) ls = cc in (
            reset_moved k l k.reset l.reset u v port (ap (λ (t : LatchPort). t.has_reset) port) (λ n r. let is = (all.0.reset n r).kind in same n.0 is.net is.held) g.0 h.0 i.0,
            resets_moved ks ls us vs ports all.1 g.1 h.1 i.1,
          )

    -- ---- the networks

    module _ (refines : Refines false (of_net (with_nets net nets)) (of_net a)) where
      only : (i s o n r : List ℕ) → Allows (with_nets net nets) i s o n r → Allows a i s o n r
      unfolding of_net
      only i s o n r h = refines.narrows.only i s o n r (λ free. absurd (false≢true free)) h

      ports_same : map (latch_port_of nets) net.latches ≡ map (latch_port_of a.nets) a.latches
      unfolding of_net with_nets interface_of
      ports_same = ap (λ (t : Interface). t.latches) refines.narrows.same

      some_choice : (i s o n r : List ℕ) → Allows a i s o n r → AllowsSome (of_net (with_nets net nets)) i s
      unfolding of_net
      some_choice i s o n r h = refines.some i s (record { o = o; n = n; r = r; allowed = h })

      chosen_again : (i s o n r p k q : List ℕ) → Allows a i s o n r → Allows (with_nets net nets) i s p k q → Allows (with_nets net nets) i s o n r
      unfolding with_nets
      chosen_again i s o n r p k q g h =
          let f = only i s p k q h in
          let inputs = g.inputs ∙ sym f.inputs in
          let states = g.states ∙ sym f.states in
          record {
            at = h.at;
            agrees = h.agrees;
            inputs = h.inputs;
            states = h.states;
            outputs = h.outputs ∙ (sym f.outputs ∙ (sym (same_outputs g.at f.at g.agrees f.agrees inputs states) ∙ g.outputs));
            next = h.next ∙ (sym f.next ∙ (sym (same_next g.at f.at g.agrees f.agrees inputs states) ∙ g.next));
            resets = resets_moved h.at g.at f.at (same_held g.at f.at g.agrees f.agrees inputs states) net.latches a.latches q r ports_same formed.latches h.resets f.resets g.resets;
          }

      pub same_choices : SameMeaning (of_net (with_nets net nets)) (of_net a)
      unfolding of_net
      same_choices = record {
        same = refines.narrows.same;
        only = only;
        all = λ i s o n r h. let b = some_choice i s o n r h in chosen_again i s o n r b.o b.n b.r h b.allowed;
      }
