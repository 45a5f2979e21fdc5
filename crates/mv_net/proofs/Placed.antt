-- A network whose parts were changed where they stand is a network again.
use Rattle.std.proofs.Common.{◌≡◌, ◌∙◌, ℕ, zero, suc, ◌+◌, ◌-◌, ◌<◌, ◌≤◌, Bool, true, false, ◌||◌, cond, List, [], ◌∷◌, length, map, Option, Some, None, refl, sym, ap, subst, ⊎_elim, arith}
use Rattle.std.proofs.lemmas.Bool.{cases_lt, false≢true, false_from_ne_true}
use Rattle.std.proofs.lemmas.List.{get_or_past}
use Rattle.mv_base.specs.declared.limits.TheConstants.{MAX_NETS}
use Rattle.mv_base.specs.declared.number.NetId.{NetId}
use Rattle.mv_cover.specs.declared.cover.Cover.{Cover}
use Rattle.mv_graph.specs.Nets.{has_id}
use Rattle.mv_dag.specs.declared.new_rows.NewRow.{NewRow}
use Rattle.mv_dag.specs.Rows.{changed_rows}
use Rattle.mv_net.specs.declared.change.NewNet.{NewNet}
use Rattle.mv_net.specs.declared.change.Change.{Change}
use Rattle.mv_net.specs.declared.kept.Kept.{Kept}
use Rattle.mv_net.specs.declared.parts.Kind.{Kind}
use Rattle.mv_net.specs.declared.parts.Kind.TheVariants.{Input, Latch, Table, Reset}
use Rattle.mv_net.specs.declared.parts.FlatNet.{FlatNet}
use Rattle.mv_net.specs.declared.parts.NetParts.{NetParts}
use Rattle.mv_net.specs.Nets.{slot}
use Rattle.mv_net.specs.Formed.{IsKind, WellFormed}
use Rattle.mv_net.specs.Index.{is_latch_input, is_reset, kind_in, is_seen}
use Rattle.mv_net.specs.Changes.{table_for, count_for, with_table, with_count, changed_net, made_net, changed, Fits}
use Rattle.mv_net.specs.Fresh.{AreMade}
use Rattle.mv_net.specs.Names.{AreNames}
use Rattle.mv_net.specs.NewRows.{tables_of, AreRows}
use Rattle.mv_net.specs.Seen.{AreSeen}
use Rattle.mv_net.specs.Tallies.{AreTallies}
use Rattle.mv_net.specs.Kept.{IsNetwork}
use Rattle.mv_net.proofs.Changed.{few_changed, slot-changed_old, slot-changed_new}
use Rattle.mv_net.proofs.RowsGiven.{fanins_changed}

-- ---- reset nets stay

reset_is : (k : Kind) → is_reset (Some k) ≡ true → k ≡ Reset
reset_is Input e = absurd (false≢true e)
reset_is Latch e = absurd (false≢true e)
reset_is Table e = absurd (false≢true e)
reset_is Reset e = refl

kind_kept : (t : Option Cover) (k : Option ℕ) (f : FlatNet) → (with_count k (with_table t f)).kind ≡ f.kind
kind_kept None None f = refl
kind_kept None (Some k) f = refl
kind_kept (Some c) None f = refl
kind_kept (Some c) (Some k) f = refl

-- a reset net doesn't go: the changed network still has it
reset_stays : (net : NetParts) (c : Change) (n : ℕ) (f : FlatNet) → WellFormed net → WellFormed (changed net c) → slot net.nets n ≡ Some f → slot (changed net c).nets n ≡ None → is_reset (Some f.kind) ≡ false
unfolding changed
reset_stays net c n f old new held none =
    false_from_ne_true (is_reset (Some f.kind)) (λ y.
    let id : NetId = record { 0 = n } in
    let k : IsKind net.nets n Reset = record { net = f; held = held; is = reset_is f.kind y } in
    let still = new.resets.only id (old.resets.all id k) in
    let bad : None ≡ Some still.net = sym none ∙ still.held in
    absurd cc)

made_plain : (ms : List NewNet) (i : ℕ) → is_reset (kind_in (slot (map made_net ms) i)) ≡ false
made_plain ms i = at ms i
  where
    at : (ms : List NewNet) (i : ℕ) → is_reset (kind_in (slot (map made_net ms) i)) ≡ false
    at [] i = refl
    at (m ∷ ms) zero = refl
    at (m ∷ ms) (suc i) = at ms i

resets_kept : (net : NetParts) (c : Change) (n : ℕ) → WellFormed net → WellFormed (changed net c) → is_reset (kind_in (slot net.nets n)) ≡ is_reset (kind_in (slot (changed net c).nets n))
resets_kept net c n old new =
    ⊎_elim
    (λ (low : n < length net.nets). by_slot low (slot net.nets n) refl)
    (λ (past : length net.nets ≤ n).
    let e : length net.nets + (n - length net.nets) ≡ n = omega arith in
    ap (λ f. is_reset (kind_in f)) (get_or_past net.nets n None past)
    ∙ sym (ap (λ k. is_reset (kind_in (slot (changed net c).nets k))) (sym e) ∙ (ap (λ f. is_reset (kind_in f)) (slot-changed_new net c (n - length net.nets)) ∙ made_plain c.add (n - length net.nets))))
    (cases_lt n (length net.nets))
  where
    by_gone : (f : FlatNet) (b : Bool) → n < length net.nets → slot net.nets n ≡ Some f → has_id c.gone n ≡ b → is_reset (Some f.kind) ≡ is_reset (kind_in (cond b None (Some (with_count (count_for n c.values) (with_table (table_for n c.set) f)))))
    by_gone f true low held g =
        reset_stays net c n f old new held
        (slot-changed_old net c n low ∙ (ap (changed_net c n) held ∙ ap (λ b. cond b None (Some (with_count (count_for n c.values) (with_table (table_for n c.set) f)))) g))
    by_gone f false low held g = ap (λ k. is_reset (Some k)) (sym (kind_kept (table_for n c.set) (count_for n c.values) f))

    by_slot : n < length net.nets → (f : Option FlatNet) → slot net.nets n ≡ f → is_reset (kind_in (slot net.nets n)) ≡ is_reset (kind_in (slot (changed net c).nets n))
    by_slot low None held =
        ap (λ f. is_reset (kind_in f)) held ∙ sym (ap (λ f. is_reset (kind_in f)) (slot-changed_old net c n low ∙ ap (changed_net c n) held))
    by_slot low (Some f) held =
        ap (λ f. is_reset (kind_in f)) held ∙ (by_gone f (has_id c.gone n) low held refl ∙ sym (ap (λ f. is_reset (kind_in f)) (slot-changed_old net c n low ∙ ap (changed_net c n) held)))

-- so the marks stay: no net that comes is seen
seen_changed : (net : NetParts) (c : Change) (marks : List Bool) → WellFormed net → WellFormed (changed net c) → AreSeen net marks → AreSeen (changed net c) marks
unfolding changed is_seen
seen_changed net c marks old new are = record {
  each = λ n. are.each n ∙ ap (λ b. has_id net.outputs n || is_latch_input net.latches n || b) (resets_kept net c n old new);
}

-- ---- a network again

-- the parts with other nets
abbrev pub with_new : NetParts → List (Option FlatNet) → NetParts
with_new net nets = record net { nets = nets }

pub parts_changed : (net : NetParts) (c : Change) (nets : List (Option FlatNet)) → nets ≡ (changed net c).nets → with_new net nets ≡ changed net c
unfolding changed
parts_changed net c nets e = ap (with_new net) e

pub network_changed : (net now : NetParts) (c : Change) (old new : Kept) (rows : List NewRow) → IsNetwork net old → length net.nets + length c.add ≤ MAX_NETS → Fits net c → WellFormed (changed net c) → AreRows (tables_of c (length net.nets)) rows
    → now ≡ changed net c → AreTallies now.nets new.tallies → AreNames now.nets new.names → AreMade now.nets new.made → new.graph ≡ changed_rows rows (length c.add) old.graph → new.seen ≡ old.seen → IsNetwork now new
network_changed net now c old new rows is few fits formed given same tallies names made graph seen =
    let P : NetParts → Type 0 = λ (p : NetParts). AreTallies p.nets new.tallies in
    let Q : NetParts → Type 0 = λ (p : NetParts). AreNames p.nets new.names in
    let R : NetParts → Type 0 = λ (p : NetParts). AreMade p.nets new.made in
    subst (λ p. IsNetwork p new) (sym same) (record {
      formed = formed;
      few = few_changed net c few;
      known = record {
        tallies = subst P same tallies;
        graph = rw graph (fanins_changed net c old.graph rows fits is.known.graph given);
        names = subst Q same names;
        seen = rw seen (seen_changed net c old.seen is.formed formed is.known.seen);
        made = subst R same made;
      };
    })

-- where nothing came of it
pub network_left : (net now : NetParts) (old new : Kept) → IsNetwork net old → now ≡ net → AreTallies now.nets new.tallies → AreNames now.nets new.names → AreMade now.nets new.made → new.graph ≡ old.graph → new.seen ≡ old.seen → IsNetwork now new
network_left net now old new is same tallies names made graph seen =
    let P : NetParts → Type 0 = λ (p : NetParts). AreTallies p.nets new.tallies in
    let Q : NetParts → Type 0 = λ (p : NetParts). AreNames p.nets new.names in
    let R : NetParts → Type 0 = λ (p : NetParts). AreMade p.nets new.made in
    subst (λ p. IsNetwork p new) (sym same) (record {
      formed = is.formed;
      few = is.few;
      known = record { tallies = subst P same tallies; graph = rw graph is.known.graph; names = subst Q same names; seen = rw seen is.known.seen; made = subst R same made };
    })
