-- What rules keep: where every table was total every table is, and where no net had more than two values none has.
use Rattle.std.proofs.Common.{◌≡◌, ◌∙◌, ◌⊎◌, ℕ, ◌<◌, ◌≤◌, Bool, true, false, nat_lt, List, [], ◌∷◌, ◌++◌, length, map, slice_set, Option, Some, None, is_some, inl, inr, refl, sym, ap, subst, ⊎_elim, eq-eqb, arith, if◌then◌else◌}
use Rattle.std.specs.Prelude.{MatchBool, nat_eq, slice_index}
use Rattle.std.proofs.lemmas.Bool.{cases_Bool, cases_eq, false≢true, lt-ltb, ltb-true}
use Rattle.std.proofs.lemmas.Option.{same_Some}
use Rattle.mv_base.specs.Set.{one}
use Rattle.mv_base.specs.declared.limits.TheConstants.{MAX_VALUES}
use Rattle.mv_body.specs.Bodies.{cover_said}
use Rattle.mv_composite.specs.declared.inner.Inner.{Inner}
use Rattle.mv_composite.specs.Composite.{composed}
use Rattle.mv_composite.specs.Wired.{wired}
use Rattle.mv_composite.proofs.Wires.{wired_allows, wired_reads}
use Rattle.mv_cover.specs.declared.cover.Cover.{Cover}
use Rattle.mv_cover.specs.Covers.{allowed, cover_reads, some_matches}
use Rattle.mv_cover.specs.Covering.{IsPoint}
use Rattle.mv_cover.proofs.Local.{allowed-local}
use Rattle.mv_entry.specs.declared.rule.Body.{Body}
use Rattle.mv_entry.specs.declared.rule.Code.{Code}
use Rattle.mv_entry.specs.declared.rule.Rule.{Rule}
use Rattle.mv_entry.specs.declared.rule.Rule.TheVariants.{Remove, Add, Divide, Wire, Collapse, Narrow, Fill, Merge, Encode}
use Rattle.mv_meaning.specs.Rewriting.{IsReader, rewritten, with_net_table}
use Rattle.mv_meaning.proofs.Adding.{IsWritten-added}
use Rattle.mv_meaning.proofs.OneTable.{IsReformed-given, slot-there, table-here}
use Rattle.mv_meaning.proofs.Rewired.{IsReformed-rewritten, IsMadeOf, HasStayed, cover_at, rewritten_from}
use Rattle.mv_meaning.proofs.Wiring.{buffer_reads}
use Rattle.mv_narrow.proofs.Windows.{window_keeps}
use Rattle.mv_net.specs.declared.parts.FlatNet.{FlatNet}
use Rattle.mv_net.specs.declared.parts.NetParts.{NetParts}
use Rattle.mv_net.specs.Changes.{with_nets}
use Rattle.mv_net.specs.Formed.{IsCover, IsReadable, WellFormed}
use Rattle.mv_net.specs.Nets.{slot, values_in, table_in, table_reads, reads_in}
use Rattle.mv_net.specs.Plain.{IsPlainBuffer}
use Rattle.mv_net.specs.Total.{IsTotal}
use Rattle.mv_net.proofs.Known.{counts_at, reads_readable, values_few, values_some}
use Rattle.mv_net.proofs.Named.{held_below}
use Rattle.mv_net.proofs.Patches.{IsWritten-gone, put, put_same, put_other}
use Rattle.mv_net.proofs.Totals.{IsTotal-covered, IsTotal-default, not_total, allowed_below}
use Rattle.mv_plans.specs.Adding.{Adds, divisor_net}
use Rattle.mv_rules.specs.Applies.{Applies}
use Rattle.mv_plans.specs.Collapsing.{Collapses, IsInnerOf}
use Rattle.mv_plans.specs.Completing.{IsLess, with_zero}
use Rattle.mv_plans.specs.Dividing.{Divides}
use Rattle.mv_plans.specs.Filling.{Fills, with_default}
use Rattle.mv_plans.specs.Narrowing.{Narrows}
use Rattle.mv_plans.specs.Merging.{Merges}
use Rattle.mv_plans.specs.Encoding.{Encodes}
use Rattle.mv_plans.proofs.Merged.{merged_few, merged_keeps_total, merged_tabled}
use Rattle.mv_plans.proofs.Encoded.{encoded_few, encoded_total}
use Rattle.mv_merging.proofs.Merged.{total_net}
use Rattle.mv_base.specs.declared.number.Value.{Value}
use Rattle.mv_plans.specs.Removing.{Removes}
use Rattle.mv_rules.specs.Replaying.{Replays}
use Rattle.mv_rules.specs.Staying.{AreTotal, AreBinary}
use Rattle.mv_plans.specs.Wiring.{Wires}
use Rattle.mv_plans.proofs.Collapsed.{is_composite}
use Rattle.mv_rules.proofs.Kept.{kept_formed}
use Rattle.mv_plans.proofs.Wired.{cubes}

-- ---- points of some nets as points of others

-- the assignment, with 0 in place of what isn't a value of the net
abbrev within_values : List (Option FlatNet) → (ℕ → ℕ) → ℕ → ℕ
within_values nets at m = if nat_lt (at m) (values_in (slot nets m)) then at m else 0

low_within : (b : Bool) (v k : ℕ) → 0 < k → nat_lt v k ≡ b → (if b then v else 0) < k
low_within true v k some e = ltb-true v k e
low_within false v k some e = some

within_point : (nets : List (Option FlatNet)) (at : ℕ → ℕ) → IsPoint (map values_in nets) (within_values nets at)
within_point nets at = record {
  below = λ n some.
      let count = counts_at nets n in
      subst (λ k. within_values nets at n < k) (sym count) (low_within (nat_lt (at n) (values_in (slot nets n))) (at n) (values_in (slot nets n)) (subst (λ k. 0 < k) count some) refl);
}

within_same : (nets : List (Option FlatNet)) (at : ℕ → ℕ) (m : ℕ) → at m < values_in (slot nets m) → within_values nets at m ≡ at m
within_same nets at m low = ap (λ b. if b then at m else 0) (lt-ltb (at m) (values_in (slot nets m)) low)

-- a table is total over other nets, of which those that it reads have the values that they had
pub total_kept : (old new : List (Option FlatNet)) (c : Cover) → ((m : ℕ) → cover_reads c m ≡ true → (0 < values_in (slot new m)) × (values_in (slot new m) ≡ values_in (slot old m))) → IsTotal old c → IsTotal new c
total_kept old new c read total = record {
  some = λ at p.
      let low : (m : ℕ) → cover_reads c m ≡ true → at m < values_in (slot old m) = λ m r.
      subst (λ k. at m < k) (counts_at new m ∙ (read m r).1) (p.below m (subst (λ k. 0 < k) (sym (counts_at new m)) (read m r).0)) in
      let some = total.some (within_values old at) (within_point old at) in
      record { value = some.value; is_allowed = allowed-local c at (within_values old at) some.value (λ m r. sym (within_same old at m (low m r))) ∙ some.is_allowed };
}

-- a point with another of the net's values is a point
put_point : (nets : List (Option FlatNet)) (n v : ℕ) (at : ℕ → ℕ) → v < values_in (slot nets n) → IsPoint (map values_in nets) at → IsPoint (map values_in nets) (put n v at)
put_point nets n v at low point = record {
  below = λ m some.
      ⊎_elim
      (λ (e : m ≡ n).
      let count : slice_index (map values_in nets) m ≡ values_in (slot nets n) = counts_at nets m ∙ ap (λ k. values_in (slot nets k)) e in
      let is : put n v at m ≡ v = ap (put n v at) e ∙ put_same n v at in
      subst (λ k. k < slice_index (map values_in nets) m) (sym is) (subst (λ k. v < k) (sym count) low))
      (λ (ne : m ≡ n → ⊥). subst (λ k. k < slice_index (map values_in nets) m) (sym (put_other n v at m ne)) (point.below m some))
      (cases_eq m n);
}

-- ---- all tables

-- they are total where each was, or is, and the nets that are read have the values that they had
all_total : (old new : NetParts) → WellFormed new → ((n m : ℕ) → reads_in new.nets n m ≡ true → values_in (slot new.nets m) ≡ values_in (slot old.nets m))
    → ((n : ℕ) (c : Cover) → table_in (slot new.nets n) ≡ Some c → IsTotal old.nets c ⊎ IsTotal new.nets c) → AreTotal new.nets
all_total old new formed same tables = record {
  each = λ n c e.
      ⊎_elim
      (λ (was : IsTotal old.nets c).
      total_kept old.nets new.nets c
      (λ m r.
      let reads = ap (λ t. table_reads t m) e ∙ r in
      (values_some new m formed (ap (λ f. is_some f) (reads_readable new n m formed reads).held), same n m reads))
      was)
      (λ (is : IsTotal new.nets c). is)
      (tables n c e);
}

-- a table with a default is total
total_default : (net : NetParts) (n out : ℕ) (c : Cover) → WellFormed net → table_in (slot net.nets n) ≡ Some c → c.default ≡ Some out → IsTotal net.nets c
total_default net n out c formed e d = IsTotal-default net.nets (values_in (slot net.nets n)) out c (values_few net n formed) (cover_at net n c formed e) d

-- a table that can't be other than total is total
surely_total : (nets : List (Option FlatNet)) (values : ℕ) (c : Cover) → values ≤ MAX_VALUES → IsCover nets values c → ((IsTotal nets c → ⊥) → ⊥) → IsTotal nets c
surely_total nets values c few is never = by c.default refl
  where
    by : (d : Option ℕ) → c.default ≡ d → IsTotal nets c
    by (Some out) e = IsTotal-default nets values out c few is e
    by None e = IsTotal-covered nets values c few is (record {
      each = λ at p.
          ⊎_elim
          (λ (y : some_matches at c.lines ≡ true). y)
          (λ (f : some_matches at c.lines ≡ false). absurd (never (not_total nets c e (record { at = at; point = p; missed = f }))))
          (cases_Bool (some_matches at c.lines));
    })

-- ---- a table in place of one

nets_with : (old : NetParts) (nets : List (Option FlatNet)) → (with_nets old nets).nets ≡ nets
unfolding with_nets
nets_with old nets = refl

-- the nets of a network that is another with these nets
nets_are : (old new : NetParts) (nets : List (Option FlatNet)) → new ≡ with_nets old nets → new.nets ≡ nets
nets_are old new nets is = ap (λ (net : NetParts). net.nets) is ∙ nets_with old nets

module _ (old new : NetParts) (n : ℕ) (was c : Cover) (formed : WellFormed new) (nets : new.nets ≡ with_net_table old.nets n c) (table : table_in (slot old.nets n) ≡ Some was) (total : AreTotal old.nets) where
  given_here : table_in (slot new.nets n) ≡ Some c
  given_here = ap (λ ns. table_in (slot ns n)) nets ∙ table-here old.nets n was c table

  given_values : (m : ℕ) → values_in (slot new.nets m) ≡ values_in (slot old.nets m)
  given_values m = ap (λ ns. values_in (slot ns m)) nets ∙ ((IsReformed-given old.nets n was c table).each m).values

  -- where the table is total, or has a default
  given_total : IsTotal old.nets c ⊎ ((out : ℕ) × (c.default ≡ Some out)) → AreTotal new.nets
  given_total either = all_total old new formed (λ k m r. given_values m) tables
    where
      this : IsTotal old.nets c ⊎ ((out : ℕ) × (c.default ≡ Some out)) → IsTotal old.nets c ⊎ IsTotal new.nets c
      this (inl t) = inl t
      this (inr d) = inr (total_default new n d.0 c formed given_here d.1)

      tables : (m : ℕ) (d : Cover) → table_in (slot new.nets m) ≡ Some d → IsTotal old.nets d ⊎ IsTotal new.nets d
      tables m d e =
          ⊎_elim
          (λ (at : m ≡ n).
          let P : ℕ → Type 0 = λ k. table_in (slot new.nets k) ≡ Some d in
          let same = same_Some c d (sym given_here ∙ subst P at e) in
          subst (λ (x : Cover). IsTotal old.nets x ⊎ IsTotal new.nets x) same (this either))
          (λ (ne : m ≡ n → ⊥). inl (total.each m d (sym (ap (λ ns. table_in (slot ns m)) nets ∙ ap table_in (slot-there old.nets n was c table m ne)) ∙ e)))
          (cases_eq m n)

-- ---- a net that is gone

module _ (old new : NetParts) (n : ℕ) (before : List (Option FlatNet)) (nets : new.nets ≡ slice_set before n None) where
  gone : slot new.nets n ≡ None
  gone = ap (λ ns. slot ns n) nets ∙ (IsWritten-gone before n).here

  others : (m : ℕ) → (m ≡ n → ⊥) → slot new.nets m ≡ slot before m
  others m ne = ap (λ ns. slot ns m) nets ∙ (IsWritten-gone before n).others m ne

  -- a net that is held, or has a table, is another one
  held_other : (m : ℕ) (f : FlatNet) → slot new.nets m ≡ Some f → slot new.nets m ≡ slot before m
  held_other m f held = others m (λ here. let bad : None ≡ Some f = sym (ap (slot new.nets) here ∙ gone) ∙ held in cc)

  tabled_other : (m : ℕ) (c : Cover) → table_in (slot new.nets m) ≡ Some c → table_in (slot before m) ≡ Some c
  tabled_other m c e =
      ap table_in (sym (others m (λ here. let bad : None ≡ Some c = sym (ap (λ k. table_in (slot new.nets k)) here ∙ ap table_in gone) ∙ e in cc))) ∙ e

  -- what is left is total, if the nets before have the old values and total tables
  gone_total : WellFormed new → ((m : ℕ) → values_in (slot before m) ≡ values_in (slot old.nets m)) → ((m : ℕ) (c : Cover) → table_in (slot before m) ≡ Some c → IsTotal old.nets c) → AreTotal new.nets
  gone_total formed values tables =
      all_total old new formed
      (λ k m r. let is = reads_readable new k m formed r in ap values_in (held_other m is.net is.held) ∙ values m)
      (λ m c e. inl (tables m c (tabled_other m c e)))

-- ---- the rules

removed_total : (old : NetParts) (w : List ℕ) (new : NetParts) → WellFormed new → AreTotal old.nets → Removes old w new → AreTotal new.nets
removed_total old w new formed total p =
    gone_total old new p.number old.nets (nets_are old new (slice_set old.nets p.number None) p.new_is) formed (λ m. refl) total.each

added_total : (old : NetParts) (w : List ℕ) (body : Body) (new : NetParts) → WellFormed old → WellFormed new → AreTotal old.nets → Adds old w body new → AreTotal new.nets
added_total old w body new was formed total p = record { each = λ m c e. by m c e (cases_eq m (length old.nets)) }
  where
    nets : new.nets ≡ old.nets ++ Some (divisor_net w (cover_said old.nets body)) ∷ []
    nets = nets_are old new (old.nets ++ Some (divisor_net w (cover_said old.nets body)) ∷ []) p.new_is

    other : (m : ℕ) → (m ≡ length old.nets → ⊥) → slot new.nets m ≡ slot old.nets m
    other m ne = ap (λ ns. slot ns m) nets ∙ (IsWritten-added old.nets (Some (divisor_net w (cover_said old.nets body)))).others m ne

    table : (m : ℕ) → m ≡ length old.nets → table_in (slot new.nets m) ≡ Some (cover_said old.nets body)
    table m here = ap (λ k. table_in (slot new.nets k)) here ∙ (ap (λ ns. table_in (slot ns (length old.nets))) nets ∙ ap table_in (IsWritten-added old.nets (Some (divisor_net w (cover_said old.nets body)))).here)

    kept : (k : ℕ) → IsReadable old.nets k → (0 < values_in (slot new.nets k)) × (values_in (slot new.nets k) ≡ values_in (slot old.nets k))
    kept k r =
        let same : values_in (slot new.nets k) ≡ values_in (slot old.nets k) = ap values_in (other k (λ e. let low = held_below old.nets k r.net r.held in omega (arith, e))) in
        (subst (λ v. 0 < v) (sym same) (values_some old k was (ap (λ f. is_some f) r.held)), same)

    by : (m : ℕ) (c : Cover) → table_in (slot new.nets m) ≡ Some c → (m ≡ length old.nets) ⊎ (m ≡ length old.nets → ⊥) → IsTotal new.nets c
    by m c e (inl here) =
        let same = same_Some (cover_said old.nets body) c (sym (table m here) ∙ e) in
        total_default new m (one 0) c formed e (ap (λ (d : Cover). d.default) (sym same) ∙ p.form.choice.default)
    by m c e (inr ne) =
        let before : table_in (slot old.nets m) ≡ Some c = ap table_in (sym (other m ne)) ∙ e in
        total_kept old.nets new.nets c (λ k r. kept k (reads_readable old m k was (ap (λ t. table_reads t k) before ∙ r))) (total.each m c before)

-- a body that is completed is total where the old table is, or has a default
completed_total : (nets : List (Option FlatNet)) (values : ℕ) (old body new : Cover) (less : Bool) → values ≤ MAX_VALUES → IsCover nets values body → IsTotal nets old → MatchBool less (IsLess nets old body) (IsLess nets old body → ⊥) → new ≡ with_zero less body
    → IsTotal nets new ⊎ ((out : ℕ) × (new.default ≡ Some out))
completed_total nets values old body new true few is total needed e = inr (one 0, ap (λ (d : Cover). d.default) e)
completed_total nets values old body new false few is total needed e =
    inl (subst (IsTotal nets) (sym e) (surely_total nets values body few is (λ partial. needed (record { total = total; partial = partial }))))

divided_total : (old : NetParts) (w by : List ℕ) (body : Body) (new : NetParts) → WellFormed old → WellFormed new → AreTotal old.nets → Divides old w by body new → AreTotal new.nets
divided_total old w by body new was formed total p =
    given_total old new p.number p.same.old p.table formed (nets_are old new (with_net_table old.nets p.number p.table) p.new_is) p.same.table total
    (completed_total old.nets (values_in (slot old.nets p.number)) p.same.old (cover_said old.nets body) p.table p.completed.less (values_few old p.number was) p.form.cover (total.each p.number p.same.old p.same.table)
    p.completed.needed p.completed.new_is)

filled_total : (free : Bool) (old : NetParts) (w : List ℕ) (out : ℕ) (new : NetParts) → WellFormed new → AreTotal old.nets → Fills free old w out new → AreTotal new.nets
filled_total free old w out new formed total p =
    given_total old new p.number p.table (with_default p.table out) formed (nets_are old new (with_net_table old.nets p.number (with_default p.table out)) p.new_is) p.table_is total (inr (out, refl))

narrowed_total : (old : NetParts) (w : List ℕ) (d u : ℕ) (body : Body) (new : NetParts) → WellFormed old → WellFormed new → AreTotal old.nets → Narrows old w d u body new → AreTotal new.nets
narrowed_total old w d u body new was formed total p =
    let said = cover_said old.nets body in
    let some = window_keeps old p.number d u p.inside.window was p.inside.is p.table said p.table_is p.keeps in
    given_total old new p.number p.table said formed (nets_are old new (with_net_table old.nets p.number said) p.new_is) p.table_is total
    (inl (record { some = λ at point. some.each at point ((total.each p.number p.table p.table_is).some at point) }))

-- ---- readers of a buffer

module _ (old : NetParts) (n s : ℕ) (was : WellFormed old) (total : AreTotal old.nets) (buffer : IsPlainBuffer old.nets n s) where
  other_source : s ≡ n → ⊥
  other_source e = was.acyclic.none n (record { path = []; goes = subst (λ k. reads_in old.nets n k ≡ true) e (buffer_reads old.nets n s buffer) })

  module _ (m : ℕ) (c : Cover) (reader : IsReader old.nets n m c) where
    unread_wired : (k : ℕ) → cover_reads (wired n s c) k ≡ true → k ≡ n → ⊥
    unread_wired k r e = by ((wired_reads n s c (cubes old n s was buffer m c reader)).only k r)
      where
        by : ((cover_reads c k ≡ true) × (nat_eq k n ≡ false)) ⊎ (k ≡ s) → ⊥
        by (inl q) = false≢true (sym q.1 ∙ eq-eqb k n e)
        by (inr q) = other_source (sym q ∙ e)

    source_low : (at : ℕ → ℕ) → IsPoint (map values_in old.nets) at → at s < values_in (slot old.nets n)
    source_low at point =
        let some = values_some old s was (ap (λ f. is_some f) (reads_readable old n s was (buffer_reads old.nets n s buffer)).held) in
        let below : at s < values_in (slot old.nets s) = subst (λ k. at s < k) (counts_at old.nets s) (point.below s (subst (λ k. 0 < k) (sym (counts_at old.nets s)) some)) in
        subst (λ k. at s < k) buffer.same below

    -- it allows what the old one does where the buffer has the value of its fanin
    wired_table_total : IsTotal old.nets (wired n s c)
    wired_table_total = record {
      some = λ at point.
          let some = (total.each m c reader.table).some (put n (at s) at) (put_point old.nets n (at s) at (source_low at point) point) in
          let same : put n (at s) at n ≡ put n (at s) at s = put_same n (at s) at ∙ sym (put_other n (at s) at s other_source) in
          record {
            value = some.value;
            is_allowed = allowed-local (wired n s c) at (put n (at s) at) some.value (λ k r. sym (put_other n (at s) at k (unread_wired k r)))
                ∙ ((wired_allows n s c (cubes old n s was buffer m c reader)).same (put n (at s) at) same some.value ∙ some.is_allowed);
          };
    }

  wired_tables : (m : ℕ) (d : Cover) → IsMadeOf (wired n s) n old.nets m d ⊎ HasStayed n old.nets m d → IsTotal old.nets d
  wired_tables m d (inl made) = subst (IsTotal old.nets) (sym made.is) (wired_table_total m made.was made.reader)
  wired_tables m d (inr stayed) = total.each m d stayed.table

wired_total : (old : NetParts) (w : List ℕ) (new : NetParts) → WellFormed old → WellFormed new → AreTotal old.nets → Wires old w new → AreTotal new.nets
wired_total old w new was formed total p =
    let n = p.number in
    let s = p.same.source in
    let nets = nets_are old new (rewritten (wired n s) n old.nets) p.new_is in
    all_total old new formed
    (λ k m r. ap (λ ns. values_in (slot ns m)) nets ∙ ((IsReformed-rewritten (wired n s) n old.nets).each m).values)
    (λ m d e. inl (wired_tables old n s was total p.same.buffer m d (rewritten_from (wired n s) n old.nets m d (sym (ap (λ ns. table_in (slot ns m)) nets) ∙ e))))

-- ---- readers of a net that goes into them

module _ (old : NetParts) (inner : Inner) (was : WellFormed old) (total : AreTotal old.nets) (known : IsInnerOf old.nets inner) where
  -- with a value that the net's table allows the reader's table allows one
  composed_total : (m : ℕ) (c : Cover) → IsReader old.nets inner.net.0 m c → IsTotal old.nets (composed (map values_in old.nets) inner c)
  composed_total m c reader = record {
    some = λ at point.
        let n = inner.net.0 in
        let own = (total.each n inner.cover known.table).some at point in
        let low : own.value < values_in (slot old.nets n) = allowed_below old.nets (values_in (slot old.nets n)) inner.cover at own.value (cover_at old n inner.cover was known.table) own.is_allowed in
        let last = (total.each m c reader.table).some (put n own.value at) (put_point old.nets n own.value at low point) in
        record {
          value = last.value;
          is_allowed = ((is_composite old inner was known m c reader).allows at point last.value).1 (record {
            given = put n own.value at;
            others = λ k ne. put_other n own.value at k ne;
            between = ap (allowed inner.cover at) (put_same n own.value at) ∙ own.is_allowed;
            beyond = last.is_allowed;
          });
        };
  }

  composed_tables : (m : ℕ) (d : Cover) → IsMadeOf (composed (map values_in old.nets) inner) inner.net.0 old.nets m d ⊎ HasStayed inner.net.0 old.nets m d → IsTotal old.nets d
  composed_tables m d (inl is) = subst (IsTotal old.nets) (sym is.is) (composed_total m is.was is.reader)
  composed_tables m d (inr stayed) = total.each m d stayed.table

collapsed_total : (old : NetParts) (w : List ℕ) (new : NetParts) → WellFormed old → WellFormed new → AreTotal old.nets → Collapses old w new → AreTotal new.nets
collapsed_total old w new was formed total p =
    let inner = p.composites.inner in
    let n = inner.net.0 in
    let made = composed (map values_in old.nets) inner in
    let before = rewritten made n old.nets in
    gone_total old new n before (nets_are old new (slice_set before n None) p.new_is) formed
    (λ m. ((IsReformed-rewritten made n old.nets).each m).values)
    (λ m d e. composed_tables old inner was total p.composites.known m d (rewritten_from made n old.nets m d e))

-- ---- values of a net that are merged

merged_total : (old : NetParts) (w : List ℕ) (gone : Value) (into : Option Value) (new : NetParts) → WellFormed old → AreTotal old.nets → Merges old w gone into new → AreTotal new.nets
merged_total old w gone into new formed total p = record {
  each = λ k c e.
      let was = merged_tabled old w gone into new p k c e in
      let t = merged_keeps_total old w gone into new formed p k (total_net old.nets k was.0 was.1 (total.each k was.0 was.1)) in
      subst (IsTotal new.nets) (same_Some t.cover c (sym (ap table_in t.held ∙ t.table) ∙ e)) t.total;
}

merged_binary : (old : NetParts) (w : List ℕ) (gone : Value) (into : Option Value) (new : NetParts) → AreBinary old.nets → Merges old w gone into new → AreBinary new.nets
merged_binary old w gone into new binary p = record { each = λ k. omega (arith, merged_few old w gone into new p k, binary.each k) }

encoded_binary : (old : NetParts) (w : List ℕ) (names : List (List ℕ)) (codes : List Code) (new : NetParts) → AreBinary old.nets → Encodes old w names codes new → AreBinary new.nets
encoded_binary old w names codes new binary p = record {
  each = λ k.
      ⊎_elim
      (λ (less : values_in (slot new.nets k) ≤ values_in (slot old.nets k)). omega (arith, less, binary.each k))
      (λ (two : values_in (slot new.nets k) ≤ 2). two)
      (encoded_few old w names codes new p k);
}

pub stays_total : (free : Bool) (rule : Rule) (old new : NetParts) → WellFormed old → AreTotal old.nets → Applies free rule old new → AreTotal new.nets
stays_total free (Remove w) old new formed total p = removed_total old w new (kept_formed free (Remove w) old new formed p) total p
stays_total free (Add w body) old new formed total p = added_total old w body new formed (kept_formed free (Add w body) old new formed p) total p
stays_total free (Divide w by body) old new formed total p = divided_total old w by body new formed (kept_formed free (Divide w by body) old new formed p) total p
stays_total free (Wire w) old new formed total p = wired_total old w new formed (kept_formed free (Wire w) old new formed p) total p
stays_total free (Collapse w) old new formed total p = collapsed_total old w new formed (kept_formed free (Collapse w) old new formed p) total p
stays_total free (Narrow w d u body) old new formed total p = narrowed_total old w d u body new formed (kept_formed free (Narrow w d u body) old new formed p) total p
stays_total free (Fill w out) old new formed total p = filled_total free old w out new (kept_formed free (Fill w out) old new formed p) total p
stays_total free (Merge w gone into) old new formed total p = merged_total old w gone into new formed total p
stays_total free (Encode w names codes) old new formed total p = record { each = encoded_total old w names codes new formed p total.each }

pub replays_total : (free : Bool) (rules : List Rule) (old new : NetParts) → WellFormed old → AreTotal old.nets → Replays free rules old new → AreTotal new.nets
replays_total free [] old new formed total p = subst (λ (net : NetParts). AreTotal net.nets) (sym p) total
replays_total free (r ∷ rs) old new formed total (mid, (applies, rest)) = replays_total free rs mid new (kept_formed free r old mid formed applies) (stays_total free r old mid formed total applies) rest

-- ---- how many values

-- nets that have the values that they had, or none
fewer : (old new : NetParts) → AreBinary old.nets → ((m : ℕ) → (values_in (slot new.nets m) ≡ values_in (slot old.nets m)) ⊎ (values_in (slot new.nets m) ≡ 0)) → AreBinary new.nets
fewer old new binary same = record { each = λ m. by m (same m) }
  where
    by : (m : ℕ) → (values_in (slot new.nets m) ≡ values_in (slot old.nets m)) ⊎ (values_in (slot new.nets m) ≡ 0) → values_in (slot new.nets m) ≤ 2
    by m (inl e) = subst (λ k. k ≤ 2) (sym e) (binary.each m)
    by m (inr e) = omega (arith, e)

gone_binary : (old new : NetParts) (n : ℕ) (before : List (Option FlatNet)) → AreBinary old.nets → new.nets ≡ slice_set before n None → ((m : ℕ) → values_in (slot before m) ≡ values_in (slot old.nets m)) → AreBinary new.nets
gone_binary old new n before binary nets values =
    fewer old new binary (λ m.
    ⊎_elim
    (λ (e : m ≡ n). inr (ap (λ k. values_in (slot new.nets k)) e ∙ ap values_in (gone old new n before nets)))
    (λ (ne : m ≡ n → ⊥). inl (ap values_in (others old new n before nets m ne) ∙ values m))
    (cases_eq m n))

given_binary : (old new : NetParts) (n : ℕ) (was c : Cover) → AreBinary old.nets → new ≡ with_nets old (with_net_table old.nets n c) → table_in (slot old.nets n) ≡ Some was → AreBinary new.nets
given_binary old new n was c binary is table =
    fewer old new binary (λ m.
    inl (ap (λ ns. values_in (slot ns m)) (nets_are old new (with_net_table old.nets n c) is) ∙ ((IsReformed-given old.nets n was c table).each m).values))

added_binary : (old : NetParts) (w : List ℕ) (body : Body) (new : NetParts) → AreBinary old.nets → Adds old w body new → AreBinary new.nets
added_binary old w body new binary p = record { each = λ m. by m (cases_eq m (length old.nets)) }
  where
    nets : new.nets ≡ old.nets ++ Some (divisor_net w (cover_said old.nets body)) ∷ []
    nets = nets_are old new (old.nets ++ Some (divisor_net w (cover_said old.nets body)) ∷ []) p.new_is

    by : (m : ℕ) → (m ≡ length old.nets) ⊎ (m ≡ length old.nets → ⊥) → values_in (slot new.nets m) ≤ 2
    by m (inl e) =
        let two : values_in (slot new.nets m) ≡ 2 =
        ap (λ k. values_in (slot new.nets k)) e ∙ (ap (λ ns. values_in (slot ns (length old.nets))) nets ∙ ap values_in (IsWritten-added old.nets (Some (divisor_net w (cover_said old.nets body)))).here) in
        omega (arith, two)
    by m (inr ne) =
        let same : values_in (slot new.nets m) ≡ values_in (slot old.nets m) =
        ap (λ ns. values_in (slot ns m)) nets ∙ ap values_in ((IsWritten-added old.nets (Some (divisor_net w (cover_said old.nets body)))).others m ne) in
        subst (λ k. k ≤ 2) (sym same) (binary.each m)

wired_binary : (old : NetParts) (w : List ℕ) (new : NetParts) → AreBinary old.nets → Wires old w new → AreBinary new.nets
wired_binary old w new binary p =
    let made = wired p.number p.same.source in
    fewer old new binary (λ m.
    inl (ap (λ ns. values_in (slot ns m)) (nets_are old new (rewritten made p.number old.nets) p.new_is) ∙ ((IsReformed-rewritten made p.number old.nets).each m).values))

collapsed_binary : (old : NetParts) (w : List ℕ) (new : NetParts) → AreBinary old.nets → Collapses old w new → AreBinary new.nets
collapsed_binary old w new binary p =
    let n = p.composites.inner.net.0 in
    let made = composed (map values_in old.nets) p.composites.inner in
    let before = rewritten made n old.nets in
    gone_binary old new n before binary (nets_are old new (slice_set before n None) p.new_is) (λ m. ((IsReformed-rewritten made n old.nets).each m).values)

pub stays_binary : (free : Bool) (rule : Rule) (old new : NetParts) → AreBinary old.nets → Applies free rule old new → AreBinary new.nets
stays_binary free (Remove w) old new binary p = gone_binary old new p.number old.nets binary (nets_are old new (slice_set old.nets p.number None) p.new_is) (λ m. refl)
stays_binary free (Add w body) old new binary p = added_binary old w body new binary p
stays_binary free (Divide w by body) old new binary p = given_binary old new p.number p.same.old p.table binary p.new_is p.same.table
stays_binary free (Wire w) old new binary p = wired_binary old w new binary p
stays_binary free (Collapse w) old new binary p = collapsed_binary old w new binary p
stays_binary free (Narrow w d u body) old new binary p = given_binary old new p.number p.table (cover_said old.nets body) binary p.new_is p.table_is
stays_binary free (Fill w out) old new binary p = given_binary old new p.number p.table (with_default p.table out) binary p.new_is p.table_is
stays_binary free (Merge w gone into) old new binary p = merged_binary old w gone into new binary p
stays_binary free (Encode w names codes) old new binary p = encoded_binary old w names codes new binary p

pub replays_binary : (free : Bool) (rules : List Rule) (old new : NetParts) → AreBinary old.nets → Replays free rules old new → AreBinary new.nets
replays_binary free [] old new binary p = subst (λ (net : NetParts). AreBinary net.nets) (sym p) binary
replays_binary free (r ∷ rs) old new binary (mid, (applies, rest)) = replays_binary free rs mid new (stays_binary free r old mid binary applies) rest

pub ruleset staying = (stays_total, replays_total, stays_binary, replays_binary)
