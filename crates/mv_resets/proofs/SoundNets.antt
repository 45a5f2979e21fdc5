-- A lawful sound model has sound nets with a net for each reset value, and few of them if it is within the limits.
use Rattle.std.proofs.Common.{◌≡◌, ◌⊎◌, ℕ, ◌+◌, ◌≤◌, true, inl, inr, List, [], ◌∷◌, ◌++◌, length, map, refl, sym, ◌∙◌, ap, arith, ⊎_elim, All}
use Rattle.std.specs.List.{flat_map, list_any}
use Rattle.std.proofs.lemmas.Bool.{false≢true, and_parts, or_cases}
use Rattle.std.proofs.lemmas.List.{length-map}
use Rattle.mv_base.specs.Names.{among, is_net_name, names_differ}
use Rattle.mv_base.specs.declared.limits.TheConstants.{MAX_FLAT_NAME_BYTES}
use Rattle.mv_base.proofs.NameLemmas.{IsDistinct-from_differ}
use Rattle.mv_graph.specs.Above.{GoesOn, IsAcyclic}
use Rattle.mv_design.specs.declared.design.FileModel.{FileModel}
use Rattle.mv_design.specs.declared.table.FileTable.{FileTable}
use Rattle.mv_design.specs.Nets.{drivers, latch_outputs, nets_driven, nets_of}
use Rattle.mv_design.specs.Proper.{IsFileReset, IsLawful}
use Rattle.mv_acyclic.specs.Sound.{reads, reads_through, resets_named, HasResetsOfLatches, IsDrivenOnce, IsSoundModel, IsWithinLimits, StandsAlone}
use Rattle.mv_acyclic.proofs.Commands.{driver_is_net, read_is_net, reader_is_net}
use Rattle.mv_acyclic.proofs.Distinct.{apart_length, differ_counted, drivers_counted, few_drivers}
use Rattle.mv_acyclic.proofs.Names.{all_among, count_of_append}
use Rattle.mv_resets.specs.NetModels.{HasFewNets, HasSoundNets}
use Rattle.mv_resets.specs.Resets.{reset_name, reset_table, with_reset_nets}
use Rattle.mv_resets.proofs.Words.{Has, has, counted_once, lawful_among, named, not_counted, not_lawful, reset_times, times}
use Rattle.mv_resets.proofs.Nets.{among-drivers, any-tables, length-drivers, named_lawful, nets_either, not_driver}
use Rattle.mv_resets.proofs.Nets.{reset_is_state, resets_single, state_drives, times-drivers}

-- ---- each net is driven once

-- a net with a lawful name is driven as before
lawful_once : (m : FileModel) (w : List ℕ) → IsLawful m → IsDrivenOnce m → among w (nets_of m) ≡ true → times w (drivers (with_reset_nets m)) ≡ 1
lawful_once m w p d h =
    let e = times-drivers w m (resets_single m p) in
    let none = not_counted w (map reset_name (resets_named m)) (lawful_among w (resets_named m) (named_lawful w m p h)) in
    let one : times w (drivers m) ≡ 1 = d.once w h in
    omega arith

-- a reset net is driven by its table alone
reset_once : (m : FileModel) (v : List ℕ) → IsLawful m → HasResetsOfLatches m → among v (resets_named m) ≡ true
    → times (reset_name v) (drivers (with_reset_nets m)) ≡ 1
reset_once m v p resets h =
    let e = times-drivers (reset_name v) m (resets_single m p) in
    let one = reset_times v (resets_named m) ∙ counted_once v (resets_named m) resets.differ h in
    let none = not_counted (reset_name v) (drivers m) (not_driver v m p) in
    omega arith

each_once : (m : FileModel) → IsLawful m → IsSoundModel m → IsDrivenOnce (with_reset_nets m)
each_once m p s = record {
  once = λ w h. ⊎_elim (λ y. lawful_once m w p s.driven y)
      (λ y. let n = named w (resets_named m) y in ap (λ u. times u (drivers (with_reset_nets m))) n.is ∙ reset_once m n.latch p s.resets n.listed)
      (nets_either w m (resets_single m p) h);
}

-- ---- what is above what

reads_either : (m : FileModel) (net above : List ℕ) → reads (with_reset_nets m) net above ≡ true
    → (list_any (λ t. reads_through net above (reset_table t)) m.resets ≡ true) ⊎ (reads m net above ≡ true)
unfolding reads
reads_either m net above h = or_cases _ _ (sym (any-tables (reads_through net above) m) ∙ h)

-- what is read has a lawful name
read_lawful : (m : FileModel) (net above : List ℕ) → IsLawful m → reads (with_reset_nets m) net above ≡ true → is_net_name above ≡ true
read_lawful m net above p h =
    ⊎_elim
    (λ r.
    let t = has (IsFileReset m.decls) (λ (t : FileTable). reads_through net above (reset_table t)) m.resets p.resets r in
    all_among is_net_name t.item.inputs above t.holds.table.inputs ((and_parts _ _ t.passes).1))
    (λ y. named_lawful above m p (read_is_net m net above y))
    (reads_either m net above h)

-- a net with a lawful name reads what it read
read_kept : (m : FileModel) (net above : List ℕ) → IsLawful m → is_net_name net ≡ true → reads (with_reset_nets m) net above ≡ true
    → reads m net above ≡ true
read_kept m net above p lawful h =
    ⊎_elim
    (λ r.
    let t = has (IsFileReset m.decls) (λ (t : FileTable). reads_through net above (reset_table t)) m.resets p.resets r in
    absurd (false≢true (sym (lawful_among net t.item.outputs lawful) ∙ (and_parts _ _ t.passes).0)))
    (λ y. y)
    (reads_either m net above h)

goes_kept : (m : FileModel) (last net : List ℕ) (path : List (List ℕ)) → IsLawful m → is_net_name net ≡ true
    → GoesOn (reads (with_reset_nets m)) last net path → GoesOn (reads m) last net path
goes_kept m last net [] p lawful g = read_kept m net last p lawful g
goes_kept m last net (k ∷ path) p lawful g = (read_kept m net k p lawful g.0, goes_kept m last k path p (read_lawful m net k p g.0) g.1)

last_lawful : (m : FileModel) (last net : List ℕ) (path : List (List ℕ)) → IsLawful m → GoesOn (reads (with_reset_nets m)) last net path
    → is_net_name last ≡ true
last_lawful m last net [] p g = read_lawful m net last p g
last_lawful m last net (k ∷ path) p g = last_lawful m last k path p g.1

acyclic_nets : (m : FileModel) → IsLawful m → IsAcyclic (reads m) → IsAcyclic (reads (with_reset_nets m))
acyclic_nets m p a = record {
  none = λ w b. a.none w (record { path = b.path; goes = goes_kept m w w b.path p (last_lawful m w w b.path p b.goes) b.goes });
}

-- what a reset net reads is a column of a reset table, whose reset value no latch is above
reset_reads : (m : FileModel) (v above : List ℕ) → IsLawful m → All (StandsAlone m) m.resets → reads (with_reset_nets m) (reset_name v) above ≡ true
    → Has (StandsAlone m) (λ t. among above t.inputs)
reset_reads m v above p alone h =
    ⊎_elim
    (λ r.
    let t = has (StandsAlone m) (λ (t : FileTable). reads_through (reset_name v) above (reset_table t)) m.resets alone r in
    record { item = t.item; holds = t.holds; passes = (and_parts _ _ t.passes).1 })
    (λ y. absurd (not_lawful v (named_lawful (reset_name v) m p (reader_is_net m (reset_name v) above y))))
    (reads_either m (reset_name v) above h)

none_above : (m : FileModel) (latch v : List ℕ) (path : List (List ℕ)) → IsLawful m → All (StandsAlone m) m.resets
    → among latch (latch_outputs m) ≡ true → GoesOn (reads (with_reset_nets m)) latch (reset_name v) path → ⊥
none_above m latch v [] p alone listed g =
    let t = reset_reads m v latch p alone g in
    t.holds latch listed (record { column = latch; listed = t.passes; above = inl refl })
none_above m latch v (k ∷ path) p alone listed g =
    let t = reset_reads m v k p alone g.0 in
    t.holds latch listed (record {
      column = k;
      listed = t.passes;
      above = inr (record { path = path; goes = goes_kept m latch k path p (read_lawful m (reset_name v) k p g.0) g.1 });
    })

pub sound_nets : (m : FileModel) → IsLawful m → IsSoundModel m → HasSoundNets (with_reset_nets m)
unfolding with_reset_nets
sound_nets m p s = record {
  once = each_once m p s;
  acyclic = acyclic_nets m p s.acyclic;
  alone = λ latch v listed driven a. none_above m latch v a.path p s.alone listed a.goes;
}

-- ---- how many nets there are

-- each latch has its own output
pub latches_differ : (m : FileModel) → IsDrivenOnce m → names_differ (latch_outputs m) ≡ true
unfolding drivers
latches_differ m d =
    differ_counted (latch_outputs m)
    (λ w.
    let one = drivers_counted m d w in
    let all = count_of_append w m.inputs (latch_outputs m ++ flat_map nets_driven m.tables) in
    let some = count_of_append w (latch_outputs m) (flat_map nets_driven m.tables) in
    omega arith)

few_resets : (m : FileModel) → HasResetsOfLatches m → length (resets_named m) ≤ length (drivers m)
few_resets m r =
    apart_length (resets_named m) (drivers m) (IsDistinct-from_differ (resets_named m) r.differ).apart
    (λ w h. state_drives w m (reset_is_state w m r h))

-- the name of a net is short, and that of a reset net has a byte more
short_names : (m : FileModel) (w : List ℕ) → IsLawful m → IsSoundModel m → IsWithinLimits m → among w (drivers (with_reset_nets m)) ≡ true
    → length w ≤ MAX_FLAT_NAME_BYTES + 1
short_names m w p s l h =
    ⊎_elim
    (λ y.
    let n = named w (resets_named m) y in
    let short = l.short n.latch (driver_is_net m n.latch (state_drives n.latch m (reset_is_state n.latch m s.resets n.listed))) in
    let same : length w ≡ length (reset_name n.latch) = ap length n.is in
    let g : length w ≤ MAX_FLAT_NAME_BYTES + 1 = omega arith in
    g)
    (λ y. let short = l.short w (driver_is_net m w y) in let g : length w ≤ MAX_FLAT_NAME_BYTES + 1 = omega arith in g)
    (or_cases _ _ (sym (among-drivers w m (resets_single m p)) ∙ h))

pub few_nets : (m : FileModel) → IsLawful m → IsSoundModel m → IsWithinLimits m → HasFewNets (with_reset_nets m)
few_nets m p s l =
    let e = length-drivers m (resets_single m p) in
    let same : length (map reset_name (resets_named m)) ≡ length (resets_named m) = length-map (resets_named m) reset_name in
    let resets = few_resets m s.resets in
    let nets = few_drivers m s.driven in
    let few = l.few in
    record { few = omega arith; short = λ w h. short_names m w p s l h }
