-- No latch of a model's network is above a reset net: what is above by number is above by name, where a net that is made
-- stands for the outputs of its table.
use Rattle.std.proofs.Common.{◌≡◌, ◌⊎◌, ℕ, zero, suc, true, false, List, [], ◌∷◌, Some, refl, sym, ◌∙◌, ap, subst, ⊎_elim, inl, inr}
use Rattle.std.specs.List.{slice_get}
use Rattle.std.proofs.lemmas.Bool.{false≢true, cases_Bool, cond-true, cond-false, or_cases}
use Rattle.mv_base.specs.Names.{same_word, among, is_net_name}
use Rattle.mv_base.proofs.NameLemmas.{same_word_is}
use Rattle.mv_design.specs.declared.design.FileModel.{FileModel}
use Rattle.mv_design.specs.declared.table.FileTable.{FileTable}
use Rattle.mv_design.specs.Nets.{drivers, latch_outputs, nets_named, output_of}
use Rattle.mv_graph.specs.Above.{GoesOn, IsAbove}
use Rattle.mv_net.specs.declared.parts.NetParts.{NetParts}
use Rattle.mv_net.specs.declared.parts.Kind.TheVariants.{Latch, Reset}
use Rattle.mv_net.specs.Nets.{reads_in}
use Rattle.mv_net.specs.Formed.{IsKind, ResetsStandAlone}
use Rattle.mv_resets.specs.NetModels.{HasSoundNets}
use Rattle.mv_resets.proofs.Words.{not_lawful}
use Rattle.mv_acyclic.specs.Numbers.{number_in}
use Rattle.mv_acyclic.specs.Sound.{reads}
use Rattle.mv_flat.specs.Places.{net_places}
use Rattle.mv_flat.proofs.Lawful.{kind_open, kind_reset, open_lawful}
use Rattle.mv_flat.proofs.Places.{IsModelNet}
use Rattle.mv_flat.proofs.Naming.{among_first, driver_named, open_named, table_input_named, table_output_named}
use Rattle.mv_flat.proofs.ByNumber.{of_number, at_net, at_mark, at_choice}
use Rattle.mv_flat.proofs.Drivers.{of_driver, driver_at, no_driver, tables_apart, open_undriven, first_output}
use Rattle.mv_flat.proofs.FormedReads.{StandsIn, ReadsColumn, ReadsMade, reads_by_table, reads_column}
use Rattle.mv_flat.proofs.FormedLists.{open_only, reset_output}

-- ---- the nets of the model to which a net by number belongs

-- all outputs of the table that drives a net, or the net alone where none does
abbrev beside : List FileTable → List ℕ → List (List ℕ)
beside ts w = of_driver (λ t. t.outputs) (w ∷ []) ts w

-- a net is one of those
beside_itself : (ts : List FileTable) (w : List ℕ) → among w (beside ts w) ≡ true
beside_itself ts w = from ts
  where
    from : (us : List FileTable) → among w (of_driver (λ t. t.outputs) (w ∷ []) us w) ≡ true
    from [] = among_first w []
    from (u ∷ us) =
        let rest : List (List ℕ) = of_driver (λ t. t.outputs) (w ∷ []) us w in
        ⊎_elim (λ (y : among w u.outputs ≡ true). ap (among w) (cond-true (among w u.outputs) u.outputs rest y) ∙ y)
        (λ (n : among w u.outputs ≡ false). ap (among w) (cond-false (among w u.outputs) u.outputs rest n) ∙ from us)
        (cases_Bool (among w u.outputs))

-- of a net by number: a made net belongs to the outputs of its table
abbrev owners : FileModel → ℕ → List (List ℕ)
owners m = of_number m (beside m.tables) (beside m.tables) (beside m.tables)

only_one : (w u : List ℕ) → among w (u ∷ []) ≡ true → w ≡ u
only_one w u h = ⊎_elim (λ (y : same_word w u ≡ true). same_word_is w u y) (λ (n : false ≡ true). absurd (false≢true n)) (or_cases (same_word w u) false h)

module _ (m : FileModel) (net : NetParts) (is : IsModelNet m net) where
  net_owners : (w : List ℕ) → among w (nets_named m) ≡ true → owners m (number_in (net_places m) w) ≡ beside m.tables w
  net_owners w h = at_net m net is (beside m.tables) (beside m.tables) (beside m.tables) w h

  beside_is : (k : ℕ) (t : FileTable) (w : List ℕ) → slice_get m.tables k ≡ Some t → among w t.outputs ≡ true → beside m.tables w ≡ t.outputs
  beside_is k t w e h = driver_at (λ u. u.outputs) (w ∷ []) m.tables k t w (tables_apart m net is) e h

  -- a net of a table belongs to the table's outputs
  table_owners : (k : ℕ) (t : FileTable) → slice_get m.tables k ≡ Some t → (height n : ℕ) → StandsIn m t height n → owners m n ≡ t.outputs
  table_owners k t e zero n s =
      ap (owners m) s.1
      ∙ (at_mark m net is (beside m.tables) (beside m.tables) (beside m.tables) k t e s.0 ∙ beside_is k t (output_of t) e (first_output m net is k t e))
  table_owners k t e (suc zero) n s =
      ap (owners m) s.1
      ∙ (at_choice m net is (beside m.tables) (beside m.tables) (beside m.tables) k t e s.0 ∙ beside_is k t (output_of t) e (first_output m net is k t e))
  table_owners k t e (suc (suc zero)) n s =
      ap (owners m) (sym s.number) ∙ (net_owners s.name (table_output_named m k t s.name e s.listed) ∙ beside_is k t s.name e s.listed)
  table_owners k t e (suc (suc (suc h))) n s = absurd s

  -- ---- what is above by number is so by name

  -- each net to which n belongs is this one, or below it
  abbrev IsFrom : List ℕ → ℕ → Type 0
  IsFrom last n = (w : List ℕ) → among w (owners m n) ≡ true → (last ≡ w) ⊎ IsAbove (reads m) last w

  joined : (last u w : List ℕ) → reads m w u ≡ true → (last ≡ u) ⊎ IsAbove (reads m) last u → IsAbove (reads m) last w
  joined last u w step from =
      ⊎_elim (λ (e : last ≡ u). record { path = []; goes = ap (reads m w) e ∙ step })
      (λ (a : IsAbove (reads m) last u). record { path = u ∷ a.path; goes = (step, a.goes) })
      from

  column_step : (last : List ℕ) (n j : ℕ) → ReadsColumn m n j → IsFrom last j → IsFrom last n
  column_step last n j c from w h =
      let u : List ℕ = c.column.name in
      let read = table_input_named m c.place c.table u c.listed c.column.listed in
      let column : owners m j ≡ beside m.tables u = ap (owners m) (sym c.column.number) ∙ net_owners u read in
      let output : among w c.table.outputs ≡ true = ap (among w) (sym (table_owners c.place c.table c.listed c.height n c.reader)) ∙ h in
      inr
      (joined last u w (reads_column m c.place c.table w u c.listed output c.column.listed)
      (from u (ap (among u) column ∙ beside_itself m.tables u)))

  made_step : (last : List ℕ) (n j : ℕ) → ReadsMade m n j → IsFrom last j → IsFrom last n
  made_step last n j c from w h =
      from w
      (ap (among w) (table_owners c.place c.table c.listed c.lower j c.made ∙ sym (table_owners c.place c.table c.listed c.upper n c.reader)) ∙ h)

  from_step : (last : List ℕ) (n j : ℕ) → reads_in net.nets n j ≡ true → IsFrom last j → IsFrom last n
  from_step last n j h from =
      ⊎_elim (λ (c : ReadsColumn m n j). column_step last n j c from) (λ (c : ReadsMade m n j). made_step last n j c from) (reads_by_table m net is n j h)

  along : (last : List ℕ) (l n : ℕ) (path : List ℕ) → IsFrom last l → GoesOn (reads_in net.nets) l n path → IsFrom last n
  along last l n [] start g = from_step last n l g start
  along last l n (j ∷ path) start g = from_step last n j g.0 (along last l j path start g.1)

  -- a net without a table belongs to itself alone
  open_from : (w : List ℕ) (n : ℕ) → among w (latch_outputs m) ≡ true → number_in (net_places m) w ≡ n → IsFrom w n
  open_from w n h e u y =
      let alone : beside m.tables w ≡ w ∷ [] = no_driver (λ t. t.outputs) (w ∷ []) m.tables w (open_undriven m net is w (kind_open m Latch w h)) in
      let own : owners m n ≡ w ∷ [] = ap (owners m) (sym e) ∙ (net_owners w (open_named m Latch w h) ∙ alone) in
      inl (sym (only_one u w (ap (among u) (sym own) ∙ y)))

  apart : HasSoundNets m → (n j : ℕ) → IsKind net.nets n Latch → IsKind net.nets j Reset → IsAbove (reads_in net.nets) n j → ⊥
  apart sound n j latch reset above =
      let c = open_only m net is Latch refl n latch in
      let o = reset_output m net is j reset in
      let r = kind_reset o.name o.is in
      let driven = ap (λ w. among w (drivers m)) (sym r.is) ∙ o.driven in
      let own : owners m j ≡ beside m.tables o.name = ap (owners m) (sym o.number) ∙ net_owners o.name (driver_named m o.name o.driven) in
      let lawful = open_lawful m is.proper c.name (kind_open m Latch c.name c.listed) in
      ⊎_elim (λ (e : c.name ≡ o.name). not_lawful r.latch (ap is_net_name (sym (e ∙ r.is)) ∙ lawful))
      (λ (a : IsAbove (reads m) c.name o.name).
      let P : List ℕ → Type 0 = IsAbove (reads m) c.name in
      sound.alone c.name r.latch c.listed driven (subst P r.is a))
      (along c.name n j above.path (open_from c.name n c.listed c.number) above.goes o.name (ap (among o.name) own ∙ beside_itself m.tables o.name))

pub resets_alone : (m : FileModel) (net : NetParts) → IsModelNet m net → HasSoundNets m → ResetsStandAlone net.nets
resets_alone m net is sound = record { none = λ n j latch reset above. apart m net is sound n j latch reset above }
