-- No net of a model's network is above itself: the nets of a table have ranks above those of its columns, one above the other.
use Rattle.std.proofs.Common.{◌≡◌, ℕ, zero, suc, ◌+◌, ◌*◌, ◌<◌, ◌≤◌, true, false, List, [], ◌∷◌, Some, refl, sym, ◌∙◌, ap, arith, ⊎_elim}
use Rattle.std.specs.Prelude.{max}
use Rattle.std.specs.List.{slice_get}
use Rattle.std.proofs.lemmas.Bool.{false≢true, cases_Bool, cond-true, cond-false, or_cases}
use Rattle.mv_base.specs.Names.{same_word, among}
use Rattle.mv_base.proofs.NameLemmas.{same_word_is}
use Rattle.mv_design.specs.declared.design.FileModel.{FileModel}
use Rattle.mv_design.specs.declared.table.FileTable.{FileTable}
use Rattle.mv_design.specs.Nets.{output_of}
use Rattle.mv_net.specs.declared.parts.NetParts.{NetParts}
use Rattle.mv_net.specs.Nets.{reads_in}
use Rattle.mv_graph.specs.Above.{IsAcyclic}
use Rattle.mv_graph.proofs.Ranks.{IsRanked, ranked_acyclic}
use Rattle.mv_acyclic.proofs.Turns.{not_unranked_model}
use Rattle.mv_acyclic.specs.Sound.{reads}
use Rattle.mv_resets.specs.NetModels.{HasSoundNets}
use Rattle.mv_flat.proofs.Places.{IsModelNet}
use Rattle.mv_flat.proofs.Naming.{among_first, among_later, table_input_named, table_output_named}
use Rattle.mv_flat.proofs.ByNumber.{of_number, at_net, at_mark, at_choice}
use Rattle.mv_flat.proofs.Drivers.{of_driver, driver_at, tables_apart, first_output}
use Rattle.mv_flat.proofs.FormedReads.{StandsIn, ReadsColumn, ReadsMade, reads_by_table, reads_column}

-- ---- levels

-- the least number above the ranks of these nets
abbrev above_all : (List ℕ → ℕ) → List (List ℕ) → ℕ
above_all rank [] = 0
above_all rank (w ∷ ws) = max (rank w + 1) (above_all rank ws)

above_each : (rank : List ℕ → ℕ) (ws : List (List ℕ)) (w : List ℕ) → among w ws ≡ true → rank w + 1 ≤ above_all rank ws
above_each rank [] w h = absurd (false≢true h)
above_each rank (u ∷ us) w h =
    ⊎_elim (λ (y : same_word w u ≡ true). let e : rank w ≡ rank u = ap rank (same_word_is w u y) in omega arith)
    (λ (y : among w us ≡ true). let r = above_each rank us w y in omega arith)
    (or_cases (same_word w u) (among w us) h)

above_least : (rank : List ℕ → ℕ) (ws : List (List ℕ)) (n : ℕ) → ((w : List ℕ) → among w ws ≡ true → rank w < n) → above_all rank ws ≤ n
above_least rank [] n low = omega arith
above_least rank (w ∷ ws) n low =
    let here = low w (among_first w ws) in
    let rest = above_least rank ws n (λ u y. low u (among_later u w ws y)) in
    omega arith

-- the level of a table: above the ranks of its columns
abbrev table_level : (List ℕ → ℕ) → FileTable → ℕ
table_level rank t = above_all rank t.inputs

-- the level of a net is that of the table that drives it
abbrev level : (List ℕ → ℕ) → List FileTable → List ℕ → ℕ
level rank ts w = of_driver (table_level rank) 0 ts w

-- where ranks fall from the outputs of these tables to their columns
abbrev Falls : (List ℕ → ℕ) → List FileTable → Type 0
Falls rank ts = (k : ℕ) (t : FileTable) (w u : List ℕ) → slice_get ts k ≡ Some t → among w t.outputs ≡ true → among u t.inputs ≡ true → rank u < rank w

-- a net's level isn't above its rank
level_low : (rank : List ℕ → ℕ) (ts : List FileTable) (w : List ℕ) → Falls rank ts → level rank ts w ≤ rank w
level_low rank [] w falls = omega arith
level_low rank (t ∷ ts) w falls =
    ⊎_elim
    (λ (y : among w t.outputs ≡ true).
    let e = cond-true (among w t.outputs) (table_level rank t) (level rank ts w) y in
    let l = above_least rank t.inputs (rank w) (λ u h. falls 0 t w u refl y h) in
    omega arith)
    (λ (y : among w t.outputs ≡ false).
    let e = cond-false (among w t.outputs) (table_level rank t) (level rank ts w) y in
    let l = level_low rank ts w (λ k. falls (suc k)) in
    omega arith)
    (cases_Bool (among w t.outputs))

-- ---- ranks by number

-- the rank of a net of a table by its level and how high it stands above the columns
abbrev rank_at : (List ℕ → ℕ) → List FileTable → ℕ → List ℕ → ℕ
rank_at rank ts height w = 3 * level rank ts w + height

abbrev rank_by_number : FileModel → (List ℕ → ℕ) → ℕ → ℕ
rank_by_number m rank = of_number m (rank_at rank m.tables 2) (rank_at rank m.tables 0) (rank_at rank m.tables 1)

module _ (m : FileModel) (net : NetParts) (is : IsModelNet m net) (r : IsRanked (reads m)) where
  abbrev by_number : ℕ → ℕ
  by_number = rank_by_number m r.rank

  level_is : (k : ℕ) (t : FileTable) (w : List ℕ) → slice_get m.tables k ≡ Some t → among w t.outputs ≡ true
      → level r.rank m.tables w ≡ table_level r.rank t
  level_is k t w e h = driver_at (table_level r.rank) 0 m.tables k t w (tables_apart m net is) e h

  -- the rank of each net of a table
  rank_in : (k : ℕ) (t : FileTable) → slice_get m.tables k ≡ Some t → (height n : ℕ) → StandsIn m t height n
      → by_number n ≡ 3 * table_level r.rank t + height
  rank_in k t e zero n s =
      ap by_number s.1
      ∙ (at_mark m net is (rank_at r.rank m.tables 2) (rank_at r.rank m.tables 0) (rank_at r.rank m.tables 1) k t e s.0
      ∙ ap (λ l. 3 * l + 0) (level_is k t (output_of t) e (first_output m net is k t e)))
  rank_in k t e (suc zero) n s =
      ap by_number s.1
      ∙ (at_choice m net is (rank_at r.rank m.tables 2) (rank_at r.rank m.tables 0) (rank_at r.rank m.tables 1) k t e s.0
      ∙ ap (λ l. 3 * l + 1) (level_is k t (output_of t) e (first_output m net is k t e)))
  rank_in k t e (suc (suc zero)) n s =
      ap by_number (sym s.number)
      ∙ (at_net m net is (rank_at r.rank m.tables 2) (rank_at r.rank m.tables 0) (rank_at r.rank m.tables 1) s.name (table_output_named m k t s.name e s.listed)
      ∙ ap (λ l. 3 * l + 2) (level_is k t s.name e s.listed))
  rank_in k t e (suc (suc (suc h))) n s = absurd s

  column_falls : (n k : ℕ) → ReadsColumn m n k → by_number k < by_number n
  column_falls n k c =
      let read = table_input_named m c.place c.table c.column.name c.listed c.column.listed in
      let column =
      ap by_number (sym c.column.number)
      ∙ at_net m net is (rank_at r.rank m.tables 2) (rank_at r.rank m.tables 0) (rank_at r.rank m.tables 1) c.column.name read in
      let low : level r.rank m.tables c.column.name ≤ r.rank c.column.name =
      level_low r.rank m.tables c.column.name (λ j t w u e h y. r.falls w u (reads_column m j t w u e h y)) in
      let high : r.rank c.column.name + 1 ≤ table_level r.rank c.table = above_each r.rank c.table.inputs c.column.name c.column.listed in
      let reader = rank_in c.place c.table c.listed c.height n c.reader in
      omega arith

  made_falls : (n k : ℕ) → ReadsMade m n k → by_number k < by_number n
  made_falls n k c =
      let reader = rank_in c.place c.table c.listed c.upper n c.reader in
      let made = rank_in c.place c.table c.listed c.lower k c.made in
      let lies = c.lies in
      omega arith

  ranks : IsRanked (reads_in net.nets)
  ranks = record {
    rank = by_number;
    falls = λ n k h.
        ⊎_elim (λ (c : ReadsColumn m n k). column_falls n k c) (λ (c : ReadsMade m n k). made_falls n k c) (reads_by_table m net is n k h);
  }

pub acyclic_nets : (m : FileModel) (net : NetParts) → IsModelNet m net → HasSoundNets m → IsAcyclic (reads_in net.nets)
acyclic_nets m net is sound = record {
  none = λ n a. not_unranked_model m sound.once sound.acyclic (λ r. (ranked_acyclic (reads_in net.nets) (ranks m net is r)).none n a);
}
