-- The tables that the lines of a network say allow by name what the network's tables allow by number.
use Rattle.std.proofs.Common.{◌≡◌, ◌∙◌, ℕ, ◌≤◌, Bool, true, false, not, ◌&&◌, ◌||◌, List, [], ◌∷◌, length, map, Some, refl, ap}
use Rattle.std.specs.Prelude.{filter}
use Rattle.std.specs.List.{list_all, range_with_len}
use Rattle.std.proofs.lemmas.Bool.{cond_both}
use Rattle.mv_base.specs.Set.{has, one}
use Rattle.mv_cover.specs.declared.cover.Cover.{Cover}
use Rattle.mv_cover.specs.Covers.{allowed, cover_reads}
use Rattle.mv_design.specs.Meaning.{table_holds}
use Rattle.mv_design.specs.Tables.{table_allows}
use Rattle.mv_net.specs.declared.parts.FlatNet.{FlatNet}
use Rattle.mv_net.specs.declared.parts.NetParts.{NetParts}
use Rattle.mv_net.specs.Nets.{slot, name_in, values_in}
use Rattle.mv_net.specs.Formed.{IsReadable, WellFormed}
use Rattle.mv_net.proofs.Known.{lines_readable}
use Rattle.mv_text.specs.Text.{fanins_of}
use Rattle.mv_chosen.specs.Binary.{binary_choice}
use Rattle.mv_chosen.specs.Written.{constant}
use Rattle.mv_blif_line.specs.Latches.{constant_reset}
use Rattle.mv_blif_text.specs.BlifText.{choice_words}
use Rattle.mv_blif_back.specs.Rows.{rows_say, is_low}
use Rattle.mv_blif_back.specs.Model.{gate_said}
use Rattle.mv_blif_back.specs.Alike.{AreAlike}
use Rattle.mv_blif_back.proofs.Picks.{filter-pass}
use Rattle.mv_blif_back.proofs.Choice.{choice-allows, cover-fits}

-- the values of picked numbers by name
named_values : (value : List ℕ → ℕ) (name : ℕ → List ℕ) (at : ℕ → ℕ) (p : ℕ → Bool) (ms : List ℕ) → ((m : ℕ) → p m ≡ true → value (name m) ≡ at m)
    → map value (map name (filter p ms)) ≡ map at (filter p ms)
named_values value name at p [] same = refl
named_values value name at p (m ∷ ms) same =
    let rest = named_values value name at p ms same in
    cond_both (p m) (m ∷ filter p ms) (filter p ms) (λ ks. map value (map name ks) ≡ map at ks) (λ y. rw (same m y, rest) refl) (λ n. rest)

-- the table of a net's cover
pub gate-holds : (net : NetParts) (n line : ℕ) (f : FlatNet) (c : Cover) (value : List ℕ → ℕ) (at : ℕ → ℕ) → WellFormed net → ((m : ℕ) → values_in (slot net.nets m) ≤ 2) → slot net.nets n ≡ Some f → f.table ≡ Some c → AreAlike net value at
    → table_holds value (gate_said net.nets line f.name (fanins_of (length net.nets) c) c) ≡ allowed (binary_choice c) at (value f.name)
gate-holds net n line f c value at formed few held table alike =
    let fanins = fanins_of (length net.nets) c in
    let readable : (m : ℕ) → cover_reads c m ≡ true → IsReadable net.nets m = λ m y. lines_readable net.nets f.values c.lines m ((formed.nets n f held).cover c table).lines y in
    let low : list_all (is_low at) fanins ≡ true = filter-pass (λ m. cover_reads c m) (is_low at) (range_with_len 0 (length net.nets)) (λ m y. alike.low m (readable m y)) in
    let same : map value (map (λ m. name_in (slot net.nets m)) fanins) ≡ map at fanins = named_values value (λ m. name_in (slot net.nets m)) at (λ m. cover_reads c m) (range_with_len 0 (length net.nets)) (λ m y. alike.same m (readable m y)) in
    ap (λ vs. rows_say (choice_words fanins c) vs (value f.name)) same ∙ choice-allows at fanins low (value f.name) c (cover-fits net n f c formed few held table)

-- the reset table of a latch that begins with a value
pub reset-holds : (line v r : ℕ) (net : List ℕ) (at : ℕ → ℕ) → table_allows (constant_reset line net v).rows (constant_reset line net v).default [] (r ∷ []) ≡ allowed (constant v) at r
unfolding table_allows allowed
reset-holds line v r net at = by (has (one v) r)
  where
    by : (h : Bool) → (((true && (h && true)) || false) || (not (true || false) && false)) ≡ (false || (not false && h))
    by true = refl
    by false = refl
