-- A network in which the values of a net are encoded: nets of two values, one for each bit of the
-- codes, stand for the net.
use Rattle.std.specs.Prelude.{◌≡◌, ℕ, ◌+◌, ◌≤◌, true, Option, Some, None, List, [], ◌∷◌, ◌++◌, length, map, slice_set}
use Rattle.std.specs.List.{list_all}
use Rattle.mv_base.specs.Names.{is_net_name, among, names_differ}
use Rattle.mv_base.specs.declared.limits.TheConstants.{MAX_NETS}
use Rattle.mv_codes.specs.Codes.{AreCodes}
use Rattle.mv_codes.specs.Wide.{IsTooWide}
use Rattle.mv_codes.specs.Tables.{coding_of, reader_coded, bit_table}
use Rattle.mv_cover.specs.declared.cover.Cover.{Cover}
use Rattle.mv_entry.specs.declared.rule.Code.{Code}
use Rattle.mv_meaning.specs.Rewriting.{rewritten, IsReader}
use Rattle.mv_net.specs.declared.change.NewNet.{NewNet}
use Rattle.mv_net.specs.declared.parts.FlatNet.{FlatNet}
use Rattle.mv_net.specs.declared.parts.NetParts.{NetParts}
use Rattle.mv_net.specs.Changes.{made_net, with_nets}
use Rattle.mv_net.specs.Index.{HasName}
use Rattle.mv_net.specs.Nets.{slot, values_in, table_in}
use Rattle.mv_net.specs.Plain.{IsPlainNet}

-- the net of the bit at place k of the codes, with this name, where the net that goes has the table
-- c
abbrev pub bit_net : List Code → Cover → ℕ → List ℕ → NewNet
bit_net codes c k name = record { name = name; values = 2; table = bit_table codes k c }

-- those of the bits from place k on, one for each name
abbrev pub bit_nets_from : List Code → Cover → ℕ → List (List ℕ) → List NewNet
bit_nets_from codes c k [] = []
bit_nets_from codes c k (w ∷ ws) = bit_net codes c k w ∷ bit_nets_from codes c (k + 1) ws

-- those of all bits, if the net that goes has a table
abbrev pub bit_nets : List Code → Option Cover → List (List ℕ) → List NewNet
bit_nets codes None names = []
bit_nets codes (Some c) names = bit_nets_from codes c 0 names

-- the nets without the one at n, of which those that read it ask the bits, and behind them the nets
-- of the bits
unfoldable pub nets_coded : List Code → List (List ℕ) → ℕ → List (Option FlatNet)
    → List (Option FlatNet)
nets_coded codes names n nets =
    slice_set (rewritten (reader_coded (coding_of n (length nets) codes)) n nets) n None
    ++ map made_net (bit_nets codes (table_in (slot nets n)) names)

-- the network behind it, where the nets of the bits have these names
unfoldable pub net_coded : NetParts → ℕ → List (List ℕ) → List Code → NetParts
net_coded net n names codes = with_nets net (nets_coded codes names n net.nets)

-- names for nets that come: each is lawful, none is a net's, and no two are equal
pub record AreFresh (nets : List (Option FlatNet)) (names : List (List ℕ)) : Type 0 where
  pub lawful : list_all is_net_name names ≡ true
  pub free : (w : List ℕ) (n : ℕ) → among w names ≡ true → HasName nets n w → ⊥
  pub differ : names_differ names ≡ true

-- the values of the net can be encoded so: its table is plainly deterministic, the codes are such
-- for its values, with a bit for each name, the names can be those of nets, and there are numbers
-- for them
pub record IsEncodable (net : NetParts) (n : ℕ) (names : List (List ℕ)) (codes : List Code)
    : Type 0 where
  pub plain : IsPlainNet net.nets n
  pub form : AreCodes (values_in (slot net.nets n)) (length names) codes
  pub fresh : AreFresh net.nets names
  pub room : length net.nets + length names ≤ MAX_NETS

-- no table that a reader of the net gets is too wide
pub record HasNarrowReaders (nets : List (Option FlatNet)) (n : ℕ) (codes : List Code)
    : Type 0 where
  pub each : (m : ℕ) (c : Cover) → IsReader nets n m c
      → IsTooWide (reader_coded (coding_of n (length nets) codes) c) → ⊥
