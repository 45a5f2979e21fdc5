-- The values of a net as a file spells them.
use Rattle.std.proofs.Common.{◌≡◌, ℕ, ◌≤◌, ◌<◌, ◌^◌, true, List, [], ◌∷◌, length, Some, arith}
use Rattle.std.specs.List.{list_all}
use Rattle.mv_base.specs.Names.{is_value_name, names_differ}
use Rattle.mv_base.specs.declared.limits.TheConstants.{MAX_VALUES}
use Rattle.mv_decl.proofs.Numbers.{numbers_size}
use Rattle.mv_net.specs.declared.parts.FlatNet.{FlatNet}
use Rattle.mv_net.specs.declared.parts.NetParts.{NetParts}
use Rattle.mv_net.specs.Nets.{slot, spelled_values}
use Rattle.mv_net.specs.Formed.{IsNamed, WellFormed}
use Rattle.mv_decl.proofs.Decimals.{numbers-lawful, numbers-differ}

-- as many names as values, all lawful and all different
pub record AreSpelled (values : ℕ) (names : List (List ℕ)) : Type 0 where
  pub count : length names ≡ values
  pub lawful : list_all is_value_name names ≡ true
  pub differ : names_differ names ≡ true

-- names of values, or where there are none the numbers from 0
pub spelled-named : (values : ℕ) (names : List (List ℕ)) → values ≤ MAX_VALUES → IsNamed values names → AreSpelled values (spelled_values values names)
spelled-named values [] few h =
    let small : values < 2 ^ 64 = omega arith in
    record {
      count = numbers_size values;
      lawful = numbers-lawful values small;
      differ = numbers-differ values small;
    }
spelled-named values (w ∷ ws) few h = record {
  count = h.each (omega arith);
  lawful = h.lawful;
  differ = h.differ;
}

-- the values of a net of a well-formed network
pub spelled-held : (net : NetParts) → WellFormed net → (n : ℕ) (f : FlatNet) → slot net.nets n ≡ Some f → AreSpelled f.values (spelled_values f.values f.value_names)
spelled-held net h n f held =
    let is = h.nets n f held in
    spelled-named f.values f.value_names is.few is.named
