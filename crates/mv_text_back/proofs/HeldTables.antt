-- The tables and the reset tables of a well-formed network can be said.
use Rattle.std.proofs.Common.{◌≡◌, ◌∙◌, ℕ, zero, suc, ◌+◌, ◌<◌, Bool, true, false, List, length, filter, sym, ap, subst, ⊎_elim, arith}
use Rattle.std.specs.Prelude.{Option, Some}
use Rattle.std.specs.List.{AllByRecursion, range_with_len}
use Rattle.std.proofs.lemmas.Bool.{cases_Bool}
use Rattle.std.proofs.lemmas.List.Folds.{list_all-map}
use Rattle.mv_base.specs.Names.{is_net_name}
use Rattle.mv_design.specs.declared.design.Decl.{Decl}
use Rattle.mv_cover.specs.declared.cover.Cover.{Cover}
use Rattle.mv_cover.specs.Covers.{cover_reads}
use Rattle.mv_net.specs.declared.parts.FlatNet.{FlatNet}
use Rattle.mv_net.specs.declared.parts.NetParts.{NetParts}
use Rattle.mv_net.specs.Nets.{slot, name_in, values_in, spelled_in, spelled_values, table_reads, net_reads}
use Rattle.mv_net.specs.Formed.{IsReadable, WellFormed}
use Rattle.mv_net.proofs.Known.{reads_readable, are_named}
use Rattle.mv_text.specs.Text.{fanins_of, told_name}
use Rattle.mv_text_back.proofs.Passes.{picked-pass}
use Rattle.mv_text_back.proofs.Spelled.{spelled-held}
use Rattle.mv_text_back.proofs.Resets.{readable-other, readable-lawful, net_told, net_told-lawful}
use Rattle.mv_text_back.proofs.Lookups.{declared, values-declared}
use Rattle.mv_text_back.proofs.Rows.{IsColumn, IsFanin}
use Rattle.mv_text_back.proofs.TableText.{IsTableNet}

-- what holds of the numbers that pass a test
picked : (p : ℕ → Bool) (P : ℕ → Type 0) (a k : ℕ) → ((m : ℕ) → p m ≡ true → P m) → AllByRecursion P (filter p (range_with_len a k))
picked p P a zero h = tt
picked p P a (suc k) h =
    ⊎_elim
    (λ (y : p a ≡ true). rw y (h a y, picked p P (a + 1) k h))
    (λ (n : p a ≡ false). rw n (picked p P (a + 1) k h))
    (cases_Bool (p a))

same_column : (ds : List Decl) (name other : List ℕ) (values count : ℕ) (names words : List (List ℕ)) → name ≡ other → values ≡ count → names ≡ words
    → IsColumn ds other count (spelled_values count words) → IsColumn ds name values (spelled_values values names)
same_column ds name other values count names words a b c column = rw (a, b, c) column

module _ (net : NetParts) (formed : WellFormed net) where
  -- a net that can be read is found by its name, and spelled
  pub readable-column : (n : ℕ) (r : IsReadable net.nets n)
      → IsColumn (declared net.nets) r.net.name r.net.values (spelled_values r.net.values r.net.value_names)
  readable-column n r = record {
    found = values-declared net.nets n r.net (are_named net formed) r.held (readable-other net.nets n r);
    spelled = spelled-held net formed n r.net r.held;
  }

  fanin : (m : ℕ) → IsReadable net.nets m → IsFanin net.nets (declared net.nets) m
  fanin m r =
      let P : Option FlatNet → Type 0 = λ o. IsColumn (declared net.nets) (name_in o) (values_in o) (spelled_in o) in
      record {
        column = subst P (sym r.held) (readable-column m r);
        some = subst (λ (o : Option FlatNet). 0 < values_in o) (sym r.held) (formed.nets m r.net r.held).some;
      }

  -- the output of a net's table is found by the name behind the arrow
  output : (n : ℕ) (f : FlatNet) → slot net.nets n ≡ Some f → IsColumn (declared net.nets) (told_name (Some f)) f.values (spelled_values f.values f.value_names)
  output n f held =
      let t = net_told net formed n f held in
      same_column (declared net.nets) _ _ _ _ _ _ t.name t.values t.value_names (readable-column t.number t.driven)

  pub table-net : (n : ℕ) (f : FlatNet) → slot net.nets n ≡ Some f → (c : Cover) → f.table ≡ Some c → IsTableNet net.nets (declared net.nets) f c
  table-net n f held c e =
      let reads : (m : ℕ) → cover_reads c m ≡ true → IsReadable net.nets m = λ m y. reads_readable net n m formed (ap (λ o. net_reads o m) held ∙ (ap (λ t. table_reads t m) e ∙ y)) in
      let is = formed.nets n f held in
      let cover = is.cover c e in
      record {
        fanins = picked (λ m. cover_reads c m) (λ m. IsFanin net.nets (declared net.nets) m) 0 (length net.nets) (λ m y. fanin m (reads m y));
        output = output n f held;
        lines = cover.lines;
        default = cover.default;
        lawful = list_all-map is_net_name (λ m. name_in (slot net.nets m)) (fanins_of (length net.nets) c)
            ∙ picked-pass (λ m. cover_reads c m) (λ m. is_net_name (name_in (slot net.nets m))) 0 (length net.nets) (length net.nets) (omega arith) (λ m low y. readable-lawful net formed m (reads m y));
        own = net_told-lawful net formed n f held;
      }
