-- The nets that a model names: the nets of its latches, and the columns of its tables. Their names are those of nets.
use Rattle.std.proofs.Common.{◌≡◌, ℕ, zero, suc, ◌<◌, Bool, true, List, [], ◌∷◌, length, map, Some, refl, sym, ◌∙◌, ap, arith, ⊎_elim}
use Rattle.std.specs.Prelude.{nat_eq, slice_index_or}
use Rattle.std.specs.List.{flat_map, list_all, list_any, slice_get}
use Rattle.std.proofs.lemmas.Bool.{false≢true, and_from, eq-eqb, eqb-true, or_cases, or_left, or_right}
use Rattle.std.proofs.lemmas.Option.{none-some, same_Some}
use Rattle.std.proofs.lemmas.Simd.{map-map}
use Rattle.mv_base.specs.Names.{same_word, among}
use Rattle.mv_base.specs.declared.number.NetId.{NetId}
use Rattle.mv_base.proofs.NameLemmas.{same_word_is, same_word_refl}
use Rattle.mv_design.specs.declared.design.FileLatch.{FileLatch}
use Rattle.mv_design.specs.declared.design.FileModel.{FileModel}
use Rattle.mv_design.specs.declared.table.FileTable.{FileTable}
use Rattle.mv_net.specs.declared.parts.FlatLatch.{FlatLatch}
use Rattle.mv_net.specs.declared.parts.Kind.{Kind}
use Rattle.mv_net.specs.declared.parts.NetParts.{NetParts}
use Rattle.mv_design.specs.Nets.{columns_of, drivers, nets_driven, nets_named, output_of}
use Rattle.mv_acyclic.specs.Numbers.{net_in, number_in}
use Rattle.mv_flat.specs.Built.{flat_latch}
use Rattle.mv_flat.specs.Places.{net_places}
use Rattle.mv_resets.specs.NetModels.{is_flat_name}
use Rattle.mv_acyclic.proofs.Commands.{column_named, driver_is_net}
use Rattle.mv_acyclic.proofs.Named.{among-nets_of}
use Rattle.mv_acyclic.proofs.Soundness.{in_left, in_right}
use Rattle.mv_flat.proofs.Lawful.{open_names, open_of, kind_open, drivers_split, driver_flat}
use Rattle.mv_flat.proofs.Places.{IsModelNet}

-- ---- names in lists

pub among_first : (w : List ℕ) (ws : List (List ℕ)) → among w (w ∷ ws) ≡ true
among_first w ws = or_left (same_word w w) (among w ws) (same_word_refl w)

pub among_later : (w u : List ℕ) (ws : List (List ℕ)) → among w ws ≡ true → among w (u ∷ ws) ≡ true
among_later w u ws h = or_right (same_word w u) (among w ws) h

-- what a test finds of what is made of each name it finds of all of it
pub all_map : {X : Type 0} (p : X → Bool) (f : List ℕ → X) (ws : List (List ℕ)) → ((w : List ℕ) → among w ws ≡ true → p (f w) ≡ true) → list_all p (map f ws) ≡ true
all_map p f [] h = refl
all_map p f (w ∷ ws) h = and_from (p (f w)) (list_all p (map f ws)) (h w (among_first w ws)) (all_map p f ws (λ u y. h u (among_later u w ws y)))

pub map_same : {X Y : Type 0} (f : List ℕ → X) (g : X → Y) (h : List ℕ → Y) (ws : List (List ℕ)) → ((w : List ℕ) → among w ws ≡ true → g (f w) ≡ h w) → map g (map f ws) ≡ map h ws
map_same f g h [] e = refl
map_same f g h (w ∷ ws) e = λ i. e w (among_first w ws) i ∷ map_same f g h ws (λ u y. e u (among_later u w ws y)) i

-- ---- numbers in lists

-- the number is that of a name among these
pub record IsNumberOf (names ws : List (List ℕ)) (n : ℕ) : Type 0 where
  pub name : List ℕ
  pub listed : among name ws ≡ true
  pub number : number_in names name ≡ n

pub number_listed : {X : Type 0} (num : X → ℕ) (f : List ℕ → X) (names ws : List (List ℕ)) (n : ℕ) → ((w : List ℕ) → num (f w) ≡ number_in names w) → list_any (λ x. nat_eq (num x) n) (map f ws) ≡ true → IsNumberOf names ws n
number_listed num f names [] n is h = absurd (false≢true h)
number_listed num f names (w ∷ ws) n is h =
    ⊎_elim (λ (y : nat_eq (num (f w)) n ≡ true). record { name = w; listed = among_first w ws; number = sym (is w) ∙ eqb-true _ _ y })
    (λ (y : list_any (λ x. nat_eq (num x) n) (map f ws) ≡ true).
    let c = number_listed num f names ws n is y in
    record { name = c.name; listed = among_later c.name w ws c.listed; number = c.number })
    (or_cases (nat_eq (num (f w)) n) (list_any (λ x. nat_eq (num x) n) (map f ws)) h)

pub listed_number : {X : Type 0} (num : X → ℕ) (f : List ℕ → X) (names ws : List (List ℕ)) (w : List ℕ) (n : ℕ) → ((u : List ℕ) → num (f u) ≡ number_in names u) → among w ws ≡ true → number_in names w ≡ n → list_any (λ x. nat_eq (num x) n) (map f ws) ≡ true
listed_number num f names [] w n is h e = absurd (false≢true h)
listed_number num f names (u ∷ us) w n is h e =
    ⊎_elim (λ (y : same_word w u ≡ true). or_left _ _ (eq-eqb _ _ (is u ∙ (ap (number_in names) (sym (same_word_is w u y)) ∙ e))))
    (λ (y : among w us ≡ true). or_right (nat_eq (num (f u)) n) _ (listed_number num f names us w n is y e))
    (or_cases (same_word w u) (among w us) h)

-- ---- names in the tables' lists

-- a name in a table's list is in those of all
pub in_tables : (f : FileTable → List (List ℕ)) (ts : List FileTable) (k : ℕ) (t : FileTable) (w : List ℕ) → slice_get ts k ≡ Some t → among w (f t) ≡ true → among w (flat_map f ts) ≡ true
in_tables f [] k t w e h = absurd (none-some t e)
in_tables f (u ∷ us) zero t w e h = in_left w (f u) (flat_map f us) (ap (λ x. among w (f x)) (same_Some u t e) ∙ h)
in_tables f (u ∷ us) (suc k) t w e h = in_right w (f u) (flat_map f us) (in_tables f us k t w e h)

-- ---- the nets of a model, which it names

pub table_input_named : (m : FileModel) (k : ℕ) (t : FileTable) (w : List ℕ) → slice_get m.tables k ≡ Some t → among w t.inputs ≡ true → among w (nets_named m) ≡ true
table_input_named m k t w e h = column_named m w (in_tables columns_of m.tables k t w e (in_left w t.inputs t.outputs h))

pub table_output_named : (m : FileModel) (k : ℕ) (t : FileTable) (w : List ℕ) → slice_get m.tables k ≡ Some t → among w t.outputs ≡ true → among w (nets_named m) ≡ true
table_output_named m k t w e h = column_named m w (in_tables columns_of m.tables k t w e (in_right w t.inputs t.outputs h))

pub driver_named : (m : FileModel) (w : List ℕ) → among w (drivers m) ≡ true → among w (nets_named m) ≡ true
driver_named m w h = sym (among-nets_of w m) ∙ driver_is_net m w h

pub open_named : (m : FileModel) (kind : Kind) (w : List ℕ) → among w (open_of m kind) ≡ true → among w (nets_named m) ≡ true
open_named m kind w h = driver_named m w (ap (among w) (drivers_split m) ∙ in_left w (open_names m) (flat_map nets_driven m.tables) (kind_open m kind w h))

first_among : (ws : List (List ℕ)) → 0 < length ws → among (slice_index_or ws 0 []) ws ≡ true
first_among [] some = absurd (omega arith)
first_among (w ∷ ws) some = among_first w ws

pub output_of_among : (t : FileTable) → 0 < length t.outputs → among (output_of t) t.outputs ≡ true
output_of_among t some = first_among t.outputs some

-- the nets on one side of the latches by number
pub sides_are : (m : FileModel) (net : NetParts) → IsModelNet m net → (side : FlatLatch → NetId) (name : FileLatch → List ℕ)
    → ((l : FileLatch) → side (flat_latch (net_places m) l) ≡ net_in (net_places m) (name l)) → map side net.latches ≡ map (net_in (net_places m)) (map name m.latches)
sides_are m net is side name same =
    ap (map side) is.built.latches
    ∙ (map-map side (flat_latch (net_places m)) m.latches ∙ ((λ i. map (λ l. same l i) m.latches) ∙ sym (map-map (net_in (net_places m)) name m.latches)))

-- ---- lawful names

-- a net that the model names has the name of a net
pub named_flat : (m : FileModel) (net : NetParts) → IsModelNet m net → (w : List ℕ) → among w (nets_named m) ≡ true → is_flat_name w ≡ true
named_flat m net is w h = driver_flat m is.proper w (is.driven w h)
