-- The names of a model's nets: one of a file begins neither as a made net's nor as a reset net's, and one of a reset net as
-- no other.
use Rattle.std.proofs.Common.{◌≡◌, ℕ, Bool, true, false, List, [], ◌∷◌, ◌++◌, map, refl, sym, ◌∙◌, ap, arith, ⊎_elim, All}
use Rattle.std.specs.Prelude.{nat_eq, nat_le, ◌==◌}
use Rattle.std.specs.List.{flat_map, list_all}
use Rattle.std.proofs.lemmas.Bool.{false≢true, and_parts, and_from, or_left, or_cases, cases_Bool, cond-true, cond-false, cond_both, eqb-true, false_from_ne_true}
use Rattle.std.proofs.lemmas.Bool.Decides.{nat_tests}
use Rattle.std.proofs.lemmas.List.{append_assoc}
use Rattle.std.proofs.lemmas.List.Elements.{All-head, All-tail}
use Rattle.mv_base.specs.Names.{among, is_word, is_net_name}
use Rattle.mv_design.specs.declared.design.Decl.{Decl}
use Rattle.mv_design.specs.declared.design.FileLatch.{FileLatch}
use Rattle.mv_design.specs.declared.design.FileModel.{FileModel}
use Rattle.mv_design.specs.Nets.{nets_driven, drivers, latch_outputs}
use Rattle.mv_design.specs.Proper.{IsFileLatch}
use Rattle.mv_net.specs.declared.parts.Kind.{Kind}
use Rattle.mv_net.specs.declared.parts.Kind.TheVariants.{Input, Latch, Table, Reset}
use Rattle.mv_net.specs.Formed.{has_table}
use Rattle.mv_resets.specs.Resets.{reset_name}
use Rattle.mv_resets.specs.NetModels.{IsNetModel, is_flat_name, is_reset_name}
use Rattle.mv_resets.proofs.Words.{not_lawful}
use Rattle.mv_acyclic.proofs.Names.{all_among}
use Rattle.mv_acyclic.proofs.Soundness.{in_left, in_right, in_either}
use Rattle.mv_flat.specs.Built.{kind_of}

-- ---- how names begin

-- a name that begins as a mark's or a choice net's does
abbrev pub is_spaced : List ℕ → Bool
is_spaced [] = false
is_spaced (b ∷ bs) = nat_eq b 32

pub lawful_unspaced : (w : List ℕ) → is_net_name w ≡ true → is_spaced w ≡ false
unfolding is_net_name is_word
lawful_unspaced [] e = refl
lawful_unspaced (b ∷ bs) e =
    let word = (and_parts _ _ (and_parts _ _ (and_parts _ _ (and_parts _ _ e).0).0).0).0 in
    let seen = (and_parts _ _ (and_parts _ _ word).0).1 in
    unspaced b (and_parts _ _ (and_parts _ _ (and_parts _ _ seen).0).0).0
  where
    unspaced : (c : ℕ) → nat_le 33 c ≡ true → nat_eq c 32 ≡ false
    unspaced c h = grind (arith, nat_tests)

reset_unspaced : (w : List ℕ) → is_reset_name w ≡ true → is_spaced w ≡ false
reset_unspaced [] h = refl
reset_unspaced (b ∷ bs) h = ap (λ c. nat_eq c 32) (eqb-true b 46 (and_parts _ _ h).0)

-- no net's name begins so
pub flat_unspaced : (w : List ℕ) → is_flat_name w ≡ true → is_spaced w ≡ false
flat_unspaced w h = ⊎_elim (lawful_unspaced w) (reset_unspaced w) (or_cases (is_net_name w) (is_reset_name w) h)

-- ---- the kind that a table's net has by its name

pub lawful_kind : (w : List ℕ) → is_net_name w ≡ true → kind_of w ≡ Table
lawful_kind [] e = refl
lawful_kind (b ∷ bs) e =
    cond-false (b == 46) Reset Table (false_from_ne_true _ (λ y. not_lawful bs (ap (λ c. is_net_name (c ∷ bs)) (sym (eqb-true b 46 y)) ∙ e)))

reset_kind : (w : List ℕ) → is_reset_name w ≡ true → kind_of w ≡ Reset
reset_kind [] h = absurd (false≢true h)
reset_kind (b ∷ bs) h = cond-true (b == 46) Reset Table (and_parts _ _ h).0

-- such a net has a table
pub kind_has_table : (w : List ℕ) → has_table (kind_of w) ≡ true
kind_has_table [] = refl
kind_has_table (b ∷ bs) = cond_both (b == 46) Reset Table (λ k. has_table k ≡ true) (λ _. refl) (λ _. refl)

-- a net that is no reset net has a name of a file
pub plain_lawful : (w : List ℕ) → is_flat_name w ≡ true → (kind_of w ≡ Reset → ⊥) → is_net_name w ≡ true
plain_lawful w h plain =
    ⊎_elim (λ (y : is_net_name w ≡ true). y) (λ (r : is_reset_name w ≡ true). absurd (plain (reset_kind w r))) (or_cases (is_net_name w) (is_reset_name w) h)

-- the name is that of a latch's reset net
pub record IsResetName (w : List ℕ) : Type 0 where
  pub latch : List ℕ
  pub is : w ≡ reset_name latch

-- and a reset net has such a name
pub kind_reset : (w : List ℕ) → kind_of w ≡ Reset → IsResetName w
kind_reset [] e = let none : Table ≡ Reset = e in absurd (cc)
kind_reset (b ∷ bs) e =
    ⊎_elim (λ (y : (b == 46) ≡ true). record { latch = bs; is = ap (λ c. c ∷ bs) (eqb-true b 46 y) })
    (λ (n : (b == 46) ≡ false). let none : Table ≡ Reset = sym (cond-false (b == 46) Reset Table n) ∙ e in absurd (cc))
    (cases_Bool (b == 46))

-- ---- the nets of a model

-- the nets that have no table: the inputs and the outputs of the latches
abbrev pub open_names : FileModel → List (List ℕ)
open_names m = m.inputs ++ latch_outputs m

-- those of one kind
abbrev pub open_of : FileModel → Kind → List (List ℕ)
open_of m Input = m.inputs
open_of m Latch = latch_outputs m
open_of m Table = []
open_of m Reset = []

pub drivers_split : (m : FileModel) → drivers m ≡ open_names m ++ flat_map nets_driven m.tables
unfolding drivers
drivers_split m = sym (append_assoc m.inputs (latch_outputs m) (flat_map nets_driven m.tables))

latches_lawful : (ds : List Decl) (ls : List FileLatch) → All (IsFileLatch ds) ls → list_all is_net_name (map (λ (l : FileLatch). l.output) ls) ≡ true
latches_lawful ds [] all = refl
latches_lawful ds (l ∷ ls) all =
    and_from (is_net_name l.output) _ (All-head (IsFileLatch ds) l ls all).output (latches_lawful ds ls (All-tail (IsFileLatch ds) l ls all))

pub open_lawful : (m : FileModel) → IsNetModel m → (w : List ℕ) → among w (open_names m) ≡ true → is_net_name w ≡ true
open_lawful m p w h =
    ⊎_elim (λ (y : among w m.inputs ≡ true). all_among is_net_name m.inputs w p.inputs y)
    (λ (y : among w (latch_outputs m) ≡ true). all_among is_net_name (latch_outputs m) w (latches_lawful m.decls m.latches p.latches) y)
    (in_either w m.inputs (latch_outputs m) h)

-- what is driven has the name of a net
pub driver_flat : (m : FileModel) → IsNetModel m → (w : List ℕ) → among w (drivers m) ≡ true → is_flat_name w ≡ true
driver_flat m p w h =
    ⊎_elim (λ (y : among w (open_names m) ≡ true). or_left _ _ (open_lawful m p w y))
    (λ (y : among w (flat_map nets_driven m.tables) ≡ true). all_among is_flat_name (flat_map nets_driven m.tables) w p.driven y)
    (in_either w (open_names m) (flat_map nets_driven m.tables) (ap (among w) (sym (drivers_split m)) ∙ h))

-- a net without a table is an input or the output of a latch
pub record IsOpen (m : FileModel) (w : List ℕ) : Type 0 where
  pub kind : Kind
  pub listed : among w (open_of m kind) ≡ true

pub open_kind : (m : FileModel) (w : List ℕ) → among w (open_names m) ≡ true → IsOpen m w
open_kind m w h =
    ⊎_elim (λ (y : among w m.inputs ≡ true). let o : IsOpen m w = record { kind = Input; listed = y } in o)
    (λ (y : among w (latch_outputs m) ≡ true). let o : IsOpen m w = record { kind = Latch; listed = y } in o)
    (in_either w m.inputs (latch_outputs m) h)

pub kind_open : (m : FileModel) (kind : Kind) (w : List ℕ) → among w (open_of m kind) ≡ true → among w (open_names m) ≡ true
kind_open m Input w h = in_left w m.inputs (latch_outputs m) h
kind_open m Latch w h = in_right w m.inputs (latch_outputs m) h
kind_open m Table w h = absurd (false≢true h)
kind_open m Reset w h = absurd (false≢true h)
