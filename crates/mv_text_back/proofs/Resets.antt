-- Which nets of a well-formed network can be read, the latch of each reset net, and the name behind the arrow of each table.
use Rattle.std.proofs.Common.{◌≡◌, ℕ, suc, zero, true, false, Bool, nat_eq, List, [], ◌∷◌, drop, Option, Some, None, refl, sym, ap, ◌∙◌, subst, ⊎_elim}
use Rattle.std.specs.List.{slice_get}
use Rattle.std.proofs.lemmas.Bool.{false≢true, false_from_ne_true, or_cases, or_left, or_right, eqb-true, eq-eqb}
use Rattle.std.proofs.lemmas.Option.{same_Some, slice_get_within, get_or_from_slice_get}
use Rattle.mv_base.specs.Names.{is_net_name}
use Rattle.mv_base.specs.declared.number.NetId.{NetId}
use Rattle.mv_net.specs.declared.parts.Kind.{Kind}
use Rattle.mv_net.specs.declared.parts.Kind.TheVariants.{Input, Latch, Table, Reset}
use Rattle.mv_net.specs.declared.parts.FlatNet.{FlatNet}
use Rattle.mv_net.specs.declared.parts.FlatLatch.{FlatLatch}
use Rattle.mv_net.specs.declared.parts.NetParts.{NetParts}
use Rattle.mv_net.specs.Nets.{slot, name_in}
use Rattle.mv_net.specs.Index.{is_reset}
use Rattle.mv_net.specs.Formed.{IsKind, IsReadable, IsLatch, AllLatches, latch_outputs, latch_resets, with_reset, WellFormed}
use Rattle.mv_graph.specs.Nets.{has_id}
use Rattle.mv_text.specs.Text.{told_name}
use Rattle.mv_text.proofs.Resets.{latch-at as latch-listed}
use Rattle.mv_text_back.proofs.TextModel.{is_reset_net}

-- ---- nets that can be read

pub reset_kind : (k : Kind) → is_reset (Some k) ≡ true → k ≡ Reset
reset_kind Input e = cc
reset_kind Latch e = cc
reset_kind Table e = cc
reset_kind Reset e = refl

-- a held net that is no reset net can be read
abbrev pub readable : (nets : List (Option FlatNet)) (n : ℕ) (f : FlatNet) → slot nets n ≡ Some f → is_reset_net f ≡ false → IsReadable nets n
readable nets n f held e = record { net = f; held = held; plain = λ h. false≢true (sym e ∙ ap (λ k. is_reset (Some k)) h) }

-- and so can one of a kind that isn't that of the reset nets
abbrev pub readable-kind : (nets : List (Option FlatNet)) (n : ℕ) (kind : Kind) → is_reset (Some kind) ≡ false → IsKind nets n kind → IsReadable nets n
readable-kind nets n kind e k = readable nets n k.net k.held (ap (λ j. is_reset (Some j)) k.is ∙ e)

-- what can be read is no reset net
pub readable-other : (nets : List (Option FlatNet)) (n : ℕ) (r : IsReadable nets n) → is_reset_net r.net ≡ false
readable-other nets n r = false_from_ne_true _ (λ y. r.plain (reset_kind r.net.kind y))

-- its name is lawful
pub readable-lawful : (net : NetParts) → WellFormed net → (n : ℕ) → IsReadable net.nets n → is_net_name (name_in (slot net.nets n)) ≡ true
readable-lawful net formed n r = ap (λ o. is_net_name (name_in o)) r.held ∙ (formed.nets n r.net r.held).name r.plain

-- ---- the latch of a reset net

-- a latch at a place
pub latch-at : (nets : List (Option FlatNet)) (ls : List FlatLatch) (i : ℕ) (l : FlatLatch) → AllLatches nets ls → slice_get ls i ≡ Some l → IsLatch nets l
latch-at nets ls i l all e = subst (IsLatch nets) (get_or_from_slice_get ls i l l e) (latch-listed nets ls i l (slice_get_within ls i l e) all)

-- the net that it drives
pub latch-driven : (net : NetParts) → WellFormed net → (i : ℕ) (l : FlatLatch) → slice_get net.latches i ≡ Some l → IsReadable net.nets l.output.0
latch-driven net formed i l e = readable-kind net.nets l.output.0 Latch refl (latch-at net.nets net.latches i l formed.latches e).output

-- its output stands among the latches' outputs
pub output-listed : (ls : List FlatLatch) (i : ℕ) (l : FlatLatch) → slice_get ls i ≡ Some l → has_id (latch_outputs ls) l.output.0 ≡ true
output-listed [] i l e = cc
output-listed (h ∷ ls) zero l e = or_left _ _ (eq-eqb h.output.0 l.output.0 (ap (λ (k : FlatLatch). k.output.0) (same_Some h l e)))
output-listed (h ∷ ls) (suc i) l e = or_right (nat_eq h.output.0 l.output.0) _ (output-listed ls i l e)

-- a latch with this reset net
pub record HasReset (ls : List FlatLatch) (n : ℕ) : Type 0 where
  pub place : ℕ
  pub latch : FlatLatch
  pub listed : slice_get ls place ≡ Some latch
  pub reset : latch.reset ≡ Some (record { 0 = n })

behind : (l : FlatLatch) (ls : List FlatLatch) (n : ℕ) → HasReset ls n → HasReset (l ∷ ls) n
behind l ls n h = record { place = suc h.place; latch = h.latch; listed = h.listed; reset = h.reset }

first_or_behind : (l : FlatLatch) (ls : List FlatLatch) (n : ℕ) (o : Option NetId) → l.reset ≡ o → has_id (with_reset o (latch_resets ls)) n ≡ true
    → (has_id (latch_resets ls) n ≡ true → HasReset ls n) → HasReset (l ∷ ls) n
first_or_behind l ls n None e h rest = behind l ls n (rest h)
first_or_behind l ls n (Some m) e h rest =
    ⊎_elim
    (λ (y : nat_eq m.0 n ≡ true). record { place = 0; latch = l; listed = refl; reset = e ∙ ap (λ k. Some (record { 0 = k })) (eqb-true m.0 n y) })
    (λ (y : has_id (latch_resets ls) n ≡ true). behind l ls n (rest y))
    (or_cases (nat_eq m.0 n) (has_id (latch_resets ls) n) h)

pub has-reset : (ls : List FlatLatch) (n : ℕ) → has_id (latch_resets ls) n ≡ true → HasReset ls n
has-reset [] n h = absurd (false≢true h)
has-reset (l ∷ ls) n h = first_or_behind l ls n l.reset refl h (λ y. has-reset ls n y)

-- the latch of a reset net
pub latch-of : (net : NetParts) → WellFormed net → (n : ℕ) (f : FlatNet) → slot net.nets n ≡ Some f → is_reset_net f ≡ true → HasReset net.latches n
latch-of net formed n f held e =
    has-reset net.latches n (formed.resets.all (record { 0 = n }) (record { net = f; held = held; is = reset_kind f.kind e }))

-- the net that a latch drives has the values of the latch's reset net, and the name behind the arrow
pub record IsResetOf (net : NetParts) (l : FlatLatch) (f : FlatNet) : Type 0 where
  pub driven : IsReadable net.nets l.output.0
  pub reset : is_reset_net f ≡ true
  pub name : f.name ≡ 46 ∷ driven.net.name
  pub told : told_name (Some f) ≡ driven.net.name
  pub values : f.values ≡ driven.net.values
  pub value_names : f.value_names ≡ driven.net.value_names

pub reset-of : (net : NetParts) → WellFormed net → (i : ℕ) (l : FlatLatch) → slice_get net.latches i ≡ Some l → (n : ℕ) → l.reset ≡ Some (record { 0 = n })
    → (f : FlatNet) → slot net.nets n ≡ Some f → IsResetOf net l f
reset-of net formed i l listed n e f held =
    let latch = latch-at net.nets net.latches i l formed.latches listed in
    let reset = latch.reset (record { 0 = n }) e in
    let driven = latch-driven net formed i l listed in
    let this : reset.kind.net ≡ f = same_Some reset.kind.net f (sym reset.kind.held ∙ held) in
    let that : reset.latch ≡ driven.net = same_Some reset.latch driven.net (sym reset.held ∙ driven.held) in
    let kind : is_reset_net f ≡ true = ap is_reset_net (sym this) ∙ ap (λ k. is_reset (Some k)) reset.kind.is in
    let name : f.name ≡ 46 ∷ driven.net.name = ap (λ (g : FlatNet). g.name) (sym this) ∙ (reset.name ∙ ap (λ (g : FlatNet). 46 ∷ g.name) that) in
    record {
      driven = driven;
      reset = kind;
      name = name;
      told = rw kind (ap (drop 1) name);
      values = ap (λ (g : FlatNet). g.values) (sym this) ∙ (reset.values ∙ ap (λ (g : FlatNet). g.values) that);
      value_names = ap (λ (g : FlatNet). g.value_names) (sym this) ∙ (reset.value_names ∙ ap (λ (g : FlatNet). g.value_names) that);
    }

-- ---- the name behind the arrow of a net's table

pub net_told-other : (f : FlatNet) → is_reset_net f ≡ false → told_name (Some f) ≡ f.name
net_told-other f e = rw e refl

-- the name behind the arrow is that of a net that can be read, and has the values of the net
pub record IsTold (net : NetParts) (f : FlatNet) : Type 0 where
  pub number : ℕ
  pub driven : IsReadable net.nets number
  pub name : told_name (Some f) ≡ driven.net.name
  pub values : f.values ≡ driven.net.values
  pub value_names : f.value_names ≡ driven.net.value_names

told_by : (net : NetParts) → WellFormed net → (n : ℕ) (f : FlatNet) → slot net.nets n ≡ Some f → (b : Bool) → is_reset_net f ≡ b → IsTold net f
told_by net formed n f held false e = record { number = n; driven = readable net.nets n f held e; name = net_told-other f e; values = refl; value_names = refl }
told_by net formed n f held true e =
    let has = latch-of net formed n f held e in
    let r = reset-of net formed has.place has.latch has.listed n has.reset f held in
    record { number = has.latch.output.0; driven = r.driven; name = r.told; values = r.values; value_names = r.value_names }

pub net_told : (net : NetParts) → WellFormed net → (n : ℕ) (f : FlatNet) → slot net.nets n ≡ Some f → IsTold net f
net_told net formed n f held = told_by net formed n f held (is_reset_net f) refl

-- it is lawful
pub net_told-lawful : (net : NetParts) → WellFormed net → (n : ℕ) (f : FlatNet) → slot net.nets n ≡ Some f → is_net_name (told_name (Some f)) ≡ true
net_told-lawful net formed n f held =
    let t = net_told net formed n f held in
    ap is_net_name t.name ∙ (formed.nets t.number t.driven.net t.driven.held).name t.driven.plain
