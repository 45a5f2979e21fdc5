-- Nets that differ from those of a network in what stands in their tables alone: when the network with them is well formed,
-- and when it means what it meant.
use Rattle.std.proofs.Common.{◌≡◌, ◌∙◌, ◌⊎◌, ℕ, ◌<◌, ◌≤◌, true, ◌&&◌, nat_lt, List, [], ◌∷◌, map, Option, Some, None, IsTrue, is_some, inl, inr, refl, sym, ap, subst, ⊎_elim, arith}
use Rattle.std.proofs.lemmas.Bool.{and_parts, and_from, ltb-true, lt-ltb}
use Rattle.mv_base.specs.Names.{is_net_name}
use Rattle.mv_base.specs.Meaning.{SameMeaning}
use Rattle.mv_base.specs.declared.limits.TheConstants.{MAX_VALUES}
use Rattle.mv_base.specs.declared.number.NetId.{NetId}
use Rattle.mv_cover.specs.declared.cover.Cover.{Cover}
use Rattle.mv_cover.specs.Covers.{allowed}
use Rattle.mv_cover.specs.Covering.{IsPoint}
use Rattle.mv_graph.specs.Above.{IsAcyclic}
use Rattle.mv_net.specs.declared.parts.Kind.{Kind}
use Rattle.mv_net.specs.declared.parts.Kind.TheVariants.{Input, Latch, Reset}
use Rattle.mv_net.specs.declared.parts.FlatNet.{FlatNet}
use Rattle.mv_net.specs.declared.parts.FlatLatch.{FlatLatch}
use Rattle.mv_net.specs.declared.parts.NetParts.{NetParts}
use Rattle.mv_net.specs.Nets.{slot, values_in, table_in, reads_in, spelled_in, spelled_values}
use Rattle.mv_net.specs.Formed.{IsKind, IsReadable, IsCover, IsNamed, IsNet, IsResetNet, IsLatch, AllLatches, AreKind, ResetsStandAlone, WellFormed, latch_outputs, latch_resets, has_table}
use Rattle.mv_net.specs.Allowed.{net_allows, net_table_allows, Agrees, of_net}
use Rattle.mv_net.specs.Changes.{with_nets}
use Rattle.mv_net.proofs.Known.{counts_at}
use Rattle.mv_net.proofs.Ports.{KeepsPorts, SamePorts-refl}
use Rattle.mv_net.proofs.Stays.{KeepsNet, IsCover-kept}
use Rattle.mv_net.proofs.Drivers.{SameMeaning-by}
use Rattle.mv_meaning.specs.Rewriting.{IsAlike, IsReformed, AreCovers}

-- ---- nets that are alike

-- a held net that is like another but for its table
pub record IsTwin (g : Option FlatNet) (f : FlatNet) : Type 0 where
  pub net : FlatNet
  pub held : g ≡ Some net
  pub kind : net.kind ≡ f.kind
  pub name : net.name ≡ f.name
  pub values : net.values ≡ f.values
  pub value_names : net.value_names ≡ f.value_names
  pub tabled : is_some net.table ≡ is_some f.table

twin_of : (f : FlatNet) (g : Option FlatNet) → IsAlike (Some f) g → IsTwin g f
twin_of f None a = let bad = a.kind in cc
twin_of f (Some h) a = record {
  net = h;
  held = refl;
  kind = let e = a.kind in cc;
  name = a.name;
  values = a.values;
  value_names = a.value_names;
  tabled = a.tabled;
}

pub twin : (f g : Option FlatNet) (n : FlatNet) → IsAlike f g → f ≡ Some n → IsTwin g n
twin f g n a e = twin_of n g (subst (λ o. IsAlike o g) e a)

pub IsAlike-refl : (f : Option FlatNet) → IsAlike f f
IsAlike-refl f = record { kind = refl; name = refl; values = refl; value_names = refl; tabled = refl }

pub IsAlike-back : (f g : Option FlatNet) → IsAlike f g → IsAlike g f
IsAlike-back f g a = record { kind = sym a.kind; name = sym a.name; values = sym a.values; value_names = sym a.value_names; tabled = sym a.tabled }

pub IsReformed-back : (old new : List (Option FlatNet)) → IsReformed old new → IsReformed new old
IsReformed-back old new r = record { each = λ n. IsAlike-back (slot old n) (slot new n) (r.each n) }

-- a file spells their values alike
pub spelled_alike : (f g : Option FlatNet) → IsAlike f g → spelled_in g ≡ spelled_in f
spelled_alike None None a = refl
spelled_alike None (Some h) a = let bad = a.kind in cc
spelled_alike (Some f) None a = let bad = a.kind in cc
spelled_alike (Some f) (Some h) a = λ i. spelled_values (a.values i) (a.value_names i)

-- ---- what they keep

module _ (old new : List (Option FlatNet)) (reformed : IsReformed old new) where
  twin_at : (n : ℕ) (f : FlatNet) → slot old n ≡ Some f → IsTwin (slot new n) f
  twin_at n f e = twin (slot old n) (slot new n) f (reformed.each n) e

  pub kind_kept : (n : ℕ) (kind : Kind) → IsKind old n kind → IsKind new n kind
  kind_kept n kind k = let t = twin_at n k.net k.held in record { net = t.net; held = t.held; is = t.kind ∙ k.is }

  pub readable_kept : (n : ℕ) → IsReadable old n → IsReadable new n
  readable_kept n r = let t = twin_at n r.net r.held in record { net = t.net; held = t.held; plain = λ e. r.plain (sym t.kind ∙ e) }

  pub net_kept : (n : ℕ) → KeepsNet old new n
  net_kept n = record { readable = readable_kept n; values = (reformed.each n).values }

  reset_kept : (output n : ℕ) → IsResetNet old output n → IsResetNet new output n
  unfolding kind_kept
  reset_kept output n is =
      let t = twin_at n is.kind.net is.kind.held in
      let l = twin_at output is.latch is.held in
      record {
        kind = kind_kept n Reset is.kind;
        latch = l.net;
        held = l.held;
        name = t.name ∙ (is.name ∙ ap (λ w. 46 ∷ w) (sym l.name));
        values = t.values ∙ (is.values ∙ sym l.values);
        value_names = t.value_names ∙ (is.value_names ∙ sym l.value_names);
      }

  latch_kept : (l : FlatLatch) → IsLatch old l → IsLatch new l
  latch_kept l is = record {
    input = readable_kept l.input.0 is.input;
    output = kind_kept l.output.0 Latch is.output;
    values = (reformed.each l.input.0).values ∙ (is.values ∙ sym (reformed.each l.output.0).values);
    reset = λ n e. reset_kept l.output.0 n.0 (is.reset n e);
  }

  latches_kept : (ls : List FlatLatch) → AllLatches old ls → AllLatches new ls
  latches_kept [] all = tt
  latches_kept (l ∷ ls) all = (latch_kept l all.0, latches_kept ls all.1)

-- they have the same nets of a kind
pub kinds_kept : (old new : List (Option FlatNet)) (kind : Kind) (list : List NetId) → IsReformed old new → AreKind old kind list → AreKind new kind list
kinds_kept old new kind list reformed are = record {
  all = λ m k. are.all m (kind_kept new old (IsReformed-back old new reformed) m.0 kind k);
  only = λ m h. kind_kept old new reformed m.0 kind (are.only m h);
  once = are.once;
}

-- ---- the network with them

-- the network with nets that differ in their tables alone is well formed, if these are covers, no net is above itself, and no
-- latch output above a reset net
pub reformed_formed : (net : NetParts) (nets : List (Option FlatNet)) → WellFormed net → IsReformed net.nets nets → AreCovers net.nets nets → IsAcyclic (reads_in nets) → ResetsStandAlone nets → WellFormed (with_nets net nets)
unfolding with_nets
reformed_formed net nets formed reformed covers acyclic alone = record {
  root = formed.root;
  nets = one_net;
  names = λ n m f g e h same. let t = before n f e in let u = before m g h in formed.names n m t.net u.net t.held u.held (t.name ∙ (same ∙ sym u.name));
  inputs = kinds_kept net.nets nets Input net.inputs reformed formed.inputs;
  outputs = λ n h. readable_kept net.nets nets reformed n.0 (formed.outputs n h);
  outputs_once = formed.outputs_once;
  latches = latches_kept net.nets nets reformed net.latches formed.latches;
  states = kinds_kept net.nets nets Latch (latch_outputs net.latches) reformed formed.states;
  resets = kinds_kept net.nets nets Reset (latch_resets net.latches) reformed formed.resets;
  acyclic = acyclic;
  alone = alone;
}
  where
    before : (n : ℕ) (f : FlatNet) → slot nets n ≡ Some f → IsTwin (slot net.nets n) f
    before n f e = twin_at nets net.nets (IsReformed-back net.nets nets reformed) n f e

    cover_of : (n : ℕ) (f : FlatNet) (c : Cover) → slot nets n ≡ Some f → f.table ≡ Some c → IsCover nets f.values c
    cover_of n f c e t =
        IsCover-kept net.nets nets f.values c (λ m r. net_kept net.nets nets reformed m)
        (subst (λ k. IsCover net.nets k c) (ap values_in e) (covers.each n c (ap table_in e ∙ t)))

    one_net : (n : ℕ) (f : FlatNet) → slot nets n ≡ Some f → IsNet nets f
    one_net n f e =
        let t = before n f e in
        let is = formed.nets n t.net t.held in
        record {
          some = subst (λ k. 0 < k) t.values is.some;
          few = subst (λ k. k ≤ MAX_VALUES) t.values is.few;
          named = subst (λ k. IsNamed k f.value_names) t.values (subst (λ ws. IsNamed t.net.values ws) t.value_names is.named);
          name = λ plain. ap is_net_name (sym t.name) ∙ is.name (λ r. plain (sym t.kind ∙ r));
          table = sym t.tabled ∙ (is.table ∙ ap has_table t.kind);
          cover = λ c h. cover_of n f c e h;
        }

-- they look alike from outside
pub KeepsPorts-reformed : (net : NetParts) (nets : List (Option FlatNet)) → IsReformed net.nets nets → KeepsPorts net nets
KeepsPorts-reformed net nets reformed = record {
  names = λ n h. (reformed.each n).name;
  spelled = λ n h. spelled_alike (slot net.nets n) (slot nets n) (reformed.each n);
  values = λ n h. (reformed.each n).values;
}

-- where the same assignments agree with them, the network means what it meant
pub same_agreeing : (net : NetParts) (nets : List (Option FlatNet)) → IsReformed net.nets nets → ((x : ℕ → ℕ) → Agrees nets x → Agrees net.nets x) → ((x : ℕ → ℕ) → Agrees net.nets x → Agrees nets x) → SameMeaning (of_net (with_nets net nets)) (of_net net)
same_agreeing net nets reformed down up =
    SameMeaning-by net nets (KeepsPorts-reformed net nets reformed)
    (λ x a. record { at = x; agrees = down x a; same = SamePorts-refl net x })
    (λ x a. record { at = x; agrees = up x a; same = SamePorts-refl net x })

-- ---- by tables that allow the same

-- a net with a table takes a value of its own that the table allows, and no other
pub net_allows-from : (f : Option FlatNet) (c : Cover) (x : ℕ → ℕ) (v : ℕ) → table_in f ≡ Some c → v < values_in f → allowed c x v ≡ true → IsTrue (net_allows f x v)
net_allows-from None c x v table low allows = cc
net_allows-from (Some f) c x v table low allows =
    and_from (nat_lt v f.values) (net_table_allows f.table x v) (lt-ltb v f.values low) (ap (λ t. net_table_allows t x v) table ∙ allows)

pub net_allows-parts : (f : Option FlatNet) (c : Cover) (x : ℕ → ℕ) (v : ℕ) → table_in f ≡ Some c → IsTrue (net_allows f x v) → (v < values_in f) × (allowed c x v ≡ true)
net_allows-parts None c x v table a = cc
net_allows-parts (Some f) c x v table a =
    let p = and_parts (nat_lt v f.values) (net_table_allows f.table x v) a in
    (ltb-true v f.values p.0, ap (λ t. net_table_allows t x v) (sym table) ∙ p.1)

-- a net that is like another allows a value where the other does, if their tables do
pub net_allows-alike : (f g : Option FlatNet) (x : ℕ → ℕ) (v : ℕ) → IsAlike f g → net_table_allows (table_in g) x v ≡ net_table_allows (table_in f) x v → net_allows g x v ≡ net_allows f x v
net_allows-alike None None x v a same = refl
net_allows-alike None (Some g) x v a same = let bad = a.kind in cc
net_allows-alike (Some f) None x v a same = let bad = a.kind in cc
net_allows-alike (Some f) (Some g) x v a same = λ i. nat_lt v (a.values i) && same i

-- an assignment that agrees with a net has one of its values there
agreeing_low : (f : Option FlatNet) (x : ℕ → ℕ) (v : ℕ) → 0 < values_in f → IsTrue (net_allows f x v) → v < values_in f
agreeing_low None x v some a = absurd (omega arith)
agreeing_low (Some f) x v some a = ltb-true v f.values (and_parts (nat_lt v f.values) (net_table_allows f.table x v) a).0

-- an assignment that agrees with nets is a point of nets that have as many values
pub agreeing_point : (old new : List (Option FlatNet)) (x : ℕ → ℕ) → ((n : ℕ) → values_in (slot new n) ≡ values_in (slot old n)) → Agrees new x → IsPoint (map values_in old) x
agreeing_point old new x same a = record {
  below = λ n some.
      let e = counts_at old n ∙ sym (same n) in
      subst (λ k. x n < k) (sym e) (agreeing_low (slot new n) x (x n) (subst (λ k. 0 < k) e some) (a.each n));
}

-- where at each point that agrees with either nets each table allows what the old one does, the network means what it meant
pub same_tables : (net : NetParts) (nets : List (Option FlatNet)) → IsReformed net.nets nets
    → ((x : ℕ → ℕ) → IsPoint (map values_in net.nets) x → Agrees nets x ⊎ Agrees net.nets x → (m : ℕ) → net_table_allows (table_in (slot nets m)) x (x m) ≡ net_table_allows (table_in (slot net.nets m)) x (x m))
    → SameMeaning (of_net (with_nets net nets)) (of_net net)
same_tables net nets reformed same =
    same_agreeing net nets reformed
    (λ x a. record { each = λ m. sym (at x (inl a) m) ∙ a.each m })
    (λ x a. record { each = λ m. at x (inr a) m ∙ a.each m })
  where
    point : (x : ℕ → ℕ) → Agrees nets x ⊎ Agrees net.nets x → IsPoint (map values_in net.nets) x
    point x either =
        ⊎_elim
        (λ (a : Agrees nets x). agreeing_point net.nets nets x (λ n. (reformed.each n).values) a)
        (λ (a : Agrees net.nets x). agreeing_point net.nets net.nets x (λ n. refl) a)
        either

    at : (x : ℕ → ℕ) → Agrees nets x ⊎ Agrees net.nets x → (m : ℕ) → net_allows (slot nets m) x (x m) ≡ net_allows (slot net.nets m) x (x m)
    at x either m = net_allows-alike (slot net.nets m) (slot nets m) x (x m) (reformed.each m) (same x (point x either) either m)
