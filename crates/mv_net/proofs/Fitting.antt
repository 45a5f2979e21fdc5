-- What a change that fits says of numbers: those that it names are there, and those that come are none of them.
use Rattle.std.proofs.Common.{◌≡◌, ◌∙◌, ℕ, ◌+◌, ◌-◌, ◌<◌, ◌≤◌, Bool, true, false, ◌||◌, cond, nat_eq, List, [], ◌∷◌, ◌++◌, length, map, Option, Some, None, IsTrue, refl, sym, ap, subst, ⊎_elim, eqb-true, arith}
use Rattle.std.proofs.lemmas.Bool.{cases_Bool, cases_lt, or_cases, false≢true}
use Rattle.std.proofs.lemmas.List.{ext_get_or, length-append, length-map, get_or_append_left, get_or-append-add}
use Rattle.mv_base.specs.declared.number.NetId.{NetId}
use Rattle.mv_cover.specs.declared.cover.Cover.{Cover}
use Rattle.mv_graph.specs.Nets.{has_id}
use Rattle.mv_net.specs.declared.change.NewTable.{NewTable}
use Rattle.mv_net.specs.declared.change.NewCount.{NewCount}
use Rattle.mv_net.specs.declared.change.Change.{Change}
use Rattle.mv_net.specs.declared.parts.FlatNet.{FlatNet}
use Rattle.mv_net.specs.declared.parts.NetParts.{NetParts}
use Rattle.mv_net.specs.Nets.{slot}
use Rattle.mv_net.specs.Names.{AreNamed}
use Rattle.mv_net.specs.Index.{is_held}
use Rattle.mv_net.specs.Formed.{WellFormed}
use Rattle.mv_net.specs.Changes.{table_for, count_for, with_table, with_count, changed_net, made_net, changed, nets_set, nets_counted, Fits}
use Rattle.mv_net.proofs.Known.{is_held_below}
use Rattle.mv_net.proofs.Changed.{length-changed, slot-changed_old, slot-changed_new}

listed_first : {V : Type 0} (b : Bool) (v : V) (o : Option V) (w : V) (rest : Bool) → cond b (Some v) o ≡ Some w → (o ≡ Some w → rest ≡ true) → (b || rest) ≡ true
listed_first true v o w rest e more = refl
listed_first false v o w rest e more = more e

-- a table that is given stands in the list
pub given_listed : (ts : List NewTable) (n : ℕ) (c : Cover) → table_for n ts ≡ Some c → has_id (map (λ (t : NewTable). t.net) ts) n ≡ true
given_listed [] n c e = absurd (let bad : None ≡ Some c = e in cc)
given_listed (t ∷ ts) n c e = listed_first (nat_eq t.net.0 n) t.table (table_for n ts) c _ e (given_listed ts n c)

counted_listed : (vs : List NewCount) (n k : ℕ) → count_for n vs ≡ Some k → has_id (map (λ (v : NewCount). v.net) vs) n ≡ true
counted_listed [] n k e = absurd (let bad : None ≡ Some k = e in cc)
counted_listed (v ∷ vs) n k e = listed_first (nat_eq v.net.0 n) v.values (count_for n vs) k _ e (counted_listed vs n k)

-- a list of numbers below a bound has none past it
pub none_past : (k : ℕ) (list : List NetId) (n : ℕ) → ((m : ℕ) → has_id list m ≡ true → m < k) → k ≤ n → has_id list n ≡ false
none_past k list n below past =
    ⊎_elim
    (λ (y : has_id list n ≡ true). let low = below n y in absurd (omega arith))
    (λ (f : has_id list n ≡ false). f)
    (cases_Bool (has_id list n))

-- the nets that go, and those that get tables or numbers of values, are numbers of the network
pub gone_below : (net : NetParts) (c : Change) → Fits net c → (n : ℕ) → has_id c.gone n ≡ true → n < length net.nets
gone_below net c fits n h = is_held_below net.nets n (fits.gone.held n h)

pub set_below : (net : NetParts) (c : Change) → Fits net c → (n : ℕ) → has_id (nets_set c) n ≡ true → n < length net.nets
set_below net c fits n h = is_held_below net.nets n (fits.set.held n h)

counted_below : (net : NetParts) (c : Change) → Fits net c → (n : ℕ) → has_id (nets_counted c) n ≡ true → n < length net.nets
counted_below net c fits n h = is_held_below net.nets n (fits.values.held n h)

-- so the change leaves the nets that come
changed_past : (net : NetParts) (c : Change) → Fits net c → (n : ℕ) (f : Option FlatNet) → length net.nets ≤ n → changed_net c n f ≡ f
changed_past net c fits n None past = refl
changed_past net c fits n (Some f) past =
    ap (λ b. cond b None (Some (with_count (count_for n c.values) (with_table (table_for n c.set) f)))) (none_past (length net.nets) c.gone n (gone_below net c fits) past)
    ∙ (λ i. Some (with_count (count (count_for n c.values) refl i) (with_table (table (table_for n c.set) refl i) f)))
  where
    count : (o : Option ℕ) → count_for n c.values ≡ o → o ≡ None
    count None e = refl
    count (Some k) e = absurd (false≢true (sym (none_past (length net.nets) (nets_counted c) n (counted_below net c fits) past) ∙ counted_listed c.values n k e))

    table : (o : Option Cover) → table_for n c.set ≡ o → o ≡ None
    table None e = refl
    table (Some t) e = absurd (false≢true (sym (none_past (length net.nets) (nets_set c) n (set_below net c fits) past) ∙ given_listed c.set n t e))

-- nets of which those that come were put behind the others, and which were changed then, are the changed ones
pub placed : (net : NetParts) (c : Change) (grown new : List (Option FlatNet)) → Fits net c → grown ≡ net.nets ++ map made_net c.add → length new ≡ length grown → ((n : ℕ) → slot new n ≡ changed_net c n (slot grown n)) → new ≡ (changed net c).nets
placed net c grown new fits is long each =
    ext_get_or None new (changed net c).nets (omega (arith, long, ap length is, length-append net.nets (map made_net c.add), length-map c.add made_net, length-changed net c)) (λ n low. at n)
  where
    at : (n : ℕ) → slot new n ≡ slot (changed net c).nets n
    at n =
        ⊎_elim
        (λ (low : n < length net.nets).
        each n ∙ (ap (changed_net c n) (ap (λ l. slot l n) is ∙ get_or_append_left net.nets (map made_net c.add) None n low) ∙ sym (slot-changed_old net c n low)))
        (λ (past : length net.nets ≤ n).
        let e : length net.nets + (n - length net.nets) ≡ n = omega arith in
        let i = n - length net.nets in
        each n ∙ (changed_past net c fits n (slot grown n) past
        ∙ (ap (λ l. slot l n) is
        ∙ (ap (slot (net.nets ++ map made_net c.add)) (sym e)
        ∙ (get_or-append-add net.nets (map made_net c.add) i None
        ∙ (sym (slot-changed_new net c i) ∙ ap (slot (changed net c).nets) e))))))
        (cases_lt n (length net.nets))

-- so many nets came as the change brings
pub came : (net : NetParts) (c : Change) (grown : List (Option FlatNet)) (k : ℕ) → grown ≡ net.nets ++ map made_net c.add → k ≡ length net.nets → length grown - k ≡ length c.add
came net c grown k is e = omega (arith, ap length is, length-append net.nets (map made_net c.add), length-map c.add made_net)

-- ---- one net that goes

pub fits_gone : (net : NetParts) (n : NetId) → IsTrue (is_held net.nets n.0) → Fits net (record { add = []; set = []; values = []; gone = n ∷ [] })
fits_gone net n held = record {
  set = record { held = λ m h. absurd (false≢true h); once = refl };
  values = record { held = λ m h. absurd (false≢true h); once = refl };
  gone = record { held = λ m h. there m h; once = refl };
  apart = λ m h. (refl, refl);
  names = λ k m w h g. let bad : None ≡ Some h.net = h.held in absurd cc;
}
  where
    there : (m : ℕ) → has_id (n ∷ []) m ≡ true → IsTrue (is_held net.nets m)
    there m h =
        ⊎_elim
        (λ (y : nat_eq n.0 m ≡ true). let P : ℕ → Type 0 = λ k. IsTrue (is_held net.nets k) in subst P (eqb-true n.0 m y) held)
        (λ (f : false ≡ true). absurd (false≢true f))
        (or_cases (nat_eq n.0 m) false h)

-- ---- names

-- the nets and those that come have names of their own
module _ (net : NetParts) (c : Change) (fits : Fits net c) (old : WellFormed net) (new : WellFormed (changed net c)) where
  slot-old : (n : ℕ) → n < length net.nets → slot (net.nets ++ map made_net c.add) n ≡ slot net.nets n
  slot-old n low = get_or_append_left net.nets (map made_net c.add) None n low

  slot-new : (n : ℕ) → length net.nets ≤ n → slot (net.nets ++ map made_net c.add) n ≡ slot (map made_net c.add) (n - length net.nets)
  slot-new n past =
      let e : length net.nets + (n - length net.nets) ≡ n = omega arith in
      ap (slot (net.nets ++ map made_net c.add)) (sym e) ∙ get_or-append-add net.nets (map made_net c.add) (n - length net.nets) None

  slot-both : (n : ℕ) → length net.nets ≤ n → slot (changed net c).nets n ≡ slot (net.nets ++ map made_net c.add) n
  slot-both n past =
      let e : length net.nets + (n - length net.nets) ≡ n = omega arith in
      ap (slot (changed net c).nets) (sym e) ∙ (slot-changed_new net c (n - length net.nets) ∙ sym (slot-new n past))

  -- a net that was there has another name than one that comes
  never : (n m : ℕ) (f g : FlatNet) → slot (net.nets ++ map made_net c.add) n ≡ Some f → slot (net.nets ++ map made_net c.add) m ≡ Some g → f.name ≡ g.name → n < length net.nets → length net.nets ≤ m → ⊥
  never n m f g a b e low past =
      fits.names (m - length net.nets) n g.name
      (record { net = g; held = sym (slot-new m past) ∙ b; is = refl })
      (record { net = f; held = sym (slot-old n low) ∙ a; is = e })

  pub named_grown : AreNamed (net.nets ++ map made_net c.add)
  named_grown = record {
    apart = λ n m f g a b e.
        ⊎_elim
        (λ (low : n < length net.nets).
        ⊎_elim
        (λ (under : m < length net.nets). old.names n m f g (sym (slot-old n low) ∙ a) (sym (slot-old m under) ∙ b) e)
        (λ (past : length net.nets ≤ m). absurd (never n m f g a b e low past))
        (cases_lt m (length net.nets)))
        (λ (past : length net.nets ≤ n).
        ⊎_elim
        (λ (low : m < length net.nets). absurd (never m n g f b a (sym e) low past))
        (λ (over : length net.nets ≤ m). new.names n m f g (slot-both n past ∙ a) (slot-both m over ∙ b) e)
        (cases_lt m (length net.nets)))
        (cases_lt n (length net.nets));
  }
