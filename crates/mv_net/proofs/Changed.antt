-- What a change makes of the net at each number.
use Rattle.std.proofs.Common.{◌≡◌, ◌∙◌, ℕ, zero, suc, ◌+◌, ◌<◌, ◌≤◌, Bool, true, false, ◌||◌, nat_eq, List, [], ◌∷◌, ◌++◌, length, map, set, Option, Some, None, if◌then◌else◌, refl, sym, ap, subst, ⊎_elim, eqb-true, append-nil, length-append, arith}
use Rattle.std.specs.Option.{option_map, option_or}
use Rattle.std.proofs.lemmas.Bool.{cases_Bool, cases_lt, cond_both, eqb-false}
use Rattle.std.proofs.lemmas.List.{ext_get_or, get_or-set_same, get_or-set_other, get_or_past, get_or_append_left, get_or-append-add, set_past, set-set, length-set, length-map}
use Rattle.mv_base.specs.declared.number.NetId.{NetId}
use Rattle.mv_cover.specs.declared.cover.Cover.{Cover}
use Rattle.mv_net.specs.declared.change.NewTable.{NewTable}
use Rattle.mv_net.specs.declared.change.NewCount.{NewCount}
use Rattle.mv_net.specs.declared.change.Change.{Change}
use Rattle.mv_net.specs.declared.parts.FlatNet.{FlatNet}
use Rattle.mv_net.specs.declared.parts.NetParts.{NetParts}
use Rattle.mv_base.specs.declared.limits.TheConstants.{MAX_NETS}
use Rattle.mv_net.specs.Nets.{slot}
use Rattle.mv_graph.specs.Nets.{has_id}
use Rattle.mv_net.specs.Names.{number_of, is_named, AreNames}
use Rattle.mv_net.proofs.Named.{AreNames-kept, AreNames-without, or_behind}
use Rattle.mv_net.proofs.Patches.{IsWritten-gone}
use Rattle.mv_graph.proofs.Nets.{has_id-append}
use Rattle.mv_net.specs.Changes.{table_for, count_for, with_table, with_count, changed_net, changed_from, made_net, changed, with_nets, without}

-- ---- the nets of a changed network

-- as many nets as before
pub length-changed_from : (c : Change) (k : ℕ) (nets : List (Option FlatNet)) → length (changed_from c k nets) ≡ length nets
length-changed_from c k [] = refl
length-changed_from c k (f ∷ fs) = ap suc (length-changed_from c (k + 1) fs)

-- the changed net at a number, where the first has the number k, and where it has 0
slot-changed_from : (c : Change) (k : ℕ) (nets : List (Option FlatNet)) (m : ℕ) → slot (changed_from c k nets) m ≡ changed_net c (k + m) (slot nets m)
slot-changed_from c k [] m = refl
slot-changed_from c k (f ∷ fs) zero = let e : k ≡ k + zero = omega arith in ap (λ n. changed_net c n f) e
slot-changed_from c k (f ∷ fs) (suc m) =
    let e : (k + 1) + m ≡ k + suc m = omega arith in
    slot-changed_from c (k + 1) fs m ∙ ap (λ n. changed_net c n (slot fs m)) e

pub slot-changed_nets : (c : Change) (nets : List (Option FlatNet)) (m : ℕ) → slot (changed_from c 0 nets) m ≡ changed_net c m (slot nets m)
slot-changed_nets c nets m =
    let e : 0 + m ≡ m = omega arith in
    slot-changed_from c 0 nets m ∙ ap (λ n. changed_net c n (slot nets m)) e

-- as many numbers as before, and those of the nets that come
pub length-changed : (net : NetParts) (c : Change) → length (changed net c).nets ≡ length net.nets + length c.add
unfolding changed
length-changed net c =
    omega (arith, length-append (changed_from c 0 net.nets) (map made_net c.add), length-changed_from c 0 net.nets, length-map c.add made_net)

-- the net at a number that was there, and at one that comes
pub slot-changed_old : (net : NetParts) (c : Change) (n : ℕ) → n < length net.nets → slot (changed net c).nets n ≡ changed_net c n (slot net.nets n)
unfolding changed
slot-changed_old net c n low =
    get_or_append_left (changed_from c 0 net.nets) (map made_net c.add) None n (omega (arith, length-changed_from c 0 net.nets)) ∙ slot-changed_nets c net.nets n

pub slot-changed_new : (net : NetParts) (c : Change) (i : ℕ) → slot (changed net c).nets (length net.nets + i) ≡ slot (map made_net c.add) i
unfolding changed
slot-changed_new net c i =
    let e : length net.nets + i ≡ length (changed_from c 0 net.nets) + i = omega (arith, length-changed_from c 0 net.nets) in
    ap (slot (changed_from c 0 net.nets ++ map made_net c.add)) e ∙ get_or-append-add (changed_from c 0 net.nets) (map made_net c.add) i None

-- a changed network has few numbers
pub few_changed : (net : NetParts) (c : Change) → length net.nets + length c.add ≤ MAX_NETS → length (changed net c).nets ≤ MAX_NETS
few_changed net c few = omega (arith, length-changed net c)

-- nets that are the changed ones at each number
from_slots : (c : Change) (old new : List (Option FlatNet)) → length new ≡ length old → ((n : ℕ) → slot new n ≡ changed_net c n (slot old n)) → new ≡ changed_from c 0 old
from_slots c old new long each =
    ext_get_or None new (changed_from c 0 old) (long ∙ sym (length-changed_from c 0 old)) (λ n low. each n ∙ sym (slot-changed_nets c old n))

-- ---- one write

-- a number gets what is made of its net, and a number past the last keeps none
slot-put : (nets : List (Option FlatNet)) (k n : ℕ) (g : Option FlatNet → Option FlatNet) → g None ≡ None → slot (set nets k (g (slot nets k))) n ≡ (if nat_eq k n then g (slot nets n) else slot nets n)
slot-put nets k n g none =
    cond_both (nat_eq k n) (g (slot nets n)) (slot nets n) (λ x. slot (set nets k (g (slot nets k))) n ≡ x) (λ (y : nat_eq k n ≡ true).
    let P : ℕ → Type 0 = λ j. slot (set nets k (g (slot nets k))) j ≡ g (slot nets j) in
    subst P (eqb-true k n y) here) (λ (f : nat_eq k n ≡ false).
    get_or-set_other nets k n (g (slot nets k)) None (λ e. eqb-false k n f (sym e)))
  where
    here : slot (set nets k (g (slot nets k))) k ≡ g (slot nets k)
    here =
        ⊎_elim
        (λ (low : k < length nets). get_or-set_same nets k (g (slot nets k)) None low)
        (λ (past : length nets ≤ k).
        let e : slot nets k ≡ None = get_or_past nets k None past in
        ap (λ l. slot l k) (set_past nets k (g (slot nets k)) past) ∙ (e ∙ (sym none ∙ ap g (sym e))))
        (cases_lt k (length nets))

-- a network without a net, as a change
pub changed-gone : (net : NetParts) (n : NetId) → changed net (record { add = []; set = []; values = []; gone = n ∷ [] }) ≡ without net n.0
unfolding changed with_nets
changed-gone net n =
    ap (λ (nets : List (Option FlatNet)). record net { nets = nets }) (append-nil (changed_from c 0 net.nets) ∙ sym (from_slots c net.nets (set net.nets n.0 None) (length-set net.nets n.0 None) (λ m. slot-put net.nets n.0 m (λ f. None) refl ∙ at m (slot net.nets m))))
  where
    c : Change
    c = record { add = []; set = []; values = []; gone = n ∷ [] }

    at : (m : ℕ) (f : Option FlatNet) → (if nat_eq n.0 m then None else f) ≡ changed_net c m f
    at m None = cond_both (nat_eq n.0 m) None None (λ x. x ≡ None) (λ y. refl) (λ y. refl)
    at m (Some f) =
        ⊎_elim (λ (y : nat_eq n.0 m ≡ true). rw y refl) (λ (y : nat_eq n.0 m ≡ false). rw y refl) (cases_Bool (nat_eq n.0 m))

-- ---- a list of writes, of which the first at a number counts

-- the value that the first element of a number gives
pub record IsFirst {E V : Type 0} (num : E → ℕ) (val : E → V) (look : ℕ → List E → Option V) : Type 0 where
  pub none : (n : ℕ) → look n [] ≡ None
  pub more : (n : ℕ) (e : E) (es : List E) → look n (e ∷ es) ≡ (if nat_eq (num e) n then Some (val e) else look n es)

-- a later write is lost in an earlier one
pub record IsWrite {V : Type 0} (write : Option V → FlatNet → FlatNet) : Type 0 where
  pub none : (f : FlatNet) → write None f ≡ f
  pub over : (a b : Option V) (f : FlatNet) → write (option_or a b) f ≡ write a (write b f)

-- the value of a list and one more element
first-last : {E V : Type 0} (num : E → ℕ) (val : E → V) (look : ℕ → List E → Option V) → IsFirst num val look → (n : ℕ) (es : List E) (e : E) → look n (es ++ e ∷ []) ≡ option_or (look n es) (if nat_eq (num e) n then Some (val e) else None)
first-last num val look is n [] e =
    is.more n e [] ∙ (ap (λ o. if nat_eq (num e) n then Some (val e) else o) (is.none n) ∙ ap (λ o. option_or o (if nat_eq (num e) n then Some (val e) else None)) (sym (is.none n)))
first-last num val look is n (x ∷ es) e =
    is.more n x (es ++ e ∷ []) ∙ (or_behind (nat_eq (num x) n) (val x) (look n (es ++ e ∷ [])) (look n es) (if nat_eq (num e) n then Some (val e) else None) (first-last num val look is n es e) ∙ ap (λ o. option_or o (if nat_eq (num e) n then Some (val e) else None)) (sym (is.more n x es)))

-- the last element is written first, and then the others
write_last : {V : Type 0} (write : Option V → FlatNet → FlatNet) → IsWrite write → (b : Bool) (first : Option V) (v : V) (f : Option FlatNet) → option_map (write first) (if b then option_map (write (Some v)) f else f) ≡ option_map (write (option_or first (if b then Some v else None))) f
write_last write is true first v None = refl
write_last write is false first v None = refl
write_last write is true first v (Some f) = ap Some (sym (is.over first (Some v) f))
write_last write is false first v (Some f) = ap Some (sym (is.over first None f ∙ ap (write first) (is.none f)))

-- the last of the writes is done, and the others are left
pub write_done : {E V : Type 0} {num : E → ℕ} {val : E → V} {look : ℕ → List E → Option V} {write : Option V → FlatNet → FlatNet} → IsFirst num val look → IsWrite write → (old mid new : List (Option FlatNet)) (es rest : List E) (e : E) → es ≡ rest ++ e ∷ [] → mid ≡ set old (num e) None → new ≡ set mid (num e) (option_map (write (Some (val e))) (slot old (num e))) → (n : ℕ) → option_map (write (look n rest)) (slot new n) ≡ option_map (write (look n es)) (slot old n)
write_done {E = E} {V = V} {num = num} {val = val} {look = look} {write = write} first is old mid new es rest e all out back n =
    ap (λ nets. option_map (write (look n rest)) (slot nets n)) whole ∙ (ap (option_map (write (look n rest))) (slot-put old (num e) n act refl) ∙ (write_last write is (nat_eq (num e) n) (look n rest) (val e) (slot old n) ∙ ap (λ o. option_map (write o) (slot old n)) (sym (ap (look n) all ∙ first-last num val look first n rest e))))
  where
    act : Option FlatNet → Option FlatNet
    act = option_map (write (Some (val e)))

    whole : new ≡ set old (num e) (act (slot old (num e)))
    whole =
        back ∙ (ap (λ l. set l (num e) (act (slot old (num e)))) out ∙ set-set old (num e) None (act (slot old (num e))))

-- tables and numbers of values are such lists, and such writes
pub tables_first : IsFirst (λ (t : NewTable). t.net.0) (λ (t : NewTable). t.table) table_for
tables_first = record { none = λ n. refl; more = λ n t ts. refl }

pub counts_first : IsFirst (λ (c : NewCount). c.net.0) (λ (c : NewCount). c.values) count_for
counts_first = record { none = λ n. refl; more = λ n c cs. refl }

table_over : (a b : Option Cover) (f : FlatNet) → with_table (option_or a b) f ≡ with_table a (with_table b f)
table_over None b f = refl
table_over (Some c) None f = refl
table_over (Some c) (Some d) f = refl

count_over : (a b : Option ℕ) (f : FlatNet) → with_count (option_or a b) f ≡ with_count a (with_count b f)
count_over None b f = refl
count_over (Some k) None f = refl
count_over (Some k) (Some m) f = refl

pub table_write : IsWrite with_table
table_write = record { none = λ f. refl; over = table_over }

pub count_write : IsWrite with_count
count_write = record { none = λ f. refl; over = count_over }

-- ---- all nets

-- the tables were set, then the numbers of values, and then nets went
pub settled : (c : Change) (old tabled counted new : List (Option FlatNet)) → ((n : ℕ) → slot tabled n ≡ option_map (with_table (table_for n c.set)) (slot old n)) → ((n : ℕ) → slot counted n ≡ option_map (with_count (count_for n c.values)) (slot tabled n)) → ((n : ℕ) → slot new n ≡ (if has_id c.gone n then None else slot counted n)) → (n : ℕ) → slot new n ≡ changed_net c n (slot old n)
settled c old tabled counted new t k g n =
    g n ∙ (ap (λ f. if has_id c.gone n then None else f) (k n ∙ ap (option_map (with_count (count_for n c.values))) (t n)) ∙ at (slot old n))
  where
    at : (f : Option FlatNet) → (if has_id c.gone n then None else option_map (with_count (count_for n c.values)) (option_map (with_table (table_for n c.set)) f)) ≡ changed_net c n f
    at None = cond_both (has_id c.gone n) None None (λ x. x ≡ None) (λ y. refl) (λ y. refl)
    at (Some f) = refl

-- ---- names

-- a net with another table or number of values has its name
pub tabled_name : (t : Option Cover) (f : Option FlatNet) → option_map (λ (g : FlatNet). g.name) (option_map (with_table t) f) ≡ option_map (λ (g : FlatNet). g.name) f
tabled_name None None = refl
tabled_name (Some c) None = refl
tabled_name None (Some f) = refl
tabled_name (Some c) (Some f) = refl

pub counted_name : (k : Option ℕ) (f : Option FlatNet) → option_map (λ (g : FlatNet). g.name) (option_map (with_count k) f) ≡ option_map (λ (g : FlatNet). g.name) f
counted_name None None = refl
counted_name (Some k) None = refl
counted_name None (Some f) = refl
counted_name (Some k) (Some f) = refl

pub names_set : (set : List NewTable) (old new : List (Option FlatNet)) (names : List (List ℕ × ℕ)) → ((n : ℕ) → slot new n ≡ option_map (with_table (table_for n set)) (slot old n)) → AreNames old names → AreNames new names
names_set set old new names each are = AreNames-kept old new names (λ n. ap (option_map (λ (g : FlatNet). g.name)) (each n) ∙ tabled_name (table_for n set) (slot old n)) are

pub names_counted : (values : List NewCount) (old new : List (Option FlatNet)) (names : List (List ℕ × ℕ)) → ((n : ℕ) → slot new n ≡ option_map (with_count (count_for n values)) (slot old n)) → AreNames old names → AreNames new names
names_counted values old new names each are = AreNames-kept old new names (λ n. ap (option_map (λ (g : FlatNet). g.name)) (each n) ∙ counted_name (count_for n values) (slot old n)) are

-- ---- nets that go, one after the other

-- what goes first, and then others, goes in all
gone_twice : (r e : Bool) (s : Option FlatNet) → (if r then None else (if e then None else s)) ≡ (if r || (e || false) then None else s)
gone_twice true e s = refl
gone_twice false true s = refl
gone_twice false false s = refl

pub dropped : (old new : List (Option FlatNet)) (rest gone : List NetId) (n : NetId) → gone ≡ rest ++ n ∷ [] → new ≡ set old n.0 None → (m : ℕ) → (if has_id rest m then None else slot new m) ≡ (if has_id gone m then None else slot old m)
dropped old new rest gone n all out m =
    ap (λ (l : List (Option FlatNet)). if has_id rest m then None else slot l m) out
    ∙ (ap (λ f. if has_id rest m then None else f) (slot-put old n.0 m (λ f. None) refl)
    ∙ (gone_twice (has_id rest m) (nat_eq n.0 m) (slot old m)
    ∙ ap (λ b. if b then None else slot old m) (sym (ap (λ l. has_id l m) all ∙ has_id-append rest (n ∷ []) m))))

pub names_dropped : (old new : List (Option FlatNet)) (n : ℕ) (net : Option FlatNet) (names left : List (List ℕ × ℕ)) → net ≡ slot old n → new ≡ set old n None → ((w : List ℕ) → number_of left w ≡ (if is_named net w then None else number_of names w)) → AreNames old names → AreNames new left
names_dropped old new n net names left is out at are =
    subst (λ l. AreNames l left) (sym out)
    (AreNames-without old (set old n None) n names left (IsWritten-gone old n) (λ w. at w ∙ ap (λ f. if is_named f w then None else number_of names w) is) are)
