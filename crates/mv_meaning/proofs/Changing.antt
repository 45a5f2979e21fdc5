-- The changes that make such networks: one that gives a net another table, one that gives the readers of a net their new ones, one
-- that lets the net go besides, and one by which a net comes.
use Rattle.std.proofs.Common.{◌≡◌, ◌∙◌, ℕ, ◌+◌, ◌-◌, ◌<◌, ◌≤◌, true, false, nat_eq, List, [], ◌∷◌, ◌++◌, length, map, set, Option, Some, None, refl, sym, ap, subst, ⊎_elim, length-append, arith, eq-eqb}
use Rattle.std.proofs.lemmas.Bool.{cases_Bool, cases_lt, cases_eq, cond-true, ne_eqb}
use Rattle.std.proofs.lemmas.List.{ext_get_or, get_or_past, get_or-append-add, get_or_append_left, length-set, length-map}
use Rattle.mv_base.specs.declared.number.NetId.{NetId}
use Rattle.mv_cover.specs.declared.cover.Cover.{Cover}
use Rattle.mv_cover.specs.Covers.{cover_reads}
use Rattle.mv_net.specs.declared.change.NewNet.{NewNet}
use Rattle.mv_net.specs.declared.change.NewTable.{NewTable}
use Rattle.mv_net.specs.declared.change.Change.{Change}
use Rattle.mv_net.specs.declared.parts.FlatNet.{FlatNet}
use Rattle.mv_net.specs.declared.parts.NetParts.{NetParts}
use Rattle.mv_net.specs.Nets.{slot, table_in, reads_in}
use Rattle.mv_net.specs.Changes.{table_for, with_table, changed_net, made_net, changed, with_nets}
use Rattle.mv_net.proofs.Changed.{length-changed, slot-changed_old, slot-changed_new}
use Rattle.mv_net.proofs.Patches.{IsWritten-gone}
use Rattle.mv_meaning.specs.Rewriting.{given_table, rewired_table, rewired, rewritten, with_net_table, SetsReaders}
use Rattle.mv_meaning.proofs.Rewired.{slot-rewritten, slot-unread, reader_at}
use Rattle.mv_meaning.proofs.OneTable.{IsWritten-given}

-- a network with the nets that a change makes is the network behind it
pub changed-is : (net : NetParts) (c : Change) (nets : List (Option FlatNet)) → length nets ≡ length net.nets + length c.add → ((m : ℕ) → m < length net.nets → slot nets m ≡ changed_net c m (slot net.nets m)) → ((i : ℕ) → slot nets (length net.nets + i) ≡ slot (map made_net c.add) i) → changed net c ≡ with_nets net nets
unfolding changed with_nets
changed-is net c nets long old new =
    ap (λ (fs : List (Option FlatNet)). record net { nets = fs }) (ext_get_or None (changed net c).nets nets (length-changed net c ∙ sym long) (λ m _. same m))
  where
    same : (m : ℕ) → slot (changed net c).nets m ≡ slot nets m
    same m =
        ⊎_elim
        (λ (low : m < length net.nets). slot-changed_old net c m low ∙ sym (old m low))
        (λ (past : length net.nets ≤ m).
        let e : length net.nets + (m - length net.nets) ≡ m = omega arith in
        subst (λ k. slot (changed net c).nets k ≡ slot nets k) e (slot-changed_new net c (m - length net.nets) ∙ sym (new (m - length net.nets))))
        (cases_lt m (length net.nets))

-- nothing comes where none is added
none_new : (net : NetParts) (nets : List (Option FlatNet)) → length nets ≡ length net.nets → (i : ℕ) → slot nets (length net.nets + i) ≡ None
none_new net nets long i = get_or_past nets (length net.nets + i) None (omega (arith, long))

-- ---- one table

pub changed-given : (net : NetParts) (n : NetId) (c : Cover) → changed net (record { add = []; set = record { net = n; table = c } ∷ []; values = []; gone = [] }) ≡ with_nets net (with_net_table net.nets n.0 c)
unfolding with_net_table
changed-given net n c =
    changed-is net change (with_net_table net.nets n.0 c) (long ∙ omega arith) (λ m _. at m (slot net.nets m) refl) (none_new net (with_net_table net.nets n.0 c) long)
  where
    change : Change
    change = record { add = []; set = record { net = n; table = c } ∷ []; values = []; gone = [] }

    long : length (with_net_table net.nets n.0 c) ≡ length net.nets
    long = length-set net.nets n.0 (given_table c (slot net.nets n.0))

    given : (f : Option FlatNet) → given_table c f ≡ changed_net change n.0 f
    given None = refl
    given (Some f) = rw (eq-eqb n.0 n.0 refl) refl

    other : (m : ℕ) (f : Option FlatNet) → nat_eq n.0 m ≡ false → f ≡ changed_net change m f
    other m None e = refl
    other m (Some f) e = rw e refl

    at : (m : ℕ) (f : Option FlatNet) → slot net.nets m ≡ f → slot (with_net_table net.nets n.0 c) m ≡ changed_net change m f
    at m f held =
        ⊎_elim
        (λ (e : m ≡ n.0).
        let P : ℕ → Type 0 = λ k. slot net.nets k ≡ f → slot (with_net_table net.nets n.0 c) k ≡ changed_net change k f in
        subst P (sym e) (λ h. (IsWritten-given net.nets n.0 c).here ∙ (ap (given_table c) h ∙ given f)) held)
        (λ (ne : m ≡ n.0 → ⊥). (IsWritten-given net.nets n.0 c).others m ne ∙ (held ∙ other m f (ne_eqb n.0 m (λ e. ne (sym e)))))
        (cases_eq m n.0)

-- ---- the tables of readers

-- what such a list makes of the net at a number
rewired-set : (new : Cover → Cover) (n : ℕ) (nets : List (Option FlatNet)) (list : List NewTable) → SetsReaders new n nets list → (m : ℕ) (f : FlatNet) → slot nets m ≡ Some f → slot (rewritten new n nets) m ≡ Some (with_table (table_for m list) f)
rewired-set new n nets list sets m f held =
    ⊎_elim
    (λ (y : reads_in nets m n ≡ true).
    let r = reader_at nets n m y in
    let own : f.table ≡ Some r.0 = sym (ap table_in held) ∙ r.1.table in
    let table : rewired_table new n f.table ≡ Some (new r.0) = ap (rewired_table new n) own ∙ ap (λ d. Some d) (cond-true (cover_reads r.0 n) (new r.0) r.0 r.1.reads) in
    slot-rewritten new n nets m ∙ (ap (rewired new n) held ∙ (ap (λ t. Some (record f { table = t })) table ∙ ap (λ t. Some (with_table t f)) (sym (sets.readers m r.0 r.1)))))
    (λ (u : reads_in nets m n ≡ false). slot-unread new n nets m u ∙ (held ∙ ap (λ t. Some (with_table t f)) (sym (sets.others m u))))
    (cases_Bool (reads_in nets m n))

length-rewritten : (new : Cover → Cover) (n : ℕ) (nets : List (Option FlatNet)) → length (rewritten new n nets) ≡ length nets
unfolding rewritten
length-rewritten new n nets = length-map nets (rewired new n)

pub changed-rewritten : (net : NetParts) (n : ℕ) (new : Cover → Cover) (list : List NewTable) → SetsReaders new n net.nets list → changed net (record { add = []; set = list; values = []; gone = [] }) ≡ with_nets net (rewritten new n net.nets)
changed-rewritten net n new list sets =
    changed-is net change (rewritten new n net.nets) (length-rewritten new n net.nets ∙ omega arith) (λ m _. at m (slot net.nets m) refl) (none_new net (rewritten new n net.nets) (length-rewritten new n net.nets))
  where
    change : Change
    change = record { add = []; set = list; values = []; gone = [] }

    at : (m : ℕ) (f : Option FlatNet) → slot net.nets m ≡ f → slot (rewritten new n net.nets) m ≡ changed_net change m f
    at m None held = slot-rewritten new n net.nets m ∙ ap (rewired new n) held
    at m (Some f) held = rewired-set new n net.nets list sets m f held

-- and the net goes
pub changed-collapsed : (net : NetParts) (n : NetId) (new : Cover → Cover) (list : List NewTable) → SetsReaders new n.0 net.nets list → changed net (record { add = []; set = list; values = []; gone = n ∷ [] }) ≡ with_nets net (set (rewritten new n.0 net.nets) n.0 None)
changed-collapsed net n new list sets =
    changed-is net change after (long ∙ omega arith) (λ m _. at m (slot net.nets m) refl) (none_new net after long)
  where
    change : Change
    change = record { add = []; set = list; values = []; gone = n ∷ [] }

    after : List (Option FlatNet)
    after = set (rewritten new n.0 net.nets) n.0 None

    long : length after ≡ length net.nets
    long = length-set (rewritten new n.0 net.nets) n.0 None ∙ length-rewritten new n.0 net.nets

    gone : (f : Option FlatNet) → None ≡ changed_net change n.0 f
    gone None = refl
    gone (Some f) = rw (eq-eqb n.0 n.0 refl) refl

    other : (m : ℕ) (f : Option FlatNet) → (m ≡ n.0 → ⊥) → slot net.nets m ≡ f → slot (rewritten new n.0 net.nets) m ≡ changed_net change m f
    other m None ne held = slot-rewritten new n.0 net.nets m ∙ ap (rewired new n.0) held
    other m (Some f) ne held = let apart = ne_eqb n.0 m (λ e. ne (sym e)) in rw apart (rewired-set new n.0 net.nets list sets m f held)

    at : (m : ℕ) (f : Option FlatNet) → slot net.nets m ≡ f → slot after m ≡ changed_net change m f
    at m f held =
        ⊎_elim
        (λ (e : m ≡ n.0).
        let P : ℕ → Type 0 = λ k. slot (set (rewritten new n.0 net.nets) n.0 None) k ≡ changed_net change k f in
        subst P (sym e) ((IsWritten-gone (rewritten new n.0 net.nets) n.0).here ∙ gone f))
        (λ (ne : m ≡ n.0 → ⊥). (IsWritten-gone (rewritten new n.0 net.nets) n.0).others m ne ∙ other m f ne held)
        (cases_eq m n.0)

-- ---- a net that comes

pub changed-added : (net : NetParts) (m : NewNet) → changed net (record { add = m ∷ []; set = []; values = []; gone = [] }) ≡ with_nets net (net.nets ++ made_net m ∷ [])
changed-added net m =
    changed-is net change (net.nets ++ made_net m ∷ []) (length-append net.nets (made_net m ∷ []))
    (λ k low. get_or_append_left net.nets (made_net m ∷ []) None k low ∙ at k (slot net.nets k))
    (λ i. get_or-append-add net.nets (made_net m ∷ []) i None)
  where
    change : Change
    change = record { add = m ∷ []; set = []; values = []; gone = [] }

    at : (k : ℕ) (f : Option FlatNet) → f ≡ changed_net change k f
    at k None = refl
    at k (Some f) = refl
