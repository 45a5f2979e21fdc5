-- A table that isn't total gets a default: when the network is well formed, and that it allows what it allowed wherever it allowed
-- some choice. There the nets above have the values that they had, so that a line of the table holds, and the default isn't used.
use Rattle.std.proofs.Common.{◌≡◌, ◌∙◌, ℕ, zero, suc, ◌<◌, true, not, ◌&&◌, nat_eq, List, [], ◌∷◌, map, Option, Some, None, is_some, refl, sym, ap, subst, ⊎_elim, eqb-true, arith}
use Rattle.std.proofs.lemmas.Bool.{cases_eq, or_cases, or_left, or_right, and_parts, false≢true}
use Rattle.mv_base.specs.Set.{has}
use Rattle.mv_base.specs.Meaning.{Meaning, AllowsSome, Refines}
use Rattle.mv_base.specs.declared.number.NetId.{NetId}
use Rattle.mv_cover.specs.declared.cover.Cover.{Cover}
use Rattle.mv_cover.specs.declared.line.Line.{Line}
use Rattle.mv_cover.specs.Absorb.{some_bare}
use Rattle.mv_cover.specs.Cubes.{matches}
use Rattle.mv_cover.specs.Covers.{allowed, cover_reads, some_gives, some_matches, default_gives}
use Rattle.mv_cover.specs.Lines.{IsOutput}
use Rattle.mv_cover.proofs.Absorbing.{bare-matches}
use Rattle.mv_cover.proofs.Local.{some_matches-local, allowed-local}
use Rattle.mv_graph.specs.Above.{GoesOn, IsAbove}
use Rattle.mv_graph.proofs.Paths.{above_first, above_more}
use Rattle.mv_graph.proofs.Ranks.{IsRanked}
use Rattle.mv_net.specs.declared.parts.Kind.{Kind}
use Rattle.mv_net.specs.declared.parts.Kind.TheVariants.{Input, Latch, Table, Reset}
use Rattle.mv_net.specs.declared.parts.FlatNet.{FlatNet}
use Rattle.mv_net.specs.declared.parts.FlatLatch.{FlatLatch}
use Rattle.mv_net.specs.declared.parts.NetParts.{NetParts}
use Rattle.mv_net.specs.Nets.{slot, values_in, table_in, table_reads, reads_in, port_of, latch_port_of, interface_of}
use Rattle.mv_net.specs.Formed.{IsCover, IsKind, IsReadable, WellFormed, has_table}
use Rattle.mv_net.specs.Allowed.{net_allows, Agrees, Allows, reset_gives, resets_give, of_net}
use Rattle.mv_net.specs.Changes.{with_nets}
use Rattle.mv_net.specs.Total.{IsTotal}
use Rattle.mv_net.proofs.Known.{reads_readable, values_few}
use Rattle.mv_net.proofs.Marks.{has_number}
use Rattle.mv_net.proofs.Patches.{Agrees-all}
use Rattle.mv_net.proofs.Ports.{outputs_listed}
use Rattle.mv_net.proofs.Totals.{IsTotal-covered, IsTotal-default}
use Rattle.mv_meaning.specs.Rewriting.{with_net_table, AllowOneAbove, IsOverTable, IsReformed, PutsAbove, SameWhereAllowed}
use Rattle.mv_meaning.proofs.Ranked.{not_without_ranks}
use Rattle.mv_meaning.proofs.Reformed.{net_allows-from, net_allows-parts, spelled_alike}
use Rattle.mv_meaning.proofs.Following.{above_then}
use Rattle.mv_meaning.proofs.OneTable.{IsReformed-given, one_table_formed, table-here, slot-there}
use Rattle.mv_meaning.proofs.Rewired.{cover_at}

-- the table with the default
abbrev filled : Cover → ℕ → Cover
filled c out = record c { default = Some out }

-- ---- a table that isn't total

module _ (net : NetParts) (n : ℕ) (c : Cover) (formed : WellFormed net) (table : table_in (slot net.nets n) ≡ Some c) (partial : IsTotal net.nets c → ⊥) where
  is_cover : IsCover net.nets (values_in (slot net.nets n)) c
  is_cover = cover_at net n c formed table

  no_default : c.default ≡ None
  no_default = by_default c.default refl
    where
      by_default : (d : Option ℕ) → c.default ≡ d → d ≡ None
      by_default None e = refl
      by_default (Some out) e = absurd (partial (IsTotal-default net.nets (values_in (slot net.nets n)) out c (values_few net n formed) is_cover e))

  no_bare : some_bare c.lines ≡ true → ⊥
  no_bare bare = partial (IsTotal-covered net.nets (values_in (slot net.nets n)) c (values_few net n formed) is_cover (record { each = λ at p. bare-matches at c.lines bare }))

  reads_table : (k : ℕ) → cover_reads c k ≡ true → reads_in net.nets n k ≡ true
  reads_table k h = ap (λ t. table_reads t k) table ∙ h

  -- what is over the table is above the net
  over_above : (l : ℕ) → IsOverTable net.nets c l → IsAbove (reads_in net.nets) l n
  over_above l o =
      ⊎_elim
      (λ (e : l ≡ o.first). record { path = []; goes = subst (λ k. reads_in net.nets n k ≡ true) (sym e) (reads_table o.first o.reads) })
      (λ (a : IsAbove (reads_in net.nets) l o.first). above_first (reads_in net.nets) n o.first l (reads_table o.first o.reads) a)
      o.up

  over_filled : (out l : ℕ) → IsOverTable net.nets (filled c out) l → IsAbove (reads_in net.nets) l n
  over_filled out l o = over_above l (record { first = o.first; reads = o.reads; up = o.up })

  puts_none : (out l r : ℕ) → PutsAbove net.nets n (filled c out) l r → ⊥
  puts_none out l r p =
      let up = over_filled out l p.up in
      formed.alone.none l r p.output p.reset_net (
      ⊎_elim
      (λ (e : r ≡ n). subst (IsAbove (reads_in net.nets) l) (sym e) up)
      (λ (a : IsAbove (reads_in net.nets) n r). above_then (reads_in net.nets) r n l a up)
      p.down)

  formed_filled : (out : ℕ) → IsOutput (values_in (slot net.nets n)) out → WellFormed (with_nets net (with_net_table net.nets n (filled c out)))
  formed_filled out is =
      one_table_formed net n c (filled c out) formed table
      (record {
        cubes = is_cover.cubes;
        lines = is_cover.lines;
        differ = is_cover.differ;
        default = λ set e. let same : out ≡ set = cc in subst (IsOutput (values_in (slot net.nets n))) same is;
        met = λ bare. absurd (no_bare bare);
      })
      (λ o. formed.acyclic.none n (over_filled out n o))
      (puts_none out)

pub filling_formed : (net : NetParts) (n : ℕ) (c : Cover) (out : ℕ) → WellFormed net → table_in (slot net.nets n) ≡ Some c → (IsTotal net.nets c → ⊥) → IsOutput (values_in (slot net.nets n)) out
    → WellFormed (with_nets net (with_net_table net.nets n (filled c out)))
filling_formed net n c out formed table partial is = formed_filled net n c formed table partial out is

-- ---- what the two tables allow

-- a line that gives a value matches
matched : (at : ℕ → ℕ) (v : ℕ) (ls : List Line) → some_gives at v ls ≡ true → some_matches at ls ≡ true
matched at v [] h = h
matched at v (l ∷ ls) h =
    ⊎_elim
    (λ (y : (matches at l.cube && has l.out v) ≡ true). or_left (matches at l.cube) (some_matches at ls) (and_parts (matches at l.cube) (has l.out v) y).0)
    (λ (rest : some_gives at v ls ≡ true). or_right (matches at l.cube) (some_matches at ls) (matched at v ls rest))
    (or_cases (matches at l.cube && has l.out v) (some_gives at v ls) h)

-- a table without a default gives by its lines alone
by_lines : (c : Cover) (at : ℕ → ℕ) (v : ℕ) → c.default ≡ None → allowed c at v ≡ true → some_gives at v c.lines ≡ true
unfolding allowed
by_lines c at v none h =
    ⊎_elim
    (λ (given : some_gives at v c.lines ≡ true). given)
    (λ (d : (not (some_matches at c.lines) && default_gives c.default v) ≡ true).
    absurd (false≢true (sym (ap (λ t. default_gives t v) none) ∙ (and_parts (not (some_matches at c.lines)) (default_gives c.default v) d).1)))
    (or_cases (some_gives at v c.lines) (not (some_matches at c.lines) && default_gives c.default v) h)

-- what a line gives both allow
lines_allow : (c : Cover) (at : ℕ → ℕ) (v : ℕ) → some_gives at v c.lines ≡ true → allowed c at v ≡ true
unfolding allowed
lines_allow c at v h = or_left (some_gives at v c.lines) (not (some_matches at c.lines) && default_gives c.default v) h

-- where a line matches the default isn't used
where_matched : (c : Cover) (out : ℕ) (at : ℕ → ℕ) (v : ℕ) → some_matches at c.lines ≡ true → allowed (filled c out) at v ≡ true → some_gives at v c.lines ≡ true
unfolding allowed
where_matched c out at v met h =
    ⊎_elim
    (λ (given : some_gives at v c.lines ≡ true). given)
    (λ (d : (not (some_matches at c.lines) && has out v) ≡ true). absurd (false≢true (sym (ap not met) ∙ (and_parts (not (some_matches at c.lines)) (has out v) d).0)))
    (or_cases (some_gives at v c.lines) (not (some_matches at c.lines) && has out v) h)

-- ---- assignments with the same values from outside

-- lists of the values at some numbers that are the same have the same value at each
same_at : {X : Type 0} (num : X → ℕ) (x y : ℕ → ℕ) (xs : List X) → map (λ v. x (num v)) xs ≡ map (λ v. y (num v)) xs → (n : ℕ) → has_number num xs n ≡ true → x n ≡ y n
same_at num x y [] e n h = absurd (false≢true h)
same_at num x y (v ∷ vs) e n h =
    let here : x (num v) ≡ y (num v) = cc in
    let rest : map (λ w. x (num w)) vs ≡ map (λ w. y (num w)) vs = cc in
    ⊎_elim
    (λ (is : nat_eq (num v) n ≡ true). subst (λ k. x k ≡ y k) (eqb-true (num v) n is) here)
    (λ (other : has_number num vs n ≡ true). same_at num x y vs rest n other)
    (or_cases (nat_eq (num v) n) (has_number num vs n) h)

-- x and y have the same values at the inputs and at the latch outputs
record SameGiven (net : NetParts) (x y : ℕ → ℕ) : Type 0 where
  inputs : map (λ (m : NetId). x m.0) net.inputs ≡ map (λ (m : NetId). y m.0) net.inputs
  states : map (λ (l : FlatLatch). x l.output.0) net.latches ≡ map (λ (l : FlatLatch). y l.output.0) net.latches

-- ---- nets that differ in their tables alone

interface_reformed : (net : NetParts) (nets : List (Option FlatNet)) → IsReformed net.nets nets → interface_of (with_nets net nets) ≡ interface_of net
unfolding interface_of with_nets
interface_reformed net nets reformed = λ i. record { inputs = map (λ n. port n i) net.inputs; outputs = map (λ n. port n i) net.outputs; latches = map (λ l. latch_port l i) net.latches }
  where
    port : (n : NetId) → port_of nets n ≡ port_of net.nets n
    port n = λ i. record { name = (reformed.each n.0).name i; values = spelled_alike (slot net.nets n.0) (slot nets n.0) (reformed.each n.0) i }

    latch_port : (l : FlatLatch) → latch_port_of nets l ≡ latch_port_of net.nets l
    latch_port l = λ i. record (latch_port_of net.nets l) { name = (reformed.each l.output.0).name i; values = spelled_alike (slot net.nets l.output.0) (slot nets l.output.0) (reformed.each l.output.0) i }

reset_kept : (old new : List (Option FlatNet)) (x : ℕ → ℕ) (output : NetId) (reset : Option NetId) (v : ℕ) → values_in (slot new output.0) ≡ values_in (slot old output.0) → reset_gives old x output reset v → reset_gives new x output reset v
reset_kept old new x output None v same h = subst (λ k. v < k) (sym same) h
reset_kept old new x output (Some n) v same h = h

resets_kept : (old new : List (Option FlatNet)) (x : ℕ → ℕ) → ((m : ℕ) → values_in (slot new m) ≡ values_in (slot old m)) → (ls : List FlatLatch) (vs : List ℕ) → resets_give old x ls vs → resets_give new x ls vs
resets_kept old new x same [] [] h = h
resets_kept old new x same [] (v ∷ vs) h = h
resets_kept old new x same (l ∷ ls) [] h = h
resets_kept old new x same (l ∷ ls) (v ∷ vs) h = (reset_kept old new x l.output l.reset v (same l.output.0) h.0, resets_kept old new x same ls vs h.1)

-- the last net of a path can be read
last_readable : (net : NetParts) (n m : ℕ) → WellFormed net → (path : List ℕ) → GoesOn (reads_in net.nets) m n path → IsReadable net.nets m
last_readable net n m formed [] g = reads_readable net n m formed g
last_readable net n m formed (k ∷ path) g = last_readable net k m formed path g.1

-- ---- the nets above

module _ (net : NetParts) (n : ℕ) (c : Cover) (out : ℕ) (formed : WellFormed net) (table : table_in (slot net.nets n) ≡ Some c) (partial : IsTotal net.nets c → ⊥) (one : AllowOneAbove net.nets n) where
  abbrev after : List (Option FlatNet)
  after = with_net_table net.nets n (filled c out)

  elsewhere : (m : ℕ) → (m ≡ n → ⊥) → slot after m ≡ slot net.nets m
  elsewhere m ne = slot-there net.nets n c (filled c out) table m ne

  values_kept : (m : ℕ) → values_in (slot after m) ≡ values_in (slot net.nets m)
  values_kept m = ((IsReformed-given net.nets n c (filled c out) table).each m).values

  module _ (x y : ℕ → ℕ) (new : Agrees after x) (old : Agrees net.nets y) (given : SameGiven net x y) where
    same_input : (m : ℕ) → IsKind net.nets m Input → x m ≡ y m
    same_input m k = same_at (λ (i : NetId). i.0) x y net.inputs given.inputs m (formed.inputs.all (record { 0 = m }) k)

    same_state : (m : ℕ) → IsKind net.nets m Latch → x m ≡ y m
    same_state m k = same_at (λ (l : FlatLatch). l.output.0) x y net.latches given.states m (sym (outputs_listed net.latches m) ∙ formed.states.all (record { 0 = m }) k)

    -- a net above has the value that it had, if the nets that it reads have
    same_table : (m : ℕ) (d : Cover) → IsAbove (reads_in net.nets) m n → table_in (slot net.nets m) ≡ Some d → ((k : ℕ) → reads_in net.nets m k ≡ true → x k ≡ y k) → x m ≡ y m
    same_table m d a there read =
        let apart : slot after m ≡ slot net.nets m = elsewhere m (λ e. formed.acyclic.none n (subst (λ k. IsAbove (reads_in net.nets) k n) e a)) in
        let now = (net_allows-parts (slot net.nets m) d x (x m) there (ap (λ f. net_allows f x (x m)) (sym apart) ∙ new.each m)).1 in
        let was = (net_allows-parts (slot net.nets m) d y (y m) there (old.each m)).1 in
        (one.each m d a there).one y (x m) (y m) (sym (allowed-local d x y (x m) (λ k h. read k (ap (λ t. table_reads t k) there ∙ h))) ∙ now) was

    same_net : (m : ℕ) → IsAbove (reads_in net.nets) m n → ((k : ℕ) → reads_in net.nets m k ≡ true → x k ≡ y k) → x m ≡ y m
    same_net m a read = by_kind is.net.kind refl
      where
        is : IsReadable net.nets m
        is = last_readable net n m formed a.path a.goes

        by_table : (t : Option Cover) → is.net.table ≡ t → is_some t ≡ true → x m ≡ y m
        by_table None e some = absurd (false≢true some)
        by_table (Some d) e some = same_table m d a (ap table_in is.held ∙ e) read

        by_kind : (k : Kind) → is.net.kind ≡ k → x m ≡ y m
        by_kind Input e = same_input m (record { net = is.net; held = is.held; is = e })
        by_kind Latch e = same_state m (record { net = is.net; held = is.held; is = e })
        by_kind Table e = by_table is.net.table refl ((formed.nets m is.net is.held).table ∙ ap has_table e)
        by_kind Reset e = absurd (is.plain e)

    -- by ranks this goes for all that are above
    same_ranked : (r : IsRanked (reads_in net.nets)) (bound m : ℕ) → r.rank m < bound → IsAbove (reads_in net.nets) m n → x m ≡ y m
    same_ranked r zero m low a = absurd (omega arith)
    same_ranked r (suc bound) m low a =
        same_net m a (λ k h. let falls = r.falls m k h in same_ranked r bound k (omega arith) (above_more (reads_in net.nets) n m k a h))

    same_above : (m : ℕ) → IsAbove (reads_in net.nets) m n → x m ≡ y m
    same_above m a =
        ⊎_elim
        (λ (e : x m ≡ y m). e)
        (λ (ne : x m ≡ y m → ⊥). absurd (not_without_ranks net formed (λ r. ne (same_ranked r (suc (r.rank m)) m (omega arith) a))))
        (cases_eq (x m) (y m))

    -- so a line of the table holds, and the assignment agrees with what there was
    line_holds : some_matches x c.lines ≡ true
    line_holds =
        let was = (net_allows-parts (slot net.nets n) c y (y n) table (old.each n)).1 in
        some_matches-local c.lines x y (λ k h. same_above k (record { path = []; goes = reads_table net n c formed table partial k h }))
        ∙ matched y (y n) c.lines (by_lines c y (y n) (no_default net n c formed table partial) was)

    agreed : Agrees net.nets x
    agreed =
        let parts = net_allows-parts (slot after n) (filled c out) x (x n) (table-here net.nets n c (filled c out) table) (new.each n) in
        let low : x n < values_in (slot net.nets n) = subst (λ k. x n < k) (values_kept n) parts.0 in
        let allows : allowed c x (x n) ≡ true = lines_allow c x (x n) (where_matched c out x (x n) line_holds parts.1) in
        Agrees-all net.nets n x
        (record { each = λ m ne. ap (λ f. net_allows f x (x m)) (sym (elsewhere m ne)) ∙ new.each m })
        (net_allows-from (slot net.nets n) c x (x n) table low allows)

  -- what agreed before agrees now
  agrees_now : (y : ℕ → ℕ) → Agrees net.nets y → Agrees after y
  agrees_now y old =
      let parts = net_allows-parts (slot net.nets n) c y (y n) table (old.each n) in
      let low : y n < values_in (slot after n) = subst (λ k. y n < k) (sym (values_kept n)) parts.0 in
      let given = by_lines c y (y n) (no_default net n c formed table partial) parts.1 in
      Agrees-all after n y
      (record { each = λ m ne. ap (λ f. net_allows f y (y m)) (elsewhere m ne) ∙ old.each m })
      (net_allows-from (slot after n) (filled c out) y (y n) (table-here net.nets n c (filled c out) table) low (lines_allow (filled c out) y (y n) given))

  -- ---- what the networks allow

  only_allowed : (i s o k r : List ℕ) → AllowsSome (of_net net) i s → Allows (with_nets net after) i s o k r → Allows net i s o k r
  unfolding of_net with_nets
  only_allowed i s o k r some b =
      let a = some.allowed in
      record {
        at = b.at;
        agrees = agreed b.at a.at b.agrees a.agrees (record { inputs = b.inputs ∙ sym a.inputs; states = b.states ∙ sym a.states });
        inputs = b.inputs;
        states = b.states;
        outputs = b.outputs;
        next = b.next;
        resets = resets_kept after net.nets b.at (λ m. sym (values_kept m)) net.latches r b.resets;
      }

  all_allowed : (i s o k r : List ℕ) → Allows net i s o k r → Allows (with_nets net after) i s o k r
  unfolding with_nets
  all_allowed i s o k r a = record {
    at = a.at;
    agrees = agrees_now a.at a.agrees;
    inputs = a.inputs;
    states = a.states;
    outputs = a.outputs;
    next = a.next;
    resets = resets_kept net.nets after a.at values_kept net.latches r a.resets;
  }

  means_where_allowed : SameWhereAllowed (of_net (with_nets net after)) (of_net net)
  unfolding of_net
  means_where_allowed = record {
    same = interface_reformed net after (IsReformed-given net.nets n c (filled c out) table);
    only = only_allowed;
    all = all_allowed;
  }

pub filling_means : (net : NetParts) (n : ℕ) (c : Cover) (out : ℕ) → WellFormed net → table_in (slot net.nets n) ≡ Some c → (IsTotal net.nets c → ⊥) → AllowOneAbove net.nets n
    → SameWhereAllowed (of_net (with_nets net (with_net_table net.nets n (filled c out)))) (of_net net)
filling_means net n c out formed table partial one = means_where_allowed net n c out formed table partial one

-- what allows the same wherever some choice was allowed may take the old one's place where others are free
pub refines_where_allowed : (b a : Meaning) → SameWhereAllowed b a → Refines true b a
refines_where_allowed b a m = record {
  narrows = record { same = m.same; only = λ i s o n r some h. m.only i s o n r (some refl) h };
  some = λ i s some. record { o = some.o; n = some.n; r = some.r; allowed = m.all i s some.o some.n some.r some.allowed };
}

pub filling_refines : (net : NetParts) (n : ℕ) (c : Cover) (out : ℕ) → WellFormed net → table_in (slot net.nets n) ≡ Some c → (IsTotal net.nets c → ⊥) → AllowOneAbove net.nets n
    → Refines true (of_net (with_nets net (with_net_table net.nets n (filled c out)))) (of_net net)
filling_refines net n c out formed table partial one = refines_where_allowed _ _ (filling_means net n c out formed table partial one)
