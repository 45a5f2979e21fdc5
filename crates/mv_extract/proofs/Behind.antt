-- What a step changes: the table of the net that comes, and tables that read it from then on.
use Rattle.std.proofs.Common.{◌≡◌, ◌∙◌, ℕ, zero, suc, ◌+◌, ◌<◌, ◌≤◌, Bool, true, false, nat_eq, Option, Some, None, List, [], ◌∷◌, ◌++◌, length, map, filter, is_some, All, Contains, inl, inr, refl, sym, ap, subst, ⊎_elim, arith}
use Rattle.std.proofs.lemmas.Bool.{cases_eq, cases_lt, false≢true, or_left, or_right, eq-eqb}
use Rattle.std.proofs.lemmas.List.{length-map, get_or_past}
use Rattle.std.proofs.lemmas.List.Elements.{All-nil, All-cons, Contains-append_left, Contains-append_right, Contains-push}
use Rattle.std.specs.List.{flat_map}
use Rattle.mv_base.specs.Set.{one}
use Rattle.mv_base.specs.declared.number.NetId.{NetId}
use Rattle.mv_cover.specs.Literal.{Lit}
use Rattle.mv_cover.specs.Covers.{cube_reads, lines_read}
use Rattle.mv_cover.specs.declared.line.Line.{Line}
use Rattle.mv_divide.specs.declared.quotient.Quotient.{Quotient}
use Rattle.mv_divide.specs.Tables.{IsDivided, lines_for, with_one}
use Rattle.mv_division.specs.Divisors.{IsDivisorOver, add_rule, with_divisor}
use Rattle.mv_division.proofs.Adding.{added_leaves, slot_before}
use Rattle.mv_division.proofs.Applying.{divided_leaves, others_kept}
use Rattle.mv_cover.proofs.Absorbing.{any_at}
use Rattle.mv_entry.specs.Entries.{Entry}
use Rattle.mv_gains.proofs.Readers.{table_at}
use Rattle.mv_kernels.proofs.Lists.{Contains-first, Contains-none, Contains-cons_cases}
use Rattle.mv_meaning.proofs.OneTable.{table-here}
use Rattle.mv_meaning.specs.Rewriting.{with_net_table}
use Rattle.mv_net.specs.declared.parts.FlatNet.{FlatNet}
use Rattle.mv_net.specs.declared.parts.NetParts.{NetParts}
use Rattle.mv_net.specs.Changes.{with_nets}
use Rattle.mv_net.specs.Formed.{WellFormed}
use Rattle.mv_net.specs.Index.{is_held}
use Rattle.mv_net.specs.Nets.{slot, table_in, table_reads, net_reads}
use Rattle.mv_pass.specs.Courses.{Visits, VisitsAll}
use Rattle.mv_rules.proofs.Kept.{kept_formed}
use Rattle.mv_extract.specs.Dividing.{IsReady}
use Rattle.mv_extract.specs.Keeping.{AreBehind}
use Rattle.mv_extract.specs.Steps.{DividesNet, Own, LetBe, Divided, TakesDivisor, next_net}
use Rattle.mv_extract.proofs.Leaving.{Left, left_visits, ready_added}

-- ---- a divided table reads the net that stands for the divisor

lines_reading : (ls : List Line) (l : Line) (m : ℕ) → Contains ls l → cube_reads l.cube m ≡ true → lines_read ls m ≡ true
lines_reading [] l m i h = absurd (Contains-none l i)
lines_reading (x ∷ xs) l m i h =
    elim (Contains-cons_cases l x xs i) [
      | inl e ↦ or_left (cube_reads x.cube m) (lines_read xs m) (ap (λ (y : Line). cube_reads y.cube m) e ∙ h)
      | inr t ↦ or_right (cube_reads x.cube m) (lines_read xs m) (lines_reading xs l m t h)
    ]

reads_at : (c : List Lit) (l : Lit) → Contains c l → cube_reads c l.net.0 ≡ true
reads_at c l i = any_at (λ (m : Lit). nat_eq m.net.0 l.net.0) c l i (eq-eqb l.net.0 l.net.0 refl)

record Reading (d : NetId) (lines : List Line) : Type 0 where
  line : Line
  there : Contains lines line
  has : Contains line.cube (record { net = d; set = one 1 })

line_of_quotient : (d : NetId) (q : Quotient) (rest : List Line) (cubes : List (List Lit)) → q.cubes ≡ cubes → (q.cubes ≡ [] → Reading d rest) → Reading d (lines_for d q ++ rest)
line_of_quotient d q rest [] e later =
    let r = later e in
    record { line = r.line; there = Contains-append_right (lines_for d q) rest r.line r.there; has = r.has }
line_of_quotient d q rest (s ∷ ss) e later =
    let line : Line = record { cube = with_one d s; out = q.out } in
    let first : Contains (lines_for d q) line =
    subst (λ (cs : List (List Lit)). Contains (map (λ (c : List Lit). record { cube = with_one d c; out = q.out }) cs) line) (sym e)
    (Contains-first line (map (λ (c : List Lit). record { cube = with_one d c; out = q.out }) ss)) in
    record {
      line = line;
      there = Contains-append_left (lines_for d q) rest line first;
      has = Contains-push s (record { net = d; set = one 1 });
    }

quotient_line : (d : NetId) (quotients : List Quotient) → (All (λ (q : Quotient). q.cubes ≡ []) quotients → ⊥) → Reading d (flat_map (lines_for d) quotients)
quotient_line d [] some = absurd (some (All-nil (λ (q : Quotient). q.cubes ≡ [])))
quotient_line d (q ∷ qs) some =
    line_of_quotient d q (flat_map (lines_for d) qs) q.cubes refl (λ e. quotient_line d qs (λ none. some (All-cons (λ (x : Quotient). x.cubes ≡ []) q qs e none)))

divided_reads : (old : List Line) (divisor : List (List Lit)) (d : NetId) (lines : List Line) → IsDivided old divisor d lines → lines_read lines d.0 ≡ true
divided_reads old divisor d lines is =
    let r = quotient_line d is.quotients is.some in
    let there : Contains lines r.line =
    subst (λ (ls : List Line). Contains ls r.line) (sym is.table.are) (Contains-append_right (filter is.table.stays old) (flat_map (lines_for d) is.quotients) r.line r.there) in
    lines_reading lines r.line d.0 there (reads_at r.line.cube (record { net = d; set = one 1 }) r.has)

-- ---- visits

module _ (free : Bool) (divisor : List (List Lit)) (d : NetId) (mid : NetParts) (ready : IsReady mid.nets divisor d 0) where
  -- what doesn't read the net d is as it was
  record Stays (cur : NetParts) : Type 0 where
    same : (m : ℕ) → net_reads (slot cur.nets m) d.0 ≡ false → slot cur.nets m ≡ slot mid.nets m
    own : slot cur.nets d.0 ≡ slot mid.nets d.0

  stays_visit : (n : ℕ) (cur new : NetParts) (es : List Entry) → WellFormed cur → Stays cur → DividesNet free divisor d n cur es new → Stays new
  unfolding with_nets
  stays_visit n cur new es formed stays (Own own still) = subst Stays (sym still.1) stays
  stays_visit n cur new es formed stays (LetBe none still) = subst Stays (sym still.1) stays
  stays_visit n cur new es formed stays (Divided by table lines division applies is) =
      let has = divided_leaves cur new (record { 0 = n }) d by divisor table lines formed division applies in
      let nets_are : new.nets ≡ with_net_table cur.nets n has.table = ap (λ (q : NetParts). q.nets) has.new_is in
      record {
        same = λ m none.
            ⊎_elim
            (λ (at : m ≡ n).
            let here : table_in (slot new.nets m) ≡ Some has.table =
            ap (λ k. table_in (slot new.nets k)) at ∙ (ap (λ nets. table_in (slot nets n)) nets_are ∙ table-here cur.nets n table has.table division.table) in
            let reads : net_reads (slot new.nets m) d.0 ≡ true =
            ap (λ t. table_reads t d.0) here ∙ (ap (λ ls. lines_read ls d.0) has.lines_are ∙ divided_reads table.lines divisor d lines division.divided) in
            absurd (false≢true (sym none ∙ reads)))
            (λ (other : m ≡ n → ⊥).
            let kept : slot new.nets m ≡ slot cur.nets m = ap (λ nets. slot nets m) nets_are ∙ others_kept cur.nets n m has.table other in
            kept ∙ stays.same m (sym (ap (λ f. net_reads f d.0) kept) ∙ none))
            (cases_eq m n);
        own = ap (λ nets. slot nets d.0) nets_are ∙ (others_kept cur.nets n d.0 has.table (λ e. division.other (sym e)) ∙ stays.own);
      }

  stays_visits : (n : ℕ) (cur : NetParts) (es : List Entry) → WellFormed mid → Visits (DividesNet free divisor d) n mid es cur → Stays cur
  stays_visits zero cur es formed still = subst Stays (sym still.1) (record { same = λ m none. refl; own = refl })
  stays_visits (suc n) cur es formed turn =
      stays_visit n turn.mid cur turn.rest (left_visits free divisor d mid ready n turn.mid turn.front formed turn.first).formed
      (stays_visits n turn.mid turn.front formed turn.first) turn.second

-- ---- a whole step

pub record Stepped (a b : NetParts) : Type 0 where
  pub long : length b.nets ≡ length a.nets + 1
  pub held : is_held b.nets (length a.nets) ≡ true
  pub same : (n : ℕ) → (n ≡ length a.nets → ⊥) → net_reads (slot b.nets n) (length a.nets) ≡ false → slot b.nets n ≡ slot a.nets n

-- what is kept of each table is behind by what a step changes
pub tables_behind : {X : Type 0} (kept_of : Option FlatNet → List X) (a b : NetParts) → kept_of None ≡ [] → Stepped a b → AreBehind kept_of b.nets (next_net a) (map kept_of a.nets)
tables_behind kept_of a b none step = record {
  more = let long = step.long in omega (arith, long, length-map a.nets kept_of);
  others = λ n other still. ap kept_of (step.same n other still) ∙ sym (table_at kept_of none a.nets (map kept_of a.nets) refl n);
}

pub step_behind : (free : Bool) (divisor : List (List Lit)) (a b : NetParts) (es : List Entry) → WellFormed a → IsDivisorOver a.nets divisor → TakesDivisor free divisor a es b → Stepped a b
unfolding with_nets
step_behind free divisor a b es formed over t = record {
  long = left.long ∙ long;
  held = ap is_some (stays.own ∙ (ready_added a name divisor formed over).stands.held);
  same = λ n other none. stays.same n none ∙ before n other;
}
  where
    name : List ℕ
    name = t.first.name

    mid : NetParts
    mid = with_divisor a name divisor

    long : length mid.nets ≡ length a.nets + 1
    long = (ready_added a name divisor formed over).last

    mid_is : t.mid ≡ mid
    mid_is = added_leaves a t.mid name divisor formed over t.first.applies

    mid_formed : WellFormed mid
    mid_formed = subst WellFormed mid_is (kept_formed free (add_rule a.nets name divisor) a t.mid formed t.first.applies)

    visits : VisitsAll (DividesNet free divisor (next_net a)) mid t.rest b
    visits = subst (λ m. VisitsAll (DividesNet free divisor (next_net a)) m t.rest b) mid_is t.second

    left : Left free divisor (next_net a) mid (ready_added a name divisor formed over) (length mid.nets) b
    left = left_visits free divisor (next_net a) mid (ready_added a name divisor formed over) (length mid.nets) b t.rest mid_formed visits

    stays : Stays free divisor (next_net a) mid (ready_added a name divisor formed over) b
    stays = stays_visits free divisor (next_net a) mid (ready_added a name divisor formed over) (length mid.nets) b t.rest mid_formed visits

    before : (n : ℕ) → (n ≡ length a.nets → ⊥) → slot mid.nets n ≡ slot a.nets n
    before n other =
        ⊎_elim
        (λ (low : n < length a.nets). slot_before a name divisor n low)
        (λ (past : length a.nets ≤ n). get_or_past mid.nets n None (omega (arith, long, past, other)) ∙ sym (get_or_past a.nets n None past))
        (cases_lt n (length a.nets))
