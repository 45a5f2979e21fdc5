-- What dividing the tables that read one of a divisor's nets saves is what dividing all of them does.
use Rattle.std.proofs.Common.{◌≡◌, ◌∙◌, ℕ, ◌+◌, ◌<◌, ◌≤◌, true, false, nat_eq, is_some, Option, Some, None, List, [], ◌∷◌, length, map, take, get_or, All, Contains, inl, inr, refl, sym, ap, subst, arith}
use Rattle.std.proofs.lemmas.Bool.{cases_lt, false≢true, eq-eqb, or_left, or_right, eqb-true}
use Rattle.std.proofs.lemmas.List.{length-map, get_or_past, get_or_default, get_or-map}
use Rattle.std.proofs.lemmas.List.Elements.{All-weaker}
use Rattle.mv_base.specs.declared.number.NetId.{NetId}
use Rattle.mv_cover.specs.Literal.{Lit}
use Rattle.mv_cover.specs.Covers.{cube_reads, lines_read}
use Rattle.mv_cover.specs.declared.line.Line.{Line}
use Rattle.mv_cover.specs.declared.cover.Cover.{Cover}
use Rattle.mv_cover.proofs.Absorbing.{any_at, find_any}
use Rattle.mv_graph.specs.Nets.{has_id, ids_ascend, IsAscending}
use Rattle.mv_graph.proofs.Nets.{above_first, ascend_tail}
use Rattle.mv_net.specs.declared.parts.FlatNet.{FlatNet}
use Rattle.mv_net.specs.declared.parts.NetParts.{NetParts}
use Rattle.mv_net.specs.Formed.{WellFormed}
use Rattle.mv_net.specs.Nets.{slot, table_in, table_reads, net_reads}
use Rattle.mv_net.proofs.Known.{reads_readable}
use Rattle.mv_kernels.proofs.Lists.{Contains-none, Contains-cons_cases, Contains-map}
use Rattle.mv_divide.specs.declared.part.Part.{Part}
use Rattle.mv_gains.specs.Candidates.{StandsIn}
use Rattle.mv_gains.specs.Gains.{lines_in, lines_at, covers_at}
use Rattle.mv_gains.specs.Holders.{Ascends}
use Rattle.mv_gains.specs.Known.{IsOn, AreHeld, numbers}
use Rattle.mv_gains.specs.Tables.{HasLiteral, IsGainAt, IsPartsSaving, IsSavingAt, IsTablesGain}
use Rattle.mv_gains.proofs.Parts.{line_of}
use Rattle.mv_gains.proofs.Savings.{table_cases}
use Rattle.mv_gains.proofs.Noting.{take_more}
use Rattle.mv_gains.proofs.Sums.{ascends_at, ascends_few, gathered, sum_push}

-- ---- who reads a net

cube_reads_at : (c : List Lit) (l : Lit) → Contains c l → cube_reads c l.net.0 ≡ true
cube_reads_at c l i = any_at (λ (m : Lit). nat_eq m.net.0 l.net.0) c l i (eq-eqb l.net.0 l.net.0 refl)

lines_read_at : (ls : List Line) (line : Line) (m : ℕ) → Contains ls line → cube_reads line.cube m ≡ true → lines_read ls m ≡ true
lines_read_at [] line m i h = absurd (Contains-none line i)
lines_read_at (x ∷ xs) line m i h =
    elim (Contains-cons_cases line x xs i) [
      | inl e ↦ or_left (cube_reads x.cube m) (lines_read xs m) (ap (λ (y : Line). cube_reads y.cube m) e ∙ h)
      | inr t ↦ or_right (cube_reads x.cube m) (lines_read xs m) (lines_read_at xs line m t h)
    ]

pub net_reads_at : (f : Option FlatNet) (line : Line) (l : Lit) → Contains (lines_at f) line → Contains line.cube l → net_reads f l.net.0 ≡ true
net_reads_at f line l there has = by (table_in f) there
  where
    by : (t : Option Cover) → Contains (lines_in t) line → table_reads t l.net.0 ≡ true
    by None i = absurd (Contains-none line i)
    by (Some c) i = lines_read_at c.lines line l.net.0 i (cube_reads_at line.cube l has)

pub parts_read : (f : Option FlatNet) (l : Lit) → HasLiteral l (covers_at f) → net_reads f l.net.0 ≡ true
parts_read f l h =
    let from = line_of (lines_at f) h.part h.cube h.there h.held in
    net_reads_at f from.line l from.there (subst (λ (c : List Lit). Contains c l) from.is h.has)

-- what stands in a table is on nets that are held
pub stands_held : (net : NetParts) (cube : List Lit) → WellFormed net → StandsIn net.nets cube → All (AreHeld net.nets) cube
stands_held net cube formed stands =
    All-weaker (Contains stands.line.cube) (AreHeld net.nets)
    (λ l i.
    let readable = reads_readable net stands.net l.net.0 formed (net_reads_at (slot net.nets stands.net) stands.line l stands.there i) in
    ap is_some readable.held) cube stands.each

-- ---- the tables in turn

-- what is kept of the table of a net
pub table_at : {X : Type 0} (kept_of : Option FlatNet → List X) → kept_of None ≡ [] → (nets : List (Option FlatNet)) (tables : List (List X)) → tables ≡ map kept_of nets → (n : ℕ) → get_or tables n [] ≡ kept_of (slot nets n)
table_at {X} kept_of none nets tables are n =
    ap (λ (ts : List (List X)). get_or ts n []) are ∙
    elim (cases_lt n (length nets)) [
      | inl low ↦ get_or-map kept_of nets n None [] low
      | inr past ↦
          get_or_past (map kept_of nets) n [] (omega (arith, past, length-map nets kept_of)) ∙
          (sym none ∙ ap kept_of (sym (get_or_past nets n None past)))
    ]

pub has_number : (ns : List NetId) (p : ℕ) → has_id ns p ≡ true → Contains (numbers ns) p
has_number ns p h =
    let found = find_any (λ (n : NetId). nat_eq n.0 p) ns h in
    subst (Contains (numbers ns)) (eqb-true found.x.0 p found.pass) (Contains-map (λ (n : NetId). n.0) ns found.x found.there)

numbers_ascend : (low high : ℕ) (ns : List NetId) → low ≤ high → ids_ascend ns ≡ true → ((m : ℕ) → has_id ns m ≡ true → low ≤ m) → ((m : ℕ) → has_id ns m ≡ true → m < high) → Ascends low high (numbers ns)
numbers_ascend low high [] room up from below = room
numbers_ascend low high (n ∷ ns) room up from below =
    let here : has_id (n ∷ ns) n.0 ≡ true = or_left (nat_eq n.0 n.0) (has_id ns n.0) (eq-eqb n.0 n.0 refl) in
    let first : n.0 < high = below n.0 here in (
      from n.0 here,
      numbers_ascend (n.0 + 1) high ns (omega arith) (ascend_tail n ns up)
          (λ m h. let above = above_first n ns m up h in omega (arith, above))
          (λ m h. below m (or_right (nat_eq n.0 m) (has_id ns m) h)),
    )

module _ {X : Type 0} (kept_of : Option FlatNet → List X) (nets : List (Option FlatNet)) (tables : List (List X)) (key : ℕ) (readers : List NetId) (are : tables ≡ map kept_of nets) (a : IsAscending (λ m. net_reads (slot nets m) key) readers) where
  long : length tables ≡ length nets
  long = ap length are ∙ length-map nets kept_of

  pub reads_below : (m : ℕ) → has_id readers m ≡ true → m < length tables
  reads_below m h =
      elim (cases_lt m (length nets)) [
        | inl low ↦ omega (arith, low, long)
        | inr past ↦
            let none : net_reads (slot nets m) key ≡ false = ap (λ f. net_reads f key) (get_or_past nets m None past) in
            absurd (false≢true (sym none ∙ (sym (a.members m) ∙ h)))
      ]

  pub readers_ascend : Ascends 0 (length tables) (numbers readers)
  readers_ascend = numbers_ascend 0 (length tables) readers (omega arith) a.ascending (λ m h. omega arith) reads_below

module _ (nets : List (Option FlatNet)) (tables : List (List Part)) (key : ℕ) (readers : List NetId) (are : tables ≡ map covers_at nets) (a : IsAscending (λ m. net_reads (slot nets m) key) readers) where
  pub gain_readers : (divisor : List (List Lit)) (gain : ℕ) → IsOn divisor key → IsGainAt tables (numbers readers) divisor gain → IsTablesGain tables divisor gain
  gain_readers divisor gain on sum =
      let l = on.is.from in
      gathered (IsSavingAt tables divisor) (IsPartsSaving divisor) [] tables 0 (numbers readers) gain
      (subst (λ n. Ascends 0 n (numbers readers)) (omega arith) (readers_ascend covers_at nets tables key readers are a))
      (λ p n low h. subst (λ q. IsSavingAt tables divisor q n) (omega arith) h)
      (λ p low.
      elim (table_cases divisor on.from l (get_or tables p []) on.there on.is.there) [
        | inl has ↦
            let reads : net_reads (slot nets p) key ≡ true =
            subst (λ m. net_reads (slot nets p) m ≡ true) on.is.is (parts_read (slot nets p) l (subst (HasLiteral l) (table_at covers_at refl nets tables are p) has)) in
            inl (subst (Contains (numbers readers)) (omega arith) (has_number readers p (a.members p ∙ reads)))
        | inr none ↦ inr none
      ]) sum

-- ---- one net after another

number_at : (ns : List NetId) (i : ℕ) (n : NetId) → i < length ns → n ≡ get_or ns i n → n.0 ≡ get_or (numbers ns) i n.0
number_at ns i n low at = ap (λ (m : NetId). m.0) at ∙ sym (get_or-map (λ (m : NetId). m.0) ns i n n.0 low)

pub number_low : (high : ℕ) (ns : List NetId) (i : ℕ) (n : NetId) → i < length ns → n ≡ get_or ns i n → Ascends 0 high (numbers ns) → n.0 < high
number_low high ns i n low at a =
    let inside = ascends_at 0 high (numbers ns) i n.0 a (omega (arith, low, length-map ns (λ (m : NetId). m.0))) in
    omega (arith, inside, number_at ns i n low at)

pub numbers_few : (high : ℕ) (ns : List NetId) → Ascends 0 high (numbers ns) → length ns ≤ high
numbers_few high ns a = let few = ascends_few 0 high (numbers ns) a in omega (arith, few, length-map ns (λ (m : NetId). m.0))

pub gain_more : (tables : List (List Part)) (divisor : List (List Lit)) (ns : List NetId) (i : ℕ) (n : NetId) (parts : List Part) (total saved : ℕ) → i < length ns → n ≡ get_or ns i n → n.0 < length tables → parts ≡ get_or tables n.0 parts → IsGainAt tables (take i (numbers ns)) divisor total → IsPartsSaving divisor parts saved → IsGainAt tables (take (i + 1) (numbers ns)) divisor (total + saved)
gain_more tables divisor ns i n parts total saved low at inside is sum s =
    let more = take_more (numbers ns) i n.0 (omega (arith, low, length-map ns (λ (m : NetId). m.0))) (number_at ns i n low at) in
    let here : IsSavingAt tables divisor n.0 saved = subst (λ (ps : List Part). IsPartsSaving divisor ps saved) (is ∙ get_or_default tables n.0 parts [] inside) s in
    subst (λ (ps : List ℕ). IsGainAt tables ps divisor (total + saved)) (sym more)
    (sum_push (IsSavingAt tables divisor) (take i (numbers ns)) n.0 total saved sum here)
