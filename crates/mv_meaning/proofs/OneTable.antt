-- A net that is given another table: which nets are then above which, when the network is well formed, and when it means what it
-- meant.
use Rattle.std.proofs.Common.{◌≡◌, ◌∙◌, ◌⊎◌, ℕ, ◌<◌, ◌≤◌, true, List, [], ◌∷◌, length, map, Option, Some, None, is_some, inl, inr, refl, sym, ap, subst, ⊎_elim}
use Rattle.std.specs.Prelude.{◌↔◌}
use Rattle.std.proofs.lemmas.Bool.{cases_eq, cases_lt, false≢true}
use Rattle.std.proofs.lemmas.List.{get_or-set_same, get_or-set_other, get_or_past, set_past}
use Rattle.mv_base.specs.Meaning.{SameMeaning}
use Rattle.mv_cover.specs.declared.cover.Cover.{Cover}
use Rattle.mv_cover.specs.Covers.{allowed, cover_reads}
use Rattle.mv_cover.specs.Covering.{IsPoint}
use Rattle.mv_graph.specs.Above.{GoesOn, IsAbove, IsAcyclic}
use Rattle.mv_graph.proofs.Paths.{above_first}
use Rattle.mv_net.specs.declared.parts.Kind.TheVariants.{Latch, Reset}
use Rattle.mv_net.specs.declared.parts.FlatNet.{FlatNet}
use Rattle.mv_net.specs.declared.parts.NetParts.{NetParts}
use Rattle.mv_net.specs.Nets.{slot, values_in, table_in, table_reads, net_reads, reads_in}
use Rattle.mv_net.specs.Formed.{IsCover, ResetsStandAlone, WellFormed}
use Rattle.mv_net.specs.Allowed.{net_table_allows, Agrees, of_net}
use Rattle.mv_net.specs.Changes.{with_nets}
use Rattle.mv_net.proofs.Patches.{IsWritten, AgreesBut, AgreesBut-from, Agrees-others}
use Rattle.mv_meaning.specs.Rewriting.{given_table, with_net_table, IsAlike, IsReformed, AreCovers, IsOverTable, PutsAbove}
use Rattle.mv_meaning.proofs.Reformed.{IsAlike-refl, IsReformed-back, kind_kept, reformed_formed, same_tables}
use Rattle.mv_meaning.proofs.Following.{above_then}
use Rattle.mv_meaning.proofs.Rewired.{cover_at}

-- ---- which nets they are

pub IsWritten-given : (nets : List (Option FlatNet)) (n : ℕ) (c : Cover) → IsWritten nets n (given_table c (slot nets n)) (with_net_table nets n c)
unfolding with_net_table
IsWritten-given nets n c = record {
  here =
      ⊎_elim
      (λ (low : n < length nets). get_or-set_same nets n (given_table c (slot nets n)) None low)
      (λ (past : length nets ≤ n).
      let none : slot nets n ≡ None = get_or_past nets n None past in
      ap (λ l. slot l n) (set_past nets n (given_table c (slot nets n)) past) ∙ (none ∙ ap (given_table c) (sym none)))
      (cases_lt n (length nets));
  others = λ m ne. get_or-set_other nets n m (given_table c (slot nets n)) None ne;
}

-- a net that had a table is like the one with this table
IsAlike-given : (c : Cover) (f : Option FlatNet) → is_some (table_in f) ≡ true → IsAlike f (given_table c f)
IsAlike-given c None some = IsAlike-refl None
IsAlike-given c (Some f) some = record { kind = refl; name = refl; values = refl; value_names = refl; tabled = sym some }

table-given : (c : Cover) (f : Option FlatNet) → is_some (table_in f) ≡ true → table_in (given_table c f) ≡ Some c
table-given c None some = absurd (false≢true some)
table-given c (Some f) some = refl

module _ (nets : List (Option FlatNet)) (n : ℕ) (old c : Cover) (table : table_in (slot nets n) ≡ Some old) where
  pub table-here : table_in (slot (with_net_table nets n c) n) ≡ Some c
  table-here = ap table_in (IsWritten-given nets n c).here ∙ table-given c (slot nets n) (ap (λ t. is_some t) table)

  pub slot-there : (m : ℕ) → (m ≡ n → ⊥) → slot (with_net_table nets n c) m ≡ slot nets m
  slot-there m ne = (IsWritten-given nets n c).others m ne

  pub IsReformed-given : IsReformed nets (with_net_table nets n c)
  IsReformed-given = record {
    each = λ m.
        ⊎_elim
        (λ (e : m ≡ n). let P : ℕ → Type 0 = λ k. IsAlike (slot nets k) (slot (with_net_table nets n c) k) in subst P (sym e) here)
        (λ (ne : m ≡ n → ⊥). subst (λ g. IsAlike (slot nets m) g) (sym (slot-there m ne)) (IsAlike-refl (slot nets m)))
        (cases_eq m n);
  }
    where
      here : IsAlike (slot nets n) (slot (with_net_table nets n c) n)
      here = subst (λ g. IsAlike (slot nets n) g) (sym (IsWritten-given nets n c).here) (IsAlike-given c (slot nets n) (ap (λ t. is_some t) table))

  -- ---- which nets are above which

  -- n reads what the table reads, any other net what it read
  pub reads-here : (k : ℕ) → reads_in (with_net_table nets n c) n k ≡ cover_reads c k
  reads-here k = ap (λ t. table_reads t k) table-here

  pub reads-there : (m k : ℕ) → (m ≡ n → ⊥) → reads_in (with_net_table nets n c) m k ≡ reads_in nets m k
  reads-there m k ne = ap (λ f. net_reads f k) (slot-there m ne)

  -- it was above before, or the table puts it there
  record IsPut (above low : ℕ) : Type 0 where
    down : (low ≡ n) ⊎ IsAbove (reads_in nets) n low
    up : IsOverTable nets c above

  at_row : (above m : ℕ) → m ≡ n → cover_reads c above ≡ true → IsPut above m
  at_row above m e reads = record { down = inl e; up = record { first = above; reads = reads; up = inl refl } }

  from_row : (above m k : ℕ) → m ≡ n → cover_reads c k ≡ true → IsAbove (reads_in nets) above k ⊎ IsPut above k → IsPut above m
  from_row above m k e reads rest =
      ⊎_elim
      (λ (a : IsAbove (reads_in nets) above k). record { down = inl e; up = record { first = k; reads = reads; up = inr a } })
      (λ (p : IsPut above k). record { down = inl e; up = p.up })
      rest

  from_other : (above m k : ℕ) → reads_in nets m k ≡ true → IsAbove (reads_in nets) above k ⊎ IsPut above k → IsAbove (reads_in nets) above m ⊎ IsPut above m
  from_other above m k reads rest =
      ⊎_elim
      (λ (a : IsAbove (reads_in nets) above k). inl (above_first (reads_in nets) m k above reads a))
      (λ (p : IsPut above k). inr (record {
        down = inr (
            ⊎_elim
            (λ (e : k ≡ n). record { path = []; goes = subst (λ j. reads_in nets m j ≡ true) e reads })
            (λ (a : IsAbove (reads_in nets) n k). above_first (reads_in nets) m k n reads a)
            p.down);
        up = p.up;
      }))
      rest

  goes_put : (above m : ℕ) (path : List ℕ) → GoesOn (reads_in (with_net_table nets n c)) above m path → IsAbove (reads_in nets) above m ⊎ IsPut above m
  goes_put above m [] g =
      ⊎_elim
      (λ (e : m ≡ n). let P : ℕ → Type 0 = λ k. reads_in (with_net_table nets n c) k above ≡ true in inr (at_row above m e (sym (reads-here above) ∙ subst P e g)))
      (λ (ne : m ≡ n → ⊥). inl (record { path = []; goes = sym (reads-there m above ne) ∙ g }))
      (cases_eq m n)
  goes_put above m (k ∷ path) g =
      let rest = goes_put above k path g.1 in
      ⊎_elim
      (λ (e : m ≡ n).
      let P : ℕ → Type 0 = λ j. reads_in (with_net_table nets n c) j k ≡ true in
      inr (from_row above m k e (sym (reads-here k) ∙ subst P e g.0) rest))
      (λ (ne : m ≡ n → ⊥). from_other above m k (sym (reads-there m k ne) ∙ g.0) rest)
      (cases_eq m n)

  -- what is above a net over the table is over it
  over_then : (m above : ℕ) → IsOverTable nets c m → IsAbove (reads_in nets) above m → IsOverTable nets c above
  over_then m above o a = record {
    first = o.first;
    reads = o.reads;
    up =
        inr (
        ⊎_elim
        (λ (e : m ≡ o.first). subst (IsAbove (reads_in nets) above) e a)
        (λ (b : IsAbove (reads_in nets) m o.first). above_then (reads_in nets) o.first m above b a)
        o.up);
  }

  -- where the table reads neither n nor a net below it, no net comes to be above itself
  pub acyclic_given : IsAcyclic (reads_in nets) → (IsOverTable nets c n → ⊥) → IsAcyclic (reads_in (with_net_table nets n c))
  acyclic_given is loop = record {
    none = λ m a.
        ⊎_elim
        (λ (was : IsAbove (reads_in nets) m m). is.none m was)
        (λ (p : IsPut m m).
        ⊎_elim
        (λ (e : m ≡ n). loop (subst (IsOverTable nets c) e p.up))
        (λ (b : IsAbove (reads_in nets) n m). loop (over_then m n p.up b))
        p.down)
        (goes_put m m a.path a.goes);
  }

  -- where it puts no latch output above a reset net, none comes to be there
  pub alone_given : ResetsStandAlone nets → ((l r : ℕ) → PutsAbove nets n c l r → ⊥) → ResetsStandAlone (with_net_table nets n c)
  alone_given is none =
      let back = IsReformed-back nets (with_net_table nets n c) IsReformed-given in
      record {
        none = λ l r latch reset a.
            let was_latch = kind_kept (with_net_table nets n c) nets back l Latch latch in
            let was_reset = kind_kept (with_net_table nets n c) nets back r Reset reset in
            ⊎_elim
            (λ (was : IsAbove (reads_in nets) l r). is.none l r was_latch was_reset was)
            (λ (p : IsPut l r). none l r (record { output = was_latch; reset_net = was_reset; down = p.down; up = p.up }))
            (goes_put l r a.path a.goes);
      }

  -- ---- paths that stay

  -- a path from a net that n is neither nor above
  goes_up : (above m : ℕ) (path : List ℕ) → (m ≡ n → ⊥) → (IsAbove (reads_in nets) n m → ⊥) → GoesOn (reads_in nets) above m path → GoesOn (reads_in (with_net_table nets n c)) above m path
  goes_up above m [] ne apart g = reads-there m above ne ∙ g
  goes_up above m (k ∷ path) ne apart g = (
    reads-there m k ne ∙ g.0,
    goes_up above k path (λ e. apart (record { path = []; goes = subst (λ j. reads_in nets m j ≡ true) e g.0 })) (λ a. apart (above_first (reads_in nets) m k n g.0 a)) g.1,
  )

  -- a path to n
  goes_down : IsAcyclic (reads_in nets) → (m : ℕ) (path : List ℕ) → GoesOn (reads_in nets) n m path → GoesOn (reads_in (with_net_table nets n c)) n m path
  goes_down is m [] g = reads-there m n (λ e. is.none n (subst (IsAbove (reads_in nets) n) e (record { path = []; goes = g }))) ∙ g
  goes_down is m (k ∷ path) g = (
    reads-there m k (λ e. is.none n (subst (IsAbove (reads_in nets) n) e (record { path = k ∷ path; goes = g }))) ∙ g.0,
    goes_down is k path g.1,
  )

  -- what the table puts above is above
  row_above : (IsOverTable nets c n → ⊥) → (l : ℕ) → IsOverTable nets c l → IsAbove (reads_in (with_net_table nets n c)) l n
  row_above loop l o =
      let reads : reads_in (with_net_table nets n c) n o.first ≡ true = reads-here o.first ∙ o.reads in
      ⊎_elim
      (λ (e : l ≡ o.first). record { path = []; goes = subst (λ j. reads_in (with_net_table nets n c) n j ≡ true) (sym e) reads })
      (λ (a : IsAbove (reads_in nets) l o.first).
      record {
        path = o.first ∷ a.path;
        goes = (reads, goes_up l o.first a.path (λ e. loop (record { first = o.first; reads = o.reads; up = inl (sym e) })) (λ b. loop (record { first = o.first; reads = o.reads; up = inr b })) a.goes);
      })
      o.up

  put_above : IsAcyclic (reads_in nets) → (IsOverTable nets c n → ⊥) → (l r : ℕ) → PutsAbove nets n c l r → IsAbove (reads_in (with_net_table nets n c)) l r
  put_above is loop l r p =
      let up = row_above loop l p.up in
      ⊎_elim
      (λ (e : r ≡ n). subst (IsAbove (reads_in (with_net_table nets n c)) l) (sym e) up)
      (λ (a : IsAbove (reads_in nets) n r). above_then (reads_in (with_net_table nets n c)) r n l (record { path = a.path; goes = goes_down is r a.path a.goes }) up)
      p.down

  -- so this is how one tells that reset nets stand alone
  pub alone_row : IsAcyclic (reads_in nets) → ResetsStandAlone nets → (IsOverTable nets c n → ⊥) → ResetsStandAlone (with_net_table nets n c) ↔ ((l r : ℕ) → PutsAbove nets n c l r → ⊥)
  alone_row is alone loop = (
    λ now l r p. now.none l r (kind_kept nets (with_net_table nets n c) IsReformed-given l Latch p.output) (kind_kept nets (with_net_table nets n c) IsReformed-given r Reset p.reset_net) (put_above is loop l r p),
    λ none. alone_given alone none,
  )

-- ---- the network with it

-- the tables are covers
AreCovers-given : (net : NetParts) (n : ℕ) (old c : Cover) → WellFormed net → table_in (slot net.nets n) ≡ Some old → IsCover net.nets (values_in (slot net.nets n)) c → AreCovers net.nets (with_net_table net.nets n c)
AreCovers-given net n old c formed table is = record {
  each = λ m d e. subst (λ k. IsCover net.nets k d) (sym ((IsReformed-given net.nets n old c table).each m).values) (cover m d e);
}
  where
    cover : (m : ℕ) (d : Cover) → table_in (slot (with_net_table net.nets n c) m) ≡ Some d → IsCover net.nets (values_in (slot net.nets m)) d
    cover m d e =
        ⊎_elim
        (λ (here : m ≡ n).
        let P : ℕ → Type 0 = λ k. table_in (slot (with_net_table net.nets n c) k) ≡ Some d in
        let both : Some c ≡ Some d = sym (table-here net.nets n old c table) ∙ subst P here e in
        let same : c ≡ d = cc in
        let Q : ℕ → Type 0 = λ k. IsCover net.nets (values_in (slot net.nets k)) d in
        subst Q (sym here) (subst (IsCover net.nets (values_in (slot net.nets n))) same is))
        (λ (ne : m ≡ n → ⊥). cover_at net m d formed (ap table_in (sym (slot-there net.nets n old c table m ne)) ∙ e))
        (cases_eq m n)

-- it is well formed, where the table reads neither the net nor one below it, and puts no latch output above a reset net
pub one_table_formed : (net : NetParts) (n : ℕ) (old c : Cover) → WellFormed net → table_in (slot net.nets n) ≡ Some old → IsCover net.nets (values_in (slot net.nets n)) c → (IsOverTable net.nets c n → ⊥) → ((l r : ℕ) → PutsAbove net.nets n c l r → ⊥) → WellFormed (with_nets net (with_net_table net.nets n c))
one_table_formed net n old c formed table is loop none =
    reformed_formed net (with_net_table net.nets n c) formed (IsReformed-given net.nets n old c table) (AreCovers-given net n old c formed table is)
    (acyclic_given net.nets n old c table formed.acyclic loop)
    (alone_given net.nets n old c table formed.alone none)

-- it means what it meant, where at each point that agrees with the other nets the table allows the net's value if the old one did
-- and only then
pub one_table_means : (net : NetParts) (n : ℕ) (old c : Cover) → table_in (slot net.nets n) ≡ Some old
    → ((x : ℕ → ℕ) → AgreesBut net.nets n x → IsPoint (map values_in net.nets) x → allowed c x (x n) ≡ allowed old x (x n))
    → SameMeaning (of_net (with_nets net (with_net_table net.nets n c))) (of_net net)
one_table_means net n old c table same =
    same_tables net (with_net_table net.nets n c) (IsReformed-given net.nets n old c table)
    (λ x point either m.
    ⊎_elim
    (λ (e : m ≡ n).
    let P : ℕ → Type 0 = λ k. net_table_allows (table_in (slot (with_net_table net.nets n c) k)) x (x k) ≡ net_table_allows (table_in (slot net.nets k)) x (x k) in
    subst P (sym e) (ap (λ t. net_table_allows t x (x n)) (table-here net.nets n old c table) ∙ (same x (but x either) point ∙ ap (λ t. net_table_allows t x (x n)) (sym table))))
    (λ (ne : m ≡ n → ⊥). ap (λ f. net_table_allows (table_in f) x (x m)) (slot-there net.nets n old c table m ne))
    (cases_eq m n))
  where
    but : (x : ℕ → ℕ) → Agrees (with_net_table net.nets n c) x ⊎ Agrees net.nets x → AgreesBut net.nets n x
    but x either =
        ⊎_elim
        (λ (a : Agrees (with_net_table net.nets n c) x). Agrees-others net.nets n (given_table c (slot net.nets n)) (with_net_table net.nets n c) x (IsWritten-given net.nets n c) a)
        (λ (a : Agrees net.nets x). AgreesBut-from net.nets n x a)
        either
