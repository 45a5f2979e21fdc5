-- Rows that come to their nets one by one, and labels that move for each.
use Rattle.std.proofs.Common.{◌≡◌, ◌∙◌, ℕ, ◌+◌, ◌<◌, ◌≤◌, true, false, ◌||◌, cond, nat_eq, ◌⊎◌, inl, inr, List, [], ◌∷◌, ◌++◌, length, get_or, take, drop, map, refl, sym, ap, subst, ⊎_elim, arith, All, Some}
use Rattle.std.proofs.lemmas.Bool.{cases_Bool}
use Rattle.std.proofs.lemmas.List.{take_all, drop_all, get_or_default, length_push, append-nil, map-append, take-append-drop}
use Rattle.std.proofs.lemmas.List.Elements.{All-append, All-map, All-drop, All-take, All-pop, All-nil, All-cons}
use Rattle.mv_base.specs.declared.number.NetId.{NetId}
use Rattle.mv_graph.specs.Nets.{has_id, row, all_differ, AllBelow}
use Rattle.mv_graph.specs.Above.{IsAcyclic, reads_by}
use Rattle.mv_graph.proofs.Nets.{has_id-at}
use Rattle.mv_graph.proofs.Columns.{column_below, row_below, none_in}
use Rattle.mv_dag.specs.declared.moves.Entry.{Entry}
use Rattle.mv_dag.specs.declared.new_rows.NewRow.{NewRow}
use Rattle.mv_dag.specs.declared.way.Way.TheVariants.{Up}
use Rattle.mv_dag.specs.Ordered.{IsOrdered}
use Rattle.mv_dag.specs.Rows.{nets_of, row_given, rows_from}
use Rattle.mv_dag.specs.Searches.{leads_to, HasReaders, Leads, Here, Then}
use Rattle.mv_dag.specs.Moves.{WasAt}
use Rattle.mv_dag.specs.Changing.{blank, new_row_at, old_of, IsPart, IsExchanged, IsReady, IsStage, MayEnter, HasEntered, WereAt}
use Rattle.mv_dag.proofs.Reaching.{reader_below}
use Rattle.mv_dag.proofs.Walks.{above_from_leads}
use Rattle.mv_dag.proofs.Exchanged.{length-rows_from, row-rows_from, rows_same, given-any, given-none, given-part_cases, given-at, nets_of-old, nets_of-blank, old_of-blank, exchanged-first, exchanged-long, exchanged-at, exchanged-more, exchanged-back}

-- ---- walks in a part of a graph

-- a walk up in a part of a graph is one in the whole
leads_part : (cur goal : List (List NetId)) → IsPart cur goal → (x y : ℕ) → Leads (leads_to Up cur) x y → Leads (leads_to Up goal) x y
leads_part cur goal part x y (Here _) = Here x
leads_part cur goal part x y (Then _ k _ walk h) = Then x k y (leads_part cur goal part x k walk) (part.each k y h)

-- what a net reads in a graph where no net is above itself leads nowhere back to it, in any part of that graph
pub part_free : (cur goal : List (List NetId)) → IsPart cur goal → IsAcyclic (reads_by goal) → (n m : ℕ) → has_id (row goal n) m ≡ true → Leads (leads_to Up cur) m n → ⊥
part_free cur goal part none n m h walk = none.none n (above_from_leads goal n m n h (leads_part cur goal part m n walk))

-- ---- parts of a graph

pub below_part : (cur goal : List (List NetId)) → AllBelow goal → length cur ≡ length goal → IsPart cur goal → AllBelow cur
below_part cur goal below long part k d lt j e inside =
    let ns = get_or cur k d in
    let is : row cur k ≡ ns = get_or_default cur k [] d lt in
    let m = (get_or ns j e).0 in
    let low : m < length goal = column_below goal k m below (part.each k m (ap (λ l. has_id l m) is ∙ has_id-at ns j e inside)) in
    omega arith

pub ordered_part : (cur goal : List (List NetId)) (labels : List ℕ) → IsOrdered goal labels → length cur ≡ length goal → IsPart cur goal → IsOrdered cur labels
ordered_part cur goal labels o long part = record {
  long = o.long ∙ sym long;
  falls = λ n m h. o.falls n m (part.each n m h);
  low = o.low;
  differ = o.differ;
}

readers_part : (cur goal readers : List (List NetId)) → HasReaders goal readers → IsPart cur goal → HasReaders cur readers
readers_part cur goal readers has part = record { listed = λ n m h. has.listed n m (part.each n m h) }

-- the first so many rows make a part of what all make, if what was there is one
pub exchanged-part : (k : ℕ) (first cur : List (List NetId)) (before rows : List NewRow) → k ≤ length before → IsExchanged k first cur before rows → IsPart first (rows_from before 0 first) → IsPart cur (rows_from before 0 first)
exchanged-part k first cur before rows low e part = record { each = each }
  where
    each : (n m : ℕ) → has_id (row cur n) m ≡ true → has_id (row (rows_from before 0 first) n) m ≡ true
    each n m h =
        let long = exchanged-long k first cur before rows e low in
        let same = long.0 in
        let small = reader_below cur n m h in
        let inside : n < length first = omega arith in
        let is : row cur n ≡ row_given (take k before) n (row first n) = ap (λ l. row l n) e.fanins_are ∙ row-rows_from (take k before) first n inside in
        let there = row-rows_from before first n inside in
        ⊎_elim
        (λ (y : row_given (take k before) n (row first n) ≡ row_given before n (row first n)).
        ap (λ l. has_id l m) (there ∙ sym y ∙ sym is) ∙ h)
        (λ (y : row_given (take k before) n (row first n) ≡ row first n). part.each n m (ap (λ l. has_id l m) (sym (is ∙ y)) ∙ h))
        (given-part_cases before k n (row first n))

-- ---- labels moved by one list after another

pub were_at-push : (first : List ℕ) (moves : List (List Entry)) (mid now : List ℕ) (es : List Entry) → WereAt first moves mid → WasAt mid now es → WereAt first (moves ++ es ∷ []) now
were_at-push first [] mid now es w was =
    let P : List ℕ → Type 0 = λ l. WasAt l now es in
    (now, subst P w was, refl)
were_at-push first (fs ∷ moves) mid now es w was = (w.0, w.1, were_at-push w.0 moves mid now es w.2 was)

-- the labels before the last list
pub record LastMoved (first : List ℕ) (moves : List (List Entry)) (now : List ℕ) (es : List Entry) : Type 0 where
  pub mid : List ℕ
  pub before : WereAt first moves mid
  pub last : WasAt mid now es

pub were_at-pop : (first : List ℕ) (moves : List (List Entry)) (now : List ℕ) (es : List Entry) → WereAt first (moves ++ es ∷ []) now → LastMoved first moves now es
were_at-pop first [] now es w =
    let P : List ℕ → Type 0 = λ l. WasAt first l es in
    record { mid = first; before = refl; last = subst P (sym w.2) w.1 }
were_at-pop first (fs ∷ moves) now es w =
    let p = were_at-pop w.0 moves now es w.2 in
    record { mid = p.mid; before = (w.0, w.1, p.before); last = p.last }

pub were_at-long : (first : List ℕ) (moves : List (List Entry)) (now : List ℕ) → WereAt first moves now → length now ≡ length first
were_at-long first [] now w = ap length w
were_at-long first (es ∷ moves) now w = were_at-long w.0 moves now w.2 ∙ (w.1).long

-- all entries are of nets with labels
pub were_at-small : (first : List ℕ) (moves : List (List Entry)) (now : List ℕ) → WereAt first moves now → All (λ (es : List Entry). All (λ (e : Entry). e.net.0 < length now) es) moves
were_at-small first [] now w = All-nil (λ (es : List Entry). All (λ (e : Entry). e.net.0 < length now) es)
were_at-small first (es ∷ moves) now w =
    let mid = were_at-long w.0 moves now w.2 in
    let long = (w.1).long in
    All-cons (λ (fs : List Entry). All (λ (e : Entry). e.net.0 < length now) fs) es moves
    (λ k d lt. let one = ((w.1).had k d lt).0 in omega arith)
    (were_at-small w.0 moves now w.2)

-- the last list is taken back
pub back_more : (labels now : List ℕ) (moves rest : List (List Entry)) (moved slice : List Entry) → moves ≡ rest ++ moved ∷ [] → slice ≡ moved → length now ≡ length labels
    → ((before : List ℕ) → WasAt before labels slice → now ≡ before) → (first : List ℕ) → WereAt first moves labels → WereAt first rest now
back_more labels now moves rest moved slice e f long put first w =
    let P : List (List Entry) → Type 0 = λ l. WereAt first l labels in
    let p = were_at-pop first rest labels moved (subst P e w) in
    let Q : List Entry → Type 0 = λ l. WasAt p.mid labels l in
    let R : List ℕ → Type 0 = WereAt first rest in
    subst R (sym (put p.mid (subst Q (sym f) p.last))) p.before

pub back_small : (labels now : List ℕ) (moves rest : List (List Entry)) (moved : List Entry) → moves ≡ rest ++ moved ∷ [] → length now ≡ length labels
    → All (λ (es : List Entry). All (λ (e : Entry). e.net.0 < length labels) es) moves → All (λ (es : List Entry). All (λ (e : Entry). e.net.0 < length now) es) rest
back_small labels now moves rest moved e long small =
    let P : ℕ → Type 0 = λ n. All (λ (es : List Entry). All (λ (f : Entry). f.net.0 < n) es) rest in
    subst P (sym long) (All-pop (λ (es : List Entry). All (λ (f : Entry). f.net.0 < length labels) es) moves rest (Some moved) e small).0

-- ---- row by row

pub may_enter : (k : ℕ) (first cur readers : List (List NetId)) (before rows : List NewRow) (labels0 labels : List ℕ) (moves : List (List Entry))
    → IsReady before first readers labels0 → IsPart first (rows_from before 0 first) → IsStage k first cur before rows labels0 labels moves → IsOrdered cur labels → k < length before
    → MayEnter cur readers labels (new_row_at rows k)
may_enter k first cur readers before rows labels0 labels moves ready part stage ordered lt =
    subst (MayEnter cur readers labels) (sym (exchanged-at k first cur before rows stage.exchanged lt))
    (record {
      ordered = ordered;
      below = below_part cur goal ready.may.below long within;
      listed = readers_part cur goal readers ready.listed within;
      net = let a = sizes.0 in let b = net_low in omega arith;
      new = λ j d inside. let low : (get_or r.fanins j d).0 < length goal = small j d inside in let e = long in omega arith;
      free = λ m h. part_free cur goal within ready.may.acyclic r.net.0 m (ap (λ l. has_id l m) is ∙ h);
    })
  where
    none : NewRow
    none = record { net = record { 0 = 0 }; fanins = [] }

    r : NewRow
    r = new_row_at before k

    goal : List (List NetId)
    goal = rows_from before 0 first

    within : IsPart cur goal
    within = exchanged-part k first cur before rows stage.inside stage.exchanged part

    sizes : (length cur ≡ length first) × (length rows ≡ length before)
    sizes = exchanged-long k first cur before rows stage.exchanged stage.inside

    long : length cur ≡ length goal
    long = sizes.0 ∙ sym (length-rows_from before 0 first)

    net_low : r.net.0 < length first
    net_low = ready.may.nets k none lt

    is : row goal r.net.0 ≡ r.fanins
    is = row-rows_from before first r.net.0 net_low ∙ given-at before k none (row first r.net.0) ready.may.once lt

    small : All (λ (m : NetId). m.0 < length goal) r.fanins
    small =
        let e = length-rows_from before 0 first in
        let P : List NetId → Type 0 = All (λ (m : NetId). m.0 < length goal) in
        subst P is (row_below goal r.net.0 ready.may.below (omega arith))

pub stage-first : (fanins : List (List NetId)) (rows : List NewRow) (labels : List ℕ) (moves : List (List Entry)) → moves ≡ [] → IsStage 0 fanins fanins rows rows labels labels moves
stage-first fanins rows labels moves e = record {
  inside = omega arith;
  count = ap length e;
  exchanged = exchanged-first fanins rows;
  moved = let P : List (List Entry) → Type 0 = λ l. WereAt labels l labels in subst P (sym e) refl;
}

pub stage-more : (k : ℕ) (first cur after readers : List (List NetId)) (before rows new : List NewRow) (labels0 labels now : List ℕ) (moves more : List (List Entry))
    → IsReady before first readers labels0 → IsStage k first cur before rows labels0 labels moves → k < length before → HasEntered k cur after rows new labels now moves more
    → IsStage (k + 1) first after before new labels0 now more
stage-more k first cur after readers before rows new labels0 labels now moves more ready stage lt entered = record {
  inside = omega arith;
  count = ap length entered.moves_are ∙ (length_push moves entered.entries ∙ ap (λ n. n + 1) stage.count);
  exchanged = exchanged-more k first cur after before rows new stage.exchanged lt ready.may.nets ready.may.once entered.fanins_are entered.rows_are;
  moved =
      let P : List (List Entry) → Type 0 = λ l. WereAt labels0 l now in
      subst P (sym entered.moves_are) (were_at-push labels0 moves labels now entered.entries stage.moved entered.moved);
}

-- all rows came
pub stage-all : (k : ℕ) (first cur : List (List NetId)) (before rows : List NewRow) (labels0 labels : List ℕ) (moves : List (List Entry)) → IsStage k first cur before rows labels0 labels moves → k ≡ length before → cur ≡ rows_from before 0 first
stage-all k first cur before rows labels0 labels moves stage e = stage.exchanged.fanins_are ∙ ap (λ l. rows_from l 0 first) (take_all k before (omega arith))

-- ---- and back

pub exchanged-nets : (k : ℕ) (first cur : List (List NetId)) (before rows : List NewRow) → IsExchanged k first cur before rows → nets_of rows ≡ nets_of before
exchanged-nets k first cur before rows e =
    ap nets_of e.rows_are
    ∙ (map-append (λ (r : NewRow). r.net) (map (old_of first) (take k before)) (drop k before)
    ∙ (ap (λ l. l ++ nets_of (drop k before)) (nets_of-old (take k before) first)
    ∙ (sym (map-append (λ (r : NewRow). r.net) (take k before) (drop k before)) ∙ ap nets_of (take-append-drop k before))))

pub exchanged-small : (k : ℕ) (first cur : List (List NetId)) (before rows : List NewRow) → k ≤ length before → IsExchanged k first cur before rows → All (λ (r : NewRow). r.net.0 < length first) before → All (λ (r : NewRow). r.net.0 < length cur) rows
exchanged-small k first cur before rows low e small =
    let same = (exchanged-long k first cur before rows e low).0 in
    let P : ℕ → Type 0 = λ n. All (λ (r : NewRow). r.net.0 < n) rows in
    let Q : List NewRow → Type 0 = All (λ (r : NewRow). r.net.0 < length first) in
    subst P (sym same)
    (subst Q (sym e.rows_are)
    (All-append (λ (r : NewRow). r.net.0 < length first) (map (old_of first) (take k before)) (drop k before)
    (All-map (λ (r : NewRow). r.net.0 < length first) (old_of first) (take k before) (All-take (λ (r : NewRow). r.net.0 < length first) k before small))
    (All-drop (λ (r : NewRow). r.net.0 < length first) k before small)))

-- ---- the rows of all nets taken out first

-- a row that was taken out is empty, and the others are as before
blank_cases : (rows : List NewRow) (n : ℕ) (x : List NetId) → (row_given (map blank rows) n x ≡ []) ⊎ (has_id (nets_of rows) n ≡ false)
blank_cases [] n x = inr refl
blank_cases (r ∷ rows) n x =
    ⊎_elim
    (λ (e : nat_eq r.net.0 n ≡ true). inl (ap (λ b. cond b [] (row_given (map blank rows) n x)) e))
    (λ (f : nat_eq r.net.0 n ≡ false).
    ⊎_elim
    (λ (y : row_given (map blank rows) n x ≡ []). inl (ap (λ b. cond b [] (row_given (map blank rows) n x)) f ∙ y))
    (λ (y : has_id (nets_of rows) n ≡ false). inr (ap (λ b. b || has_id (nets_of rows) n) f ∙ y))
    (blank_cases rows n x))
    (cases_Bool (nat_eq r.net.0 n))

module _ (rows : List NewRow) (fanins : List (List NetId)) where
  abbrev out : List (List NetId)
  out = rows_from (map blank rows) 0 fanins

  out_long : length out ≡ length fanins
  out_long = length-rows_from (map blank rows) 0 fanins

  -- the rows that come make the same of both
  pub out_goal : rows_from rows 0 out ≡ rows_from rows 0 fanins
  out_goal =
      rows_same (rows_from rows 0 out) (rows_from rows 0 fanins)
      (length-rows_from rows 0 out ∙ (out_long ∙ sym (length-rows_from rows 0 fanins)))
      (λ k lt.
      let a = length-rows_from rows 0 out in
      let b = out_long in
      let low : k < length fanins = omega arith in
      row-rows_from rows out k (omega arith) ∙ (each k low ∙ sym (row-rows_from rows fanins k low)))
    where
      each : (k : ℕ) → k < length fanins → row_given rows k (row out k) ≡ row_given rows k (row fanins k)
      each k low =
          ⊎_elim
          (λ (y : has_id (nets_of rows) k ≡ true). given-any rows k (row out k) (row fanins k) y)
          (λ (f : has_id (nets_of rows) k ≡ false).
          ap (row_given rows k) (row-rows_from (map blank rows) fanins k low ∙ given-none (map blank rows) k (row fanins k) (ap (λ ns. has_id ns k) (nets_of-blank rows) ∙ f)))
          (cases_Bool (has_id (nets_of rows) k))

  -- what a net still reads it read, and it gets no other row
  left : (n m : ℕ) → has_id (row out n) m ≡ true → (has_id (row fanins n) m ≡ true) × (has_id (row (rows_from rows 0 fanins) n) m ≡ true)
  left n m h =
      ⊎_elim
      (λ (y : row_given (map blank rows) n (row fanins n) ≡ []). absurd (none_in (row out n) m (is ∙ y) h))
      (λ (f : has_id (nets_of rows) n ≡ false).
      let same : row out n ≡ row fanins n = is ∙ given-none (map blank rows) n (row fanins n) (ap (λ ns. has_id ns n) (nets_of-blank rows) ∙ f) in
      let there : row (rows_from rows 0 fanins) n ≡ row fanins n = row-rows_from rows fanins n low ∙ given-none rows n (row fanins n) f in
      (ap (λ l. has_id l m) (sym same) ∙ h, ap (λ l. has_id l m) (there ∙ sym same) ∙ h))
      (blank_cases rows n (row fanins n))
    where
      low : n < length fanins
      low = let a = out_long in let b = reader_below out n m h in omega arith

      is : row out n ≡ row_given (map blank rows) n (row fanins n)
      is = row-rows_from (map blank rows) fanins n low

  pub out_part : IsPart out (rows_from rows 0 out)
  out_part = let P : List (List NetId) → Type 0 = IsPart out in subst P (sym out_goal) (record { each = λ n m h. (left n m h).1 })

  pub out_ready : (readers : List (List NetId)) (labels : List ℕ) → IsReady rows fanins readers labels → IsReady rows out readers labels
  out_ready readers labels ready =
      let A : List (List NetId) → Type 0 = AllBelow in
      let B : List (List NetId) → Type 0 = λ l. IsAcyclic (reads_by l) in
      let C : List (List NetId) → Type 0 = λ l. HasReaders l readers in
      let a = out_long in
      record {
        may = record {
          nets = λ k d lt. let low : (get_or rows k d).net.0 < length fanins = ready.may.nets k d lt in omega arith;
          once = ready.may.once;
          below = subst A (sym out_goal) ready.may.below;
          acyclic = subst B (sym out_goal) ready.may.acyclic;
        };
        listed = subst C (sym out_goal) ready.listed;
        ordered = ordered_part out fanins labels ready.ordered out_long (record { each = λ n m h. (left n m h).0 });
      }

-- ---- the calls that take the rows out first

pub blank-small : (rows olds : List NewRow) (size : ℕ) → olds ≡ map blank rows → All (λ (r : NewRow). r.net.0 < size) rows → All (λ (r : NewRow). r.net.0 < size) olds
blank-small rows olds size e small =
    let P : List NewRow → Type 0 = All (λ (r : NewRow). r.net.0 < size) in
    subst P (sym e) (All-map (λ (r : NewRow). r.net.0 < size) blank rows small)

pub blank-once : (rows olds : List NewRow) → olds ≡ map blank rows → all_differ (nets_of rows) ≡ true → all_differ (nets_of olds) ≡ true
blank-once rows olds e once = ap (λ l. all_differ (nets_of l)) e ∙ (ap all_differ (nets_of-blank rows) ∙ once)

module _ (rows olds got : List NewRow) (fanins taken : List (List NetId)) (count : ℕ) (e : olds ≡ map blank rows) (all : count ≡ length olds) (x : IsExchanged count fanins taken olds got) where
  whole : take count olds ≡ map blank rows
  whole = take_all count olds (omega arith) ∙ e

  pub taken_is : taken ≡ rows_from (map blank rows) 0 fanins
  taken_is = x.fanins_are ∙ ap (λ l. rows_from l 0 fanins) whole

  pub taken_ready : (readers : List (List NetId)) (labels : List ℕ) → IsReady rows fanins readers labels → IsReady rows taken readers labels
  taken_ready readers labels ready =
      let P : List (List NetId) → Type 0 = λ l. IsReady rows l readers labels in
      subst P (sym taken_is) (out_ready rows fanins readers labels ready)

  pub taken_part : IsPart taken (rows_from rows 0 taken)
  taken_part =
      let P : List (List NetId) → Type 0 = λ l. IsPart l (rows_from rows 0 l) in
      subst P (sym taken_is) (out_part rows fanins)

  pub taken_goal : (new : List (List NetId)) → new ≡ rows_from rows 0 taken → new ≡ rows_from rows 0 fanins
  taken_goal new f = f ∙ (ap (rows_from rows 0) taken_is ∙ out_goal rows fanins)

  pub got_olds : got ≡ map (old_of fanins) rows
  got_olds =
      x.rows_are
      ∙ (ap (λ l. map (old_of fanins) l ++ drop count olds) whole
      ∙ (ap (λ l. map (old_of fanins) (map blank rows) ++ l) (drop_all count olds (omega arith))
      ∙ (append-nil (map (old_of fanins) (map blank rows)) ∙ old_of-blank rows fanins)))

  small : All (λ (r : NewRow). r.net.0 < length fanins) rows → All (λ (r : NewRow). r.net.0 < length fanins) olds
  small s = blank-small rows olds (length fanins) e s

  pub got_small : (now : List (List NetId)) → now ≡ taken → All (λ (r : NewRow). r.net.0 < length fanins) rows → All (λ (r : NewRow). r.net.0 < length now) got
  got_small now f s =
      let P : List (List NetId) → Type 0 = λ l. All (λ (r : NewRow). r.net.0 < length l) got in
      subst P (sym f) (exchanged-small count fanins taken olds got (omega arith) x (small s))

  pub got_once : all_differ (nets_of rows) ≡ true → all_differ (nets_of got) ≡ true
  got_once once = ap all_differ (exchanged-nets count fanins taken olds got x) ∙ blank-once rows olds e once

  pub taken_back : (now last : List (List NetId)) (after : List NewRow) → now ≡ taken → All (λ (r : NewRow). r.net.0 < length fanins) rows → all_differ (nets_of rows) ≡ true → IsExchanged count now last got after → last ≡ fanins
  taken_back now last after f s once y =
      let P : List (List NetId) → Type 0 = λ l. IsExchanged count l last got after in
      (exchanged-back count fanins taken last olds got after (omega arith) (small s) (blank-once rows olds e once) x (subst P f y)).0
