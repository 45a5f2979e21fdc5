-- What taking a divisor out leaves: each table as it was or divided, and fewer literals.
use Rattle.std.proofs.Common.{◌≡◌, ◌∙◌, ℕ, zero, suc, ◌+◌, ◌<◌, ◌≤◌, Bool, List, [], ◌∷◌, ◌++◌, Option, Some, None, length, take, All, refl, sym, ap, subst, ⊎_elim, add-one, arith}
use Rattle.std.proofs.Math.Seq.{take-suc, take-append_seam}
use Rattle.std.proofs.lemmas.Bool.{cases_lt}
use Rattle.std.proofs.lemmas.List.{length-append, length-set, get_or_past}
use Rattle.std.proofs.lemmas.List.Elements.{All-head, All-tail}
use Rattle.mv_base.specs.declared.number.NetId.{NetId}
use Rattle.mv_cover.specs.Literal.{Lit}
use Rattle.mv_cover.specs.Cubes.{IsCube}
use Rattle.mv_cover.specs.Lines.{lines_differ}
use Rattle.mv_cover.specs.declared.line.Line.{Line}
use Rattle.mv_cover.specs.declared.cover.Cover.{Cover}
use Rattle.mv_division.specs.Divisors.{IsDivisorOver, add_rule, divisor_cover, with_divisor}
use Rattle.mv_division.specs.Divided.{divide_rule}
use Rattle.mv_division.proofs.Adding.{added_leaves, divisor_stands, slot_before, reads_before}
use Rattle.mv_division.proofs.Applying.{divided_leaves, others_kept}
use Rattle.mv_division.proofs.Counting.{added_literals, divided_literals}
use Rattle.mv_entry.specs.Entries.{Entry}
use Rattle.mv_gains.specs.Gains.{IsSum, IsTableSaving, Saves, lines_at, lines_in}
use Rattle.mv_gains.specs.Tables.{IsDivisor, HasLines as HasTidyLines}
use Rattle.mv_gains.proofs.Dividing.{leaves_less, undivided_saves, table_once}
use Rattle.mv_gains.proofs.Divisors.{slot_lines, some_literals}
use Rattle.mv_gains.proofs.Kept.{all_lines_formed}
use Rattle.mv_meaning.specs.Rewriting.{with_net_table}
use Rattle.mv_net.specs.declared.parts.FlatNet.{FlatNet}
use Rattle.mv_net.specs.declared.parts.NetParts.{NetParts}
use Rattle.mv_net.specs.Changes.{with_nets}
use Rattle.mv_net.specs.Formed.{WellFormed}
use Rattle.mv_net.specs.Nets.{slot, table_in, literals_in}
use Rattle.mv_pass.specs.Courses.{Visits, VisitsAll}
use Rattle.mv_plans.specs.Adding.{divisor_net}
use Rattle.mv_rules.proofs.Kept.{kept_formed}
use Rattle.mv_saving.specs.Saving.{AreCubes, literals}
use Rattle.mv_extract.specs.Dividing.{IsReady}
use Rattle.mv_extract.specs.Steps.{DividesNet, Own, LetBe, Divided, TakesDivisor, next_net}

-- ---- sums

-- one more at the end
sum_push : {X : Type 0} (Is : X → ℕ → Type 0) (xs : List X) (x : X) (t s : ℕ) → IsSum Is xs t → Is x s → IsSum Is (xs ++ x ∷ []) (t + s)
sum_push Is [] x t s before is = record { first = s; is = is; rest = 0; others = refl; sum = omega (arith, before) }
sum_push Is (y ∷ ys) x t s before is = record {
  first = before.first;
  is = before.is;
  rest = before.rest + s;
  others = sum_push Is ys x before.rest s before.others is;
  sum = omega (arith, before.sum);
}

-- what a table saves
abbrev Saved : List (List Lit) → Option FlatNet → ℕ → Type 0
Saved divisor f s = IsTableSaving (lines_at f) divisor s

-- the lines of each table are distinct, and their literals are cubes
lines_formed : (net : NetParts) (n : ℕ) → WellFormed net → HasTidyLines (slot net.nets n)
lines_formed net n formed = slot_lines net.nets n (all_lines_formed net formed)

divisor_cubes : (divisor : List (List Lit)) → IsDivisor divisor → AreCubes divisor
divisor_cubes divisor is = record { formed = is.formed; distinct = is.distinct }

-- what all tables save is one number
gain_is_one : (divisor : List (List Lit)) → AreCubes divisor → (nets : List (Option FlatNet)) (a b : ℕ) → All HasTidyLines nets → IsSum (Saved divisor) nets a → IsSum (Saved divisor) nets b → a ≡ b
gain_is_one divisor cubes [] a b formed p q = p ∙ sym q
gain_is_one divisor cubes (f ∷ fs) a b formed p q =
    let here = All-head HasTidyLines f fs formed in
    let first = table_once (lines_at f) divisor p.first q.first here.differ here.formed cubes p.is q.is in
    let rest = gain_is_one divisor cubes fs p.rest q.rest (All-tail HasTidyLines f fs formed) p.others q.others in
    omega (arith, first, rest, p.sum, q.sum)

-- ---- visits

module _ (free : Bool) (divisor : List (List Lit)) (d : NetId) (mid : NetParts) (ready : IsReady mid.nets divisor d 0) where
  -- what the visits of the first n nets leave: the others are as they were
  pub record Left (n : ℕ) (cur : NetParts) : Type 0 where
    pub long : length cur.nets ≡ length mid.nets
    pub stays : (m : ℕ) → n ≤ m → slot cur.nets m ≡ slot mid.nets m
    pub formed : WellFormed cur

  -- one visit
  pub left_visit : (n : ℕ) (cur new : NetParts) (es : List Entry) → Left n cur → DividesNet free divisor d n cur es new → Left (n + 1) new
  unfolding with_nets with_net_table
  left_visit n cur new es left (Own own still) = subst (Left (n + 1)) (sym still.1) (record { long = left.long; stays = λ m up. left.stays m (omega arith); formed = left.formed })
  left_visit n cur new es left (LetBe none still) = subst (Left (n + 1)) (sym still.1) (record { long = left.long; stays = λ m up. left.stays m (omega arith); formed = left.formed })
  left_visit n cur new es left (Divided by table lines division applies is) =
      let has = divided_leaves cur new (record { 0 = n }) d by divisor table lines left.formed division applies in
      let nets_are : new.nets ≡ with_net_table cur.nets n has.table = ap (λ (q : NetParts). q.nets) has.new_is in
      record {
        long = ap length nets_are ∙ (length-set cur.nets n _ ∙ left.long);
        stays = λ m up. ap (λ nets. slot nets m) nets_are ∙ (others_kept cur.nets n m has.table (λ e. omega arith) ∙ left.stays m (omega arith));
        formed = kept_formed free (divide_rule cur.nets n by table lines) cur new left.formed applies;
      }

  pub left_visits : (n : ℕ) (cur : NetParts) (es : List Entry) → WellFormed mid → Visits (DividesNet free divisor d) n mid es cur → Left n cur
  left_visits zero cur es formed still = subst (Left 0) (sym still.1) (record { long = refl; stays = λ m low. refl; formed = formed })
  left_visits (suc n) cur es formed turn =
      subst (λ k. Left k cur) (add-one n) (left_visit n turn.mid cur turn.rest (left_visits n turn.mid turn.front formed turn.first) turn.second)

  -- a table from n on reads only nets before d
  pub still_ready : (n : ℕ) (cur : NetParts) (es : List Entry) → WellFormed mid → n ≤ d.0 → Visits (DividesNet free divisor d) n mid es cur → IsReady cur.nets divisor d n
  still_ready n cur es formed low visits = record {
    some = ready.some;
    last = left.long ∙ ready.last;
    by = ready.by;
    stands = record { held = left.stays d.0 low ∙ ready.stands.held };
    below = λ m c up other table k reads. ready.below m c (omega arith) other (sym (ap table_in (left.stays m up)) ∙ table) k reads;
  }
    where
      left : Left n cur
      left = left_visits n cur es formed visits

  -- what the visits so far save, and by how much there are fewer literals
  record Fewer (n : ℕ) (cur : NetParts) : Type 0 where
    total : ℕ
    sum : IsSum (Saved divisor) (take n mid.nets) total
    less : literals_in mid.nets ≡ literals_in cur.nets + total

  fewer_more : (n s : ℕ) (cur new : NetParts) → n < d.0 → Left n cur → Fewer n cur → Saved divisor (slot cur.nets n) s → literals_in cur.nets ≡ literals_in new.nets + s → Fewer (n + 1) new
  fewer_more n s cur new low left fewer saves less = record {
    total = fewer.total + s;
    sum =
        let within : n < length mid.nets = omega (arith, ready.last) in
        subst (λ xs. IsSum (Saved divisor) xs (fewer.total + s)) (sym (ap (λ k. take k mid.nets) (add-one n) ∙ take-suc mid.nets n None within))
        (sum_push (Saved divisor) (take n mid.nets) (slot mid.nets n) fewer.total s fewer.sum (subst (λ f. Saved divisor f s) (left.stays n (omega arith)) saves));
    less = omega (arith, fewer.less, less);
  }

  module _ (is : IsDivisor divisor) where
    fewer_visit : (n : ℕ) (cur new : NetParts) (es : List Entry) → n < d.0 → Left n cur → Fewer n cur → DividesNet free divisor d n cur es new → Fewer (n + 1) new
    fewer_visit n cur new es low left fewer (Own own still) = absurd (omega arith)
    fewer_visit n cur new es low left fewer (LetBe none still) =
        let same : literals_in new.nets ≡ literals_in cur.nets = ap (λ (q : NetParts). literals_in q.nets) still.1 in
        fewer_more n 0 cur new low left fewer (undivided_saves (lines_at (slot cur.nets n)) divisor none) (omega (arith, same))
    fewer_visit n cur new es low left fewer (Divided by table lines division applies entries) =
        let has = divided_leaves cur new (record { 0 = n }) d by divisor table lines left.formed division applies in
        let lines_are : lines_at (slot cur.nets n) ≡ table.lines = ap lines_in division.table in
        let h = lines_formed cur n left.formed in
        let saves = leaves_less table.lines lines divisor d (sym (ap lines_differ lines_are) ∙ h.differ) (subst (All (λ (l : Line). IsCube l.cube)) lines_are h.formed) (divisor_cubes divisor is) (some_literals divisor is.some is.literals) division.divided in
        let count = divided_literals cur new n table lines division.table has in
        fewer_more n saves.saved cur new low left fewer (subst (λ ls. IsTableSaving ls divisor saves.saved) (sym lines_are) saves.is) (omega (arith, count, saves.less))

    fewer_visits : (n : ℕ) (cur : NetParts) (es : List Entry) → WellFormed mid → n ≤ d.0 → Visits (DividesNet free divisor d) n mid es cur → Fewer n cur
    fewer_visits zero cur es formed low still = subst (Fewer 0) (sym still.1) (record { total = 0; sum = refl; less = omega arith })
    fewer_visits (suc n) cur es formed low turn =
        subst (λ k. Fewer k cur) (add-one n)
        (fewer_visit n turn.mid cur turn.rest (omega arith) (left_visits n turn.mid turn.front formed turn.first) (fewer_visits n turn.mid turn.front formed (omega arith) turn.first) turn.second)

    -- the net d itself stays
    own_stays : (cur new : NetParts) (es : List Entry) → DividesNet free divisor d d.0 cur es new → new ≡ cur
    own_stays cur new es (Own own still) = still.1
    own_stays cur new es (LetBe none still) = still.1
    own_stays cur new es (Divided by table lines division applies is) = absurd (division.other refl)

    fewer_all : (new : NetParts) (es : List Entry) → WellFormed mid → VisitsAll (DividesNet free divisor d) mid es new → Fewer d.0 new
    fewer_all new es formed all =
        let turn = subst (λ k. Visits (DividesNet free divisor d) k mid es new) (ready.last ∙ add-one d.0) all in
        subst (Fewer d.0) (sym (own_stays turn.mid new turn.rest turn.second)) (fewer_visits d.0 turn.mid turn.front formed (omega arith) turn.first)

-- ---- a whole step

-- the net that comes stands for the divisor, and no table reads it
pub ready_added : (net : NetParts) (name : List ℕ) (divisor : List (List Lit)) → WellFormed net → IsDivisorOver net.nets divisor → IsReady (with_divisor net name divisor).nets divisor (next_net net) 0
unfolding with_nets
ready_added net name divisor formed over = record {
  some = over.some;
  last = long;
  by = name;
  stands = divisor_stands net name divisor;
  below = λ n c up other table m reads.
      ⊎_elim
      (λ (low : n < length net.nets). reads_before net n m c formed (sym (ap table_in (slot_before net name divisor n low)) ∙ table) reads)
      (λ (past : length net.nets ≤ n). absurd (past_none n past other c table))
      (cases_lt n (length net.nets));
}
  where
    long : length (with_divisor net name divisor).nets ≡ length net.nets + 1
    long = length-append net.nets (Some (divisor_net name (divisor_cover divisor)) ∷ [])

    past_none : (n : ℕ) → length net.nets ≤ n → (n ≡ length net.nets → ⊥) → (c : Cover) → table_in (slot (with_divisor net name divisor).nets n) ≡ Some c → ⊥
    past_none n past other c table =
        ⊎_elim
        (λ (low : n < length net.nets + 1). other (omega arith))
        (λ (up : length net.nets + 1 ≤ n).
        let none : None ≡ Some c = ap table_in (sym (get_or_past (with_divisor net name divisor).nets n None (omega (arith, long)))) ∙ table in absurd cc)
        (cases_lt n (length net.nets + 1))

-- a step leaves as many literals less as its divisor saves
pub takes_leave : (free : Bool) (divisor : List (List Lit)) (a b : NetParts) (es : List Entry) (saved : ℕ) → IsDivisor divisor → WellFormed a → IsDivisorOver a.nets divisor → Saves a.nets divisor saved
    → TakesDivisor free divisor a es b → literals_in a.nets ≡ literals_in b.nets + saved
unfolding with_nets
takes_leave free divisor a b es saved is formed over saves t = omega (arith, fewer.less, same, count, saves.less)
  where
    name : List ℕ
    name = t.first.name

    mid : NetParts
    mid = with_divisor a name divisor

    mid_is : t.mid ≡ mid
    mid_is = added_leaves a t.mid name divisor formed over t.first.applies

    mid_formed : WellFormed mid
    mid_formed = subst WellFormed mid_is (kept_formed free (add_rule a.nets name divisor) a t.mid formed t.first.applies)

    fewer : Fewer free divisor (next_net a) mid (ready_added a name divisor formed over) (length a.nets) b
    fewer =
        fewer_all free divisor (next_net a) mid (ready_added a name divisor formed over) is b t.rest mid_formed
        (subst (λ m. VisitsAll (DividesNet free divisor (next_net a)) m t.rest b) mid_is t.second)

    same : fewer.total ≡ saves.gain
    same =
        gain_is_one divisor (divisor_cubes divisor is) a.nets fewer.total saves.gain (all_lines_formed a formed)
        (subst (λ xs. IsSum (Saved divisor) xs fewer.total) (take-append_seam a.nets _) fewer.sum) saves.is.sum

    count : literals_in mid.nets ≡ literals_in a.nets + literals divisor
    count = added_literals a name divisor
