-- The course of `fill`: what a visit leaves, one visit more, and where all nets were visited.
use Rattle.std.proofs.Common.{◌≡◌, ◌∙◌, ℕ, zero, suc, ◌+◌, ◌<◌, ◌≤◌, Bool, true, false, List, [], ◌∷◌, ◌++◌, length, Option, Some, None, is_some, refl, sym, ap, subst, ⊎_elim, arith}
use Rattle.std.specs.Prelude.{Contains}
use Rattle.std.proofs.lemmas.Bool.{cases_lt, false≢true}
use Rattle.std.proofs.lemmas.List.{append-nil, get_or_past}
use Rattle.std.proofs.lemmas.List.Elements.{Contains-append_left, Contains-push}
use Rattle.mv_base.specs.Set.{one}
use Rattle.mv_cover.specs.declared.cover.Cover.{Cover}
use Rattle.mv_entry.specs.declared.note.Why.{Why}
use Rattle.mv_entry.specs.declared.rule.Rule.TheVariants.{Fill}
use Rattle.mv_entry.specs.declared.note.Note.TheVariants.{Dropped}
use Rattle.mv_entry.specs.Entries.{Entry, Noted, rules_of}
use Rattle.mv_locality.proofs.Steps.{names_itself}
use Rattle.mv_meaning.specs.Rewriting.{given_table, with_net_table}
use Rattle.mv_net.specs.declared.parts.FlatNet.{FlatNet}
use Rattle.mv_net.specs.declared.parts.NetParts.{NetParts}
use Rattle.mv_net.specs.Changes.{with_nets}
use Rattle.mv_net.specs.Formed.{WellFormed}
use Rattle.mv_net.specs.Index.{is_held}
use Rattle.mv_net.specs.Nets.{slot, name_in, table_in, table_literals, literals_in}
use Rattle.mv_net.specs.Total.{IsTotalNet}
use Rattle.mv_net.proofs.Tallied.{literals-set}
use Rattle.mv_net.proofs.Totals.{default_total}
use Rattle.mv_pass.specs.Courses.{Course, Nothing, Perhaps}
use Rattle.mv_pass.proofs.Going.{ReplaysRules, replays_then}
use Rattle.mv_pass.proofs.Turns.{of_visits, of_nothing, visits_more}
use Rattle.mv_pass.proofs.Visiting.{some_more}
use Rattle.mv_rules.specs.Applies.{Applies}
use Rattle.mv_plans.specs.Filling.{Fills, with_default}
use Rattle.mv_rules.specs.Replaying.{Replays}
use Rattle.mv_rules.proofs.Kept.{kept_formed}
use Rattle.mv_fill.specs.Fills.{IsUnfilled, StaysFor, note_of, rule_of, FillsNet, LetBe, Stays, Filled, FillsTables, FillsAll, IsNoted}
use Rattle.mv_fill.specs.Filling.{KeepsPlain, HasFilled}
use Rattle.mv_fill.proofs.FilledNets.{count-one, bare, here, there, long, keeps, unfilled_before}

-- a note of a net with this name
abbrev note_named : Why → List ℕ → Entry
note_named why name = Noted (Dropped why name)

-- a net with a table is held
pub tabled_held : (f : Option FlatNet) → is_some (table_in f) ≡ true → is_some f ≡ true
tabled_held None h = absurd (false≢true h)
tabled_held (Some f) h = refl

-- ---- a rule

module _ (free : Bool) (old : NetParts) (n : ℕ) (new : NetParts) (formed : WellFormed old) (unfilled : IsUnfilled old.nets n) (p : Fills free old (name_in (slot old.nets n)) (one 0) new) where
  -- the net that it names
  number : p.number ≡ n
  number = names_itself old (name_in (slot old.nets n)) n p.number formed p.net (tabled_held (slot old.nets n) unfilled.tabled) refl

  table : table_in (slot old.nets n) ≡ Some p.table
  table = subst (λ k. table_in (slot old.nets k) ≡ Some p.table) number p.table_is

  nets_are : new.nets ≡ with_net_table old.nets n (with_default p.table (one 0))
  unfolding with_nets
  nets_are = ap (λ (q : NetParts). q.nets) p.new_is ∙ ap (λ k. with_net_table old.nets k (with_default p.table (one 0))) number

  none : p.table.default ≡ None
  none = bare old n p.table formed table unfilled.partial

  pub rule_keeps : KeepsPlain old.nets new.nets
  rule_keeps = subst (KeepsPlain old.nets) (sym nets_are) (keeps old.nets n p.table (one 0) table none (count-one 0))

  pub rule_long : length new.nets ≡ length old.nets
  rule_long = ap length nets_are ∙ long old.nets n p.table (one 0) table none (count-one 0)

  pub rule_there : (m : ℕ) → (m ≡ n → ⊥) → slot new.nets m ≡ slot old.nets m
  rule_there m ne = ap (λ nets. slot nets m) nets_are ∙ there old.nets n p.table (one 0) table none (count-one 0) m ne

  pub rule_before : (m : ℕ) → (m ≡ n → ⊥) → IsUnfilled new.nets m → IsUnfilled old.nets m
  rule_before m ne u = unfilled_before old.nets n p.table (one 0) table none (count-one 0) m ne (subst (λ nets. IsUnfilled nets m) nets_are u)

  -- its table is total then
  pub rule_fills : IsUnfilled new.nets n → ⊥
  rule_fills u =
      let now : table_in (slot new.nets n) ≡ Some (with_default p.table (one 0)) = ap (λ nets. table_in (slot nets n)) nets_are ∙ here old.nets n p.table (one 0) table none (count-one 0) in
      u.partial.partial (default_total new n (with_default p.table (one 0)) (kept_formed free (rule_of old n) old new formed p) now refl)

-- ---- a visit

module _ (free : Bool) (n : ℕ) (old : NetParts) (formed : WellFormed old) where
  pub visit_long : (es : List Entry) (new : NetParts) → FillsNet free n old es new → length new.nets ≡ length old.nets
  visit_long es new (LetBe full still) = ap (λ (q : NetParts). length q.nets) still.1
  visit_long es new (Stays why u stays is same) = ap (λ (q : NetParts). length q.nets) same
  visit_long es new (Filled u p is) = rule_long free old n new formed u p

  pub visit_there : (es : List Entry) (new : NetParts) → FillsNet free n old es new → (m : ℕ) → (m ≡ n → ⊥) → slot new.nets m ≡ slot old.nets m
  visit_there es new (LetBe full still) m ne = ap (λ (q : NetParts). slot q.nets m) still.1
  visit_there es new (Stays why u stays is same) m ne = ap (λ (q : NetParts). slot q.nets m) same
  visit_there es new (Filled u p is) m ne = rule_there free old n new formed u p m ne

  pub visit_before : (es : List Entry) (new : NetParts) → FillsNet free n old es new → (m : ℕ) → (m ≡ n → ⊥) → IsUnfilled new.nets m → IsUnfilled old.nets m
  visit_before es new (LetBe full still) m ne u = subst (λ (q : NetParts). IsUnfilled q.nets m) still.1 u
  visit_before es new (Stays why v stays is same) m ne u = subst (λ (q : NetParts). IsUnfilled q.nets m) same u
  visit_before es new (Filled v p is) m ne u = rule_before free old n new formed v p m ne u

  -- the net itself is filled, or noted
  pub visit_noted : (xs es : List Entry) (new : NetParts) → FillsNet free n old es new → IsUnfilled new.nets n → IsNoted new n (xs ++ es)
  visit_noted xs es new (LetBe full still) u = absurd (full (subst (λ (q : NetParts). IsUnfilled q.nets n) still.1 u))
  visit_noted xs es new (Stays why v stays is same) u =
      let P : List Entry → Type 0 = λ z. Contains (xs ++ z) (note_of new n why) in
      record { why = why; noted = subst P (sym is) (subst (λ (q : NetParts). Contains (xs ++ note_of old n why ∷ []) (note_of q n why)) (sym same) (Contains-push xs (note_of old n why))) }
  visit_noted xs es new (Filled v p is) u = absurd (rule_fills free old n new formed v p u)

-- ---- one visit more

pub filled_none : (free : Bool) (start : NetParts) → HasFilled free 0 start [] start
filled_none free start = record { visits = (refl, refl); long = refl; noted = λ n low u. absurd (omega arith) }

module _ (free : Bool) (n : ℕ) (start mid new : NetParts) (formed : WellFormed mid) (xs ys : List Entry) (p : HasFilled free n start xs mid) where
  pub filled_more : FillsNet free n mid ys new → HasFilled free (n + 1) start (xs ++ ys) new
  filled_more v = record {
    visits = visits_more (FillsNet free) n start mid new xs ys p.visits v;
    long = visit_long free n mid formed ys new v ∙ p.long;
    noted = λ m low u. ⊎_elim (λ (below : m < n). before m (λ e. omega arith) below u) (λ (up : n ≤ m). itself m (omega arith) u) (cases_lt m n);
  }
    where
      itself : (m : ℕ) → m ≡ n → IsUnfilled new.nets m → IsNoted new m (xs ++ ys)
      itself m e u =
          let P : ℕ → Type 0 = λ k. IsNoted new k (xs ++ ys) in
          subst P (sym e) (visit_noted free n mid formed xs ys new v (subst (IsUnfilled new.nets) e u))

      before : (m : ℕ) → (m ≡ n → ⊥) → m < n → IsUnfilled new.nets m → IsNoted new m (xs ++ ys)
      before m ne low u =
          let was = p.noted m low (visit_before free n mid formed ys new v m ne u) in
          let same : note_of new m was.why ≡ note_of mid m was.why = ap (λ f. note_named was.why (name_in f)) (visit_there free n mid formed ys new v m ne) in
          record { why = was.why; noted = subst (Contains (xs ++ ys)) (sym same) (Contains-append_left xs ys (note_of mid m was.why) was.noted) }

  -- it stopped at this visit
  pub filled_stops : n < length start.nets → Perhaps (FillsNet free n) mid ys new → FillsTables free start (xs ++ ys) new
  filled_stops low part = some_more (FillsNet free) n start mid new xs ys low p.visits part

-- a net past the last has no table
past_full : (nets : List (Option FlatNet)) (n : ℕ) → length nets ≤ n → IsUnfilled nets n → ⊥
past_full nets n past u = false≢true (ap (λ f. is_some (table_in f)) (sym (get_or_past nets n None past)) ∙ u.tabled)

-- all nets were visited
pub filled_all : (free : Bool) (end : ℕ) (start new : NetParts) (es : List Entry) → end ≡ length start.nets → HasFilled free end start es new → FillsAll free start es new
filled_all free end start new es all p = record {
  tables = record { end = end; within = omega (arith, all); visits = p.visits };
  noted = λ n u.
      ⊎_elim
      (λ (low : n < end). p.noted n low u)
      (λ (past : end ≤ n). absurd (past_full new.nets n (omega (arith, all, p.long)) u))
      (cases_lt n end);
}

-- no step is some way of the course
pub not_begun : (free : Bool) (net : NetParts) → FillsTables free net [] net
not_begun free net = record { end = 0; within = omega arith; visits = (refl, refl) }

-- ---- its rules

visit_replays : (free : Bool) (n : ℕ) (a : NetParts) (es : List Entry) (b : NetParts) → FillsNet free n a es b → ReplaysRules free a es b
visit_replays free n a es b (LetBe full still) = subst (λ z. Replays free (rules_of z) a b) (sym still.0) still.1
visit_replays free n a es b (Stays why u stays is same) = subst (λ z. Replays free (rules_of z) a b) (sym is) same
visit_replays free n a es b (Filled u p is) = subst (λ z. Replays free (rules_of z) a b) (sym is) (b, (p, refl))

pub fills_replays : (free : Bool) (a b : NetParts) (es : List Entry) → FillsTables free a es b → Replays free (rules_of es) a b
fills_replays free a b es t =
    of_visits (ReplaysRules free) (λ n. refl) (replays_then free) (FillsNet free) (visit_replays free) t.end a es b t.visits

given_literals : (f : Option FlatNet) (c : Cover) (out : ℕ) → table_in f ≡ Some c → table_literals (table_in (given_table (with_default c out) f)) ≡ table_literals (table_in f)
given_literals None c out e = absurd cc
given_literals (Some f) c out e = ap table_literals (sym e)

-- a default has no literals
fill_literals : (a b : NetParts) (free : Bool) (w : List ℕ) (out : ℕ) → Fills free a w out b → literals_in b.nets ≤ literals_in a.nets
unfolding with_nets with_net_table
fill_literals a b free w out p =
    ⊎_elim
    (λ (low : p.number < length a.nets).
    let e = literals-set a.nets p.number (given_table (with_default p.table out) (slot a.nets p.number)) low in
    let same = given_literals (slot a.nets p.number) p.table out p.table_is in
    let now = ap (λ (q : NetParts). literals_in q.nets) p.new_is in
    omega (arith, e, same, now))
    (λ (past : length a.nets ≤ p.number). absurd (past_tabled past))
    (cases_lt p.number (length a.nets))
  where
    past_tabled : length a.nets ≤ p.number → ⊥
    past_tabled past = let e : None ≡ Some p.table = ap table_in (sym (get_or_past a.nets p.number None past)) ∙ p.table_is in absurd cc

abbrev NoMore : Course
NoMore a es b = literals_in b.nets ≤ literals_in a.nets

visit_no_more : (free : Bool) (n : ℕ) (a : NetParts) (es : List Entry) (b : NetParts) → FillsNet free n a es b → NoMore a es b
visit_no_more free n a es b (LetBe full still) = let e = ap (λ (q : NetParts). literals_in q.nets) still.1 in omega (arith, e)
visit_no_more free n a es b (Stays why u stays is same) = let e = ap (λ (q : NetParts). literals_in q.nets) same in omega (arith, e)
visit_no_more free n a es b (Filled u p is) = fill_literals a b free _ _ p

-- it leaves no more literals
pub fills_no_more : (free : Bool) (a b : NetParts) (es : List Entry) → FillsTables free a es b → literals_in b.nets ≤ literals_in a.nets
fills_no_more free a b es t =
    of_visits NoMore (λ n. omega arith) (λ a b c xs ys p q. omega (arith, p, q)) (FillsNet free) (visit_no_more free) t.end a es b t.visits
