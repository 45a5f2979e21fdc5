-- Tables are put anew: the covers, one after another, and then their kernels.
use Rattle.std.proofs.Common.{◌≡◌, ◌∙◌, ℕ, ◌+◌, ◌<◌, ◌≤◌, ◌^◌, Bool, true, false, not, nat_eq, Option, None, List, [], ◌∷◌, ◌++◌, length, map, filter, set, drop, get_or, All, Contains, inl, inr, refl, sym, ap, subst, arith, get_or-set_other, get_or-set_same, add-one}
use Rattle.std.proofs.Math.ListN.{get_or-append}
use Rattle.std.proofs.Math.Seq.{drop-cons, get_or-append_seam}
use Rattle.std.proofs.lemmas.Bool.{cases_eq, cases_lt, false≢true, false_from_ne_true, eqb-true, eq-eqb, or_cases, or_left, or_right}
use Rattle.std.proofs.lemmas.List.{length-append, length-map, get_or_past, get_or_default, same_lists}
use Rattle.std.proofs.lemmas.List.Elements.{All-nil, All-get_or, All-push, All-weaker, All-contains, All-contains_itself, Contains-append_left, Contains-append_right, Contains-append_cases}
use Rattle.mv_base.specs.declared.number.NetId.{NetId}
use Rattle.mv_cover.specs.Cubes.{IsCube}
use Rattle.mv_cover.specs.Covers.{literal_count}
use Rattle.mv_cover.specs.Equal.{cube_eq}
use Rattle.mv_cover.specs.Lines.{lines_differ}
use Rattle.mv_cover.specs.declared.line.Line.{Line}
use Rattle.std.specs.List.{IsDistinct}
use Rattle.mv_graph.specs.Nets.{has_id}
use Rattle.mv_graph.proofs.Nets.{has_id-append}
use Rattle.mv_net.specs.declared.parts.FlatNet.{FlatNet}
use Rattle.mv_net.specs.declared.parts.NetParts.{NetParts}
use Rattle.mv_net.specs.Formed.{WellFormed}
use Rattle.mv_net.specs.Nets.{slot}
use Rattle.mv_kernels.proofs.Lists.{Contains-map, Contains-from_map, Contains-filter, Contains-from_filter, Contains-none}
use Rattle.mv_divide.specs.declared.part.Part.{Part}
use Rattle.mv_divide.specs.Tables.{parts_of}
use Rattle.mv_gains.specs.declared.gains.Kept.{Kept}
use Rattle.mv_gains.specs.declared.kernels.Candidate.{Candidate}
use Rattle.mv_gains.specs.Gains.{AreTablesBut, covers_at, lines_at}
use Rattle.mv_gains.specs.Kernels.{AreCandidates, IsKernelOfTable, IsWithKernels, new_candidate}
use Rattle.mv_gains.specs.Known.{IsRight, StaysRight, Standing, standing}
use Rattle.mv_gains.specs.Renewing.{AreGains, AreNumbers, AreSameTables, AreUnseenElse, IsPut, is_other}
use Rattle.mv_gains.specs.Tables.{HasLines, IsReady}
use Rattle.mv_gains.proofs.Kept.{all_lines_formed}
use Rattle.mv_gains.proofs.Parts.{ready_parts}
use Rattle.mv_gains.proofs.Readers.{table_at}
use Rattle.mv_gains.proofs.Staying.{stays_grown}

-- ---- nets that wait

none_waits : (n : NetId) (rest : List NetId) (m : ℕ) → (m ≡ n.0 → ⊥) → has_id rest m ≡ false → has_id (n ∷ rest) m ≡ false
none_waits n rest m other f =
    false_from_ne_true (has_id (n ∷ rest) m) (λ t.
    elim (or_cases (nat_eq n.0 m) (has_id rest m) t) [
      | inl e ↦ other (sym (eqb-true n.0 m e))
      | inr r ↦ false≢true (sym f ∙ r)
    ])

pub waits_on : (waiting : List NetId) (i : ℕ) (n : NetId) → i < length waiting → n ≡ get_or waiting i n → drop i waiting ≡ n ∷ drop (i + 1) waiting
waits_on waiting i n low at = drop-cons waiting i n low ∙ (λ j. sym at j ∷ drop (sym (add-one i) j) waiting)

-- ---- covers

pub same_more : {X : Type 0} (tables : List (List X)) (n : ℕ) → get_or (tables ++ [] ∷ []) n [] ≡ get_or tables n []
same_more tables n =
    let long : length (tables ++ [] ∷ []) ≡ length tables + 1 = length-append tables ([] ∷ []) in
    elim (cases_lt n (length tables)) [
      | inl low ↦ get_or-append tables ([] ∷ []) [] n low
      | inr past ↦
          elim (cases_eq n (length tables)) [
            | inl at ↦
                subst (λ k. get_or (tables ++ [] ∷ []) k [] ≡ get_or tables k []) (sym at)
                (get_or-append_seam tables [] [] [] ∙ sym (get_or_past tables (length tables) [] (omega arith)))
            | inr off ↦ get_or_past (tables ++ [] ∷ []) n [] (omega (arith, long, past, off)) ∙ sym (get_or_past tables n [] past)
          ]
    ]

pub same_none : {X : Type 0} (tables : List (List X)) → AreSameTables tables tables
same_none tables = record { each = λ n. refl }

pub same_push : {X : Type 0} (old tables new : List (List X)) → new ≡ tables ++ [] ∷ [] → AreSameTables old tables → AreSameTables old new
same_push {X} old tables new are same = record { each = λ n. ap (λ (ts : List (List X)). get_or ts n []) are ∙ (same_more tables n ∙ same.each n) }

-- candidates of the same tables
candidates_as : (old new : List (List Part)) (waiting : List NetId) (list : List Candidate) → ((n : ℕ) → get_or new n [] ≡ get_or old n []) → AreCandidates old waiting list → AreCandidates new waiting list
candidates_as old new waiting list same a = record {
  each = λ c i. subst (λ (ps : List Part). IsKernelOfTable ps c.kernel) (sym (same c.table.0)) (a.each c i);
  all = λ n k f is. a.all n k f (subst (λ (ps : List Part). IsKernelOfTable ps k) (same n) is);
}

ready_none : IsReady []
unfolding IsDistinct
ready_none = record { distinct = All-nil (λ (p : Part). IsDistinct cube_eq p.cover); formed = All-nil (λ (p : Part). All IsCube p.cover); few = omega arith }

-- an empty table comes
pub gains_grown : (old new : Kept) → AreGains old → new.covers.items ≡ old.covers.items ++ [] ∷ [] → new.changed.items ≡ old.changed.items ++ old.now ∷ [] → new.candidates.items ≡ old.candidates.items → new.now ≡ old.now → AreGains new
gains_grown old new gains covers changed candidates now = record {
  ready = subst (All IsReady) (sym covers) (All-push IsReady old.covers.items [] gains.ready ready_none);
  all =
      subst (AreCandidates new.covers.items []) (sym candidates)
      (candidates_as old.covers.items new.covers.items [] old.candidates.items (λ n. ap (λ (ts : List (List Part)). get_or ts n []) covers ∙ same_more old.covers.items n) gains.all);
  right =
      subst (All (IsRight new.covers.items new.changed.items new.now)) (sym candidates)
      (All-weaker (IsRight old.covers.items old.changed.items old.now) (IsRight new.covers.items new.changed.items new.now)
      (λ c r.
      let s = (stays_grown old.now old.covers.items old.changed.items).each c r in
      subst (λ k. IsRight new.covers.items new.changed.items k c) (sym now)
      (subst (λ (xs : List ℕ). IsRight new.covers.items xs old.now c) (sym changed)
      (subst (λ (ts : List (List Part)). IsRight ts (old.changed.items ++ old.now ∷ []) old.now c) (sym covers) s))) old.candidates.items gains.right);
}

-- the covers of one net more were put
pub but_less : {X : Type 0} (kept_of : Option FlatNet → List X) (nets : List (Option FlatNet)) (tables new : List (List X)) (n : NetId) (rest : List NetId) → n.0 < length tables → new ≡ set tables n.0 (kept_of (slot nets n.0)) → AreTablesBut kept_of (n ∷ rest) nets tables → AreTablesBut kept_of rest nets new
but_less {X} kept_of nets tables new n rest low are a = record {
  same = λ m f.
      elim (cases_eq m n.0) [
        | inl at ↦
            subst (λ k. kept_of (slot nets k) ≡ get_or new k []) (sym at)
            (sym (ap (λ (ts : List (List X)). get_or ts n.0 []) are ∙ get_or-set_same tables n.0 (kept_of (slot nets n.0)) [] low))
        | inr other ↦
            a.same m (none_waits n rest m other f) ∙
            sym (ap (λ (ts : List (List X)). get_or ts m []) are ∙ get_or-set_other tables n.0 m (kept_of (slot nets n.0)) [] other)
      ];
}

-- none waits any more
pub but_none : {X : Type 0} (kept_of : Option FlatNet → List X) → kept_of None ≡ [] → (nets : List (Option FlatNet)) (tables : List (List X)) → length tables ≡ length nets → AreTablesBut kept_of [] nets tables → tables ≡ map kept_of nets
but_none kept_of none nets tables long a =
    same_lists tables (map kept_of nets) (long ∙ sym (length-map nets kept_of))
    (λ k d low.
    get_or_default tables k d [] low ∙ (sym (a.same k refl) ∙ (sym (table_at kept_of none nets (map kept_of nets) refl k) ∙ get_or_default (map kept_of nets) k [] d (omega (arith, low, long, length-map nets kept_of)))))

pub but_same : {X : Type 0} (kept_of : Option FlatNet → List X) (waiting : List NetId) (nets : List (Option FlatNet)) (old new : List (List X)) → AreSameTables old new → AreTablesBut kept_of waiting nets old → AreTablesBut kept_of waiting nets new
but_same kept_of waiting nets old new same a = record { same = λ n f. a.same n f ∙ sym (same.each n) }

pub put_none : (k : Kept) → All IsReady k.covers.items → IsPut k k
put_none k ready = record { candidates = refl; now = refl; ready = ready; right = record { each = λ c r. r } }

pub put_then : (a b c : Kept) → IsPut a b → IsPut b c → IsPut a c
put_then a b c p q = record {
  candidates = q.candidates ∙ p.candidates;
  now = q.now ∙ p.now;
  ready = q.ready;
  right =
      let from : StaysRight a.now b.covers.items b.changed.items c.covers.items c.changed.items =
      subst (λ k. StaysRight k b.covers.items b.changed.items c.covers.items c.changed.items) p.now q.right in
      record { each = λ k r. from.each k (p.right.each k r) };
}

-- ---- candidates

-- the kernels of one table more were added
pub kernels_more : (tables : List (List Part)) (n : NetId) (rest : List NetId) (parts : List Part) (old new : List Candidate) → parts ≡ get_or tables n.0 [] → AreCandidates tables (n ∷ rest) old → IsWithKernels n parts old new → AreCandidates tables rest new
kernels_more tables n rest parts old new are a w = record {
  each = λ c i.
      elim (Contains-append_cases old (map (new_candidate n) w.kernels) c (subst (λ (cs : List Candidate). Contains cs c) w.are i)) [
        | inl was ↦ a.each c was
        | inr came ↦
            let m = Contains-from_map (new_candidate n) w.kernels c came in
            subst (λ (x : Candidate). IsKernelOfTable (get_or tables x.table.0 []) x.kernel) (sym m.2)
            (subst (λ (ps : List Part). IsKernelOfTable ps m.0) are (w.each m.0 m.1))
      ];
  all = λ m k f is.
      elim (cases_eq m n.0) [
        | inl at ↦
            let here : IsKernelOfTable parts k = subst (λ (ps : List Part). IsKernelOfTable ps k) (ap (λ j. get_or tables j []) at ∙ sym are) is in
            record {
              candidate = new_candidate n k;
              there =
                  subst (λ (cs : List Candidate). Contains cs (new_candidate n k)) (sym w.are)
                  (Contains-append_right old (map (new_candidate n) w.kernels) (new_candidate n k) (Contains-map (new_candidate n) w.kernels k (w.all k here)));
              table = sym at;
              is = refl;
            }
        | inr other ↦
            let h = a.all m k (none_waits n rest m other f) is in
            record {
              candidate = h.candidate;
              there =
                  subst (λ (cs : List Candidate). Contains cs h.candidate) (sym w.are)
                  (Contains-append_left old (map (new_candidate n) w.kernels) h.candidate h.there);
              table = h.table;
              is = h.is;
            }
      ];
}

pub unseen_none : (list : List Candidate) → AreUnseenElse list list
unseen_none list = record { each = λ c i. inl i }

pub unseen_more : (n : NetId) (parts : List Part) (first old new : List Candidate) → AreUnseenElse first old → IsWithKernels n parts old new → AreUnseenElse first new
unseen_more n parts first old new u w = record {
  each = λ c i.
      elim (Contains-append_cases old (map (new_candidate n) w.kernels) c (subst (λ (cs : List Candidate). Contains cs c) w.are i)) [
        | inl was ↦ u.each c was
        | inr came ↦ let m = Contains-from_map (new_candidate n) w.kernels c came in inr (ap (λ (x : Candidate). x.seen) m.2)
      ];
}

-- the candidates of the other tables are those of all, but of the ones that wait
pub others_are : (nets : List (Option FlatNet)) (waiting : List NetId) (old new : List (List Part)) (list left : List Candidate) → new ≡ map covers_at nets → AreTablesBut covers_at waiting nets old → AreCandidates old [] list → left ≡ filter (is_other waiting) list → AreCandidates new waiting left
others_are nets waiting old new list left are but a kept =
    let same : (n : ℕ) → has_id waiting n ≡ false → get_or new n [] ≡ get_or old n [] = λ n f. table_at covers_at refl nets new are n ∙ but.same n f in
    record {
      each = λ c i.
          let f = Contains-from_filter (is_other waiting) list c (subst (λ (cs : List Candidate). Contains cs c) kept i) in
          subst (λ (ps : List Part). IsKernelOfTable ps c.kernel) (sym (same c.table.0 (off (has_id waiting c.table.0) f.1))) (a.each c f.0);
      all = λ n k f is.
          let h = a.all n k refl (subst (λ (ps : List Part). IsKernelOfTable ps k) (same n f) is) in
          record {
            candidate = h.candidate;
            there =
                subst (λ (cs : List Candidate). Contains cs h.candidate) (sym kept)
                (Contains-filter (is_other waiting) list h.candidate (ap not (ap (has_id waiting) h.table ∙ f)) h.there);
            table = h.table;
            is = h.is;
          };
    }
  where
    off : (b : Bool) → not b ≡ true → b ≡ false
    off true e = absurd (false≢true e)
    off false e = refl

-- what is known of the candidates is right, when all is put anew
pub all_renewed : (waiting : List NetId) (g p : Kept) (left new : List Candidate) → AreGains g → IsPut g p → left ≡ filter (is_other waiting) p.candidates.items → AreUnseenElse left new → All (IsRight p.covers.items p.changed.items p.now) new
all_renewed waiting g p left new gains put kept unseen =
    All-weaker (Contains new) (IsRight p.covers.items p.changed.items p.now)
    (λ c i.
    elim (unseen.each c i) [
      | inl was ↦
          let f = Contains-from_filter (is_other waiting) p.candidates.items c (subst (λ (cs : List Candidate). Contains cs c) kept was) in
          let there : Contains g.candidates.items c = subst (λ (cs : List Candidate). Contains cs c) (ap (λ v. v.items) put.candidates) f.0 in
          let r = All-contains (IsRight g.covers.items g.changed.items g.now) g.candidates.items c gains.right there in
          subst (λ k. IsRight p.covers.items p.changed.items k c) (sym put.now) (put.right.each c r)
      | inr none ↦ record { past = omega (arith, none); known = λ fresh. absurd (omega (arith, none, fresh)) }
    ]) new (All-contains_itself new)

-- candidates that stand as others did
pub candidates_stand : (tables : List (List Part)) (waiting : List NetId) (old new : List Candidate) → map standing new ≡ map standing old → AreCandidates tables waiting old → AreCandidates tables waiting new
candidates_stand tables waiting old new same a = record {
  each = λ c i.
      let m = Contains-from_map standing old (standing c) (subst (λ (ss : List Standing). Contains ss (standing c)) same (Contains-map standing new c i)) in
      subst (λ (s : Standing). IsKernelOfTable (get_or tables s.table.0 []) s.kernel) (sym m.2) (a.each m.0 m.1);
  all = λ n k f is.
      let h = a.all n k f is in
      let m = Contains-from_map standing new (standing h.candidate) (subst (λ (ss : List Standing). Contains ss (standing h.candidate)) (sym same) (Contains-map standing old h.candidate h.there)) in
      record {
        candidate = m.0;
        there = m.1;
        table = ap (λ (s : Standing). s.table.0) (sym m.2) ∙ h.table;
        is = ap (λ (s : Standing). s.kernel) (sym m.2) ∙ h.is;
      };
}

-- ---- at the start

pub gains_none : (k : Kept) → k.covers.items ≡ [] → k.candidates.items ≡ [] → AreGains k
gains_none k covers candidates = record {
  ready = subst (All IsReady) (sym covers) (All-nil IsReady);
  all =
      subst (AreCandidates k.covers.items []) (sym candidates)
      (subst (λ (ts : List (List Part)). AreCandidates ts [] []) (sym covers)
      (record { each = λ c i. absurd (Contains-none c i); all = λ n j f is. absurd (Contains-none is.from is.there) }));
  right = subst (All (IsRight k.covers.items k.changed.items k.now)) (sym candidates) (All-nil (IsRight k.covers.items k.changed.items k.now));
}

pub numbers_none : AreNumbers 0 []
numbers_none = record { below = All-nil (λ (n : NetId). n.0 < 0); all = λ n low. absurd (omega arith) }

pub numbers_more : (k : ℕ) (list : List NetId) → AreNumbers k list → AreNumbers (k + 1) (list ++ record { 0 = k } ∷ [])
numbers_more k list a = record {
  below =
      All-push (λ (n : NetId). n.0 < k + 1) list (record { 0 = k })
      (All-weaker (λ (n : NetId). n.0 < k) (λ (n : NetId). n.0 < k + 1) (λ n low. omega (arith, low)) list a.below) (omega arith);
  all = λ n low.
      has_id-append list (record { 0 = k } ∷ []) n ∙
      elim (cases_lt n k) [
        | inl before ↦ or_left (has_id list n) (has_id (record { 0 = k } ∷ []) n) (a.all n before)
        | inr past ↦
            or_right (has_id list n) (has_id (record { 0 = k } ∷ []) n)
            (or_left (nat_eq k n) false (eq-eqb k n (omega (arith, low, past))))
      ];
}

-- all wait where there are none yet
pub all_wait : (nets : List (Option FlatNet)) (list : List NetId) → AreNumbers (length nets) list → AreTablesBut covers_at list nets []
all_wait nets list a = record {
  same = λ n f.
      elim (cases_lt n (length nets)) [
        | inl low ↦ absurd (false≢true (sym f ∙ a.all n low))
        | inr past ↦ ap covers_at (get_or_past nets n None past) ∙ sym (get_or_past [] n [] (omega arith))
      ];
}

-- ---- the covers of one table

pub put_ready : (net : NetParts) (nets : List (Option FlatNet)) (n : ℕ) (f : Option FlatNet) (lines : List Line) (parts : List Part) → WellFormed net → nets ≡ net.nets → n < length nets → f ≡ get_or nets n f → lines ≡ lines_at f → literal_count lines ≤ 2 ^ 96 → parts ≡ parts_of lines → IsReady parts
put_ready net nets n f lines parts formed same low at are few made =
    let all : All HasLines nets = subst (λ (ns : List (Option FlatNet)). All HasLines ns) (sym same) (all_lines_formed net formed) in
    let h : HasLines f = subst HasLines (sym at) (All-get_or HasLines nets n f low all) in
    subst IsReady (sym made)
    (ready_parts lines (ap lines_differ are ∙ h.differ) (subst (λ (ls : List Line). All (λ (l : Line). IsCube l.cube) ls) (sym are) h.formed) few)

-- ---- what the candidates save was worked out

pub gains_refreshed : (old new : Kept) → AreGains old → new.covers.items ≡ old.covers.items → map standing new.candidates.items ≡ map standing old.candidates.items → All (IsRight new.covers.items new.changed.items new.now) new.candidates.items → AreGains new
gains_refreshed old new gains covers same right = record {
  ready = subst (All IsReady) (sym covers) gains.ready;
  all =
      subst (λ (ts : List (List Part)). AreCandidates ts [] new.candidates.items) (sym covers)
      (candidates_stand old.covers.items [] old.candidates.items new.candidates.items same gains.all);
  right = right;
}
