-- What each status says, once for all tasks.
use Rattle.std.proofs.Common.{◌≡◌, ◌∙◌, ◌⊎◌, ℕ, true, false, is_some, List, [], ◌∷◌, inl, inr, refl, sym, ap, subst, arith, ⊎_elim}
use Rattle.std.specs.Prelude.{IsTrue}
use Rattle.mv_base.specs.Outside.{Stored, Gained, Rose}
use Rattle.mv_task.specs.Ends.{Outside, Sinks, Task, Work, Ends, Refused, Unread, Short, Worked, WorkEnds, IsDone, IsDenied, Done, Denied, DenialCut, OutputCut, NotesCut, Stopped, Own, is_common, work_on_both}
use Rattle.mv_task.specs.Exact.{IsExact, IsComplete, RefusesWith}
use Rattle.mv_task.specs.Sources.{IsReadWhole, starts_with}
use Rattle.mv_task.specs.Stages.{Stage, Takes, AreTaken, AreRead, FirstOf, EndsRefused, EndsUnread}
use Rattle.mv_task.proofs.Contents.{never_misses, told_sound}
use Rattle.mv_task.proofs.Walks.{first_never, first_both, one_contents, never_refused, never_faulty}

-- a status of its own isn't one that every task may have
pub common : (k n : ℕ) → is_common k ≡ false → k ≡ n → is_common n ≡ true → ⊥
common k n apart e c = let f : is_common k ≡ is_common n = ap is_common e in cc

-- ---- by how the work ended

-- what the work came to, or was about to
pub data Comes (work : Work) : Type 0 where
  Noting : (noted : List ℕ) → (notes : work.Notes noted) → Comes work
  Doing : (noted written : List ℕ) → (does : work.Does noted written) → Comes work
  Denying : (written : List ℕ) → (denies : work.Denies written) → Comes work

module _ (work : Work) (old new : Sinks) (status : ℕ) where
  -- something holds of the status where it does of 0 if the work is done, of 5 if the output or the notes failed, of 6 if memory ran
  -- out, of the status of each refusal, and of 9 if the answer is no
  pub work_by : (P : ℕ → Type 0) → (IsDone work old new → P 0)
      → ((Rose old.out.faults new.out.faults ⊎ Rose old.notes.faults new.notes.faults) → Comes work → P 5) → (new.out ≡ old.out → P 6)
      → (is_common status ≡ false → new.out ≡ old.out → (line : List ℕ) → work.Refuses status line → P status) → (IsDenied work old new → P 9) → WorkEnds work old new status → P status
  work_by P done cut short own deny (Done is all) = subst P (sym is) (done all)
  work_by P done cut short own deny (Denied is denied) = subst P (sym is) (deny denied)
  work_by P done cut short own deny (DenialCut is rose untouched written denies part) = subst P (sym is) (cut (inl rose) (Denying written denies))
  work_by P done cut short own deny (OutputCut is rose noted written does notes part) = subst P (sym is) (cut (inl rose) (Doing noted written does))
  work_by P done cut short own deny (NotesCut is rose untouched noted does part) =
      subst P (sym is)
      (cut (inr rose)
      (⊎_elim
      (λ (stops : work.Notes noted). Noting noted stops)
      (λ (all : (written : List ℕ) × work.Does noted written). Doing noted all.0 all.1)
      does))
  work_by P done cut short own deny (Stopped is untouched noted stops tells) = subst P (sym is) (short untouched)
  work_by P done cut short own deny (Own apart untouched line refuses tells) = own apart untouched line refuses

  done_of : WorkEnds work old new status → status ≡ 0 → IsDone work old new
  done_of =
      work_by (λ k. k ≡ 0 → IsDone work old new) (λ all e. all) (λ rose comes e. absurd (omega arith)) (λ same e. absurd (omega arith))
      (λ apart same line refuses e. absurd (common status 0 apart e refl)) (λ d e. absurd (omega arith))

  denied_of : WorkEnds work old new status → status ≡ 9 → IsDenied work old new
  denied_of =
      work_by (λ k. k ≡ 9 → IsDenied work old new) (λ all e. absurd (omega arith)) (λ rose comes e. absurd (omega arith)) (λ same e. absurd (omega arith))
      (λ apart same line refuses e. absurd (common status 9 apart e refl)) (λ d e. d)

  work_untouched : WorkEnds work old new status → (status ≡ 0 → ⊥) → (status ≡ 5 → ⊥) → (status ≡ 9 → ⊥) → new.out ≡ old.out
  work_untouched =
      work_by (λ k. (k ≡ 0 → ⊥) → (k ≡ 5 → ⊥) → (k ≡ 9 → ⊥) → new.out ≡ old.out) (λ all a b c. absurd (a refl)) (λ rose comes a b c. absurd (b refl)) (λ same a b c. same)
      (λ apart same line refuses a b c. same) (λ d a b c. absurd (c refl))

  never_four : WorkEnds work old new status → status ≡ 4 → ⊥
  never_four =
      work_by (λ k. k ≡ 4 → ⊥) (λ all e. omega arith) (λ rose comes e. omega arith) (λ same e. omega arith) (λ apart same line refuses e. common status 4 apart e refl) (λ d e. omega arith)

  work_complete : WorkEnds work old new status → (Rose old.out.faults new.out.faults → ⊥) → (Rose old.notes.faults new.notes.faults → ⊥)
      → (status ≡ 0) ⊎ (status ≡ 6) ⊎ ((line : List ℕ) × work.Refuses status line) ⊎ ((status ≡ 9) × ((written : List ℕ) × work.Denies written))
  work_complete ends out notes =
      let P : ℕ → Type 0 = λ k. (k ≡ 0) ⊎ (k ≡ 6) ⊎ ((line : List ℕ) × work.Refuses status line) ⊎ ((k ≡ 9) × ((written : List ℕ) × work.Denies written)) in
      work_by P (λ all. inl refl) (λ rose comes. absurd (⊎_elim (λ (r : Rose old.out.faults new.out.faults). out r) (λ (r : Rose old.notes.faults new.notes.faults). notes r) rose)) (λ same. inr (inl refl))
      (λ apart same line refuses. inr (inr (inl (line, refuses)))) (λ d. inr (inr (inr (refl, (d.written, d.denies))))) ends

-- ---- the work is done

-- a task whose work is done
pub record HasDone (task : Task) (old new : Outside) : Type 0 where
  pub contents : List (List ℕ)
  pub read : AreRead task.stages old.files new.files contents
  pub done : IsDone (task.work contents) old.sinks new.sinks

module _ {task : Task} {old new : Outside} {status : ℕ} where
  pub ends_done : Ends task old new status → status ≡ 0 → HasDone task old new
  ends_done (Refused apart line first untouched tells) e = absurd (common status 0 apart e refl)
  ends_done (Unread is rose first untouched tells) e = absurd (omega arith)
  ends_done (Short is begun untouched tells) e = absurd (omega arith)
  ends_done (Worked contents read ends) e = record {
    contents = contents;
    read = read;
    done = done_of (task.work contents) old.sinks new.sinks status ends e;
  }

-- ---- the answer is no

-- a task whose answer is no
pub record HasDenied (task : Task) (old new : Outside) : Type 0 where
  pub contents : List (List ℕ)
  pub read : AreRead task.stages old.files new.files contents
  pub denied : IsDenied (task.work contents) old.sinks new.sinks

module _ {task : Task} {old new : Outside} {status : ℕ} where
  pub ends_denied : Ends task old new status → status ≡ 9 → HasDenied task old new
  ends_denied (Refused apart line first untouched tells) e = absurd (common status 9 apart e refl)
  ends_denied (Unread is rose first untouched tells) e = absurd (omega arith)
  ends_denied (Short is begun untouched tells) e = absurd (omega arith)
  ends_denied (Worked contents read ends) e = record {
    contents = contents;
    read = read;
    denied = denied_of (task.work contents) old.sinks new.sinks status ends e;
  }

-- ---- causes

module _ (task : Task) (old new : Outside) (status : ℕ) where
  pub ends_untouched : Ends task old new status → (status ≡ 0 → ⊥) → (status ≡ 5 → ⊥) → (status ≡ 9 → ⊥) → new.sinks.out ≡ old.sinks.out
  ends_untouched (Refused apart line first untouched tells) a b c = untouched
  ends_untouched (Unread is rose first untouched tells) a b c = untouched
  ends_untouched (Short is begun untouched tells) a b c = untouched
  ends_untouched (Worked contents read ends) a b c = work_untouched (task.work contents) old.sinks new.sinks status ends a b c

  pub ends_rose : Ends task old new status → status ≡ 4 → Rose old.files.faults new.files.faults
  ends_rose (Refused apart line first untouched tells) e = absurd (common status 4 apart e refl)
  ends_rose (Unread is rose first untouched tells) e = rose
  ends_rose (Short is begun untouched tells) e = absurd (omega arith)
  ends_rose (Worked contents read ends) e = absurd (never_four (task.work contents) old.sinks new.sinks status ends e)

-- ---- exactness

module _ (task : Task) (old new : Outside) (status : ℕ) where
  -- what is refused with a status isn't accepted
  apart_of : (k : ℕ) → IsTrue (is_some old.files.held) → (s : Stage) (n : ℕ) (content : List ℕ) → Takes s old.files content → RefusesWith k old.files s n → ⊥
  apart_of k told s n content t r = never_refused s old.files content told t r.refused

  apart_from : (line : List ℕ) → IsTrue (is_some old.files.held) → (s : Stage) (n : ℕ) (content : List ℕ) → Takes s old.files content → EndsRefused status line old.files new.files s n → ⊥
  apart_from line told s n content t r = never_faulty s old.files content line told t r.faulty

  pub ends_exact : Ends task old new status → IsExact task.stages old.files status
  ends_exact (Refused apart line first untouched tells) k told refused u =
      first_both (EndsRefused status line old.files new.files) (RefusesWith k old.files) (status ≡ k) task.stages old.files old.files.starts
      (apart_from line told) (apart_of k told) (λ s n p q. p.is ∙ sym q.is) first refused
  ends_exact (Unread is rose first untouched tells) k told refused u = absurd (u.read is)
  ends_exact (Short is begun untouched tells) k told refused u = absurd (u.memory is)
  ends_exact (Worked contents read ends) k told refused u =
      absurd (first_never (RefusesWith k old.files) task.stages old.files old.files.starts contents (apart_of k told) read.taken refused)

-- ---- completeness

module _ (task : Task) (old new : Outside) (status : ℕ) where
  pub ends_complete : Ends task old new status → IsComplete task old new status
  ends_complete (Refused apart line first untouched tells) contents sound taken o n =
      absurd (first_never (EndsRefused status line old.files new.files) task.stages old.files old.files.starts contents (apart_from task old new status line (told_sound old.files.held sound)) taken first)
  ends_complete (Unread is rose first untouched tells) contents sound taken o n =
      absurd (first_never (EndsUnread old.files new.files) task.stages old.files old.files.starts contents (λ s k content t r. never_misses s.from old.files content sound r.misses t.is) taken first)
  ends_complete (Short is begun untouched tells) contents sound taken o n = inr (inl is)
  ends_complete (Worked own read ends) contents sound taken o n =
      let same : own ≡ contents = one_contents task.stages old.files own contents (told_sound old.files.held sound) read.taken taken in
      let P : List (List ℕ) → Type 0 = λ cs. (status ≡ 0) ⊎ (status ≡ 6) ⊎ ((line : List ℕ) × (task.work cs).Refuses status line) ⊎ ((status ≡ 9) × ((written : List ℕ) × (task.work cs).Denies written)) in
      subst P same (work_complete (task.work own) old.sinks new.sinks status ends o n)

-- ---- files that tell, whose contents all stages accept

module _ (task : Task) (old new : Outside) (status : ℕ) (contents : List (List ℕ)) where
  -- the work ends on them, if it is begun
  pub ends_worked : Ends task old new status → IsTrue (is_some old.files.held) → AreTaken task.stages old.files contents → ((status ≡ 4) ⊎ (status ≡ 6)) ⊎ WorkEnds (task.work contents) old.sinks new.sinks status
  ends_worked (Refused apart line first untouched tells) told taken =
      absurd (first_never (EndsRefused status line old.files new.files) task.stages old.files old.files.starts contents (apart_from task old new status line told) taken first)
  ends_worked (Unread is rose first untouched tells) told taken = inl (inl is)
  ends_worked (Short is begun untouched tells) told taken = inl (inr is)
  ends_worked (Worked own read ends) told taken =
      let same : own ≡ contents = one_contents task.stages old.files own contents told read.taken taken in
      inr (subst (λ cs. WorkEnds (task.work cs) old.sinks new.sinks status) same ends)

-- ---- what holds of each status

abbrev pub EachRefusal : (ℕ → Type 0) → List Stage → Type 0
EachRefusal P [] = Unit {0}
EachRefusal P (s ∷ ss) = P s.refusal × EachRefusal P ss

refusal_is : (P : ℕ → Type 0) (stages : List Stage) (files new : Stored) (starts status : ℕ) (line : List ℕ) → EachRefusal P stages → FirstOf (EndsRefused status line files new) stages files starts → P status
refusal_is P [] files new starts status line each first = absurd first
refusal_is P (s ∷ ss) files new starts status line each first =
    ⊎_elim
    (λ (r : EndsRefused status line files new s (starts_with s.from starts)). subst P (sym r.is) each.0)
    (λ (r : (content : List ℕ) × (Takes s files content × FirstOf (EndsRefused status line files new) ss files (starts_with s.from starts))).
    refusal_is P ss files new (starts_with s.from starts) status line each.1 r.1.1)
    first

pub ends_known : (P : ℕ → Type 0) (task : Task) (old new : Outside) (status : ℕ) → P 0 → P 4 → P 5 → P 6 → EachRefusal P task.stages
    → ((contents : List (List ℕ)) (k : ℕ) (line : List ℕ) → (task.work contents).Refuses k line → P k)
    → ((contents : List (List ℕ)) (written : List ℕ) → (task.work contents).Denies written → P 9) → Ends task old new status → P status
ends_known P task old new status p0 p4 p5 p6 each own deny (Refused apart line first untouched tells) =
    refusal_is P task.stages old.files new.files old.files.starts status line each first
ends_known P task old new status p0 p4 p5 p6 each own deny (Unread is rose first untouched tells) = subst P (sym is) p4
ends_known P task old new status p0 p4 p5 p6 each own deny (Short is begun untouched tells) = subst P (sym is) p6
ends_known P task old new status p0 p4 p5 p6 each own deny (Worked contents read ends) =
    work_by (task.work contents) old.sinks new.sinks status P (λ all. p0) (λ rose comes. p5) (λ same. p6) (λ apart same line refuses. own contents status line refuses)
    (λ d. deny contents d.written d.denies) ends

-- ---- tasks of two stages

module _ {V W : Type 0} (IsFirst : List ℕ → V → Type 0) (IsSecond : List ℕ → W → Type 0) (work : V → W → Work) where
  -- what holds of each refusal of their own
  pub both_refuse : (P : ℕ → Type 0) → ((v : V) (w : W) (k : ℕ) (line : List ℕ) → (work v w).Refuses k line → P k) → (contents : List (List ℕ)) (k : ℕ) (line : List ℕ) → (work_on_both IsFirst IsSecond work contents).Refuses k line → P k
  both_refuse P own [] k line r = absurd r
  both_refuse P own (a ∷ []) k line r = absurd r
  both_refuse P own (a ∷ b ∷ []) k line r = own r.value r.holds.value k line r.holds.holds
  both_refuse P own (a ∷ b ∷ c ∷ cs) k line r = absurd r

  -- and of 9, where they never answer no
  pub both_deny : (P : Type 0) → ((v : V) (w : W) (written : List ℕ) → (work v w).Denies written → P) → (contents : List (List ℕ)) (written : List ℕ) → (work_on_both IsFirst IsSecond work contents).Denies written → P
  both_deny P deny [] written d = absurd d
  both_deny P deny (a ∷ []) written d = absurd d
  both_deny P deny (a ∷ b ∷ []) written d = deny d.value d.holds.value written d.holds.holds
  both_deny P deny (a ∷ b ∷ c ∷ cs) written d = absurd d

  -- what two stages read, and the work on it, which is done
  pub record BothDone (s t : Stage) (old new : Outside) : Type 0 where
    pub a : List ℕ
    pub b : List ℕ
    pub first : Takes s old.files a
    pub second : Takes t old.files b
    pub last : IsReadWhole t.from old.files new.files b
    pub v : V
    pub w : W
    pub says : IsFirst a v
    pub speaks : IsSecond b w
    pub noted : List ℕ
    pub written : List ℕ
    pub does : (work v w).Does noted written
    pub notes : Gained old.sinks.notes new.sinks.notes noted
    pub out : Gained old.sinks.out new.sinks.out written

  both_of : (s t : Stage) (old new : Outside) (contents : List (List ℕ)) → AreRead (s ∷ t ∷ []) old.files new.files contents → IsDone (work_on_both IsFirst IsSecond work contents) old.sinks new.sinks → BothDone s t old new
  both_of s t old new [] read done = absurd read.taken
  both_of s t old new (a ∷ []) read done = absurd read.taken.1
  both_of s t old new (a ∷ b ∷ []) read done = record {
    a = a;
    b = b;
    first = read.taken.0;
    second = read.taken.1.0;
    last = read.last;
    v = done.does.value;
    w = done.does.holds.value;
    says = done.does.said;
    speaks = done.does.holds.said;
    noted = done.noted;
    written = done.written;
    does = done.does.holds.holds;
    notes = done.notes;
    out = done.out;
  }
  both_of s t old new (a ∷ b ∷ c ∷ cs) read done = absurd read.taken.1.1

  pub both_done : (s t : Stage) (old new : Outside) (status : ℕ) → Ends (record { stages = s ∷ t ∷ []; work = work_on_both IsFirst IsSecond work }) old new status → status ≡ 0 → BothDone s t old new
  both_done s t old new status ends e = let d = ends_done ends e in both_of s t old new d.contents d.read d.done

  -- what two stages read, and the work on it, whose answer is no
  pub record BothDenied (s t : Stage) (old new : Outside) : Type 0 where
    pub a : List ℕ
    pub b : List ℕ
    pub first : Takes s old.files a
    pub second : Takes t old.files b
    pub last : IsReadWhole t.from old.files new.files b
    pub v : V
    pub w : W
    pub says : IsFirst a v
    pub speaks : IsSecond b w
    pub written : List ℕ
    pub denies : (work v w).Denies written
    pub notes : new.sinks.notes ≡ old.sinks.notes
    pub out : Gained old.sinks.out new.sinks.out written

  denied_both_of : (s t : Stage) (old new : Outside) (contents : List (List ℕ)) → AreRead (s ∷ t ∷ []) old.files new.files contents → IsDenied (work_on_both IsFirst IsSecond work contents) old.sinks new.sinks → BothDenied s t old new
  denied_both_of s t old new [] read denied = absurd read.taken
  denied_both_of s t old new (a ∷ []) read denied = absurd read.taken.1
  denied_both_of s t old new (a ∷ b ∷ []) read denied = record {
    a = a;
    b = b;
    first = read.taken.0;
    second = read.taken.1.0;
    last = read.last;
    v = denied.denies.value;
    w = denied.denies.holds.value;
    says = denied.denies.said;
    speaks = denied.denies.holds.said;
    written = denied.written;
    denies = denied.denies.holds.holds;
    notes = denied.notes;
    out = denied.out;
  }
  denied_both_of s t old new (a ∷ b ∷ c ∷ cs) read denied = absurd read.taken.1.1

  pub both_denied : (s t : Stage) (old new : Outside) (status : ℕ) → Ends (record { stages = s ∷ t ∷ []; work = work_on_both IsFirst IsSecond work }) old new status → status ≡ 9 → BothDenied s t old new
  both_denied s t old new status ends e = let d = ends_denied ends e in denied_both_of s t old new d.contents d.read d.denied
