-- What a run of the program says of a recorded run.
use Rattle.std.proofs.Common.{◌≡◌, ◌∙◌, ◌⊎◌, ℕ, is_some, List, [], ◌∷◌, Option, Some, None, inl, inr, refl, sym, ap, subst, arith, ⊎_elim}
use Rattle.std.specs.Prelude.{IsTrue}
use Rattle.mv_base.specs.Meaning.{Meaning}
use Rattle.mv_base.specs.Outside.{Gained}
use Rattle.mv_base.specs.declared.limits.TheConstants.{MAX_NETWORK_BYTES}
use Rattle.mv_command_line.specs.CommandLine.{Asked, Names, opt, check, work, trace}
use Rattle.mv_fault.specs.Tells.{first}
use Rattle.mv_blif_read.specs.declared.network.FileNetwork.{FileNetwork}
use Rattle.mv_format.specs.BlifMv.{blif_mv}
use Rattle.mv_format.specs.Formats.{network_stage}
use Rattle.mv_format.specs.declared.format.FileFormat.TheVariants.{BlifMv}
use Rattle.mv_format.proofs.Lawful.{lawful}
use Rattle.mv_lex.specs.declared.lines.LexLine.{LexLine}
use Rattle.mv_lex.specs.Lines.{lines_of}
use Rattle.mv_lex.proofs.Facts.{no_fault_is_clean}
use Rattle.mv_net.specs.Allowed.{of_net}
use Rattle.mv_net.specs.declared.parts.NetParts.{NetParts}
use Rattle.mv_task.specs.Ends.{Outside, Task, Ends, Refused, Unread, Short, Worked, WorkEnds}
use Rattle.mv_task.specs.Exact.{IsUnhindered}
use Rattle.mv_task.specs.Sources.{File, IsReadWhole, starts_with}
use Rattle.mv_task.specs.Stages.{Takes, AreTaken, FirstOf, EndsRefused, IsRefused}
use Rattle.mv_task.proofs.Endings.{both_done, both_denied, ends_exact, ends_worked, work_by, Comes, Noting, Doing, Denying}
use Rattle.mv_trace.specs.Allowed.{RunAllowed, StepAllowed}
use Rattle.mv_trace.specs.declared.fault.TraceFault.{TraceFault}
use Rattle.mv_trace.specs.declared.run.RunStep.{RunStep}
use Rattle.mv_trace.specs.Runs.{run_faults, run_said}
use Rattle.mv_tracing.specs.RunFiles.{SaysLines, run_stage}
use Rattle.mv_tracing.specs.Traced.{AreShownFrom, IsFirstRefused, trace_task, trace_work}
use Rattle.mv_run.specs.Doing.{task_asked}
use Rattle.mv_run.specs.Tracing.{AnswersRun, HoldsFaultyRun, HoldsRefusedRun, IsAllowedRun, IsDeniedRun, IsRecorded}

-- ---- what is allowed

-- steps that a meaning allows are allowed by one that allows as much
step_means : (a b : Meaning) → ((i s o n r : List ℕ) → b.allows i s o n r → a.allows i s o n r) → (run : List RunStep) (k : ℕ) → StepAllowed b run k → StepAllowed a run k
step_means a b all run k s = record {
  step = s.step;
  at = s.at;
  next = s.next;
  resets = s.resets;
  allowed = all s.step.inputs s.step.latches s.step.outputs s.next s.resets s.allowed;
  goes_on = s.goes_on;
  begins = s.begins;
}

module _ (names : Names) (old new : Outside) where
  -- what was read
  abbrev recorded : (text content : List ℕ) (file : FileNetwork) → Takes (network_stage blif_mv (File names.net)) old.files text → IsReadWhole (File names.other) old.files new.files content → blif_mv.IsNet text file
      → run_faults file.net (lines_of content) ≡ [] → IsRecorded names old.files new.files
  recorded text content file taken read said none = record {
    text = text;
    is = taken.is;
    design = said.net_of.0.design;
    reads = record { clean = ((no_fault_is_clean MAX_NETWORK_BYTES text).0 said.lexed).1; design = said.net_of.0.is; sound = said.net_of.0.flat.sound };
    net = file.net;
    flat = said.net_of.0.flat;
    content = content;
    read = read;
    faultless = none;
  }

  -- faults are those of the lines that the content says
  none_said : (net : NetParts) (content : List ℕ) (lines : List LexLine) → lines ≡ lines_of content → run_faults net lines ≡ [] → run_faults net (lines_of content) ≡ []
  none_said net content lines e none = ap (run_faults net) (sym e) ∙ none

  pub is_allowed : (status : ℕ) → Ends (trace_task blif_mv names.net names.other) old new status → status ≡ 0 → IsAllowedRun names old new
  is_allowed status ends e =
      let d = both_done blif_mv.IsNet SaysLines (λ (v : FileNetwork). trace_work v.net) (network_stage blif_mv (File names.net)) (run_stage names.other) old new status ends e in
      let are = d.speaks.are in
      let same = d.says.net_of.0.flat.means in
      let P : List LexLine → Type 0 = λ ls. RunAllowed (of_net d.v.net) (run_said d.v.net ls) in
      let all : P (lines_of d.b) = subst P are d.does.allowed in
      record {
        recorded = recorded d.a d.b d.v d.first d.last d.says (none_said d.v.net d.b d.w are d.does.faultless);
        allowed = λ k low. step_means _ _ same.only (run_said d.v.net (lines_of d.b)) k (all k low);
        ats = d.does.ats;
        shown = subst (λ ls. AreShownFrom d.v.net (run_said d.v.net ls) 0 d.does.ats) are d.does.shown;
        told = subst (Gained old.sinks.out new.sinks.out) d.does.written_is d.out;
        silent = subst (Gained old.sinks.notes new.sinks.notes) d.does.noted_is d.notes;
      }

  pub is_denied : (status : ℕ) → Ends (trace_task blif_mv names.net names.other) old new status → status ≡ 9 → IsDeniedRun names old new
  is_denied status ends e =
      let d = both_denied blif_mv.IsNet SaysLines (λ (v : FileNetwork). trace_work v.net) (network_stage blif_mv (File names.net)) (run_stage names.other) old new status ends e in
      let are = d.speaks.are in
      let same = d.says.net_of.0.flat.means in
      let first = subst (λ ls. IsFirstRefused d.v.net (run_said d.v.net ls) d.denies.step) are d.denies.first in
      record {
        recorded = recorded d.a d.b d.v d.first d.last d.says (none_said d.v.net d.b d.w are d.denies.faultless);
        step = d.denies.step;
        within = first.within;
        before = λ k low. step_means _ _ same.only (run_said d.v.net (lines_of d.b)) k (first.before k low);
        denied = λ s. first.refused (step_means _ _ same.all (run_said d.v.net (lines_of d.b)) d.denies.step s);
        told = subst (Gained old.sinks.out new.sinks.out) d.denies.written_is d.out;
        silent = d.notes;
      }

module _ (old new : Outside) (status : ℕ) where
  pub run_traced : (asked : Option Asked) → Ends (task_asked asked) old new status → AnswersRun asked status old new
  run_traced (Some (opt f)) ends = tt
  run_traced (Some (check f)) ends = tt
  run_traced (Some (work d)) ends = tt
  run_traced (Some (trace n)) ends = record { yes = is_allowed n old new status ends; no = is_denied n old new status ends }
  run_traced None ends = tt

-- ---- run files that are refused

module _ (names : Names) (old new : Outside) where
  abbrev the_task : Task
  the_task = trace_task blif_mv names.net names.other

  refused_of : (status : ℕ) (line : List ℕ) → status ≡ 11 → FirstOf (EndsRefused status line old.files new.files) (the_task).stages old.files old.files.starts → HoldsRefusedRun names old.files
  refused_of status line e first =
      ⊎_elim
      (λ (r : EndsRefused status line old.files new.files (network_stage blif_mv (File names.net)) (starts_with (File names.net) old.files.starts)). let is = r.is in absurd (omega (arith, is, e)))
      (λ (r : (content : List ℕ) × (Takes (network_stage blif_mv (File names.net)) old.files content × FirstOf (EndsRefused status line old.files new.files) (run_stage names.other ∷ []) old.files (starts_with (File names.net) old.files.starts))).
      ⊎_elim
      (λ (n : EndsRefused status line old.files new.files (run_stage names.other) (starts_with (File names.other) (starts_with (File names.net) old.files.starts))).
      record { text = r.0; network = r.1.0; refused = inl (record { content = n.faulty.content; is = n.faulty.is; refused = n.faulty.refused }) })
      (λ (n : (content : List ℕ) × (Takes (run_stage names.other) old.files content × ⊥)). absurd n.1.1)
      r.1.1)
      first

  -- lines that have a first fault have one
  has_fault : (faults : List TraceFault) (f : TraceFault) → first faults ≡ Some f → faults ≡ [] → ⊥
  has_fault faults f is none = let nothing = ap first none in cc

  failing_of : (status : ℕ) (line : List ℕ) (contents : List (List ℕ)) → AreTaken (the_task).stages old.files contents → ((the_task).work contents).Refuses status line → HoldsRefusedRun names old.files
  failing_of status line [] taken r = absurd r
  failing_of status line (a ∷ []) taken r = absurd r
  failing_of status line (a ∷ b ∷ []) taken r =
      let inner = r.holds in
      record {
        text = a;
        network = taken.0;
        refused = inr (record {
          file = r.value;
          said = r.said;
          content = b;
          run = taken.1.0;
          faulty = λ none. has_fault (run_faults r.value.net inner.value) inner.holds.fault inner.holds.first_is (ap (run_faults r.value.net) inner.said.are ∙ none);
        });
      }
  failing_of status line (a ∷ b ∷ c ∷ cs) taken r = absurd r

  refused_only : (status : ℕ) → status ≡ 11 → Ends the_task old new status → HoldsRefusedRun names old.files
  refused_only status e (Refused apart line first untouched tells) = refused_of status line e first
  refused_only status e (Unread is rose first untouched tells) = absurd (omega arith)
  refused_only status e (Short is begun untouched tells) = absurd (omega arith)
  refused_only status e (Worked contents read ends) =
      work_by ((the_task).work contents) old.sinks new.sinks status (λ k. k ≡ 11 → HoldsRefusedRun names old.files) (λ all e. absurd (omega arith)) (λ rose comes e. absurd (omega arith))
      (λ same e. absurd (omega arith)) (λ apart same line refuses e. failing_of status line contents read.taken refuses) (λ d e. absurd (omega arith)) ends e

  pub only_refused : Ends the_task old new 11 → HoldsRefusedRun names old.files
  only_refused ends = refused_only 11 refl ends

  -- lines with a fault come to no answer
  module _ (text : List ℕ) (h : HoldsFaultyRun names old.files text) where
    none_here : (file : FileNetwork) (lines : List LexLine) → blif_mv.IsNet text file → SaysLines h.content lines → run_faults file.net lines ≡ [] → ⊥
    none_here file lines said are none =
        h.faulty (ap (λ (f : FileNetwork). run_faults f.net (lines_of h.content)) ((lawful BlifMv).only text h.file file h.said said) ∙ (ap (run_faults file.net) (sym are.are) ∙ none))

    never_comes : Comes ((the_task).work (text ∷ h.content ∷ [])) → ⊥
    never_comes (Noting noted n) = n.holds.holds
    never_comes (Doing noted written d) = none_here d.value d.holds.value d.said d.holds.said d.holds.holds.faultless
    never_comes (Denying written d) = none_here d.value d.holds.value d.said d.holds.said d.holds.holds.faultless

    faulty_work : (status : ℕ) → WorkEnds ((the_task).work (text ∷ h.content ∷ [])) old.sinks new.sinks status → IsUnhindered status → status ≡ 11
    faulty_work status =
        work_by ((the_task).work (text ∷ h.content ∷ [])) old.sinks new.sinks status (λ k. IsUnhindered k → k ≡ 11) (λ all u. absurd (never_comes (Doing all.noted all.written all.does)))
        (λ rose comes u. absurd (never_comes comes)) (λ same u. absurd (u.memory refl)) (λ apart same line refuses u. refuses.holds.holds.is) (λ d u. absurd (never_comes (Denying d.written d.denies)))

  pub always_refused : (status : ℕ) → Ends the_task old new status → IsTrue (is_some old.files.held) → HoldsRefusedRun names old.files → IsUnhindered status → status ≡ 11
  always_refused status ends told refused u =
      ⊎_elim
      (λ (r : IsRefused (run_stage names.other) old.files).
      ends_exact the_task old new status ends 11 told (inr (refused.text, (refused.network, inl (record { is = refl; refused = r })))) u)
      (λ (h : HoldsFaultyRun names old.files refused.text).
      ⊎_elim
      (λ (e : (status ≡ 4) ⊎ (status ≡ 6)). absurd (⊎_elim (λ (e : status ≡ 4). u.read e) (λ (e : status ≡ 6). u.memory e) e))
      (λ (w : WorkEnds ((the_task).work (refused.text ∷ h.content ∷ [])) old.sinks new.sinks status). faulty_work refused.text h status w u)
      (ends_worked the_task old new status (refused.text ∷ h.content ∷ []) ends told (refused.network, (h.run, tt))))
      refused.refused
