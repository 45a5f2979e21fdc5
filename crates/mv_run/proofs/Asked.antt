-- What is so of a run, whatever is asked for.
use Rattle.std.proofs.Common.{◌≡◌, ◌≤◌, inl, inr, ℕ, Option, Some, None, refl, sym, arith, ap, subst}
use Rattle.mv_base.specs.Outside.{Gained}
use Rattle.mv_cert.specs.Replay.{rules_in}
use Rattle.mv_check.specs.Certificates.{SaysSteps, certificate_stage}
use Rattle.mv_check.specs.Checked.{check_work}
use Rattle.mv_command_line.specs.CommandLine.{Asked, opt, check, work, trace, Names}
use Rattle.mv_entry.specs.Entries.{rules_of}
use Rattle.mv_blif_read.specs.declared.network.FileNetwork.{FileNetwork}
use Rattle.mv_format.specs.BlifMv.{blif_mv}
use Rattle.mv_format.specs.Formats.{Replaces, network_stage}
use Rattle.mv_net.specs.Nets.{literals_in}
use Rattle.mv_opt.specs.declared.output.Output.TheVariants.{Network, Summary}
use Rattle.mv_opt.specs.Optimised.{opt_work}
use Rattle.mv_opt.specs.Scripts.{script_stage}
use Rattle.mv_script.specs.Grammar.{IsScript}
use Rattle.mv_task.specs.Ending.{done_line}
use Rattle.mv_task.specs.Ends.{Outside, Ends}
use Rattle.mv_task.specs.Sources.{File}
use Rattle.mv_task.specs.Stages.{starts_behind}
use Rattle.mv_task.proofs.Endings.{ends_done, ends_known, both_refuse, both_deny, both_done}
use Rattle.mv_run.specs.Doing.{format_by, task_asked, terms_of}
use Rattle.mv_run.specs.Replacing.{ReplacesFile}
use Rattle.mv_run.specs.Tracing.{IsStatusOf}
use Rattle.mv_tracing.specs.RunFiles.{SaysLines}
use Rattle.mv_tracing.specs.Traced.{trace_work}

module _ (old new : Outside) (status : ℕ) where
  -- what is so of each status that it may have
  statuses : (P : Option Asked → ℕ → Type 0) (asked : Option Asked) → P asked 0 → (asked ≡ None → P asked 1) → P asked 2 → P asked 3 → P asked 4 → P asked 5 → P asked 6 → P asked 7
      → ((n : Names) → asked ≡ Some (trace n) → P asked 9) → ((n : Names) → asked ≡ Some (trace n) → P asked 11) → Ends (task_asked asked) old new status → P asked status
  statuses P (Some (opt f)) p0 p1 p2 p3 p4 p5 p6 p7 p9 p11 ends =
      ends_known (P (Some (opt f))) (task_asked (Some (opt f))) old new status p0 p4 p5 p6 (p3, (p2, tt))
      (both_refuse IsScript (format_by f.blif).IsNet (opt_work (format_by f.blif) (terms_of f.free f.budget) Network) (P (Some (opt f))) (λ v w k line r. absurd r))
      (both_deny IsScript (format_by f.blif).IsNet (opt_work (format_by f.blif) (terms_of f.free f.budget) Network) (P (Some (opt f)) 9) (λ v w written d. absurd d)) ends
  statuses P (Some (check f)) p0 p1 p2 p3 p4 p5 p6 p7 p9 p11 ends =
      ends_known (P (Some (check f))) (task_asked (Some (check f))) old new status p0 p4 p5 p6 (p7, (p2, tt))
      (both_refuse SaysSteps (format_by f.blif).IsNet (check_work (format_by f.blif) f.free) (P (Some (check f))) (λ v w k line r. subst (P (Some (check f))) (sym r.is) p7))
      (both_deny SaysSteps (format_by f.blif).IsNet (check_work (format_by f.blif) f.free) (P (Some (check f)) 9) (λ v w written d. absurd d)) ends
  statuses P (Some (work d)) p0 p1 p2 p3 p4 p5 p6 p7 p9 p11 ends =
      ends_known (P (Some (work d))) (task_asked (Some (work d))) old new status p0 p4 p5 p6 (p3, (p2, tt))
      (both_refuse IsScript blif_mv.IsNet (opt_work blif_mv (terms_of d.free d.budget) Summary) (P (Some (work d))) (λ v w k line r. absurd r))
      (both_deny IsScript blif_mv.IsNet (opt_work blif_mv (terms_of d.free d.budget) Summary) (P (Some (work d)) 9) (λ v w written d. absurd d)) ends
  statuses P (Some (trace n)) p0 p1 p2 p3 p4 p5 p6 p7 p9 p11 ends =
      ends_known (P (Some (trace n))) (task_asked (Some (trace n))) old new status p0 p4 p5 p6 (p2, (p11 n refl, tt))
      (both_refuse blif_mv.IsNet SaysLines (λ (v : FileNetwork). trace_work v.net) (P (Some (trace n))) (λ v w k line r. subst (P (Some (trace n))) (sym r.is) (p11 n refl)))
      (λ contents written d. p9 n refl) ends
  statuses P None p0 p1 p2 p3 p4 p5 p6 p7 p9 p11 ends =
      ends_known (P None) (task_asked None) old new status p0 p4 p5 p6 tt (λ contents k line r. subst (P None) (sym r.0) (p1 refl)) (λ contents written d. absurd d) ends

  -- a status that every task may have
  usual : (asked : Option Asked) (k : ℕ) → k ≤ 7 → IsStatusOf asked k
  usual (Some (opt f)) k low = low
  usual (Some (check f)) k low = low
  usual (Some (work d)) k low = low
  usual (Some (trace n)) k low = inl low
  usual None k low = low

  pub run_known : (asked : Option Asked) → Ends (task_asked asked) old new status → IsStatusOf asked status
  run_known asked ends =
      statuses IsStatusOf asked (usual asked 0 (omega arith)) (λ none. usual asked 1 (omega arith)) (usual asked 2 (omega arith)) (usual asked 3 (omega arith)) (usual asked 4 (omega arith))
      (usual asked 5 (omega arith)) (usual asked 6 (omega arith)) (usual asked 7 (omega arith)) (λ n e. subst (λ a. IsStatusOf a 9) (sym e) (inr (inl refl)))
      (λ n e. subst (λ a. IsStatusOf a 11) (sym e) (inr (inr refl))) ends

  pub run_words : (asked : Option Asked) → Ends (task_asked asked) old new status → status ≡ 1 → asked ≡ None
  run_words asked ends =
      statuses (λ a k. k ≡ 1 → a ≡ None) asked (λ e. absurd (omega arith)) (λ none e. none) (λ e. absurd (omega arith)) (λ e. absurd (omega arith)) (λ e. absurd (omega arith))
      (λ e. absurd (omega arith)) (λ e. absurd (omega arith)) (λ e. absurd (omega arith)) (λ n t e. absurd (omega arith)) (λ n t e. absurd (omega arith)) ends

  pub run_begun : (asked : Option Asked) → Ends (task_asked asked) old new status → status ≡ 0 → new.files.starts ≡ starts_behind (task_asked asked).stages old.files.starts
  run_begun asked ends e = (ends_done ends e).read.begun

  pub run_replaced : (asked : Option Asked) → Ends (task_asked asked) old new status → status ≡ 0 → ReplacesFile asked old new
  run_replaced (Some (opt f)) ends e =
      let d = both_done IsScript (format_by f.blif).IsNet (opt_work (format_by f.blif) (terms_of f.free f.budget) Network) (script_stage f.other) (network_stage (format_by f.blif) (File f.net)) old new status ends e in
      record {
        content = d.b;
        read = d.last;
        written = d.written;
        gained = d.out;
        rules = rules_of d.does.entries;
        are = record {
          entries = d.does.entries;
          behind = done_line (literals_in d.w.net.nets) (literals_in d.does.net.nets);
          gained = subst (λ t. Gained old.sinks.notes new.sinks.notes t) d.does.noted_is d.notes;
          are = refl;
        };
        first = d.w.net;
        replaces = subst (λ t. Replaces (format_by f.blif) f.free (rules_of d.does.entries) d.w.net d.b t) (sym d.does.written_is) (d.does.replaces d.b d.speaks);
      }
  run_replaced (Some (check f)) ends e =
      let d = both_done SaysSteps (format_by f.blif).IsNet (check_work (format_by f.blif) f.free) (certificate_stage f.other) (network_stage (format_by f.blif) (File f.net)) old new status ends e in
      record {
        content = d.b;
        read = d.last;
        written = d.written;
        gained = d.out;
        rules = rules_in d.v;
        are = record { certificate = d.a; is = d.first.is; are = ap rules_in d.says.are };
        first = d.w.net;
        replaces = subst (λ t. Replaces (format_by f.blif) f.free (rules_in d.v) d.w.net d.b t) (sym d.does.written_is) (d.does.replaces d.b d.speaks);
      }
  run_replaced (Some (work d)) ends e = tt
  run_replaced (Some (trace n)) ends e = tt
  run_replaced None ends e = tt
