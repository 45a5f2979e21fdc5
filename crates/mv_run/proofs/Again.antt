-- A check of what an earlier run noted, and certificates that a check refuses.
use Rattle.std.proofs.Common.{◌≡◌, ◌∙◌, ◌⊎◌, ℕ, Bool, ◌≤◌, is_some, List, [], ◌∷◌, ◌++◌, length, Option, Some, inl, inr, refl, sym, ap, subst, arith, ⊎_elim}
use Rattle.std.specs.Prelude.{IfSome, IsTrue, IsSomeAnd}
use Rattle.std.proofs.lemmas.List.{append_cancel_left}
use Rattle.mv_base.specs.Outside.{Held, Gained, Rose, file_named}
use Rattle.mv_base.specs.declared.limits.TheConstants.{MAX_CERTIFICATE_BYTES}
use Rattle.mv_blif_read.specs.declared.network.FileNetwork.{FileNetwork}
use Rattle.mv_format.specs.Formats.{Format, IsLawful, left_of, network_stage}
use Rattle.mv_rules.specs.Replaying.{Replays}
use Rattle.mv_cert.specs.Certificates.{Certifies, steps_in}
use Rattle.mv_cert.specs.Replay.{FailsAt, rules_in}
use Rattle.mv_cert.proofs.Replayed.{never_both, one_outcome}
use Rattle.mv_check.specs.Certificates.{SaysSteps, certificate_stage}
use Rattle.mv_check.specs.Checked.{check_task, check_work, HasReplayed, RefusesRule}
use Rattle.mv_opt.specs.declared.output.Output.TheVariants.{Network}
use Rattle.mv_opt.specs.Optimised.{opt_task, opt_work}
use Rattle.mv_opt.specs.Scripts.{script_stage}
use Rattle.mv_rules.specs.declared.terms.Terms.{Terms}
use Rattle.mv_script.specs.Grammar.{IsScript}
use Rattle.mv_task.specs.Ends.{Outside, Ends, Refused, Unread, Short, Worked, WorkEnds, Says}
use Rattle.mv_task.specs.Exact.{IsUnhindered}
use Rattle.mv_task.specs.Sources.{File, starts_with}
use Rattle.mv_task.specs.Stages.{Takes, AreTaken, FirstOf, EndsRefused, IsRefused}
use Rattle.mv_task.proofs.Endings.{BothDone, both_done, ends_exact, ends_complete, ends_worked, work_by, Comes, Noting, Doing, Denying}
use Rattle.mv_run.specs.Again.{HoldsNoted, WriteSame, HoldsBoth, HoldsFailing, HoldsReplay, HoldsRefused}

same_content : (a b : List ℕ) → Some a ≡ Some b → a ≡ b
same_content a b e = cc

module _ (format : Format) (lawful : IsLawful format) (free : Bool) (net certificate : List ℕ) (old new : Outside) where
  -- ---- what a check does with a certificate and a network, and the rule that it refuses

  abbrev Leads : List ℕ → List ℕ → List ℕ → List ℕ → Type 0
  Leads bytes text noted written = Says SaysSteps bytes (λ steps. Says format.IsNet text (λ first. HasReplayed format free steps first noted written))

  abbrev Fails : List ℕ → List ℕ → ℕ → List ℕ → Type 0
  Fails bytes text status line = Says SaysSteps bytes (λ steps. Says format.IsNet text (λ first. RefusesRule free steps first.net status line))

  abbrev Denies : List ℕ → List ℕ → Type 0
  Denies bytes text = Says SaysSteps bytes (λ steps. Says format.IsNet text (λ first. ⊥))

  -- where a rule fails they lead nowhere
  never_leads : (h : HoldsFailing format free net certificate old.files) (noted written : List ℕ) → Leads h.both.bytes h.both.text noted written → ⊥
  never_leads h noted written l =
      let inner = l.holds in
      let rules = rules_in (steps_in h.both.bytes) in
      let replays : Replays free rules inner.value.net inner.holds.net = subst (λ ss. Replays free (rules_in ss) inner.value.net inner.holds.net) l.said.are inner.holds.replays in
      never_both free (steps_in h.both.bytes) h.first.net inner.holds.net h.last h.line h.fault (lawful.formed h.both.text h.first h.says)
      (subst (λ (f : FileNetwork). Replays free rules f.net inner.holds.net) (lawful.only h.both.text inner.value h.first inner.said h.says) replays) h.fails

  -- where they lead somewhere no rule fails
  never_fails : (h : HoldsReplay format free net certificate old.files) (status : ℕ) (line : List ℕ) → Fails h.both.bytes h.both.text status line → ⊥
  never_fails h status line r =
      let inner = r.holds in
      let led = h.leads inner.value inner.said in
      never_both free (steps_in h.both.bytes) inner.value.net led.0 inner.holds.net inner.holds.at inner.holds.fault (lawful.formed h.both.text inner.value inner.said) led.1.replays
      (subst (λ ss. FailsAt free ss inner.value.net inner.holds.net inner.holds.at inner.holds.fault) r.said.are inner.holds.fails)

  both_taken : (h : HoldsBoth format net certificate old.files) → AreTaken (check_task format free net certificate).stages old.files (h.bytes ∷ h.text ∷ [])
  both_taken h = (h.rules, (h.network, tt))

  -- ---- certificates that are refused

  refused_of : (status : ℕ) (line : List ℕ) → status ≡ 7 → FirstOf (EndsRefused status line old.files new.files) (check_task format free net certificate).stages old.files old.files.starts → HoldsRefused format free net certificate old.files
  refused_of status line e first =
      ⊎_elim
      (λ (r : EndsRefused status line old.files new.files (certificate_stage certificate) (starts_with (File certificate) old.files.starts)).
      inl (record { content = r.faulty.content; is = r.faulty.is; refused = r.faulty.refused }))
      (λ (r : (content : List ℕ) × (Takes (certificate_stage certificate) old.files content × FirstOf (EndsRefused status line old.files new.files) (network_stage format (File net) ∷ []) old.files (starts_with (File certificate) old.files.starts))).
      ⊎_elim
      (λ (n : EndsRefused status line old.files new.files (network_stage format (File net)) (starts_with (File net) (starts_with (File certificate) old.files.starts))). let is = n.is in absurd (omega (arith, is, e)))
      (λ (n : (content : List ℕ) × (Takes (network_stage format (File net)) old.files content × ⊥)). absurd n.1.1)
      r.1.1)
      first

  failing_of : (status : ℕ) (line : List ℕ) (contents : List (List ℕ)) → AreTaken (check_task format free net certificate).stages old.files contents → ((check_task format free net certificate).work contents).Refuses status line → HoldsRefused format free net certificate old.files
  failing_of status line [] taken r = absurd r
  failing_of status line (a ∷ []) taken r = absurd r
  failing_of status line (a ∷ b ∷ []) taken r =
      let inner = r.holds in
      inr (record {
        both = record { text = b; network = taken.1.0; bytes = a; rules = taken.0 };
        first = inner.value;
        says = inner.said;
        last = inner.holds.net;
        line = inner.holds.at;
        fault = inner.holds.fault;
        fails = subst (λ ss. FailsAt free ss inner.value.net inner.holds.net inner.holds.at inner.holds.fault) r.said.are inner.holds.fails;
      })
  failing_of status line (a ∷ b ∷ c ∷ cs) taken r = absurd r

  refused_only : (status : ℕ) → status ≡ 7 → Ends (check_task format free net certificate) old new status → HoldsRefused format free net certificate old.files
  refused_only status e (Refused apart line first untouched tells) = refused_of status line e first
  refused_only status e (Unread is rose first untouched tells) = absurd (omega arith)
  refused_only status e (Short is begun untouched tells) = absurd (omega arith)
  refused_only status e (Worked contents read ends) =
      work_by ((check_task format free net certificate).work contents) old.sinks new.sinks status (λ k. k ≡ 7 → HoldsRefused format free net certificate old.files) (λ all e. absurd (omega arith))
      (λ rose comes e. absurd (omega arith)) (λ same e. absurd (omega arith)) (λ apart same line refuses e. failing_of status line contents read.taken refuses) (λ d e. absurd (omega arith)) ends e

  pub only_refused : Ends (check_task format free net certificate) old new 7 → HoldsRefused format free net certificate old.files
  only_refused ends = refused_only 7 refl ends

  -- a check of a certificate of which a rule fails comes to nothing
  never_comes : (h : HoldsFailing format free net certificate old.files) → Comes ((check_task format free net certificate).work (h.both.bytes ∷ h.both.text ∷ [])) → ⊥
  never_comes h (Noting noted n) = n.holds.holds
  never_comes h (Doing noted written l) = never_leads h noted written l
  never_comes h (Denying written d) = d.holds.holds

  failed_work : (status : ℕ) (h : HoldsFailing format free net certificate old.files) → WorkEnds ((check_task format free net certificate).work (h.both.bytes ∷ h.both.text ∷ [])) old.sinks new.sinks status → IsUnhindered status → status ≡ 7
  failed_work status h =
      work_by ((check_task format free net certificate).work (h.both.bytes ∷ h.both.text ∷ [])) old.sinks new.sinks status (λ k. IsUnhindered k → k ≡ 7)
      (λ all u. absurd (never_leads h all.noted all.written all.does)) (λ rose comes u. absurd (never_comes h comes)) (λ same u. absurd (u.memory refl))
      (λ apart same line refuses u. refuses.holds.holds.is) (λ d u. absurd d.denies.holds.holds)

  pub always_refused : (status : ℕ) → Ends (check_task format free net certificate) old new status → IsTrue (is_some old.files.held) → HoldsRefused format free net certificate old.files → IsUnhindered status → status ≡ 7
  always_refused status ends told refused u =
      ⊎_elim
      (λ (r : IsRefused (certificate_stage certificate) old.files). ends_exact (check_task format free net certificate) old new status ends 7 told (inl (record { is = refl; refused = r })) u)
      (λ (h : HoldsFailing format free net certificate old.files).
      ⊎_elim
      (λ (e : (status ≡ 4) ⊎ (status ≡ 6)). absurd (⊎_elim (λ (e : status ≡ 4). u.read e) (λ (e : status ≡ 6). u.memory e) e))
      (λ (w : WorkEnds ((check_task format free net certificate).work (h.both.bytes ∷ h.both.text ∷ [])) old.sinks new.sinks status). failed_work status h w u)
      (ends_worked (check_task format free net certificate) old new status (h.both.bytes ∷ h.both.text ∷ []) ends told (both_taken h.both)))
      refused

  -- ---- certificates whose rules apply in turn

  pub replays_end : (status : ℕ) → Ends (check_task format free net certificate) old new status → IsSomeAnd old.files.held (λ held. IsTrue held.sound) → HoldsReplay format free net certificate old.files
      → (Rose old.sinks.out.faults new.sinks.out.faults → ⊥) → (Rose old.sinks.notes.faults new.sinks.notes.faults → ⊥) → (status ≡ 0) ⊎ (status ≡ 6)
  replays_end status ends sound h o n =
      ⊎_elim
      (λ (e : status ≡ 0). inl e)
      (λ (e : (status ≡ 6) ⊎ ((line : List ℕ) × Fails h.both.bytes h.both.text status line) ⊎ ((status ≡ 9) × ((written : List ℕ) × Denies h.both.bytes h.both.text))).
      ⊎_elim
      (λ (e : status ≡ 6). inr e)
      (λ (r : ((line : List ℕ) × Fails h.both.bytes h.both.text status line) ⊎ ((status ≡ 9) × ((written : List ℕ) × Denies h.both.bytes h.both.text))).
      ⊎_elim
      (λ (r : (line : List ℕ) × Fails h.both.bytes h.both.text status line). absurd (never_fails h status r.0 r.1))
      (λ (d : (status ≡ 9) × ((written : List ℕ) × Denies h.both.bytes h.both.text)). absurd d.1.1.holds.holds)
      r)
      e)
      (ends_complete (check_task format free net certificate) old new status ends (h.both.bytes ∷ h.both.text ∷ []) sound (both_taken h.both) o n)

  pub replays_accepted : (status : ℕ) → Ends (check_task format free net certificate) old new status → IsTrue (is_some old.files.held) → HoldsReplay format free net certificate old.files → (status ≡ 0) ⊎ (status ≡ 4) ⊎ (status ≡ 5) ⊎ (status ≡ 6)
  replays_accepted status ends told h =
      ⊎_elim
      (λ (e : (status ≡ 4) ⊎ (status ≡ 6)). ⊎_elim (λ (e : status ≡ 4). inr (inl e)) (λ (e : status ≡ 6). inr (inr (inr e))) e)
      (λ (w : WorkEnds ((check_task format free net certificate).work (h.both.bytes ∷ h.both.text ∷ [])) old.sinks new.sinks status).
      work_by ((check_task format free net certificate).work (h.both.bytes ∷ h.both.text ∷ [])) old.sinks new.sinks status (λ k. (k ≡ 0) ⊎ (k ≡ 4) ⊎ (k ≡ 5) ⊎ (k ≡ 6)) (λ all. inl refl)
      (λ rose comes. inr (inr (inl refl))) (λ same. inr (inr (inr refl))) (λ apart same line refuses. absurd (never_fails h status line refuses)) (λ d. absurd d.denies.holds.holds) w)
      (ends_worked (check_task format free net certificate) old new status (h.both.bytes ∷ h.both.text ∷ []) ends told (both_taken h.both))

-- ---- what an earlier run noted

-- the notes gained exactly this
gained_is : (had noted text : List ℕ) (before after : Option (List ℕ)) → before ≡ Some had → after ≡ Some (had ++ noted) → IfSome before (λ h. after ≡ Some (h ++ text)) → text ≡ noted
gained_is had noted text before after b a g =
    let gained : after ≡ Some (had ++ text) = subst (λ z. IfSome z (λ h. after ≡ Some (h ++ text))) b g in
    append_cancel_left had text noted (same_content (had ++ text) (had ++ noted) (sym gained ∙ a))

-- what is there, where the files tell
told_content : (name content : List ℕ) (held : Option Held) (h : Held) → held ≡ Some h → IfSome held (λ h. file_named name h.files ≡ Some content) → file_named name h.files ≡ Some content
told_content name content held h told is = subst (λ z. IfSome z (λ h. file_named name h.files ≡ Some content)) told is

tells_content : (name content : List ℕ) (held : Option Held) (h : Held) → held ≡ Some h → file_named name h.files ≡ Some content → IfSome held (λ h. file_named name h.files ≡ Some content)
tells_content name content held h told is = subst (λ z. IfSome z (λ h. file_named name h.files ≡ Some content)) (sym told) is

module _ (format : Format) (lawful : IsLawful format) (terms : Terms) (net script certificate : List ℕ) (old new later later' : Outside)
    (d : BothDone IsScript format.IsNet (opt_work format terms Network) (script_stage script) (network_stage format (File net)) old new) (holds : HoldsNoted net certificate old.files later.files old.sinks.notes new.sinks.notes) where
  -- the later run has the same network file
  same_file : file_named net holds.now.files ≡ Some d.b
  same_file = holds.network ∙ told_content net d.b old.files.held holds.before holds.told d.second.is

  -- and its certificate leads to what the earlier run left
  leads_again : Certifies terms.free holds.noted d.w.net d.does.net
  leads_again =
      let same = sym d.does.noted_is ∙ gained_is holds.had holds.noted d.noted old.sinks.notes.told new.sinks.notes.told holds.first holds.gained d.notes in
      let P : List ℕ → Type 0 = λ n. length n ≤ MAX_CERTIFICATE_BYTES → Certifies terms.free n d.w.net d.does.net in
      let certified : P holds.noted = subst P same d.does.certified in
      certified holds.short

  pub replay_again : HoldsReplay format terms.free net certificate later.files
  replay_again = record {
    both = record {
      text = d.b;
      network = record { is = tells_content net d.b later.files.held holds.now holds.tell same_file; accepted = lawful.accepted d.b d.w d.speaks };
      bytes = holds.noted;
      rules = record { is = tells_content certificate holds.noted later.files.held holds.now holds.tell holds.named; accepted = leads_again.accepted };
    };
    leads = λ first said. (d.does.net, subst (λ (f : FileNetwork). Certifies terms.free holds.noted f.net d.does.net) (lawful.only d.b d.w first d.speaks said) leads_again);
  }

  pub same_again : BothDone SaysSteps format.IsNet (check_work format terms.free) (certificate_stage certificate) (network_stage format (File net)) later later' → WriteSame old.sinks.out new.sinks.out later.sinks.out later'.sinks.out
  same_again e =
      let text = same_content e.b d.b (sym (told_content net e.b later.files.held holds.now holds.tell e.second.is) ∙ same_file) in
      let bytes = same_content e.a holds.noted (sym (told_content certificate e.a later.files.held holds.now holds.tell e.first.is) ∙ holds.named) in
      let first = lawful.only d.b e.w d.w (subst (λ t. format.IsNet t e.w) text e.speaks) d.speaks in
      let steps = e.says.are ∙ ap steps_in bytes in
      let replays : Replays terms.free (rules_in (steps_in holds.noted)) e.w.net e.does.net = subst (λ ss. Replays terms.free (rules_in ss) e.w.net e.does.net) steps e.does.replays in
      let led : Certifies terms.free holds.noted d.w.net e.does.net = record { accepted = leads_again.accepted; replays = subst (λ (f : FileNetwork). Replays terms.free (rules_in (steps_in holds.noted)) f.net e.does.net) first replays } in
      let same = one_outcome terms.free holds.noted d.w.net e.does.net d.does.net (lawful.formed d.b d.w d.speaks) led leads_again in
      record { text = d.written; first = d.out; second = subst (λ t. Gained later.sinks.out later'.sinks.out t) (e.does.written_is ∙ ap format.text (λ i. left_of (first i) (same i)) ∙ sym d.does.written_is) e.out }

module _ (format : Format) (lawful : IsLawful format) (terms : Terms) (net script certificate : List ℕ) (old new later later' : Outside) (ends : Ends (opt_task format terms (File net) script) old new 0) (holds : HoldsNoted net certificate old.files later.files old.sinks.notes new.sinks.notes) where
  done : BothDone IsScript format.IsNet (opt_work format terms Network) (script_stage script) (network_stage format (File net)) old new
  done = both_done IsScript format.IsNet (opt_work format terms Network) (script_stage script) (network_stage format (File net)) old new 0 ends refl

  pub writes_same : Ends (check_task format terms.free net certificate) later later' 0 → WriteSame old.sinks.out new.sinks.out later.sinks.out later'.sinks.out
  writes_same checks =
      same_again format lawful terms net script certificate old new later later' done holds
      (both_done SaysSteps format.IsNet (check_work format terms.free) (certificate_stage certificate) (network_stage format (File net)) later later' 0 checks refl)

  pub is_accepted : (status : ℕ) → Ends (check_task format terms.free net certificate) later later' status → (status ≡ 0) ⊎ (status ≡ 4) ⊎ (status ≡ 5) ⊎ (status ≡ 6)
  is_accepted status checks =
      let told : IsTrue (is_some later.files.held) = ap (λ z. is_some z) holds.tell in
      replays_accepted format lawful terms.free net certificate later later' status checks told (replay_again format lawful terms net script certificate old new later later' done holds)
