-- Steps in turn: one more, the end, and that they don't both lead on and fail.
use Rattle.std.proofs.Common.{◌≡◌, ◌∙◌, ◌⊎◌, ℕ, ◌+◌, ◌<◌, ◌≤◌, Bool, inl, inr, List, [], ◌∷◌, ◌++◌, length, take, drop, get_or, refl, sym, ap, subst}
use Rattle.std.proofs.lemmas.List.{map-append, take_more, take_all, take-append-drop, drop_more}
use Rattle.mv_entry.specs.declared.fault.RuleFault.{RuleFault}
use Rattle.mv_entry.specs.declared.fault.RuleFault.TheVariants.{Nodes, Memory as out_of_memory}
use Rattle.mv_net.specs.declared.parts.NetParts.{NetParts}
use Rattle.mv_net.specs.Formed.{WellFormed}
use Rattle.mv_rules.specs.Applies.{Applies, Fails, LacksNodes, Stops}
use Rattle.mv_rules.specs.Replaying.{Replays}
use Rattle.mv_rules.proofs.Kept.{kept_formed}
use Rattle.mv_rules.proofs.OneAnswer.{one_network, not_both}
use Rattle.mv_rules.proofs.Replayed.{replayed_one, replayed_then}
use Rattle.mv_step.specs.declared.step.Step.{Step}
use Rattle.mv_cert.specs.Certificates.{Certifies, steps_in}
use Rattle.mv_cert.specs.declared.fault.ReplayFault.{ReplayFault}
use Rattle.mv_cert.specs.declared.fault.ReplayFault.TheVariants.{Rule as RuleFails, Memory}
use Rattle.mv_cert.specs.Replay.{LeadPart, FailsAt, LacksAt, EndsEarly, rules_in}
use Rattle.mv_cert.proofs.Causes.{never_memory}

-- rules that all apply, and a front of them behind which one fails
rules_never : (free : Bool) (front : List Step) (step : Step) (behind : List Step) (old one other : NetParts) (fault : RuleFault) → WellFormed old
    → Replays free (rules_in (front ++ step ∷ behind)) old one → Replays free (rules_in front) old other → Fails free step.rule other fault → ⊥
rules_never free [] step behind old one other fault formed all here fails =
    not_both free step.rule old all.0 fault formed all.1.0 (subst (λ n. Fails free step.rule n fault) here fails)
rules_never free (s ∷ front) step behind old one other fault formed all here fails =
    let same = one_network free s.rule old here.0 all.0 formed here.1.0 all.1.0 in
    rules_never free front step behind all.0 one other fault (kept_formed free s.rule old all.0 formed all.1.0) all.1.1
    (subst (λ n. Replays free (rules_in front) n other) same here.1.1) fails

pub never_both : (free : Bool) (steps : List Step) (old one other : NetParts) (line : ℕ) (fault : RuleFault) → WellFormed old → Replays free (rules_in steps) old one → FailsAt free steps old other line fault → ⊥
never_both free steps old one other line fault formed all at =
    rules_never free at.front at.step at.behind old one other fault formed (subst (λ ss. Replays free (rules_in ss) old one) at.steps_are all) at.replays at.fails

-- ---- one step more, the end, and where it stops

module _ (free : Bool) (steps : List Step) (i : ℕ) (old mid : NetParts) (ran : Replays free (rules_in (take i steps)) old mid) where
  pub more : (d : Step) (new : NetParts) → i < length steps → Applies free (get_or steps i d).rule mid new → Replays free (rules_in (take (i + 1) steps)) old new
  more d new low applies =
      subst (λ ss. Replays free (rules_in ss) old new) (sym (take_more steps i d low))
      (subst (λ rs. Replays free rs old new) (sym (map-append (λ (s : Step). s.rule) (take i steps) (get_or steps i d ∷ [])))
      (replayed_then free (rules_in (take i steps)) ((get_or steps i d).rule ∷ []) old mid new ran (new, (applies, refl))))

  pub all_led : length steps ≤ i → Replays free (rules_in steps) old mid
  all_led past = subst (λ ss. Replays free (rules_in ss) old mid) (take_all i steps past) ran

  pub part_led : LeadPart free steps old mid
  part_led = record { front = take i steps; behind = drop i steps; steps_are = sym (take-append-drop i steps); replays = ran }

  fails_here : (d : Step) (line : ℕ) (fault : RuleFault) → i < length steps → line ≡ (get_or steps i d).line → Fails free (get_or steps i d).rule mid fault → FailsAt free steps old mid line fault
  fails_here d line fault low at fails = record {
    front = take i steps;
    step = get_or steps i d;
    behind = drop (i + 1) steps;
    steps_are = sym (take-append-drop i steps) ∙ ap (λ z. take i steps ++ z) (drop_more steps i d low);
    replays = ran;
    line_is = at;
    fails = fails;
  }

  lacks_here : (budget : ℕ) (d : Step) (line : ℕ) → i < length steps → line ≡ (get_or steps i d).line → LacksNodes budget (get_or steps i d).rule mid → LacksAt free budget steps old mid line
  lacks_here budget d line low at lacks = record {
    front = take i steps;
    step = get_or steps i d;
    behind = drop (i + 1) steps;
    steps_are = sym (take-append-drop i steps) ∙ ap (λ z. take i steps ++ z) (drop_more steps i d low);
    replays = ran;
    line_is = at;
    lacks = lacks;
  }

  -- the rule of the next step isn't applied
  pub stops_here : (budget : ℕ) (d : Step) (line : ℕ) (fault : RuleFault) (answer : ReplayFault) → i < length steps → line ≡ (get_or steps i d).line → (fault ≡ out_of_memory) ⊎ Stops free budget (get_or steps i d).rule mid fault
      → (fault ≡ out_of_memory → answer ≡ Memory) → ((fault ≡ out_of_memory → ⊥) → answer ≡ RuleFails line fault) → EndsEarly free budget steps old mid answer
  stops_here budget d line fault answer low at (inl e) memory rule = subst (λ a. EndsEarly free budget steps old mid a) (sym (memory e)) part_led
  stops_here budget d line fault answer low at (inr (inl short)) memory rule =
      let known = rule (λ e. let bad : Nodes ≡ out_of_memory = sym short.0 ∙ e in absurd cc) in
      subst (λ a. EndsEarly free budget steps old mid a) (sym known) (inr (short.0, lacks_here budget d line low at short.1))
  stops_here budget d line fault answer low at (inr (inr fails)) memory rule =
      let known = rule (λ e. never_memory free (get_or steps i d).rule mid (subst (λ f. Fails free (get_or steps i d).rule mid f) e fails)) in
      subst (λ a. EndsEarly free budget steps old mid a) (sym known) (inl (fails_here d line fault low at fails))

-- ---- certificates

pub one_outcome : (free : Bool) (bytes : List ℕ) (first one other : NetParts) → WellFormed first → Certifies free bytes first one → Certifies free bytes first other → one ≡ other
one_outcome free bytes first one other formed c d = replayed_one free (rules_in (steps_in bytes)) first one other formed c.replays d.replays
