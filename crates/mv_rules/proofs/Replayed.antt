-- Rules in turn: what they leave is well formed, is one network, keeps the latches and may take the first one's place; it means
-- the same where each rule leaves each choice as it was; and the rules of two lists, one behind the other.
use Rattle.std.proofs.Common.{◌≡◌, ◌∙◌, Bool, true, List, [], ◌∷◌, ◌++◌, sym, ap, subst}
use Rattle.std.specs.List.{list_all}
use Rattle.std.proofs.lemmas.Bool.{and_parts}
use Rattle.mv_base.specs.Meaning.{Refines, SameMeaning}
use Rattle.mv_entry.specs.declared.rule.Rule.{Rule}
use Rattle.mv_net.specs.declared.parts.NetParts.{NetParts}
use Rattle.mv_net.specs.Allowed.{of_net}
use Rattle.mv_net.specs.Formed.{WellFormed}
use Rattle.mv_base.proofs.Meanings.{Refines-refl, Refines-then, SameMeaning-refl, SameMeaning-then}
use Rattle.mv_rules.specs.Applies.{keeps_choices}
use Rattle.mv_rules.specs.Replaying.{Replays}
use Rattle.mv_rules.proofs.Kept.{kept_formed, kept_latches}
use Rattle.mv_rules.proofs.Meanings.{applied_means, applied_refines}
use Rattle.mv_rules.proofs.OneAnswer.{one_network}

pub replayed_formed : (free : Bool) (rules : List Rule) (old new : NetParts) → WellFormed old → Replays free rules old new → WellFormed new
replayed_formed free [] old new formed p = subst WellFormed (sym p) formed
replayed_formed free (r ∷ rs) old new formed (mid, (applies, rest)) = replayed_formed free rs mid new (kept_formed free r old mid formed applies) rest

pub replayed_latches : (free : Bool) (rules : List Rule) (old new : NetParts) → Replays free rules old new → new.latches ≡ old.latches
replayed_latches free [] old new p = ap (λ (n : NetParts). n.latches) p
replayed_latches free (r ∷ rs) old new (mid, (applies, rest)) = replayed_latches free rs mid new rest ∙ kept_latches free r old mid applies

pub replayed_one : (free : Bool) (rules : List Rule) (old one other : NetParts) → WellFormed old → Replays free rules old one → Replays free rules old other → one ≡ other
replayed_one free [] old one other formed p q = p ∙ sym q
replayed_one free (r ∷ rs) old one other formed (mid, (applies, rest)) (mid', (applies', rest')) =
    let same = one_network free r old mid' mid formed applies' applies in
    replayed_one free rs mid one other (kept_formed free r old mid formed applies) rest (subst (λ m. Replays free rs m other) same rest')

pub replayed_refines : (free : Bool) (rules : List Rule) (old new : NetParts) → WellFormed old → Replays free rules old new → Refines free (of_net new) (of_net old)
replayed_refines free [] old new formed p = subst (λ (n : NetParts). Refines free (of_net n) (of_net old)) (sym p) (Refines-refl free (of_net old))
replayed_refines free (r ∷ rs) old new formed (mid, (applies, rest)) =
    Refines-then free (of_net new) (of_net mid) (of_net old) (replayed_refines free rs mid new (kept_formed free r old mid formed applies) rest) (applied_refines free r old mid formed applies)

pub replayed_means : (free : Bool) (rules : List Rule) (old new : NetParts) → WellFormed old → list_all keeps_choices rules ≡ true → Replays free rules old new → SameMeaning (of_net new) (of_net old)
replayed_means free [] old new formed keep p = subst (λ (n : NetParts). SameMeaning (of_net n) (of_net old)) (sym p) (SameMeaning-refl (of_net old))
replayed_means free (r ∷ rs) old new formed keep (mid, (applies, rest)) =
    let keeps = and_parts (keeps_choices r) (list_all keeps_choices rs) keep in
    SameMeaning-then (of_net new) (of_net mid) (of_net old) (replayed_means free rs mid new (kept_formed free r old mid formed applies) keeps.1 rest)
    (applied_means free r old mid formed keeps.0 applies)

pub replayed_then : (free : Bool) (rules behind : List Rule) (old mid new : NetParts) → Replays free rules old mid → Replays free behind mid new → Replays free (rules ++ behind) old new
replayed_then free [] behind old mid new p q = subst (λ m. Replays free behind m new) p q
replayed_then free (r ∷ rs) behind old mid new (first, (applies, rest)) q = (first, (applies, replayed_then free rs behind first mid new rest q))

pub ruleset replay_facts = (replayed_one, replayed_formed, replayed_latches, replayed_refines)
