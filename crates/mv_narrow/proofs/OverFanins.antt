-- Whether a table reads fanins of a net alone, told by the lists of what both read.
use Rattle.std.proofs.Common.{◌≡◌, ◌∙◌, ℕ, Bool, true, false, nat_eq, List, [], ◌∷◌, Option, MatchBool, refl, sym, subst, ⊎_elim, eq-eqb, eqb-true}
use Rattle.std.specs.List.{list_all}
use Rattle.std.proofs.lemmas.Bool.{and_from, and_parts, false≢true, or_cases, or_left, or_right}
use Rattle.mv_base.specs.declared.number.NetId.{NetId}
use Rattle.mv_cover.specs.declared.cover.Cover.{Cover}
use Rattle.mv_cover.specs.Covers.{cover_reads}
use Rattle.mv_flex.specs.Flex.{IsOverFanins}
use Rattle.mv_graph.specs.Nets.{has_id, IsAscending}
use Rattle.mv_net.specs.declared.parts.FlatNet.{FlatNet}
use Rattle.mv_net.specs.Nets.{slot, net_reads}

-- each of some nets is one of the others
among : (nets others : List NetId) (m : ℕ) → list_all (λ (k : NetId). has_id others k.0) nets ≡ true → has_id nets m ≡ true → has_id others m ≡ true
among [] others m all h = absurd (false≢true h)
among (k ∷ ks) others m all h =
    let parts = and_parts (has_id others k.0) (list_all (λ (j : NetId). has_id others j.0) ks) all in
    ⊎_elim
    (λ (e : nat_eq k.0 m ≡ true). subst (λ j. has_id others j ≡ true) (eqb-true k.0 m e) parts.0)
    (λ (rest : has_id ks m ≡ true). among ks others m parts.1 rest)
    (or_cases (nat_eq k.0 m) (has_id ks m) h)

all_among : (nets others : List NetId) → ((m : ℕ) → has_id nets m ≡ true → has_id others m ≡ true) → list_all (λ (k : NetId). has_id others k.0) nets ≡ true
all_among [] others each = refl
all_among (k ∷ ks) others each =
    and_from (has_id others k.0) (list_all (λ (j : NetId). has_id others j.0) ks)
    (each k.0 (or_left (nat_eq k.0 k.0) (has_id ks k.0) (eq-eqb k.0 k.0 refl)))
    (all_among ks others (λ m h. each m (or_right (nat_eq k.0 m) (has_id ks m) h)))

pub over_answer : (nets : List (Option FlatNet)) (n : ℕ) (c : Cover) (read fanins : List NetId) (answer : Bool) → IsAscending (cover_reads c) read → IsAscending (λ m. net_reads (slot nets n) m) fanins
    → answer ≡ list_all (λ (k : NetId). has_id fanins k.0) read → MatchBool answer (IsOverFanins nets n (cover_reads c)) (IsOverFanins nets n (cover_reads c) → ⊥)
over_answer nets n c read fanins true reads own is =
    record { fanins = λ m h. sym (own.members m) ∙ among read fanins m (sym is) (reads.members m ∙ h) }
over_answer nets n c read fanins false reads own is =
    λ over. false≢true (is ∙ all_among read fanins (λ m h. own.members m ∙ over.fanins m (sym (reads.members m) ∙ h)))
