-- Nets that are found by their names.
use Rattle.std.proofs.Common.{◌≡◌, ◌∙◌, ℕ, ◌<◌, Bool, true, false, nat_eq, List, [], ◌∷◌, length, Option, Some, None, is_some, inl, inr, refl, sym, ap, subst, eq-eqb, eqb-true, arith}
use Rattle.std.specs.Prelude.{◌==◌, MatchBool}
use Rattle.std.proofs.lemmas.Bool.{false≢true, or_left, or_right}
use Rattle.mv_cover.specs.declared.cover.Cover.{Cover}
use Rattle.mv_base.specs.declared.number.NetId.{NetId}
use Rattle.mv_graph.specs.Nets.{has_id, IsAscending}
use Rattle.mv_graph.proofs.Nets.{above_first}
use Rattle.mv_meaning.specs.Rewriting.{HasOneReader}
use Rattle.mv_net.specs.Plain.{IsPlainNet}
use Rattle.mv_plans.specs.Collapsing.{IsUnshared}
use Rattle.mv_meaning.proofs.Rewired.{some_reader}
use Rattle.mv_net.specs.declared.parts.FlatNet.{FlatNet}
use Rattle.mv_net.specs.declared.parts.NetParts.{NetParts}
use Rattle.mv_net.specs.Formed.{WellFormed}
use Rattle.mv_net.specs.Index.{HasName}
use Rattle.mv_net.specs.Nets.{slot, table_in, net_reads}
use Rattle.mv_plans.specs.Checks.{IsTabled, IsRead, IsUnread}

-- at most one net has a name
pub one_named : (net : NetParts) (w : List ℕ) (n m : ℕ) → WellFormed net → HasName net.nets n w → HasName net.nets m w → n ≡ m
one_named net w n m formed a b = formed.names n m a.net b.net a.held b.held (a.is ∙ sym b.is)

pub one_tabled : (net : NetParts) (w : List ℕ) (n m : ℕ) → WellFormed net → IsTabled net.nets w n → IsTabled net.nets w m → n ≡ m
one_tabled net w n m formed a b = one_named net w n m formed a.named b.named

-- where no net has the name, none has it and a table
pub unnamed : (net : NetParts) (w : List ℕ) → ((n : ℕ) → HasName net.nets n w → ⊥) → (n : ℕ) → IsTabled net.nets w n → ⊥
unnamed net w none n t = none n t.named

-- the net with the name has no table, so no other has it and one
pub bare : (net : NetParts) (w : List ℕ) (n : ℕ) (table : Option Cover) → WellFormed net → HasName net.nets n w → table ≡ table_in (slot net.nets n) → table ≡ None → (m : ℕ) → IsTabled net.nets w m → ⊥
bare net w n table formed named is none m t =
    let same = one_named net w n m formed named t.named in
    false≢true (sym (ap (λ o. is_some o) (sym is ∙ none)) ∙ subst (λ k. is_some (table_in (slot net.nets k)) ≡ true) (sym same) t.table)

-- the net with the name has a table
pub with_table_is : (net : NetParts) (w : List ℕ) (n : ℕ) (table : Option Cover) (c : Cover) → HasName net.nets n w → table ≡ table_in (slot net.nets n) → table ≡ Some c → IsTabled net.nets w n
with_table_is net w n table c named is some = record { named = named; table = ap (λ o. is_some o) (sym is ∙ some) }

-- a list of readers that isn't empty has one
pub listed_reader : (nets : List (Option FlatNet)) (n : ℕ) (list : List NetId) → IsAscending (λ m. net_reads (slot nets m) n) list → (length list == 0) ≡ false → IsRead nets n
listed_reader nets n [] is some = absurd (false≢true (sym some))
listed_reader nets n (a ∷ list) is some = record { reader = a.0; reads = some_reader nets n a list is }

-- and an empty one has none
pub no_reader : (nets : List (Option FlatNet)) (n : ℕ) (list : List NetId) → IsAscending (λ m. net_reads (slot nets m) n) list → (length list == 0) ≡ true → IsRead nets n → ⊥
no_reader nets n [] is none r = false≢true (is.members r.reader ∙ r.reads)
no_reader nets n (a ∷ list) is none r = let e = eqb-true (length (a ∷ list)) 0 none in absurd (omega arith)

-- what is read isn't unread
pub read_not_unread : (nets : List (Option FlatNet)) (n : ℕ) → IsRead nets n → IsUnread nets n → ⊥
read_not_unread nets n r u = false≢true (sym (u.unread r.reader) ∙ r.reads)

-- ---- how many nets read one

-- of two readers or more no one is the only one
pub many_readers : (nets : List (Option FlatNet)) (n : ℕ) (list : List NetId) → IsAscending (λ m. net_reads (slot nets m) n) list → 1 < length list → HasOneReader nets n → ⊥
many_readers nets n [] is many one = absurd (omega arith)
many_readers nets n (a ∷ []) is many one = absurd (omega arith)
many_readers nets n (a ∷ b ∷ list) is many one =
    let first = sym (is.members a.0) ∙ or_left (nat_eq a.0 a.0) (has_id (b ∷ list) a.0) (eq-eqb a.0 a.0 refl) in
    let later = or_left (nat_eq b.0 b.0) (has_id list b.0) (eq-eqb b.0 b.0 refl) in
    let second = sym (is.members b.0) ∙ or_right (nat_eq a.0 b.0) (has_id (b ∷ list) b.0) later in
    let same = one.one a.0 b.0 first second in
    let low = above_first a (b ∷ list) b.0 is.ascending later in
    omega arith

-- its choice is made once, or it isn't
pub unshared_plain : (b : Bool) (nets : List (Option FlatNet)) (n : ℕ) (list : List NetId) → IsAscending (λ m. net_reads (slot nets m) n) list → 1 < length list
    → MatchBool b (IsPlainNet nets n) (IsPlainNet nets n → ⊥) → MatchBool b (IsUnshared nets n) (IsUnshared nets n → ⊥)
unshared_plain true nets n list is many h = inl h
unshared_plain false nets n list is many h = none
  where
    none : IsUnshared nets n → ⊥
    none (inl plain) = h plain
    none (inr one) = many_readers nets n list is many one
