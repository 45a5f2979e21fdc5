-- The number of a name: in a well-formed network it is that of the one net that has the name.
use Rattle.std.proofs.Common.{◌≡◌, ◌∙◌, ℕ, ◌<◌, ◌≤◌, true, false, cond, IsTrue, Option, Some, None, List, length, get_or, take, ◌+◌, refl, sym, ap, subst, arith, unwrap_or, All}
use Rattle.std.specs.Prelude.{◌↔◌, position, nat_lt}
use Rattle.std.proofs.lemmas.Bool.{false≢true, false_from_ne_true, lt-ltb}
use Rattle.std.proofs.lemmas.List.{take_all}
use Rattle.std.proofs.lemmas.List.Sums.{position_or_len_is}
use Rattle.std.proofs.lemmas.List.Quantifiers.{position-Some}
use Rattle.std.proofs.lemmas.List.Elements.{All-get_or, All-more}
use Rattle.std.specs.List.{position_or_len}
use Rattle.mv_base.proofs.NameLemmas.{same_word_refl, same_word_is}
use Rattle.mv_net.specs.declared.parts.Kind.{Kind}
use Rattle.mv_net.specs.declared.parts.Kind.TheVariants.{Reset}
use Rattle.mv_net.specs.declared.parts.FlatNet.{FlatNet}
use Rattle.mv_net.specs.declared.parts.NetParts.{NetParts}
use Rattle.mv_net.specs.Nets.{slot}
use Rattle.mv_net.specs.Index.{HasName, kind_in}
use Rattle.mv_net.specs.Fresh.{is_named}
use Rattle.mv_net.specs.Formed.{IsReadable, WellFormed}
use Rattle.mv_net.proofs.Named.{held_below}
use Rattle.mv_cover.specs.Literal.{Lit}
use Rattle.mv_entry.specs.declared.rule.Body.{Body}
use Rattle.mv_entry.specs.declared.rule.BodyLit.{BodyLit}
use Rattle.mv_entry.specs.declared.rule.BodyLine.{BodyLine}
use Rattle.mv_body.specs.Bodies.{number_named, literal_said, IsKnown, IsLineKnown, AreKnown}

-- ---- a net that has a name

named_test : (nets : List (Option FlatNet)) (n : ℕ) (name : List ℕ) → HasName nets n name → is_named name (slot nets n) ≡ true
named_test nets n name h =
    ap (is_named name) h.held ∙ (ap (λ w. is_named w (Some h.net)) (sym h.is) ∙ same_word_refl h.net.name)

named_from : (nets : List (Option FlatNet)) (n : ℕ) (name : List ℕ) (f : Option FlatNet) → slot nets n ≡ f → is_named name f ≡ true → HasName nets n name
named_from nets n name None held y = absurd (false≢true y)
named_from nets n name (Some f) held y = record { net = f; held = held; is = same_word_is f.name name y }

-- two nets don't have one name
pub one_number : (net : NetParts) (n m : ℕ) (name : List ℕ) → WellFormed net → HasName net.nets n name → HasName net.nets m name → n ≡ m
one_number net n m name formed h k = formed.names n m h.net k.net h.held k.held (h.is ∙ sym k.is)

-- the number of a name is that of the net that has it
pub number_named-is : (net : NetParts) (n : ℕ) (name : List ℕ) → WellFormed net → HasName net.nets n name → number_named net.nets name ≡ Some n
unfolding number_named
number_named-is net n name formed h =
    let low = held_below net.nets n h.net h.held in
    let e : position_or_len (is_named name) net.nets ≡ n =
    position_or_len_is (is_named name) net.nets n None (omega arith)
    (λ m less. false_from_ne_true (is_named name (slot net.nets m)) (λ y. let same : m ≡ n = one_number net m n name formed (named_from net.nets m name (slot net.nets m) refl y) h in omega arith))
    (λ _. named_test net.nets n name h) in
    ap (λ k. cond (nat_lt k (length net.nets)) (Some k) None) e ∙ ap (λ b. cond b (Some n) None) (lt-ltb n (length net.nets) low)

-- a name that no net has has no number
pub number_named-none : (nets : List (Option FlatNet)) (name : List ℕ) → ((n : ℕ) → HasName nets n name → ⊥) → number_named nets name ≡ None
unfolding number_named
number_named-none nets name none = by_place (position (is_named name) nets) refl
  where
    by_place : (o : Option ℕ) → position (is_named name) nets ≡ o → o ≡ None
    by_place None e = refl
    by_place (Some n) e = absurd (none n (named_from nets n name (slot nets n) refl (position-Some (is_named name) nets n None e).1))

pub number-found : (net : NetParts) (n : ℕ) (name : List ℕ) → WellFormed net → HasName net.nets n name → n ≡ unwrap_or (number_named net.nets name) 0
number-found net n name formed h = ap (λ o. unwrap_or o 0) (sym (number_named-is net n name formed h))

pub number-missing : (nets : List (Option FlatNet)) (name : List ℕ) → ((n : ℕ) → HasName nets n name → ⊥) → 0 ≡ unwrap_or (number_named nets name) 0
number-missing nets name none = ap (λ o. unwrap_or o 0) (sym (number_named-none nets name none))

-- ---- literals

-- a name that no net has isn't known
pub unnamed_unknown : (nets : List (Option FlatNet)) (l : BodyLit) (w : List ℕ) → w ≡ l.net → ((n : ℕ) → HasName nets n w → ⊥) → IsKnown nets l → ⊥
unnamed_unknown nets l w e none k = none k.number (subst (HasName nets k.number) (sym e) k.named)

-- lines that are known, and one more
pub lines_more : (nets : List (Option FlatNet)) (xs : List BodyLine) (i : ℕ) (x : BodyLine) (lits : List BodyLit) → i < length xs → x ≡ get_or xs i x → All (IsLineKnown nets) (take i xs) → lits ≡ x.lits → (IsTrue true ↔ All (IsKnown nets) lits) → All (IsLineKnown nets) (take (i + 1) xs)
lines_more nets xs i x lits low at known e h =
    let here : IsLineKnown nets x = subst (λ (ls : List BodyLit). All (IsKnown nets) ls) e (h.0 refl) in
    All-more (IsLineKnown nets) xs i x low known (subst (IsLineKnown nets) at here)

pub lines_unknown : (nets : List (Option FlatNet)) (b : Body) (xs : List BodyLine) (i : ℕ) (x : BodyLine) (lits : List BodyLit) → xs ≡ b.lines → i < length xs → x ≡ get_or xs i x → lits ≡ x.lits → (IsTrue false ↔ All (IsKnown nets) lits) → AreKnown nets b → ⊥
lines_unknown nets b xs i x lits same low at e h k =
    let all : All (IsLineKnown nets) xs = subst (λ (ls : List BodyLine). All (IsLineKnown nets) ls) (sym same) k.each in
    let here : IsLineKnown nets x = subst (IsLineKnown nets) (sym at) (All-get_or (IsLineKnown nets) xs i x low all) in
    false≢true (h.1 (subst (λ (ls : List BodyLit). All (IsKnown nets) ls) (sym e) here))

pub lines_all : (nets : List (Option FlatNet)) (b : Body) (xs : List BodyLine) (i : ℕ) → xs ≡ b.lines → length xs ≤ i → All (IsLineKnown nets) (take i xs) → AreKnown nets b
lines_all nets b xs i same past known = record {
  each = subst (λ (ls : List BodyLine). All (IsLineKnown nets) ls) (take_all i xs past ∙ same) known;
}

-- a literal with a known name is on a net that can be read
pub readable_said : (net : NetParts) (l : BodyLit) → WellFormed net → IsKnown net.nets l → IsReadable net.nets (literal_said net.nets l).net.0
readable_said net l formed k =
    subst (IsReadable net.nets) (number-found net k.number l.net formed k.named) k.readable

pub readable_at : (net : NetParts) (xs : List BodyLit) (i : ℕ) (x : BodyLit) (l : Lit) → WellFormed net → All (IsKnown net.nets) xs → i < length xs → x ≡ get_or xs i x → l ≡ literal_said net.nets x → IsReadable net.nets l.net.0
readable_at net xs i x l formed known low at e =
    let here : IsKnown net.nets x = subst (IsKnown net.nets) (sym at) (All-get_or (IsKnown net.nets) xs i x low known) in
    subst (λ (m : Lit). IsReadable net.nets m.net.0) (sym e) (readable_said net x formed here)

pub line_known_at : (nets : List (Option FlatNet)) (xs : List BodyLine) (i : ℕ) (x : BodyLine) → All (IsLineKnown nets) xs → i < length xs → x ≡ get_or xs i x → IsLineKnown nets x
line_known_at nets xs i x known low at = subst (IsLineKnown nets) (sym at) (All-get_or (IsLineKnown nets) xs i x low known)

-- a literal whose net is a reset net isn't known
pub reset_unknown : (net : NetParts) (n : ℕ) (l : BodyLit) (kind : Kind) → WellFormed net → HasName net.nets n l.net → kind_in (slot net.nets n) ≡ Some kind → kind ≡ Reset → IsKnown net.nets l → ⊥
reset_unknown net n l kind formed h is reset k =
    let same : k.number ≡ n = one_number net k.number n l.net formed k.named h in
    let held : slot net.nets n ≡ Some k.readable.net = ap (slot net.nets) (sym same) ∙ k.readable.held in
    let kinds : Some k.readable.net.kind ≡ Some kind = sym (ap kind_in held) ∙ is in
    k.readable.plain (cc)

-- another is
pub plain_known : (nets : List (Option FlatNet)) (n : ℕ) (l : BodyLit) (kind : Kind) → HasName nets n l.net → kind_in (slot nets n) ≡ Some kind → (kind ≡ Reset → ⊥) → IsKnown nets l
plain_known nets n l kind h is plain = record {
  number = n;
  named = h;
  readable = record {
    net = h.net;
    held = h.held;
    plain = λ e. let kinds : Some h.net.kind ≡ Some kind = sym (ap kind_in h.held) ∙ is in plain (cc);
  };
}
