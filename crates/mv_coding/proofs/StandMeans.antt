-- The network with nets that stand for one of them, and without that one, means what it meant.
use Rattle.std.proofs.Common.{◌≡◌, ◌∙◌, ℕ, suc, ◌+◌, ◌<◌, false, List, [], ◌∷◌, ◌++◌, length, map, Option, Some, None, IsTrue, is_some, refl, sym, ap, subst, length-append, arith}
use Rattle.std.proofs.lemmas.Bool.{false≢true, false_from_ne_true}
use Rattle.mv_base.specs.Meaning.{SameMeaning}
use Rattle.mv_base.proofs.Meanings.{SameMeaning-then}
use Rattle.mv_cover.specs.declared.cover.Cover.{Cover}
use Rattle.mv_cover.specs.Covers.{allowed}
use Rattle.mv_meaning.specs.Rewriting.{IsReader, IsNewNet, AgreesUnread}
use Rattle.mv_meaning.proofs.Reformed.{net_allows-from, net_allows-parts}
use Rattle.mv_meaning.proofs.Rewired.{rewritten_means, slot-unread, cover_at}
use Rattle.mv_net.specs.declared.change.NewNet.{NewNet}
use Rattle.mv_net.specs.declared.parts.FlatNet.{FlatNet}
use Rattle.mv_net.specs.declared.parts.NetParts.{NetParts}
use Rattle.mv_net.specs.Allowed.{net_allows, of_net}
use Rattle.mv_net.specs.Changes.{made_net, with_nets}
use Rattle.mv_net.specs.Formed.{IsCover, WellFormed}
use Rattle.mv_net.specs.Index.{is_seen}
use Rattle.mv_net.specs.Nets.{slot, values_in, table_in, table_reads, net_reads, reads_in}
use Rattle.mv_net.specs.Total.{AllowsValue}
use Rattle.mv_net.proofs.Patches.{IsWritten, AgreesBut}
use Rattle.mv_net.proofs.Totals.{NetAllowsSome, allowed_below}
use Rattle.mv_net.proofs.Known.{is_held_below}
use Rattle.mv_coding.proofs.Choices.{HasChoice, gone_means}
use Rattle.mv_coding.proofs.Coming.{came, AreNewNets, HaveChoices, grown_means}
use Rattle.mv_coding.proofs.Grown.{with_more, restated, slot-low, slot-high, made_reads}
use Rattle.mv_coding.proofs.Standing.{Follows, AllFollow, TakeValues, AllAllow, StandFor}
use Rattle.mv_coding.proofs.StandFormed.{inner_unread, reader_before, after_loose}

-- ---- each that comes has a choice

-- a table that follows one which is there allows its net some value of its own
follows_choice : (nets : List (Option FlatNet)) (n : ℕ) (inner : Cover) (m : NewNet) → n < length nets → table_in (slot nets n) ≡ Some inner → IsNewNet nets (came m) → Follows inner m.table → HasChoice (nets ++ made_net m ∷ []) (length nets)
follows_choice nets n inner m low table new follows = record { some = some }
  where
    covers : IsCover nets m.values m.table
    covers = let same : Some m.table ≡ Some new.cover = new.table in let e : m.table ≡ new.cover = cc in subst (IsCover nets m.values) (sym e) new.covers

    some : (x : ℕ → ℕ) → AgreesBut (with_more nets (m ∷ [])) (length nets) x → NetAllowsSome (with_more nets (m ∷ [])) (length nets) x
    some x others =
        let more : List (Option FlatNet) = with_more nets (m ∷ []) in
        let there : table_in (slot more n) ≡ Some inner = ap table_in (slot-low nets (m ∷ []) n low) ∙ table in
        let own = net_allows-parts (slot more n) inner x (x n) there (others.each n (λ e. omega (arith, e))) in
        let v = follows.some x (record { value = x n; is_allowed = own.1 }) in
        let here : slot more (length nets) ≡ made_net m = let e : length nets ≡ length nets + 0 = omega arith in ap (slot more) e ∙ slot-high nets (m ∷ []) 0 in
        record {
          value = v.value;
          is_allowed = ap (λ f. net_allows f x v.value) here ∙ net_allows-from (made_net m) m.table x v.value refl (allowed_below nets m.values m.table x v.value covers v.is_allowed) v.is_allowed;
        }

all_have_choices : (nets : List (Option FlatNet)) (n : ℕ) (inner : Cover) (ms : List NewNet) → n < length nets → table_in (slot nets n) ≡ Some inner → AreNewNets nets ms → AllFollow inner ms → HaveChoices nets ms
all_have_choices nets n inner [] low table new follow = tt
all_have_choices nets n inner (m ∷ ms) low table new follow = (
  follows_choice nets n inner m low table new.0 follow.0,
  all_have_choices (nets ++ made_net m ∷ []) n inner ms (omega (arith, length-append nets (made_net m ∷ []))) (ap table_in (slot-low nets (m ∷ []) n low) ∙ table) new.1 follow.1,
)

-- ---- what the tables of those that come allow

made_values : (x : ℕ → ℕ) (k : ℕ) (ms : List NewNet) → ((i : ℕ) → IsTrue (net_allows (slot (map made_net ms) i) x (x (k + i)))) → TakeValues x k ms × AllAllow x k ms
made_values x k [] all = (tt, tt)
made_values x k (m ∷ ms) all =
    let here : k + 0 ≡ k = omega arith in
    let own = net_allows-parts (made_net m) m.table x (x k) refl (subst (λ j. IsTrue (net_allows (made_net m) x (x j))) here (all 0)) in
    let next : (i : ℕ) → k + suc i ≡ (k + 1) + i = λ i. omega arith in
    let rest = made_values x (k + 1) ms (λ i. subst (λ j. IsTrue (net_allows (slot (map made_net ms) i) x (x j))) (next i) (all (suc i))) in
    ((own.0, rest.0), (own.1, rest.1))

-- ---- the network

module _ (net : NetParts) (n : ℕ) (inner : Cover) (new : Cover → Cover) (ms : List NewNet) (formed : WellFormed net) (table : table_in (slot net.nets n) ≡ Some inner) (stand : StandFor net.nets n inner new ms) where
  abbrev more : List (Option FlatNet)
  more = with_more net.nets ms

  abbrev later : List (Option FlatNet)
  later = restated new n net.nets ms

  -- n is one of the numbers
  pub inner_low : n < length net.nets
  inner_low = is_held_below net.nets n (held (slot net.nets n) table)
    where
      held : (f : Option FlatNet) → table_in f ≡ Some inner → IsTrue (is_some f)
      held None e = cc
      held (Some f) e = refl

  table_more : table_in (slot more n) ≡ Some inner
  table_more = ap table_in (slot-low net.nets ms n inner_low) ∙ table

  -- those that come don't read n, and n doesn't
  pub made_unread : (i : ℕ) → reads_in more (length net.nets + i) n ≡ false
  made_unread i =
      ap (λ f. net_reads f n) (slot-high net.nets ms i)
      ∙ false_from_ne_true _ (λ r. false≢true (sym (inner_unread net n inner new ms formed table stand) ∙ made_reads inner ms i n stand.follow r))

  itself : reads_in more n n ≡ false
  itself = ap (λ t. table_reads t n) table_more ∙ inner_unread net n inner new ms formed table stand

  -- ---- the readers' new tables

  reader_same : (x : ℕ → ℕ) → AgreesUnread more n x → (m : ℕ) (c : Cover) → IsReader more n m c → allowed (new c) x (x m) ≡ allowed c x (x m)
  reader_same x agrees m c r =
      let was = reader_before net n inner new ms formed table stand m c r in
      let own = net_allows-parts (slot more n) inner x (x n) table_more (agrees.each n itself) in
      let bits = made_values x (length net.nets) ms (λ i. ap (λ f. net_allows f x (x (length net.nets + i))) (sym (slot-high net.nets ms i)) ∙ agrees.each (length net.nets + i) (made_unread i)) in
      (stand.restates m c was.1).same x own.1 bits.0 bits.1 (x m)

  after_means : SameMeaning (of_net (with_nets net later)) (of_net (with_nets net more))
  unfolding with_nets
  after_means = rewritten_means (with_nets net more) n new (λ x agrees point m c r. reader_same x agrees m c r)

  -- ---- n goes

  -- where the table of the first that comes allows something, that of n does
  first_back : (x : ℕ → ℕ) (ns : List NewNet) → 0 < length ns → AllFollow inner ns → TakeValues x (length net.nets) ns × AllAllow x (length net.nets) ns → AllowsValue inner x
  first_back x [] some follow bits = absurd (omega arith)
  first_back x (m ∷ ns) some follow bits = follow.0.back x (record { value = x (length net.nets); is_allowed = bits.1.0 })

  after_choice : HasChoice later n
  after_choice = record { some = some }
    where
      some : (x : ℕ → ℕ) → AgreesBut later n x → NetAllowsSome later n x
      some x others =
          let stays : (i : ℕ) → slot later (length net.nets + i) ≡ slot (map made_net ms) i = λ i. slot-unread new n more (length net.nets + i) (made_unread i) ∙ slot-high net.nets ms i in
          let bits = made_values x (length net.nets) ms (λ i. ap (λ f. net_allows f x (x (length net.nets + i))) (sym (stays i)) ∙ others.each (length net.nets + i) (λ e. omega (arith, e, inner_low))) in
          let v = first_back x ms stand.several stand.follow bits in
          let here : slot later n ≡ slot net.nets n = slot-unread new n more n itself ∙ slot-low net.nets ms n inner_low in
          record {
            value = v.value;
            is_allowed = ap (λ f. net_allows f x v.value) here
                ∙ net_allows-from (slot net.nets n) inner x v.value table (allowed_below net.nets (values_in (slot net.nets n)) inner x v.value (cover_at net n inner formed table) v.is_allowed) v.is_allowed;
          }

  pub stand_means : (nets : List (Option FlatNet)) → is_seen net n ≡ false → IsWritten later n None nets → SameMeaning (of_net (with_nets net nets)) (of_net net)
  unfolding with_nets
  stand_means nets unseen gone =
      SameMeaning-then (of_net (with_nets net nets)) (of_net (with_nets net later)) (of_net net)
      (gone_means (with_nets net later) n nets (after_loose net n inner new ms formed table stand unseen) after_choice gone)
      (SameMeaning-then (of_net (with_nets net later)) (of_net (with_nets net more)) (of_net net) after_means
      (grown_means net ms formed stand.nets_new (all_have_choices net.nets n inner ms inner_low table stand.nets_new stand.follow)))
