-- The best of the kernels, one after another.
use Rattle.std.proofs.Common.{◌≡◌, ◌∙◌, ℕ, ◌+◌, ◌<◌, ◌&&◌, nat_lt, nat_eq, Option, Some, None, List, [], ◌∷◌, ◌++◌, length, map, take, get_or, All, Contains, inl, inr, sym, ap, subst, arith, append_assoc}
use Rattle.std.proofs.lemmas.Bool.{cases_Bool, false≢true, ltb-true, ltb-false, eqb-true, eq-eqb, and_parts, and_from, false_from_ne_true}
use Rattle.std.proofs.lemmas.List.{append-nil, map-append}
use Rattle.std.proofs.lemmas.List.Sums.{fold-append}
use Rattle.std.proofs.lemmas.List.Elements.{All-nil, All-head, All-tail, All-push, All-weaker, All-map, Contains-append_left, Contains-push}
use Rattle.std.specs.List.{fold}
use Rattle.std.specs.Option.{MatchOption, option_map}
use Rattle.std.specs.Ordering.{is_lt}
use Rattle.mv_cover.specs.Literal.{Lit}
use Rattle.mv_kernels.specs.Order.{cubes_cmp}
use Rattle.mv_kernels.proofs.Lists.{Contains-map}
use Rattle.mv_divide.specs.declared.part.Part.{Part}
use Rattle.mv_gains.specs.declared.kernels.Candidate.{Candidate}
use Rattle.mv_gains.specs.declared.leader.Offer.{Offer}
use Rattle.mv_gains.specs.Best.{IsSaved, IsOnlySaved, IsNoBetter, IsChosen, SavesNothing}
use Rattle.mv_gains.specs.Known.{IsKnown}
use Rattle.mv_gains.specs.Leading.{leader, offer}
use Rattle.mv_gains.specs.Tables.{IsReady}
use Rattle.mv_gains.proofs.Choosing.{less_is, itself, over_nothing, over_more, over_before, old_stays}
use Rattle.mv_gains.proofs.Noting.{take_more}
use Rattle.mv_gains.proofs.Savings.{gain_once}

abbrev divisors : List Offer → List (List (List Lit))
divisors offers = map (λ (o : Offer). o.divisor) offers

module _ (tables : List (List Part)) where
  -- it is one of those seen, saves something, and none of them is better
  record IsLeader (seen : List Offer) (best : Offer) : Type 0 where
    there : Contains seen best
    is : IsSaved tables best.divisor best.saved
    some : 0 < best.saved
    each : All (λ (o : Offer). IsNoBetter tables best.divisor best.saved o.divisor) seen

  abbrev Leads : List Offer → Option Offer → Type 0
  Leads seen best = MatchOption best (All (λ (o : Offer). SavesNothing tables o.divisor) seen) (IsLeader seen)

  module _ (seen : List Offer) (x : Offer) (only : IsOnlySaved tables x.divisor x.saved) where
    takes_over : 0 < x.saved → All (λ (o : Offer). IsNoBetter tables x.divisor x.saved o.divisor) seen → IsLeader (seen ++ x ∷ []) x
    takes_over some each = record {
      there = Contains-push seen x;
      is = only.is;
      some = some;
      each = All-push (λ (o : Offer). IsNoBetter tables x.divisor x.saved o.divisor) seen x each (itself tables x.divisor x.saved only);
    }

    after_none : All (λ (o : Offer). SavesNothing tables o.divisor) seen → Leads (seen ++ x ∷ []) (leader None x)
    after_none none =
        elim (cases_Bool (nat_lt 0 x.saved)) [
          | inl t ↦
              let some = ltb-true 0 x.saved t in
              rw t
              (takes_over some
              (All-weaker (λ (o : Offer). SavesNothing tables o.divisor) (λ (o : Offer). IsNoBetter tables x.divisor x.saved o.divisor)
              (λ o n. over_nothing tables x.divisor o.divisor x.saved some n) seen none))
          | inr f ↦
              let zero = ltb-false 0 x.saved f in
              rw f (All-push (λ (o : Offer). SavesNothing tables o.divisor) seen x none (record { none = λ s h. omega (arith, only.only s h, zero) }))
        ]

    after_some : (old : Offer) → IsLeader seen old → Leads (seen ++ x ∷ []) (leader (Some old) x)
    after_some old b =
        let As : Offer → Type 0 = λ o. IsNoBetter tables old.divisor old.saved o.divisor in
        let By : Offer → Type 0 = λ o. IsNoBetter tables x.divisor x.saved o.divisor in
        let first = is_lt (cubes_cmp x.divisor old.divisor) in
        elim (cases_Bool (nat_lt old.saved x.saved)) [
          | inl t ↦
              let more = ltb-true old.saved x.saved t in
              rw t
              (takes_over (omega (arith, more, b.some)) (All-weaker As By (λ o n. over_more tables old.divisor x.divisor o.divisor old.saved x.saved more n) seen b.each))
          | inr f ↦
              elim (cases_Bool (nat_eq x.saved old.saved && first)) [
                | inl u ↦
                    let both = and_parts (nat_eq x.saved old.saved) first u in
                    let same = eqb-true x.saved old.saved both.0 in
                    let less = less_is (cubes_cmp x.divisor old.divisor) both.1 in
                    rw (f, u)
                    (takes_over (omega (arith, same, b.some))
                    (All-weaker As By (λ o n. over_before tables old.divisor x.divisor o.divisor old.saved x.saved same less n) seen b.each))
                | inr v ↦
                    rw (f, v)
                    (record {
                      there = Contains-append_left seen (x ∷ []) old b.there;
                      is = b.is;
                      some = b.some;
                      each =
                          All-push As seen x b.each
                          (old_stays tables old.divisor x.divisor old.saved x.saved only f (λ same.
                          false_from_ne_true first (λ t.
                          false≢true (sym v ∙ and_from (nat_eq x.saved old.saved) first (eq-eqb x.saved old.saved same) t))));
                    })
              ]
        ]

    leads_more : (best : Option Offer) → Leads seen best → Leads (seen ++ x ∷ []) (leader best x)
    leads_more None h = after_none h
    leads_more (Some old) h = after_some old h

  leads_all : (xs seen : List Offer) (best : Option Offer) → Leads seen best → All (λ (o : Offer). IsOnlySaved tables o.divisor o.saved) xs → Leads (seen ++ xs) (fold leader best xs)
  leads_all [] seen best h all = subst (λ (os : List Offer). Leads os best) (sym (append-nil seen)) h
  leads_all (x ∷ xs) seen best h all =
      let Only : Offer → Type 0 = λ o. IsOnlySaved tables o.divisor o.saved in
      let next = leads_all xs (seen ++ x ∷ []) (leader best x) (leads_more seen x (All-head Only x xs all) best h) (All-tail Only x xs all) in
      subst (λ (os : List Offer). Leads os (fold leader (leader best x) xs)) (append_assoc seen (x ∷ []) xs) next

  -- what is known of a candidate is what it saves, and no other number is
  only_saved : All IsReady tables → (c : Candidate) → IsKnown tables c → IsOnlySaved tables c.kernel.cubes c.saved
  only_saved ready c k = record {
    is = k.saved;
    only = λ s h.
        let same = gain_once c.kernel.cubes tables h.gain k.saved.gain ready k.divisor h.is k.saved.is in
        omega (arith, same, h.less, k.saved.less);
  }

  chosen_is : (offers : List Offer) (best : Option Offer) → Leads offers best → MatchOption (option_map (λ (o : Offer). o.divisor) best) (All (SavesNothing tables) (divisors offers)) (IsChosen tables (divisors offers))
  chosen_is offers None h = All-map (SavesNothing tables) (λ (o : Offer). o.divisor) offers h
  chosen_is offers (Some b) h = record {
    there = Contains-map (λ (o : Offer). o.divisor) offers b h.there;
    saved = b.saved;
    is = h.is;
    some = h.some;
    each = All-map (IsNoBetter tables b.divisor b.saved) (λ (o : Offer). o.divisor) offers h.each;
  }

  -- the leader of all candidates is chosen among them
  pub leader_chosen : (list : List Candidate) → All IsReady tables → All (IsKnown tables) list → MatchOption (option_map (λ (o : Offer). o.divisor) (fold leader None (map offer list))) (All (SavesNothing tables) (divisors (map offer list))) (IsChosen tables (divisors (map offer list)))
  leader_chosen list ready known =
      let Only : Offer → Type 0 = λ o. IsOnlySaved tables o.divisor o.saved in
      let all = All-map Only offer list (All-weaker (IsKnown tables) (λ (c : Candidate). Only (offer c)) (only_saved ready) list known) in
      chosen_is (map offer list) (fold leader None (map offer list))
      (leads_all (map offer list) [] None (All-nil (λ (o : Offer). SavesNothing tables o.divisor)) all)

-- one candidate more
pub led_more : (list : List Candidate) (i : ℕ) (x : Candidate) (best found : Option Offer) → i < length list → x ≡ get_or list i x → best ≡ fold leader None (map offer (take i list)) → found ≡ leader best (offer x) → found ≡ fold leader None (map offer (take (i + 1) list))
led_more list i x best found low at was is =
    is ∙ (ap (λ b. leader b (offer x)) was ∙
    sym (ap (λ (cs : List Candidate). fold leader None (map offer cs)) (take_more list i x low at) ∙
    (ap (fold leader None) (map-append offer (take i list) (x ∷ [])) ∙ fold-append leader None (map offer (take i list)) (offer x ∷ []))))
