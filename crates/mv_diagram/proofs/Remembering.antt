-- What a memo gives back.
use Rattle.std.proofs.Common.{◌≡◌, ℕ, Bool, true, List, Option, Some, None, Result, Ok, Err, IfSome, OnOk, OnErr, Contains, ◌==◌, ◌&&◌, sym, ap, subst, ◌∙◌, inl, inr, rules}
use Rattle.std.proofs.lemmas.Bool.{and_parts, eqb-true}
use denote.Enum.Bare.{sameb, same_true}
use Rattle.std.specs.Map.{lookup}
use Rattle.lru.specs.LruCache.{LruCache, lru_cache, put_entries}
use Rattle.lru.proofs.CallerLemmas.{Contains-lookup, Contains-put_entries}
use Rattle.mv_diagram.specs.declared.node.Dd.{Dd}
use Rattle.mv_diagram.specs.declared.memo.Key.{Key}
use Rattle.mv_diagram.specs.declared.memo.Operation.{Operation}
use Rattle.mv_diagram.specs.contracts.memo.Operation.{the_type}
use Rattle.mv_diagram.specs.contracts.memo.KeyPartialEq.TheImpl.{eq-value}
use Rattle.mv_diagram.specs.Results.{IsRemembered}

-- equal keys by their test are equal
pub key_from : (k j : Key) → eq-value.it k j ≡ true → k ≡ j
key_from k j e =
    let both = and_parts (sameb the_type k.operation j.operation) ((k.left.0 == j.left.0) && (k.right.0 == j.right.0)) e in
    let sides = and_parts (k.left.0 == j.left.0) (k.right.0 == j.right.0) both.1 in
    let make : Operation → ℕ → ℕ → Key = λ o l r. record { operation = o; left = record { 0 = l }; right = record { 0 = r } } in
    ap (λ o. make o k.left.0 k.right.0) (same_true the_type (search rules) _ _ both.0)
    ∙ ap (λ l. make j.operation l k.right.0) (eqb-true k.left.0 j.left.0 sides.0)
    ∙ ap (make j.operation j.left.0) (eqb-true k.right.0 j.right.0 sides.1)

-- what is found was kept for the key
pub found : (test : Key → Bool) (key : Key) → ((k : Key) → test k ≡ true → k ≡ key) → (es : List (Key × Dd)) (o : Option Dd) → o ≡ lookup test es → IfSome o (λ d. Contains es (key, d))
found test key exact es None e = tt
found test key exact es (Some d) e = let at = Contains-lookup test es d (sym e) in subst (λ k. Contains es (k, d)) (exact at.0 at.2) at.1

-- what is kept besides what was there
pub kept : {A B : Type 0} (old new : LruCache Key Dd) (key : Key) (d : Dd) (result : Result A B) → OnOk result (new ≡ lru_cache (put_entries eq-value.it old key d) old.cap) → OnErr result (new ≡ old) → IsRemembered old.entries new.entries key d
kept old new key d (Err e) ok err = record { each = λ k r there. inl (subst (λ (c : LruCache Key Dd). Contains c.entries (k, r)) err there) }
kept old new key d (Ok v) ok err = record {
  each = λ k r there.
      elim (Contains-put_entries eq-value.it old key d (k, r) (subst (λ (c : LruCache Key Dd). Contains c.entries (k, r)) ok there)) [
        | inl was ↦ inl was
        | inr put ↦ inr (elim put.1 [ inl same ↦ same | inr other ↦ sym (key_from key k other.2) ], put.0)
      ];
}
