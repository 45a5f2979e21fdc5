-- Each turn takes the item at the front of the rest.
use Rattle.std.proofs.Common.{◌≡◌, ◌∙◌, ◌+◌, List, ℕ, length, drop, take, sym, ap, arith, inr, Some, None, Ok, Err}
use Rattle.std.proofs.lemmas.List.{drop-drop}
use Rattle.mv_word.specs.declared.fault.EntryFault.TheVariants.{Unknown}
use Rattle.mv_word.specs.Entries.{item_of}
use Rattle.mv_word.proofs.Ranges.{item_more, item_last, item_unknown}
use Rattle.mv_word.proofs.list.list.Goals as goal

pub returns-in_default-clause-fault : goal.returns-in_default-clause-fault
returns-in_default-clause-fault c =
    let values = c.args.values.now in
    let size = c.before_comma-size.result in
    let front = c.split_at-in-items.ensures.front in
    let g = rw (← c.split_at.ensures.back) at c.items.invariant.items in
    let said : item_of values (take size c.split_at.result.1.now) ≡ None = ap (item_of values) (sym front) ∙ sym c.in_default.ensures in
    inr (item_unknown values c.args.bytes.now _ _ size g c.before_comma-size.ensures.value c.before_comma-size.ensures.within said ∙ ap (λ (w : List ℕ). Err (Unknown w)) (sym (c.in_ok-new.ensures ∙ front)))

pub returns-then-rest-size-clause-ok : goal.returns-then-rest-size-clause-ok
returns-then-rest-size-clause-ok c =
    let values = c.args.values.now in
    let size = c.before_comma-size.result in
    let front = c.split_at-in-items.ensures.front in
    let within = c.before_comma-size.ensures.within in
    let g = rw (← c.split_at.ensures.back) at c.items.invariant.items in
    let said : item_of values (take size c.split_at.result.1.now) ≡ Some c.in-Some.more = ap (item_of values) (sym front) ∙ sym c.in-Some.ensures in
    let end : size ≡ length c.split_at.result.1.now = omega arith in
    item_last values c.args.bytes.now _ _ size c.in-Some.more g c.before_comma-size.ensures.value said end ∙ ap Ok (sym c.join-set.ensures)

pub items-preserved : goal.items-preserved
items-preserved c =
    let values = c.args.values.now in
    let size = c.before_comma-size.result in
    let front = c.split_at-in-items.ensures.front in
    let g = rw (← c.split_at.ensures.back) at c.items.invariant.items in
    let said : item_of values (take size c.split_at.result.1.now) ≡ Some c.in-Some.more = ap (item_of values) (sym front) ∙ sym c.in-Some.ensures in
    let low = c.if-rest-size.false in
    let next = item_more values c.args.bytes.now _ _ size c.in-Some.more g c.before_comma-size.ensures.value said low in
    let behind : drop (size + 1) c.split_at.result.1.now ≡ drop (c.items.from + (size + 1)) c.args.bytes.now = ap (drop (size + 1)) c.split_at.ensures.back ∙ drop-drop (size + 1) c.items.from c.args.bytes.now in
    let size_of_rest = c.split_at.ensures.back_len in
    record {
      within = omega arith;
      items = rw (← behind, c.join-set.ensures) next;
    }
