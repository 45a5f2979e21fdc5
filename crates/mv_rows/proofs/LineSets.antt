-- How many lines with an output there are while lines are put in a set.
use Rattle.std.proofs.Common.{◌≡◌, ◌+◌, ◌≤◌, true, false, nat_eq, filter, List, [], ◌∷◌, ◌++◌, length, inl, inr, refl, sym, ◌∙◌, ap, arith}
use Rattle.std.specs.List.{list_any}
use Rattle.std.proofs.lemmas.Bool.{cases_Bool}
use Rattle.std.proofs.lemmas.List.Elements.{filter-append}
use Rattle.std.proofs.lemmas.List.{length-append}
use Rattle.indexmap.specs.IndexSet.{insert_key, insert_all}
use Rattle.mv_base.specs.Set.{empty}
use Rattle.mv_cover.specs.Equal.{line_eq}
use Rattle.mv_cover.specs.declared.line.Line.{Line}
use Rattle.mv_rows.specs.declared.line_set.LineSet.{LineSet}
use Rattle.mv_rows.specs.declared.stop.RowStop.{RowStop}
use Rattle.mv_rows.specs.declared.stop.RowStop.TheVariants.{Many, Memory}
use Rattle.mv_rows.specs.Flat.{has_output}
use Rattle.mv_rows.specs.Once.{count_said, Puts, StopsPut}
use Rattle.mv_rows.proofs.Alike.{inserted-append}

pub count-there : (keys : List Line) (l : Line) → list_any (line_eq l) keys ≡ true → count_said (insert_key line_eq keys l) ≡ count_said keys
count-there keys l there = rw there refl

count-push : (keys : List Line) (l : Line) → count_said (keys ++ l ∷ []) ≡ count_said keys + count_said (l ∷ [])
count-push keys l = ap length (filter-append has_output keys (l ∷ [])) ∙ length-append (filter has_output keys) (filter has_output (l ∷ []))

pub count-silent : (keys : List Line) (l : Line) → nat_eq l.out empty ≡ true → count_said (insert_key line_eq keys l) ≡ count_said keys
count-silent keys l silent =
    elim (cases_Bool (list_any (line_eq l) keys)) [
      | inl there ↦ count-there keys l there
      | inr new ↦
          let none : count_said (l ∷ []) ≡ 0 = rw silent refl in
          let both = count-push keys l in
          rw new (omega arith)
    ]

pub count-new : (keys : List Line) (l : Line) → nat_eq l.out empty ≡ false → list_any (line_eq l) keys ≡ false → count_said (insert_key line_eq keys l) ≡ count_said keys + 1
count-new keys l says new =
    let one : count_said (l ∷ []) ≡ 1 = rw says refl in
    let both = count-push keys l in
    rw new (omega arith)

-- one more line takes nothing away
count-grows_one : (keys : List Line) (l : Line) → count_said keys ≤ count_said (insert_key line_eq keys l)
count-grows_one keys l =
    elim (cases_Bool (list_any (line_eq l) keys)) [
      | inl there ↦ let e = count-there keys l there in omega arith
      | inr new ↦ let both = count-push keys l in rw new (omega arith)
    ]

pub count-grows : (keys more : List Line) → count_said keys ≤ count_said (insert_all line_eq keys more)
count-grows keys [] = omega arith
count-grows keys (l ∷ ls) =
    let one = count-grows_one keys l in
    let rest = count-grows (insert_key line_eq keys l) ls in
    omega arith

-- ---- lines one after the other

pub puts_none : (d : LineSet) → Puts [] d d
puts_none d = record { keys = refl; most = refl }

pub puts_more : (xs ys : List Line) (a b c : LineSet) → Puts xs a b → Puts ys b c → Puts (xs ++ ys) a c
puts_more xs ys a b c p q = record {
  keys = q.keys ∙ (ap (λ ks. insert_all line_eq ks ys) p.keys ∙ sym (inserted-append a.lines.keys xs ys));
  most = q.most ∙ p.most;
}

-- where lines stop behind others they stop among them all
pub stops_more : (xs ys zs : List Line) (a b : LineSet) (stop : RowStop) → Puts xs a b → StopsPut ys b stop → StopsPut (xs ++ (ys ++ zs)) a stop
stops_more xs ys zs a b Many p q =
    let keys = insert_all line_eq a.lines.keys xs in
    let same : insert_all line_eq b.lines.keys ys ≡ insert_all line_eq keys ys = ap (λ ks. insert_all line_eq ks ys) p.keys in
    let all : insert_all line_eq a.lines.keys (xs ++ (ys ++ zs)) ≡ insert_all line_eq (insert_all line_eq keys ys) zs =
    inserted-append a.lines.keys xs (ys ++ zs) ∙ inserted-append keys ys zs in
    let grows = count-grows (insert_all line_eq keys ys) zs in
    let e = ap count_said same in
    let f = ap count_said all in
    let m = p.most in
    omega arith
stops_more xs ys zs a b Memory p q = tt
