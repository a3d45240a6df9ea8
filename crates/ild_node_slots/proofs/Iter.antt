-- Steps of an iterator over the items of a list, each at its place.
use Rattle.std.proofs.Common.{◌≡◌, ℕ, zero, suc, ◌+◌, ◌≤◌, List, [], ◌∷◌, ◌++◌, length, drop, Some, None, refl, sym, ap, ◌∙◌, subst, arith, append_assoc, append-nil}
use Rattle.std.specs.Prelude.{slice_get}
use Rattle.std.proofs.lemmas.List.{length-append}
use Rattle.ild_data.specs.Data.{Data, list, no_items, items_of, items_list}
use Rattle.ild_data.specs.Spell.{head, spell}
use Rattle.ild_cbor.specs.declared.node.Node.{Node}
use Rattle.ild_cbor.specs.declared.items.Items.{Items as ItemsLeft}
use Rattle.ild_cbor.specs.Nodes.{IsPart, start_of}
use Rattle.ild_cbor.specs.Span.{place_of, items_before}
use Rattle.ild_cbor.specs.Steps.{HasItems, ItemsGive, IteratesItems}
use Rattle.ild_node_slots.specs.Items.{IsAtItem}

-- a part of a part
pub part-of : (n m o : Node) (i j : ℕ) (t u : Data) → IsPart n m i t → IsPart m o j u → IsPart n o (i + j) u
part-of n m o i j t u p q = record {
  stands = q.stands;
  block_is = q.block_is ∙ p.block_is;
  start_is = let a = q.start_is in let b = p.start_is in omega arith;
}

-- ---- what stands before an item

before-more : (ds : List Data) (k : ℕ) (d : Data) → slice_get ds k ≡ Some d → items_before (suc k) (items_of ds) ≡ items_before k (items_of ds) ++ spell d
before-more [] k d is = absurd cc
before-more (e ∷ ds) zero d is = let same : e ≡ d = cc in append-nil (spell e) ∙ ap spell same
before-more (e ∷ ds) (suc k) d is = ap (λ s. spell e ++ s) (before-more ds k d is) ∙ sym (append_assoc (spell e) (items_before k (items_of ds)) (spell d))

next_is : (k : ℕ) → k + 1 ≡ suc k
next_is k = omega arith

pub place-more : (ds : List Data) (k : ℕ) (d : Data) → slice_get ds k ≡ Some d → place_of (list (items_of ds)) (k + 1) ≡ place_of (list (items_of ds)) k + length (spell d)
place-more ds k d is =
    let h : List ℕ = head 4 (length (items_list (items_of ds))) in
    ap (place_of (list (items_of ds))) (next_is k) ∙ ap (λ s. length (h ++ s)) (before-more ds k d is)
    ∙ ap length (sym (append_assoc h (items_before k (items_of ds)) (spell d))) ∙ length-append (h ++ items_before k (items_of ds)) (spell d)

-- ---- the steps

-- an iterator's step over an item at its place
pub record StepAt (n : Node) (ds : List Data) (k : ℕ) (m : Node) (t : ItemsLeft) : Type 0 where
  pub of : Data
  pub is : slice_get ds k ≡ Some of
  pub part : IsPart n m (place_of (list (items_of ds)) k) of
  pub next : IsAtItem n ds (k + 1) t

get_drop : (ds es : List Data) (d : Data) (k : ℕ) → drop k ds ≡ d ∷ es → slice_get ds k ≡ Some d
get_drop [] es d zero is = absurd cc
get_drop [] es d (suc k) is = absurd cc
get_drop (e ∷ ds) es d zero is = let same : e ≡ d = cc in ap Some same
get_drop (e ∷ ds) es d (suc k) is = get_drop ds es d k is

drop_more : (ds es : List Data) (d : Data) (k : ℕ) → drop k ds ≡ d ∷ es → drop (suc k) ds ≡ es
drop_more [] es d zero is = absurd cc
drop_more [] es d (suc k) is = absurd cc
drop_more (e ∷ ds) es d zero is = let same : ds ≡ es = cc in same
drop_more (e ∷ ds) es d (suc k) is = drop_more ds es d k is

drop_none : (ds : List Data) (k : ℕ) → drop k ds ≡ [] → length ds ≤ k
drop_none [] k is = omega arith
drop_none (d ∷ ds) zero is = absurd cc
drop_none (d ∷ ds) (suc k) is = let le = drop_none ds k is in omega arith

step_by : (n : Node) (ds more : List Data) (k : ℕ) (s t : ItemsLeft) (m : Node) → drop k ds ≡ more → HasItems s (items_of more) → IsAtItem n ds k s → ItemsGive s (Some m) t → StepAt n ds k m t
step_by n ds [] k s t m is left at gives = absurd (gives no_items left)
step_by n ds (d ∷ more) k s t m is left at gives =
    let step = gives (items_of (d ∷ more)) left in
    let found : slice_get ds k ≡ Some d = get_drop ds more d k is in
    record {
      of = d;
      is = found;
      part = record { stands = step.stands; block_is = step.block_is ∙ at.block_is; start_is = step.start_is ∙ at.place };
      next = record {
        left = subst (λ (es : List Data). HasItems t (items_of es)) (sym (ap (λ j. drop j ds) (next_is k) ∙ drop_more ds more d k is)) step.left;
        block_is = step.same_block ∙ at.block_is;
        place = let a = step.place in let b = at.place in let c = place-more ds k d found in omega arith;
      };
    }

pub iter-step : (n : Node) (ds : List Data) (k : ℕ) (s t : ItemsLeft) (m : Node) → IsAtItem n ds k s → ItemsGive s (Some m) t → StepAt n ds k m t
iter-step n ds k s t m at gives = step_by n ds (drop k ds) k s t m refl at.left at gives

end_by : (ds more : List Data) (k : ℕ) (s t : ItemsLeft) → drop k ds ≡ more → HasItems s (items_of more) → ItemsGive s None t → length ds ≤ k
end_by ds [] k s t is left gives = drop_none ds k is
end_by ds (d ∷ more) k s t is left gives = absurd (gives (items_of (d ∷ more)) left)

pub iter-end : (n : Node) (ds : List Data) (k : ℕ) (s t : ItemsLeft) → IsAtItem n ds k s → ItemsGive s None t → length ds ≤ k
iter-end n ds k s t at gives = end_by ds (drop k ds) k s t refl at.left gives

-- the iterator that a list gives
pub iter-first : (n : Node) (ds : List Data) (s : ItemsLeft) → IteratesItems n (items_of ds) s → IsAtItem n ds 0 s
iter-first n ds s it = record {
  left = it.left;
  block_is = it.block_is;
  place = it.place ∙ ap (λ c. start_of n + length c) (sym (append-nil (head 4 (length (items_list (items_of ds))))));
}
