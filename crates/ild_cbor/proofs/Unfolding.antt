-- The items of the list that an iterator has next, in its place.
use Rattle.std.proofs.Common.{◌≡◌, ℕ, ◌+◌, ◌-◌, ◌^◌, ◌<◌, ◌≤◌, max, min, List, [], ◌++◌, length, length-append, append_assoc, take, drop, Option, Some, None, refl, sym, ap, subst, ◌∙◌, arith}
use Rattle.ild_data.specs.Data.{Data, list, Items, no_items, item, items_list, items_depth}
use Rattle.ild_data.specs.Spell.{head, spell, spell_items}
use Rattle.ild_data.specs.Shape.{major_of, argument_of, string_of, parts_of}
use Rattle.ild_data.proofs.Shapes.{argument_small}
use Rattle.ild_data.proofs.Sizes.{items_count}
use Rattle.ild_cbor.specs.Chain.{chain}
use Rattle.ild_cbor.specs.inside.Shape.{IsStart}
use Rattle.ild_cbor.specs.Spelled.{Holds, SpellsItems, SpellsSomeItems}
use Rattle.ild_cbor.specs.Steps.{HasItems, items_of, UnfoldStep, UnfoldFirst}
use Rattle.ild_cbor.specs.declared.start.Start.{Start}
use Rattle.ild_cbor.specs.declared.items.Items.{Items as ItemsLeft}
use Rattle.ild_cbor.proofs.Blocks.{held_from}
use Rattle.ild_cbor.proofs.Insides.{list_if}
use Rattle.ild_cbor.proofs.Passes.{chain-spell, chain-count, chain-trees, shape_then}
use Rattle.ild_cbor.proofs.Iterations.{range_from, pieces, held_at}

chain-depth : (ds es : Items) → items_depth (chain ds es) ≤ max (items_depth ds) (items_depth es)
chain-depth no_items es = omega arith
chain-depth (item d ds) es = omega (arith, chain-depth ds es)

-- the items of the first one, a list, and then the others
pub record Opened (block : List ℕ) (from n : ℕ) (rest : List ℕ) (k : ℕ) (d : Data) (ds : Items) : Type 0 where
  pub inside : Items
  pub is : d ≡ list inside
  pub fits : length rest ≤ length block
  pub count : length (items_list inside) ≡ k
  pub others : SpellsItems block (length block - length rest) (min (n - 1 + k) (2 ^ 64 - 1)) (chain inside ds)
  pub place : length block - length rest ≡ from + length (head 4 k)

opened_in : (block : List ℕ) (from n : ℕ) (rest : List ℕ) (k : ℕ) (es ds : Items) (h : SpellsItems block from n (item (list es) ds)) → k ≡ length (items_list es)
    → rest ≡ spell_items es ++ (spell_items ds ++ h.holds.after) → Opened block from n rest k (list es) ds
opened_in block from n rest k es ds h count rest_is =
    let held = h.holds in
    let nested = h.nested in
    let sized = h.sized in
    let counted = h.count in
    let H : List ℕ = head 4 (length (items_list es)) in
    let P : List ℕ = spell_items es in
    let M : List ℕ = spell_items ds in
    let cut : ((H ++ P) ++ M) ++ held.after ≡ H ++ ((P ++ M) ++ held.after) =
    append_assoc (H ++ P) M held.after ∙ append_assoc H P (M ++ held.after) ∙ ap (λ (x : List ℕ). H ++ x) (sym (append_assoc P M held.after)) in
    let p = pieces block from ((H ++ P) ++ M) H (P ++ M) [] rest held.after held cut (rest_is ∙ sym (append_assoc P M held.after)) refl in
    let spelled : P ++ M ≡ spell_items (chain es ds) = sym (chain-spell es ds) in
    let l1 = length-append (H ++ P) M in
    let l2 = length-append H P in
    let l3 = length-append P M in
    let l4 : length (P ++ M) ≡ length (spell_items (chain es ds)) = ap length spelled in
    let l5 = chain-count es ds in
    let l6 = items_count (chain es ds) in
    let l7 = chain-depth es ds in
    record {
      inside = es;
      is = refl;
      fits = p.value_fits;
      count = sym count;
      others = record {
        holds = subst (λ (b : List ℕ). Holds block (length block - length rest) b) spelled (held_at block (P ++ M) (from + length H) (length block - length rest) p.first (sym p.value_place));
        count = omega arith;
        trees = chain-trees es ds h.trees.0 h.trees.1;
        nested = omega arith;
        sized = omega arith;
      };
      place = p.value_place ∙ ap (λ (m : ℕ). from + length (head 4 m)) (sym count);
    }

pub opened : (block : List ℕ) (from n : ℕ) (s : Start) (d : Data) (ds : Items) → SpellsItems block from n (item d ds) → s.major ≡ 4
    → ((major m : ℕ) (x : List ℕ) → m < 2 ^ 64 → take (length block - from) (drop from block) ≡ head major m ++ x → IsStart s major m x) → Opened block from n s.rest.now s.argument d ds
opened block from n s d ds h four starts =
    let held = h.holds in
    let sized = h.sized in
    let x : List ℕ = spell_items ds ++ held.after in
    let flat : take (length block - from) (drop from block) ≡ spell d ++ x =
    range_from block from ∙ held_from block (spell d ++ spell_items ds) from held ∙ append_assoc (spell d) (spell_items ds) held.after in
    let l1 = length-append (spell d) (spell_items ds) in
    let st = starts (major_of d) (argument_of d) (string_of d ++ (spell_items (parts_of d) ++ x)) (argument_small d h.trees.0 (omega arith)) (flat ∙ shape_then d x) in
    let l = list_if d (sym st.major_is ∙ four) in
    let P : Data → Type 0 = λ u. (hu : SpellsItems block from n (item u ds)) → IsStart s (major_of u) (argument_of u) (string_of u ++ (spell_items (parts_of u) ++ (spell_items ds ++ hu.holds.after)))
    → Opened block from n s.rest.now s.argument u ds in
    subst P (sym l.1) (λ hu su. opened_in block from n s.rest.now s.argument l.0 ds hu su.argument_is su.rest_is) h st

-- the same of items that aren't known
pub record OpenedSome (block : List ℕ) (from n : ℕ) (rest : List ℕ) (k : ℕ) : Type 0 where
  pub fits : length rest ≤ length block
  pub some : SpellsSomeItems block (length block - length rest) (min (n - 1 + k) (2 ^ 64 - 1))

pub opened_some : (block : List ℕ) (from n : ℕ) (s : Start) (ds : Items) → SpellsItems block from n ds → 0 < n → s.major ≡ 4
    → ((major m : ℕ) (x : List ℕ) → m < 2 ^ 64 → take (length block - from) (drop from block) ≡ head major m ++ x → IsStart s major m x) → OpenedSome block from n s.rest.now s.argument
opened_some block from n s no_items h lt four starts = let c = h.count in absurd (omega arith)
opened_some block from n s (item d ds) h lt four starts =
    let o = opened block from n s d ds h four starts in
    record { fits = o.fits; some = record { of = chain o.inside ds; spells = o.others } }

-- an item that doesn't begin as a list is none
other_in : (block : List ℕ) (from n : ℕ) (s : Start) (es ds : Items) → SpellsItems block from n (item (list es) ds) → (s.major ≡ 4 → ⊥)
    → ((major m : ℕ) (x : List ℕ) → m < 2 ^ 64 → take (length block - from) (drop from block) ≡ head major m ++ x → IsStart s major m x) → ⊥
other_in block from n s es ds h other starts =
    let held = h.holds in
    let sized = h.sized in
    let x : List ℕ = spell_items ds ++ held.after in
    let flat : take (length block - from) (drop from block) ≡ spell (list es) ++ x =
    range_from block from ∙ held_from block (spell (list es) ++ spell_items ds) from held ∙ append_assoc (spell (list es)) (spell_items ds) held.after in
    let l1 = length-append (spell (list es)) (spell_items ds) in
    let st = starts 4 (length (items_list es)) (spell_items es ++ x) (argument_small (list es) h.trees.0 (omega arith)) (flat ∙ shape_then (list es) x) in
    other st.major_is

not_list : (s : ItemsLeft) (st : Start) (d : Data) (ds : Items) → SpellsItems s.block.now s.from s.left (item d ds) → (st.major ≡ 4 → ⊥)
    → ((major m : ℕ) (x : List ℕ) → m < 2 ^ 64 → take (length s.block.now - s.from) (drop s.from s.block.now) ≡ head major m ++ x → IsStart st major m x) → UnfoldStep s ds (items_of d) None s
not_list s st (list es) ds h other starts = absurd (other_in s.block.now s.from s.left st es ds h other starts)
not_list s st d ds h other starts = refl

pub not_opened : (s : ItemsLeft) (st : Start) (ds : Items) → SpellsItems s.block.now s.from s.left ds → (st.major ≡ 4 → ⊥)
    → ((major m : ℕ) (x : List ℕ) → m < 2 ^ 64 → take (length s.block.now - s.from) (drop s.from s.block.now) ≡ head major m ++ x → IsStart st major m x) → UnfoldFirst s ds None s
not_opened s st no_items h other starts = refl
not_opened s st (item d ds) h other starts = not_list s st d ds h other starts

pub none_to_open : (s : ItemsLeft) (ds : Items) → SpellsItems s.block.now s.from s.left ds → s.left ≡ 0 → UnfoldFirst s ds None s
none_to_open s no_items h none = refl
none_to_open s (item d ds) h none = let c = h.count in absurd (omega arith)

pub unfolds : (s t : ItemsLeft) (st : Start) (ds : Items) → SpellsItems s.block.now s.from s.left ds → 0 < s.left → st.major ≡ 4
    → ((major m : ℕ) (x : List ℕ) → m < 2 ^ 64 → take (length s.block.now - s.from) (drop s.from s.block.now) ≡ head major m ++ x → IsStart st major m x)
    → t.block.now ≡ s.block.now → t.from ≡ length s.block.now - length st.rest.now → t.left ≡ min (s.left - 1 + st.argument) (2 ^ 64 - 1) → UnfoldFirst s ds (Some st.argument) t
unfolds s t st no_items h lt four starts block from left = let c = h.count in absurd (omega arith)
unfolds s t st (item d ds) h lt four starts block from left =
    let o = opened s.block.now s.from s.left st d ds h four starts in
    let moved : HasItems t (chain o.inside ds) =
    subst (λ (b : List ℕ). SpellsItems b t.from t.left (chain o.inside ds)) (sym block)
    (subst (λ (i : ℕ). SpellsItems s.block.now i t.left (chain o.inside ds)) (sym from) (subst (λ (k : ℕ). SpellsItems s.block.now (length s.block.now - length st.rest.now) k (chain o.inside ds)) (sym left) o.others)) in
    subst (λ (x : Option Items). UnfoldStep s ds x (Some st.argument) t) (sym (ap items_of o.is)) (record { count = o.count; left = moved; same_block = block; place = from ∙ o.place })
