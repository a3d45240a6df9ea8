-- Where the blocks of a value are short, so are the data of each of its parts.
use Rattle.std.proofs.Common.{◌≡◌, ℕ, ◌≤◌, Bool, true, false, ◌||◌, List, [], ◌∷◌, ◌++◌, length, Option, Some, None, option_map, refl, sym, ap, ◌∙◌, subst, arith}
use Rattle.std.proofs.lemmas.Bool.Decides.{nat_tests}
use Rattle.std.specs.Option.{option_map_or}
use Rattle.std.specs.Prelude.{cond, is_some, option_and_then}
use Rattle.std.specs.List.{AllByRecursion}
use Rattle.std.proofs.lemmas.Option.{none-some, same_Some}
use Rattle.ild_bulk.specs.Build.{any_long, is_long}
use Rattle.ild_data.proofs.AllOf.{all_split}
use Rattle.ild_data.specs.ByteOrder.{in_byte_order}
use Rattle.ild_data.specs.Data.{Data}
use Rattle.ild_data.specs.Key.{same_text, value_at}
use Rattle.ild_data.specs.Limits.{longest_block}
use Rattle.ild_data.specs.Spell.{spell}
use Rattle.ild_data.specs.Trie.{trie}
use Rattle.ild_data.specs.TrieBlocks.{nodes_beneath}
use Rattle.ild_data.specs.TrieShape.{trie_levels}
use Rattle.ild_data.specs.declared.hamt_shape.HamtShape.{HamtShape}
use Rattle.ild_path_changes.proofs.Datas.{each_pair}
use Rattle.ild_path_changes.proofs.Each.{each_pair-at}
use Rattle.ild_path_changes.proofs.HaveTrees.{has_trees}
use Rattle.ild_path_changes.proofs.Represented.{represents}
use Rattle.ild_path_changes.specs.LiftLaws.{of_values}
use Rattle.ild_path_edits.proofs.HeldTyped.{with_slot}
use Rattle.ild_path_edits.proofs.KeepTyped.{of_type_is_kept}
use Rattle.ild_path_nodes.proofs.Changing.{part_step}
use Rattle.ild_path_within.proofs.Splitting.{first_of_path}
use Rattle.ild_schema.proofs.Legibly.{legible}
use Rattle.ild_schema.specs.Slots.{form_of}
use Rattle.ild_schema.specs.Value as V
use Rattle.ild_schema.specs.Value.{Pairs, Value, pairs_list}
use Rattle.ild_schema.specs.declared.def.MapForm.TheVariants as MF
use Rattle.ild_schema.specs.declared.def.TypeDef.{TypeDef}
use Rattle.ild_schema.specs.declared.def.TypeDef.TheVariants as D
use Rattle.ild_schema.specs.declared.number.Slot.{Slot}
use Rattle.ild_schema.specs.declared.number.TypeNo.{TypeNo}
use Rattle.ild_schema.specs.declared.row.Row.{Row}
use Rattle.ild_typed.proofs.Basics.{map_from}
use Rattle.ild_typed.specs.At.{InSlot, at, seen}
use Rattle.ild_typed.specs.Blocks.{hamt_nodes, nodes, nodes_of_pairs}
use Rattle.ild_typed.specs.Hamt.{root_map, whole}
use Rattle.ild_typed.specs.Holder.{map_holder}
use Rattle.ild_typed.specs.Layer as L
use Rattle.ild_typed.specs.OfType.{OfType, TestsKeys}
use Rattle.ild_typed.specs.Represented.{layered, represented, represented_pairs}
use Rattle.ild_typed.specs.Schema.{IsSchema}
use Rattle.ild_typed.specs.Segment.{part}
use Rattle.ild_typed.specs.Slots.{element_of}
use Rattle.ild_typed.specs.Strings.{cons_both}
use Rattle.ild_typed_fronts.proofs.Representing.{same_data}
use Rattle.ild_typed_fronts.proofs.Seeing.{parts_of_fronts}
use Rattle.ild_typed_fronts.specs.Front.{front_in, is_hamt, is_root}
use Rattle.ild_value_meaning.proofs.Told.{told}
use Rattle.ild_path_long.specs.LongParts.{LongPartsAreInBlocks}
use Rattle.ild_path_long.proofs.Shorter.{part_short}
use Rattle.ild_path_long.proofs.Trie.{HasShort, IsShort, entries_of_trie}

-- ---- types of HAMTs

record IsHamtType (o : Option TypeDef) : Type 0 where
  key : TypeNo
  key_at : ℕ
  elem : Slot
  place : ℕ
  shape : HamtShape
  is : o ≡ Some (D.Map key key_at elem place (MF.Hamt shape))

by_type : (d : TypeDef) → is_hamt (Some d) ≡ true → IsHamtType (Some d)
by_type (D.Map key key_at elem place (MF.Hamt shape)) e = record { key = key; key_at = key_at; elem = elem; place = place; shape = shape; is = refl }
by_type (D.Map key key_at elem place MF.Map) e = absurd cc
by_type (D.Map key key_at elem place MF.ListPairs) e = absurd cc
by_type (D.Map key key_at elem place (MF.StringPairs inner entry)) e = absurd cc
by_type d e = absurd cc

hamt_type : (o : Option TypeDef) → is_hamt o ≡ true → IsHamtType o
hamt_type None e = absurd cc
hamt_type (Some d) e = by_type d e

-- ---- entries

found_at : (n : ℕ) (k : List ℕ) (es : List (List ℕ × Data)) (t : Data) → AllByRecursion (HasShort n) es → value_at k es ≡ Some t → length (spell t) ≤ n
found_at n k [] t all e = absurd (none-some t e)
found_at n k (x ∷ es) t all e = by (same_text k x.0) e (λ g. found_at n k es t all.1 g) where
  by : (b : Bool) → cond b (Some x.1) (value_at k es) ≡ Some t → (value_at k es ≡ Some t → length (spell t) ≤ n) → length (spell t) ≤ n
  by true g later = subst (λ d. length (spell d) ≤ n) (same_Some x.1 t g) all.0
  by false g later = later g

module _ (h : List ℕ → List ℕ) (rows : List Row) where
  pairs_each : (elem : Slot) (ps : Pairs) → represented_pairs (whole h) rows elem ps ≡ each_pair (represented (whole h) rows elem) (pairs_list ps)
  pairs_each elem V.no_pairs = refl
  pairs_each elem (V.pair k v ps) = ap (cons_both (option_map (λ d. (k, d)) (represented (whole h) rows elem v))) (pairs_each elem ps)

  abbrev On : List (List ℕ) → Type 0
  On bs = AllByRecursion (IsShort longest_block) bs

  abbrev Short : Data → Type 0
  Short t = length (spell t) ≤ longest_block

  -- ---- a HAMT

  module _ (key : TypeNo) (key_at : ℕ) (elem : Slot) (place : ℕ) (shape : HamtShape) where
    abbrev Hamt : Option TypeDef
    Hamt = Some (D.Map key key_at elem place (MF.Hamt shape))

    entries_short : (o : Option (List (List ℕ × Data))) (u : Data) → layered (whole h) Hamt (option_map L.map o) ≡ Some u → Short u → On (hamt_nodes h Hamt o)
        → (es : List (List ℕ × Data)) × (o ≡ Some es) × AllByRecursion (HasShort longest_block) es
    entries_short None u made short on = absurd (none-some u made)
    entries_short (Some es) u made short on =
        let x = map_from (root_map shape) (trie h shape es 0) u made in
        let root : Short (root_map shape x.item) = subst Short (sym (same_Some (root_map shape x.item) u x.made)) short in
        let beneath : On (nodes_beneath h shape (trie_levels shape) 0 (in_byte_order es)) = subst (λ o. On (cond (is_some o) (nodes_beneath h shape (trie_levels shape) 0 (in_byte_order es)) [])) x.there on in
        (es, refl, entries_of_trie longest_block h shape es x.item x.there root beneath)

    in_hamt : (G : Option TypeDef) (ps : Pairs) (q : InSlot) (s : List ℕ) (t u : Data) → G ≡ Hamt
        → layered (whole h) G (option_map L.map (option_and_then (λ e. represented_pairs (whole h) rows e ps) (element_of G))) ≡ Some u → Short u
        → On (option_map_or (λ e. hamt_nodes h G (represented_pairs (whole h) rows e ps) ++ nodes_of_pairs h rows e ps) (element_of G) [])
        → part (map_holder G ps) s ≡ Some q → represented (whole h) rows q.0 q.1 ≡ Some t → Short t
    in_hamt G ps q s t u form =
        subst
        (λ G. layered (whole h) G (option_map L.map (option_and_then (λ e. represented_pairs (whole h) rows e ps) (element_of G))) ≡ Some u → Short u
        → On (option_map_or (λ e. hamt_nodes h G (represented_pairs (whole h) rows e ps) ++ nodes_of_pairs h rows e ps) (element_of G) [])
        → part (map_holder G ps) s ≡ Some q → represented (whole h) rows q.0 q.1 ≡ Some t → Short t) (sym form)
        (λ made short on there partly.
        let own = all_split (IsShort longest_block) (hamt_nodes h Hamt (represented_pairs (whole h) rows elem ps)) (nodes_of_pairs h rows elem ps) on in
        let x = entries_short (represented_pairs (whole h) rows elem ps) u made short own.0 in
        let y = with_slot elem (value_at s (pairs_list ps)) q there in
        let is : represented (whole h) rows elem y.0 ≡ Some t = (λ i. represented (whole h) rows ((y.2 i).0) ((y.2 i).1)) ∙ partly in
        found_at longest_block s x.0 t x.2
        (each_pair-at (represented (whole h) rows elem) (pairs_list ps) x.0 s (sym (pairs_each elem ps) ∙ x.1) ∙ ap (option_and_then (represented (whole h) rows elem)) y.1 ∙ is))

  of_root : (slot : Slot) (v : Value) (q : InSlot) (s : List ℕ) (t u : Data) → is_root rows (slot, v) ≡ true → represented (whole h) rows slot v ≡ Some u → Short u → On (nodes h rows slot v)
      → part (seen rows (slot, v)) s ≡ Some q → represented (whole h) rows q.0 q.1 ≡ Some t → Short t
  of_root slot (V.map ps) q s t u root made short on there partly =
      let x = hamt_type (form_of rows slot) root in
      in_hamt x.key x.key_at x.elem x.place x.shape (form_of rows slot) ps q s t u x.is made short on there partly
  of_root slot (V.hamt d) q s t u root made short on there partly = absurd (none-some q there)
  of_root slot V.null q s t u root made short on there partly = absurd cc
  of_root slot (V.boolean b) q s t u root made short on there partly = absurd cc
  of_root slot (V.integer n) q s t u root made short on there partly = absurd cc
  of_root slot (V.text y) q s t u root made short on there partly = absurd cc
  of_root slot (V.bytes y) q s t u root made short on there partly = absurd cc
  of_root slot (V.link y) q s t u root made short on there partly = absurd cc
  of_root slot (V.list vs) q s t u root made short on there partly = absurd cc
  of_root slot (V.struct os) q s t u root made short on there partly = absurd cc
  of_root slot (V.union n v) q s t u root made short on there partly = absurd cc
  of_root slot (V.enum n) q s t u root made short on there partly = absurd cc
  of_root slot V.unit q s t u root made short on there partly = absurd cc
  of_root slot (V.any d) q s t u root made short on there partly = absurd cc

  -- ---- along a path

  module _ (is_key : ℕ → List ℕ → Bool) (schema : IsSchema rows) (keys : TestsKeys rows is_key) where
    step : (p q : InSlot) (s : List ℕ) (t u : Data) → OfType rows p.0 p.1 → represented (whole h) rows p.0 p.1 ≡ Some u → Short u → On (nodes h rows p.0 p.1)
        → part (seen rows p) s ≡ Some q → represented (whole h) rows q.0 q.1 ≡ Some t → Short t
    step p q s t u is made short on there partly = by (is_root rows p) refl where
      by : (b : Bool) → is_root rows p ≡ b → Short t
      by true root = of_root p.0 p.1 q s t u root made short on there partly
      by false plain =
          part_short rows (legible rows schema.accepted) (told rows schema).any_there (front_in h rows p) (front_in h rows q) s t u (same_data h rows p.1 p.0 ∙ made) (same_data h rows q.1 q.0 ∙ partly)
          (parts_of_fronts h rows is_key schema keys p s is plain ∙ ap (option_map (front_in h rows)) there) short

    along : (path : List (List ℕ)) (p q : InSlot) (t u : Data) → OfType rows p.0 p.1 → represented (whole h) rows p.0 p.1 ≡ Some u → Short u → On (nodes h rows p.0 p.1)
        → at rows p path ≡ Some q → represented (whole h) rows q.0 q.1 ≡ Some t → Short t
    along [] p q t u is made short on there partly =
        let same : represented (whole h) rows p.0 p.1 ≡ represented (whole h) rows q.0 q.1 = ap (λ (r : InSlot). represented (whole h) rows r.0 r.1) (same_Some p q there) in
        subst Short (same_Some u t (sym made ∙ same ∙ partly)) short
    along (s ∷ ss) p q t u is made short on there partly =
        let x = first_of_path rows p q s ss there in
        let kept = of_type_is_kept rows is_key schema keys in
        let told_apart = told rows schema in
        let r = represents rows is_key told_apart.apart told_apart.any_there keys (legible rows schema.accepted).clear (whole h) (has_trees (whole h) rows (of_values h refl) schema.table.texts.spelled) kept in
        let d = r.parts p x.item s u is x.there made in
        along ss x.item q t d.0 (kept.parts p x.item s is x.there) d.1 (step p x.item s d.0 u is made short on x.there d.1)
        (part_step (IsShort longest_block) h rows is_key schema keys p x.item s is on x.there) x.made partly

-- ---- blocks

none_long : (bs : List (List ℕ)) → any_long bs ≡ false → AllByRecursion (IsShort longest_block) bs
none_long [] e = tt
none_long (b ∷ bs) e = by (is_long b) refl e (λ g. none_long bs g) where
  by : (c : Bool) → is_long b ≡ c → (c || any_long bs) ≡ false → (any_long bs ≡ false → AllByRecursion (IsShort longest_block) bs) → AllByRecursion (IsShort longest_block) (b ∷ bs)
  by true is g later = absurd cc
  by false is g later = (grind (arith, nat_tests, is), later g)

pub parts_are_in_blocks : LongPartsAreInBlocks
parts_are_in_blocks h rows is_key schema keys p u is made x = by (any_long (spell u ∷ nodes h rows p.0 p.1)) refl where
  by : (b : Bool) → any_long (spell u ∷ nodes h rows p.0 p.1) ≡ b → any_long (spell u ∷ nodes h rows p.0 p.1) ≡ true
  by true e = e
  by false e =
      let all = none_long (spell u ∷ nodes h rows p.0 p.1) e in
      let few = along h rows is_key schema keys x.part.path p x.part.part x.tree u is made all.0 all.1 x.part.at x.part.tree in
      let long = x.long in
      absurd (omega (arith, few, long))
