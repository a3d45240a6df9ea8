-- The blocks of a value spell trees that nest no deeper than the room in which the value fits.
use Rattle.std.specs.Option.{option_map_or}
use Rattle.std.proofs.Common.{◌≡◌, ℕ, zero, suc, ◌+◌, ◌-◌, ◌^◌, ◌≤◌, nat_le, List, [], ◌∷◌, ◌++◌, length, Bool, true, false, cond, Option, Some, None, IsUtf8, refl, sym, subst, arith, ◌∙◌, ap, option_map}
use Rattle.std.specs.Prelude.{IsSomeAnd, is_some, nat_eq}
use Rattle.std.specs.List.{AllByRecursion, flat_map, range_with_len}
use Rattle.ild_data.proofs.AllOf.{all_append, all_split, all_filter}
use Rattle.ild_data.specs.Data.{Data, depth}
use Rattle.ild_data.specs.Tree.{IsTree}
use Rattle.ild_data.specs.Limits.{deepest, longest_block}
use Rattle.ild_data.specs.Spell.{spell}
use Rattle.ild_schema.specs.declared.number.Slot.{Slot}
use Rattle.ild_schema.specs.declared.number.TypeNo.{TypeNo}
use Rattle.ild_schema.specs.declared.def.TypeDef.{TypeDef}
use Rattle.ild_schema.specs.declared.def.TypeDef.TheVariants as D
use Rattle.ild_schema.specs.declared.def.MapForm.TheVariants as MF
use Rattle.ild_schema.specs.declared.def.Field.{Field}
use Rattle.ild_schema.specs.declared.row.Row.{Row}
use Rattle.ild_schema.specs.Value as V
use Rattle.ild_schema.specs.Value.{Value, Values, Pairs, Optionals, values_list, pairs_list, optionals_list}
use Rattle.ild_data.specs.declared.hamt_shape.HamtShape.{HamtShape}
use Rattle.ild_data.specs.TrieShape.{trie_levels}
use Rattle.ild_data.specs.ByteOrder.{in_byte_order}
use Rattle.ild_data.specs.Trie.{part, at_depth, node_of, trie}
use Rattle.ild_data.specs.TrieBlocks.{nodes_beneath, node_and_beneath, none_or, block_of}
use Rattle.ild_schema.specs.Slots.{form_of, plainly}
use Rattle.ild_typed.specs.Slots.{slot_of, element_of, fields_of, member_at}
use Rattle.ild_typed.specs.Hamt.{whole}
use Rattle.ild_typed.specs.Represented.{represented, represented_pairs}
use Rattle.ild_typed.specs.Levels.{levels_of}
use Rattle.ild_typed.specs.Fits.{FormFits, ValueFits, FitsPast, Fits}
use Rattle.ild_typed.specs.Layers.{FieldsFit}
use Rattle.ild_typed.specs.Blocks.{hamt_nodes, nodes, nodes_of_values, nodes_of_pairs, nodes_of_fields}
use Rattle.ild_typed.specs.Stands.{Frame, IsFrame, blocks_of, Storable}
use Rattle.ild_typed.specs.Nested.{TreeIn, BlockIn, IsBlock}
use Rattle.ild_schema.specs.Spelled.{IsSpelled}
use Rattle.ild_typed.proofs.Treed.{EntryIn, in_more}
use Rattle.ild_typed.proofs.TreeNodes.{sorted_in, node_of_in}
use Rattle.ild_typed.proofs.TreeParts.{list_fits, struct_fits, union_fits, map_fits, pairs_in}
use Rattle.ild_typed.proofs.TreeValues.{whole_past, whole_tree}
use Rattle.ild_typed.proofs.Rooms.{all_more}

pub block_more : (m n : ℕ) (b : List ℕ) → m ≤ n → BlockIn m b → BlockIn n b
block_more m n b le x = record { of = x.of; is = x.is; fits = in_more m n x.of le x.fits }

-- ---- the nodes beneath a root

all_flat : {X A : Type 0} (P : A → Type 0) (f : X → List A) (xs : List X) → ((x : X) → AllByRecursion P (f x)) → AllByRecursion P (flat_map f xs)
all_flat P f [] each = tt
all_flat P f (x ∷ xs) each = all_append P (f x) (flat_map f xs) (each x) (all_flat P f xs each)

pub block_in : (n : ℕ) (o : Option Data) → ((d : Data) → o ≡ Some d → TreeIn n d) → AllByRecursion (BlockIn n) (block_of o)
block_in n None each = tt
block_in n (Some d) each = (record { of = d; is = refl; fits = each d refl }, tt)

beneath_in : (n : ℕ) (b : Bool) (below : List (List ℕ × Data) → Option Data) (beneath : List (List ℕ × Data) → List (List ℕ)) (es : List (List ℕ × Data))
    → ((d : Data) → below es ≡ Some d → TreeIn n d) → AllByRecursion (BlockIn n) (beneath es) → AllByRecursion (BlockIn n) (none_or b (λ fs. block_of (below fs) ++ beneath fs) es)
beneath_in n true below beneath es one more = tt
beneath_in n false below beneath es one more = all_append (BlockIn n) (block_of (below es)) (beneath es) (block_in n (below es) one) more

pub blocks_beneath : (n : ℕ) (h : List ℕ → List ℕ) (p : HamtShape) (left depth : ℕ) (es : List (List ℕ × Data)) → AllByRecursion (EntryIn n) es → AllByRecursion (BlockIn (n + 4)) (nodes_beneath h p left depth es)
unfolding nodes_beneath
blocks_beneath n h p zero depth es all = tt
blocks_beneath n h p (suc left) depth es all =
    all_flat (BlockIn (n + 4)) (λ i. node_and_beneath p.bucket (node_of h p left (depth + 1)) (nodes_beneath h p left (depth + 1)) (part (at_depth h p depth) es i)) (range_with_len 0 (2 ^ p.width))
    (λ i. let piece : List (List ℕ × Data) = part (at_depth h p depth) es i in
    let good : AllByRecursion (EntryIn n) piece = all_filter (EntryIn n) (λ e. nat_eq (at_depth h p depth e.0) i) es all in
    beneath_in (n + 4) (nat_le (length piece) p.bucket) (node_of h p left (depth + 1)) (nodes_beneath h p left (depth + 1)) piece
    (λ d e. node_of_in n h p left (depth + 1) piece d good e) (blocks_beneath n h p left (depth + 1) piece good))

-- ---- the nodes of a value

pub record Formed (P : TypeDef → Type 0) (o : Option TypeDef) : Type 0 where
  pub form : TypeDef
  pub is : o ≡ Some form
  pub holds : P form

pub formed : (P : TypeDef → Type 0) (o : Option TypeDef) → IsSomeAnd o P → Formed P o
formed P None h = absurd h
formed P (Some d) h = record { form = d; is = refl; holds = h }

module _ (h : List ℕ → List ℕ) (rows : List Row) (n : ℕ) (fits : Slot → Value → Type 0) (later : (s : Slot) (v : Value) → fits s v → AllByRecursion (BlockIn n) (nodes h rows s v)) where
  of_values : (s : Slot) (vs : Values) → AllByRecursion (fits s) (values_list vs) → AllByRecursion (BlockIn n) (nodes_of_values h rows s vs)
  of_values s V.no_values all = tt
  of_values s (V.value v vs) all = all_append (BlockIn n) (nodes h rows s v) (nodes_of_values h rows s vs) (later s v all.0) (of_values s vs all.1)

  of_pairs : (s : Slot) (ps : Pairs) → AllByRecursion (λ p. IsUtf8 p.0 × fits s p.1) (pairs_list ps) → AllByRecursion (BlockIn n) (nodes_of_pairs h rows s ps)
  of_pairs s V.no_pairs all = tt
  of_pairs s (V.pair k v ps) all = all_append (BlockIn n) (nodes h rows s v) (nodes_of_pairs h rows s ps) (later s v all.0.1) (of_pairs s ps all.1)

  of_fields : (fs : List Field) (os : Optionals) → FieldsFit fits fs (optionals_list os) → AllByRecursion (BlockIn n) (nodes_of_fields h rows fs os)
  of_fields fs V.no_optionals all = tt
  of_fields [] (V.absent os) all = tt
  of_fields [] (V.present v os) all = tt
  of_fields (f ∷ fs) (V.absent os) all = of_fields fs os all.1
  of_fields (f ∷ fs) (V.present v os) all = all_append (BlockIn n) (nodes h rows f.slot v) (nodes_of_fields h rows fs os) (later f.slot v all.0) (of_fields fs os all.1)

module _ (h : List ℕ → List ℕ) (rows : List Row) (room : ℕ) (below : ℕ → Slot → Value → Type 0)
    (good : (o : ℕ) (s : Slot) (v : Value) (t : Data) → below o s v → represented (whole h) rows s v ≡ Some t → IsTree t × (suc (depth t + o) ≤ room))
    (later : (o : ℕ) (s : Slot) (v : Value) → below o s v → AllByRecursion (BlockIn room) (nodes h rows s v)) where
  good_part : (o : ℕ) (s : Slot) (v : Value) (t : Data) → below o s v → represented (whole h) rows s v ≡ Some t → TreeIn (room - suc o) t
  good_part o s v t b e = let g = good o s v t b e in record { tree = g.0; nested = omega (arith, g.1) }

  room_four : 5 ≤ room → (room - 5) + 4 ≤ room
  room_four le = omega (arith, le)

  trie_blocks : (p : HamtShape) (b : Bool) (es : List (List ℕ × Data)) → 5 ≤ room → AllByRecursion (EntryIn (room - 5)) es → AllByRecursion (BlockIn room) (cond b (nodes_beneath h p (trie_levels p) 0 (in_byte_order es)) [])
  trie_blocks p true es le all =
      all_more (BlockIn ((room - 5) + 4)) (BlockIn room) (λ b x. block_more ((room - 5) + 4) room b (room_four le) x) (nodes_beneath h p (trie_levels p) 0 (in_byte_order es))
      (blocks_beneath (room - 5) h p (trie_levels p) 0 (in_byte_order es) (sorted_in (room - 5) es all))
  trie_blocks p false es le all = tt

  hamt_blocks : (d : TypeDef) (ps : Pairs) (o : Option (List (List ℕ × Data))) → levels_of d (V.map ps) ≤ room
      → ((es : List (List ℕ × Data)) → o ≡ Some es → AllByRecursion (EntryIn (room - suc (levels_of d (V.map ps) - 1))) es) → AllByRecursion (BlockIn room) (hamt_nodes h (Some d) o)
  hamt_blocks (D.Map key key_at value place (MF.Hamt p)) ps (Some es) le each = trie_blocks p (is_some (trie h p es 0)) es le (each es refl)
  hamt_blocks (D.Map key key_at value place (MF.Hamt p)) ps None le each = tt
  hamt_blocks (D.Map key key_at value place MF.Map) ps o le each = tt
  hamt_blocks (D.Map key key_at value place MF.ListPairs) ps o le each = tt
  hamt_blocks (D.Map key key_at value place (MF.StringPairs i e)) ps o le each = tt
  hamt_blocks d ps o le each = tt

  All : List (List ℕ) → Type 0
  All bs = AllByRecursion (BlockIn room) bs

  pub blocks_in : (s : Slot) (v : Value) → ValueFits rows room below s v → AllByRecursion (BlockIn room) (nodes h rows s v)
  unfolding All
  blocks_in s (V.list vs) f =
      let x = formed (FormFits rows room below (V.list vs)) (form_of rows s) f in
      let o = levels_of x.form (V.list vs) - 1 in
      let z = list_fits (below o) rows x.form (values_list vs) x.holds.1 in
      subst (λ k. All (option_map_or (λ u. nodes_of_values h rows u vs) k [])) (sym (ap element_of x.is ∙ z.is))
      (of_values h rows room (below o) (later o) z.slot vs z.each)
  blocks_in s (V.map ps) f =
      let x = formed (FormFits rows room below (V.map ps)) (form_of rows s) f in
      let o = levels_of x.form (V.map ps) - 1 in
      let m = map_fits (below o) rows x.form (pairs_list ps) x.holds.1 in
      let u = m.slot in
      let es = represented_pairs (whole h) rows u ps in
      let beneath : Option TypeDef → Slot → List (List ℕ) = λ c k. hamt_nodes h c (represented_pairs (whole h) rows k ps) ++ nodes_of_pairs h rows k ps in
      subst (λ c. All (option_map_or (beneath c) (element_of c) [])) (sym x.is)
      (subst (λ k. All (option_map_or (beneath (Some x.form)) k [])) (sym m.is)
      (all_append (BlockIn room) (hamt_nodes h (Some x.form) es) (nodes_of_pairs h rows u ps)
      (hamt_blocks x.form ps es x.holds.0 (λ ds e. pairs_in (whole h) rows (below o) (room - suc o) (good_part o) u ps ds m.each e))
      (of_pairs h rows room (below o) (later o) u ps m.each)))
  blocks_in s (V.struct os) f =
      let x = formed (FormFits rows room below (V.struct os)) (form_of rows s) f in
      let o = levels_of x.form (V.struct os) - 1 in
      subst (λ c. All (nodes_of_fields h rows (fields_of c) os)) (sym x.is)
      (of_fields h rows room (below o) (later o) (fields_of (Some x.form)) os (struct_fits (below o) rows x.form (optionals_list os) x.holds.1))
  blocks_in s (V.union i v) f =
      let x = formed (FormFits rows room below (V.union i v)) (form_of rows s) f in
      let o = levels_of x.form (V.union i v) - 1 in
      let z = union_fits (below o) rows x.form i v x.holds.1 in
      subst (λ k. All (option_map_or (λ u. nodes h rows u v) (option_map slot_of k) [])) (sym (ap (λ c. member_at c i) x.is ∙ z.is)) (later o (slot_of z.member) v z.holds)
  blocks_in s v f = tt

nodes_past : (h : List ℕ → List ℕ) (rows : List Row) → IsSpelled rows → (room over : ℕ) (s : Slot) (v : Value) → FitsPast rows room over s v → AllByRecursion (BlockIn room) (nodes h rows s v)
unfolding FitsPast
nodes_past h rows spelled zero zero s v f = blocks_in h rows zero (λ over u w. ⊥) (λ o u w d b e. absurd b) (λ o u w b. absurd b) s v f
nodes_past h rows spelled zero (suc over) s v f = absurd f
nodes_past h rows spelled (suc room) zero s v f =
    blocks_in h rows (suc room) (FitsPast rows room) (λ o u w d b e. let g = whole_past h rows spelled room o u w d b e in (g.0, omega (arith, g.1)))
    (λ o u w b. all_more (BlockIn room) (BlockIn (suc room)) (λ c x. block_more room (suc room) c (omega arith) x) (nodes h rows u w) (nodes_past h rows spelled room o u w b)) s v f
nodes_past h rows spelled (suc room) (suc over) s v f =
    all_more (BlockIn room) (BlockIn (suc room)) (λ c x. block_more room (suc room) c (omega arith) x) (nodes h rows s v) (nodes_past h rows spelled room over s v f)

-- all blocks of a value
pub blocks_nested : (h : List ℕ → List ℕ) (rows : List Row) → IsSpelled rows → (room : ℕ) (s : Slot) (v : Value) (d : Data) → Fits rows room s v → represented (whole h) rows s v ≡ Some d
    → AllByRecursion (BlockIn room) (spell d ∷ nodes h rows s v)
blocks_nested h rows spelled room s v d f e = (record { of = d; is = refl; fits = whole_tree h rows spelled room s v d f e }, nodes_past h rows spelled room zero s v f)

within_limits : (bs : List (List ℕ)) → AllByRecursion (BlockIn deepest) bs → AllByRecursion (λ b. length b ≤ longest_block) bs → AllByRecursion IsBlock bs
within_limits [] a b = tt
within_limits (c ∷ bs) a b =
    let size : length (spell a.0.of) ≤ longest_block = subst (λ x. length x ≤ longest_block) a.0.is b.0 in
    (record { of = a.0.of; is = a.0.is; within = record { tree = a.0.fits.tree; nested = a.0.fits.nested; sized = size } }, within_limits bs a.1 b.1)

-- all blocks of a value that a store can hold
pub blocks_within : (f : Frame) → IsFrame f → (h : List ℕ → List ℕ) (rows : List Row) → IsSpelled rows → (n : TypeNo) (v : Value) (d : Data)
    → Storable f h rows n v d → AllByRecursion IsBlock (blocks_of f h rows n v d)
blocks_within f frame h rows spelled n v d st =
    let s = plainly n in
    let own = blocks_nested h rows spelled f.room s v d st.fits st.tree in
    let root : BlockIn deepest (spell (f.wrap d)) = record { of = f.wrap d; is = refl; fits = frame.fits d (whole_tree h rows spelled f.room s v d st.fits st.tree) } in
    let nested = all_more (BlockIn f.room) (BlockIn deepest) (λ c x. block_more f.room deepest c frame.less x) (nodes h rows s v) own.1 in
    let sized = all_split (λ b. length b ≤ longest_block) (nodes h rows s v) f.beside st.sized.1 in
    let top = within_limits (spell (f.wrap d) ∷ []) (root, tt) (st.sized.0, tt) in
    (top.0, all_append IsBlock (nodes h rows s v) f.beside (within_limits (nodes h rows s v) nested sized.0) frame.blocks)
