-- The nodes of alike values are as many, each as long.
use Rattle.std.proofs.Common.{◌≡◌, ℕ, Bool, true, false, cond, List, [], ◌∷◌, ◌++◌, map, length, Option, Some, None, option_map, is_some, refl, sym, ap, ◌∙◌}
use Rattle.std.specs.Option.{option_map_or}
use Rattle.std.proofs.lemmas.List.{map-append}
use Rattle.std.proofs.lemmas.Option.{same_Some, none-some}
use Rattle.ild_data.specs.ByteOrder.{in_byte_order}
use Rattle.ild_data.specs.Data.{Data}
use Rattle.ild_data.specs.Trie.{trie}
use Rattle.ild_data.specs.TrieBlocks.{nodes_beneath}
use Rattle.ild_data.specs.TrieShape.{trie_levels}
use Rattle.ild_data.specs.declared.hamt_shape.HamtShape.{HamtShape}
use Rattle.ild_data_alike.proofs.Lengths.{as_long as spelled_as_long}
use Rattle.ild_data_alike.proofs.Tries.{tries_alike}
use Rattle.ild_data_alike.specs.Blank.{blank, blank_entries}
use Rattle.ild_schema.specs.Slots.{form_of}
use Rattle.ild_schema.specs.Value as V
use Rattle.ild_schema.specs.Value.{Value, Values, Pairs, Optionals}
use Rattle.ild_schema.specs.declared.def.Field.{Field}
use Rattle.ild_schema.specs.declared.def.MapForm.TheVariants as MF
use Rattle.ild_schema.specs.declared.def.TypeDef.{TypeDef}
use Rattle.ild_schema.specs.declared.def.TypeDef.TheVariants as D
use Rattle.ild_schema.specs.declared.number.Slot.{Slot}
use Rattle.ild_schema.specs.declared.row.Row.{Row}
use Rattle.ild_typed.specs.Blocks.{hamt_nodes, nodes, nodes_of_values, nodes_of_pairs, nodes_of_fields}
use Rattle.ild_typed.specs.Hamt.{whole}
use Rattle.ild_typed.specs.Represented.{represented, represented_pairs}
use Rattle.ild_typed.specs.Slots.{element_of, fields_of, member_of}
use Rattle.ild_typed_alike.proofs.Values.{alike_represented, pairs_represented}
use Rattle.ild_typed_alike.specs.Blank.{blank_value, blank_values, blank_pairs, blank_optionals}
use Rattle.ild_typed_alike.specs.Laws.{IsAsLong}

abbrev Entries : Type 0
Entries = List (List ℕ × Data)

some_alike : (o q : Option Data) → option_map blank o ≡ option_map blank q → is_some o ≡ is_some q
some_alike None None same = refl
some_alike None (Some e) same = absurd (none-some (blank e) same)
some_alike (Some d) None same = absurd (none-some (blank d) (sym same))
some_alike (Some d) (Some e) same = refl

more_alike : (a b c d : List (List ℕ)) → map length a ≡ map length c → map length b ≡ map length d → map length (a ++ b) ≡ map length (c ++ d)
more_alike a b c d x y = map-append length a b ∙ ap (λ ns. ns ++ map length b) x ∙ ap (λ ns. map length c ++ ns) y ∙ sym (map-append length c d)

module _ (h : List ℕ → List ℕ) where
  cond_alike : (b : Bool) (xs ys : List (List ℕ)) → map length xs ≡ map length ys → map length (cond b xs []) ≡ map length (cond b ys [])
  cond_alike true xs ys same = same
  cond_alike false xs ys same = refl

  shaped_alike : (p : HamtShape) (es fs : Entries) → blank_entries es ≡ blank_entries fs
      → map length (cond (is_some (trie h p es 0)) (nodes_beneath h p (trie_levels p) 0 (in_byte_order es)) []) ≡ map length (cond (is_some (trie h p fs 0)) (nodes_beneath h p (trie_levels p) 0 (in_byte_order fs)) [])
  shaped_alike p es fs same =
      let a = tries_alike h p es fs same in
      cond_alike (is_some (trie h p es 0)) (nodes_beneath h p (trie_levels p) 0 (in_byte_order es)) (nodes_beneath h p (trie_levels p) 0 (in_byte_order fs)) a.nodes
      ∙ ap (λ b. map length (cond b (nodes_beneath h p (trie_levels p) 0 (in_byte_order fs)) [])) (some_alike (trie h p es 0) (trie h p fs 0) a.root)

  -- no type but a HAMT has any
  none_in : (d : TypeDef) → ((o : Option Entries) → hamt_nodes h (Some d) o ≡ []) → (o q : Option Entries) → map length (hamt_nodes h (Some d) o) ≡ map length (hamt_nodes h (Some d) q)
  none_in d none o q = ap (map length) (none o ∙ sym (none q))

  hamts_alike : (d : Option TypeDef) (o q : Option Entries) → option_map blank_entries o ≡ option_map blank_entries q → map length (hamt_nodes h d o) ≡ map length (hamt_nodes h d q)
  hamts_alike (Some (D.Map key key_at value at (MF.Hamt p))) None None same = refl
  hamts_alike (Some (D.Map key key_at value at (MF.Hamt p))) None (Some fs) same = absurd (none-some (blank_entries fs) same)
  hamts_alike (Some (D.Map key key_at value at (MF.Hamt p))) (Some es) None same = absurd (none-some (blank_entries es) (sym same))
  hamts_alike (Some (D.Map key key_at value at (MF.Hamt p))) (Some es) (Some fs) same = shaped_alike p es fs (same_Some (blank_entries es) (blank_entries fs) same)
  hamts_alike (Some (D.Map key key_at value at MF.Map)) o q same = refl
  hamts_alike (Some (D.Map key key_at value at MF.ListPairs)) o q same = refl
  hamts_alike (Some (D.Map key key_at value at (MF.StringPairs inner entry))) o q same = refl
  hamts_alike None o q same = refl
  hamts_alike (Some D.Bool) o q same = refl
  hamts_alike (Some D.Text) o q same = refl
  hamts_alike (Some D.Bytes) o q same = refl
  hamts_alike (Some D.Int) o q same = refl
  hamts_alike (Some D.Any) o q same = refl
  hamts_alike (Some (D.Link target)) o q same = refl
  hamts_alike (Some (D.Unit form)) o q same = refl
  hamts_alike (Some (D.List elem at)) o q same = refl
  hamts_alike (Some (D.Struct s)) o q same = refl
  hamts_alike (Some (D.Union u)) o q same = refl
  hamts_alike (Some (D.Enum e)) o q same = refl
  hamts_alike (Some (D.Copy target)) o q same = refl

  module _ (rows : List Row) where
    at_slot : (F G : Slot → List (List ℕ)) (o : Option Slot) → ((s : Slot) → map length (F s) ≡ map length (G s)) → map length (option_map_or F o []) ≡ map length (option_map_or G o [])
    at_slot F G None each = refl
    at_slot F G (Some s) each = each s

    mutual
      blank_nodes : (s : Slot) (v : Value) → map length (nodes h rows s (blank_value v)) ≡ map length (nodes h rows s v)
      blank_nodes s V.null = refl
      blank_nodes s (V.boolean b) = refl
      blank_nodes s (V.integer n) = refl
      blank_nodes s (V.text t) = refl
      blank_nodes s (V.bytes t) = refl
      blank_nodes s (V.link t) = refl
      blank_nodes s (V.any d) = refl
      blank_nodes s V.unit = refl
      blank_nodes s (V.enum n) = refl
      blank_nodes s (V.hamt d) = refl
      blank_nodes s (V.list vs) = at_slot (λ u. nodes_of_values h rows u (blank_values vs)) (λ u. nodes_of_values h rows u vs) (element_of (form_of rows s)) (λ u. values_nodes u vs)
      blank_nodes s (V.map ps) =
          at_slot (λ u. hamt_nodes h (form_of rows s) (represented_pairs (whole h) rows u (blank_pairs ps)) ++ nodes_of_pairs h rows u (blank_pairs ps)) (λ u. hamt_nodes h (form_of rows s) (represented_pairs (whole h) rows u ps) ++ nodes_of_pairs h rows u ps)
          (element_of (form_of rows s))
          (λ u. more_alike (hamt_nodes h (form_of rows s) (represented_pairs (whole h) rows u (blank_pairs ps))) (nodes_of_pairs h rows u (blank_pairs ps)) (hamt_nodes h (form_of rows s) (represented_pairs (whole h) rows u ps)) (nodes_of_pairs h rows u ps)
          (hamts_alike (form_of rows s) (represented_pairs (whole h) rows u (blank_pairs ps)) (represented_pairs (whole h) rows u ps) (pairs_represented h rows u ps)) (pairs_nodes u ps))
      blank_nodes s (V.struct os) = fields_nodes (fields_of (form_of rows s)) os
      blank_nodes s (V.union n v) = at_slot (λ u. nodes h rows u (blank_value v)) (λ u. nodes h rows u v) (member_of (form_of rows s) n) (λ u. blank_nodes u v)

      values_nodes : (s : Slot) (vs : Values) → map length (nodes_of_values h rows s (blank_values vs)) ≡ map length (nodes_of_values h rows s vs)
      values_nodes s V.no_values = refl
      values_nodes s (V.value v vs) = more_alike (nodes h rows s (blank_value v)) (nodes_of_values h rows s (blank_values vs)) (nodes h rows s v) (nodes_of_values h rows s vs) (blank_nodes s v) (values_nodes s vs)

      pairs_nodes : (s : Slot) (ps : Pairs) → map length (nodes_of_pairs h rows s (blank_pairs ps)) ≡ map length (nodes_of_pairs h rows s ps)
      pairs_nodes s V.no_pairs = refl
      pairs_nodes s (V.pair k v ps) = more_alike (nodes h rows s (blank_value v)) (nodes_of_pairs h rows s (blank_pairs ps)) (nodes h rows s v) (nodes_of_pairs h rows s ps) (blank_nodes s v) (pairs_nodes s ps)

      fields_nodes : (fs : List Field) (os : Optionals) → map length (nodes_of_fields h rows fs (blank_optionals os)) ≡ map length (nodes_of_fields h rows fs os)
      fields_nodes fs V.no_optionals = refl
      fields_nodes [] (V.absent os) = refl
      fields_nodes [] (V.present v os) = refl
      fields_nodes (f ∷ fs) (V.absent os) = fields_nodes fs os
      fields_nodes (f ∷ fs) (V.present v os) =
          more_alike (nodes h rows f.slot (blank_value v)) (nodes_of_fields h rows fs (blank_optionals os)) (nodes h rows f.slot v) (nodes_of_fields h rows fs os) (blank_nodes f.slot v) (fields_nodes fs os)

    nodes_alike : (s : Slot) (v w : Value) → blank_value v ≡ blank_value w → map length (nodes h rows s w) ≡ map length (nodes h rows s v)
    nodes_alike s v w same = sym (blank_nodes s w) ∙ ap (λ x. map length (nodes h rows s x)) (sym same) ∙ blank_nodes s v

    tree_by : (s : Slot) (v w : Value) (t : Data) (o : Option Data) → represented (whole h) rows s w ≡ o → Some (blank t) ≡ option_map blank o → map length (nodes h rows s w) ≡ map length (nodes h rows s v) → IsAsLong h rows s v w t
    tree_by s v w t None is same as_many = absurd (none-some (blank t) (sym same))
    tree_by s v w t (Some u) is same as_many = record { tree = u; is = is; long = spelled_as_long u t (sym (same_Some (blank t) (blank u) same)); nodes = as_many }

    pub all_as_long : (s : Slot) (v w : Value) (t : Data) → blank_value v ≡ blank_value w → represented (whole h) rows s v ≡ Some t → IsAsLong h rows s v w t
    all_as_long s v w t same is = tree_by s v w t (represented (whole h) rows s w) refl (ap (option_map blank) (sym is) ∙ alike_represented h rows s v w same) (nodes_alike s v w same)

pub as_long : (h : List ℕ → List ℕ) (rows : List Row) (s : Slot) (v w : Value) (t : Data) → blank_value v ≡ blank_value w → represented (whole h) rows s v ≡ Some t → IsAsLong h rows s v w t
as_long h rows s v w t same is = all_as_long h rows s v w t same is
