-- On the way of a path there are as many nodes of HAMTs in a value as in one that differs in links alone.
use Rattle.std.proofs.Common.{◌≡◌, ℕ, zero, suc, ◌+◌, cond, List, map, length, Option, Some, None, option_map, refl, ap, sym, ◌∙◌}
use Rattle.std.specs.Option.{option_map_or}
use Rattle.std.specs.Prelude.{is_some}
use Rattle.std.proofs.lemmas.List.{length-map}
use Rattle.std.proofs.lemmas.Option.{same_Some, none-some}
use Rattle.ild_data.specs.ByteOrder.{in_byte_order}
use Rattle.ild_data.specs.Data.{Data}
use Rattle.ild_data.specs.Trie.{at_depth, node_of, part, trie}
use Rattle.ild_data.specs.TrieShape.{trie_levels}
use Rattle.ild_data.specs.declared.hamt_shape.HamtShape.{HamtShape}
use Rattle.ild_data_alike.proofs.Entries.{order_alike, part_alike}
use Rattle.ild_data_alike.proofs.Tries.{here_alike, nodes_alike, tries_alike}
use Rattle.ild_data_alike.specs.Blank.{blank, blank_entries}
use Rattle.ild_hamt_trie.specs.Way.{way}
use Rattle.ild_path_inward.specs.Levels.{counts, met_on}
use Rattle.ild_schema.specs.Slots.{form_of}
use Rattle.ild_schema.specs.Value as V
use Rattle.ild_schema.specs.Value.{Value, Pairs}
use Rattle.ild_schema.specs.declared.def.MapForm.TheVariants as MF
use Rattle.ild_schema.specs.declared.def.TypeDef.{TypeDef}
use Rattle.ild_schema.specs.declared.def.TypeDef.TheVariants as D
use Rattle.ild_schema.specs.declared.number.Slot.{Slot}
use Rattle.ild_schema.specs.declared.row.Row.{Row}
use Rattle.ild_script_meaning.specs.Costs.{met_in, met_in_map, on_way}
use Rattle.ild_typed.specs.Hamt.{whole}
use Rattle.ild_typed.specs.Represented.{represented_pairs}
use Rattle.ild_typed_alike.proofs.Paths.{as_many}
use Rattle.ild_typed_alike.proofs.Values.{pairs_represented}
use Rattle.ild_typed_alike.specs.Blank.{blank_pairs, blank_value}

some_same : {X Y : Type 0} (f : X → Y) (o q : Option X) → option_map f o ≡ option_map f q → is_some o ≡ is_some q
some_same f None None same = refl
some_same f None (Some y) same = absurd (none-some (f y) same)
some_same f (Some x) None same = absurd (none-some (f x) (sym same))
some_same f (Some x) (Some y) same = refl

module _ (h : List ℕ → List ℕ) (p : HamtShape) (k : List ℕ) where
  way_alike : (left depth : ℕ) (es fs : List (List ℕ × Data)) → blank_entries es ≡ blank_entries fs → map length (way h p k left depth es) ≡ map length (way h p k left depth fs)
  unfolding way
  way_alike zero depth es fs same = refl
  way_alike (suc left) depth es fs same =
      here_alike h p (node_of h p left (depth + 1)) (way h p k left (depth + 1)) (nodes_alike h p left (depth + 1)) (way_alike left (depth + 1)) (part (at_depth h p depth) es (at_depth h p depth k)) (part (at_depth h p depth) fs (at_depth h p depth k))
      (part_alike (at_depth h p depth) es fs (at_depth h p depth k) same)

  abbrev many_on : List (List ℕ × Data) → ℕ
  many_on es = length (way h p k (trie_levels p) 0 (in_byte_order es))

  many_alike : (es fs : List (List ℕ × Data)) → blank_entries es ≡ blank_entries fs → many_on es ≡ many_on fs
  many_alike es fs same =
      let xs = way h p k (trie_levels p) 0 (in_byte_order es) in
      let ys = way h p k (trie_levels p) 0 (in_byte_order fs) in
      sym (length-map xs length) ∙ ap length (way_alike (trie_levels p) 0 (in_byte_order es) (in_byte_order fs) (order_alike es fs same)) ∙ length-map ys length

  on_alike : (es fs : List (List ℕ × Data)) → blank_entries es ≡ blank_entries fs → on_way h p k es ≡ on_way h p k fs
  on_alike es fs same =
      ap (λ b. cond b (many_on es) 0) (some_same blank (trie h p es 0) (trie h p fs 0) (tries_alike h p es fs same).root) ∙ ap (λ n. cond (is_some (trie h p fs 0)) n 0) (many_alike es fs same)

  over_options : (o q : Option (List (List ℕ × Data))) → option_map blank_entries o ≡ option_map blank_entries q → option_map_or (on_way h p k) o 0 ≡ option_map_or (on_way h p k) q 0
  over_options None None same = refl
  over_options None (Some fs) same = absurd (none-some (blank_entries fs) same)
  over_options (Some es) None same = absurd (none-some (blank_entries es) (sym same))
  over_options (Some es) (Some fs) same = on_alike es fs (same_Some (blank_entries es) (blank_entries fs) same)

module _ (h : List ℕ → List ℕ) (rows : List Row) where
  map_counts : (d : Option TypeDef) (ps : Pairs) (k : List ℕ) → met_in_map h rows d (blank_pairs ps) k ≡ met_in_map h rows d ps k
  map_counts None ps k = refl
  map_counts (Some D.Bool) ps k = refl
  map_counts (Some D.Text) ps k = refl
  map_counts (Some D.Bytes) ps k = refl
  map_counts (Some D.Int) ps k = refl
  map_counts (Some D.Any) ps k = refl
  map_counts (Some (D.Link target)) ps k = refl
  map_counts (Some (D.Unit form)) ps k = refl
  map_counts (Some (D.List elem at)) ps k = refl
  map_counts (Some (D.Map key key_at value at MF.Map)) ps k = refl
  map_counts (Some (D.Map key key_at value at MF.ListPairs)) ps k = refl
  map_counts (Some (D.Map key key_at value at (MF.StringPairs inner entry))) ps k = refl
  map_counts (Some (D.Map key key_at value at (MF.Hamt p))) ps k = over_options h p k (represented_pairs (whole h) rows value (blank_pairs ps)) (represented_pairs (whole h) rows value ps) (pairs_represented h rows value ps)
  map_counts (Some (D.Struct s)) ps k = refl
  map_counts (Some (D.Union u)) ps k = refl
  map_counts (Some (D.Enum e)) ps k = refl
  map_counts (Some (D.Copy target)) ps k = refl

  value_counts : (d : Option TypeDef) (v : Value) (k : List ℕ) → met_in h rows d (blank_value v) k ≡ met_in h rows d v k
  value_counts d V.null k = refl
  value_counts d (V.boolean b) k = refl
  value_counts d (V.integer n) k = refl
  value_counts d (V.text s) k = refl
  value_counts d (V.bytes s) k = refl
  value_counts d (V.link s) k = refl
  value_counts d (V.list vs) k = refl
  value_counts d (V.map ps) k = map_counts d ps k
  value_counts d (V.struct os) k = refl
  value_counts d (V.union n v) k = refl
  value_counts d (V.enum n) k = refl
  value_counts d V.unit k = refl
  value_counts d (V.any x) k = refl
  value_counts d (V.hamt x) k = refl

  pub met_alike : (s : Slot) (v w : Value) (path : List (List ℕ)) → blank_value v ≡ blank_value w → met_on h rows (s, v) path ≡ met_on h rows (s, w) path
  met_alike s v w path same = as_many rows (counts h rows) (λ p k. value_counts (form_of rows p.0) p.1 k) s v w path same
