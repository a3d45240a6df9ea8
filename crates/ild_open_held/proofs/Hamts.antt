-- What the root of a HAMT splits into: its entries, with the blocks of the nodes beneath it.
use Rattle.std.proofs.Common.{◌≡◌, ℕ, ◌+◌, ◌-◌, ◌≤◌, List, [], ◌∷◌, ◌++◌, length, length-append, cond, true, false, Option, Some, option_map, refl, sym, ◌∙◌, ap, subst, arith, inl}
use Rattle.std.specs.Prelude.{is_some, option_and_then}
use Rattle.std.specs.Option.{option_map_or}
use Rattle.std.specs.List.{AllByRecursion}
use Rattle.std.proofs.lemmas.Option.{same_Some}
use Rattle.ild_schema.proofs.Parts.{pairs_list-pairs_of}
use Rattle.ild_data.proofs.AllOf.{all_both, all_split, all_append}
use Rattle.ild_data.specs.Data as T
use Rattle.ild_data.specs.Data.{Data}
use Rattle.ild_data.specs.ByteOrder.{in_byte_order}
use Rattle.ild_data.specs.Key.{Rises}
use Rattle.ild_data.specs.Limits.{IsWithin, deepest, longest_block}
use Rattle.ild_data.specs.Spell.{spell}
use Rattle.ild_data.specs.Tree.{IsTree}
use Rattle.ild_data.specs.Trie.{trie}
use Rattle.ild_data.specs.TrieBlocks.{nodes_beneath}
use Rattle.ild_data.specs.TrieShape.{trie_levels}
use Rattle.ild_data.specs.declared.hamt_shape.HamtShape.{HamtShape}
use Rattle.ild_schema.specs.Spelled.{IsSpelled}
use Rattle.ild_schema.specs.declared.def.MapForm.TheVariants as MF
use Rattle.ild_schema.specs.declared.def.TypeDef.{TypeDef}
use Rattle.ild_schema.specs.declared.def.TypeDef.TheVariants as D
use Rattle.ild_schema.specs.declared.number.Slot.{Slot}
use Rattle.ild_schema.specs.declared.number.TypeNo.{TypeNo}
use Rattle.ild_schema.specs.declared.row.Row.{Row}
use Rattle.ild_schema.specs.Slots.{form_of}
use Rattle.ild_schema.specs.Value as V
use Rattle.ild_schema.specs.Value.{Value, Pairs, pairs_of, pairs_list}
use Rattle.ild_typed.specs.Blocks.{hamt_nodes, nodes, nodes_of_pairs}
use Rattle.ild_typed.specs.Composed.{Hamts, composed}
use Rattle.ild_typed.specs.Fits.{Fits}
use Rattle.ild_typed.specs.Hamt.{root_map, whole}
use Rattle.ild_typed.specs.Known as G
use Rattle.ild_typed.specs.Known.{HeldNode, Kept}
use Rattle.ild_typed.specs.Layer as L
use Rattle.ild_typed.specs.Layer.{Layer, as_map}
use Rattle.ild_typed.specs.Layers.{EntriesFit}
use Rattle.ild_typed.specs.Nested.{BlockIn}
use Rattle.ild_typed.specs.Pieces.{is_null_there}
use Rattle.ild_typed.specs.Represented.{layered, represented, represented_pairs}
use Rattle.ild_typed.specs.Slots.{element_of}
use Rattle.ild_typed.proofs.Basics.{map_from, then_from}
use Rattle.ild_typed.proofs.Entries.{both_from}
use Rattle.ild_typed.proofs.Onlies.{only_map}
use Rattle.ild_typed.proofs.OneValue.{Way, as_null, as_layer, way_of, layer_data, map_in, map_value}
use Rattle.ild_typed.proofs.PartData.{pairs_data}
use Rattle.ild_typed.proofs.TreeBlocks.{blocks_nested}
use Rattle.ild_typed.proofs.TreeKept.{kept_value}
use Rattle.ild_typed.proofs.TreeParts.{rises_pairs}
use Rattle.ild_typed.proofs.ViewMaps.{keys_like, map_fitted}
use Rattle.ild_typed.proofs.Wholes.{ids_tell, one_within, whole_exact}
use Rattle.ild_open_held.specs.Held.{IsHeld, IsHeldBlock}
use Rattle.ild_open_held.specs.Entries.{HamtsSplit, IsMapOf}
use Rattle.ild_open_held.specs.Splits.{PartsHaveValues, entry_parts, entry_values, nodes_in}
use Rattle.ild_open_held.proofs.Fitting.{fits_down, fits_up}
use Rattle.ild_open_held.proofs.Parting.{EntryFits, KeyFits, pairs_back, pairs_up}

-- the keys of the entries that values are, whatever stands for a HAMT
keys_of : (hamts : Hamts) (rows : List Row) (less : ℕ) (key : TypeNo) (u : Slot) (ps : Pairs) (es : List (List ℕ × Data)) → AllByRecursion (EntryFits (λ b. Some b) (λ k. k) rows less key u) (pairs_list ps)
    → represented_pairs hamts rows u ps ≡ Some es → AllByRecursion (KeyFits (λ b. Some b) (λ k. k) rows less key) es
keys_of hamts rows less key u V.no_pairs es fit e = subst (AllByRecursion (KeyFits (λ b. Some b) (λ k. k) rows less key)) (same_Some [] es e) tt
keys_of hamts rows less key u (V.pair k v ps) es fit e =
    let b = both_from (option_map {U = List ℕ × Data} (λ c. (k, c)) (represented hamts rows u v)) (represented_pairs hamts rows u ps) es e in
    let x = map_from {B = List ℕ × Data} (λ c. (k, c)) (represented hamts rows u v) b.item b.first in
    subst (AllByRecursion (KeyFits (λ b. Some b) (λ k. k) rows less key)) (ap (λ p. p ∷ b.items) (same_Some (k, x.item) b.item x.made) ∙ b.all)
    ((fit.0.0, fit.0.1), keys_of hamts rows less key u ps b.items fit.1 b.rest)

values_fit : (rows : List Row) (less : ℕ) (key : TypeNo) (value : Slot) (ps : List (List ℕ × Value)) → AllByRecursion (EntryFits (λ b. Some b) (λ k. k) rows less key value) ps → AllByRecursion (λ p. Fits rows less value p.1) ps
values_fit rows less key value [] all = tt
values_fit rows less key value (p ∷ ps) all = (all.0.2, values_fit rows less key value ps all.1)

pub node_within : (n : Data) → IsTree n → (room : ℕ) → room ≤ deepest → BlockIn room (spell n) → (block : List ℕ → Option (List ℕ)) → IsHeldBlock block (spell n) → IsWithin n
node_within n tree room le b block has =
    let own : IsWithin b.of = record { tree = b.fits.tree; nested = let x = b.fits.nested in omega (arith, x, le); sized = subst (λ (k : List ℕ). length k ≤ longest_block) b.is has.short } in
    subst IsWithin (one_within b.of n own tree (sym b.is)) own

module _ (block : List ℕ → Option (List ℕ)) (h : List ℕ → List ℕ) (p : HamtShape) (rows : List Row) (room less : ℕ) (s : Slot) (t : Data) (key : TypeNo) (key_at : ℕ) (value : Slot) (at : ℕ)
    (is : form_of rows s ≡ Some (D.Map key key_at value at (MF.Hamt p))) (left : room ≡ less + 5) where
  abbrev Own : TypeDef
  Own = D.Map key key_at value at (MF.Hamt p)

  abbrev Held : List ℕ → Type 0
  Held = IsHeldBlock block

  abbrev pub beneath : List (List ℕ × Data) → List (List ℕ)
  beneath fs = nodes_beneath h p (trie_levels p) 0 (in_byte_order fs)

  root_nodes : (ps : Pairs) (fs : List (List ℕ × Data)) (n : Data) → represented_pairs (whole h) rows value ps ≡ Some fs → trie h p fs 0 ≡ Some n → nodes h rows s (V.map ps) ≡ beneath fs ++ nodes_of_pairs h rows value ps
  root_nodes ps fs n e tree =
      ap (λ o. option_map_or (λ u. hamt_nodes h o (represented_pairs (whole h) rows u ps) ++ nodes_of_pairs h rows u ps) (element_of o) []) is
      ∙ ap (λ o. hamt_nodes h (Some Own) o ++ nodes_of_pairs h rows value ps) e
      ∙ ap (λ (o : Option Data). cond (is_some o) (beneath fs) [] ++ nodes_of_pairs h rows value ps) tree

  -- entries in the key order, with values
  pub hamt_up : (fs : List (List ℕ × Data)) (vs : List Value) → Rises fs → AllByRecursion (KeyFits (λ b. Some b) (λ k. k) rows less key) fs → whole h p (L.map fs) ≡ Some t → AllByRecursion Held (beneath fs)
      → PartsHaveValues block h rows less (entry_parts value fs) vs → IsHeld block h rows room s t (V.map (pairs_of (entry_values fs vs)))
  hamt_up fs vs rises keys made below all =
      let x = pairs_up block h rows less key value fs vs keys all in
      let ps = entry_values fs vs in
      let fit : EntriesFit (Fits rows less) rows key value (MF.Hamt p) ps = (keys_like (MF.Hamt p) fs ps x.same rises, x.fit) in
      let y = map_from (root_map p) (trie h p fs 0) t made in
      record {
        fits = fits_up rows room less s (V.map (pairs_of ps)) Own (L.map (pairs_list (pairs_of ps))) refl is (omega arith) left
            (inl (subst (EntriesFit (Fits rows less) rows key value (MF.Hamt p)) (sym (pairs_list-pairs_of ps)) fit));
        tree = ap (λ o. layered (whole h) o (option_map L.map (pairs_data (whole h) rows (element_of o) (pairs_of ps)))) is ∙ ap (λ o. option_and_then (composed (whole h) Own) (option_map L.map o)) x.there ∙ made;
        held = subst (AllByRecursion Held) (sym (root_nodes (pairs_of ps) fs y.item x.there y.there)) (all_append Held (beneath fs) (nodes_of_pairs h rows value (pairs_of ps)) below x.held);
      }

  -- and back
  pub record HamtParts (v : Value) : Type 0 where
    pub entries : List (List ℕ × Data)
    pub rises : Rises entries
    pub keys : AllByRecursion (KeyFits (λ b. Some b) (λ k. k) rows less key) entries
    pub made : whole h p (L.map entries) ≡ Some t
    pub below : AllByRecursion Held (beneath entries)
    pub values : List Value
    pub held : PartsHaveValues block h rows less (entry_parts value entries) values
    pub is_map : v ≡ V.map (pairs_of (entry_values entries values))
    pub many : length (nodes h rows s v) ≡ length (beneath entries) + nodes_in h rows (entry_parts value entries) values
    pub pairs : Pairs
    pub same : v ≡ V.map pairs
    pub there : represented_pairs (whole h) rows value pairs ≡ Some entries

  hamt_layer : (v : Value) → is_null_there s t ≡ false → represented (whole h) rows s v ≡ Some t → (l : Layer Data) × (layer_data (whole h) rows (Some Own) v ≡ Some l) × (whole h p l ≡ Some t)
  hamt_layer v some e = by (way_of (whole h) rows s v t e) where
    by : Way (whole h) rows s v t → (l : Layer Data) × (layer_data (whole h) rows (Some Own) v ≡ Some l) × (whole h p l ≡ Some t)
    by (as_null a n z) = let x : false ≡ true = sym some ∙ ap (is_null_there s) z ∙ n in absurd cc
    by (as_layer c m known there composes) =
        let same : c ≡ Own = same_Some c Own (sym known ∙ is) in
        (m, ap (λ k. layer_data (whole h) rows (Some k) v) (sym same) ∙ there, ap (λ k. composed (whole h) k m) (sym same) ∙ composes)

  pub hamt_parts : (v : Value) → is_null_there s t ≡ false → IsHeld block h rows room s t v → HamtParts v
  hamt_parts v some has =
      let y = hamt_layer v some has.tree in
      let z = map_from (root_map p) (option_and_then (λ es. trie h p es 0) (as_map y.0)) t y.2 in
      let w = then_from (λ es. trie h p es 0) (as_map y.0) z.item z.there in
      let fs = w.item in
      let layer : y.0 ≡ L.map fs = only_map y.0 fs w.there in
      let x = map_value (whole h) rows (Some Own) v fs (ap map_in (y.1 ∙ ap Some layer)) in
      let fit : EntriesFit (Fits rows less) rows key value (MF.Hamt p) (pairs_list x.items) = map_fitted rows (Fits rows less) key value (MF.Hamt p) (pairs_list x.items)
      (fits_down rows room less s (V.map x.items) Own (L.map (pairs_list x.items)) refl is (omega arith) left (subst (Fits rows room s) x.is has.fits)) in
      let own = root_nodes x.items fs z.item x.there w.made in
      let all = subst (AllByRecursion Held) own (subst (λ u. AllByRecursion Held (nodes h rows s u)) x.is has.held) in
      let both = all_split Held (beneath fs) (nodes_of_pairs h rows value x.items) all in
      let b = pairs_back block h rows less value x.items fs (values_fit rows less key value (pairs_list x.items) fit.1) x.there both.1 in
      record {
        entries = fs;
        rises = rises_pairs (whole h) rows value x.items fs fit.0 x.there;
        keys = keys_of (whole h) rows less key value x.items fs fit.1 x.there;
        made = sym (ap (whole h p) layer) ∙ y.2;
        below = both.0;
        values = b.values;
        held = b.held;
        is_map = x.is ∙ ap V.map b.made;
        many = ap (λ u. length (nodes h rows s u)) x.is ∙ ap length own ∙ length-append (beneath fs) (nodes_of_pairs h rows value x.items) ∙ ap (λ n. length (beneath fs) + n) b.many;
        pairs = x.items;
        same = x.is;
        there = x.there;
      }

  -- the nodes of such a value are known
  pub hamt_kept : IsSpelled rows → room ≤ deepest → (v : Value) (has : IsHeld block h rows room s t v) (x : HamtParts v) → Kept h (HeldNode block) p x.entries
  hamt_kept spelled le v has x =
      let nested = blocks_nested h rows spelled room s v t has.fits has.tree in
      let P : List ℕ → Type 0 = λ b. BlockIn room b × IsHeldBlock block b in
      let good = kept_value P (HeldNode block) (λ n tree b. record { within = node_within n tree room le b.0 block b.1; there = b.1.there }) h rows spelled room s v t has.fits has.tree
      (all_both (BlockIn room) (IsHeldBlock block) (nodes h rows s v) nested.1 has.held) in
      let map_good = subst (λ u. G.Good (whole h) (Kept h (HeldNode block)) rows s u) x.same good in
      map_good.0 Own value x.entries is refl x.there

  -- the entries of a trie whose nodes are held are those of the value
  pub hamt_same : IsSpelled rows → room ≤ deepest → (v : Value) (has : IsHeld block h rows room s t v) (x : HamtParts v) (fs : List (List ℕ × Data)) → Kept h (HeldNode block) p fs → whole h p (L.map fs) ≡ Some t → x.entries ≡ fs
  hamt_same spelled le v has x fs kept made =
      let same : L.map x.entries ≡ L.map fs = (whole_exact h (HeldNode block) (ids_tell block)).tells p (L.map x.entries) (L.map fs) t (hamt_kept spelled le v has x) kept x.made made in
      same_Some x.entries fs (ap as_map same)

pub hamts_split : HamtsSplit
hamts_split = λ block h rows schema room less le s t some p key key_at value at is left.
    let spelled = schema.table.texts.spelled in
    record {
      up = λ fs vs root keys all. hamt_up block h p rows room less s t key key_at value at is left fs vs root.kept.0 keys root.made root.below all;
      entries = λ v has.
          let x = hamt_parts block h p rows room less s t key key_at value at is left v some has in
          (x.entries, record { kept = hamt_kept block h p rows room less s t key key_at value at is left spelled le v has x; made = x.made; below = x.below });
      back = λ fs v root has.
          let x = hamt_parts block h p rows room less s t key key_at value at is left v some has in
          let same = hamt_same block h p rows room less s t key key_at value at is left spelled le v has x fs root.kept root.made in
          subst (λ es. IsMapOf block h p rows less s key value es v) same (record { keys = x.keys; values = x.values; held = x.held; made = x.is_map; many = x.many });
    }
