-- Parts that are passed over, since their kind alone tells that they are values.
use Rattle.std.proofs.Common.{◌≡◌, ◌<◌, ◌++◌, ℕ, ◌+◌, ◌-◌, ◌^◌, min, arith, length, List, [], ◌∷◌, map, Some, None, refl, sym, ◌∙◌, ap, subst}
use Rattle.std.specs.Borrow.{Bor}
use Rattle.ild_data.proofs.AllOf.{all_append}
use Rattle.ild_data.specs.Data as T
use Rattle.ild_data.specs.Data.{Data, Items, items_list, items_of}
use Rattle.ild_cbor.specs.Nodes.{HasData}
use Rattle.ild_cbor.specs.declared.items.Items.{Items as ItemsLeft}
use Rattle.ild_cbor.specs.declared.kind.Kind.{Kind}
use Rattle.ild_cbor.specs.declared.kind.Kind.TheVariants as K
use Rattle.ild_cbor.specs.declared.node.Node.{Node}
use Rattle.ild_cbor.specs.Scalar.{kind_of}
use Rattle.ild_cbor.specs.Steps.{HasItems, ItemsGive}
use Rattle.ild_layer_piece.specs.declared.walk.MapEntries.{MapEntries}
use Rattle.ild_layer_piece.specs.Entries.{EntriesGive, HasLeft}
use Rattle.ild_layer_piece.proofs.Walking.{first_left}
use Rattle.ild_schema.specs.Kinds.{meant}
use Rattle.ild_schema.specs.Legible.{IsLegible}
use Rattle.ild_schema.specs.Slots.{plainly}
use Rattle.ild_schema.specs.declared.def.MapForm.TheVariants as MF
use Rattle.ild_schema.specs.declared.def.TypeDef.{TypeDef}
use Rattle.ild_schema.specs.declared.number.Slot.{Slot}
use Rattle.ild_schema.specs.declared.row.Row.{Row}
use Rattle.ild_typed.specs.Schema.{IsSchema}
use Rattle.ild_typed.specs.Strings.{pair_data}
use Rattle.ild_typed.specs.Spots.{Spot, element_spots, entry_spots, key_spot, value_spot, item, key, under}
use Rattle.ild_layer_parts.specs.declared.entries.Entries.{Entries}
use Rattle.ild_layer_parts.specs.declared.pair_entries.PairEntries.{PairEntries}
use Rattle.ild_layer_parts.specs.declared.parts.Parts.{Parts}
use Rattle.ild_layer_pairs.specs.Apart.{IsNamed}
use Rattle.ild_layer_parts.specs.Elements.{HasElements}
use Rattle.ild_layer_parts.specs.Entries.{HasEntries, FirstIsHeld, held_count}
use Rattle.ild_layer_parts.specs.inside.Leaf.{FitsOfKind, IsBehindEntry, IsBehindItem, IsBehindPair, PassesOver}
use Rattle.ild_layer_parts.specs.PairEntries.{HasPairs, IsPairHeld}
use Rattle.ild_layer_parts.specs.Part.{FitsAnywhere}
use Rattle.ild_layer_parts.specs.Parts.{HasLeft as PartsLeft, SplitsOff}
use Rattle.ild_layer_fields.specs.Told.{scalar_kind}
use Rattle.ild_layer_parts.proofs.Scalars.{scalar_plain}
use Rattle.ild_layer_parts.proofs.Leading.{goes_up}
use Rattle.ild_layer_pairs.proofs.Judging.{pair_same}
use Rattle.ild_layer_parts.proofs.Showing.{plain_shows}

-- data of the kind of a type without parts
pub kind_fits : (rows : List Row) → IsSchema rows → IsLegible rows → (s : Slot) → s.ty.0 < length rows → (k : Kind) → ((d : TypeDef) → meant rows s.ty.0 ≡ Some d → scalar_kind d ≡ Some k) → FitsOfKind rows s k
kind_fits rows schema legible s low k tells = λ t kind tree room. plain_shows rows schema legible room s low t tree (λ d is. scalar_plain room d t k (tells d is) kind)

-- nothing is passed over
pub passes_none : (rows : List Row) (ps : List Spot) (Left : List Spot → Type 0) → Left ps → PassesOver rows ps Left
passes_none rows ps Left left = record { taken = []; others = ps; is = refl; fit = tt; left = left }

-- and then some more
pub passes_more : (rows : List Row) (ps : List Spot) (Front Left : List Spot → Type 0) → PassesOver rows ps Front → ((qs : List Spot) → Front qs → PassesOver rows qs Left) → PassesOver rows ps Left
passes_more rows ps Front Left x more =
    let y = more x.others x.left in
    record { taken = x.taken ++ y.taken; others = y.others; is = x.is ∙ ap (λ qs. x.taken ++ qs) y.is ∙ sym (joined x.taken y.taken y.others); fit = all_append (FitsAnywhere rows) x.taken y.taken x.fit y.fit; left = y.left }
  where
    joined : (xs ys zs : List Spot) → (xs ++ ys) ++ zs ≡ xs ++ (ys ++ zs)
    joined [] ys zs = refl
    joined (x ∷ xs) ys zs = ap (λ l. x ∷ l) (joined xs ys zs)

-- the parts that are left are told as parts of a piece
pub passed_off : (rows : List Row) (ps : List Spot) (parts : Parts) → PassesOver rows ps (PartsLeft rows parts) → SplitsOff rows ps None parts
passed_off rows ps parts x = record { taken = x.taken; others = x.others; is = x.is; first = x.fit; left = x.left }

-- ---- the items of a list

pub item_behind : (s : ItemsLeft) (n : Node) (t : ItemsLeft) (k : Kind) → ItemsGive s (Some n) t → ((d : Data) → HasData n d → kind_of d ≡ k) → (ds : Items) → HasItems s ds → IsBehindItem k ds t
item_behind s n t k gives kind T.no_items h = absurd (gives T.no_items h)
item_behind s n t k gives kind (T.item d ds) h = let x = gives (T.item d ds) h in record { first = d; rest = ds; is = refl; kind = kind d x.stands; left = x.left }

pub element_passes : (rows : List Row) (slot : Slot) (k : Kind) → FitsOfKind rows slot k → (s t : ItemsLeft) (at next : ℕ) → next ≡ min (at + 1) (2 ^ 64 - 1) → ((ds : Items) → HasItems s ds → IsBehindItem k ds t) → (ps : List Spot)
    → HasElements (record { slot = slot; items = s; place = at }) ps → PassesOver rows ps (HasElements (record { slot = slot; items = t; place = next }))
element_passes rows slot k fits s t at next up behind ps h =
    let x = behind h.items h.left in
    let long = ap (λ ds. length (items_list ds)) x.is in
    let few = h.few in
    let here : next ≡ at + 1 = goes_up at next (omega (arith, few, long)) up in
    record {
      taken = value_spot slot x.first (item at ∷ []) ∷ [];
      others = element_spots slot (at + 1) (items_list x.rest);
      is = h.is ∙ ap (λ ds. element_spots slot at (items_list ds)) x.is;
      fit = ((λ tree room. fits x.first x.kind tree room), tt);
      left = subst (λ n. HasElements (record { slot = slot; items = t; place = n }) (element_spots slot (at + 1) (items_list x.rest))) (sym here) (record { items = x.rest; left = x.left; few = omega (arith, few, long); is = refl });
    }

-- ---- the entries of a map

pub entry_behind : (s : MapEntries) (x : Bor (List ℕ) × Node) (t : MapEntries) (k : Kind) → EntriesGive s (Some x) t → ((d : Data) → HasData x.1 d → kind_of d ≡ k) → (es : List (List ℕ × Data)) → HasLeft s es
    → IsBehindEntry k es t
entry_behind s x t k gives kind es h =
    let f = first_left s t x es gives h in
    record { key = x.0.now; first = f.value; rest = f.rest; is = f.is; kind = kind f.value f.stands; left = f.left }

abbrev pub Open : Entries → MapEntries → Entries
Open s left = record { key = s.key; value = s.value; left = left; held = None }

pub entries_begin : (s : Entries) (ps : List Spot) → s.held ≡ None → HasEntries s ps → HasEntries (Open s s.left) ps
entries_begin s ps free h =
    record { entries = h.entries; left = h.left; at = h.at; is = subst (λ o. FirstIsHeld s o (entry_spots MF.Map s.key s.value h.at h.entries) ps) free h.is }

pub entry_passes : (rows : List Row) (s : Entries) (k : Kind) → FitsOfKind rows (plainly s.key) K.Text → FitsOfKind rows s.value k → (left t : MapEntries)
    → ((es : List (List ℕ × Data)) → HasLeft left es → IsBehindEntry k es t) → (ps : List Spot) → HasEntries (Open s left) ps → PassesOver rows ps (HasEntries (Open s t))
entry_passes rows s k keys fits left t behind ps h =
    let x = behind h.entries h.left in
    record {
      taken = key_spot s.key x.key (key x.key ∷ []) ∷ value_spot s.value x.first (under x.key ∷ []) ∷ [];
      others = entry_spots MF.Map s.key s.value (h.at + 1) x.rest;
      is = h.is ∙ ap (entry_spots MF.Map s.key s.value h.at) x.is;
      fit = ((λ tree room. keys (T.text x.key) refl tree room), ((λ tree room. fits x.first x.kind tree room), tt));
      left = record { entries = x.rest; left = x.left; at = h.at + 1; is = refl };
    }

-- ---- the pairs of a list

pub pair_behind : (s : ItemsLeft) (name : List ℕ) (v : Node) (t : ItemsLeft) (k : Kind) → ((ds : Items) → HasItems s ds → IsNamed ds name v t) → ((d : Data) → HasData v d → kind_of d ≡ k)
    → (es : List (List ℕ × Data)) → HasItems s (items_of (map pair_data es)) → IsBehindPair k es t
pair_behind s name v t k named kind [] h = let is = (named T.no_items h).is in absurd cc
pair_behind s name v t k named kind (e ∷ es) h =
    let x = named (T.item (pair_data e) (items_of (map pair_data es))) h in
    let both = item_same (pair_data e) (pair_data (name, x.first)) (items_of (map pair_data es)) x.rest x.is in
    record {
      key = e.0;
      first = e.1;
      rest = es;
      is = refl;
      kind = kind e.1 (subst (HasData v) (sym (pair_same e (name, x.first) both.0).1) x.stands);
      left = subst (HasItems t) (sym both.1) x.left;
    }
  where
    item_same : (d f : Data) (ds fs : Items) → T.item d ds ≡ T.item f fs → (d ≡ f) × (ds ≡ fs)
    item_same d f ds fs is = (cc, cc)

abbrev pub From : PairEntries → ItemsLeft → ℕ → PairEntries
From s left place = record { key = s.key; value = s.value; items = left; place = place; held = None }

pub pairs_begin : (s : PairEntries) (ps : List Spot) → s.held ≡ None → HasPairs s ps → HasPairs (From s s.items s.place) ps
pairs_begin s ps free h =
    let none : held_count s.held ≡ 0 = ap held_count free in
    let few = h.few in
    record { entries = h.entries; left = h.left; few = omega (arith, few, none); is = subst (λ o. IsPairHeld s o h.entries ps) free h.is }

pub pair_passes : (rows : List Row) (s : PairEntries) (k : Kind) → FitsOfKind rows (plainly s.key) K.Text → FitsOfKind rows s.value k → (left t : ItemsLeft) (at next : ℕ) → next ≡ min (at + 1) (2 ^ 64 - 1)
    → ((es : List (List ℕ × Data)) → HasItems left (items_of (map pair_data es)) → IsBehindPair k es t) → (ps : List Spot) → HasPairs (From s left at) ps → PassesOver rows ps (HasPairs (From s t next))
pair_passes rows s k keys fits left t at next up behind ps h =
    let x = behind h.entries h.left in
    let long = ap (λ (es : List (List ℕ × Data)). length es) x.is in
    let few = h.few in
    let here : next ≡ at + 1 = goes_up at next (omega (arith, few, long)) up in
    record {
      taken = key_spot s.key x.key (item at ∷ item 0 ∷ []) ∷ value_spot s.value x.first (item at ∷ item 1 ∷ []) ∷ [];
      others = entry_spots MF.ListPairs s.key s.value (at + 1) x.rest;
      is = h.is ∙ ap (entry_spots MF.ListPairs s.key s.value at) x.is;
      fit = ((λ tree room. keys (T.text x.key) refl tree room), ((λ tree room. fits x.first x.kind tree room), tt));
      left = subst (λ n. HasPairs (From s t n) (entry_spots MF.ListPairs s.key s.value (at + 1) x.rest)) (sym here) (record { entries = x.rest; left = x.left; few = omega (arith, few, long); is = refl });
    }
