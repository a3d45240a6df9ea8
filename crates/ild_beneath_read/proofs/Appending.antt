-- Children that are appended, part by part.
use Rattle.std.proofs.Common.{◌≡◌, ℕ, suc, ◌+◌, List, [], ◌∷◌, ◌++◌, append_assoc, append-nil, map, flat_map, Option, Some, None, option_map, Result, refl, sym, ap, ◌∙◌, subst, arith, length, drop, false, true, cond}
use Rattle.std.proofs.lemmas.Option.{none-some, same_Some}
use Rattle.std.proofs.lemmas.Bool.{false≢true, false_from_ne_true}
use Rattle.std.proofs.lemmas.List.{map-append}
use Rattle.std.specs.Option.{option_map_or}
use Rattle.ild_beneath.specs.Children.{Child, element_children, entry_children, found, kind_in, node_children}
use Rattle.ild_cbor.specs.Nodes.{HasData}
use Rattle.ild_cbor.specs.Steps.{FindsItems, HasItems, ItemsGive, items_of}
use Rattle.ild_cbor.specs.declared.items.Items.{Items}
use Rattle.ild_cbor.specs.declared.node.Node.{Node}
use Rattle.ild_data.specs.Data as T
use Rattle.ild_data.specs.Data.{Data}
use Rattle.ild_cbor.specs.Scalar.{link_of as link_found}
use Rattle.ild_cbor.specs.declared.piece.Piece.{Piece}
use Rattle.ild_data.specs.Spell.{cid_of}
use Rattle.ild_dirty.specs.Beneath.{child_seen}
use Rattle.ild_dirty.specs.declared.beneath.Child.{Child as Kept}
use Rattle.ild_layer_fields.proofs.Pairing.{item_step}
use Rattle.ild_layer_fields.specs.declared.fields.Fields.{Fields}
use Rattle.ild_layer_piece.specs.Entries.{HasLeft}
use Rattle.ild_layer_piece.specs.Pieces.{StandsFor}
use Rattle.ild_layer_piece.specs.declared.walk.MapEntries.{MapEntries}
use Rattle.ild_open_held.specs.Splits.{Part}
use Rattle.ild_schema.specs.declared.def.Field.{Field}
use Rattle.ild_schema.specs.declared.number.Slot.{Slot}
use Rattle.ild_schema.specs.declared.row.Row.{Row}
use Rattle.ild_typed.specs.Named.{pair_entries}
use Rattle.ild_typed.proofs.NodeElements.{block-link, id-read}
use Rattle.ild_typed.specs.NodeReading.{id_in, links_block, pair_in}
use Rattle.ild_beneath.specs.Parts.{named_parts}
use Rattle.ild_beneath.proofs.Nodes.{flat_append}
use Rattle.ild_beneath_read.specs.inside.Left.{IsLeft, OfFields, OfItems, SplitsOff, in_slot, value_parts}
use Rattle.ild_beneath_read.specs.inside.Opened.{IsElements, TellsParts}
use Rattle.ild_beneath_read.specs.inside.Pairs.{IsPairOf}
use Rattle.ild_beneath_read.specs.inside.Pushes.{Pushes, told}
use Rattle.ild_beneath_read.proofs.Looking.{named_is}
use Rattle.ild_beneath_read.specs.inside.Fields.{AllFound, looked_up}
use Rattle.ild_beneath_read.specs.declared.opened.Opened.TheVariants as O
use Rattle.ild_beneath_read.specs.declared.parts.Parts.{Parts}

-- nothing is appended
pub none_more : (old : List Kept) (cs : List Child) → cs ≡ [] → map child_seen old ≡ map child_seen old ++ cs
none_more old cs none = sym (ap (λ ds. map child_seen old ++ ds) none ∙ append-nil (map child_seen old))

pub pushes_same : {T E : Type 0} (r : Result T E) (old new : List Kept) (cs ds : List Child) → cs ≡ ds → Pushes r old new ds → Pushes r old new cs
pushes_same r old new cs ds same h = subst (Pushes r old new) (sym same) h

-- ---- parts, one after another

module _ (rows : List Row) (steps : ℕ) where
  pub record Going (old : List Kept) (ps : List Part) (left : Parts) (now : List Kept) : Type 0 where
    pub rest : List Part
    pub are : IsLeft left rest
    pub pushed : map child_seen now ++ flat_map (told rows steps) rest ≡ map child_seen old ++ flat_map (told rows steps) ps

  module _ (old : List Kept) (ps : List Part) (left behind : Parts) (now : List Kept) (h : Going old ps left now) where
    pub going_past : SplitsOff h.rest None behind → Going old ps behind now
    going_past x = record { rest = x.others; are = x.left; pushed = ap (λ qs. map child_seen now ++ flat_map (told rows steps) qs) (sym x.first) ∙ h.pushed }

    pub going_on : (u : Slot) (n : Node) (new : List Kept) → SplitsOff h.rest (Some (u, n)) behind → ((d : Data) → HasData n d → map child_seen new ≡ map child_seen now ++ found rows steps u d) → Going old ps behind new
    going_on u n new x pushes =
        let d : Data = x.first.0 in
        record {
          rest = x.others;
          are = x.left;
          pushed = ap (λ cs. cs ++ flat_map (told rows steps) x.others) (pushes d x.first.1) ∙ append_assoc (map child_seen now) (found rows steps u d) (flat_map (told rows steps) x.others)
              ∙ ap (λ qs. map child_seen now ++ flat_map (told rows steps) qs) (sym x.first.2) ∙ h.pushed;
        }

-- ---- elements of a node

module _ (f : Data → List Child) (kind : ℕ) where
  abbrev all_told : T.Items → List Child
  all_told ds = flat_map (element_children f kind) (T.items_list ds)

  pub record Walking (old : List Kept) (whole : List Child) (left : Items) (now : List Kept) : Type 0 where
    pub rest : T.Items
    pub are : HasItems left rest
    pub pushed : map child_seen now ++ all_told rest ≡ map child_seen old ++ whole

  module _ (old : List Kept) (whole : List Child) (left behind : Items) (now : List Kept) (h : Walking old whole left now) where
    pub walking_on : (n : Node) (new : List Kept) → ItemsGive left (Some n) behind → ((d : Data) → HasData n d → map child_seen new ≡ map child_seen now ++ element_children f kind d) → Walking old whole behind new
    walking_on n new gives pushes =
        let x = item_step left h.rest n behind gives h.are in
        record {
          rest = x.rest;
          are = x.left;
          pushed = ap (λ cs. cs ++ all_told x.rest) (pushes x.one x.stands) ∙ append_assoc (map child_seen now) (element_children f kind x.one) (all_told x.rest)
              ∙ ap (λ ds. map child_seen now ++ all_told ds) (sym x.is) ∙ h.pushed;
        }

-- ---- the elements that there are

elements_found : (d : Data) (a b : Node) (s : Items) → IsPairOf (pair_in d) (Some (a, b)) → ((e : Data) → HasData b e → FindsItems b (items_of e) (Some s)) → IsElements d (Some s)
elements_found (T.list T.no_items) a b s pair items = absurd pair
elements_found (T.list (T.item x T.no_items)) a b s pair items = absurd pair
elements_found (T.list (T.item x (T.item y T.no_items))) a b s pair items = by y (items y pair.1) where
  by : (y : Data) → FindsItems b (items_of y) (Some s) → IsElements (T.list (T.item x (T.item y T.no_items))) (Some s)
  by (T.list ds) h = (ds, h.left, λ f kind. refl)
  by y h = absurd h
elements_found (T.list (T.item x (T.item y (T.item z ds)))) a b s pair items = absurd pair
elements_found d a b s pair items = absurd pair

no_elements : (d : Data) (a b : Node) → IsPairOf (pair_in d) (Some (a, b)) → ((e : Data) → HasData b e → FindsItems b (items_of e) None) → IsElements d None
no_elements (T.list T.no_items) a b pair items = absurd pair
no_elements (T.list (T.item x T.no_items)) a b pair items = absurd pair
no_elements (T.list (T.item x (T.item y T.no_items))) a b pair items = by y (items y pair.1) where
  by : (y : Data) → FindsItems b (items_of y) None → IsElements (T.list (T.item x (T.item y T.no_items))) None
  by (T.list ds) h = absurd h
  by y h = λ f kind. refl
no_elements (T.list (T.item x (T.item y (T.item z ds)))) a b pair items = absurd pair
no_elements d a b pair items = absurd pair

pub elements_result : (d : Data) (a b : Node) (r : Option Items) → IsPairOf (pair_in d) (Some (a, b)) → ((e : Data) → HasData b e → FindsItems b (items_of e) r) → IsElements d r
elements_result d a b None pair items = no_elements d a b pair items
elements_result d a b (Some s) pair items = elements_found d a b s pair items

pub no_pair_elements : (d : Data) → IsPairOf (pair_in d) None → IsElements d None
no_pair_elements (T.list T.no_items) pair = λ f kind. refl
no_pair_elements (T.list (T.item x T.no_items)) pair = λ f kind. refl
no_pair_elements (T.list (T.item x (T.item y T.no_items))) pair = absurd pair
no_pair_elements (T.list (T.item x (T.item y (T.item z ds)))) pair = λ f kind. by f kind y where
  by : (f : Data → List Child) (kind : ℕ) (y : Data) → node_children f kind (T.list (T.item x (T.item y (T.item z ds)))) ≡ []
  by f kind (T.list es) = refl
  by f kind y = refl
no_pair_elements d pair = λ f kind. refl

-- ---- an element of a node

module _ (rows : List Row) (steps : ℕ) (u : Slot) where
  abbrev inner : Data → List Child
  inner = found rows steps u

  one_entry : (d : Data) → entry_children inner d ≡ flat_map (told rows steps) (in_slot u (option_map (λ p. p.1) (pair_in d)))
  one_entry (T.list T.no_items) = refl
  one_entry (T.list (T.item x T.no_items)) = refl
  one_entry (T.list (T.item x (T.item y T.no_items))) = sym (append-nil (inner y))
  one_entry (T.list (T.item x (T.item y (T.item z ds)))) = refl
  one_entry d = refl

  in_bucket : (ds : List Data) → flat_map (entry_children inner) ds ≡ flat_map (told rows steps) (value_parts u ds)
  in_bucket [] = refl
  in_bucket (d ∷ ds) =
      ap (λ cs. cs ++ flat_map (entry_children inner) ds) (one_entry d)
      ∙ ap (λ cs. flat_map (told rows steps) (in_slot u (option_map (λ p. p.1) (pair_in d))) ++ cs) (in_bucket ds)
      ∙ sym (flat_append (told rows steps) (in_slot u (option_map (λ p. p.1) (pair_in d))) (value_parts u ds))

  module _ (kind : ℕ) (n : Node) (d : Data) where
    pub link_told : (s : List ℕ) → Some s ≡ link_found d → element_children inner kind d ≡ element_children inner kind (T.link s)
    link_told s e = ap (element_children inner kind) (by d e) where
      by : (d : Data) → Some s ≡ link_found d → d ≡ T.link s
      by (T.link r) e = ap T.link (sym (same_Some s r e))
      by d e = absurd (none-some s (sym e))

    pub bucket_told : (x : Items) → FindsItems n (items_of d) (Some x) → (ps : List Part) × OfItems (value_parts u) x ps × (element_children inner kind d ≡ flat_map (told rows steps) ps)
    bucket_told x found = by d found where
      by : (d : Data) → FindsItems n (items_of d) (Some x) → (ps : List Part) × OfItems (value_parts u) x ps × (element_children inner kind d ≡ flat_map (told rows steps) ps)
      by (T.list ds) h = (value_parts u (T.items_list ds), record { items = ds; left = h.left; is = refl }, in_bucket (T.items_list ds))
      by d h = absurd h

-- ---- a link

-- where there is no block, there is no child
pub no_block : (f : Data → List Child) (kind : ℕ) (s : List ℕ) (old : List Kept) → ((id : List ℕ) → length id ≡ 32 → s ≡ cid_of id → false ≡ true)
    → map child_seen old ≡ map child_seen old ++ element_children f kind (T.link s)
no_block f kind s old only =
    let none : id_in s ≡ None = ap (λ b. cond b (Some (drop 4 s)) None) (false_from_ne_true (links_block s) (λ e. let parts = block-link s e in false≢true (only (drop 4 s) parts.1 parts.0))) in
    none_more old (element_children f kind (T.link s)) (ap (λ o. option_map_or (λ (id : List ℕ). (id, kind) ∷ []) o []) none)

pub block_told : (f : Data → List Child) (kind : ℕ) (s : List ℕ) (c : Kept) (old new : List Kept) → new ≡ old ++ c ∷ [] → c.kind ≡ kind → s ≡ cid_of c.id.0 → length c.id.0 ≡ 32
    → map child_seen new ≡ map child_seen old ++ element_children f kind (T.link s)
block_told f kind s c old new is same whole long =
    let there : id_in s ≡ Some c.id.0 = ap id_in whole ∙ id-read c.id.0 long in
    let one : element_children f kind (T.link s) ≡ child_seen c ∷ [] = ap (λ o. option_map_or (λ (id : List ℕ). (id, kind) ∷ []) o []) there ∙ ap (λ k. (c.id.0, k) ∷ []) (sym same) in
    ap (map child_seen) is ∙ map-append child_seen old (c ∷ []) ∙ ap (λ cs. map child_seen old ++ cs) (sym one)

-- ---- a piece in a slot

module _ (rows : List Row) (s : Slot) (t : Data) where
  pub no_steps : (steps : ℕ) → steps ≡ 0 → found rows steps s t ≡ []
  unfolding found
  no_steps steps none = ap (λ k. found rows k s t) none

  module _ (steps less : ℕ) (one : steps ≡ suc less) where
    stepped : found rows steps s t ≡ found rows (suc less) s t
    stepped = ap (λ k. found rows k s t) one

    pub nothing_slot : TellsParts rows s t O.Nothing → found rows steps s t ≡ []
    nothing_slot h = stepped ∙ h.2 less ∙ ap (flat_map (told rows less)) h.1

    pub parts_slot : (x : Parts) → TellsParts rows s t (O.Parts x) → (ps : List Part) × IsLeft x ps × (found rows steps s t ≡ flat_map (told rows less) ps)
    parts_slot x h = (h.0, h.1, stepped ∙ h.2 less)

    pub named_slot : (fs : Fields) (x : MapEntries) → TellsParts rows s t (O.Named fs x) → (es : List (List ℕ × Data)) × HasLeft x es × (found rows steps s t ≡ flat_map (told rows less) (named_parts fs.def.now.fields es))
    named_slot fs x h = (h.1.0, h.1.1, stepped ∙ h.2 less ∙ ap (flat_map (told rows less)) h.1.2)

    pub listed_slot : (fs : Fields) (x : Items) → TellsParts rows s t (O.Listed fs x)
        → (ds : T.Items) × HasItems x ds × (found rows steps s t ≡ flat_map (told rows less) (named_parts fs.def.now.fields (pair_entries (T.items_list ds))))
    listed_slot fs x h = (h.1.0, h.1.1, stepped ∙ h.2 less ∙ ap (flat_map (told rows less)) h.1.2)

    pub member_slot : (u : Slot) (p : Piece) → TellsParts rows s t (O.Member u p) → (d : Data) × StandsFor rows p d × (found rows steps s t ≡ found rows less u d)
    member_slot u p h = (h.1.0, h.1.1, stepped ∙ h.2 less ∙ ap (flat_map (told rows less)) h.1.2 ∙ append-nil (found rows less u h.1.0))

    pub root_slot : (u : Slot) (n : Node) (kind : ℕ) → kind ≡ s.ty.0 + 1 → TellsParts rows s t (O.Root u n) → (d : Data) × HasData n d × (found rows steps s t ≡ node_children (found rows less u) kind d)
    root_slot u n kind is h =
        let same : kind_in s ≡ kind = omega (arith, is) in
        (h.0, h.1, stepped ∙ h.2 less ∙ ap (λ k. node_children (found rows less u) k h.0) same)

-- ---- the fields of a struct

pub fields_are : (fs gs : List Field) (es : List (List ℕ × Data)) (ns ms : List (Option Node)) → gs ≡ fs → ms ≡ ns → AllFound (looked_up fs es) ns → OfFields gs ms (named_parts fs es)
fields_are fs gs es ns ms same also found =
    subst (λ hs. OfFields hs ms (named_parts fs es)) (sym same) (record { sought = looked_up fs es; found = subst (AllFound (looked_up fs es)) (sym also) found; is = named_is fs es })
