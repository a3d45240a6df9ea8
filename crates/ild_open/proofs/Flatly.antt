-- Data that are no list and no map have no HAMT in them.
use Rattle.std.proofs.Common.{◌≡◌, ℕ, zero, suc, ◌-◌, ◌<◌, List, [], ◌∷◌, ◌++◌, length, get_or, Option, Some, None, option_map, sym, subst, arith}
use Rattle.std.specs.Prelude.{IfSome, option_and_then, is_none, slice_get, cond}
use Rattle.std.specs.List.{AllByRecursion}
use Rattle.std.proofs.lemmas.Option.{same_Some, none-some}
use Rattle.ild_cbor.specs.declared.why.BlockWhy.{BlockWhy}
use Rattle.ild_data.proofs.AllOf.{all_contained, all_at}
use Rattle.ild_data.specs.Data as T
use Rattle.ild_data.specs.Data.{Data}
use Rattle.ild_data.specs.Key.{put, value_at}
use Rattle.ild_schema.specs.DataKinds.{same_kind}
use Rattle.ild_data.specs.Hex.{bytes_of_hex}
use Rattle.ild_schema.specs.Marks.{mark_text, mark_kind}
use Rattle.ild_schema.specs.declared.def.Field.{Field}
use Rattle.ild_schema.specs.declared.def.MapForm.{MapForm}
use Rattle.ild_schema.specs.declared.def.MapForm.TheVariants as MF
use Rattle.ild_schema.specs.declared.def.Member.{Member}
use Rattle.ild_schema.specs.declared.def.StructForm.{StructForm}
use Rattle.ild_schema.specs.declared.def.StructForm.TheVariants as S
use Rattle.ild_schema.specs.declared.def.TypeDef.{TypeDef}
use Rattle.ild_schema.specs.declared.def.TypeDef.TheVariants as D
use Rattle.ild_schema.specs.declared.def.UnionForm.{UnionForm}
use Rattle.ild_schema.specs.declared.def.UnionForm.TheVariants as UF
use Rattle.ild_schema.specs.declared.number.Slot.{Slot}
use Rattle.ild_schema.specs.declared.row.Row.{Row}
use Rattle.ild_typed.proofs.Basics.{map_from, then_from, true_from}
use Rattle.ild_typed.proofs.Flat.{FlatFields, FlatPairs, IsFlat, flat_text, stringpairs_flat, struct_join_flat, struct_pairs_flat}
use Rattle.ild_typed.specs.Composed.{composed, inlined, map_form, marked_form, member_form, struct_form}
use Rattle.ild_typed.specs.Fields.{field_entries, tuple_items}
use Rattle.ild_typed.specs.Hamt.{alone}
use Rattle.ild_typed.specs.Kinds.{kind_word_of}
use Rattle.ild_typed.specs.Layer as L
use Rattle.ild_typed.specs.Layer.{Layer}
use Rattle.ild_typed.specs.Pieces.{needs}
use Rattle.ild_typed.specs.Strings.{bytes_in, in_key_order, listpairs, map_data, members_in, text_in}
use Rattle.ild_open_parts.specs.Broken.{HasBrokenBlock, IsWrongIn}
use Rattle.ild_open_parts.specs.Sites.{HasSite, IsPartIn, Site}

is_flat : (d t : Data) → ◌≡◌ {A = Option Data} (Some d) (Some t) → IsFlat t → IsFlat d
is_flat d t e flat = subst IsFlat (sym (same_Some d t e)) flat

map_flat : (form : MapForm) (ps : List (List ℕ × Data)) (t : Data) → map_form alone form (L.map ps) ≡ Some t → IsFlat t → FlatPairs ps
map_flat MF.Map ps t e flat = absurd (is_flat (map_data ps) t e flat)
map_flat MF.ListPairs ps t e flat = absurd (is_flat (listpairs ps) t e flat)
map_flat (MF.StringPairs inner entry) ps t e flat = stringpairs_flat inner entry ps t e
map_flat (MF.Hamt p) ps t e flat = absurd (none-some t e)

struct_flat : (form : StructForm) (fs : List Field) (os : List (Option Data)) (t : Data) → struct_form form fs os ≡ Some t → IsFlat t → FlatFields os
struct_flat S.Map fs os t e flat = let x = map_from (λ es. map_data (in_key_order es)) (field_entries fs os) t e in absurd (is_flat (map_data (in_key_order x.item)) t x.made flat)
struct_flat S.Tuple fs os t e flat = let x = map_from (λ ds. T.list (T.items_of ds)) (tuple_items fs os) t e in absurd (is_flat (T.list (T.items_of x.item)) t x.made flat)
struct_flat S.ListPairs fs os t e flat = let x = map_from listpairs (field_entries fs os) t e in absurd (is_flat (listpairs x.item) t x.made flat)
struct_flat (S.StringPairs inner entry) fs os t e flat = struct_pairs_flat inner entry fs os t e
struct_flat (S.StringJoin delim) fs os t e flat = struct_join_flat delim fs os t e

flat_bytes : (d : Data) (s : List ℕ) → bytes_in d ≡ Some s → IsFlat d
flat_bytes (T.list ds) s e = none-some s e
flat_bytes (T.map ms) s e = none-some s e
flat_bytes d s e = tt

marked_flat : (form : UnionForm) (d : Data) (name : List ℕ) (t : Data) → marked_form form d name ≡ Some t → IsFlat t → IsFlat d
marked_flat UF.Keyed d name t e flat = absurd (is_flat (map_data ((name, d) ∷ [])) t e flat)
marked_flat UF.Kinded d name t e flat = absurd (none-some t e)
marked_flat UF.StringPrefix d name t e flat = let x = map_from (λ s. T.text (name ++ s)) (text_in d) t e in flat_text d x.item x.there
marked_flat UF.BytesPrefix d name t e flat =
    let x = then_from (λ front. option_map (λ s. T.bytes (front ++ s)) (bytes_in d)) (bytes_of_hex name) t e in
    let y = map_from (λ s. T.bytes (x.item ++ s)) (bytes_in d) t x.made in
    flat_bytes d y.item y.there
marked_flat (UF.Envelope key content) d name t e flat = absurd (is_flat (map_data (put key (T.text name) ((content, d) ∷ []))) t e flat)
marked_flat (UF.Inline key) d name t e flat =
    let x = then_from (inlined key name) (members_in d) t e in
    let y = true_from (is_none (value_at key x.item)) (map_data (put key (T.text name) x.item)) t x.made in
    absurd (subst IsFlat (sym y.1) flat)

-- by its mark, where the union isn't told apart by kinds
abbrev ByMark : UnionForm → Type 0
ByMark form = (d : Data) (m : Member) (t : Data) → option_and_then (marked_form form d) (mark_text m.mark) ≡ Some t → IsFlat t → IsFlat d

by_mark : (form : UnionForm) → ByMark form
by_mark form d m t e flat = let x = then_from (marked_form form d) (mark_text m.mark) t e in marked_flat form d x.item t x.made flat

member_flat : (form : UnionForm) (d : Data) (m : Member) (t : Data) → member_form form d m ≡ Some t → IsFlat t → IsFlat d
member_flat UF.Kinded d m t e flat =
    let x = then_from (λ k. cond (same_kind k (kind_word_of d)) (Some d) None) (mark_kind m.mark) t e in
    subst IsFlat (sym (true_from (same_kind x.item (kind_word_of d)) d t x.made).1) flat
member_flat UF.Keyed d m t e flat = by_mark UF.Keyed d m t e flat
member_flat UF.StringPrefix d m t e flat = by_mark UF.StringPrefix d m t e flat
member_flat UF.BytesPrefix d m t e flat = by_mark UF.BytesPrefix d m t e flat
member_flat (UF.Envelope key content) d m t e flat = by_mark (UF.Envelope key content) d m t e flat
member_flat (UF.Inline key) d m t e flat = by_mark (UF.Inline key) d m t e flat

has_at : {X : Type 0} (P : X → Type 0) (xs : List X) (i : ℕ) (x : X) → AllByRecursion P xs → i < length xs → get_or xs i x ≡ x → P x
has_at P [] i x all lt e = absurd (omega (arith, lt))
has_at P (y ∷ ys) zero x all lt e = subst P e all.0
has_at P (y ∷ ys) (suc i) x all lt e = has_at P ys i x all.1 (omega (arith, lt)) e

part_flat : (d : TypeDef) (l : Layer Data) (t : Data) (s : Slot) (x : Data) → composed alone d l ≡ Some t → IsFlat t → IsPartIn d l s x → IsFlat x
part_flat (D.List elem at) (L.list ds) t s x e flat p = absurd (is_flat (T.list (T.items_of ds)) t e flat)
part_flat (D.Map key key_at value at form) (L.map es) t s x e flat p = all_contained (λ (q : List ℕ × Data). IsFlat q.1) es (p.1, x) (map_flat form es t e flat) p.2
part_flat (D.Struct def) (L.struct os) t s x e flat p = all_at (λ o. IfSome o IsFlat) os p.0 (Some x) (struct_flat def.form def.fields os t e flat) p.3
part_flat (D.Union def) (L.union n y) t s x e flat p =
    let m = then_from (member_form def.form y) (slice_get def.members n) t e in
    subst IsFlat (sym p.3) (member_flat def.form y m.item t m.made flat)
part_flat d l t s x e flat p = absurd p

module _ (rows : List Row) (z : Site) where
  no_site : (steps room : ℕ) (s : Slot) (t : Data) → IsFlat t → HasSite rows steps room s t z → ⊥
  no_site zero room s t flat x = subst IsFlat x.root.tree flat
  no_site (suc steps) room s t flat x = no_site steps (room - needs x.type t) x.slot x.tree (part_flat x.type x.part.layer t x.slot x.tree x.part.made flat x.part.part) x.then

-- so nothing is wrong with a block of one
pub no_broken : (h : List ℕ → List ℕ) (rows : List Row) (told : Option (List (List ℕ))) (before now : ℕ) (at : List ℕ) (room : ℕ) (s : Slot) (t : Data) (id : List ℕ) (why : BlockWhy) → IsFlat t
    → HasBrokenBlock h rows told before now at room s t id why → ⊥
no_broken h rows told before now at room s t id why flat x = by x.deep x.wrong where
  by : (deep : ℕ) → IsWrongIn deep h rows told before now at room s t id why → ⊥
  by zero w = w
  by (suc deep) w = no_site rows w.site w.steps room s t flat w.has
