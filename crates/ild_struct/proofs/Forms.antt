-- The first cause of each form.
use Rattle.std.proofs.Common.{◌≡◌, ℕ, List, Bool, true, false, cond, not, ◌&&◌, Option, Some, None, refl, sym, ◌∙◌, ap, subst}
use Rattle.std.proofs.lemmas.Option.{same_Some, none-some}
use Rattle.std.specs.List.{list_any}
use Rattle.ild_data.specs.Data as T
use Rattle.ild_data.specs.Data.{Data}
use Rattle.ild_data.proofs.Lists.{items_of-items_list}
use Rattle.ild_cbor.specs.Steps.{HasItems}
use Rattle.ild_cbor.specs.declared.items.Items.{Items}
use Rattle.ild_layer_piece.specs.Entries.{Lists}
use Rattle.ild_schema.specs.Clear.{AreNamesApart}
use Rattle.ild_schema.specs.declared.def.Field.{Field}
use Rattle.ild_schema.specs.declared.def.StructForm.TheVariants as S
use Rattle.ild_typed.specs.Named.{names, has_twice, items_in, is_pair, is_two, pair_names, pair_entries}
use Rattle.ild_typed.specs.Strings.{members_in}
use Rattle.ild_typed.specs.StructWhy.{has_stranger, lacks_field, is_out_of_order, writes_implicit, misses_items}
use Rattle.ild_typed.specs.Why as W
use Rattle.ild_layer_fields.specs.Causes.{Noted, PairsNoted, struct_why, first_cause}
use Rattle.ild_layer_fields.specs.declared.notes.Notes.{Notes}

-- what the first cause of names with values is
abbrev pub Tells : List Field → Notes → Bool → Bool → Option W.Why → Type 0
Tells fs notes miscounted ordered why =
    AreNamesApart fs → (ks : List (List ℕ)) (es : List (List ℕ × Data)) → Noted fs ks es notes
    → why ≡ first_cause (has_stranger fs ks) (lacks_field fs ks) miscounted (ordered && is_out_of_order fs ks) (has_twice ks) (writes_implicit fs es)

-- ---- maps

abbrev pub map_cause : List Field → List (List ℕ × Data) → Option W.Why
map_cause fs es = first_cause (has_stranger fs (names es)) (lacks_field fs (names es)) false false (has_twice (names es)) (writes_implicit fs es)

pub map_why : (fs : List Field) (t : Data) (es : List (List ℕ × Data)) → members_in t ≡ Some es → struct_why S.Map fs t ≡ map_cause fs es
map_why fs (T.map ms) es is = ap (map_cause fs) (same_Some (T.members_list ms) es is)
map_why fs t es is = absurd (none-some es is)

pub map_kind : (fs : List Field) (t : Data) → members_in t ≡ None → struct_why S.Map fs t ≡ Some W.Kind
map_kind fs T.null is = refl
map_kind fs (T.boolean b) is = refl
map_kind fs (T.integer n) is = refl
map_kind fs (T.text s) is = refl
map_kind fs (T.bytes s) is = refl
map_kind fs (T.list ds) is = refl
map_kind fs (T.map ms) is = absurd (none-some (T.members_list ms) (sym is))
map_kind fs (T.link s) is = refl

-- ---- tuples

pub tuple_why : (fs : List Field) (t : Data) (ds : List Data) → items_in t ≡ Some ds → struct_why S.Tuple fs t ≡ cond (misses_items fs ds) (Some W.Count) None
tuple_why fs (T.list ds) es is = ap (λ xs. cond (misses_items fs xs) (Some W.Count) None) (same_Some (T.items_list ds) es is)
tuple_why fs t es is = absurd (none-some es is)

pub tuple_kind : (fs : List Field) (t : Data) → items_in t ≡ None → struct_why S.Tuple fs t ≡ Some W.Kind
tuple_kind fs T.null is = refl
tuple_kind fs (T.boolean b) is = refl
tuple_kind fs (T.integer n) is = refl
tuple_kind fs (T.text s) is = refl
tuple_kind fs (T.bytes s) is = refl
tuple_kind fs (T.list ds) is = absurd (none-some (T.items_list ds) (sym is))
tuple_kind fs (T.map ms) is = refl
tuple_kind fs (T.link s) is = refl

-- ---- pairs of a list

abbrev pub pairs_cause_even : List Field → List Data → Option W.Why
pairs_cause_even fs ds =
    first_cause (has_stranger fs (pair_names ds)) (lacks_field fs (pair_names ds)) (list_any (λ d. not (is_two d)) ds) (is_out_of_order fs (pair_names ds)) (has_twice (pair_names ds)) (writes_implicit fs (pair_entries ds))

abbrev pub pairs_cause : List Field → List Data → Option W.Why
pairs_cause fs ds = cond (list_any (λ d. not (is_pair d)) ds) (Some W.Kind) (pairs_cause_even fs ds)

pub pairs_why : (fs : List Field) (ds : T.Items) → struct_why S.ListPairs fs (T.list ds) ≡ pairs_cause fs (T.items_list ds)
pairs_why fs ds = refl

pub pairs_kind : (fs : List Field) (t : Data) → items_in t ≡ None → struct_why S.ListPairs fs t ≡ Some W.Kind
pairs_kind fs T.null is = refl
pairs_kind fs (T.boolean b) is = refl
pairs_kind fs (T.integer n) is = refl
pairs_kind fs (T.text s) is = refl
pairs_kind fs (T.bytes s) is = refl
pairs_kind fs (T.list ds) is = absurd (none-some (T.items_list ds) (sym is))
pairs_kind fs (T.map ms) is = refl
pairs_kind fs (T.link s) is = refl

-- an iterator over the items that there are
pub record ItemsOf (t : Data) (s : Items) : Type 0 where
  pub items : T.Items
  pub is : t ≡ T.list items
  pub left : HasItems s items

pub items_of_list : (t : Data) (s : Items) → Lists (items_in t) (Some s) → ItemsOf t s
items_of_list (T.list ds) s h = record { items = ds; is = refl; left = subst (λ (x : T.Items). HasItems s x) (items_of-items_list ds) h }
items_of_list t s h = absurd h

pub no_items : (t : Data) → Lists (items_in t) None → items_in t ≡ None
no_items (T.list ds) h = absurd h
no_items t h = refl

-- the first cause of pairs, and where they are looked up
pub pairs_odd : (fs : List Field) (t : Data) (s : Items) → Lists (items_in t) (Some s) → ((ds : T.Items) → HasItems s ds → PairsNoted fs (T.items_list ds) None) → struct_why S.ListPairs fs t ≡ Some W.Kind
pairs_odd fs t s list odd =
    let x = items_of_list t s list in
    ap (struct_why S.ListPairs fs) x.is ∙ pairs_why fs x.items ∙ ap (λ b. cond b (Some W.Kind) (pairs_cause_even fs (T.items_list x.items))) (odd x.items x.left)

pub pairs_even : (fs : List Field) (t : Data) (s : Items) (notes : Notes) (miscounted : Bool) → Lists (items_in t) (Some s) → ((ds : T.Items) → HasItems s ds → PairsNoted fs (T.items_list ds) (Some (notes, miscounted)))
    → (why : Option W.Why) → AreNamesApart fs → Tells fs notes miscounted true why
    → struct_why S.ListPairs fs t ≡ why
pairs_even fs t s notes miscounted list noted why apart told =
    let x = items_of_list t s list in
    let ds = T.items_list x.items in
    let n = noted x.items x.left in
    ap (struct_why S.ListPairs fs) x.is ∙ pairs_why fs x.items ∙ ap (λ b. cond b (Some W.Kind) (pairs_cause_even fs ds)) n.0
    ∙ ap (λ b. first_cause (has_stranger fs (pair_names ds)) (lacks_field fs (pair_names ds)) b (is_out_of_order fs (pair_names ds)) (has_twice (pair_names ds)) (writes_implicit fs (pair_entries ds))) (sym n.1)
    ∙ sym (told apart (pair_names ds) (pair_entries ds) n.2)
