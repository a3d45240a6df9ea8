-- What is found of a map as pairs in a list by itself.
use Rattle.std.proofs.Common.{◌≡◌, ℕ, zero, suc, ◌+◌, ◌<◌, ◌≤◌, List, map, cond, Some, None, refl, sym, ◌∙◌, ap, subst, arith, inl, inr}
use Rattle.std.specs.List.{list_any}
use Rattle.std.specs.Prelude.{◌⊎◌}
use Rattle.std.proofs.lemmas.Option.{same_Some}
use Rattle.ild_data.specs.Data as T
use Rattle.ild_data.specs.Data.{Data}
use Rattle.ild_data.proofs.Lists.{items_of-items_list}
use Rattle.ild_cbor.specs.declared.items.Items.{Items}
use Rattle.ild_cbor.specs.declared.why.Why.{Why}
use Rattle.ild_cbor.specs.declared.why.Why.TheVariants as Y
use Rattle.ild_cbor.specs.Steps.{HasItems}
use Rattle.ild_layer_piece.specs.Answers.{told}
use Rattle.ild_layer_piece.specs.Entries.{Lists}
use Rattle.ild_schema.specs.declared.def.MapForm.TheVariants as MF
use Rattle.ild_schema.specs.declared.def.TypeDef.TheVariants as D
use Rattle.ild_schema.specs.declared.number.Slot.{Slot}
use Rattle.ild_schema.specs.declared.number.TypeNo.{TypeNo}
use Rattle.ild_schema.specs.declared.row.Row.{Row}
use Rattle.ild_typed.specs.Causes.{why_of}
use Rattle.ild_typed.specs.Layer as L
use Rattle.ild_typed.specs.Layer.{as_map}
use Rattle.ild_typed.specs.Named.{items_in}
use Rattle.ild_typed.specs.Pieces.{IsWhy, keys_why}
use Rattle.ild_typed.specs.Spots.{entry_spots}
use Rattle.ild_typed.specs.Strings.{listpairs, pair_data}
use Rattle.ild_typed.specs.Why as W
use Rattle.ild_typed.specs.WhyLaws.{KeysRise}
use Rattle.ild_typed.proofs.Basics.{map_from}
use Rattle.ild_typed.proofs.CleanTypes.{layer_or_why}
use Rattle.ild_layer_parts.specs.declared.parts.Parts.TheVariants as P
use Rattle.ild_layer_pairs.specs.Judged.{IsJudged, is_miscounted}
use Rattle.ild_view_walk.specs.inside.Opens.{HasOpened}
use Rattle.ild_layer_parts.specs.PairEntries.{HasPairs}
use Rattle.ild_layer_parts.specs.declared.pair_entries.PairEntries.{PairEntries}
use Rattle.ild_layer_parts.proofs.Asking.{deep_at, keys_at, none_at, own_at}

pub no_pairs : (key : TypeNo) (key_at : ℕ) (value : Slot) (at : ℕ) (t : Data) → Lists (items_in t) None → why_of (D.Map key key_at value at MF.ListPairs) t ≡ Some W.Kind
no_pairs key key_at value at (T.list ds) h = absurd h
no_pairs key key_at value at t h = refl

record ListOf (t : Data) (s : Items) : Type 0 where
  items : T.Items
  is : t ≡ T.list items
  left : HasItems s (T.items_of (T.items_list items))

list_in : (t : Data) (s : Items) → Lists (items_in t) (Some s) → ListOf t s
list_in (T.list ds) s h = record { items = ds; is = refl; left = h }
list_in t s h = absurd h

module _ (room : ℕ) (key : TypeNo) (key_at : ℕ) (value : Slot) (at : ℕ) (t : Data) (s : Items) (lists : Lists (items_in t) (Some s)) where
  all : ListOf t s
  all = list_in t s lists

  listed : HasItems s all.items
  listed = subst (HasItems s) (items_of-items_list all.items) all.left

  pub pairs_refused : (why : Why) → ((ds : T.Items) → HasItems s ds → IsJudged (T.items_list ds) (Some why)) → IsWhy room (D.Map key key_at value at MF.ListPairs) t (told why)
  pairs_refused why judged = subst (λ u. IsWhy room (D.Map key key_at value at MF.ListPairs) u (told why)) (sym all.is) (by why (judged all.items listed)) where
    by : (w : Why) → IsJudged (T.items_list all.items) (Some w) → IsWhy room (D.Map key key_at value at MF.ListPairs) (T.list all.items) (told w)
    by Y.Kind h =
        inl (own_at room (D.Map key key_at value at MF.ListPairs) (T.list all.items) W.Kind
        (ap (λ b. cond b (Some W.Kind) (cond (list_any is_miscounted (T.items_list all.items)) (Some W.Count) None)) h))
    by Y.Count h =
        inl (own_at room (D.Map key key_at value at MF.ListPairs) (T.list all.items) W.Count
        (ap (λ b. cond b (Some W.Kind) (cond (list_any is_miscounted (T.items_list all.items)) (Some W.Count) None)) h.0 ∙ ap (λ b. cond b (Some W.Count) None) h.1))
    by Y.Repeat h =
        inl (keys_at room (D.Map key key_at value at MF.ListPairs) (T.list all.items) W.Repeat
        (ap (λ b. cond b (Some W.Kind) (cond (list_any is_miscounted (T.items_list all.items)) (Some W.Count) None)) h.0 ∙ ap (λ b. cond b (Some W.Count) None) h.1)
        (ap (λ b. cond b (Some W.Repeat) None) h.2))
    by w h = absurd h

  module _ (judged : (ds : T.Items) → HasItems s ds → IsJudged (T.items_list ds) None) where
    own : why_of (D.Map key key_at value at MF.ListPairs) t ≡ None
    own =
        let h = judged all.items listed in
        ap (why_of (D.Map key key_at value at MF.ListPairs)) all.is
        ∙ ap (λ b. cond b (Some W.Kind) (cond (list_any is_miscounted (T.items_list all.items)) (Some W.Count) None)) h.0 ∙ ap (λ b. cond b (Some W.Count) None) h.1

    no_keys : keys_why (D.Map key key_at value at MF.ListPairs) t ≡ None
    no_keys = ap (keys_why (D.Map key key_at value at MF.ListPairs)) all.is ∙ ap (λ b. cond b (Some W.Repeat) None) (judged all.items listed).2

    pub pairs_deep : room < 2 → IsWhy room (D.Map key key_at value at MF.ListPairs) t W.Depth
    pairs_deep less = inl (deep_at room (D.Map key key_at value at MF.ListPairs) t own no_keys less)

    pub pairs_open : (rows : List Row) (left : ℕ) → left + 2 ≡ room → (x : PairEntries) → ((es : List (List ℕ × Data)) → HasItems s (T.items_of (map pair_data es)) → HasPairs x (entry_spots MF.ListPairs key value 0 es))
        → HasOpened rows room (D.Map key key_at value at MF.ListPairs) t (record { parts = P.Pairs x; room = left })
    pairs_open rows left sum x has =
        let rise : KeysRise t = subst KeysRise (sym all.is) tt in
        let made_of = (layer_or_why (D.Map key key_at value at MF.ListPairs) tt tt t rise).0 own in
        let y = map_from listpairs (as_map made_of.0) t made_of.1 in
        let made : listpairs y.item ≡ t = same_Some (listpairs y.item) t y.made in
        let same : T.items_of (map pair_data y.item) ≡ all.items = list_same (T.items_of (map pair_data y.item)) all.items (made ∙ all.is) in
        record {
          none = none_at room (D.Map key key_at value at MF.ListPairs) t own no_keys (omega (arith, sum)) refl;
          spots = entry_spots MF.ListPairs key value 0 y.item;
          parts = (L.map y.item, y.made, refl);
          room_is = sum;
          left = has y.item (subst (HasItems s) (sym same) listed);
        }
      where
        list_same : (a b : T.Items) → T.list a ≡ T.list b → a ≡ b
        list_same a b e = cc

pub under_two : (room : ℕ) → (2 ≤ room → ⊥) → room < 2
under_two room h = by (under_or room) where
  under_or : (r : ℕ) → (r < 2) ⊎ (2 ≤ r)
  under_or zero = inl (omega arith)
  under_or (suc zero) = inl (omega arith)
  under_or (suc (suc r)) = inr (omega arith)

  by : (room < 2) ⊎ (2 ≤ room) → room < 2
  by (inl k) = k
  by (inr k) = absurd (h k)
