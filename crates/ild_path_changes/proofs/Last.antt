-- The last holder, where a part comes or goes: one change of its data.
use Rattle.std.proofs.Common.{cond, ◌≡◌, ℕ, zero, suc, List, [], ◌∷◌, insert, Bool, true, false, Option, Some, None, refl, ap, sym, subst, ◌∙◌}
use Rattle.std.specs.Prelude.{option_map, option_and_then, remove}
use Rattle.std.proofs.lemmas.Option.{same_Some, none-some}
use Rattle.ild_data.specs.Data.{Data}
use Rattle.ild_data.specs.Key.{same_text, value_at, without, Rises}
use Rattle.ild_data.proofs.Lists.{items_list-items_of}
use Rattle.ild_data.proofs.Rising.{rises_without}
use Rattle.ild_schema.specs.declared.def.Field.{Field}
use Rattle.ild_schema.specs.declared.number.Slot.{Slot}
use Rattle.ild_schema.specs.Value.{Value}
use Rattle.ild_splice_changes.specs.TreeChange.{insert_item, remove_item, one, applied}
use Rattle.ild_typed.specs.Strings.{map_data, listpairs as pairs_data, cons_both}
use Rattle.ild_splice_changes.proofs.Shapes.{list_data, one_key}
use Rattle.ild_splice_changes.specs.Differences.{at_key}
use Rattle.ild_path_changes.specs.Pairs.{at_pair}
use Rattle.ild_splice_changes.proofs.Maps.{without-gone, without-other}
use Rattle.ild_path_changes.proofs.Pairs.{one_pair}
use Rattle.ild_typed.specs.Segment.{set_field}
use Rattle.ild_path_changes.proofs.Datas.{each, each_pair}
use Rattle.ild_path_changes.specs.Places.{field_each, each_field, place_of}
use Rattle.ild_path_changes.proofs.Each.{joined, joined_pair, each_pair-at, rises_each}
use Rattle.ild_path_changes.proofs.Others.{put_lasts}

-- lists
each-insert : {X Y : Type 0} (f : X → Option Y) (xs : List X) (ds : List Y) (i : ℕ) (c : X) (d : Y) → each f xs ≡ Some ds → f c ≡ Some d → each f (insert xs i c) ≡ Some (insert ds i d)
each-insert f xs ds zero c d h q = λ i. cons_both (q i) (h i)
each-insert f [] ds (suc i) c d h q = subst (λ zs. each f (c ∷ []) ≡ Some (insert zs (suc i) d)) (same_Some [] ds h) (λ i. cons_both (q i) (Some []))
each-insert f (y ∷ ys) ds (suc i) c d h q =
    let j = joined (f y) (each f ys) ds h in
    let r = each-insert f ys j.rest i c d j.is_rest q in
    subst (λ zs. each f (insert (y ∷ ys) (suc i) c) ≡ Some (insert zs (suc i) d)) j.whole (λ k. cons_both (j.is_first k) (r k))

each-remove : {X Y : Type 0} (f : X → Option Y) (xs : List X) (ds : List Y) (i : ℕ) → each f xs ≡ Some ds → each f (remove xs i) ≡ Some (remove ds i)
each-remove f [] ds zero h = subst (λ zs. Some [] ≡ Some (remove zs zero)) (same_Some [] ds h) refl
each-remove f [] ds (suc i) h = subst (λ zs. Some [] ≡ Some (remove zs (suc i))) (same_Some [] ds h) refl
each-remove f (y ∷ ys) ds zero h = let j = joined (f y) (each f ys) ds h in subst (λ zs. each f ys ≡ Some (remove zs zero)) j.whole j.is_rest
each-remove f (y ∷ ys) ds (suc i) h =
    let j = joined (f y) (each f ys) ds h in
    let r = each-remove f ys j.rest i j.is_rest in
    subst (λ zs. each f (remove (y ∷ ys) (suc i)) ≡ Some (remove zs (suc i))) j.whole (λ k. cons_both (j.is_first k) (r k))

pub list_insert : {X : Type 0} (f : X → Option Data) (xs : List X) (ds : List Data) (i : ℕ) (c : X) (d : Data) → each f xs ≡ Some ds → f c ≡ Some d
    → (each f (insert xs i c) ≡ Some (insert ds i d)) × (list_data (insert ds i d) ≡ applied (one [] (insert_item i d)) (list_data ds))
list_insert f xs ds i c d h q = (each-insert f xs ds i c d h q, ap (λ ys. list_data (insert ys i d)) (sym (items_list-items_of ds)))

pub list_remove : {X : Type 0} (f : X → Option Data) (xs : List X) (ds : List Data) (i : ℕ) → each f xs ≡ Some ds
    → (each f (remove xs i) ≡ Some (remove ds i)) × (list_data (remove ds i) ≡ applied (one [] (remove_item i)) (list_data ds))
list_remove f xs ds i h = (each-remove f xs ds i h, ap (λ ys. list_data (remove ys i)) (sym (items_list-items_of ds)))

-- maps
without_at : {X Y : Type 0} (f : X → Option Y) (k : List ℕ) (p : List ℕ × X) (ps : List (List ℕ × X)) (y : List ℕ × Y) (rest : List (List ℕ × Y)) (b : Bool) → option_map (λ y. (p.0, y)) (f p.1) ≡ Some y
    → each_pair f ps ≡ Some rest → each_pair f (without k ps) ≡ Some (without k rest) → each_pair f (cond b ps (p ∷ without k ps)) ≡ Some (cond b rest (y ∷ without k rest))
without_at f k p ps y rest true a h r = h
without_at f k p ps y rest false a h r = λ i. cons_both (a i) (r i)

pub each_pair-without : {X Y : Type 0} (f : X → Option Y) (k : List ℕ) (ps : List (List ℕ × X)) (es : List (List ℕ × Y)) → each_pair f ps ≡ Some es → each_pair f (without k ps) ≡ Some (without k es)
each_pair-without f k [] es h = subst (λ zs. Some [] ≡ Some (without k zs)) (same_Some [] es h) refl
each_pair-without f k (p ∷ ps) es h =
    let j = joined (option_map (λ y. (p.0, y)) (f p.1)) (each_pair f ps) es h in
    let a = without_at f k p ps j.first j.rest (same_text k p.0) j.is_first j.is_rest (each_pair-without f k ps j.rest j.is_rest) in
    subst (λ zs. each_pair f (without k (p ∷ ps)) ≡ Some (without k zs)) j.whole
    (subst (λ l. each_pair f (without k (p ∷ ps)) ≡ Some (cond (same_text k l) j.rest (j.first ∷ without k j.rest))) (sym (joined_pair f p j.first j.is_first)) a)

pub map_remove : {X : Type 0} (f : X → Option Data) (ps : List (List ℕ × X)) (es : List (List ℕ × Data)) (k : List ℕ) → each_pair f ps ≡ Some es → Rises ps
    → (each_pair f (without k ps) ≡ Some (without k es)) × (map_data (without k es) ≡ applied (at_key k (option_and_then f (value_at k ps)) None) (map_data es))
map_remove f ps es k h up =
    let rises = rises_each f ps es h up in (
      each_pair-without f k ps es h,
      one_key k es (without k es) (option_and_then f (value_at k ps)) None rises (rises_without k es rises) (λ j a. without-other k j es a) (each_pair-at f ps es k h) (without-gone k es rises),
    )

pub pairs_remove : {X : Type 0} (f : X → Option Data) (ps : List (List ℕ × X)) (es : List (List ℕ × Data)) (k : List ℕ) (e : Data) → each_pair f ps ≡ Some es
    → (each_pair f (without k ps) ≡ Some (without k es)) × (pairs_data (without k es) ≡ applied (at_pair (place_of k es) k (value_at k es) None) (pairs_data es))
pairs_remove f ps es k e h =
    let r = put_lasts k e es in (
      each_pair-without f k ps es h,
      ap pairs_data r.gone ∙ one_pair k r.front r.behind (value_at k es) None ∙ (λ i. applied (at_pair (r.placed i) k (value_at k es) None) (pairs_data (sym r.was i))),
    )

-- fields: with `struct_map`, `struct_pairs` and `struct_tuple`, which speak of each optional value
field_gone_at : (f : Slot → Value → Option Data) (s : List ℕ) (h : Field) (fs : List Field) (o : Option Value) (os : List (Option Value)) (y : Option Data) (rest : List (Option Data)) (b : Bool)
    → field_each f h o ≡ Some y → each_field f fs os ≡ Some rest → each_field f fs (set_field s None fs os) ≡ Some (set_field s None fs rest)
    → each_field f (h ∷ fs) (cond b (None ∷ os) (o ∷ set_field s None fs os)) ≡ Some (cond b (None ∷ rest) (y ∷ set_field s None fs rest))
field_gone_at f s h fs o os y rest true a r more = λ i. cons_both (Some None) (r i)
field_gone_at f s h fs o os y rest false a r more = λ i. cons_both (a i) (more i)

pub each_field-gone : (f : Slot → Value → Option Data) (s : List ℕ) (fs : List Field) (os : List (Option Value)) (ds : List (Option Data)) → each_field f fs os ≡ Some ds → each_field f fs (set_field s None fs os) ≡ Some (set_field s None fs ds)
each_field-gone f s [] [] ds h = h
each_field-gone f s [] (o ∷ os) ds h = absurd (none-some ds h)
each_field-gone f s (g ∷ fs) [] ds h = subst (λ zs. Some [] ≡ Some (set_field s None (g ∷ fs) zs)) (same_Some [] ds h) refl
each_field-gone f s (g ∷ fs) (o ∷ os) ds h =
    let j = joined (field_each f g o) (each_field f fs os) ds h in
    subst (λ zs. each_field f (g ∷ fs) (set_field s None (g ∷ fs) (o ∷ os)) ≡ Some (set_field s None (g ∷ fs) zs)) j.whole
    (field_gone_at f s g fs o os j.first j.rest (same_text s g.name) j.is_first j.is_rest (each_field-gone f s fs os j.rest j.is_rest))
