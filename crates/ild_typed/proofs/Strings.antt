-- A text of pairs tells them, and a joined text its fields.
use Rattle.std.proofs.Common.{◌≡◌, ℕ, List, [], ◌∷◌, ◌++◌, map, Option, Some, None, refl, sym, ◌∙◌, ap}
use Rattle.std.specs.Prelude.{option_and_then}
use Rattle.std.specs.List.{list_all}
use Rattle.std.proofs.lemmas.Option.{same_Some, none-some}
use Rattle.ild_data.specs.Data as T
use Rattle.ild_data.specs.Data.{Data}
use Rattle.ild_schema.specs.declared.def.Field.{Field}
use Rattle.ild_typed.specs.Texts.{join, is_parted, join_pairs}
use Rattle.ild_schema.specs.Joins.{joined, pair_text}
use Rattle.ild_typed.specs.Fields.{all_items}
use Rattle.ild_typed.specs.Strings.{texts_in, text_in, text_pairs, stringpairs, stringjoin}
use Rattle.ild_typed.specs.Tells.{Tells}
use Rattle.ild_schema.specs.Clear.{IsGiven}
use Rattle.ild_typed.proofs.Basics.{then_from, map_from, if_from}
use Rattle.ild_typed.proofs.Joints.{is_nil, join_says, join_tells, pairs_tell}
use Rattle.ild_typed.proofs.Entries.{both_from, texts_tell, text_pairs_tell}
use Rattle.ild_typed.proofs.Structs.{all_tell}

not_empty : (a b : List ℕ) → IsGiven b → a ++ b ≡ [] → ⊥
not_empty [] [] given e = given
not_empty [] (c ∷ b) given e = absurd cc
not_empty (c ∷ a) b given e = absurd cc

given_more : (a b : List ℕ) → IsGiven a → IsGiven (a ++ b)
given_more [] b given = absurd given
given_more (c ∷ a) b given = tt

given_behind : (a b : List ℕ) → IsGiven b → IsGiven (a ++ b)
given_behind [] b given = given
given_behind (c ∷ a) b given = tt

given_text : (inner : List ℕ) → IsGiven inner → (p : List ℕ × List ℕ) → IsGiven (pair_text inner p)
given_text inner given p = given_behind p.0 (inner ++ p.1) (given_more inner p.1 given)

joined_given : (entry : List ℕ) (t : List ℕ) (ts : List (List ℕ)) → IsGiven t → joined entry (t ∷ ts) ≡ [] → ⊥
joined_given entry t [] given e = not_empty [] t given e
joined_given entry t (u ∷ ts) given e = not_empty [] (t ++ (entry ++ joined entry (u ∷ ts))) (given_more t (entry ++ joined entry (u ∷ ts)) given) e

pairs_nil : (inner entry : List ℕ) → IsGiven inner → (ps qs : List (List ℕ × List ℕ)) (t : List ℕ)
    → join entry (map (pair_text inner) ps) ≡ Some t → join entry (map (pair_text inner) qs) ≡ Some t → is_nil (map (pair_text inner) ps) ≡ is_nil (map (pair_text inner) qs)
pairs_nil inner entry given [] [] t e k = refl
pairs_nil inner entry given [] (q ∷ qs) t e k =
    absurd (joined_given entry (pair_text inner q) (map (pair_text inner) qs) (given_text inner given q)
    ((join_says entry (map (pair_text inner) (q ∷ qs)) t k).0 ∙ sym (join_says entry [] t e).0))
pairs_nil inner entry given (p ∷ ps) [] t e k =
    absurd (joined_given entry (pair_text inner p) (map (pair_text inner) ps) (given_text inner given p)
    ((join_says entry (map (pair_text inner) (p ∷ ps)) t e).0 ∙ sym (join_says entry [] t k).0))
pairs_nil inner entry given (p ∷ ps) (q ∷ qs) t e k = refl

pub join_pairs_tell : (inner entry : List ℕ) → IsGiven inner → (ps qs : List (List ℕ × List ℕ)) (t : List ℕ)
    → join_pairs inner entry ps ≡ Some t → join_pairs inner entry qs ≡ Some t → ps ≡ qs
join_pairs_tell inner entry given ps qs t e k =
    let x = if_from (list_all (is_parted inner) ps) (join entry (map (pair_text inner) ps)) t e in
    let y = if_from (list_all (is_parted inner) qs) (join entry (map (pair_text inner) qs)) t k in
    pairs_tell inner ps qs x.0 y.0
    (join_tells entry (map (pair_text inner) ps) (map (pair_text inner) qs) t (pairs_nil inner entry given ps qs t x.1 y.1) x.1 y.1)

abbrev text_inside : Data → List ℕ
text_inside (T.text s) = s
text_inside d = []

text_one : (a b : List ℕ) (t : Data) → Some (T.text a) ≡ Some t → Some (T.text b) ≡ Some t → a ≡ b
text_one a b t e k = ap text_inside (same_Some (T.text a) t e ∙ sym (same_Some (T.text b) t k))

pub stringpairs_tell : (inner entry : List ℕ) → IsGiven inner → Tells (stringpairs inner entry)
stringpairs_tell inner entry given ps qs t e k =
    let x = map_from T.text (option_and_then (join_pairs inner entry) (text_pairs ps)) t e in
    let y = map_from T.text (option_and_then (join_pairs inner entry) (text_pairs qs)) t k in
    let u = then_from (join_pairs inner entry) (text_pairs ps) x.item x.there in
    let v = then_from (join_pairs inner entry) (text_pairs qs) y.item y.there in
    let one : y.item ≡ x.item = text_one y.item x.item t y.made x.made in
    let same : v.item ≡ u.item = join_pairs_tell inner entry given v.item u.item x.item (v.made ∙ ap Some one) u.made in
    text_pairs_tell ps qs u.item u.there (v.there ∙ ap Some same)

texts_nil : (ds : List Data) (ts : List (List ℕ)) → texts_in ds ≡ Some ts → is_nil ts ≡ is_nil ds
texts_nil [] ts e = ap is_nil (sym (same_Some [] ts e))
texts_nil (d ∷ ds) ts e = ap is_nil (sym (both_from (text_in d) (texts_in ds) ts e).all)

items_nil : (fs : List Field) (os : List (Option Data)) (ds : List Data) → all_items fs os ≡ Some ds → is_nil ds ≡ is_nil fs
items_nil [] [] ds e = ap is_nil (sym (same_Some [] ds e))
items_nil [] (o ∷ os) ds e = absurd (none-some ds e)
items_nil (f ∷ fs) [] ds e = absurd (none-some ds e)
items_nil (f ∷ fs) (None ∷ os) ds e = absurd (none-some ds e)
items_nil (f ∷ fs) (Some d ∷ os) ds e =
    let x = map_from (λ xs. d ∷ xs) (all_items fs os) ds e in
    ap is_nil (sym (same_Some (d ∷ x.item) ds x.made))

pub stringjoin_tells : (delim : List ℕ) (fs : List Field) → Tells (λ os. option_and_then (stringjoin delim) (all_items fs os))
stringjoin_tells delim fs os us t e k =
    let x = then_from (stringjoin delim) (all_items fs os) t e in
    let y = then_from (stringjoin delim) (all_items fs us) t k in
    let x1 = map_from T.text (option_and_then (join delim) (texts_in x.item)) t x.made in
    let y1 = map_from T.text (option_and_then (join delim) (texts_in y.item)) t y.made in
    let u = then_from (join delim) (texts_in x.item) x1.item x1.there in
    let v = then_from (join delim) (texts_in y.item) y1.item y1.there in
    let one : y1.item ≡ x1.item = text_one y1.item x1.item t y1.made x1.made in
    let nils : is_nil v.item ≡ is_nil u.item
    = texts_nil y.item v.item v.there ∙ items_nil fs us y.item y.there ∙ sym (items_nil fs os x.item x.there) ∙ sym (texts_nil x.item u.item u.there) in
    let same : v.item ≡ u.item = join_tells delim v.item u.item x1.item nils (v.made ∙ ap Some one) u.made in
    let items : y.item ≡ x.item = texts_tell y.item x.item u.item (v.there ∙ ap Some same) u.there in
    all_tell fs os us x.item x.there (y.there ∙ ap Some items)
