-- How many entries data show, form by form.
use Rattle.std.proofs.Common.{◌≡◌, ◌<◌, ℕ, suc, List, [], ◌∷◌, length, map, Some, refl, sym, ◌∙◌, ap}
use Rattle.std.proofs.lemmas.Option.{same_Some, none-some}
use Rattle.ild_cbor.specs.Scalar.{count_of}
use Rattle.ild_data.specs.Data as T
use Rattle.ild_data.specs.Data.{Data, members_list}
use Rattle.ild_data.proofs.Lists.{length-items}
use Rattle.ild_view_entries.proofs.Texting.{text_there}
use Rattle.ild_schema.specs.Joins.{IsPairs}
use Rattle.ild_layer_fields.specs.Entries.{text_entries}
use Rattle.ild_typed.specs.Strings.{listpairs, members_in, pair_data, stringpairs}

pub members_counted : (t : Data) (es : List (List ℕ × Data)) → members_in t ≡ Some es → count_of t ≡ Some (length es)
members_counted (T.map ms) es e = ap (λ (xs : List (List ℕ × Data)). Some (length xs)) (same_Some (members_list ms) es e)
members_counted t es e = absurd (none-some es e)

map_length : (es : List (List ℕ × Data)) → length (map pair_data es) ≡ length es
map_length [] = refl
map_length (e ∷ es) = ap suc (map_length es)

pub pairs_counted : (t : Data) (es : List (List ℕ × Data)) → t ≡ listpairs es → count_of t ≡ Some (length es)
pairs_counted t es e = ap count_of e ∙ ap Some (length-items (map pair_data es) ∙ map_length es)

text_length : (ps : List (List ℕ × List ℕ)) → length (text_entries ps) ≡ length ps
text_length [] = refl
text_length (p ∷ ps) = ap suc (text_length ps)

pub text_counted : (inner entry : List ℕ) → 0 < length inner → 0 < length entry → (es : List (List ℕ × Data)) (t : Data) → stringpairs inner entry es ≡ Some t → (s : List ℕ) → t ≡ T.text s
    → (ps : List (List ℕ × List ℕ)) → IsPairs inner entry ps s → length ps ≡ length es
text_counted inner entry some more es t made s is ps are = sym (ap length (text_there inner entry some more es t made s is ps are) ∙ text_length ps)
