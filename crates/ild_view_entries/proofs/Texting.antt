-- The pairs of a text are those of which it was made.
use Rattle.std.proofs.Common.{◌≡◌, ◌<◌, ℕ, List, true, false, length, option_map, Some, sym, ◌∙◌, ap}
use Rattle.std.specs.Prelude.{option_and_then}
use Rattle.std.proofs.lemmas.Option.{same_Some}
use Rattle.ild_data.specs.Data as T
use Rattle.ild_data.specs.Data.{Data}
use Rattle.ild_data.specs.Key.{value_at}
use Rattle.ild_schema.specs.Joins.{IsPairs}
use Rattle.ild_struct.proofs.Splitting.{pairs_shown, text_value_at, some_given}
use Rattle.ild_layer_fields.specs.Entries.{text_entries}
use Rattle.ild_typed.specs.Strings.{stringpairs, text_in, text_pairs}
use Rattle.ild_typed.specs.Texts.{join_pairs}
use Rattle.ild_typed.proofs.Basics.{map_from, then_from}
use Rattle.ild_typed.proofs.CleanStructs.{split_of_pairs}
use Rattle.ild_typed.proofs.JoinLaws.{pairs_are_pairs}

module _ (inner entry : List ℕ) (some : 0 < length inner) (more : 0 < length entry) (es : List (List ℕ × Data)) (t : Data) (made : stringpairs inner entry es ≡ Some t) (s : List ℕ) (is : t ≡ T.text s) where
  pub text_there : (ps : List (List ℕ × List ℕ)) → IsPairs inner entry ps s → es ≡ text_entries ps
  text_there ps are = same_Some es (text_entries ps) (sym (split_of_pairs inner entry (some_given inner some) (some_given entry more) es t made).entries ∙ pairs_shown inner entry s some more ps are t is)

  pub text_value_there : (ps : List (List ℕ × List ℕ)) → IsPairs inner entry ps s → (key : List ℕ) → value_at key es ≡ option_map T.text (value_at key ps)
  text_value_there ps are key = ap (value_at key) (text_there ps are) ∙ text_value_at key ps

  pub text_split : ((ps : List (List ℕ × List ℕ)) → IsPairs inner entry ps s → false ≡ true) → ⊥
  text_split none =
      let x = map_from T.text (option_and_then (join_pairs inner entry) (text_pairs es)) t made in
      let y = then_from (join_pairs inner entry) (text_pairs es) x.item x.there in
      let same : T.text x.item ≡ T.text s = same_Some (T.text x.item) t x.made ∙ is in
      let joined : join_pairs inner entry y.item ≡ Some s = y.made ∙ ap text_in same in
      let e : false ≡ true = none y.item ((pairs_are_pairs inner entry y.item s some more).0 joined) in
      cc
