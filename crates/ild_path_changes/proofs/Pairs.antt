-- The change of one pair of a list of pairs.
use Rattle.std.proofs.Common.{[], ◌∷◌, Some, None, refl, ap, sym, ◌∙◌}
use Rattle.std.specs.Prelude.{map as list_map}
use Rattle.std.proofs.lemmas.List.{length-map, map-append}
use Rattle.ild_splice_changes.specs.TreeChange.{nth, replace, insert_item, remove_item, changed}
use Rattle.ild_splice_changes.proofs.Shapes.{list_data, inserted, removed, replaced}
use Rattle.ild_typed.specs.Strings.{pair_data}
use Rattle.ild_path_changes.specs.Pairs.{OnePair}

pub one_pair : OnePair
one_pair k front behind None None = refl
one_pair k front behind None (Some d) =
    ap list_data (map-append pair_data front ((k, d) ∷ behind)) ∙ inserted (list_map pair_data front) (list_map pair_data behind) (pair_data (k, d))
    ∙ (λ i. changed [] (insert_item (length-map front pair_data i) (pair_data (k, d))) (list_data (sym (map-append pair_data front behind) i)))
one_pair k front behind (Some e) None =
    ap list_data (map-append pair_data front behind) ∙ removed (list_map pair_data front) (list_map pair_data behind) (pair_data (k, e))
    ∙ (λ i. changed [] (remove_item (length-map front pair_data i)) (list_data (sym (map-append pair_data front ((k, e) ∷ behind)) i)))
one_pair k front behind (Some e) (Some d) =
    ap list_data (map-append pair_data front ((k, d) ∷ behind)) ∙ replaced (list_map pair_data front) (list_map pair_data behind) (pair_data (k, e)) (nth 1 ∷ []) (replace d)
    ∙ (λ i. changed (nth (length-map front pair_data i) ∷ nth 1 ∷ []) (replace d) (list_data (sym (map-append pair_data front ((k, e) ∷ behind)) i)))
