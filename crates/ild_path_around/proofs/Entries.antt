-- A value behind HAMTs stands in no text.
use Rattle.std.proofs.Common.{◌≡◌, ℕ, List, [], ◌∷◌, Bool, Some, ◌∙◌, ap}
use Rattle.std.specs.Prelude.{option_and_then}
use Rattle.std.specs.Option.{option_map_or}
use Rattle.ild_data.specs.Data.{Data}
use Rattle.ild_path_delimiter.specs.Laws.{OnlyTextsBreak}
use Rattle.ild_path_entered.proofs.Editing.{entry_part, through_at, with_typed}
use Rattle.ild_path_entered.specs.Entered.{PassesHamts, path_through}
use Rattle.ild_path_around.proofs.Outside.{along, hamt_passes, outside, set_step}
use Rattle.ild_path_around.specs.Outside.{OutsideOfEntries}
use Rattle.ild_path_within.proofs.Splitting.{parts_of_parts}
use Rattle.ild_path_within.specs.Within.{with_part}
use Rattle.ild_schema.specs.Value as V
use Rattle.ild_schema.specs.Value.{Value}
use Rattle.ild_schema.specs.declared.row.Row.{Row}
use Rattle.ild_typed.specs.At.{InSlot, at, seen}
use Rattle.ild_typed.specs.Hamt.{whole}
use Rattle.ild_typed.specs.Holder.{value_of}
use Rattle.ild_typed.specs.Judged.{breaks_delimiter}
use Rattle.ild_typed.specs.OfType.{OfType, TestsKeys}
use Rattle.ild_typed.specs.Represented.{represented}
use Rattle.ild_typed.specs.Schema.{IsSchema}
use Rattle.ild_typed.specs.Segment.{set_part}

module _ (only : OnlyTextsBreak) (h : List ℕ → List ℕ) (rows : List Row) (is_key : ℕ → List ℕ → Bool) (schema : IsSchema rows) (keys : TestsKeys rows is_key) where
  pub entries_outside : (gs : List (List (List ℕ) × List ℕ)) (p q : InSlot) (d : Data) (m : Value) → OfType rows p.0 p.1 → represented (whole h) rows p.0 p.1 ≡ Some d → PassesHamts rows p gs q → OfType rows q.0 m
      → breaks_delimiter rows p.0 (with_part rows p (path_through gs) m) ≡ breaks_delimiter rows q.0 m
  entries_outside [] p q d m typed made e new = ap (λ (r : InSlot). breaks_delimiter rows r.0 m) e
  entries_outside (g ∷ gs) p q d m typed made (slot, elem, ps, w, x, there, rest) new =
      let r : InSlot = (slot, V.map ps) in
      let u : InSlot = (elem, w) in
      let k = g.1 in
      let inner = path_through gs in
      let z = along only h rows is_key schema keys g.0 p r d typed made x.at in
      let first = entry_part rows slot elem ps x.hamt k w there in
      let y = along only h rows is_key schema keys (k ∷ []) r u (z.1).0 z.0 (z.1).1 (ap (option_and_then (λ r. at rows r [])) first) in
      let leads = through_at rows gs u q rest in
      let c = with_part rows u inner m in
      let of_c : OfType rows elem c = with_typed rows is_key schema keys inner u q m y.0 leads new in
      let of_r : OfType rows slot (with_part rows r (k ∷ inner) m) = with_typed rows is_key schema keys (k ∷ inner) r q m z.0 (ap (option_and_then (λ r. at rows r inner)) first ∙ leads) new in
      ap (breaks_delimiter rows p.0) (parts_of_parts rows p r g.0 (k ∷ inner) m x.at)
      ∙ outside only h rows is_key schema keys g.0 p slot elem ps d (with_part rows r (k ∷ inner) m) typed made x.at x.hamt of_r
      ∙ ap (λ o. breaks_delimiter rows slot (option_map_or (λ t. value_of (set_part (seen rows r) k (with_part rows t inner m))) o (V.map ps))) first
      ∙ set_step only h rows is_key schema keys r u k (z.1).0 c z.0 (z.1).1 (hamt_passes rows slot elem x.hamt) first of_c
      ∙ entries_outside gs u q (y.1).0 m y.0 (y.1).1 rest new

pub outside_of_entries : OnlyTextsBreak → OutsideOfEntries
outside_of_entries only h rows is_key schema keys p q gs d m typed made passes new = entries_outside only h rows is_key schema keys gs p q d m typed made passes new
