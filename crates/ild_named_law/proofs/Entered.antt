-- Paths into the struct, and its shown form.
use Rattle.std.proofs.Common.{suc, ℕ, codes, List, length, ap, ◌∙◌}
use Rattle.std.specs.Prelude.{option_and_then}
use Rattle.std.specs.Option.{option_map_or}
use Rattle.ild_data.specs.Spell.{cid_of, id_of}
use Rattle.ild_schema.specs.Slots.{plainly}
use Rattle.ild_schema.specs.Value as V
use Rattle.ild_schema.specs.Value.{Value, Optionals}
use Rattle.ild_typed.specs.At.{at, changed_in, last_holder, or_enter, reached}
use Rattle.ild_typed.specs.Holder.{struct_holder, value_of}
use Rattle.ild_typed.specs.Segment.{part, set_part}
use Rattle.ild_typed.specs.Shown.{shown_fields}
use Rattle.ild_typed.specs.Slots.{fields_of}
use Rattle.ild_typed.specs.Strings.{in_key_order, map_data}
use Rattle.ild_named.specs.Named.{named_data, schema_block}
use Rattle.ild_named_type.specs.Root.{named_rows, root_type}
use Rattle.ild_named_type.proofs.Last.{meant_last}
use Rattle.ild_named_law.specs.Law.{rooted}
use Rattle.ild_named_law.specs.Paths.{ChangesAreAlike, HoldersAreAlike, PathsAreEntered, PathsLeadAlike, RootsAreShown, ValuesAreSet}
use Rattle.ild_named_law.proofs.Known.{alike_longer}
use Rattle.ild_named_law.proofs.Pathing.{at_same, changed_same, last_same, reached_same, shown_same}

abbrev fields : List ℕ → List ℕ → Value → Optionals
fields name source v = V.present (V.text name) (V.present v (V.present (V.link (cid_of (id_of (schema_block source)))) V.no_optionals))

pub paths_lead : PathsLeadAlike
paths_lead rows n table low name source v path =
    ap (λ o. option_and_then (λ q. at (named_rows rows n) q path) (part (struct_holder o (fields name source v)) (codes "value"))) (meant_last rows n)
    ∙ at_same (length rows) (named_rows rows n) rows (alike_longer rows table n) (plainly n, v) path low

pub paths_entered : PathsAreEntered
paths_entered rows n table low name source v k path =
    ap (λ o. option_map_or (λ q. reached (named_rows rows n) (suc k) q path) (part (struct_holder o (fields name source v)) (codes "value")) (or_enter k (plainly (root_type rows)) (rooted name source v))) (meant_last rows n)
    ∙ reached_same (length rows) (named_rows rows n) rows (alike_longer rows table n) (suc k) (plainly n, v) path low

pub values_set : ValuesAreSet
values_set rows n name source v w = ap (λ o. value_of (set_part (struct_holder o (fields name source v)) (codes "value") w)) (meant_last rows n)

pub holders_alike : HoldersAreAlike
holders_alike rows n table low name source v s path =
    ap (λ o. option_and_then (λ q. last_holder (named_rows rows n) q s path) (part (struct_holder o (fields name source v)) (codes "value"))) (meant_last rows n)
    ∙ last_same (length rows) (named_rows rows n) rows (alike_longer rows table n) (plainly n, v) s path low

pub changes_alike : ChangesAreAlike
changes_alike rows n table low name source v change s path =
    ap (λ o. option_map_or (λ q. value_of (set_part (struct_holder o (fields name source v)) (codes "value") (changed_in (named_rows rows n) change q s path)))
    (part (struct_holder o (fields name source v)) (codes "value")) (rooted name source v)) (meant_last rows n)
    ∙ ap (rooted name source) (changed_same (length rows) (named_rows rows n) rows (alike_longer rows table n) change (plainly n, v) s path low)

pub roots_shown : RootsAreShown
roots_shown rows n table low name source v =
    ap (λ o. map_data (in_key_order (shown_fields (named_rows rows n) (fields_of o) (fields name source v)))) (meant_last rows n)
    ∙ ap (λ d. named_data name (id_of (schema_block source)) d) (shown_same (length rows) (named_rows rows n) rows (alike_longer rows table n) (plainly n) v low)
