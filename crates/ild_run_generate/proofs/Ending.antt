-- The run of the generator, from its start and to its end.
use Rattle.std.proofs.Common.{◌≡◌, ℕ, suc, [], ◌∷◌, List, length, map, Option, Some, None, refl, sym, ap, ◌∙◌, subst}
use Rattle.std.specs.Option.{option_map_or}
use Rattle.ild_schema.proofs.Parts.{pairs_list-pairs_of}
use Rattle.ild_data.specs.Spell.{id_of}
use Rattle.ild_edges.specs.Store.{Moment, block_at}
use Rattle.ild_edges.specs.Told.{IfTold}
use Rattle.ild_generator.specs.Generated.{root_in}
use Rattle.ild_generator.specs.Schema.{generator_rows, generator_type}
use Rattle.ild_path_edits.specs.Judged.{Tests}
use Rattle.ild_run_generate.specs.Steps.{IsOfGenerator}
use Rattle.ild_run_standing.specs.Laws.{HeldAreStanding}
use Rattle.ild_run_standing.specs.Standing.{IsHeldAt}
use Rattle.ild_schema.specs.declared.number.TypeNo.{TypeNo}
use Rattle.ild_schema.specs.declared.row.Row.{Row}
use Rattle.ild_script_meaning.specs.PlainMap.{as_value, int_entry}
use Rattle.ild_script_meaning.specs.PlainValue.{Value as Entries}
use Rattle.ild_typed.specs.Stands.{Stands, Storable, bare, root_id}
use Rattle.ild_run_generate.specs.inside.Counting.{count_in}
use Rattle.ild_view_doc.specs.Docs.{table_in, block_in}
use Rattle.ild_view_doc.specs.declared.doc.Doc.{Doc}

-- ---- the number of entries

same_length : (es : Entries) → length (map int_entry es) ≡ length es
same_length [] = refl
same_length (e ∷ es) = ap suc (same_length es)

pub counted : (es : Entries) → count_in (as_value es) ≡ length es
counted es = ap length (pairs_list-pairs_of (map int_entry es)) ∙ same_length es

-- ---- the root

module _ (d : Doc) (of : IsOfGenerator d) (tests : Tests) (n : Moment) (es : Entries) (held : IsHeldAt id_of d tests n (as_value es)) where
  at_generator : Storable bare id_of generator_rows generator_type (as_value es) held.at.tree
  at_generator =
      subst (λ (rows : List Row). Storable bare id_of rows generator_type (as_value es) held.at.tree) of.table
      (subst (λ (ty : TypeNo). Storable bare id_of (table_in d) ty (as_value es) held.at.tree) of.type held.at.storable)

  -- its id is that of the block built from scratch
  pub root_is : id_of (block_in d) ≡ root_in es
  root_is = ap id_of held.at.block ∙ sym (ap (λ o. option_map_or (root_id bare) o []) at_generator.tree)

  module _ (back : HeldAreStanding) where
    there : (blocks : List (List ℕ)) → n.blocks ≡ Some blocks → Stands bare (block_at blocks) id_of generator_rows generator_type (id_of (block_in d)) (as_value es)
    there blocks told =
        subst (λ (rows : List Row). Stands bare (block_at blocks) id_of rows generator_type (id_of (block_in d)) (as_value es)) of.table
        (subst (λ (ty : TypeNo). Stands bare (block_at blocks) id_of (table_in d) ty (id_of (block_in d)) (as_value es)) of.type
        (back id_of d tests n blocks (as_value es) told held))

    stands_by : (o : Option (List (List ℕ))) → n.blocks ≡ o → IfTold o (λ blocks. Stands bare (block_at blocks) id_of generator_rows generator_type (id_of (block_in d)) (as_value es))
    stands_by None is = tt
    stands_by (Some blocks) is = there blocks is

    -- and it stands there, also where the store was read since
    pub stands_then : (k : Moment) → k.blocks ≡ n.blocks → IfTold k.blocks (λ blocks. Stands bare (block_at blocks) id_of generator_rows generator_type (id_of (block_in d)) (as_value es))
    stands_then k same = stands_by k.blocks (sym same)
