-- Forms that stand as the texts of their parts.
use Rattle.std.specs.Prelude.{Bool, false}
use Rattle.ild_path_block.specs.Items.{is_pairs_map, is_text_struct}
use Rattle.ild_schema.specs.declared.def.TypeDef.{TypeDef}
use Rattle.ild_schema.specs.declared.def.TypeDef.TheVariants as D
pub use Rattle.ild_path_pairs.specs.Becomes.{AnswersText, LetsBe, becoming_with, with_part}
pub use Rattle.ild_path_pairs.specs.Pairs.{Tells, borrowed_text}

abbrev pub is_text_form : TypeDef → Bool
is_text_form (D.Map key key_at slot place form) = is_pairs_map form
is_text_form (D.Struct def) = is_text_struct def.form
is_text_form d = false
