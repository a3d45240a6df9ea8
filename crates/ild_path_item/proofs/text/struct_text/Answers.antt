use Rattle.std.proofs.Common.{sym, ◌∙◌, ap, subst}
use Rattle.ild_layer_piece.specs.Pieces.{StandsFor}
use Rattle.ild_path_block.specs.Items.{are_pairs, is_pairs_struct}
use Rattle.ild_path_holder.proofs.Written.{piece_stands}
use Rattle.ild_path_item.proofs.Joins.{field_becomes, given, joined_told}
use Rattle.ild_path_item.proofs.Viewing.{has_piece, no_text, plain_struct}
use Rattle.ild_path_item.proofs.text.struct_text.Goals as goal
use Rattle.ild_path_item.specs.Texts.{borrowed_text}
use Rattle.ild_schema.specs.Copies.{base}
use Rattle.ild_schema.specs.Legible.{IsLegible}
use Rattle.ild_schema.specs.declared.def.StructForm.TheVariants as S
use Rattle.ild_schema.specs.declared.def.TypeDef.TheVariants as D
use Rattle.ild_typed.specs.At.{InSlot}
use Rattle.ild_view.specs.View.{slot_of, table_of}

pub joined_text-requires : goal.joined_text-requires
joined_text-requires c =
    let v = c.args.view.now in
    let legible = subst IsLegible c.schema.ensures c.recall.ensures.legible in
    given c.args.def.now.form c.args.def.now.fields c.as_str.result.now (c.in-StringJoin.is ∙ ap S.StringJoin (sym c.as_str.ensures.same)) (legible.delims (base (table_of v) (slot_of v).ty.0) (D.Struct c.args.def.now) c.requires.known)

pub returns-in-StringPairs : goal.returns-in-StringPairs
returns-in-StringPairs c = c.pairs_text.ensures (ap are_pairs c.requires.known ∙ ap is_pairs_struct c.in-StringPairs.is)

pub returns-in_default-piece : goal.returns-in_default-piece
returns-in_default-piece c = λ f o j view holds made lets. absurd (has_piece c.args.view.now f (D.Struct c.args.def.now) c.requires.known view holds (sym c.in_default-piece.is ∙ c.piece.ensures))

pub returns-in-Some : goal.returns-in-Some
returns-in-Some c = λ f o j view holds made lets.
    let v = c.args.view.now in
    let rows = table_of v in
    let q : InSlot = (slot_of v, f) in
    let s = c.args.segment.now in
    let delim = c.as_str.result.now in
    let new = borrowed_text c.args.new in
    let x = field_becomes rows q s c.args.def.now delim c.args.number view.tree c.requires.known (c.in-StringJoin.is ∙ ap S.StringJoin (sym c.as_str.ensures.same)) c.requires.numbered c.requires.within o new view.front.tree holds lets in
    joined_told rows o new q s c.args.def.now delim c.args.number c.len-count.result view.tree c.joined_text.result x c.len-count.ensures c.requires.within
    (c.joined_text.ensures rows x.old (subst (StandsFor rows c.in-Some.piece) x.text (piece_stands v f view c.in-Some.piece (sym c.in-Some.is ∙ c.piece.ensures))))

pub returns-in_default : goal.returns-in_default
returns-in_default c = λ f o j view holds made lets.
    let v = c.args.view.now in
    no_text (table_of v) (slot_of v, f) (D.Struct c.args.def.now) j c.requires.known made holds (plain_struct c.args.def.now c.in_default.not-StringPairs c.in_default.not-StringJoin)
