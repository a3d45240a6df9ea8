-- The spelling of a part that is an item of its block.
use Rattle.std.proofs.Common.{◌≡◌, ℕ, List, Some, Result, Ok, Err, sym, subst}
use Rattle.std.specs.Prelude.{IfOk}
use Rattle.std.proofs.lemmas.Option.{none-some, same_Some}
use Rattle.ild_cbor.specs.Nodes.{HasData}
use Rattle.ild_cbor.specs.declared.node.Node.{Node}
use Rattle.ild_cbor.specs.declared.piece.Piece.{Piece}
use Rattle.ild_cbor.specs.declared.piece.Piece.TheVariants as P
use Rattle.ild_data.specs.Data.{Data}
use Rattle.ild_data.specs.Spell.{spell}
use Rattle.ild_layer_piece.specs.Pieces.{StandsFor}
use Rattle.ild_schema.specs.Value.{Value}
use Rattle.ild_schema.specs.declared.row.Row.{Row}
use Rattle.ild_view.specs.Body.{BodyStands}
use Rattle.ild_view.specs.View.{IsView, body_of, piece_in, slot_of, table_of}
use Rattle.ild_view.specs.declared.body.Body.{Body}
use Rattle.ild_view.specs.declared.body.Body.TheVariants as B
use Rattle.ild_view.specs.declared.view.View.{View}
use Rattle.ild_inclusion.specs.inside.Shown.{IsShown}

node_stands : (rows : List Row) (b : Body) (n : Node) (t : Data) → piece_in b ≡ Some (P.Node n) → BodyStands rows b t → HasData n t
node_stands rows (B.Held p) n t e stands = subst (λ (q : Piece). StandsFor rows q t) (same_Some p (P.Node n) e) stands
node_stands rows (B.Implicit s) n t e is = absurd (none-some (P.Node n) e)

node_shown : (v : View) (n : Node) (own : List ℕ) → piece_in (body_of v) ≡ Some (P.Node n) → ((t : Data) → HasData n t → own ≡ spell t) → (f : Value) → IsView v f → IsShown (table_of v) (slot_of v) f own
node_shown v n own is spells f x = record { tree = x.tree; shown = x.front.tree; spelled = spells x.tree (node_stands (table_of v) (body_of v) n x.tree is x.stands) }

pub copy_shown : {A E : Type 0} (seen : A → List ℕ) (v : View) (n : Node) (own : List ℕ) → piece_in (body_of v) ≡ Some (P.Node n) → ((t : Data) → HasData n t → own ≡ spell t)
    → (r : Result A E) → IfOk r (λ a. seen a ≡ own) → (f : Value) → IsView v f → IfOk r (λ a. IsShown (table_of v) (slot_of v) f (seen a))
copy_shown seen v n own is spells (Ok a) same f x = subst (λ (b : List ℕ). IsShown (table_of v) (slot_of v) f b) (sym same) (node_shown v n own is spells f x)
copy_shown seen v n own is spells (Err e) same f x = tt
