-- What is there before an edit, and after it.
use Rattle.std.proofs.Common.{◌≡◌, Bool, true, false, cond, not, Option, Some, None, refl, sym, ◌∙◌, ap, subst}
use Rattle.std.specs.Prelude.{is_some}
use Rattle.std.proofs.lemmas.Option.{none-some}
use Rattle.ild_cbor.specs.Nodes.{HasData}
use Rattle.ild_cbor.specs.declared.node.Node.{Node}
use Rattle.ild_data.specs.Data.{Data}
use Rattle.ild_path_changes.specs.Places.{left_out, written}
use Rattle.ild_layer_piece.specs.Entries.{Found}
use Rattle.ild_schema.specs.declared.def.Field.{Field}
use Rattle.ild_path_last.specs.Change.{IsShown, NewIs}

pub new_there : (o : Option Node) (n : Node) (d : Option Data) → o ≡ Some n → NewIs o d → true ≡ is_some d
new_there None n d e h = absurd (none-some n e)
new_there (Some m) n None e h = absurd h
new_there (Some m) n (Some x) e h = refl

pub none_new : (o : Option Node) (d : Option Data) → o ≡ None → NewIs o d → false ≡ is_some d
none_new (Some n) d e h = absurd (none-some n (sym e))
none_new None None e h = refl
none_new None (Some x) e h = absurd h

not_left : (x : Data) (b : Bool) → not b ≡ is_some (cond b None (Some x))
not_left x true = refl
not_left x false = refl

pub written_new : (g : Field) (o : Option Node) (n : Node) (d : Option Data) (b : Bool) → o ≡ Some n → NewIs o d → ((x : Data) → HasData n x → b ≡ left_out g x) → not b ≡ is_some (written left_out g d)
written_new g o n d b e h is = by d (subst (λ p. NewIs p d) e h) where
  by : (d : Option Data) → NewIs (Some n) d → not b ≡ is_some (written left_out g d)
  by None h = absurd h
  by (Some x) h = ap not (is x h) ∙ not_left x (left_out g x)

pub none_written : (g : Field) (o : Option Node) (d : Option Data) → o ≡ None → NewIs o d → false ≡ is_some (written left_out g d)
none_written g (Some n) d e h = absurd (none-some n (sym e))
none_written g None None e h = refl
none_written g None (Some x) e h = absurd h

shown_if : (d : Data) (x : Option Data) (b : Bool) → x ≡ Some d → IsShown (cond b None (Some d)) x
shown_if d x true h = tt
shown_if d x false h = h

-- what is written of the new part is the part
pub written_shown : (g : Field) (d x : Option Data) → IsShown d x → IsShown (written left_out g d) x
written_shown g None x h = tt
written_shown g (Some d) x h = shown_if d x (left_out g d) h

-- ---- what was there

pub found_there : (o : Option Data) (n : Node) → Found o (Some n) → true ≡ is_some o
found_there None n h = absurd h
found_there (Some d) n h = refl

pub none_found : (o : Option Data) → Found o None → false ≡ is_some o
none_found None h = refl
none_found (Some d) h = absurd h
