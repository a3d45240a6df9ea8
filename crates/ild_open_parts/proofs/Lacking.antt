-- Fields for which no piece stands, and pieces in which nothing is passed over.
use Rattle.std.proofs.Common.{◌≡◌, List, [], Bool, true, false, Option, Some, None, ◌⊎◌, inl, inr, refl, sym, ◌∙◌, ap, subst, arith}
use Rattle.std.specs.Prelude.{Ok, Err, is_some}
use Rattle.std.proofs.lemmas.Bool.{false≢true}
use Rattle.ild_cbor.specs.declared.node.Node.{Node}
use Rattle.ild_cbor.specs.declared.piece.Piece.{Piece}
use Rattle.ild_cbor.specs.declared.piece.Piece.TheVariants as C
use Rattle.ild_data.specs.Data.{Data}
use Rattle.ild_layer_parts.specs.Ready.{IsInlined}
use Rattle.ild_layer_piece.specs.Pieces.{IsNumbered}
use Rattle.ild_schema.specs.declared.def.Field.{Field}
use Rattle.ild_schema.specs.declared.number.Slot.{Slot}
use Rattle.ild_schema.specs.declared.row.Row.{Row}
use Rattle.ild_schema.specs.declared.val.Val.{Val}
use Rattle.ild_struct.specs.Parts.{IsFieldPart}
use Rattle.ild_struct.specs.declared.part.Part.{Part}
use Rattle.ild_struct.specs.declared.part.Part.TheVariants as P
use Rattle.ild_union.specs.Forms.{passes_over}
use Rattle.ild_open_parts.specs.Checked.{IsHandedOut, is_out}
use Rattle.ild_open_parts.specs.Fields.{FieldFits, LeftOut, ReadsField}
use Rattle.ild_open_parts.specs.Leaf.{IsImplied}
use Rattle.ild_open_parts.specs.declared.fault.OpenFault.TheVariants as F
use Rattle.ild_open_parts.proofs.Handing.{absent_part, implicit_part}
use Rattle.ild_open_parts.proofs.Leaving.{given_scalar, implied_read}
use Rattle.ild_open_parts.proofs.Turning.{memory_wants}

-- ---- pieces

pub free_inlined : (rows : List Row) (s : Slot) (p : Piece) → passes_over p ≡ false → IsInlined rows s p
free_inlined rows s p e over = let x : false ≡ true = sym e ∙ over in absurd cc

pub numbered_free : (p : Piece) → IsNumbered [] p → passes_over p ≡ false
numbered_free (C.Node n) e = refl
numbered_free (C.Text s) e = refl
numbered_free (C.Bytes s) e = refl
numbered_free (C.Inline n u) e = absurd (omega (arith, e))

-- ---- fields

pub absent_left : (f : Field) (part : Part) → part ≡ P.Absent → LeftOut f part (Ok None)
absent_left f part is h at rows room keep m schema o fits here front =
    subst (λ q. ReadsField h at rows room f.slot q keep m (Ok None) m) (sym (absent_part rows f o part is here)) (refl, refl)

pub implied_left : (f : Field) (part : Part) → part ≡ P.Implicit → (val : Val) → IsImplied f val → LeftOut f part (Ok (Some val))
implied_left f part is val implied h at rows room keep m schema o fits here front =
    let x = implicit_part rows f o part is here in
    subst (λ q. ReadsField h at rows room f.slot q keep m (Ok (Some val)) m) (sym x.1)
    (implied_read h at rows schema room keep f x.0 m val fits x.2 implied (subst (FieldFits rows room f.slot) x.1 front))

abbrev pub is_absent : Part → Bool
is_absent P.Absent = true
is_absent part = false

some_there : (rows : List Row) (f : Field) (o : Option Data) (part : Part) → is_absent part ≡ false → IsFieldPart rows f o part → (d : Data) × (o ≡ Some d)
some_there rows f (Some d) part there h = (d, refl)
some_there rows f None P.Absent there h = absurd cc
some_there rows f None P.Implicit there h = absurd h
some_there rows f None (P.Null n) there h = absurd h
some_there rows f None (P.Held p) there h = absurd h

-- a piece stands for one that isn't left out
pub never_out : (part : Part) → ((n : Node) × (part ≡ P.Null n)) ⊎ ((p : Piece) × (part ≡ P.Held p)) → is_out part ≡ true → ⊥
never_out part (inl x) out = false≢true (sym (ap is_out x.1) ∙ out)
never_out part (inr x) out = false≢true (sym (ap is_out x.1) ∙ out)

-- the field that is left out has a value of its own
pub implied_some : (f : Field) (part : Part) → part ≡ P.Implicit → IsHandedOut f part → is_some f.implicit ≡ true
implied_some f part is h = let x = implicit_part h.rows f h.tree part is h.is in ap is_some (given_scalar f.implicit x.0 x.2).1

-- of a field that is there, none is made where memory is wanting
pub wanting_left : (f : Field) (part : Part) → is_absent part ≡ false → LeftOut f part (Err F.Memory)
wanting_left f part there h at rows room keep m schema o fits here front =
    let x = some_there rows f o part there here in
    subst (λ e. ReadsField h at rows room f.slot e keep m (Err F.Memory) m) (sym x.1) (memory_wants h at rows room keep (f.slot, x.0) m)
