-- The view of a document's root block was checked in a room of 96.
use Rattle.std.proofs.Common.{◌≡◌, List, sym, subst}
use Rattle.std.proofs.Math.Logic.{∥∥₁_map}
use Rattle.ild_open.specs.Loaded.{IsShallow}
use Rattle.ild_schema.specs.Slots.{plainly}
use Rattle.ild_schema.specs.Value.{Value}
use Rattle.ild_schema.specs.declared.number.Slot.{Slot}
use Rattle.ild_schema.specs.declared.row.Row.{Row}
use Rattle.ild_typed.specs.Fits.{Fits}
use Rattle.ild_view.specs.View.{IsView, slot_of, table_of}
use Rattle.ild_view.specs.declared.view.View.{View}
use Rattle.ild_view_doc.specs.Block.{HasRoot, IsRootBlock}
use Rattle.ild_view_doc.specs.Docs.{block_in, table_in, type_in}
use Rattle.ild_view_doc.specs.declared.doc.Doc.{Doc}

pub root_is_shallow : (d : Doc) (view : View) → ∥ HasRoot (table_in d) (type_in d) (block_in d) ∥₁ → table_of view ≡ table_in d → slot_of view ≡ plainly (type_in d)
    → ((f : Value) → IsRootBlock (table_in d) (type_in d) (block_in d) f → IsView view f) → ∥ IsShallow 96 view ∥₁
root_is_shallow d view some table slot front = ∥∥₁_map some (λ r.
    let v = front r.value r.root in
    record {
      tree = v.tree;
      shown = record {
        stands = v.stands;
        front = (
          r.value,
          subst (λ (rows : List Row). Fits rows 96 (slot_of view) r.value) (sym table) (subst (λ (s : Slot). Fits (table_in d) 96 s r.value) (sym slot) r.root.front.fits),
          v.front.tree,
        );
      };
    })
