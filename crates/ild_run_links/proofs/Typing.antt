-- Typed links to blocks, as a view shows them.
use Rattle.std.proofs.Common.{◌≡◌, ℕ, zero, suc, Bool, true, false, cond, List, drop, length, Option, Some, None, option_map, refl, sym, ap, ◌∙◌, subst}
use Rattle.std.specs.Prelude.{IsSomeAnd, option_and_then}
use Rattle.std.proofs.lemmas.Option.{same_Some, none-some}
use Rattle.ild_cbor.specs.Scalar as C
use Rattle.ild_data.specs.Data.{Data}
use Rattle.ild_data.specs.Spell.{cid_of}
use Rattle.ild_run_links.specs.Links.{leads_to, link_in, target_of}
use Rattle.ild_schema.specs.Slots.{form_of}
use Rattle.ild_schema.specs.Value as V
use Rattle.ild_schema.specs.Value.{Value}
use Rattle.ild_schema.specs.declared.def.TypeDef.{TypeDef}
use Rattle.ild_schema.specs.declared.def.TypeDef.TheVariants as D
use Rattle.ild_schema.specs.declared.number.Slot.{Slot}
use Rattle.ild_schema.specs.declared.number.TypeNo.{TypeNo}
use Rattle.ild_schema.specs.declared.row.Row.{Row}
use Rattle.ild_typed.proofs.NodeElements.{block-link, link-read}
use Rattle.ild_typed.specs.Fits.{Fits, FitsPast, FormFits, ValueFits}
use Rattle.ild_typed.specs.NodeReading.{links_block}
use Rattle.ild_view.specs.Itself.{itself}
use Rattle.ild_view.specs.View.{IsView, slot_of, table_of}
use Rattle.ild_view.specs.declared.view.View.{View}

pub no_target : (rows : List Row) (s : Slot) (f : Value) → target_of (form_of rows s) ≡ None → link_in rows s f ≡ None
no_target rows s V.null none = refl
no_target rows s (V.boolean b) none = refl
no_target rows s (V.integer n) none = refl
no_target rows s (V.text t) none = refl
no_target rows s (V.bytes t) none = refl
no_target rows s (V.link t) none = ap (option_and_then (leads_to t)) none
no_target rows s (V.list vs) none = refl
no_target rows s (V.map ps) none = refl
no_target rows s (V.struct os) none = refl
no_target rows s (V.union n v) none = refl
no_target rows s (V.enum n) none = refl
no_target rows s V.unit none = refl
no_target rows s (V.any d) none = refl
no_target rows s (V.hamt d) none = refl

pub no_link : (rows : List Row) (s : Slot) (f : Value) → option_and_then C.link_of (itself f) ≡ None → link_in rows s f ≡ None
no_link rows s V.null none = refl
no_link rows s (V.boolean b) none = refl
no_link rows s (V.integer n) none = refl
no_link rows s (V.text t) none = refl
no_link rows s (V.bytes t) none = refl
no_link rows s (V.link t) none = absurd (none-some t (sym none))
no_link rows s (V.list vs) none = refl
no_link rows s (V.map ps) none = refl
no_link rows s (V.struct os) none = refl
no_link rows s (V.union n v) none = refl
no_link rows s (V.enum n) none = refl
no_link rows s V.unit none = refl
no_link rows s (V.any d) none = refl
no_link rows s (V.hamt d) none = refl

pub form_is : (o : Option TypeDef) (target : TypeNo) → target_of o ≡ Some target → o ≡ Some (D.Link target)
form_is None target is = absurd (none-some target is)
form_is (Some (D.Link to)) target is = ap (λ t. Some (D.Link t)) (same_Some to target is)
form_is (Some D.Bool) target is = absurd (none-some target is)
form_is (Some D.Text) target is = absurd (none-some target is)
form_is (Some D.Bytes) target is = absurd (none-some target is)
form_is (Some D.Int) target is = absurd (none-some target is)
form_is (Some D.Any) target is = absurd (none-some target is)
form_is (Some (D.Unit form)) target is = absurd (none-some target is)
form_is (Some (D.List elem at)) target is = absurd (none-some target is)
form_is (Some (D.Map key key_at value at form)) target is = absurd (none-some target is)
form_is (Some (D.Struct s)) target is = absurd (none-some target is)
form_is (Some (D.Union u)) target is = absurd (none-some target is)
form_is (Some (D.Enum e)) target is = absurd (none-some target is)
form_is (Some (D.Copy to)) target is = absurd (none-some target is)

-- an Any is no value of a type of links
any_past : (rows : List Row) (s : Slot) (d : Data) (target : TypeNo) (below : ℕ → Slot → Value → Type 0) (room : ℕ) → form_of rows s ≡ Some (D.Link target) → ValueFits rows room below s (V.any d) → ⊥
any_past rows s d target below room is fits = absurd (subst (λ o. IsSomeAnd o (FormFits rows room below (V.any d))) is fits).1

any_fits : (rows : List Row) (s : Slot) (d : Data) (target : TypeNo) (room : ℕ) → form_of rows s ≡ Some (D.Link target) → FitsPast rows room zero s (V.any d) → ⊥
unfolding FitsPast
any_fits rows s d target zero is fits = any_past rows s d target (λ over t w. ⊥) zero is fits
any_fits rows s d target (suc room) is fits = any_past rows s d target (FitsPast rows room) (suc room) is fits

a_link : (rows : List Row) (s : Slot) (room : ℕ) (f : Value) (target : TypeNo) (cid : List ℕ) → Fits rows room s f → form_of rows s ≡ Some (D.Link target) → Some cid ≡ option_and_then C.link_of (itself f) → f ≡ V.link cid
a_link rows s room V.null target cid fits is told = absurd (none-some cid (sym told))
a_link rows s room (V.boolean b) target cid fits is told = absurd (none-some cid (sym told))
a_link rows s room (V.integer n) target cid fits is told = absurd (none-some cid (sym told))
a_link rows s room (V.text t) target cid fits is told = absurd (none-some cid (sym told))
a_link rows s room (V.bytes t) target cid fits is told = absurd (none-some cid (sym told))
a_link rows s room (V.link t) target cid fits is told = ap V.link (same_Some t cid (sym told))
a_link rows s room (V.list vs) target cid fits is told = absurd (none-some cid (sym told))
a_link rows s room (V.map ps) target cid fits is told = absurd (none-some cid (sym told))
a_link rows s room (V.struct os) target cid fits is told = absurd (none-some cid (sym told))
a_link rows s room (V.union n v) target cid fits is told = absurd (none-some cid (sym told))
a_link rows s room (V.enum n) target cid fits is told = absurd (none-some cid (sym told))
a_link rows s room V.unit target cid fits is told = absurd (none-some cid (sym told))
a_link rows s room (V.any d) target cid fits is told = absurd (any_fits rows s d target room is fits)
a_link rows s room (V.hamt d) target cid fits is told = absurd (none-some cid (sym told))

-- the link that a view shows, of a type of links
pub link_shown : (view : View) (f : Value) (target : TypeNo) (cid : List ℕ) → IsView view f → Some target ≡ target_of (form_of (table_of view) (slot_of view)) → Some cid ≡ option_and_then C.link_of (itself f)
    → link_in (table_of view) (slot_of view) f ≡ leads_to cid target
link_shown view f target cid x is told =
    let form = form_is (form_of (table_of view) (slot_of view)) target (sym is) in
    let same : f ≡ V.link cid = a_link (table_of view) (slot_of view) x.room f target cid x.front.fits form told in
    ap (link_in (table_of view) (slot_of view)) same ∙ ap (option_and_then (leads_to cid)) (sym is)

-- ---- the id

pub leads_there : (target : TypeNo) (cid id : List ℕ) → length id ≡ 32 → cid ≡ cid_of id → leads_to cid target ≡ Some (target, id)
leads_there target cid id long is =
    ap (λ c. leads_to c target) is ∙ ap (λ b. option_map {U = TypeNo × List ℕ} (λ i. (target, i)) (cond b (Some id) None)) (link-read id long)

pub leads_nowhere : (target : TypeNo) (cid : List ℕ) → ((id : List ℕ) → length id ≡ 32 → cid ≡ cid_of id → ⊥) → leads_to cid target ≡ None
leads_nowhere target cid none = by (links_block cid) refl where
  by : (b : Bool) → links_block cid ≡ b → option_map {U = TypeNo × List ℕ} (λ i. (target, i)) (cond (links_block cid) (Some (drop 4 cid)) None) ≡ None
  by false is = ap (λ b. option_map {U = TypeNo × List ℕ} (λ i. (target, i)) (cond b (Some (drop 4 cid)) None)) is
  by true is = let parts = block-link cid is in absurd (none (drop 4 cid) parts.1 parts.0)
